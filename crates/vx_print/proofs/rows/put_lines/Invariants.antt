use Rattle.std.proofs.Common.{◌-◌}
use Rattle.vx_base.specs.Streams.{SinkState}
use Rattle.vx_rows.specs.Rows.{column_view, rows_len}
use Rattle.vx_rows.specs.ValueTexts.{lines_from, lines_text}
use Rattle.vx_text.specs.Text.{TextState, Adds}
use Rattle.vx_print.proofs.rows.put_lines.Given as goal

-- the rows that are left are all that is to be added
abbrev pub invariant-loop-row : goal.invariant-loop-row
invariant-loop-row g l = (text : TextState) (out : SinkState)
    → Adds (lines_from (column_view l.column) l.row (rows_len (column_view l.column) - l.row)) l.text (g.S.Sink.state l.out) text out
    → Adds (lines_text (column_view l.column)) l.fn.text (g.S.Sink.state l.fn.out) text out
