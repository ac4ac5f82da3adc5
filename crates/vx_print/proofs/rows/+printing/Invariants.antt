use Rattle.std.proofs.Common.{◌*◌, ◌+◌, true, drop}
use Rattle.vx_base.specs.Streams.{SinkState}
use Rattle.vx_rows.specs.Rows.{column_view, pairs_view, dtype_of, types_of}
use Rattle.vx_rows.specs.Trees.{type_size, fields_size}
use Rattle.vx_rows.specs.ValueTexts.{fields_text}
use Rattle.vx_text.specs.Text.{TextState, Adds}
use Rattle.vx_print.proofs.rows.+printing.Given as goal

abbrev pub decreases-put_value : goal.decreases-put_value
decreases-put_value g l = 4 * type_size (dtype_of (column_view l.column.now))

abbrev pub decreases-put_all : goal.decreases-put_all
decreases-put_all g l = 4 * fields_size (types_of (pairs_view l.columns.now)) + 1

abbrev pub decreases-put_struct : goal.decreases-put_struct
decreases-put_struct g l = 4 * fields_size (types_of (pairs_view l.columns.now)) + 2

abbrev pub decreases-put_inner : goal.decreases-put_inner
decreases-put_inner g l = 4 * fields_size (types_of (pairs_view l.columns.now)) + 3

-- what is left is all that is to be added
abbrev pub invariant-put_all-loop-column : goal.invariant-put_all-loop-column
invariant-put_all-loop-column g l = (text : TextState) (out : SinkState) → Adds (fields_text l.is_first (pairs_view (drop l.column-index l.columns)) l.row) l.text (g.S.Sink.state l.out) text out
    → Adds (fields_text true (pairs_view l.columns) l.row) l.fn.text (g.S.Sink.state l.fn.out) text out
