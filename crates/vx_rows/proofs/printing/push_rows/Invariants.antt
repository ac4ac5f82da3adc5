use Rattle.std.proofs.Common.{◌≡◌, ◌++◌, ◌-◌}
use Rattle.std.specs.Prelude.{string_bytes}
use Rattle.vx_rows.specs.Rows.{rows_len, column_view}
use Rattle.vx_rows.specs.ValueTexts.{lines_from, lines_text}
use Rattle.vx_rows.proofs.printing.push_rows.Given as goal

-- the rows so far and those still to come
abbrev pub invariant-loop-row : goal.invariant-loop-row
invariant-loop-row l =
    string_bytes l.text ++ lines_from (column_view l.column) l.row (rows_len (column_view l.column) - l.row) ≡ string_bytes l.fn.text ++ lines_text (column_view l.column)
