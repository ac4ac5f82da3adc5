use Rattle.std.proofs.Common.{◌<◌, ◌∙◌, arith}
use Rattle.std.specs.Prelude.{string_bytes}
use Rattle.vx_rows.specs.Rows.{rows_len, column_view}
use Rattle.vx_rows.proofs.PrintedLemmas.{line_more}
use Rattle.vx_rows.proofs.printing.push_rows.Goals as goal

pub loop-row-preserved : goal.loop-row-preserved
loop-row-preserved c =
    let less : c.loop-row.row < rows_len (column_view c.args.column.now) = omega (arith, c.loop-row-test.true, c.len-row-end.ensures) in
    line_more (column_view c.args.column.now) c.loop-row.row (rows_len (column_view c.args.column.now)) (string_bytes c.loop-row.text) (string_bytes c.push_value.new.text)
    (string_bytes c.push_str.new.self) less c.in_ok-push_value.ensures c.in_ok-push_str.ensures.bytes ∙ c.loop-row.invariant
