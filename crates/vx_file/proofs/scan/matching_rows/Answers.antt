use Rattle.std.proofs.Common.{length, ap, ◌∙◌}
use Rattle.vx_rows.specs.Bounds.{bound_view}
use Rattle.vx_rows.specs.Rows.{column_view, rows_len}
use Rattle.vx_rows.specs.Truth.{is_satisfied}
use Rattle.vx_rows.proofs.SpanLemmas.{length_span}
use Rattle.vx_file.proofs.scan.matching_rows.Goals as goal

pub keep-requires-clause-long : goal.keep-requires-clause-long
keep-requires-clause-long c =
    let b = bound_view c.in-Some.filter in
    ap length c.in_ok-mask-in-Some.ensures ∙ length_span (is_satisfied b.0 b.1 (column_view c.args.column)) 0 (rows_len (column_view c.args.column))
