use Rattle.std.proofs.Common.{◌<◌, ◌≤◌, length, rules, arith}
use Rattle.std.specs.Ordering.{bool_cmp}
use Rattle.std.specs.Cmp.{bool_cmp_total}
use Rattle.vx_data.specs.Scalar.{flag}
use Rattle.vx_rows.specs.RowStats.{masked}
use Rattle.vx_rows.proofs.ExtentLemmas.{gathered_step, gathered_summary, masked_long}
use Rattle.vx_rows.proofs.extents.extent_of_flags.Goals as goal

pub loop-row-preserved : goal.loop-row-preserved
loop-row-preserved c =
    let long = masked_long c.args.present.now c.args.column.now.rows c.requires in
    let less : c.loop-row.row < length c.args.column.now.rows = search rules in
    gathered_step bool_cmp bool_cmp_total (masked c.args.present.now c.args.column.now.rows) c.loop-row.row c.loop-row.min c.loop-row.max c.loop-row.nulls c.loop-row.invariant
    c.lesser_flag-min.result c.greater_flag-max.result c.flag_at-value.result c.null_of-nulls.result (omega (arith, less, long)) c.flag_at-value.ensures c.lesser_flag-min.ensures c.greater_flag-max.ensures c.null_of-nulls.ensures

pub returns : goal.returns
returns c =
    let long = masked_long c.args.present.now c.args.column.now.rows c.requires in
    let past : length c.args.column.now.rows ≤ c.loop-row.row = search rules in
    gathered_summary bool_cmp bool_cmp_total (masked c.args.present.now c.args.column.now.rows) c.loop-row.row c.loop-row.min c.loop-row.max c.loop-row.nulls c.loop-row.invariant
    flag _ _ (omega (arith, past, long)) c.as_flag.ensures c.as_flag-2.ensures
