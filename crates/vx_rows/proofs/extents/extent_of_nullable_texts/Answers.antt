use Rattle.std.proofs.Common.{◌<◌, ◌≤◌, ◌∙◌, length, refl, rules, arith}
use Rattle.std.specs.Cmp.Lexicographic.{nat_list_cmp_total}
use Rattle.vx_rows.specs.RowStats.{masked, text_cmp}
use Rattle.vx_data.specs.Scalar.{words}
use Rattle.vx_rows.proofs.ExtentLemmas.{gathered_step, gathered_summary, masked_long}
use Rattle.vx_rows.proofs.extents.extent_of_nullable_texts.Goals as goal

pub loop-row-preserved : goal.loop-row-preserved
loop-row-preserved c =
    let long = masked_long c.args.present.now c.args.column.now.rows c.requires in
    let less : c.loop-row.row < length c.args.column.now.rows = search rules in
    gathered_step text_cmp nat_list_cmp_total (masked c.args.present.now c.args.column.now.rows) c.loop-row.row _ _ c.loop-row.nulls c.loop-row.invariant
    _ _ _ c.null_of.result (omega (arith, less, long)) c.text_at-value.ensures c.with_text-ends.ensures.least c.with_text-ends.ensures.greatest (search rules)

pub returns : goal.returns
returns c =
    let long = masked_long c.args.present.now c.args.column.now.rows c.requires in
    let past : length c.args.column.now.rows ≤ c.loop-row.row = search rules in
    c.in_ok-told_by_texts.ensures
    ∙ gathered_summary text_cmp nat_list_cmp_total (masked c.args.present.now c.args.column.now.rows) c.loop-row.row _ _ c.loop-row.nulls c.loop-row.invariant
    words _ _ (omega (arith, past, long)) refl refl
