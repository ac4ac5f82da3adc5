use Rattle.std.proofs.Common.{◌<◌, ◌≤◌, ◌∙◌, ap, sym, refl, cond, option_map, length, rules, arith}
use Rattle.std.specs.Prelude.{not}
use Rattle.std.specs.Ordering.{int_cmp}
use Rattle.std.specs.Cmp.{int_cmp_total}
use Rattle.vx_data.specs.Scalar.{number}
use Rattle.vx_rows.specs.Keys.{of_key}
use Rattle.vx_rows.specs.RowStats.{masked}
use Rattle.vx_rows.proofs.KeyLemmas.{lesser_key, greater_key, still_some}
use Rattle.vx_rows.proofs.ExtentLemmas.{gathered_step, gathered_summary, masked_long}
use Rattle.vx_rows.proofs.extents.extent_of_nullable.Goals as goal

pub loop-row-preserved : goal.loop-row-preserved
loop-row-preserved c =
    let long = masked_long c.args.present.now c.args.column.now.rows c.requires.long in
    let less : c.loop-row.row < length c.args.column.now.rows = search rules in
    let f = option_map (of_key c.args.ptype) in
    gathered_step int_cmp int_cmp_total (masked c.args.present.now c.args.column.now.rows) c.loop-row.row _ _ c.loop-row.nulls c.loop-row.invariant
    _ _ (f c.key_of_row-key.result) c.null_of-nulls.result (omega (arith, less, long)) c.key_of_row-key.ensures
    (ap f c.with_row-ends.ensures.least ∙ lesser_key c.args.ptype _ c.key_of_row-key.result)
    (ap f c.with_row-ends.ensures.greatest ∙ greater_key c.args.ptype _ c.key_of_row-key.result)
    (c.null_of-nulls.ensures ∙ ap (λ b. cond (not b) 1 0) (sym (still_some c.args.ptype c.key_of_row-key.result)))

pub returns : goal.returns
returns c =
    let long = masked_long c.args.present.now c.args.column.now.rows c.requires.long in
    let past : length c.args.column.now.rows ≤ c.loop-row.row = search rules in
    c.told_by_numbers.ensures
    ∙ gathered_summary int_cmp int_cmp_total (masked c.args.present.now c.args.column.now.rows) c.loop-row.row _ _ c.loop-row.nulls c.loop-row.invariant
    number _ _ (omega (arith, past, long)) refl refl
