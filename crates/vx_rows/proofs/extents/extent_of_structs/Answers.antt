use Rattle.std.proofs.Common.{◌<◌, ◌≤◌, ◌∙◌, ap, cond, None, ℕ, map, length, rules, arith}
use Rattle.vx_rows.specs.RowStats.{masked, there}
use Rattle.vx_rows.proofs.MakingLemmas.{map_long}
use Rattle.vx_rows.proofs.ExtentLemmas.{nulls_step, nulls_done, masked_long}
use Rattle.vx_rows.proofs.extents.extent_of_structs.Goals as goal

pub loop-row-preserved : goal.loop-row-preserved
loop-row-preserved c =
    let size = map_long there c.args.rows.now.present in
    let long = masked_long c.args.present.now (map there c.args.rows.now.present) (omega (arith, c.requires, size)) in
    let less : c.loop-row.row < length c.args.rows.now.present = search rules in
    nulls_step (masked c.args.present.now (map there c.args.rows.now.present)) c.loop-row.row c.loop-row.nulls c.one_if-nulls.result (omega (arith, less, long, size))
    (c.one_if-nulls.ensures ∙ ap (λ b. cond b 1 0) c.is_null_at.ensures) c.loop-row.invariant

pub returns : goal.returns
returns c =
    let size = map_long there c.args.rows.now.present in
    let long = masked_long c.args.present.now (map there c.args.rows.now.present) (omega (arith, c.requires, size)) in
    let past : length c.args.rows.now.present ≤ c.loop-row.row = search rules in
    let done = nulls_done (masked c.args.present.now (map there c.args.rows.now.present)) c.loop-row.row c.loop-row.nulls (omega (arith, past, long, size)) c.loop-row.invariant in
    ap (λ (k : ℕ). record { min = None; max = None; nulls = k }) done
