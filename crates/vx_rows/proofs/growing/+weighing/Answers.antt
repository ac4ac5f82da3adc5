use Rattle.std.proofs.Common.{◌≤◌, length, arith}
use Rattle.vx_rows.proofs.SizeLemmas.{capped}
use Rattle.vx_rows.proofs.FieldGrowLemmas.{past_builder_size}
use Rattle.vx_rows.proofs.growing.+weighing.Goals as goal

pub size_of_all-returns : goal.size_of_all-returns
size_of_all-returns t c =
    let past : length c.args.builders.now ≤ c.loop-at.at = omega arith in
    capped c.loop-at.size _ _ c.loop-at.invariant.0 (past_builder_size c.args.builders.now c.loop-at.at c.args.from c.args.to past) c.loop-at.invariant.1
