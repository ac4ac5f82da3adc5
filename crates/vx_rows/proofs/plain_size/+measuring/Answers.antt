use Rattle.std.proofs.Common.{◌≤◌, length, arith}
use Rattle.vx_rows.proofs.SizeLemmas.{capped}
use Rattle.vx_rows.proofs.PartLemmas.{past_size}
use Rattle.vx_rows.proofs.plain_size.+measuring.Goals as goal

pub size_of_all-returns : goal.size_of_all-returns
size_of_all-returns t c =
    let past : length c.args.columns.now ≤ c.loop-at.at = omega arith in
    capped c.loop-at.size _ _ c.loop-at.invariant.0 (past_size c.args.columns.now c.loop-at.at past) c.loop-at.invariant.1
