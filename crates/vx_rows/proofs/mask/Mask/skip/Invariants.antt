use Rattle.std.proofs.Common.{◌≤◌, ◌-◌, length}
use Rattle.vx_rows.proofs.MaskLemmas.{AreValues}
use Rattle.vx_rows.proofs.mask.Mask.skip.Given as goal

-- the rows that were passed
abbrev pub invariant-loop-at : goal.invariant-loop-at
invariant-loop-at l = (l.from ≤ l.at) × (l.at ≤ length l.self) × AreValues l.self l.value l.from l.at

abbrev pub decreases-loop-at : goal.decreases-loop-at
decreases-loop-at l = length l.self - l.at
