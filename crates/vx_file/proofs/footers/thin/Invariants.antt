use Rattle.std.proofs.Common.{◌≡◌}
use Rattle.vx_file.specs.KeptFooters.{total_weight, fitting}
use Rattle.vx_file.specs.declared.footers.TheConstants.{MOST_WEIGHT}
use Rattle.vx_file.proofs.footers.thin.Given as goal

abbrev pub decreases-loop-left : goal.decreases-loop-left
decreases-loop-left l = l.left

abbrev pub invariant-loop-left : goal.invariant-loop-left
invariant-loop-left l = (l.left ≡ total_weight l.kept) × (fitting MOST_WEIGHT l.kept ≡ fitting MOST_WEIGHT l.fn.kept)
