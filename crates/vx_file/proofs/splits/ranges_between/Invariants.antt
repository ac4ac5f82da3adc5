use Rattle.std.proofs.Common.{◌≡◌, ◌-◌, ◌++◌, drop, map}
use Rattle.vx_file.specs.Splits.{neighbours}
use Rattle.vx_file.proofs.splits.ranges_between.Given as goal

-- the ranges in front
abbrev pub invariant-loop-at : goal.invariant-loop-at
invariant-loop-at l = map (λ r. (r.start, r.end)) l.ranges.items ++ neighbours (drop (l.at - 1) l.points) ≡ neighbours l.points
