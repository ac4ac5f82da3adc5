use Rattle.std.proofs.Common.{◌≡◌, ◌+◌, ◌-◌, ◌^◌, ◌≤◌, min, true}
use Rattle.vx_sched.specs.Picks.{reads_of}
use Rattle.vx_sched.specs.Merging.{is_listed}
use Rattle.vx_sched.specs.Picks.{IsPicked, AreLookedAt}
use Rattle.vx_sched.proofs.gather.gather.Given as goal

abbrev pub invariant-loop-seen : goal.invariant-loop-seen
invariant-loop-seen l = IsPicked l.rules l.table l.before l.picks × (is_listed (reads_of l.picks) l.fn.first.id ≡ true)
    × AreLookedAt l.rules l.table l.before l.seen.left 0 l.seen.right l.picks
    × (l.picks.low - l.rules.distance ≤ l.seen.left) × (l.seen.left ≤ l.seen.right)
    × (l.seen.right ≤ min (l.picks.high + l.rules.distance) (2 ^ 64 - 1))

-- how many offsets are out of the bounds that were looked at
abbrev pub decreases-loop-seen : goal.decreases-loop-seen
decreases-loop-seen l = l.seen.left + (2 ^ 64 - 1 - l.seen.right)
