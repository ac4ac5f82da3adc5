use Rattle.std.proofs.Common.{◌≡◌, ℕ, drop, false, Some}
use Rattle.std.specs.List.{AllByRecursion}
use Rattle.vx_sched.specs.Merging.{is_listed}
use Rattle.vx_sched.specs.Picks.{IsPicked, PickedMore, IsLookedAt}
use Rattle.vx_sched.specs.Reads.{waiting_at}
use Rattle.vx_sched.proofs.gather.look_between.Given as goal

abbrev pub invariant-loop-read : goal.invariant-loop-read
invariant-loop-read l = IsPicked l.rules l.table l.before l.picks × PickedMore l.initial.picks l.picks
    × ((q : ℕ) → is_listed (drop l.read-index l.read-items) q ≡ false → IsLookedAt l.rules l.table l.before l.bounds.left l.from l.bounds.right l.picks q)
    × AllByRecursion (λ r. waiting_at l.table r.id ≡ Some r) (drop l.read-index l.read-items)
