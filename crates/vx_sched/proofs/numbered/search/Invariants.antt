use Rattle.std.proofs.Common.{◌≡◌, ℕ, ◌-◌, ◌<◌, ◌≤◌, Some, length}
use Rattle.std.specs.Prelude.{slice_get}
use Rattle.vx_sched.specs.declared.numbered.Slot.{Slot}
use Rattle.vx_sched.proofs.numbered.search.Given as goal

abbrev pub invariant-loop-low : goal.invariant-loop-low
invariant-loop-low g l = (l.low ≤ l.high) × (l.high ≤ length l.slots)
    × ((i : ℕ) (x : Slot g.row.V.Denot) → slice_get l.slots i ≡ Some x → i < l.low → x.number < l.number)
    × ((i : ℕ) (x : Slot g.row.V.Denot) → slice_get l.slots i ≡ Some x → l.high ≤ i → l.number ≤ x.number)

abbrev pub decreases-loop-low : goal.decreases-loop-low
decreases-loop-low g l = l.high - l.low
