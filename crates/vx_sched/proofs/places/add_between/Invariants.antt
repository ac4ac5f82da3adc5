use Rattle.std.proofs.Common.{◌≡◌, ◌||◌, ◌≤◌, ℕ, true}
use Rattle.vx_sched.specs.Places.{has_place}
use Rattle.vx_sched.proofs.places.add_between.Given as goal

-- no place is gone, and each in the bounds is there or to come
abbrev pub invariant-loop-place : goal.invariant-loop-place
invariant-loop-place l = record {
  kept : (k : ℕ × ℕ) → has_place l.fn.near.items k ≡ true → has_place l.near.items k ≡ true;
  rest : (offset id : ℕ) → l.fn.left ≤ offset → offset ≤ l.fn.right → has_place l.fn.later.keys (offset, id) ≡ true
      → (has_place l.near.items (offset, id) || has_place l.place-iterator (offset, id)) ≡ true;
}
