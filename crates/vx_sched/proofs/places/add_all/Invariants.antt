use Rattle.std.proofs.Common.{◌≡◌, ◌||◌, ℕ, true}
use Rattle.vx_sched.specs.Places.{has_place}
use Rattle.vx_sched.proofs.places.add_all.Given as goal

-- no place is gone, and each of the tree is there or to come
abbrev pub invariant-loop-place : goal.invariant-loop-place
invariant-loop-place l = record {
  kept : (k : ℕ × ℕ) → has_place l.fn.places.items k ≡ true → has_place l.places.items k ≡ true;
  rest : (k : ℕ × ℕ) → has_place l.fn.later.keys k ≡ true → (has_place l.places.items k || has_place l.place-iterator k) ≡ true;
}
