use Rattle.std.proofs.Common.{◌≡◌, ℕ, true, take}
use Rattle.vx_sched.specs.Places.{has_place}
use Rattle.vx_sched.proofs.places.insert_all.Given as goal

-- no place is gone, and those in front are there
abbrev pub invariant-loop-place : goal.invariant-loop-place
invariant-loop-place l = record {
  kept : (k : ℕ × ℕ) → has_place l.fn.later.keys k ≡ true → has_place l.later.keys k ≡ true;
  front : (k : ℕ × ℕ) → has_place (take l.place-index l.places) k ≡ true → has_place l.later.keys k ≡ true;
}
