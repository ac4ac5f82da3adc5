use Rattle.std.proofs.Common.{◌≡◌, ◌||◌, ℕ, true}
use Rattle.vx_sched.specs.Picks.{is_among}
use Rattle.vx_sched.specs.Sieve.{may_hold, HoldsOn}
use Rattle.vx_sched.proofs.taken.mark_tree.Given as goal

-- each number is marked or to come
abbrev pub invariant-loop-number : goal.invariant-loop-number
invariant-loop-number l = record {
  kept : HoldsOn l.fn.sieve l.sieve;
  rest : (q : ℕ) → is_among l.numbers.keys q ≡ true → (may_hold l.sieve q || is_among l.number-iterator q) ≡ true;
}
