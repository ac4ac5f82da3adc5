use Rattle.std.proofs.Common.{◌≡◌, ◌||◌, ℕ, true, drop}
use Rattle.vx_sched.specs.Merging.{is_listed}
use Rattle.vx_sched.specs.Sieve.{may_hold, HoldsOn}
use Rattle.vx_sched.proofs.taken.mark_reads.Given as goal

-- each number is marked or to come
abbrev pub invariant-loop-read : goal.invariant-loop-read
invariant-loop-read l = record {
  kept : HoldsOn l.fn.sieve l.sieve;
  rest : (q : ℕ) → is_listed l.reads q ≡ true → (may_hold l.sieve q || is_listed (drop l.read-index l.reads) q) ≡ true;
}
