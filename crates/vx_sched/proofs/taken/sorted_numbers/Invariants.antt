use Rattle.std.proofs.Common.{◌≡◌, ℕ, ◌==◌, ◌||◌, drop}
use Rattle.std.specs.List.{list_any}
use Rattle.vx_sched.specs.Merging.{is_listed}
use Rattle.vx_sched.proofs.taken.sorted_numbers.Given as goal

abbrev pub invariant-loop-read : goal.invariant-loop-read
invariant-loop-read l = (q : ℕ) → (list_any (λ n. n == q) l.numbers.items || is_listed (drop l.read-index l.reads) q) ≡ is_listed l.reads q
