use Rattle.std.proofs.Common.{◌≡◌, ℕ, ◌==◌, ◌||◌}
use Rattle.std.specs.BTreeSet.{contains}
use Rattle.std.specs.List.{list_any}
use Rattle.std.specs.Ordering.{nat_cmp}
use Rattle.vx_sched.specs.Merging.{is_listed}
use Rattle.vx_sched.proofs.taken.add_numbers.Given as goal

abbrev pub invariant-loop-number : goal.invariant-loop-number
invariant-loop-number l = (q : ℕ) → (contains nat_cmp l.numbers q || list_any (λ n. n == q) l.number-iterator.rest.items) ≡ (contains nat_cmp l.initial.numbers q || is_listed l.reads q)
