use Rattle.std.proofs.Common.{ℕ, ◌==◌, ap, sym, ◌∙◌}
use Rattle.std.proofs.lemmas.List.Sorted.{list_any-IsPermutation, IsNonDecreasingBy-from_sort}
use Rattle.vx_sched.specs.Picks.{is_among}
use Rattle.vx_sched.proofs.taken.sort.Goals as goal

pub returns-in-Ok-clause-same : goal.returns-in-Ok-clause-same
returns-in-Ok-clause-same c q = sym (list_any-IsPermutation (λ n. n == q) c.args.numbers.now.items c.sort.new.self.items c.sort.ensures.permutation)

pub returns-in-Ok-clause-rise : goal.returns-in-Ok-clause-rise
returns-in-Ok-clause-rise c = IsNonDecreasingBy-from_sort (λ (n : ℕ). n) c.sort.new.self.items c.in-Ok.ensures.sorted

pub returns-in-Err-clause-same : goal.returns-in-Err-clause-same
returns-in-Err-clause-same c q =
    sym (list_any-IsPermutation (λ n. n == q) c.sort.new.self.items c.sort_unstable.new.self.items c.sort_unstable.ensures.permutation)
    ∙ ap (λ xs. is_among xs q) c.in-Err.ensures.err

pub returns-in-Err-clause-rise : goal.returns-in-Err-clause-rise
returns-in-Err-clause-rise c = IsNonDecreasingBy-from_sort (λ (n : ℕ). n) c.sort_unstable.new.self.items c.sort_unstable.ensures.sorted
