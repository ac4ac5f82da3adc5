use Rattle.std.proofs.Common.{◌≡◌, ℕ, ◌==◌, ◌||◌, Bool, true, false, refl, ap, sym, ◌∙◌}
use Rattle.std.proofs.lemmas.List.Sorted.{list_any-IsPermutation, IsNonDecreasingBy-from_sort}
use Rattle.std.specs.List.{list_any}
use Rattle.vx_sched.proofs.PickLemmas.{none-left}
use Rattle.vx_sched.proofs.taken.sorted_numbers.Goals as goal

or-false : (b : Bool) → (b || false) ≡ b
or-false true = refl
or-false false = refl

pub returns-clause-rise : goal.returns-clause-rise
returns-clause-rise c = IsNonDecreasingBy-from_sort (λ (n : ℕ). n) c.sort_unstable.new.self.items c.sort_unstable.ensures.sorted

pub returns-clause-all : goal.returns-clause-all
returns-clause-all c q =
    let numbers = c.loop-read.numbers.items in
    sym (list_any-IsPermutation (λ n. n == q) numbers c.sort_unstable.new.self.items c.sort_unstable.ensures.permutation)
    ∙ sym (or-false (list_any (λ n. n == q) numbers))
    ∙ ap (λ b. list_any (λ n. n == q) numbers || b) (sym (none-left c.args.reads.now c.loop-read.read-index q c.loop-read-test.false))
    ∙ c.loop-read.invariant q
