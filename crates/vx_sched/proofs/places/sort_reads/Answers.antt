use Rattle.std.proofs.Common.{subst, rules}
use Rattle.std.proofs.lemmas.Fn.{always_returns_same}
use Rattle.std.proofs.lemmas.List.Sorted.{IsNonDecreasingBy-from_sort}
use Rattle.std.specs.List.Sorted.{IsPermutation}
use Rattle.vx_sched.specs.Places.{read_offset}
use Rattle.vx_sched.specs.declared.request.ReadRequest.{ReadRequest}
use Rattle.vx_sched.proofs.NearLemmas.{reads-sorted}
use Rattle.vx_sched.proofs.places.sort_reads.Goals as goal

pub returns-in-Ok-clause-rise : goal.returns-in-Ok-clause-rise
returns-in-Ok-clause-rise c =
    IsNonDecreasingBy-from_sort read_offset c.sort_by_key.new.self.items (reads-sorted c.sort_by_key.new.self.items
    (c.in-Ok.ensures.sorted (λ (r : ReadRequest). (r.offset, r.id)) (always_returns_same _ _ _ (λ a r q k. search rules))))

pub returns-in-Err-clause-same : goal.returns-in-Err-clause-same
returns-in-Err-clause-same c =
    subst (λ xs. IsPermutation xs c.sort_unstable_by_key.new.self.items) c.in-Err.ensures.err c.sort_unstable_by_key.ensures.permutation

pub returns-in-Err-clause-rise : goal.returns-in-Err-clause-rise
returns-in-Err-clause-rise c =
    IsNonDecreasingBy-from_sort read_offset c.sort_unstable_by_key.new.self.items (reads-sorted c.sort_unstable_by_key.new.self.items
    (c.sort_unstable_by_key.ensures.sorted (λ (r : ReadRequest). (r.offset, r.id)) (always_returns_same _ _ _ (λ a r q k. search rules))))
