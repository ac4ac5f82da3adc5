use Rattle.std.proofs.Common.{ap, sym, ◌∙◌}
use Rattle.std.proofs.lemmas.List.Sorted.{list_any-IsPermutation, IsNonDecreasingBy-from_sort}
use Rattle.std.specs.BTreeMap.{is_at}
use Rattle.vx_sched.specs.Places.{place_cmp, offset_of, has_place}
use Rattle.vx_sched.proofs.PlaceLemmas.{offsets-sorted}
use Rattle.vx_sched.proofs.places.sort.Goals as goal

pub returns-in-Ok-clause-same : goal.returns-in-Ok-clause-same
returns-in-Ok-clause-same c k = sym (list_any-IsPermutation (is_at (place_cmp k)) c.args.places.now.items c.sort.new.self.items c.sort.ensures.permutation)

pub returns-in-Ok-clause-rise : goal.returns-in-Ok-clause-rise
returns-in-Ok-clause-rise c = IsNonDecreasingBy-from_sort offset_of c.sort.new.self.items (offsets-sorted c.sort.new.self.items c.in-Ok.ensures.sorted)

pub returns-in-Err-clause-same : goal.returns-in-Err-clause-same
returns-in-Err-clause-same c k =
    sym (list_any-IsPermutation (is_at (place_cmp k)) c.sort.new.self.items c.sort_unstable.new.self.items c.sort_unstable.ensures.permutation)
    ∙ ap (λ xs. has_place xs k) c.in-Err.ensures.err

pub returns-in-Err-clause-rise : goal.returns-in-Err-clause-rise
returns-in-Err-clause-rise c = IsNonDecreasingBy-from_sort offset_of c.sort_unstable.new.self.items (offsets-sorted c.sort_unstable.new.self.items c.sort_unstable.ensures.sorted)
