use Rattle.std.proofs.Common.{◌≡◌, ◌++◌, ◌∷◌, [], ◌+◌, None, Some, drop, get_or, ap, sym, ◌∙◌, append_assoc}
use Rattle.vx_sched.specs.Places.{waiting_of}
use Rattle.vx_sched.proofs.EntriesLemmas.{waiting_in}
use Rattle.vx_sched.proofs.KeptLemmas.{of-none, of-some}
use Rattle.vx_sched.proofs.places.waiting_of.Goals as goal

pub loop-place-preserved-in_default : goal.loop-place-preserved-in_default
loop-place-preserved-in_default c =
    let found : waiting_in c.args.reads.now (get_or c.args.places.now c.loop-place.place-index (0, 0)).1 ≡ None =
    sym c.waiting.ensures ∙ c.in_default.is in
    ap (λ rest. c.loop-place.found.items ++ rest) (sym (of-none c.args.reads.now c.args.places.now c.loop-place.place-index c.loop-place-test.true found)) ∙ c.loop-place.invariant

pub loop-place-preserved : goal.loop-place-preserved
loop-place-preserved c =
    let found : waiting_in c.args.reads.now (get_or c.args.places.now c.loop-place.place-index (0, 0)).1 ≡ Some c.in-Some.request =
    sym c.waiting.ensures ∙ c.in-Some.is in
    let rest = waiting_of c.args.reads.now (drop (c.loop-place.place-index + 1) c.args.places.now) in
    ap (λ items. items ++ rest) c.in_ok-push.ensures.items ∙ append_assoc c.loop-place.found.items (c.in-Some.request ∷ []) rest
    ∙ ap (λ more. c.loop-place.found.items ++ more) (sym (of-some c.args.reads.now c.args.places.now c.loop-place.place-index c.in-Some.request c.loop-place-test.true found))
    ∙ c.loop-place.invariant
