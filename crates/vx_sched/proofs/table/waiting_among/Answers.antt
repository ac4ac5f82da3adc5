use Rattle.std.proofs.Common.{◌≡◌, ◌++◌, ◌∷◌, [], ◌+◌, None, Some, drop, get_or, ap, sym, ◌∙◌, append_assoc}
use Rattle.vx_sched.specs.Entries.{waiting_among}
use Rattle.vx_sched.proofs.EntriesLemmas.{waiting_in}
use Rattle.vx_sched.proofs.TableLemmas.{among-none, among-some}
use Rattle.vx_sched.proofs.table.waiting_among.Goals as goal

pub loop-id-preserved-in_default : goal.loop-id-preserved-in_default
loop-id-preserved-in_default c =
    let found : waiting_in c.args.reads.now (get_or c.args.ids.now c.loop-id.id-index 0) ≡ None =
    sym c.waiting.ensures ∙ c.in_default.is in
    ap (λ rest. c.loop-id.found.items ++ rest) (sym (among-none c.args.reads.now c.args.ids.now c.loop-id.id-index c.loop-id-test.true found)) ∙ c.loop-id.invariant

pub loop-id-preserved : goal.loop-id-preserved
loop-id-preserved c =
    let found : waiting_in c.args.reads.now (get_or c.args.ids.now c.loop-id.id-index 0) ≡ Some c.in-Some.request =
    sym c.waiting.ensures ∙ c.in-Some.is in
    let rest = waiting_among c.args.reads.now (drop (c.loop-id.id-index + 1) c.args.ids.now) in
    ap (λ items. items ++ rest) c.in_ok-push.ensures.items ∙ append_assoc c.loop-id.found.items (c.in-Some.request ∷ []) rest
    ∙ ap (λ more. c.loop-id.found.items ++ more) (sym (among-some c.args.reads.now c.args.ids.now c.loop-id.id-index c.in-Some.request c.loop-id-test.true found)) ∙ c.loop-id.invariant
