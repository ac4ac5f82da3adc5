use Rattle.std.proofs.Common.{◌≡◌, false, true, ap, sym, ◌∙◌, arith}
use Rattle.std.proofs.lemmas.Grind.{common_steps}
use Rattle.vx_sched.specs.BitSet.{is_raised}
use Rattle.vx_sched.specs.Entries.{Entries, entry_at, changed}
use Rattle.vx_sched.specs.Places.{if_waiting}
use Rattle.vx_sched.specs.Told.{told}
use Rattle.vx_sched.specs.declared.read.Change.TheVariants.{Poll}
use Rattle.vx_sched.proofs.ToldLemmas.{told-waits, told-idle-poll, told-poll, poll-told, left-none, left-by}
use Rattle.vx_sched.proofs.read_map.ReadMap.poll.Goals as goal

pub returns-then-not-has-clause-changed : goal.returns-then-not-has-clause-changed
returns-then-not-has-clause-changed c =
    let idle : is_raised c.self.inside.waits c.args.id ≡ false = grind (arith, common_steps) in
    sym c.self.view_is ∙ told-idle-poll c.self.inside.slots c.self.inside.waits c.self.inside.polls c.self.invariant c.args.id idle
    ∙ ap (λ (es : Entries). changed Poll es c.args.id) c.self.view_is

pub returns-then-not-has-clause-stays : goal.returns-then-not-has-clause-stays
returns-then-not-has-clause-stays c =
    let idle : is_raised c.self.inside.waits c.args.id ≡ false = grind (arith, common_steps) in
    left-none (entry_at c.args.self.now c.args.id) (entry_at c.args.self.now c.args.id)
    (ap (λ (es : Entries). if_waiting (entry_at es c.args.id)) (sym c.self.view_is)
    ∙ told-waits c.self.inside.slots c.self.inside.waits c.self.inside.polls c.self.invariant c.args.id ∙ idle)

pub returns-clause-changed : goal.returns-clause-changed
returns-clause-changed c =
    told-poll c.self.inside.slots c.self.inside.waits c.self.inside.polls c.self.invariant c.args.id c.put.new.self (grind (arith, common_steps)) c.put.ensures.bits c.put.ensures.kept
    ∙ ap (λ (es : Entries). changed Poll es c.args.id) c.self.view_is

pub returns-clause-stays : goal.returns-clause-stays
returns-clause-stays c =
    let here : is_raised c.self.inside.waits c.args.id ≡ true = grind (arith, common_steps) in
    left-by (entry_at c.args.self.now c.args.id) (entry_at (told c.self.inside.waits c.put.new.self c.self.inside.slots) c.args.id) true true
    (ap (λ (es : Entries). if_waiting (entry_at es c.args.id)) (sym c.self.view_is)
    ∙ told-waits c.self.inside.slots c.self.inside.waits c.self.inside.polls c.self.invariant c.args.id ∙ here)
    (told-waits c.self.inside.slots c.self.inside.waits c.put.new.self
    (poll-told c.self.inside.slots c.self.inside.waits c.self.inside.polls c.self.invariant c.args.id c.put.new.self here c.put.ensures.bits c.put.ensures.kept) c.args.id ∙ here)
