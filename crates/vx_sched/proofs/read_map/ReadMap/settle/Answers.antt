use Rattle.std.proofs.Common.{◌≡◌, ◌==◌, cond, false, true, ap, sym, ◌∙◌, arith}
use Rattle.std.proofs.lemmas.Bool.Decides.{nat_tests}
use Rattle.std.proofs.lemmas.Grind.{common_steps}
use Rattle.vx_sched.specs.BitSet.{is_raised}
use Rattle.vx_sched.specs.Entries.{Entries, entry_at, changed}
use Rattle.vx_sched.specs.Places.{if_waiting}
use Rattle.vx_sched.specs.Told.{told}
use Rattle.vx_sched.specs.declared.read.Change.TheVariants.{Settle}
use Rattle.vx_sched.proofs.ToldLemmas.{told-waits, told-idle-settle, told-settle, settle-told, left-none, left-by}
use Rattle.vx_sched.proofs.read_map.ReadMap.settle.Goals as goal

pub returns-then-not-has-clause-changed : goal.returns-then-not-has-clause-changed
returns-then-not-has-clause-changed c =
    let idle : is_raised c.self.inside.waits c.args.id ≡ false = grind (arith, common_steps) in
    sym c.self.view_is ∙ told-idle-settle c.self.inside.slots c.self.inside.waits c.self.inside.polls c.self.invariant c.args.id idle
    ∙ ap (λ (es : Entries). changed Settle es c.args.id) c.self.view_is

pub returns-then-not-has-clause-left : goal.returns-then-not-has-clause-left
returns-then-not-has-clause-left c =
    let idle : is_raised c.self.inside.waits c.args.id ≡ false = grind (arith, common_steps) in
    sym (left-none (entry_at c.args.self.now c.args.id) (entry_at c.args.self.now c.args.id)
    (ap (λ (es : Entries). if_waiting (entry_at es c.args.id)) (sym c.self.view_is)
    ∙ told-waits c.self.inside.slots c.self.inside.waits c.self.inside.polls c.self.invariant c.args.id ∙ idle))

pub returns-clause-changed : goal.returns-clause-changed
returns-clause-changed c =
    let here : is_raised c.self.inside.waits c.args.id ≡ true = grind (arith, common_steps) in
    told-settle c.self.inside.slots c.self.inside.waits c.self.inside.polls c.self.invariant c.args.id c.put.new.self c.put-2.new.self here
    c.put.ensures.bits c.put.ensures.kept c.put-2.ensures.bits c.put-2.ensures.kept
    ∙ ap (λ (es : Entries). changed Settle es c.args.id) c.self.view_is

pub returns-clause-left : goal.returns-clause-left
returns-clause-left c =
    let here : is_raised c.self.inside.waits c.args.id ≡ true = grind (arith, common_steps) in
    let same : (c.args.id == c.args.id) ≡ true = grind (arith, nat_tests) in
    sym (left-by (entry_at c.args.self.now c.args.id) (entry_at (told c.put.new.self c.put-2.new.self c.self.inside.slots) c.args.id) true false
    (ap (λ (es : Entries). if_waiting (entry_at es c.args.id)) (sym c.self.view_is)
    ∙ told-waits c.self.inside.slots c.self.inside.waits c.self.inside.polls c.self.invariant c.args.id ∙ here)
    (told-waits c.self.inside.slots c.put.new.self c.put-2.new.self
    (settle-told c.self.inside.slots c.self.inside.waits c.self.inside.polls c.self.invariant c.args.id c.put.new.self c.put-2.new.self here
    c.put.ensures.bits c.put.ensures.kept c.put-2.ensures.bits c.put-2.ensures.kept) c.args.id
    ∙ c.put.ensures.bits c.args.id ∙ ap (λ b. cond b false (is_raised c.self.inside.waits c.args.id)) same))
