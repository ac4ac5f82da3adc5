use Rattle.std.proofs.Common.{◌≡◌, false, true, cond, Some, None, option_map, ap, sym, ◌∙◌, arith}
use Rattle.std.proofs.lemmas.Grind.{common_steps}
use Rattle.vx_sched.specs.BitSet.{is_raised}
use Rattle.vx_sched.specs.Entries.{Entries, entry_at, if_waits}
use Rattle.vx_sched.specs.Stored.{Read}
use Rattle.vx_sched.proofs.ToldLemmas.{told-asks}
use Rattle.vx_sched.proofs.read_map.ReadMap.waiting.Goals as goal

pub returns-then-not-has : goal.returns-then-not-has
returns-then-not-has c =
    let idle : is_raised c.self.inside.waits c.args.id ≡ false = grind (arith, common_steps) in
    sym (told-asks c.self.inside.slots c.self.inside.waits c.self.inside.polls c.self.invariant c.args.id
    ∙ ap (λ b. cond b (option_map (λ (x : Read). x.request) (entry_at c.self.inside.slots c.args.id)) None) idle)
    ∙ ap (λ (es : Entries). if_waits (entry_at es c.args.id)) c.self.view_is

pub returns-in-Some : goal.returns-in-Some
returns-in-Some c =
    let here : is_raised c.self.inside.waits c.args.id ≡ true = grind (arith, common_steps) in
    let found : entry_at c.self.inside.slots c.args.id ≡ Some c.in-Some.read = grind (arith, common_steps) in
    ap Some c.request.ensures ∙ sym (told-asks c.self.inside.slots c.self.inside.waits c.self.inside.polls c.self.invariant c.args.id
    ∙ ap (λ b. cond b (option_map (λ (x : Read). x.request) (entry_at c.self.inside.slots c.args.id)) None) here
    ∙ ap (option_map (λ (x : Read). x.request)) found)
    ∙ ap (λ (es : Entries). if_waits (entry_at es c.args.id)) c.self.view_is
