use Rattle.std.proofs.Common.{ap, sym, ◌∙◌}
use Rattle.vx_sched.specs.Entries.{Entries, entry_at}
use Rattle.vx_sched.specs.Places.{if_waiting}
use Rattle.vx_sched.proofs.ToldLemmas.{told-waits}
use Rattle.vx_sched.proofs.read_map.ReadMap.is_waiting.Goals as goal

pub returns : goal.returns
returns c =
    c.has.ensures ∙ sym (told-waits c.self.inside.slots c.self.inside.waits c.self.inside.polls c.self.invariant c.args.id)
    ∙ ap (λ (es : Entries). if_waiting (entry_at es c.args.id)) c.self.view_is
