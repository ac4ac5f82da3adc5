use Rattle.std.proofs.Common.{ap, sym, ◌∙◌}
use Rattle.vx_sched.specs.Entries.{Entries, entry_at}
use Rattle.vx_sched.specs.Told.{polls_in}
use Rattle.vx_sched.proofs.ToldLemmas.{told-polls, along-some, along-none}
use Rattle.vx_sched.proofs.read_map.ReadMap.next_polled.Goals as goal

pub returns-clause-polled : goal.returns-clause-polled
returns-clause-polled c =
    along-some c.next.result (λ n h. sym (ap (λ (es : Entries). polls_in (entry_at es n)) c.self.view_is)
    ∙ told-polls c.self.inside.slots c.self.inside.waits c.self.inside.polls c.self.invariant n ∙ h) c.next.ensures.raised

pub returns-clause-least : goal.returns-clause-least
returns-clause-least c =
    along-some c.next.result (λ n h q f l. sym (ap (λ (es : Entries). polls_in (entry_at es q)) c.self.view_is)
    ∙ told-polls c.self.inside.slots c.self.inside.waits c.self.inside.polls c.self.invariant q ∙ h q f l) c.next.ensures.least

pub returns-clause-none : goal.returns-clause-none
returns-clause-none c =
    along-none c.next.result (λ h q f. sym (ap (λ (es : Entries). polls_in (entry_at es q)) c.self.view_is)
    ∙ told-polls c.self.inside.slots c.self.inside.waits c.self.inside.polls c.self.invariant q ∙ h q f) c.next.ensures.none
