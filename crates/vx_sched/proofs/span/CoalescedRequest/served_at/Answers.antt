use Rattle.vx_sched.proofs.SpanLemmas.{within-at}
use Rattle.vx_sched.proofs.span.CoalescedRequest.served_at.Goals as goal

pub returns-clause-within : goal.returns-clause-within
returns-clause-within c =
    let listed = rw (← c.self.view_is) at c.requires in
    let within = within-at c.self.inside.from c.self.inside.upto c.self.inside.served.items c.args.index c.index.result.now c.self.invariant.1 listed in
    rw (← c.self.view_is, c.index.ensures) within
