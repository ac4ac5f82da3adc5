use Rattle.std.proofs.Common.{◌∙◌, sym}
use Rattle.vx_sched.specs.declared.counts.Kind.TheVariants.{IsRegistered, IsPolled, IsFlying, IsResolved}
use Rattle.vx_sched.specs.declared.read.ReadState.TheVariants as state
use Rattle.vx_sched.proofs.SeenLemmas.{stands-kept, counts-are, count-seen, counts-registered, counts-polled, counts-flying, counts-resolved, ranges-seen}
use Rattle.vx_sched.proofs.table.Table.counts.Goals as goal

pub returns : goal.returns
returns c =
    let stands = stands-kept c.self.inside.reads c.self.inside.places c.self.inside.longest c.self.invariant.kept in
    rw (← c.self.view_is) (counts-are c.count.result c.count-2.result c.count-3.result c.count-4.result c.count-5.result _ _ _ _ _
    (c.count.ensures ∙ sym (count-seen IsRegistered state.Registered c.self.inside.reads counts-registered))
    (c.count-2.ensures ∙ sym (count-seen IsPolled state.Polled c.self.inside.reads counts-polled))
    (c.count-3.ensures ∙ sym (count-seen IsFlying state.InFlight c.self.inside.reads counts-flying))
    (c.count-4.ensures ∙ sym (count-seen IsResolved state.Resolved c.self.inside.reads counts-resolved))
    (c.count-5.ensures ∙ sym (ranges-seen c.self.inside.reads stands)))
