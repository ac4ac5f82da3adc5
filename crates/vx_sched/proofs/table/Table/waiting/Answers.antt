use Rattle.std.proofs.Common.{sym, ◌∙◌}
use Rattle.vx_sched.proofs.SeenLemmas.{stands-kept, waiting-seen, waiting-fits}
use Rattle.vx_sched.proofs.table.Table.waiting.Goals as goal

pub returns-clause-value : goal.returns-clause-value
returns-clause-value c =
    let stands = stands-kept c.self.inside.reads c.self.inside.places c.self.inside.longest c.self.invariant.kept in
    rw (← c.self.view_is) (c.waiting.ensures ∙ sym (waiting-seen c.self.inside.reads c.args.id stands.keyed))

pub returns-clause-keyed : goal.returns-clause-keyed
returns-clause-keyed c =
    rw c.waiting.ensures (waiting-fits c.self.inside.reads c.self.inside.places c.self.inside.longest c.args.id c.self.invariant.kept)
