use Rattle.std.proofs.Common.{sym, ◌∙◌, ap, option_map}
use Rattle.vx_sched.specs.Entries.{state_of}
use Rattle.vx_sched.proofs.SeenLemmas.{stands-kept, state-seen}
use Rattle.vx_sched.specs.Stored.{Read}
use Rattle.vx_sched.proofs.table.Table.state.Goals as goal

pub returns : goal.returns
returns c =
    let stands = stands-kept c.self.inside.reads c.self.inside.places c.self.inside.longest c.self.invariant.kept in
    rw (← c.self.view_is) (c.if_state.ensures ∙ ap (option_map (λ (x : Read). state_of x.stage)) c.get-found.ensures ∙ sym (state-seen c.self.inside.reads c.args.id stands.keyed))
