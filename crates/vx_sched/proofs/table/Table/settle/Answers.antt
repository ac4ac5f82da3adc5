use Rattle.vx_sched.proofs.SeenLemmas.{stands-kept, waits-seen}
use Rattle.vx_sched.proofs.SettleLemmas.{settle-view, settle-grouped}
use Rattle.vx_sched.proofs.table.Table.settle.Goals as goal

pub invariant_of-self : goal.invariant_of-self
invariant_of-self c =
    let kept = c.change_entries.ensures.kept c.self.inside.longest c.self.invariant.kept in
    let stands = stands-kept c.self.inside.reads c.self.inside.places c.self.inside.longest c.self.invariant.kept in
    let new = stands-kept c.change_entries.new.reads c.change_entries.new.places c.self.inside.longest kept in
    record {
      kept = kept;
      grouped = settle-grouped c.self.inside.reads c.change_entries.new.reads c.args.span.now stands new c.change_entries.ensures.changed c.self.invariant.grouped;
    }

pub returns : goal.returns
returns c =
    let kept = c.change_entries.ensures.kept c.self.inside.longest c.self.invariant.kept in
    let stands = stands-kept c.self.inside.reads c.self.inside.places c.self.inside.longest c.self.invariant.kept in
    let new = stands-kept c.change_entries.new.reads c.change_entries.new.places c.self.inside.longest kept in
    let waits = waits-seen c.self.inside.reads c.args.span.now stands.keyed (rw c.self.view_is c.requires) in
    rw (← c.self.view_is) (settle-view c.self.inside.reads c.change_entries.new.reads c.args.span.now stands new c.change_entries.ensures.changed waits)
