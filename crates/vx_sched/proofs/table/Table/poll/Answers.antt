use Rattle.std.proofs.Common.{ap, sym, subst, ◌∙◌}
use Rattle.vx_sched.specs.Entries.{seen}
use Rattle.vx_sched.specs.Places.{AreGrouped}
use Rattle.vx_sched.specs.Reads.{poll_read}
use Rattle.vx_sched.proofs.SeenLemmas.{Stands, stands-kept, simple-view, simple-grouped, poll-simple}
use Rattle.vx_sched.specs.declared.read.Change.TheVariants.{Poll}
use Rattle.vx_sched.proofs.table.Table.poll.Goals as goal

pub invariant_of-self : goal.invariant_of-self
invariant_of-self c =
    let kept = c.change_entry.ensures.kept c.self.inside.longest c.self.invariant.kept in
    let stands = stands-kept c.self.inside.reads c.self.inside.places c.self.inside.longest c.self.invariant.kept in
    let new = subst Stands c.change_entry.ensures.changed (stands-kept c.change_entry.new.reads c.change_entry.new.places c.self.inside.longest kept) in
    record {
      kept = kept;
      grouped = subst AreGrouped (sym c.change_entry.ensures.changed) (simple-grouped Poll poll_read poll-simple c.self.inside.reads c.args.id stands new c.self.invariant.grouped);
    }

pub returns : goal.returns
returns c =
    let kept = c.change_entry.ensures.kept c.self.inside.longest c.self.invariant.kept in
    let stands = stands-kept c.self.inside.reads c.self.inside.places c.self.inside.longest c.self.invariant.kept in
    let new = subst Stands c.change_entry.ensures.changed (stands-kept c.change_entry.new.reads c.change_entry.new.places c.self.inside.longest kept) in
    rw (← c.self.view_is) (ap seen c.change_entry.ensures.changed ∙ simple-view Poll poll_read poll-simple c.self.inside.reads c.args.id stands new)
