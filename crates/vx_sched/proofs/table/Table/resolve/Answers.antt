use Rattle.std.proofs.Common.{◌≡◌, ap, sym, subst, ◌∙◌}
use Rattle.vx_sched.specs.Entries.{seen}
use Rattle.vx_sched.specs.Places.{AreGrouped}
use Rattle.vx_sched.specs.Merging.{first_number}
use Rattle.vx_sched.specs.Reads.{leads_at}
use Rattle.vx_sched.proofs.SeenLemmas.{Stands, stands-kept}
use Rattle.vx_sched.proofs.FlyLemmas.{resolve-view, resolve-grouped}
use Rattle.vx_sched.proofs.table.Table.resolve.Goals as goal

pub invariant_of-self : goal.invariant_of-self
invariant_of-self c =
    let kept = c.change_entries.ensures.kept c.self.inside.longest c.self.invariant.kept in
    let stands = stands-kept c.self.inside.reads c.self.inside.places c.self.inside.longest c.self.invariant.kept in
    let new = subst Stands c.change_entries.ensures.changed (stands-kept c.change_entries.new.reads c.change_entries.new.places c.self.inside.longest kept) in
    let leads : leads_at (seen c.self.inside.reads) (first_number c.args.span.now) ≡ c.args.span.now = rw c.self.view_is c.requires.flies in
    record {
      kept = kept;
      grouped = subst AreGrouped (sym c.change_entries.ensures.changed) (resolve-grouped c.self.inside.reads c.args.span.now stands new c.self.invariant.grouped c.requires.some leads);
    }

pub returns : goal.returns
returns c =
    let kept = c.change_entries.ensures.kept c.self.inside.longest c.self.invariant.kept in
    let stands = stands-kept c.self.inside.reads c.self.inside.places c.self.inside.longest c.self.invariant.kept in
    let new = subst Stands c.change_entries.ensures.changed (stands-kept c.change_entries.new.reads c.change_entries.new.places c.self.inside.longest kept) in
    let leads : leads_at (seen c.self.inside.reads) (first_number c.args.span.now) ≡ c.args.span.now = rw c.self.view_is c.requires.flies in
    rw (← c.self.view_is) (ap seen c.change_entries.ensures.changed ∙ resolve-view c.self.inside.reads c.args.span.now stands new c.self.invariant.grouped c.requires.some leads)
