use Rattle.std.proofs.Common.{◌≡◌, length, ap, sym, subst, ◌∙◌}
use Rattle.vx_sched.specs.Entries.{seen, all_changed}
use Rattle.vx_sched.specs.Places.{AreGrouped}
use Rattle.vx_sched.specs.Merging.{first_number}
use Rattle.vx_sched.proofs.SeenLemmas.{Stands, stands-kept, waits-seen}
use Rattle.vx_sched.proofs.FlyLemmas.{take-view, take-grouped}
use Rattle.vx_sched.specs.declared.read.Change.TheVariants.{Take}
use Rattle.vx_sched.proofs.table.Table.take.Goals as goal

pub invariant_of-self : goal.invariant_of-self
invariant_of-self c =
    let kept = c.change_entries.ensures.kept c.self.inside.longest c.self.invariant.kept in
    let stands = stands-kept c.self.inside.reads c.self.inside.places c.self.inside.longest c.self.invariant.kept in
    let changed : c.change_entries.new.reads ≡ all_changed (Take (first_number c.args.span.now) (length c.args.span.now)) c.self.inside.reads c.args.span.now =
    c.change_entries.ensures.changed ∙ ap (λ n. all_changed (Take n (length c.args.span.now)) c.self.inside.reads c.args.span.now) c.number_of.ensures in
    let new = subst Stands changed (stands-kept c.change_entries.new.reads c.change_entries.new.places c.self.inside.longest kept) in
    let waits = waits-seen c.self.inside.reads c.args.span.now stands.keyed (rw c.self.view_is c.requires.waits) in
    record {
      kept = kept;
      grouped = subst AreGrouped (sym changed) (take-grouped c.self.inside.reads c.args.span.now stands new c.self.invariant.grouped c.requires.some c.requires.order waits);
    }

pub returns : goal.returns
returns c =
    let kept = c.change_entries.ensures.kept c.self.inside.longest c.self.invariant.kept in
    let stands = stands-kept c.self.inside.reads c.self.inside.places c.self.inside.longest c.self.invariant.kept in
    let changed : c.change_entries.new.reads ≡ all_changed (Take (first_number c.args.span.now) (length c.args.span.now)) c.self.inside.reads c.args.span.now =
    c.change_entries.ensures.changed ∙ ap (λ n. all_changed (Take n (length c.args.span.now)) c.self.inside.reads c.args.span.now) c.number_of.ensures in
    let new = subst Stands changed (stands-kept c.change_entries.new.reads c.change_entries.new.places c.self.inside.longest kept) in
    let waits = waits-seen c.self.inside.reads c.args.span.now stands.keyed (rw c.self.view_is c.requires.waits) in
    rw (← c.self.view_is) (ap seen changed ∙ take-view c.self.inside.reads c.args.span.now stands new c.self.invariant.grouped c.requires.some c.requires.order waits)
