use Rattle.std.proofs.Common.{◌≡◌, true, ap, sym, ◌∙◌}
use Rattle.std.specs.List.{list_all}
use Rattle.vx_sched.specs.Merging.{first_number}
use Rattle.vx_sched.specs.Reads.{leads_at}
use Rattle.vx_sched.specs.Entries.{seen, entry_at}
use Rattle.vx_sched.specs.Flying.{flies_so}
use Rattle.std.proofs.Common.{length}
use Rattle.vx_sched.proofs.SeenLemmas.{stands-kept}
use Rattle.vx_sched.proofs.FlyLemmas.{flies-leads, leads-flies}
use Rattle.vx_sched.proofs.table.Table.is_in_flight.Goals as goal

pub returns-then-is_ordered-clause-flies : goal.returns-then-is_ordered-clause-flies
returns-then-is_ordered-clause-flies c h =
    let stands = stands-kept c.self.inside.reads c.self.inside.places c.self.inside.longest c.self.invariant.kept in
    let flies : list_all (λ r. flies_so (first_number c.args.span.now) (length c.args.span.now) r (entry_at c.self.inside.reads r.id)) c.args.span.now ≡ true =
    ap (λ n. list_all (λ r. flies_so n (length c.args.span.now) r (entry_at c.self.inside.reads r.id)) c.args.span.now) (sym c.number_of.ensures) ∙ sym c.all_fly.ensures ∙ h in
    rw (← c.self.view_is) (flies-leads c.self.inside.reads c.args.span.now stands c.self.invariant.grouped c.requires.some (sym c.is_ordered.ensures ∙ c.if-is_ordered.true) flies)

pub returns-then-is_ordered-clause-rests : goal.returns-then-is_ordered-clause-rests
returns-then-is_ordered-clause-rests c h leads =
    let stands = stands-kept c.self.inside.reads c.self.inside.places c.self.inside.longest c.self.invariant.kept in
    let there : leads_at (seen c.self.inside.reads) (first_number c.args.span.now) ≡ c.args.span.now = rw c.self.view_is leads in
    let flies = leads-flies c.self.inside.reads c.args.span.now stands c.self.invariant.grouped c.requires.some there in
    cc (sym h ∙ c.all_fly.ensures ∙ ap (λ n. list_all (λ r. flies_so n (length c.args.span.now) r (entry_at c.self.inside.reads r.id)) c.args.span.now) c.number_of.ensures ∙ flies.1)

pub returns-else-is_ordered-clause-rests : goal.returns-else-is_ordered-clause-rests
returns-else-is_ordered-clause-rests c h leads =
    let stands = stands-kept c.self.inside.reads c.self.inside.places c.self.inside.longest c.self.invariant.kept in
    let there : leads_at (seen c.self.inside.reads) (first_number c.args.span.now) ≡ c.args.span.now = rw c.self.view_is leads in
    let flies = leads-flies c.self.inside.reads c.args.span.now stands c.self.invariant.grouped c.requires.some there in
    cc (sym h ∙ c.is_ordered.ensures ∙ flies.0)
