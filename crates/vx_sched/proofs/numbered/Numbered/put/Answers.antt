use Rattle.std.proofs.Common.{subst, sym, ◌∙◌, ap}
use Rattle.std.specs.Map.{lookup}
use Rattle.std.specs.BTreeMap.{insert_entry, is_at}
use Rattle.std.specs.Ordering.{nat_cmp}
use Rattle.vx_sched.specs.Numbered.{held, RiseFrom, IsSlot, IsGap}
use Rattle.vx_sched.proofs.NumberedLemmas.{put_there, changed_rises, put_here, put_rises, gap_value, insert_lookup}
use Rattle.vx_sched.proofs.numbered.Numbered.put.Goals as goal

pub invariant_of-self : goal.invariant_of-self
invariant_of-self g c =
    let found = subst (λ ss. IsSlot ss c.args.number c.in-Ok.at) c.deref.ensures.value c.in-Ok.ensures.found in
    changed_rises c.self.inside.slots.items c.set_value.new.slots.items c.args.number c.in-Ok.at _ c.self.invariant found c.set_value.ensures

pub returns-in-Ok-clause-ok : goal.returns-in-Ok-clause-ok
returns-in-Ok-clause-ok g c =
    let found = subst (λ ss. IsSlot ss c.args.number c.in-Ok.at) c.deref.ensures.value c.in-Ok.ensures.found in
    put_there c.self.inside.slots.items c.set_value.new.slots.items c.args.number c.in-Ok.at c.args.value c.self.invariant found c.set_value.ensures
    ∙ ap (λ es. insert_entry nat_cmp es c.args.number c.args.value) c.self.view_is

pub invariant_of-self-in-Err : goal.invariant_of-self-in-Err
invariant_of-self-in-Err g c =
    let gap = subst (λ ss. IsGap ss c.args.number c.in-Err.at) c.deref.ensures.value c.in-Err.ensures.gap in
    subst (λ ss. RiseFrom 0 ss) (sym c.in-Ok-add_slot.ensures.ok) (put_rises c.self.inside.slots.items c.args.number c.in-Err.at c.args.value c.self.invariant gap)

pub returns-in_default-clause-absent : goal.returns-in_default-clause-absent
returns-in_default-clause-absent g c =
    let gap = subst (λ ss. IsGap ss c.args.number c.in-Err.at) c.deref.ensures.value c.in-Err.ensures.gap in
    sym (gap_value c.self.inside.slots.items c.args.number c.in-Err.at gap ∙ ap (λ es. lookup (is_at (nat_cmp c.args.number)) es) c.self.view_is)

pub returns-in-Ok-add_slot-clause-ok : goal.returns-in-Ok-add_slot-clause-ok
returns-in-Ok-add_slot-clause-ok g c =
    let gap = subst (λ ss. IsGap ss c.args.number c.in-Err.at) c.deref.ensures.value c.in-Err.ensures.gap in
    ap held c.in-Ok-add_slot.ensures.ok ∙ put_here c.self.inside.slots.items c.args.number c.in-Err.at c.args.value c.self.invariant gap
    ∙ ap (λ es. insert_entry nat_cmp es c.args.number c.args.value) c.self.view_is

pub returns-in-Ok-clause-lookups : goal.returns-in-Ok-clause-lookups
returns-in-Ok-clause-lookups g c = λ q. ap (λ es. lookup (is_at (nat_cmp q)) es) (returns-in-Ok-clause-ok g c) ∙ insert_lookup c.args.self.now c.args.number c.args.value q

pub returns-in-Ok-add_slot-clause-lookups : goal.returns-in-Ok-add_slot-clause-lookups
returns-in-Ok-add_slot-clause-lookups g c = λ q. ap (λ es. lookup (is_at (nat_cmp q)) es) (returns-in-Ok-add_slot-clause-ok g c)
    ∙ insert_lookup c.args.self.now c.args.number c.args.value q
