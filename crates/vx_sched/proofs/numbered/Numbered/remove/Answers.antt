use Rattle.std.proofs.Common.{None, subst, sym, ◌∙◌, ap}
use Rattle.std.specs.Map.{remove_entry}
use Rattle.std.specs.BTreeMap.{is_at}
use Rattle.std.specs.Ordering.{nat_cmp}
use Rattle.vx_sched.specs.Numbered.{held, RiseFrom, IsSlot, IsGap}
use Rattle.vx_sched.proofs.NumberedLemmas.{slot_within, changed_rises, gone_there, gone_none, full_held, full_rises, removed_lookup}
use Rattle.vx_sched.proofs.numbered.Numbered.remove.Goals as goal

pub returns-in_default-clause-entries : goal.returns-in_default-clause-entries
returns-in_default-clause-entries g c =
    let gap = subst (λ ss. IsGap ss c.args.number c.in_default.field-0) c.deref.ensures.value c.in_default.ensures.gap in
    sym c.self.view_is ∙ gone_none c.self.inside.slots.items c.args.number c.in_default.field-0 gap ∙ ap (λ es. remove_entry (is_at (nat_cmp c.args.number)) es) c.self.view_is

pub set_value-requires : goal.set_value-requires
set_value-requires g c = slot_within c.self.inside.slots.items c.args.number _ (subst (λ ss. IsSlot ss c.args.number c.in-Ok.at) c.deref.ensures.value c.in-Ok.ensures.found)

pub invariant_of-self : goal.invariant_of-self
invariant_of-self g c =
    let found = subst (λ ss. IsSlot ss c.args.number c.in-Ok.at) c.deref.ensures.value c.in-Ok.ensures.found in
    let rises = changed_rises c.self.inside.slots.items c.set_value.new.slots.items c.args.number c.in-Ok.at None c.self.invariant found c.set_value.ensures in
    subst (λ ss. RiseFrom 0 ss) (sym c.pack.ensures) (full_rises 0 c.set_value.new.slots.items rises)

pub invariant_of-self-else-self-len : goal.invariant_of-self-else-self-len
invariant_of-self-else-self-len g c =
    let found = subst (λ ss. IsSlot ss c.args.number c.in-Ok.at) c.deref.ensures.value c.in-Ok.ensures.found in
    changed_rises c.self.inside.slots.items c.set_value.new.slots.items c.args.number c.in-Ok.at None c.self.invariant found c.set_value.ensures

pub returns-then-self-len-clause-entries : goal.returns-then-self-len-clause-entries
returns-then-self-len-clause-entries g c =
    let found = subst (λ ss. IsSlot ss c.args.number c.in-Ok.at) c.deref.ensures.value c.in-Ok.ensures.found in
    ap held c.pack.ensures ∙ full_held c.set_value.new.slots.items
    ∙ gone_there c.self.inside.slots.items c.set_value.new.slots.items c.args.number c.in-Ok.at c.self.invariant found c.set_value.ensures ∙ ap (λ es. remove_entry (is_at (nat_cmp c.args.number)) es) c.self.view_is

pub returns-else-self-len-clause-entries : goal.returns-else-self-len-clause-entries
returns-else-self-len-clause-entries g c =
    let found = subst (λ ss. IsSlot ss c.args.number c.in-Ok.at) c.deref.ensures.value c.in-Ok.ensures.found in
    gone_there c.self.inside.slots.items c.set_value.new.slots.items c.args.number c.in-Ok.at c.self.invariant found c.set_value.ensures ∙ ap (λ es. remove_entry (is_at (nat_cmp c.args.number)) es) c.self.view_is

pub returns-in_default-clause-lookups : goal.returns-in_default-clause-lookups
returns-in_default-clause-lookups g c = λ q. removed_lookup c.self.inside.slots.items c.args.self.now _ c.args.number c.self.invariant c.self.view_is (returns-in_default-clause-entries g c) q

pub returns-then-self-len-clause-lookups : goal.returns-then-self-len-clause-lookups
returns-then-self-len-clause-lookups g c = λ q. removed_lookup c.self.inside.slots.items c.args.self.now _ c.args.number c.self.invariant c.self.view_is (returns-then-self-len-clause-entries g c) q

pub returns-else-self-len-clause-lookups : goal.returns-else-self-len-clause-lookups
returns-else-self-len-clause-lookups g c = λ q. removed_lookup c.self.inside.slots.items c.args.self.now _ c.args.number c.self.invariant c.self.view_is (returns-else-self-len-clause-entries g c) q
