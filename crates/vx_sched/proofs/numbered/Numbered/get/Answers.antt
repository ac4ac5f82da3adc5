use Rattle.std.proofs.Common.{subst, ◌∙◌, ap}
use Rattle.std.specs.Map.{lookup}
use Rattle.std.specs.BTreeMap.{is_at}
use Rattle.std.specs.Ordering.{nat_cmp}
use Rattle.vx_sched.specs.Numbered.{IsSlot, IsGap}
use Rattle.vx_sched.proofs.NumberedLemmas.{slot_value, gap_value}
use Rattle.vx_sched.proofs.numbered.Numbered.get.Goals as goal

pub returns-in-Ok : goal.returns-in-Ok
returns-in-Ok g c =
    let slots = c.self.inside.slots.items in
    let found = subst (λ ss. IsSlot ss c.args.number c.in-Ok.at) c.deref.ensures.value c.in-Ok.ensures.found in
    slot_value slots c.args.number c.in-Ok.at c.self.invariant found c.value_at.result (λ x h. c.value_at.ensures x (rw c.deref-in-Ok.ensures.value h)) ∙ ap (λ es. lookup (is_at (nat_cmp c.args.number)) es) c.self.view_is

pub returns-in-Err : goal.returns-in-Err
returns-in-Err g c =
    let gap = subst (λ ss. IsGap ss c.args.number c.in-Err.field-0) c.deref.ensures.value c.in-Err.ensures.gap in
    gap_value c.self.inside.slots.items c.args.number c.in-Err.field-0 gap ∙ ap (λ es. lookup (is_at (nat_cmp c.args.number)) es) c.self.view_is
