use Rattle.std.proofs.Common.{◌≡◌, true, List, Option, ℕ, length, sym, subst}
use Rattle.std.specs.List.{list_all}
use Rattle.vx_footer.specs.Gathering.{is_known}
use Rattle.vx_footer.proofs.GatherSteps.{none_known, new_is}
use Rattle.vx_footer.proofs.gathered.Gathered.new.Goals as goal

pub invariant_of-result : goal.invariant_of-result
invariant_of-result c =
    let count = length c.in_ok-new.field-0 in
    subst (λ (cs : List (Option ℕ)). list_all (is_known count) cs ≡ true) (sym c.in_ok-no_numbers.ensures) (none_known count c.args.named)

pub returns : goal.returns
returns c = new_is c.in_ok-new.field-0 c.in_ok-no_numbers.field-0.items c.args.named c.args.segments c.in_ok-new.ensures c.in_ok-no_numbers.ensures
