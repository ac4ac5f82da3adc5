use Rattle.std.proofs.Common.{arith, subst, sym, List, ℕ}
use Rattle.std.specs.List.{AllByRecursion}
use Rattle.std.proofs.lemmas.List.{drop_all}
use Rattle.vx_base.specs.Buffer.{Buffer}
use Rattle.vx_tables.proofs.Text.{string_is_utf8}
use Rattle.vx_footer.specs.ReadAgain.{IsValue}
use Rattle.vx_footer.specs.Serializing.{values_view}
use Rattle.vx_footer.proofs.ValueLemmas.{next}
use Rattle.vx_write.proofs.options.are_values.Goals as goal

pub loop-at-init : goal.loop-at-init
loop-at-init c = λ h. h

pub loop-at-preserved : goal.loop-at-preserved
loop-at-preserved c =
    let values = c.args.values.now in
    let at = c.loop-at.at in
    let value = c.index-values-at.result in
    let one : IsValue (_, value.1) = record { key = string_is_utf8 value.0; aligned = omega (arith, c.exponent.ensures.bound, c.alignment.ensures) } in
    λ rest. c.loop-at.invariant (subst (λ (vs : List (List ℕ × Buffer)). AllByRecursion IsValue vs) (sym (next values at value (omega arith) c.index-values-at.is)) (one, rest))

pub returns : goal.returns
returns c =
    let values = c.args.values.now in
    c.loop-at.invariant (subst (λ xs. AllByRecursion IsValue (values_view xs)) (sym (drop_all c.loop-at.at values (omega arith))) tt)
