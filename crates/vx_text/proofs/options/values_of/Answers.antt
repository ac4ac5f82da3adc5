use Rattle.std.proofs.Common.{rules, ◌≡◌, ◌∷◌, ◌∙◌, sym}
use Rattle.vx_text.proofs.OptionLemmas.{IsNext, shorter, values_next, values_found}
use Rattle.vx_text.proofs.options.values_of.Goals as goal

pub returns-then-eq : goal.returns-then-eq
returns-then-eq c =
    let left_is : c.loop-word.rest.now ≡ c.in-Some.word.now ∷ c.in-Some.others.now = search rules in
    let next : IsNext c.args.shapes.now c.loop-word.rest.now c.in-Some.word.now c.in-Some.others.now c.as_str-text.result.now c.value_count-count.result =
    record { left_is = left_is; text_is = c.as_str-text.ensures.value; count_is = c.value_count-count.ensures } in
    values_found _ _ _ _ _ c.first.result.now _ _ _ next (sym c.eq.ensures ∙ c.if-eq.true) c.first.ensures c.loop-word.invariant

pub loop-word-smaller : goal.loop-word-smaller
loop-word-smaller c =
    let left_is : c.loop-word.rest.now ≡ c.in-Some.word.now ∷ c.in-Some.others.now = search rules in
    shorter c.loop-word.rest.now c.in-Some.word.now c.in-Some.others.now c.behind-rest.result.now c.value_count-count.result left_is c.behind-rest.ensures

pub loop-word-preserved : goal.loop-word-preserved
loop-word-preserved c =
    let left_is : c.loop-word.rest.now ≡ c.in-Some.word.now ∷ c.in-Some.others.now = search rules in
    let next : IsNext c.args.shapes.now c.loop-word.rest.now c.in-Some.word.now c.in-Some.others.now c.as_str-text.result.now c.value_count-count.result =
    record { left_is = left_is; text_is = c.as_str-text.ensures.value; count_is = c.value_count-count.ensures } in
    values_next _ _ _ _ _ c.behind-rest.result.now _ _ _ next (sym c.eq.ensures ∙ c.if-eq.false) c.behind-rest.ensures c.loop-word.invariant
