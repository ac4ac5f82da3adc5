use Rattle.std.proofs.Common.{rules, ◌≡◌, ◌∷◌, ◌∙◌, sym}
use Rattle.vx_text.proofs.OptionLemmas.{IsNext, options_next, options_other, options_short}
use Rattle.vx_text.proofs.options.are_options.Goals as goal

pub returns-then-count-others : goal.returns-then-count-others
returns-then-count-others c =
    let left_is : c.loop-word.left.now ≡ c.in-Some.word.now ∷ c.in-Some.others.now = search rules in
    let next : IsNext c.args.shapes.now c.loop-word.left.now c.in-Some.word.now c.in-Some.others.now c.as_str-text.result.now c.value_count-count.result =
    record { left_is = left_is; text_is = c.as_str-text.ensures.value; count_is = c.value_count-count.ensures } in
    options_short _ _ _ _ _ _ _ next c.if-count-others.true c.loop-word.invariant

pub returns-then-not-is_option : goal.returns-then-not-is_option
returns-then-not-is_option c =
    let left_is : c.loop-word.left.now ≡ c.in-Some.word.now ∷ c.in-Some.others.now = search rules in
    let next : IsNext c.args.shapes.now c.loop-word.left.now c.in-Some.word.now c.in-Some.others.now c.as_str-text.result.now c.value_count-count.result =
    record { left_is = left_is; text_is = c.as_str-text.ensures.value; count_is = c.value_count-count.ensures } in
    options_other _ _ _ _ _ _ _ next (sym c.is_option.ensures ∙ c.if-not-is_option.true) c.loop-word.invariant

pub loop-word-preserved : goal.loop-word-preserved
loop-word-preserved c =
    let left_is : c.loop-word.left.now ≡ c.in-Some.word.now ∷ c.in-Some.others.now = search rules in
    let next : IsNext c.args.shapes.now c.loop-word.left.now c.in-Some.word.now c.in-Some.others.now c.as_str-text.result.now c.value_count-count.result =
    record { left_is = left_is; text_is = c.as_str-text.ensures.value; count_is = c.value_count-count.ensures } in
    options_next _ _ _ _ c.behind-left.result.now _ _ _ next (sym c.is_option.ensures ∙ c.if-not-is_option.false) c.if-count-others.false c.behind-left.ensures c.loop-word.invariant
