use Rattle.std.proofs.Common.{rules, ◌≡◌, ◌∷◌, Err, map, subst, sym}
use Rattle.std.specs.Prelude.{string_bytes}
use Rattle.vx_footer.specs.Serializing.{values_view}
use Rattle.vx_commands.specs.MetadataWords.{after_entries, entries_of}
use Rattle.vx_text.proofs.OptionLemmas.{IsNext}
use Rattle.vx_commands.proofs.MetadataLemmas.{entry-other, entry-read, entry-fails, unequal, equal}
use Rattle.vx_commands.proofs.metadata_words.entries.Goals as goal

pub loop-word-preserved-then-ne : goal.loop-word-preserved-then-ne
loop-word-preserved-then-ne c =
    let left_is : c.loop-word.rest.now ≡ c.in-Some.word.now ∷ c.in-Some.others.now = search rules in
    let next : IsNext c.args.shapes.now c.loop-word.rest.now c.in-Some.word.now c.in-Some.others.now c.as_str-text.result.now c.value_count-count.result =
    record { left_is = left_is; text_is = c.as_str-text.ensures.value; count_is = c.value_count-count.ensures } in
    entry-other _ _ _ _ c.behind-rest.result.now _ _ _ _ next (unequal c.ne.result _ c.ne.ensures c.if-ne.true) c.behind-rest.ensures c.loop-word.invariant

pub returns-in_err-entry : goal.returns-in_err-entry
returns-in_err-entry c =
    let left_is : c.loop-word.rest.now ≡ c.in-Some.word.now ∷ c.in-Some.others.now = search rules in
    let next : IsNext c.args.shapes.now c.loop-word.rest.now c.in-Some.word.now c.in-Some.others.now c.as_str-text.result.now c.value_count-count.result =
    record { left_is = left_is; text_is = c.as_str-text.ensures.value; count_is = c.value_count-count.ensures } in
    let e = c.in_err-entry.field-0.0 in
    let is : c.from_residual.result ≡ Err e = search rules in
    rw is (entry-fails e _ _ _ _ c.behind-rest.result.now c.first.result.now _ _ _ _ next (equal c.ne.result _ c.ne.ensures c.if-ne.false) c.behind-rest.ensures c.first.ensures c.in_err-entry.ensures c.loop-word.invariant)

pub loop-word-preserved : goal.loop-word-preserved
loop-word-preserved c =
    let left_is : c.loop-word.rest.now ≡ c.in-Some.word.now ∷ c.in-Some.others.now = search rules in
    let next : IsNext c.args.shapes.now c.loop-word.rest.now c.in-Some.word.now c.in-Some.others.now c.as_str-text.result.now c.value_count-count.result =
    record { left_is = left_is; text_is = c.as_str-text.ensures.value; count_is = c.value_count-count.ensures } in
    let moved = entry-read _ _ _ _ c.behind-rest.result.now c.first.result.now _ _ c.loop-word.entries.items c.in_ok-entry.field-0 _ next (equal c.ne.result _ c.ne.ensures c.if-ne.false) c.behind-rest.ensures c.first.ensures c.in_ok-entry.ensures c.loop-word.invariant in
    subst (λ es. after_entries (values_view es) (entries_of c.args.shapes.now (map string_bytes c.behind-rest.result.now)) ≡ entries_of c.args.shapes.now (map string_bytes c.args.words.now)) (sym c.in_ok-push.ensures.items) moved
