use Rattle.std.proofs.Common.{List, ℕ, Option, ap, subst, ◌∙◌, ◌≡◌, ◌-◌, ◌*◌, ◌≤◌, nat_le, length, true, rules}
use Rattle.vx_data.specs.declared.ptype.PType.TheVariants.{U32}
use Rattle.std.specs.Prelude.{IfSome}
use Rattle.vx_rows.specs.Span.{every}
use Rattle.vx_rows.specs.Columns.{value_size, value_place, is_clear}
use Rattle.vx_rows.specs.Arrays.{is_text, place_at, places_at}
use Rattle.vx_rows.proofs.TextLemmas.{texts_found}
use Rattle.vx_rows.proofs.text_reading.read_texts.Goals as goal

pub returns-clause-value : goal.returns-clause-value
returns-clause-value c =
    let room : nat_le (value_size U32 * c.args.rows) (length c.args.segment.now.bytes - c.in_ok-present.from) ≡ true = search rules in
    let clear : every (is_clear U32 c.in_ok-present.present c.args.segment.now.bytes c.in_ok-present.from) 0 c.args.rows ≡ true = search rules in
    let inside : c.in-Some.after ≤ length c.args.segment.now.bytes = search rules in
    let texts : every (is_text c.args.segment.now.bytes c.in-Some.places) 0 c.args.rows ≡ true = search rules in
    let places : c.in-Some.places ≡ places_at c.args.rows c.args.segment.now.bytes c.in_ok-present.from
    = subst (λ (f : Option (List ℕ × ℕ)). IfSome f (λ x. x.0 ≡ places_at c.args.rows c.as_slice-bytes.result.now c.in_ok-present.from)) c.in-Some.is c.in_ok-places.ensures.places
    ∙ ap (λ b. places_at c.args.rows b c.in_ok-present.from) c.as_slice-bytes.ensures.value in
    let after : c.in-Some.after ≡ place_at c.args.segment.now.bytes c.in_ok-present.from (value_place U32 c.in_ok-present.from c.args.rows) c.args.rows = search rules in
    texts_found c.args.nullable c.args.rows c.args.segment.now.bytes c.args.at c.in_ok-present.from c.in-Some.after c.in_ok-present.present c.in-Some.places c.in_ok-column.column
    c.in_ok-present.ensures.value room clear inside texts places after c.in_ok-column.ensures

pub returns-then-not-are_texts-clause-value : goal.returns-then-not-are_texts-clause-value
returns-then-not-are_texts-clause-value c =
    let places : c.in-Some.places ≡ places_at c.args.rows c.args.segment.now.bytes c.in_ok-present.from
    = subst (λ (f : Option (List ℕ × ℕ)). IfSome f (λ x. x.0 ≡ places_at c.args.rows c.as_slice-bytes.result.now c.in_ok-present.from)) c.in-Some.is c.in_ok-places.ensures.places
    ∙ ap (λ b. places_at c.args.rows b c.in_ok-present.from) c.as_slice-bytes.ensures.value in
    search (rules, places)
