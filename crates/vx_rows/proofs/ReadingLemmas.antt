-- The values of fields, one after the other, and lines.
use Rattle.std.proofs.Common.{◌≡◌, ℕ, ◌+◌, ◌<◌, ◌≤◌, Bool, true, false, List, [], ◌∷◌, ◌++◌, length, get_or, set, take, drop, Option, Some, None, Ok, Err, refl, ap, sym, ◌∙◌, add-one, drop-cons, arith}
use Rattle.std.specs.Prelude.{string_bytes, ◌==◌, not}
use Rattle.std.proofs.lemmas.Bool.Decides.{nat_tests}
use Rattle.std.specs.Option.{option_map, option_and_then}
use Rattle.std.proofs.lemmas.List.{take_more_set, take_all, drop-set-lt, drop_all}
use Rattle.vx_base.specs.Checks.{◌lacking◌}
use Rattle.vx_data.specs.declared.text_error.TextError.TheVariants.{BadText}
use Rattle.vx_data.specs.Texts.{comma}
use Rattle.vx_data.specs.TextsRead.{after}
use Rattle.vx_rows.specs.declared.builder.Builder.{Builder}
use Rattle.vx_rows.specs.Rows.{Rows, FieldRows}
use Rattle.vx_rows.specs.Trees.{before}
use Rattle.vx_rows.specs.ReadRows.{value_in, values_in, before_fields, lines_of, rows_behind}
use Rattle.vx_rows.specs.Builders.{builder_view, built, pairs_view}
use Rattle.vx_rows.proofs.BuildingLemmas.{Field, before_built, built_end}

-- fields that have their row, before what was read of the others
abbrev pub behind_built : List Field → Option (FieldRows × List ℕ) → Option (FieldRows × List ℕ)
behind_built made r = option_map (λ x. (before (built made) x.0, x.1)) r

some_of : {A : Type 0} (o : Option A) (x : A) → (BadText lacking o) ≡ Ok x → o ≡ Some x
some_of None x e = absurd cc
some_of (Some y) x e = let same : y ≡ x = cc in ap (λ v. Some v) same

none_of : {A : Type 0} (o : Option A) → (BadText lacking o) ≡ Err BadText → o ≡ None
none_of None e = refl
none_of (Some y) e = absurd cc

next-field : (bs : List Field) (i : ℕ) (b : Field) → i < length bs → b ≡ get_or bs i b → drop i bs ≡ b ∷ drop (i + 1) bs
next-field bs i b lt is = rw (add-one, drop-cons bs i b, ← is) refl

moved : (made : List Field) (x : Field) (r : Option (FieldRows × List ℕ))
    → behind_built made (option_map (before_fields (string_bytes x.0) (builder_view x.1)) r) ≡ behind_built (made ++ x ∷ []) r
moved made x None = refl
moved made x (Some y) = ap (λ (cs : FieldRows). Some (cs, y.1)) (sym (before_built made x y.0))

-- the next value was read
pub values_more : (first : Bool) (bs : List Field) (i : ℕ) (b : Field) (c : Builder) (t rest : List ℕ) → i < length bs → b ≡ get_or bs i b
    → (BadText lacking option_and_then (value_in (builder_view b.1)) (after (comma first) t)) ≡ Ok (builder_view c, rest)
    → behind_built (take (i + 1) (set bs i (b.0, c))) (values_in false (pairs_view (drop (i + 1) (set bs i (b.0, c)))) rest)
    ≡ behind_built (take i bs) (values_in first (pairs_view (drop i bs)) t)
values_more first bs i b c t rest lt is value =
    ap (λ (xs : List Field). behind_built xs (values_in false (pairs_view (drop (i + 1) (set bs i (b.0, c)))) rest)) (take_more_set bs i (b.0, c) lt)
    ∙ ap (λ (xs : List Field). behind_built (take i bs ++ (b.0, c) ∷ []) (values_in false (pairs_view xs) rest)) (drop-set-lt (i + 1) bs i (b.0, c) (omega arith))
    ∙ sym (rw (next-field bs i b lt is, some_of _ _ value) (moved (take i bs) (b.0, c) (values_in false (pairs_view (drop (i + 1) bs)) rest)))

pub value_fails : (first : Bool) (bs : List Field) (i : ℕ) (b : Field) (made : List Field) (t : List ℕ) → i < length bs → b ≡ get_or bs i b
    → (BadText lacking option_and_then (value_in (builder_view b.1)) (after (comma first) t)) ≡ Err BadText
    → behind_built made (values_in first (pairs_view (drop i bs)) t) ≡ None
value_fails first bs i b made t lt is value = rw (next-field bs i b lt is, none_of _ value) refl

pub values_end : (first : Bool) (bs : List Field) (i : ℕ) (t : List ℕ) → length bs ≤ i → behind_built (take i bs) (values_in first (pairs_view (drop i bs)) t) ≡ Some (pairs_view bs, t)
values_end first bs i t l =
    ap (λ (xs : List Field). behind_built xs (values_in first (pairs_view (drop i bs)) t)) (take_all i bs l)
    ∙ ap (λ (xs : List Field). behind_built bs (values_in first (pairs_view xs) t)) (drop_all i bs l)
    ∙ ap (λ (cs : FieldRows). Some (cs, t)) (built_end bs)

pub values_begin : (bs : List Field) (t : List ℕ) → behind_built (take 0 bs) (values_in true (pairs_view (drop 0 bs)) t) ≡ values_in true (pairs_view bs) t
values_begin bs t = elim (values_in true (pairs_view bs) t) as (λ r. behind_built [] r ≡ r) [ None ↦ refl | Some x ↦ refl ]

pub ruleset value_steps = (values_more, value_fails, values_end, values_begin)

-- ---- lines

-- not a line feed
abbrev pub is_other : ℕ → Bool
is_other c = not (c == 10)

pub other-test : (c : ℕ) → is_other c ≡ true → (c == 10) ≡ false
other-test c h = grind (arith, nat_tests)

-- ---- rows

pub rows_end : (c : Rows) (number : ℕ) (t : List ℕ) → length t ≡ 0 → rows_behind c number (lines_of t) ≡ Ok c
unfolding rows_behind lines_of
rows_end c number [] h = refl
rows_end c number (b ∷ t) h = cc
