-- Which rows of columns are null, as flags and bits.
use Rattle.std.proofs.Common.{◌≡◌, ℕ, zero, suc, ◌+◌, ◌-◌, Bool, true, false, cond, List, [], ◌∷◌, length, map, take, Option, Some, None, is_some, unwrap_or, refl, ap, sym, ◌∙◌, subst, arith}
use Rattle.std.specs.Prelude.{slice_index_or, slice_range, ◌||◌, ◌&&◌, IfSome}
use Rattle.std.specs.List.{list_all}
use Rattle.std.specs.Str.{IsUtf8}
use Rattle.std.proofs.lemmas.List.{take_all}
use Rattle.vx_data.specs.declared.ptype.PType.{PType}
use Rattle.vx_rows.specs.Span.{span, every}
use Rattle.vx_rows.specs.Bits.{present_at}
use Rattle.vx_rows.specs.Columns.{bool_row, is_false_row, int_row, text_row, AreTexts, may_hold, are_there}
use Rattle.vx_rows.specs.Rows.{AreUtf8}
use Rattle.vx_rows.proofs.SpanLemmas.{length_span, get_or_span, every_holds}
use Rattle.vx_rows.proofs.MakingLemmas.{span_list}
use Rattle.vx_rows.proofs.WrittenLemmas.{bools_present, ints_present, texts_present, map_span}

all-true : (k n : ℕ) → list_all (λ b. b) (span (present_at None) k n) ≡ true
all-true k zero = refl
all-true k (suc n) = all-true (k + 1) n

all-present : (present : Option (List Bool)) (n : ℕ) → IfSome present (λ bits. length bits ≡ n) → list_all (λ b. b) (span (present_at present) 0 n) ≡ list_all (λ b. b) (unwrap_or present [])
all-present None n e = all-true 0 n
all-present (Some bits) n e = ap (λ m. list_all (λ b. b) (span (present_at (Some bits)) 0 m)) (sym e) ∙ ap (list_all (λ b. b)) (span_list true bits)

pub all_some : {A : Type 0} → (rows : List (Option A)) → list_all is_some rows ≡ list_all (λ b. b) (map is_some rows)
all_some [] = refl
all_some (row ∷ rows) = ap (λ b. is_some row && b) (all_some rows)

-- ---- whether no row is missing

pub bools_filled : (nullable : Bool) (present : Option (List Bool)) (values : List Bool) (n : ℕ) → IfSome present (λ bits. length bits ≡ n)
    → (nullable || list_all (λ b. b) (unwrap_or present [])) ≡ may_hold nullable (span (bool_row present values) 0 n)
bools_filled nullable present values n e =
    ap (λ b. nullable || b) (sym (all_some (span (bool_row present values) 0 n) ∙ ap (list_all (λ b. b)) (bools_present present values n) ∙ all-present present n e))

pub ints_filled : (nullable : Bool) (p : PType) (present : Option (List Bool)) (b : List ℕ) (at n : ℕ) → IfSome present (λ bits. length bits ≡ n)
    → (nullable || list_all (λ b. b) (unwrap_or present [])) ≡ may_hold nullable (span (int_row p present b at) 0 n)
ints_filled nullable p present b at n e =
    ap (λ b. nullable || b) (sym (all_some (span (int_row p present b at) 0 n) ∙ ap (list_all (λ b. b)) (ints_present p present b at n) ∙ all-present present n e))

pub texts_filled : (nullable : Bool) (present : Option (List Bool)) (b places : List ℕ) (n : ℕ) → IfSome present (λ bits. length bits ≡ n)
    → (nullable || list_all (λ b. b) (unwrap_or present [])) ≡ may_hold nullable (span (text_row present b places) 0 n)
texts_filled nullable present b places n e =
    ap (λ b. nullable || b) (sym (all_some (span (text_row present b places) 0 n) ∙ ap (list_all (λ b. b)) (texts_present present b places n) ∙ all-present present n e))

pub structs_filled : (nullable : Bool) (present : Option (List Bool)) (n : ℕ) → IfSome present (λ bits. length bits ≡ n)
    → (nullable || list_all (λ b. b) (unwrap_or present [])) ≡ are_there nullable (span (present_at present) 0 n)
structs_filled nullable present n e = ap (λ b. nullable || b) (sym (all-present present n e))

-- each value is a text
pub texts_valid : (present : Option (List Bool)) (b places : List ℕ) (n : ℕ) → AreTexts b places n → AreUtf8 (span (text_row present b places) 0 n)
texts_valid present b places n t i d l =
    let long = length_span (text_row present b places) 0 n in
    let here : slice_index_or (span (text_row present b places) 0 n) i d ≡ text_row present b places i =
    get_or_span (text_row present b places) 0 n i d (omega (arith, long, l)) ∙ ap (text_row present b places) (omega arith) in
    subst (λ (row : Option (List ℕ)). IfSome row IsUtf8) (sym here) (by (present_at present i) _ (t.text i (omega (arith, long, l))))
  where
    by : (here : Bool) (s : List ℕ) → IsUtf8 s → IfSome (cond here (Some s) None) IsUtf8
    by true s h = h
    by false s h = tt

-- ---- structs

-- all bits are those of the structs
pub whole_bits : (bits : List Bool) (n : ℕ) → length bits ≡ n → slice_range bits 0 n ≡ span (present_at (Some bits)) 0 n
whole_bits bits n e =
    let z : n - 0 ≡ n = omega arith in
    ap (λ k. take k bits) z ∙ take_all n bits (omega (arith, e)) ∙ sym (ap (λ m. span (present_at (Some bits)) 0 m) (sym e) ∙ span_list true bits)

pub truths : (bits : List Bool) → span (bool_row None bits) 0 (length bits) ≡ map Some bits
truths bits = sym (map_span Some (λ i. slice_index_or bits i true) 0 (length bits)) ∙ ap (map Some) (span_list true bits)

pub truths_clear : (bits : List Bool) → every (is_false_row None bits) 0 (length bits) ≡ true
truths_clear bits = every_holds (is_false_row None bits) 0 (length bits) (λ i l u. refl)
