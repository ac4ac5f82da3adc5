-- A column that was read is one: its values are of its type, and none is missing where it may not be null.
use Rattle.std.proofs.Common.{◌≡◌, ℕ, ℤ, zero, suc, ◌+◌, ◌-◌, ◌*◌, ◌<◌, ◌≤◌, ◌^◌, Bool, true, false, cond, List, length, get_or, Option, Some, None, Ok, pos, negsuc, is_some, refl, ap, sym, ◌∙◌, subst, arith, ◌⊎◌, inl, inr}
use Rattle.std.specs.Prelude.{slice_index, slice_index_or, slice_range, ◌||◌, IfSome}
use Rattle.std.specs.List.{All, list_all}
use Rattle.std.specs.Str.{IsUtf8}
use Rattle.std.specs.Int.{Width, w8, w16, w32, w64, cast_signed}
use mir.Val.{bits, hbits}
use Rattle.std.proofs.lemmas.Bool.{lt-ltb, cases_lt}
use Rattle.std.proofs.lemmas.Int.{to_z_pos}
use Rattle.std.proofs.Math.Facts.{to_z-neg}
use Rattle.std.proofs.lemmas.Str.{IsUtf8-from_is_utf8}
use Rattle.vx_data.specs.declared.ptype.PType.{PType}
use Rattle.vx_data.specs.declared.ptype.PType.TheVariants.{U8, U16, U32, U64, I8, I16, I32, I64}
use Rattle.vx_rows.specs.Span.{span, every}
use Rattle.vx_rows.specs.Bits.{present_at}
use Rattle.vx_rows.specs.Columns.{value_size, value_of, raw_at, value_place, int_row, text_row, may_hold, are_there}
use Rattle.vx_rows.specs.Written.{is_within}
use Rattle.vx_rows.specs.Arrays.{presence_at, is_text}
use Rattle.vx_rows.proofs.SpanLemmas.{length_span, get_or_span, every_all}
use Rattle.vx_rows.proofs.CopyLemmas.{raw_below}

-- ---- integers

-- a signed value is in range where each number of so many bits is, with either sign
signed-within : (p : PType) (w : Width) (raw : ℕ) → raw < 2 ^ bits w → 2 ^ bits w ≡ 2 * 2 ^ hbits w → ((n : ℕ) → n < 2 ^ hbits w → is_within p (pos n) ≡ true)
    → ((n : ℕ) → n < 2 ^ hbits w → is_within p (negsuc n) ≡ true) → is_within p (cast_signed w raw) ≡ true
signed-within p w raw h twice low high = by (cases_lt raw (2 ^ hbits w))
  where
    by : (raw < 2 ^ hbits w) ⊎ (2 ^ hbits w ≤ raw) → is_within p (cast_signed w raw) ≡ true
    by (inl l) = ap (is_within p) (to_z_pos w raw l) ∙ low raw l
    by (inr l) =
        let same : raw ≡ 2 ^ bits w - suc (2 ^ bits w - suc raw) = omega (arith, h) in
        let small : 2 ^ bits w - suc raw < 2 ^ hbits w = omega (arith, h, l, twice) in
        ap (λ m. is_within p (cast_signed w m)) same ∙ ap (is_within p) (to_z-neg w (2 ^ bits w - suc raw) small) ∙ high (2 ^ bits w - suc raw) small

within-raw : (p : PType) (raw : ℕ) → raw < 2 ^ (8 * value_size p) → is_within p (value_of p raw) ≡ true
within-raw U8 raw h = lt-ltb raw (2 ^ 8) h
within-raw U16 raw h = lt-ltb raw (2 ^ 16) h
within-raw U32 raw h = lt-ltb raw (2 ^ 32) h
within-raw U64 raw h = lt-ltb raw (2 ^ 64) h
within-raw I8 raw h = signed-within I8 w8 raw h refl (λ n l. lt-ltb n (2 ^ 7) l) (λ n l. lt-ltb n (2 ^ 7) l)
within-raw I16 raw h = signed-within I16 w16 raw h refl (λ n l. lt-ltb n (2 ^ 15) l) (λ n l. lt-ltb n (2 ^ 15) l)
within-raw I32 raw h = signed-within I32 w32 raw h refl (λ n l. lt-ltb n (2 ^ 31) l) (λ n l. lt-ltb n (2 ^ 31) l)
within-raw I64 raw h = signed-within I64 w64 raw h refl (λ n l. lt-ltb n (2 ^ 63) l) (λ n l. lt-ltb n (2 ^ 63) l)

-- values are in the range of their type
pub read_within : (p : PType) (present : Option (List Bool)) (b : List ℕ) (at n : ℕ) → ((i : ℕ) → get_or b i 0 < 256) → value_size p * n ≤ length b - at
    → All (λ (row : Option ℤ). IfSome row (λ value. is_within p value ≡ true)) (span (int_row p present b at) 0 n)
read_within p present b at n bytes inside i d l =
    let long = length_span (int_row p present b at) 0 n in
    let here : slice_index_or (span (int_row p present b at) 0 n) i d ≡ int_row p present b at i =
    get_or_span (int_row p present b at) 0 n i d (omega (arith, long, l)) ∙ ap (int_row p present b at) (omega arith) in
    subst (λ (row : Option ℤ). IfSome row (λ value. is_within p value ≡ true)) (sym here) (by (present_at present i) _ (within-raw p (raw_at p b (value_place p at i)) (raw_below p b at i n bytes (omega (arith, long, l)) inside)))
  where
    by : (here : Bool) (x : ℤ) → is_within p x ≡ true → IfSome (cond here (Some x) None) (λ value. is_within p value ≡ true)
    by true x h = h
    by false x h = tt

-- ---- which rows are not null

-- where none may be null, there is no bitmap
pub none_missing : (nullable : Bool) (n : ℕ) (b : List ℕ) (at : ℕ) (x : Option (List Bool) × ℕ) → presence_at nullable n b at ≡ Ok x → (nullable ≡ true) ⊎ (x.0 ≡ None)
none_missing true n b at x h = inl refl
none_missing false n b at x h = let e : ◌≡◌ {A = Option (List Bool) × ℕ} (None, at) x = cc h in inr (ap (λ (y : Option (List Bool) × ℕ). y.0) (sym e))

pub may_be_held : {A : Type 0} → (nullable : Bool) (present : Option (List Bool)) (f : ℕ → A) (k n : ℕ) → (nullable ≡ true) ⊎ (present ≡ None)
    → may_hold nullable (span (λ row. cond (present_at present row) (Some (f row)) None) k n) ≡ true
may_be_held nullable present f k n (inl e) = ap (λ b. b || list_all is_some (span (λ row. cond (present_at present row) (Some (f row)) None) k n)) e
may_be_held nullable present f k n (inr e) = ap (λ q. nullable || list_all is_some (span (λ row. cond (present_at q row) (Some (f row)) None) k n)) e ∙ ap (λ b. nullable || b) (all-here k n) ∙ or-true nullable
  where
    all-here : (k n : ℕ) → list_all is_some (span (λ row. cond (present_at None row) (Some (f row)) None) k n) ≡ true
    all-here k zero = refl
    all-here k (suc n) = all-here (k + 1) n

    or-true : (b : Bool) → (b || true) ≡ true
    or-true true = refl
    or-true false = refl

pub are_held : (nullable : Bool) (present : Option (List Bool)) (k n : ℕ) → (nullable ≡ true) ⊎ (present ≡ None) → are_there nullable (span (present_at present) k n) ≡ true
are_held nullable present k n (inl e) = ap (λ b. b || list_all (λ x. x) (span (present_at present) k n)) e
are_held nullable present k n (inr e) = ap (λ q. nullable || list_all (λ x. x) (span (present_at q) k n)) e ∙ ap (λ b. nullable || b) (all-here k n) ∙ or-true nullable
  where
    all-here : (k n : ℕ) → list_all (λ x. x) (span (present_at None) k n) ≡ true
    all-here k zero = refl
    all-here k (suc n) = all-here (k + 1) n

    or-true : (b : Bool) → (b || true) ≡ true
    or-true true = refl
    or-true false = refl

-- ---- texts

pub read_valid : (present : Option (List Bool)) (b places : List ℕ) (n : ℕ) → every (is_text b places) 0 n ≡ true → All (λ (row : Option (List ℕ)). IfSome row IsUtf8) (span (text_row present b places) 0 n)
read_valid present b places n h i d l =
    let long = length_span (text_row present b places) 0 n in
    let here : slice_index_or (span (text_row present b places) 0 n) i d ≡ text_row present b places i =
    get_or_span (text_row present b places) 0 n i d (omega (arith, long, l)) ∙ ap (text_row present b places) (omega arith) in
    let valid : IsUtf8 (slice_range b (slice_index places i) (slice_index places (i + 1))) =
    IsUtf8-from_is_utf8 _ (ap (is_text b places) (omega arith) ∙ every_all (is_text b places) 0 n h i (omega (arith, long, l))) in
    subst (λ (row : Option (List ℕ)). IfSome row IsUtf8) (sym here) (by (present_at present i) _ valid)
  where
    by : (here : Bool) (t : List ℕ) → IsUtf8 t → IfSome (cond here (Some t) None) IsUtf8
    by true x h = h
    by false x h = tt
