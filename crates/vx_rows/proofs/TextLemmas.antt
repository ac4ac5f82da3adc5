-- The places of texts.
use Rattle.std.proofs.Common.{◌≡◌, ℕ, zero, suc, ◌+◌, ◌-◌, ◌<◌, ◌≤◌, Bool, true, List, [], ◌∷◌, ◌++◌, length, nat_le, Option, Ok, ◌*◌, refl, ap, sym, ◌∙◌, subst, arith}
use Rattle.std.proofs.lemmas.Bool.Decides.{nat_tests}
use Rattle.std.specs.Prelude.{slice_index}
use Rattle.std.proofs.lemmas.Str.{IsUtf8-from_is_utf8}
use Rattle.vx_data.specs.declared.ptype.PType.TheVariants.{U32}
use Rattle.vx_rows.specs.Span.{span, every}
use Rattle.vx_rows.specs.Columns.{Texts, value_size, raw_at, value_place, text_row, AreRanges, AreTexts, is_clear}
use Rattle.vx_rows.specs.Arrays.{presence_at, place_at, places_at, is_text, texts_at}
use Rattle.vx_rows.proofs.SpanLemmas.{get_or_span, span_push, every_all}

pub place_next : (b : List ℕ) (at start row : ℕ) → place_at b at start (row + 1) ≡ place_at b at start row + raw_at U32 b (value_place U32 at row)
place_next b at start row = let e : row + 1 ≡ suc row = omega arith in ap (place_at b at start) e

-- places rise
pub place_grows : (b : List ℕ) (at start row n : ℕ) → place_at b at start row ≤ place_at b at start (row + n)
place_grows b at start row zero = let e : row + 0 ≡ row = omega arith in rw e (omega arith)
place_grows b at start row (suc n) =
    let e : row + suc n ≡ suc (row + n) = omega arith in
    let h = place_grows b at start row n in
    rw e (omega (arith, h))

pub place_rises : (b : List ℕ) (at start row n : ℕ) → row ≤ n → place_at b at start row ≤ place_at b at start n
place_rises b at start row n h =
    let e : row + (n - row) ≡ n = omega arith in
    subst (λ m. place_at b at start row ≤ place_at b at start m) e (place_grows b at start row (n - row))

-- the places so far
pub record SoFar (b : List ℕ) (at start row place : ℕ) (items : List ℕ) : Type 0 where
  pub items_are : items ≡ span (place_at b at start) 0 (row + 1)
  pub place_is : place ≡ place_at b at start row
  pub inside : place ≤ length b

pub so_far_start : (b : List ℕ) (at start : ℕ) → start ≤ length b → SoFar b at start 0 start (start ∷ [])
so_far_start b at start h = record { items_are = refl; place_is = refl; inside = h }

pub so_far_step : (b : List ℕ) (at start row place size : ℕ) (items items' : List ℕ) → SoFar b at start row place items → size ≡ raw_at U32 b (value_place U32 at row)
    → place + size ≤ length b → items' ≡ items ++ (place + size) ∷ [] → SoFar b at start (row + 1) (place + size) items'
so_far_step b at start row place size items items' s e h p =
    let step = place_next b at start row in
    let was = s.place_is in
    let next : place_at b at start (0 + (row + 1)) ≡ place + size = ap (place_at b at start) (omega arith) ∙ step ∙ omega arith in
    record {
      items_are = p ∙ ap (λ xs. xs ++ (place + size) ∷ []) s.items_are ∙ ap (λ m. span (place_at b at start) 0 (row + 1) ++ m ∷ []) (sym next)
          ∙ sym (span_push (place_at b at start) 0 (row + 1));
      place_is = sym next ∙ ap (place_at b at start) (omega arith);
      inside = h;
    }

-- a text that ends behind the bytes
pub so_far_past : (b : List ℕ) (at start row rows place size : ℕ) (items : List ℕ) → SoFar b at start row place items → size ≡ raw_at U32 b (value_place U32 at row)
    → length b < place + size → row < rows → length b < place_at b at start rows
so_far_past b at start row rows place size items s e h l =
    let next = place_next b at start row in
    let rises = place_rises b at start (row + 1) rows (omega arith) in
    let q = s.place_is in
    omega (arith, next, rises)

-- a place among them
pub places_index : (n : ℕ) (b : List ℕ) (at row : ℕ) → row ≤ n → slice_index (places_at n b at) row ≡ place_at b at (value_place U32 at n) row
places_index n b at row h = get_or_span (place_at b at (value_place U32 at n)) 0 (n + 1) row 0 (omega arith) ∙ ap (place_at b at (value_place U32 at n)) (omega arith)

pub ranges_are : (n : ℕ) (b : List ℕ) (at : ℕ) (items : List ℕ) → items ≡ places_at n b at → place_at b at (value_place U32 at n) n ≤ length b → AreRanges b items n
ranges_are n b at items e h = rw e (record {
  ordered = λ row l. ordered row l;
  inside = λ row l. inside row l;
})
  where
    ordered : (row : ℕ) → row < n → slice_index (places_at n b at) row ≤ slice_index (places_at n b at) (row + 1)
    ordered row l =
        let here = places_index n b at row (omega arith) in
        let next = places_index n b at (row + 1) (omega arith) in
        let up = place_rises b at (value_place U32 at n) row (row + 1) (omega arith) in
        omega (arith, here, next, up)

    inside : (row : ℕ) → row < n → slice_index (places_at n b at) (row + 1) ≤ length b
    inside row l =
        let next = places_index n b at (row + 1) (omega arith) in
        let last = place_rises b at (value_place U32 at n) (row + 1) n (omega arith) in
        omega (arith, next, last)

pub texts_are : (n : ℕ) (b items : List ℕ) → every (is_text b items) 0 n ≡ true → AreTexts b items n
texts_are n b items h = record {
  text = λ row l.
      let e : 0 + row ≡ row = omega arith in
      IsUtf8-from_is_utf8 _ (subst (λ i. is_text b items i ≡ true) e (every_all (is_text b items) 0 n h row l));
}

-- all places, at the end
pub so_far_end : (n : ℕ) (b : List ℕ) (at place : ℕ) (items : List ℕ) → SoFar b at (value_place U32 at n) n place items → AreRanges b items n
so_far_end n b at place items s =
    let was = s.place_is in
    let in-bytes = s.inside in
    ranges_are n b at items s.items_are (omega arith)

-- a column of texts, where all checks pass
pub texts_found : (nullable : Bool) (n : ℕ) (b : List ℕ) (at from after : ℕ) (present : Option (List Bool)) (places : List ℕ) (column : Texts) → presence_at nullable n b at ≡ Ok (present, from)
    → nat_le (value_size U32 * n) (length b - from) ≡ true → every (is_clear U32 present b from) 0 n ≡ true → after ≤ length b → every (is_text b places) 0 n ≡ true
    → places ≡ places_at n b from → after ≡ place_at b from (value_place U32 from n) n
    → column ≡ record { nullable = nullable; rows = span (text_row present b places) 0 n } → texts_at nullable n b at ≡ Ok (column, after)
texts_found nullable n b at from after present places column p room clear inside texts same last e =
    let ends : nat_le (place_at b from (value_place U32 from n) n) (length b) ≡ true = grind (arith, nat_tests) in
    let texts' : every (is_text b (places_at n b from)) 0 n ≡ true = subst (λ ps. every (is_text b ps) 0 n ≡ true) same texts in
    rw (e, last, same, p, room, clear, ends, texts') refl
