-- The rows of columns of texts whose bytes were written.
use Rattle.std.proofs.Common.{◌≡◌, ℕ, zero, suc, ◌+◌, ◌-◌, ◌<◌, ◌≤◌, Bool, true, cond, List, [], ◌∷◌, ◌++◌, map, length, take, drop, Option, Some, None, is_some, refl, ap, sym, ◌∙◌, subst, arith, append_assoc, length-append}
use Rattle.std.specs.Prelude.{slice_index, slice_index_or, slice_range, String, string_bytes}
use Rattle.std.specs.Global.{Global}
use Rattle.std.specs.Option.{option_map}
use Rattle.std.specs.List.{flat_map}
use Rattle.std.specs.Str.{IsUtf8}
use Rattle.std.proofs.lemmas.Str.{IsUtf8-string_bytes, IsUtf8-nil}
use Rattle.vx_rows.specs.Span.{span}
use Rattle.vx_rows.specs.Columns.{text_row, AreRanges, AreTexts, texts_of, may_hold}
use Rattle.vx_rows.specs.Written.{text_bytes, text_place}
use Rattle.vx_rows.proofs.SpanLemmas.{length_span, get_or_span, span_same, span_push}
use Rattle.vx_rows.proofs.MakingLemmas.{IsPresence, presence_made, span_list, map_at, map_long}
use Rattle.vx_rows.proofs.CellLemmas.{take_front, drop_front}

-- one more text
pub texts_more : {A : Type 0} → (g : A → List ℕ) (xs : List A) (i : ℕ) (d : A) → i < length xs → flat_map g (take (i + 1) xs) ≡ flat_map g (take i xs) ++ g (slice_index_or xs i d)
texts_more g [] i d l = absurd (omega arith)
texts_more g (x ∷ xs) zero d l = nothing (g x)
  where
    nothing : (ys : List ℕ) → ys ++ [] ≡ ys
    nothing [] = refl
    nothing (y ∷ ys) = ap (λ zs. y ∷ zs) (nothing ys)
texts_more g (x ∷ xs) (suc i) d l =
    let e : suc i + 1 ≡ suc (i + 1) = omega arith in
    ap (λ k. flat_map g (take k (x ∷ xs))) e ∙ ap (λ ys. g x ++ ys) (texts_more g xs i d (omega arith)) ∙ sym (append_assoc (g x) (flat_map g (take i xs)) (g (slice_index_or xs i d)))

pub place_more : (rows : List (Option (List ℕ))) (i : ℕ) → i < length rows → text_place rows (i + 1) ≡ text_place rows i + length (text_bytes (slice_index_or rows i None))
place_more rows i l = ap length (texts_more text_bytes rows i None l) ∙ length-append (flat_map text_bytes (take i rows)) (text_bytes (slice_index_or rows i None))

-- the bytes of a text among others
pub text_found : {A : Type 0} → (g : A → List ℕ) (xs : List A) (d : A) (front rest : List ℕ) (i : ℕ) → i < length xs
    → take (length (g (slice_index_or xs i d))) (drop (length front + length (flat_map g (take i xs))) (front ++ (flat_map g xs ++ rest))) ≡ g (slice_index_or xs i d)
text_found g [] d front rest i l = absurd (omega arith)
text_found g (x ∷ xs) d front rest zero l =
    let e : length front ≡ length front + 0 = omega arith in
    ap (take (length (g x))) (drop_front front (flat_map g (x ∷ xs) ++ rest) (length front + 0) e)
    ∙ ap (take (length (g x))) (append_assoc (g x) (flat_map g xs) rest) ∙ take_front (g x) (flat_map g xs ++ rest) (length (g x)) refl
text_found g (x ∷ xs) d front rest (suc i) l =
    let more : length (front ++ g x) ≡ length front + length (g x) = length-append front (g x) in
    let both : length (g x ++ flat_map g (take i xs)) ≡ length (g x) + length (flat_map g (take i xs)) = length-append (g x) (flat_map g (take i xs)) in
    let place : length front + length (g x ++ flat_map g (take i xs)) ≡ length (front ++ g x) + length (flat_map g (take i xs)) = omega (arith, more, both) in
    let same : front ++ (flat_map g (x ∷ xs) ++ rest) ≡ (front ++ g x) ++ (flat_map g xs ++ rest) =
    ap (λ ys. front ++ ys) (append_assoc (g x) (flat_map g xs) rest) ∙ sym (append_assoc front (g x) (flat_map g xs ++ rest)) in
    ap (λ bs. take (length (g (slice_index_or xs i d))) (drop (length front + length (g x ++ flat_map g (take i xs))) bs)) same
    ∙ ap (λ n. take (length (g (slice_index_or xs i d))) (drop n ((front ++ g x) ++ (flat_map g xs ++ rest)))) place
    ∙ text_found g xs d (front ++ g x) rest i (omega arith)

module _ (rows : List (Option (List ℕ))) (front rest b places : List ℕ) where
  -- places of these texts, which stand behind a front
  pub record Placed : Type 0 where
    pub bytes : b ≡ front ++ (flat_map text_bytes rows ++ rest)
    pub place : (i : ℕ) → i ≤ length rows → slice_index places i ≡ length front + text_place rows i

  pub text_there : Placed → (i : ℕ) → i < length rows → slice_range b (slice_index places i) (slice_index places (i + 1)) ≡ text_bytes (slice_index_or rows i None)
  text_there p i l =
      let here = p.place i (omega arith) in
      let next = p.place (i + 1) (omega arith) in
      let more = place_more rows i l in
      let size : slice_index places (i + 1) - slice_index places i ≡ length (text_bytes (slice_index_or rows i None)) = omega (arith, here, next, more) in
      ap (λ n. take n (drop (slice_index places i) b)) size
      ∙ ap (λ n. take (length (text_bytes (slice_index_or rows i None))) (drop n b)) here
      ∙ ap (λ bs. take (length (text_bytes (slice_index_or rows i None))) (drop (length front + text_place rows i) bs)) p.bytes
      ∙ text_found text_bytes rows None front rest i l

  text-again : (row : Option (List ℕ)) → cond (is_some row) (Some (text_bytes row)) None ≡ row
  text-again None = refl
  text-again (Some t) = refl

  pub texts_rows : (present : Option (List Bool)) → Placed → IsPresence present rows → span (text_row present b places) 0 (length rows) ≡ rows
  texts_rows present p is =
      span_same _ (λ i. slice_index_or rows i None) 0 (length rows) (λ i l u.
      ap (λ h. cond h (Some (slice_range b (slice_index places i) (slice_index places (i + 1)))) None) (is i (omega arith))
      ∙ ap (λ t. cond (is_some (slice_index_or rows i None)) (Some t) None) (text_there p i (omega arith))
      ∙ text-again (slice_index_or rows i None))
      ∙ span_list None rows

  places-rise : (k n : ℕ) → k + n ≤ length rows → text_place rows k ≤ text_place rows (k + n)
  places-rise k zero h = let e : k ≡ k + 0 = omega arith in subst (λ m. text_place rows k ≤ text_place rows m) e (omega arith)
  places-rise k (suc n) h =
      let e : k + n + 1 ≡ k + suc n = omega arith in
      let more = place_more rows (k + n) (omega (arith, h)) in
      let so-far = places-rise k n (omega (arith, h)) in
      subst (λ m. text_place rows k ≤ text_place rows m) e (omega (arith, more, so-far))

  all-taken : {A : Type 0} → (xs : List A) → take (length xs) xs ≡ xs
  all-taken [] = refl
  all-taken (x ∷ xs) = ap (λ ys. x ∷ ys) (all-taken xs)

  pub placed_ranges : Placed → AreRanges b places (length rows)
  placed_ranges p = record {
    ordered = λ i l.
        let here = p.place i (omega arith) in
        let next = p.place (i + 1) (omega arith) in
        let more = place_more rows i l in
        omega (arith, here, next, more);
    inside = λ i l.
        let next = p.place (i + 1) (omega arith) in
        let count : i + 1 + (length rows - (i + 1)) ≡ length rows = omega (arith, l) in
        let rise = places-rise (i + 1) (length rows - (i + 1)) (omega (arith, l)) in
        let last : text_place rows (i + 1) ≤ text_place rows (length rows) = subst (λ m. text_place rows (i + 1) ≤ text_place rows m) count rise in
        let all : text_place rows (length rows) ≡ length (flat_map text_bytes rows) = ap (λ xs. length (flat_map text_bytes xs)) (all-taken rows) in
        let long : length b ≡ length front + (length (flat_map text_bytes rows) + length rest) =
        ap length p.bytes ∙ length-append front (flat_map text_bytes rows ++ rest) ∙ ap (λ n. length front + n) (length-append (flat_map text_bytes rows) rest) in
        omega (arith, next, last, all, long);
  }

  pub placed_texts : Placed → ((i : ℕ) → i < length rows → IsUtf8 (text_bytes (slice_index_or rows i None))) → AreTexts b places (length rows)
  placed_texts p h = record { text = λ i l. subst IsUtf8 (sym (text_there p i l)) (h i l) }

-- ---- texts that are kept

pub strings_are : (values : List (Option (String Global))) (i : ℕ) → i < length (texts_of values) → IsUtf8 (text_bytes (slice_index_or (texts_of values) i None))
strings_are [] i l = absurd (omega arith)
strings_are (None ∷ values) zero l = IsUtf8-nil
strings_are (Some s ∷ values) zero l = IsUtf8-string_bytes s
strings_are (v ∷ values) (suc i) l = strings_are values i (omega arith)

-- texts and places so far
pub record Gathered (rows : List (Option (List ℕ))) (i : ℕ) (bytes places : List ℕ) : Type 0 where
  pub bytes_are : bytes ≡ flat_map text_bytes (take i rows)
  pub places_are : places ≡ span (text_place rows) 0 (i + 1)

pub gathered_none : (rows : List (Option (List ℕ))) → Gathered rows 0 [] (0 ∷ [])
gathered_none rows = record { bytes_are = refl; places_are = refl }

pub gathered_more : (rows : List (Option (List ℕ))) (i : ℕ) (row : Option (List ℕ)) (bytes bytes' places places' : List ℕ) → Gathered rows i bytes places → i < length rows → row ≡ slice_index_or rows i None
    → bytes' ≡ bytes ++ text_bytes row → places' ≡ places ++ length bytes' ∷ [] → Gathered rows (i + 1) bytes' places'
gathered_more rows i row bytes bytes' places places' g l is b p =
    let all : bytes' ≡ flat_map text_bytes (take (i + 1) rows) =
    b ∙ ap (λ bs. bs ++ text_bytes row) g.bytes_are ∙ ap (λ r. flat_map text_bytes (take i rows) ++ text_bytes r) is ∙ sym (texts_more text_bytes rows i None l) in
    let e : 0 + (i + 1) ≡ i + 1 = omega arith in
    record {
      bytes_are = all;
      places_are = p ∙ ap (λ ps. ps ++ length bytes' ∷ []) g.places_are ∙ ap (λ bs. span (text_place rows) 0 (i + 1) ++ length bs ∷ []) all
          ∙ ap (λ k. span (text_place rows) 0 (i + 1) ++ text_place rows k ∷ []) (sym e) ∙ sym (span_push (text_place rows) 0 (i + 1));
    }

behind-none : (bytes : List ℕ) → bytes ≡ [] ++ (bytes ++ [])
behind-none [] = refl
behind-none (b ∷ bytes) = ap (λ bs. b ∷ bs) (behind-none bytes)

taken-all : {A : Type 0} → (xs : List A) → take (length xs) xs ≡ xs
taken-all [] = refl
taken-all (x ∷ xs) = ap (λ ys. x ∷ ys) (taken-all xs)

pub all_gathered : (rows : List (Option (List ℕ))) (bytes places : List ℕ) → Gathered rows (length rows) bytes places → bytes ≡ flat_map text_bytes rows
all_gathered rows bytes places g = g.bytes_are ∙ ap (flat_map text_bytes) (taken-all rows)

pub gathered_placed : (rows : List (Option (List ℕ))) (bytes places : List ℕ) → bytes ≡ flat_map text_bytes rows → places ≡ span (text_place rows) 0 (length rows + 1) → Placed rows [] [] bytes places
gathered_placed rows bytes places b p = record {
  bytes = b ∙ behind-none (flat_map text_bytes rows);
  place = λ i l.
      let e : 0 + i ≡ i = omega arith in
      let none : text_place rows i ≡ 0 + text_place rows i = omega arith in
      ap (λ ps. slice_index ps i) p ∙ get_or_span (text_place rows) 0 (length rows + 1) i 0 (omega (arith, l)) ∙ ap (text_place rows) e ∙ none;
}

-- ---- the same of texts that are kept

module _ (values : List (Option (String Global))) (bytes places : List ℕ) where
  strings-long : length (texts_of values) ≡ length values
  strings-long = map_long (λ (value : Option (String Global)). option_map string_bytes value) values

  strings-placed : bytes ≡ flat_map text_bytes (texts_of values) → places ≡ span (text_place (texts_of values)) 0 (length values + 1) → Placed (texts_of values) [] [] bytes places
  strings-placed b p = gathered_placed (texts_of values) bytes places b (p ∙ ap (λ n. span (text_place (texts_of values)) 0 (n + 1)) (sym strings-long))

  pub held_ranges : bytes ≡ flat_map text_bytes (texts_of values) → places ≡ span (text_place (texts_of values)) 0 (length values + 1) → AreRanges bytes places (length values)
  held_ranges b p = subst (AreRanges bytes places) strings-long (placed_ranges (texts_of values) [] [] bytes places (strings-placed b p))

  pub held_texts : bytes ≡ flat_map text_bytes (texts_of values) → places ≡ span (text_place (texts_of values)) 0 (length values + 1) → AreTexts bytes places (length values)
  held_texts b p = subst (AreTexts bytes places) strings-long (placed_texts (texts_of values) [] [] bytes places (strings-placed b p) (strings_are values))

pub held_long : (values : List (Option (String Global))) (places : List ℕ) → places ≡ span (text_place (texts_of values)) 0 (length values + 1) → length places ≡ length values + 1
held_long values places p = ap length p ∙ length_span (text_place (texts_of values)) 0 (length values + 1)

string-there : (v : Option (String Global)) → is_some v ≡ is_some (option_map string_bytes v)
string-there None = refl
string-there (Some s) = refl

pub texts_held : (nullable : Bool) (values : List (Option (String Global))) (present : Option (List Bool)) (bytes places : List ℕ) → may_hold nullable values ≡ true
    → present ≡ cond nullable (Some (map is_some values)) None → bytes ≡ flat_map text_bytes (texts_of values) → places ≡ span (text_place (texts_of values)) 0 (length values + 1)
    → span (text_row present bytes places) 0 (length values) ≡ texts_of values
texts_held nullable values present bytes places h q b p =
    let long = map_long (λ (value : Option (String Global)). option_map string_bytes value) values in
    ap (span (text_row present bytes places) 0) (sym long)
    ∙ texts_rows (texts_of values) [] [] bytes places present (strings-placed values bytes places b p)
    (λ i l. presence_made nullable values present h q i (omega (arith, long, l)) ∙ string-there (slice_index_or values i None)
    ∙ ap is_some (sym (map_at (λ (value : Option (String Global)). option_map string_bytes value) values i None None (omega (arith, long, l)))))

-- a text is no longer than all of them
pub text_short : (rows : List (Option (List ℕ))) (i : ℕ) → i < length rows → length (text_bytes (slice_index_or rows i None)) ≤ length (flat_map text_bytes rows)
text_short [] i l = absurd (omega (arith, l))
text_short (row ∷ rows) zero l = let e = length-append (text_bytes row) (flat_map text_bytes rows) in omega (arith, e)
text_short (row ∷ rows) (suc i) l =
    let e = length-append (text_bytes row) (flat_map text_bytes rows) in
    let h = text_short rows i (omega (arith, l)) in
    omega (arith, e, h)
