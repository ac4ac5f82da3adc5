-- Parts of runs of values, and so of columns.
use Rattle.std.proofs.Common.{◌≡◌, ℕ, zero, suc, ◌+◌, ◌-◌, ◌*◌, ◌<◌, ◌≤◌, Bool, true, cond, List, ◌∷◌, length, take, drop, min, Option, Some, None, refl, ap, sym, ◌∙◌, subst, arith, ◌⊎◌, inl, inr}
use Rattle.std.specs.Prelude.{slice_index, slice_index_or, slice_range, ◌||◌, ◌==◌, not, IfSome}
use Rattle.std.specs.Option.{option_map}
use Rattle.std.specs.Str.{IsUtf8}
use Rattle.std.proofs.lemmas.List.{get_or-drop, get_or-take, drop_all, take_all, length-drop, length-take-le}
use Rattle.std.proofs.lemmas.Bool.{cases_lt}
use Rattle.std.proofs.Math.Nat.{min-eq_left, min-eq_right, mul-le-mul_left}
use Rattle.vx_data.specs.declared.ptype.PType.{PType}
use Rattle.vx_rows.specs.Span.{span, every}
use Rattle.vx_rows.specs.Bits.{bit, present_at}
use Rattle.vx_rows.specs.Columns.{Ints, Texts, Structs, bool_row, is_false_row, int_row, is_clear, raw_at, value_of, value_size, value_place, text_row, AreRanges, AreTexts}
use Rattle.vx_rows.proofs.SpanLemmas.{length_span, every_all, every_holds}

-- ---- runs

pub drop_span : {A : Type 0} → (f : ℕ → A) (k n a : ℕ) → a ≤ n → drop a (span f k n) ≡ span f (k + a) (n - a)
drop_span f k n zero h =
    let a : k ≡ k + 0 = omega arith in
    let b : n ≡ n - 0 = omega arith in
    ap (λ j. span f j n) a ∙ ap (span f (k + 0)) b
drop_span f k zero (suc a) h = absurd (omega arith)
drop_span f k (suc n) (suc a) h =
    let e : suc n - suc a ≡ n - a = omega arith in
    let p : k + 1 + a ≡ k + suc a = omega arith in
    drop_span f (k + 1) n a (omega arith) ∙ ap (λ j. span f j (n - a)) p ∙ ap (span f (k + suc a)) (sym e)

pub take_span : {A : Type 0} → (f : ℕ → A) (k n m : ℕ) → m ≤ n → take m (span f k n) ≡ span f k m
take_span f k n zero h = refl
take_span f k zero (suc m) h = absurd (omega arith)
take_span f k (suc n) (suc m) h = ap (λ xs. f k ∷ xs) (take_span f (k + 1) n m (omega arith))

-- a part of a run
pub slice_span : {A : Type 0} → (f : ℕ → A) (k n a b : ℕ) → a ≤ b → b ≤ n → slice_range (span f k n) a b ≡ span f (k + a) (b - a)
slice_span f k n a b o h = ap (take (b - a)) (drop_span f k n a (omega (arith, o, h))) ∙ take_span f (k + a) (n - a) (b - a) (omega (arith, o, h))

-- the same values, counted from another number
pub span_moved : {A : Type 0} → (f g : ℕ → A) (j k n : ℕ) → ((i : ℕ) → i < n → g (j + i) ≡ f (k + i)) → span g j n ≡ span f k n
span_moved f g j k zero h = refl
span_moved {A} f g j k (suc n) h =
    let p : j + 0 ≡ j = omega arith in
    let q : k + 0 ≡ k = omega arith in
    let first : g j ≡ f k = ap g (sym p) ∙ h 0 (omega arith) ∙ ap f q in
    ap (λ (x : A). x ∷ span g (j + 1) n) first ∙ ap (λ xs. f k ∷ xs) (span_moved f g (j + 1) (k + 1) n (λ i l.
    let a : j + 1 + i ≡ j + suc i = omega arith in
    let b : k + 1 + i ≡ k + suc i = omega arith in
    ap g a ∙ h (suc i) (omega (arith, l)) ∙ ap f (sym b)))

-- a part of a run is a run of its own
pub part_is : {A : Type 0} → (f g : ℕ → A) (n a b : ℕ) → a ≤ b → b ≤ n → ((i : ℕ) → i < b - a → g i ≡ f (a + i)) → span g 0 (b - a) ≡ slice_range (span f 0 n) a b
part_is f g n a b o h same =
    let z : 0 + a ≡ a = omega arith in
    span_moved f g 0 a (b - a) (λ i l. let e : 0 + i ≡ i = omega arith in ap g e ∙ same i l)
    ∙ ap (λ j. span f j (b - a)) (sym z) ∙ sym (slice_span f 0 n a b o h)

pub part_every : (f g : ℕ → Bool) (n a b : ℕ) → a ≤ b → b ≤ n → ((i : ℕ) → i < b - a → g i ≡ f (a + i)) → every f 0 n ≡ true → every g 0 (b - a) ≡ true
part_every f g n a b o h same all =
    every_holds g 0 (b - a) (λ i l u.
    let z : a + i ≡ 0 + (a + i) = omega arith in
    same i (omega (arith, u)) ∙ ap f z ∙ every_all f 0 n all (a + i) (omega (arith, u, o, h)))

-- ---- bits

pub bits_cut : (b : List ℕ) (at first count from to : ℕ) → from ≤ to → to ≤ length (span (bit b at) first count) → span (bit b at) (first + from) (to - from) ≡ slice_range (span (bit b at) first count) from to
bits_cut b at first count from to o h =
    let size = length_span (bit b at) first count in
    sym (slice_span (bit b at) first count from to o (omega (arith, h, size)))

-- ---- a part as far as there are rows

all-of : {A : Type 0} → (xs : List A) (from k : ℕ) → length xs ≤ from + k → take k (drop from xs) ≡ drop from xs
all-of xs from k h = let size = length-drop from xs in take_all k (drop from xs) (omega (arith, size, h))

pub clamped : {A : Type 0} → (xs : List A) (from to : ℕ) → from ≤ to → slice_range xs (min from (min to (length xs))) (min to (length xs)) ≡ slice_range xs from to
clamped xs from to o = by (cases_lt to (length xs)) (cases_lt from (length xs))
  where
    end : (m k : ℕ) → min to (length xs) ≡ k → min from k ≡ m → slice_range xs (min from (min to (length xs))) (min to (length xs)) ≡ slice_range xs m k
    end m k e f = ap (λ j. slice_range xs (min from j) j) e ∙ ap (λ j. slice_range xs j k) f

    by : (to < length xs) ⊎ (length xs ≤ to) → (from < length xs) ⊎ (length xs ≤ from) → slice_range xs (min from (min to (length xs))) (min to (length xs)) ≡ slice_range xs from to
    by (inl l) _ = end from to (min-eq_left (omega (arith, l))) (min-eq_left o)
    by (inr g) (inl l) =
        end from (length xs) (min-eq_right g) (min-eq_left (omega (arith, l)))
        ∙ all-of xs from (length xs - from) (omega (arith, l)) ∙ sym (all-of xs from (to - from) (omega (arith, g, o)))
    by (inr g) (inr h) =
        let none : length xs - length xs ≡ 0 = omega arith in
        end (length xs) (length xs) (min-eq_right g) (min-eq_right h)
        ∙ ap (λ k. take k (drop (length xs) xs)) none ∙ sym (drop_all from xs h) ∙ sym (all-of xs from (to - from) (omega (arith, g, o)))

-- ---- which rows have a value

slice-at : {A : Type 0} → (xs : List A) (from to i : ℕ) (d : A) → i < to - from → slice_index_or (slice_range xs from to) i d ≡ slice_index_or xs (from + i) d
slice-at xs from to i d l = get_or-take (to - from) (drop from xs) i d l ∙ get_or-drop from xs i d

pub present_cut : (present : Option (List Bool)) (from to i : ℕ) → i < to - from → present_at (option_map (λ (bits : List Bool). slice_range bits from to) present) i ≡ present_at present (from + i)
present_cut None from to i l = refl
present_cut (Some bits) from to i l = slice-at bits from to i true l

pub present_long : (present : Option (List Bool)) (n from to : ℕ) → from ≤ to → to ≤ n → IfSome present (λ bits. length bits ≡ n)
    → IfSome (option_map (λ (bits : List Bool). slice_range bits from to) present) (λ bits. length bits ≡ to - from)
present_long None n from to o h e = tt
present_long (Some bits) n from to o h e =
    let size = length-drop from bits in
    length-take-le (to - from) (drop from bits) (omega (arith, size, e, h))

-- ---- truth values

module _ (present : Option (List Bool)) (values : List Bool) (from to : ℕ) (o : from ≤ to) (h : to ≤ length values) where
  abbrev pub bits-after : Option (List Bool)
  bits-after = option_map (λ (bits : List Bool). slice_range bits from to) present

  long : length (slice_range values from to) ≡ to - from
  long = let size = length-drop from values in length-take-le (to - from) (drop from values) (omega (arith, size, h))

  bool-at : (i : ℕ) → i < to - from → bool_row bits-after (slice_range values from to) i ≡ bool_row present values (from + i)
  bool-at i l =
      ap (λ b. cond b (Some (slice_index_or (slice_range values from to) i true)) None) (present_cut present from to i l)
      ∙ ap (λ v. cond (present_at present (from + i)) (Some v) None) (slice-at values from to i true l)

  false-at : (i : ℕ) → i < to - from → is_false_row bits-after (slice_range values from to) i ≡ is_false_row present values (from + i)
  false-at i l =
      ap (λ b. b || not (slice_index_or (slice_range values from to) i true)) (present_cut present from to i l)
      ∙ ap (λ v. present_at present (from + i) || not v) (slice-at values from to i true l)

  pub bools_cut : span (bool_row bits-after (slice_range values from to)) 0 (length (slice_range values from to)) ≡ slice_range (span (bool_row present values) 0 (length values)) from to
  bools_cut = ap (span (bool_row bits-after (slice_range values from to)) 0) long ∙ part_is (bool_row present values) _ (length values) from to o h bool-at

  pub bools_cut_clear : every (is_false_row present values) 0 (length values) ≡ true → every (is_false_row bits-after (slice_range values from to)) 0 (length (slice_range values from to)) ≡ true
  bools_cut_clear all =
      ap (every (is_false_row bits-after (slice_range values from to)) 0) long
      ∙ part_every (is_false_row present values) _ (length values) from to o h false-at all

  pub bools_cut_long : IfSome present (λ bits. length bits ≡ length values) → IfSome bits-after (λ bits. length bits ≡ length (slice_range values from to))
  bools_cut_long e = subst (λ n. IfSome bits-after (λ bits. length bits ≡ n)) (sym long) (present_long present (length values) from to o h e)

-- ---- integers

place-at : (p : PType) (at from i : ℕ) → value_place p (value_place p at from) i ≡ value_place p at (from + i)
place-at p at from i = scaled (value_size p) at from i
  where
    scaled : (s at from i : ℕ) → at + s * from + s * i ≡ at + s * (from + i)
    scaled s at from i = grind arith

-- where a row begins is no greater than where all end
pub place_upto : (p : PType) (at from n len : ℕ) → from ≤ n → value_place p at n ≤ len → value_place p at from ≤ len
place_upto p at from n len h l = let more = mul-le-mul_left (value_size p) h in omega (arith, more, l)

-- as many rows as are seen
pub ints_seen : (p : PType) (nullable : Bool) (present : Option (List Bool)) (b : List ℕ) (at n to : ℕ) (c : Ints)
    → record { ptype = p; nullable = nullable; rows = span (int_row p present b at) 0 n } ≡ c → to ≤ length c.rows → to ≤ n
ints_seen p nullable present b at n to c e l =
    let size = length_span (int_row p present b at) 0 n in
    let same = ap (λ (x : Ints). length x.rows) e in
    omega (arith, size, same, l)

pub texts_seen : (nullable : Bool) (present : Option (List Bool)) (b places : List ℕ) (n to : ℕ) (c : Texts)
    → record { nullable = nullable; rows = span (text_row present b places) 0 n } ≡ c → to ≤ length c.rows → to ≤ n
texts_seen nullable present b places n to c e l =
    let size = length_span (text_row present b places) 0 n in
    let same = ap (λ (x : Texts). length x.rows) e in
    omega (arith, size, same, l)

pub structs_seen : (nullable : Bool) (present : Option (List Bool)) (n to : ℕ) (c : Structs)
    → record { nullable = nullable; present = span (present_at present) 0 n } ≡ c → to ≤ length c.present → to ≤ n
structs_seen nullable present n to c e l =
    let size = length_span (present_at present) 0 n in
    let same = ap (λ (x : Structs). length x.present) e in
    omega (arith, size, same, l)

module _ (p : PType) (present : Option (List Bool)) (b : List ℕ) (at n from to : ℕ) (o : from ≤ to) (h : to ≤ n) where
  abbrev pub ints-after : Option (List Bool)
  ints-after = option_map (λ (bits : List Bool). slice_range bits from to) present

  int-at : (i : ℕ) → i < to - from → int_row p ints-after b (value_place p at from) i ≡ int_row p present b at (from + i)
  int-at i l =
      ap (λ t. cond t (Some (value_of p (raw_at p b (value_place p (value_place p at from) i)))) None) (present_cut present from to i l)
      ∙ ap (λ q. cond (present_at present (from + i)) (Some (value_of p (raw_at p b q))) None) (place-at p at from i)

  clear-at-row : (i : ℕ) → i < to - from → is_clear p ints-after b (value_place p at from) i ≡ is_clear p present b at (from + i)
  clear-at-row i l =
      ap (λ t. t || (raw_at p b (value_place p (value_place p at from) i) == 0)) (present_cut present from to i l)
      ∙ ap (λ q. present_at present (from + i) || (raw_at p b q == 0)) (place-at p at from i)

  pub ints_cut : span (int_row p ints-after b (value_place p at from)) 0 (to - from) ≡ slice_range (span (int_row p present b at) 0 n) from to
  ints_cut = part_is (int_row p present b at) _ n from to o h int-at

  pub ints_cut_clear : every (is_clear p present b at) 0 n ≡ true → every (is_clear p ints-after b (value_place p at from)) 0 (to - from) ≡ true
  ints_cut_clear all = part_every (is_clear p present b at) _ n from to o h clear-at-row all

  pub ints_cut_inside : value_place p at n ≤ length b → value_place p (value_place p at from) (to - from) ≤ length b
  ints_cut_inside l =
      let e : from + (to - from) ≡ to = omega (arith, o) in
      let place = place-at p at from (to - from) ∙ ap (value_place p at) e in
      let more = mul-le-mul_left (value_size p) h in
      omega (arith, place, more, l)

-- ---- texts

module _ (present : Option (List Bool)) (b places : List ℕ) (n from to : ℕ) (o : from ≤ to) (h : to ≤ n) (size : length places ≡ n + 1) where
  abbrev pub texts-after : Option (List Bool)
  texts-after = option_map (λ (bits : List Bool). slice_range bits from to) present

  abbrev pub places-after : List ℕ
  places-after = slice_range places from (to + 1)

  place-of : (i : ℕ) → i < to + 1 - from → slice_index places-after i ≡ slice_index places (from + i)
  place-of i l = slice-at places from (to + 1) i 0 l

  next-of : (i : ℕ) → i < to - from → slice_index places-after (i + 1) ≡ slice_index places (from + i + 1)
  next-of i l = let e : from + (i + 1) ≡ from + i + 1 = omega arith in place-of (i + 1) (omega (arith, l, o)) ∙ ap (slice_index places) e

  range-of : (i : ℕ) → i < to - from → slice_range b (slice_index places-after i) (slice_index places-after (i + 1)) ≡ slice_range b (slice_index places (from + i)) (slice_index places (from + i + 1))
  range-of i l = ap (λ k. slice_range b k (slice_index places-after (i + 1))) (place-of i (omega (arith, l))) ∙ ap (slice_range b (slice_index places (from + i))) (next-of i l)

  text-at : (i : ℕ) → i < to - from → text_row texts-after b places-after i ≡ text_row present b places (from + i)
  text-at i l =
      ap (λ t. cond t (Some (slice_range b (slice_index places-after i) (slice_index places-after (i + 1)))) None) (present_cut present from to i l)
      ∙ ap (λ t. cond (present_at present (from + i)) (Some t) None) (range-of i l)

  pub texts_cut : span (text_row texts-after b places-after) 0 (to - from) ≡ slice_range (span (text_row present b places) 0 n) from to
  texts_cut = part_is (text_row present b places) _ n from to o h text-at

  pub texts_cut_long : length places-after ≡ to - from + 1
  texts_cut_long = let left = length-drop from places in length-take-le (to + 1 - from) (drop from places) (omega (arith, left, size, h)) ∙ omega (arith, o)

  pub ranges_cut : AreRanges b places n → AreRanges b places-after (to - from)
  ranges_cut r = record {
    ordered = λ i l. let x = place-of i (omega (arith, l)) in let y = next-of i l in let z = r.ordered (from + i) (omega (arith, l, h)) in omega (arith, x, y, z);
    inside = λ i l. let y = next-of i l in let z = r.inside (from + i) (omega (arith, l, h)) in omega (arith, y, z);
  }

  pub utf8_cut : AreTexts b places n → AreTexts b places-after (to - from)
  utf8_cut t = record { text = λ i l. subst IsUtf8 (sym (range-of i l)) (t.text (from + i) (omega (arith, l, h))) }

-- ---- structs

pub structs_cut : (present : Option (List Bool)) (n from to : ℕ) → from ≤ to → to ≤ n
    → span (present_at (option_map (λ (bits : List Bool). slice_range bits from to) present)) 0 (to - from) ≡ slice_range (span (present_at present) 0 n) from to
structs_cut present n from to o h = part_is (present_at present) _ n from to o h (present_cut present from to)
