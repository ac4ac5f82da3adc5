-- Columns that grow by the rows of others, and columns that are cut back.
use Rattle.std.proofs.Common.{◌≡◌, ℕ, ℤ, zero, suc, ◌+◌, ◌-◌, ◌*◌, ◌<◌, ◌≤◌, Bool, true, false, cond, List, [], ◌∷◌, ◌++◌, length, map, take, drop, min, Option, Some, None, is_some, refl, ap, sym, ◌∙◌, subst, arith, append_assoc, ◌⊎◌, inl, inr}
use Rattle.std.specs.Prelude.{slice_index, slice_index_or, slice_range, ◌||◌, ◌&&◌, ◌==◌, not, IfSome}
use Rattle.std.specs.List.{flat_map, list_all}
use Rattle.std.specs.Str.{IsUtf8}
use Rattle.std.specs.Int.{from_le_bytes}
use Rattle.std.proofs.lemmas.List.{append-nil, take_more, take_all, drop-take, length-take-le, get_or-take}
use Rattle.std.proofs.lemmas.Bool.{cases_lt}
use Rattle.std.proofs.Math.Nat.{min-eq_left, min-eq_right, mul-le-mul_left}
use Rattle.vx_data.specs.declared.ptype.PType.{PType}
use Rattle.vx_rows.specs.Span.{span, every}
use Rattle.vx_rows.specs.Bits.{present_at}
use Rattle.vx_rows.specs.Columns.{Bools, Ints, Structs, bool_row, is_false_row, int_row, is_clear, raw_at, value_of, width, value_size, value_place, text_row, AreRanges, AreTexts, may_hold}
use Rattle.vx_rows.specs.Rows.{AreWithin}
use Rattle.vx_rows.specs.ReadRows.{more_bools}
use Rattle.vx_rows.specs.Written.{is_within, cell}
use Rattle.vx_rows.specs.Kept.{kept}
use Rattle.vx_rows.proofs.SpanLemmas.{span_same, every_all, every_holds}
use Rattle.vx_rows.proofs.IntLemmas.{place_inside}
use Rattle.vx_rows.proofs.CutLemmas.{take_span}
use Rattle.vx_rows.proofs.ColumnLaws.{take-twice}
use Rattle.vx_rows.proofs.GrowingLemmas.{ints_grow, ints_stay_clear, ints_stay_long}

-- ---- which rows are null

hold-first : (nullable a b : Bool) → (nullable || (a && b)) ≡ true → (nullable || a) ≡ true
hold-first true a b h = refl
hold-first false true b h = refl
hold-first false false b h = h

hold-rest : (nullable a b : Bool) → (nullable || (a && b)) ≡ true → (nullable || b) ≡ true
hold-rest true a b h = refl
hold-rest false true b h = h
hold-rest false false b h = cc

-- where none of the rows is missing, the next one is not
pub hold_at : {A : Type 0} → (nullable : Bool) (rows : List (Option A)) (i : ℕ) (d : Option A) → may_hold nullable rows ≡ true → i < length rows → (nullable || is_some (slice_index_or rows i d)) ≡ true
hold_at nullable [] i d h l = absurd (omega (arith, l))
hold_at nullable (row ∷ rows) zero d h l = hold-first nullable (is_some row) (list_all is_some rows) h
hold_at nullable (row ∷ rows) (suc i) d h l = hold_at nullable rows i d (hold-rest nullable (is_some row) (list_all is_some rows) h) (omega (arith, l))

-- ---- row by row

module _ (c : Bools) (rows : List (Option Bool)) where
  abbrev pub bools_upto : ℕ → Bools
  bools_upto n = record { nullable = c.nullable; rows = c.rows ++ take n rows }

  pub bools_next : (i : ℕ) → i < length rows → more_bools (bools_upto i) (slice_index_or rows i None) ≡ bools_upto (i + 1)
  bools_next i l =
      ap (λ (xs : List (Option Bool)). record { nullable = c.nullable; rows = xs })
      (append_assoc c.rows (take i rows) (slice_index_or rows i None ∷ []) ∙ ap (λ xs. c.rows ++ xs) (sym (take_more rows i None l)))

  pub bools_none : bools_upto 0 ≡ c
  bools_none = ap (λ (xs : List (Option Bool)). record { nullable = c.nullable; rows = xs }) (append-nil c.rows)

  pub bools_all : (n : ℕ) → length rows ≤ n → bools_upto n ≡ record { nullable = c.nullable; rows = c.rows ++ rows }
  bools_all n l = ap (λ (xs : List (Option Bool)). record { nullable = c.nullable; rows = c.rows ++ xs }) (take_all n rows l)

-- ---- integers, all at once

module _ (p : PType) (nullable : Bool) where
  abbrev pub ints-of : List Bool → List ℕ → List (Option ℤ)
  ints-of flags bytes = span (int_row p (cond nullable (Some flags) None) bytes 0) 0 (length flags)

  abbrev pub are-clear : List Bool → List ℕ → Type 0
  are-clear flags bytes = every (is_clear p (cond nullable (Some flags) None) bytes 0) 0 (length flags) ≡ true

  abbrev pub Joins : List (Option ℤ) → List (Option ℤ) → List Bool → List ℕ → Type 0
  Joins old rows flags bytes = (ints-of flags bytes ≡ old ++ rows) × (length bytes ≡ value_size p * length flags) × are-clear flags bytes

  pub ints_join : (rows : List (Option ℤ)) (flags : List Bool) (bytes : List ℕ) → length bytes ≡ value_size p * length flags → are-clear flags bytes → may_hold nullable rows ≡ true → AreWithin p rows
      → Joins (ints-of flags bytes) rows (flags ++ map is_some rows) (bytes ++ flat_map (cell p) rows)
  ints_join [] flags bytes long clear hold within =
      subst (λ fs. Joins (ints-of flags bytes) [] fs (bytes ++ [])) (sym (append-nil flags))
      (subst (Joins (ints-of flags bytes) [] flags) (sym (append-nil bytes)) (sym (append-nil (ints-of flags bytes)), long, clear))
  ints_join (row ∷ rows) flags bytes long clear hold within =
      let first = hold-first nullable (is_some row) (list_all is_some rows) hold in
      let fits : IfSome row (λ n. is_within p n ≡ true) = within 0 row (omega arith) in
      let rest = ints_join rows (flags ++ is_some row ∷ []) (bytes ++ cell p row) (ints_stay_long p nullable flags bytes row long first)
      (ints_stay_clear p nullable flags bytes row long first clear) (hold-rest nullable (is_some row) (list_all is_some rows) hold) (λ i d l. within (suc i) d (omega (arith, l))) in
      let grown = ap (λ xs. xs ++ rows) (ints_grow p nullable flags bytes row long first fits) ∙ append_assoc (ints-of flags bytes) (row ∷ []) rows in
      subst (λ fs. Joins (ints-of flags bytes) (row ∷ rows) fs (bytes ++ flat_map (cell p) (row ∷ rows))) (append_assoc flags (is_some row ∷ []) (map is_some rows))
      (subst (Joins (ints-of flags bytes) (row ∷ rows) ((flags ++ is_some row ∷ []) ++ map is_some rows)) (append_assoc bytes (cell p row) (flat_map (cell p) rows))
      (rest.0 ∙ grown, rest.1, rest.2))

module _ (p : PType) (f g : Structs) (bytes bytes' : List ℕ) (rows : List (Option ℤ)) (c : Ints)
    (e : record { ptype = p; nullable = f.nullable; rows = span (int_row p (kept f) bytes 0) 0 (length f.present) } ≡ c)
    (long : length bytes ≡ value_size p * length f.present) (clear : every (is_clear p (kept f) bytes 0) 0 (length f.present) ≡ true)
    (allowed : may_hold c.nullable rows ≡ true) (within : AreWithin c.ptype rows)
    (flag : g ≡ record { nullable = f.nullable; present = f.present ++ map is_some rows }) (value : bytes' ≡ bytes ++ flat_map (cell c.ptype) rows) where
  abbrev pub seen : Ints
  seen = record { ptype = p; nullable = f.nullable; rows = span (int_row p (kept f) bytes 0) 0 (length f.present) }

  together : Joins p f.nullable seen.rows rows (f.present ++ map is_some rows) (bytes ++ flat_map (cell p) rows)
  together = ints_join p f.nullable rows f.present bytes long clear (subst (λ (x : Ints). may_hold x.nullable rows ≡ true) (sym e) allowed) (subst (λ (x : Ints). AreWithin x.ptype rows) (sym e) within)

  placed : bytes' ≡ bytes ++ flat_map (cell p) rows
  placed = value ∙ ap (λ (x : Ints). bytes ++ flat_map (cell x.ptype) rows) (sym e)

  pub ints_joined : ◌≡◌ {A = Ints} (record { ptype = p; nullable = g.nullable; rows = span (int_row p (kept g) bytes' 0) 0 (length g.present) })
      (record { ptype = c.ptype; nullable = c.nullable; rows = c.rows ++ rows })
  ints_joined =
      let made : ◌≡◌ {A = Ints} (record { ptype = p; nullable = f.nullable; rows = ints-of p f.nullable (f.present ++ map is_some rows) (bytes ++ flat_map (cell p) rows) })
      (record { ptype = c.ptype; nullable = c.nullable; rows = c.rows ++ rows }) =
      ap (λ (xs : List (Option ℤ)). record { ptype = p; nullable = f.nullable; rows = xs }) together.0
      ∙ ap (λ (x : Ints). record { ptype = x.ptype; nullable = x.nullable; rows = x.rows ++ rows }) e in
      rw (flag, placed) made

  pub ints_joined_well : (length bytes' ≡ value_size p * length g.present) × (every (is_clear p (kept g) bytes' 0) 0 (length g.present) ≡ true)
  ints_joined_well = rw (flag, placed) (together.1, together.2)

-- ---- rows that are cut off

pub front_is : {A : Type 0} → (f g : ℕ → A) (n m : ℕ) → n ≤ m → ((i : ℕ) → i < n → g i ≡ f i) → span g 0 n ≡ take n (span f 0 m)
front_is f g n m l same = span_same g f 0 n (λ i a b. same i (omega (arith, b))) ∙ sym (take_span f 0 m n l)

pub front_every : (f g : ℕ → Bool) (n m : ℕ) → n ≤ m → ((i : ℕ) → i < n → g i ≡ f i) → every f 0 m ≡ true → every g 0 n ≡ true
front_every f g n m l same all = every_holds g 0 n (λ i a b. let z : i ≡ 0 + i = omega arith in same i (omega (arith, b)) ∙ ap f z ∙ every_all f 0 m all i (omega (arith, b, l)))

pub take_upto : {A : Type 0} → (n : ℕ) (xs : List A) → take (min n (length xs)) xs ≡ take n xs
take_upto n xs = by (cases_lt n (length xs))
  where
    by : (n < length xs) ⊎ (length xs ≤ n) → take (min n (length xs)) xs ≡ take n xs
    by (inl l) = ap (λ k. take k xs) (min-eq_left (omega (arith, l)))
    by (inr g) = ap (λ k. take k xs) (min-eq_right g) ∙ take_all (length xs) xs (omega arith) ∙ sym (take_all n xs g)

flag-before : (nullable : Bool) (flags : List Bool) (n i : ℕ) → i < n → present_at (cond nullable (Some (take n flags)) None) i ≡ present_at (cond nullable (Some flags) None) i
flag-before true flags n i l = get_or-take n flags i true l
flag-before false flags n i l = refl

module _ (nullable : Bool) (flags values : List Bool) (n : ℕ) (same : length flags ≡ length values) (l : n ≤ length values) where
  bool-before : (i : ℕ) → i < n → bool_row (cond nullable (Some (take n flags)) None) (take n values) i ≡ bool_row (cond nullable (Some flags) None) values i
  bool-before i u =
      ap (λ t. cond t (Some (slice_index_or (take n values) i true)) None) (flag-before nullable flags n i u)
      ∙ ap (λ v. cond (present_at (cond nullable (Some flags) None) i) (Some v) None) (get_or-take n values i true u)

  false-before : (i : ℕ) → i < n → is_false_row (cond nullable (Some (take n flags)) None) (take n values) i ≡ is_false_row (cond nullable (Some flags) None) values i
  false-before i u =
      ap (λ t. t || not (slice_index_or (take n values) i true)) (flag-before nullable flags n i u)
      ∙ ap (λ v. present_at (cond nullable (Some flags) None) i || not v) (get_or-take n values i true u)

  pub bools_front : span (bool_row (cond nullable (Some (take n flags)) None) (take n values)) 0 (length (take n values)) ≡ take n (span (bool_row (cond nullable (Some flags) None) values) 0 (length values))
  bools_front =
      ap (span (bool_row (cond nullable (Some (take n flags)) None) (take n values)) 0) (length-take-le n values l)
      ∙ front_is _ _ n (length values) l bool-before

  pub bools_front_clear : every (is_false_row (cond nullable (Some flags) None) values) 0 (length values) ≡ true
      → every (is_false_row (cond nullable (Some (take n flags)) None) (take n values)) 0 (length (take n values)) ≡ true
  bools_front_clear all =
      ap (every (is_false_row (cond nullable (Some (take n flags)) None) (take n values)) 0) (length-take-le n values l)
      ∙ front_every _ _ n (length values) l false-before all

  pub bools_front_long : length (take n flags) ≡ length (take n values)
  bools_front_long = length-take-le n flags (omega (arith, same, l)) ∙ sym (length-take-le n values l)

module _ (p : PType) (nullable : Bool) (flags : List Bool) (bytes : List ℕ) (n : ℕ) (long : length bytes ≡ value_size p * length flags) (l : n ≤ length flags) where
  abbrev pub front-bytes : List ℕ
  front-bytes = take (value_place p 0 n) bytes

  raw-before : (i : ℕ) → i < n → raw_at p front-bytes (value_place p 0 i) ≡ raw_at p bytes (value_place p 0 i)
  raw-before i u =
      let inside = place_inside p 0 i n (value_place p 0 n) u (omega arith) in
      let size : value_place p 0 n ≡ value_place p 0 i + (value_place p 0 n - value_place p 0 i) = omega (arith, inside) in
      ap (λ k. from_le_bytes (width p) (take (value_size p) (drop (value_place p 0 i) (take k bytes)))) size
      ∙ ap (λ bs. from_le_bytes (width p) (take (value_size p) bs)) (drop-take (value_place p 0 i) (value_place p 0 n - value_place p 0 i) bytes)
      ∙ ap (from_le_bytes (width p)) (take-twice (value_size p) (value_place p 0 n - value_place p 0 i) (drop (value_place p 0 i) bytes) (omega (arith, inside)))

  int-before : (i : ℕ) → i < n → int_row p (cond nullable (Some (take n flags)) None) front-bytes 0 i ≡ int_row p (cond nullable (Some flags) None) bytes 0 i
  int-before i u =
      ap (λ t. cond t (Some (value_of p (raw_at p front-bytes (value_place p 0 i)))) None) (flag-before nullable flags n i u)
      ∙ ap (λ r. cond (present_at (cond nullable (Some flags) None) i) (Some (value_of p r)) None) (raw-before i u)

  clear-before : (i : ℕ) → i < n → is_clear p (cond nullable (Some (take n flags)) None) front-bytes 0 i ≡ is_clear p (cond nullable (Some flags) None) bytes 0 i
  clear-before i u =
      ap (λ t. t || (raw_at p front-bytes (value_place p 0 i) == 0)) (flag-before nullable flags n i u)
      ∙ ap (λ r. present_at (cond nullable (Some flags) None) i || (r == 0)) (raw-before i u)

  pub ints_front : span (int_row p (cond nullable (Some (take n flags)) None) front-bytes 0) 0 (length (take n flags)) ≡ take n (span (int_row p (cond nullable (Some flags) None) bytes 0) 0 (length flags))
  ints_front =
      ap (span (int_row p (cond nullable (Some (take n flags)) None) front-bytes 0) 0) (length-take-le n flags l)
      ∙ front_is _ _ n (length flags) l int-before

  pub ints_front_clear : every (is_clear p (cond nullable (Some flags) None) bytes 0) 0 (length flags) ≡ true
      → every (is_clear p (cond nullable (Some (take n flags)) None) front-bytes 0) 0 (length (take n flags)) ≡ true
  ints_front_clear all =
      ap (every (is_clear p (cond nullable (Some (take n flags)) None) front-bytes 0) 0) (length-take-le n flags l)
      ∙ front_every _ _ n (length flags) l clear-before all

  pub ints_front_long : length front-bytes ≡ value_size p * length (take n flags)
  ints_front_long =
      let more = mul-le-mul_left (value_size p) l in
      let zero-on : value_place p 0 n ≡ value_size p * n = omega arith in
      length-take-le (value_place p 0 n) bytes (omega (arith, more, long)) ∙ zero-on ∙ ap (λ k. value_size p * k) (sym (length-take-le n flags l))

-- a part of the bytes before one
range-before : (bytes : List ℕ) (a b e : ℕ) → a ≤ b → b ≤ e → slice_range (take e bytes) a b ≡ slice_range bytes a b
range-before bytes a b e o h =
    let size : e ≡ a + (e - a) = omega (arith, o, h) in
    ap (λ k. take (b - a) (drop a (take k bytes))) size ∙ ap (take (b - a)) (drop-take a (e - a) bytes) ∙ take-twice (b - a) (e - a) (drop a bytes) (omega (arith, o, h))

module _ (nullable : Bool) (flags : List Bool) (bytes places : List ℕ) (n : ℕ) (long : length places ≡ length flags + 1)
    (end : slice_index places (length flags) ≡ length bytes) (r : AreRanges bytes places (length flags)) (l : n ≤ length flags) where
  abbrev pub front-places : List ℕ
  front-places = take (n + 1) places

  abbrev pub front-text : List ℕ
  front-text = take (slice_index places n) bytes

  -- places do not fall
  ascends : (i k : ℕ) → i + k ≤ length flags → slice_index places i ≤ slice_index places (i + k)
  ascends i zero h = let e : i ≡ i + 0 = omega arith in let s = ap (slice_index places) e in omega (arith, s)
  ascends i (suc k) h =
      let e : i + k + 1 ≡ i + suc k = omega arith in
      let s = ap (slice_index places) e in
      let before = ascends i k (omega (arith, h)) in
      let step = r.ordered (i + k) (omega (arith, h)) in
      omega (arith, s, before, step)

  last-inside : slice_index places n ≤ length bytes
  last-inside =
      let e : n + (length flags - n) ≡ length flags = omega (arith, l) in
      let up = ascends n (length flags - n) (omega (arith, e)) in
      let s = ap (slice_index places) e in
      omega (arith, up, s, end)

  below-last : (i : ℕ) → i ≤ n → slice_index places i ≤ slice_index places n
  below-last i h =
      let e : i + (n - i) ≡ n = omega (arith, h) in
      let up = ascends i (n - i) (omega (arith, e, l)) in
      let s = ap (slice_index places) e in
      omega (arith, up, s)

  place-before : (i : ℕ) → i ≤ n → slice_index front-places i ≡ slice_index places i
  place-before i h = get_or-take (n + 1) places i 0 (omega (arith, h))

  text-before : (i : ℕ) → i < n → slice_range front-text (slice_index front-places i) (slice_index front-places (i + 1)) ≡ slice_range bytes (slice_index places i) (slice_index places (i + 1))
  text-before i u =
      ap (λ k. slice_range front-text k (slice_index front-places (i + 1))) (place-before i (omega (arith, u)))
      ∙ ap (slice_range front-text (slice_index places i)) (place-before (i + 1) (omega (arith, u)))
      ∙ range-before bytes (slice_index places i) (slice_index places (i + 1)) (slice_index places n) (r.ordered i (omega (arith, u, l))) (below-last (i + 1) (omega (arith, u)))

  row-before : (i : ℕ) → i < n → text_row (cond nullable (Some (take n flags)) None) front-text front-places i ≡ text_row (cond nullable (Some flags) None) bytes places i
  row-before i u =
      ap (λ t. cond t (Some (slice_range front-text (slice_index front-places i) (slice_index front-places (i + 1)))) None) (flag-before nullable flags n i u)
      ∙ ap (λ t. cond (present_at (cond nullable (Some flags) None) i) (Some t) None) (text-before i u)

  pub texts_front : span (text_row (cond nullable (Some (take n flags)) None) front-text front-places) 0 (length (take n flags)) ≡ take n (span (text_row (cond nullable (Some flags) None) bytes places) 0 (length flags))
  texts_front =
      ap (span (text_row (cond nullable (Some (take n flags)) None) front-text front-places) 0) (length-take-le n flags l)
      ∙ front_is _ _ n (length flags) l row-before

  pub texts_front_well : AreTexts bytes places (length flags)
      → (length front-places ≡ length (take n flags) + 1) × (slice_index front-places (length (take n flags)) ≡ length front-text) × AreRanges front-text front-places (length (take n flags))
      × AreTexts front-text front-places (length (take n flags))
  texts_front_well t =
      let size : length (take n flags) ≡ n = length-take-le n flags l in
      let bound : length front-text ≡ slice_index places n = length-take-le (slice_index places n) bytes last-inside in
      subst (λ k. (length front-places ≡ k + 1) × (slice_index front-places k ≡ length front-text) × AreRanges front-text front-places k × AreTexts front-text front-places k) (sym size) (
        length-take-le (n + 1) places (omega (arith, long, l)),
        place-before n (omega arith) ∙ sym bound,
        record {
          ordered = λ i u. let a = place-before i (omega (arith, u)) in let b = place-before (i + 1) (omega (arith, u)) in let c = r.ordered i (omega (arith, u, l)) in omega (arith, a, b, c);
          inside = λ i u. let b = place-before (i + 1) (omega (arith, u)) in let c = below-last (i + 1) (omega (arith, u)) in omega (arith, b, c, bound);
        },
        record { text = λ i u. subst IsUtf8 (sym (text-before i u)) (t.text i (omega (arith, u, l))) },
      )
