-- Rows that are put behind others.
use Rattle.std.proofs.Common.{◌≡◌, ℕ, ℤ, zero, suc, ◌+◌, ◌*◌, ◌-◌, ◌<◌, ◌≤◌, Bool, true, false, cond, List, [], ◌∷◌, ◌++◌, length, take, drop, Option, Some, None, is_some, refl, ap, sym, ◌∙◌, subst, arith, length-append}
use Rattle.std.specs.Prelude.{slice_index, slice_index_or, slice_range, ◌||◌, ◌==◌, not, IfSome}
use Rattle.std.specs.List.{list_all}
use Rattle.std.specs.Str.{IsUtf8}
use Rattle.std.specs.Int.{from_le_bytes}
use Rattle.std.proofs.lemmas.List.{take-append-le, drop-append-le, get_or_append_left, get_or_push, length-drop}
use Rattle.vx_data.specs.declared.ptype.PType.{PType}
use Rattle.vx_rows.specs.Span.{span, every}
use Rattle.vx_rows.specs.Bits.{present_at}
use Rattle.vx_rows.specs.Columns.{bool_row, is_false_row, int_row, is_clear, raw_at, value_of, width, value_size, value_place, text_row, AreRanges, AreTexts, are_there}
use Rattle.vx_rows.specs.Written.{is_within, cell}
use Rattle.vx_rows.proofs.SpanLemmas.{span_push, span_same, every_all, every_holds}
use Rattle.vx_rows.proofs.IntLemmas.{place_inside}
use Rattle.vx_rows.proofs.CellLemmas.{drop_front}
use Rattle.vx_rows.proofs.ValueLemmas.{within-at, clear-at, cell-long}

-- ---- a run of values that grows

upto : (n : ℕ) (P : ℕ → Type 0) → ((i : ℕ) → i < n → P i) → P n → (i : ℕ) → i < n + 1 → P i
upto zero P h last zero l = last
upto zero P h last (suc i) l = absurd (omega (arith, l))
upto (suc n) P h last zero l = h zero (omega arith)
upto (suc n) P h last (suc i) l = upto n (λ j. P (suc j)) (λ j u. h (suc j) (omega (arith, u))) last i (omega (arith, l))

rows_more : {A : Type 0} → (f g : ℕ → A) (n : ℕ) (x : A) → ((i : ℕ) → i < n → g i ≡ f i) → g n ≡ x → span g 0 (n + 1) ≡ span f 0 n ++ x ∷ []
rows_more f g n x same last =
    let e : 0 + n ≡ n = omega arith in
    span_push g 0 n ∙ ap (λ xs. xs ++ g (0 + n) ∷ []) (span_same g f 0 n (λ i l u. same i (omega (arith, u)))) ∙ ap (λ y. span f 0 n ++ y ∷ []) (ap g e ∙ last)

every_more : (f g : ℕ → Bool) (n : ℕ) → ((i : ℕ) → i < n → g i ≡ f i) → g n ≡ true → every f 0 n ≡ true → every g 0 (n + 1) ≡ true
every_more f g n same last all =
    every_holds g 0 (n + 1) (λ i l u. upto n (λ j. g j ≡ true) (λ j v. same j v ∙ ap f (omega arith) ∙ every_all f 0 n all j v) last i (omega (arith, u)))

pub one-longer : {A : Type 0} → (xs : List A) (x : A) → length (xs ++ x ∷ []) ≡ length xs + 1
one-longer xs x = length-append xs (x ∷ [])

-- ---- which rows are not null

all-more : (flags : List Bool) (b : Bool) → list_all (λ f. f) flags ≡ true → b ≡ true → list_all (λ f. f) (flags ++ b ∷ []) ≡ true
all-more [] b h t = rw t refl
all-more (true ∷ flags) b h t = all-more flags b h t
all-more (false ∷ flags) b h t = cc

pub one_more_there : (nullable : Bool) (flags : List Bool) (b : Bool) → are_there nullable flags ≡ true → (nullable || b) ≡ true → are_there nullable (flags ++ b ∷ []) ≡ true
one_more_there true flags b h t = refl
one_more_there false flags b h t = all-more flags b h t

same-flag : (nullable : Bool) (flags : List Bool) (b : Bool) (i : ℕ) → i < length flags → present_at (cond nullable (Some (flags ++ b ∷ [])) None) i ≡ present_at (cond nullable (Some flags) None) i
same-flag true flags b i l = get_or_append_left flags (b ∷ []) true i l
same-flag false flags b i l = refl

last-flag : (nullable : Bool) (flags : List Bool) (b : Bool) → (nullable || b) ≡ true → present_at (cond nullable (Some (flags ++ b ∷ [])) None) (length flags) ≡ b
last-flag true flags b t = get_or_push flags b true (length flags) refl
last-flag false flags b t = sym t

-- ---- truth values

module _ (nullable : Bool) (flags values : List Bool) (b v : Bool) (long : length flags ≡ length values) (t : (nullable || b) ≡ true) where
  abbrev pub now : Option (List Bool)
  now = cond nullable (Some flags) None

  abbrev pub then-flags : Option (List Bool)
  then-flags = cond nullable (Some (flags ++ b ∷ [])) None

  bool-same : (i : ℕ) → i < length values → bool_row then-flags (values ++ v ∷ []) i ≡ bool_row now values i
  bool-same i l =
      ap (λ h. cond h (Some (slice_index_or (values ++ v ∷ []) i true)) None) (same-flag nullable flags b i (omega (arith, long, l)))
      ∙ ap (λ x. cond (present_at now i) (Some x) None) (get_or_append_left values (v ∷ []) true i l)

  bool-last : bool_row then-flags (values ++ v ∷ []) (length values) ≡ cond b (Some v) None
  bool-last =
      ap (λ h. cond h (Some (slice_index_or (values ++ v ∷ []) (length values) true)) None) (ap (present_at then-flags) (sym long) ∙ last-flag nullable flags b t)
      ∙ ap (λ x. cond b (Some x) None) (get_or_push values v true (length values) refl)

  pub bools_grow : span (bool_row then-flags (values ++ v ∷ [])) 0 (length (values ++ v ∷ [])) ≡ span (bool_row now values) 0 (length values) ++ cond b (Some v) None ∷ []
  bools_grow =
      ap (span (bool_row then-flags (values ++ v ∷ [])) 0) (one-longer values v)
      ∙ rows_more (bool_row now values) (bool_row then-flags (values ++ v ∷ [])) (length values) (cond b (Some v) None) bool-same bool-last

  false-same : (i : ℕ) → i < length values → is_false_row then-flags (values ++ v ∷ []) i ≡ is_false_row now values i
  false-same i l =
      ap (λ h. h || not (slice_index_or (values ++ v ∷ []) i true)) (same-flag nullable flags b i (omega (arith, long, l)))
      ∙ ap (λ x. present_at now i || not x) (get_or_append_left values (v ∷ []) true i l)

  false-last : (b || not v) ≡ true → is_false_row then-flags (values ++ v ∷ []) (length values) ≡ true
  false-last c =
      ap (λ h. h || not (slice_index_or (values ++ v ∷ []) (length values) true)) (ap (present_at then-flags) (sym long) ∙ last-flag nullable flags b t)
      ∙ ap (λ x. b || not x) (get_or_push values v true (length values) refl) ∙ c

  pub bools_stay_clear : (b || not v) ≡ true → every (is_false_row now values) 0 (length values) ≡ true → every (is_false_row then-flags (values ++ v ∷ [])) 0 (length (values ++ v ∷ [])) ≡ true
  bools_stay_clear c h =
      ap (every (is_false_row then-flags (values ++ v ∷ [])) 0) (one-longer values v)
      ∙ every_more (is_false_row now values) (is_false_row then-flags (values ++ v ∷ [])) (length values) false-same (false-last c) h

-- ---- integers

module _ (p : PType) (nullable : Bool) (flags : List Bool) (bytes : List ℕ) (row : Option ℤ) (long : length bytes ≡ value_size p * length flags) (t : (nullable || is_some row) ≡ true) where
  abbrev pub flags-now : Option (List Bool)
  flags-now = cond nullable (Some flags) None

  abbrev pub flags-then : Option (List Bool)
  flags-then = cond nullable (Some (flags ++ is_some row ∷ [])) None

  raw-same : (i : ℕ) → i < length flags → raw_at p (bytes ++ cell p row) (value_place p 0 i) ≡ raw_at p bytes (value_place p 0 i)
  raw-same i l =
      let inside = place_inside p 0 i (length flags) (length bytes) l (omega (arith, long)) in
      let size : length (drop (value_place p 0 i) bytes) ≡ length bytes - value_place p 0 i = length-drop (value_place p 0 i) bytes in
      ap (λ bs. from_le_bytes (width p) (take (value_size p) bs)) (drop-append-le (value_place p 0 i) bytes (cell p row) (omega (arith, inside)))
      ∙ ap (from_le_bytes (width p)) (take-append-le (value_size p) (drop (value_place p 0 i) bytes) (cell p row) (omega (arith, inside, size)))

  raw-last : raw_at p (bytes ++ cell p row) (value_place p 0 (length flags)) ≡ from_le_bytes (width p) (cell p row)
  raw-last =
      let place : length bytes ≡ value_place p 0 (length flags) = omega (arith, long) in
      let size : length (cell p row) ≡ value_size p = cell-long p row in
      ap (λ bs. from_le_bytes (width p) (take (value_size p) bs)) (drop_front bytes (cell p row) (value_place p 0 (length flags)) place)
      ∙ ap (from_le_bytes (width p)) (all-taken (cell p row) (value_size p) size)
    where
      all-taken : (xs : List ℕ) (n : ℕ) → length xs ≡ n → take n xs ≡ xs
      all-taken [] zero e = refl
      all-taken [] (suc n) e = cc
      all-taken (x ∷ xs) zero e = cc
      all-taken (x ∷ xs) (suc n) e = ap (λ ys. x ∷ ys) (all-taken xs n (omega (arith, e)))

  int-same : (i : ℕ) → i < length flags → int_row p flags-then (bytes ++ cell p row) 0 i ≡ int_row p flags-now bytes 0 i
  int-same i l =
      ap (λ h. cond h (Some (value_of p (raw_at p (bytes ++ cell p row) (value_place p 0 i)))) None) (same-flag nullable flags (is_some row) i l)
      ∙ ap (λ n. cond (present_at flags-now i) (Some (value_of p n)) None) (raw-same i l)

  int-last : IfSome row (λ n. is_within p n ≡ true) → int_row p flags-then (bytes ++ cell p row) 0 (length flags) ≡ row
  int-last w =
      ap (λ h. cond h (Some (value_of p (raw_at p (bytes ++ cell p row) (value_place p 0 (length flags))))) None) (last-flag nullable flags (is_some row) t)
      ∙ ap (λ n. cond (is_some row) (Some (value_of p n)) None) raw-last ∙ within-at p row w

  pub ints_grow : IfSome row (λ n. is_within p n ≡ true)
      → span (int_row p flags-then (bytes ++ cell p row) 0) 0 (length (flags ++ is_some row ∷ [])) ≡ span (int_row p flags-now bytes 0) 0 (length flags) ++ row ∷ []
  ints_grow w =
      ap (span (int_row p flags-then (bytes ++ cell p row) 0) 0) (one-longer flags (is_some row))
      ∙ rows_more (int_row p flags-now bytes 0) (int_row p flags-then (bytes ++ cell p row) 0) (length flags) row int-same (int-last w)

  clear-same : (i : ℕ) → i < length flags → is_clear p flags-then (bytes ++ cell p row) 0 i ≡ is_clear p flags-now bytes 0 i
  clear-same i l =
      ap (λ h. h || (raw_at p (bytes ++ cell p row) (value_place p 0 i) == 0)) (same-flag nullable flags (is_some row) i l)
      ∙ ap (λ n. present_at flags-now i || (n == 0)) (raw-same i l)

  clear-last : is_clear p flags-then (bytes ++ cell p row) 0 (length flags) ≡ true
  clear-last =
      ap (λ h. h || (raw_at p (bytes ++ cell p row) (value_place p 0 (length flags)) == 0)) (last-flag nullable flags (is_some row) t)
      ∙ ap (λ n. is_some row || (n == 0)) raw-last ∙ clear-at p row

  pub ints_stay_clear : every (is_clear p flags-now bytes 0) 0 (length flags) ≡ true → every (is_clear p flags-then (bytes ++ cell p row) 0) 0 (length (flags ++ is_some row ∷ [])) ≡ true
  ints_stay_clear h =
      ap (every (is_clear p flags-then (bytes ++ cell p row) 0) 0) (one-longer flags (is_some row))
      ∙ every_more (is_clear p flags-now bytes 0) (is_clear p flags-then (bytes ++ cell p row) 0) (length flags) clear-same clear-last h

  pub ints_stay_long : length (bytes ++ cell p row) ≡ value_size p * length (flags ++ is_some row ∷ [])
  ints_stay_long =
      let more = length-append bytes (cell p row) in
      let size = cell-long p row in
      let one = one-longer flags (is_some row) in
      sized p (length bytes) (length flags) _ _ _ long more size one
    where
      sized : (q : PType) (m n c l k : ℕ) → m ≡ value_size q * n → l ≡ m + c → c ≡ value_size q → k ≡ n + 1 → l ≡ value_size q * k
      sized q m n c l k a b d e = grind (arith, a, b, d, e)

-- ---- texts

taken : (xs : List ℕ) (n : ℕ) → length xs ≡ n → take n xs ≡ xs
taken [] zero e = refl
taken [] (suc n) e = cc
taken (x ∷ xs) zero e = cc
taken (x ∷ xs) (suc n) e = ap (λ ys. x ∷ ys) (taken xs n (omega (arith, e)))

-- a part of a front
pub part-of-front : (xs ys : List ℕ) (i j : ℕ) → i ≤ j → j ≤ length xs → slice_range (xs ++ ys) i j ≡ slice_range xs i j
part-of-front xs ys i j o h =
    let size = length-drop i xs in
    ap (take (j - i)) (drop-append-le i xs ys (omega (arith, o, h))) ∙ take-append-le (j - i) (drop i xs) ys (omega (arith, o, h, size))

-- what was put behind a front
part-behind : (xs ys : List ℕ) → slice_range (xs ++ ys) (length xs) (length (xs ++ ys)) ≡ ys
part-behind xs ys =
    let more = length-append xs ys in
    ap (take (length (xs ++ ys) - length xs)) (drop_front xs ys (length xs) refl) ∙ taken ys (length (xs ++ ys) - length xs) (omega (arith, more))

module _ (nullable : Bool) (flags : List Bool) (bytes places : List ℕ) (t : List ℕ) (long : length places ≡ length flags + 1) (end : slice_index places (length flags) ≡ length bytes) (r : AreRanges bytes places (length flags)) where
  abbrev pub places-then : List ℕ
  places-then = places ++ length (bytes ++ t) ∷ []

  place-same : (i : ℕ) → i < length flags + 1 → slice_index places-then i ≡ slice_index places i
  place-same i l = get_or_append_left places (length (bytes ++ t) ∷ []) 0 i (omega (arith, l, long))

  pub place_last : slice_index places-then (length flags + 1) ≡ length (bytes ++ t)
  place_last = get_or_push places (length (bytes ++ t)) 0 (length flags + 1) long

  range-same : (i : ℕ) → i < length flags → slice_range (bytes ++ t) (slice_index places-then i) (slice_index places-then (i + 1)) ≡ slice_range bytes (slice_index places i) (slice_index places (i + 1))
  range-same i l =
      ap (λ k. slice_range (bytes ++ t) k (slice_index places-then (i + 1))) (place-same i (omega (arith, l)))
      ∙ ap (slice_range (bytes ++ t) (slice_index places i)) (place-same (i + 1) (omega (arith, l)))
      ∙ part-of-front bytes t (slice_index places i) (slice_index places (i + 1)) (r.ordered i l) (r.inside i l)

  range-last : slice_range (bytes ++ t) (slice_index places-then (length flags)) (slice_index places-then (length flags + 1)) ≡ t
  range-last =
      ap (λ k. slice_range (bytes ++ t) k (slice_index places-then (length flags + 1))) (place-same (length flags) (omega arith) ∙ end)
      ∙ ap (slice_range (bytes ++ t) (length bytes)) place_last ∙ part-behind bytes t

  pub ranges_grow : AreRanges (bytes ++ t) places-then (length flags + 1)
  ranges_grow =
      let more = length-append bytes t in
      record {
        ordered = upto (length flags) (λ i. slice_index places-then i ≤ slice_index places-then (i + 1))
            (λ i l. let a = place-same i (omega (arith, l)) in let b = place-same (i + 1) (omega (arith, l)) in let o = r.ordered i l in omega (arith, a, b, o))
            (let a = place-same (length flags) (omega arith) in omega (arith, a, end, place_last, more));
        inside = upto (length flags) (λ i. slice_index places-then (i + 1) ≤ length (bytes ++ t))
            (λ i l. let b = place-same (i + 1) (omega (arith, l)) in let o = r.inside i l in omega (arith, b, o, more))
            (omega (arith, place_last));
      }

  pub texts_grow : IsUtf8 t → AreTexts bytes places (length flags) → AreTexts (bytes ++ t) places-then (length flags + 1)
  texts_grow u x = record {
    text = upto (length flags) (λ i. IsUtf8 (slice_range (bytes ++ t) (slice_index places-then i) (slice_index places-then (i + 1))))
        (λ i l. subst IsUtf8 (sym (range-same i l)) (x.text i l)) (subst IsUtf8 (sym range-last) u);
  }

  module _ (b : Bool) (there : (nullable || b) ≡ true) where
    text-same : (i : ℕ) → i < length flags
        → text_row (cond nullable (Some (flags ++ b ∷ [])) None) (bytes ++ t) places-then i ≡ text_row (cond nullable (Some flags) None) bytes places i
    text-same i l =
        ap (λ h. cond h (Some (slice_range (bytes ++ t) (slice_index places-then i) (slice_index places-then (i + 1)))) None) (same-flag nullable flags b i l)
        ∙ ap (λ x. cond (present_at (cond nullable (Some flags) None) i) (Some x) None) (range-same i l)

    text-last : text_row (cond nullable (Some (flags ++ b ∷ [])) None) (bytes ++ t) places-then (length flags) ≡ cond b (Some t) None
    text-last =
        ap (λ h. cond h (Some (slice_range (bytes ++ t) (slice_index places-then (length flags)) (slice_index places-then (length flags + 1)))) None) (last-flag nullable flags b there)
        ∙ ap (λ x. cond b (Some x) None) range-last

    pub text_rows_grow : span (text_row (cond nullable (Some (flags ++ b ∷ [])) None) (bytes ++ t) places-then) 0 (length (flags ++ b ∷ []))
        ≡ span (text_row (cond nullable (Some flags) None) bytes places) 0 (length flags) ++ cond b (Some t) None ∷ []
    text_rows_grow =
        ap (span (text_row (cond nullable (Some (flags ++ b ∷ [])) None) (bytes ++ t) places-then) 0) (one-longer flags b)
        ∙ rows_more (text_row (cond nullable (Some flags) None) bytes places) (text_row (cond nullable (Some (flags ++ b ∷ [])) None) (bytes ++ t) places-then) (length flags)
        (cond b (Some t) None) text-same text-last
