-- Texts whose bytes and places come behind those of others.
use Rattle.std.proofs.Common.{◌≡◌, ℕ, zero, suc, ◌+◌, ◌-◌, ◌<◌, ◌≤◌, Bool, true, false, cond, List, ◌∷◌, ◌++◌, length, map, take, drop, Option, Some, None, is_some, refl, ap, sym, ◌∙◌, subst, arith, length-append, sum_by, ◌⊎◌, inl, inr}
use Rattle.std.specs.Prelude.{slice_index, slice_index_or, slice_range}
use Rattle.std.specs.Str.{IsUtf8}
use Rattle.std.proofs.Math.Seq.{drop-append-add, take-add}
use Rattle.std.specs.List.{flat_map}
use Rattle.std.specs.Int.{w32, to_le_bytes}
use Rattle.std.proofs.lemmas.List.Concat.{length-flat_map}
use Rattle.vx_rows.specs.Written.{text_bytes, length_bytes}
use Rattle.std.proofs.lemmas.List.{get_or-append-add, get_or_append_left, get_or-map, length-drop, length-take-le, drop-drop}
use Rattle.std.proofs.lemmas.Bool.{cases_lt}
use Rattle.vx_rows.specs.Span.{span}
use Rattle.vx_rows.specs.Bits.{present_at}
use Rattle.vx_rows.specs.Columns.{Texts, Structs, text_row, AreRanges, AreTexts, may_hold}
use Rattle.vx_rows.specs.Kept.{kept}
use Rattle.vx_rows.specs.TextsBehind.{length_from, end_from, ComeBehind}
use Rattle.vx_rows.proofs.SpanLemmas.{length_span, get_or_span, span_same}
use Rattle.vx_rows.proofs.CutLemmas.{span_moved}
use Rattle.vx_rows.proofs.ColumnLaws.{part-of-part}
use Rattle.vx_rows.proofs.MakingLemmas.{span_list, map_long}
use Rattle.vx_rows.proofs.GrowingLemmas.{part-of-front}
use Rattle.vx_rows.proofs.JoinLemmas.{hold_at}

-- ---- runs

-- a run in two
pub span_split : {A : Type 0} → (f : ℕ → A) (k m n : ℕ) → span f k (m + n) ≡ span f k m ++ span f (k + m) n
span_split f k zero n =
    let z : 0 + n ≡ n = omega arith in
    let e : k ≡ k + 0 = omega arith in
    ap (span f k) z ∙ ap (λ j. span f j n) e
span_split f k (suc m) n =
    let z : suc m + n ≡ suc (m + n) = omega arith in
    let e : k + 1 + m ≡ k + suc m = omega arith in
    ap (span f k) z ∙ ap (λ xs. f k ∷ xs) (span_split f (k + 1) m n ∙ ap (λ j. span f (k + 1) m ++ span f j n) e)

-- what holds before a number and from it on
both : (n m : ℕ) (P : ℕ → Type 0) → ((i : ℕ) → i < n → P i) → ((j : ℕ) → j < m → P (n + j)) → (i : ℕ) → i < n + m → P i
both n m P before behind i l = by (cases_lt i n)
  where
    by : (i < n) ⊎ (n ≤ i) → P i
    by (inl h) = before i h
    by (inr h) = let e : n + (i - n) ≡ i = omega (arith, h) in subst P e (behind (i - n) (omega (arith, h, l)))

-- ---- places

-- places do not fall
ascends : (bytes places : List ℕ) (count : ℕ) → AreRanges bytes places count → (i k : ℕ) → i + k ≤ count → slice_index places i ≤ slice_index places (i + k)
ascends bytes places count r i zero h = let e : i ≡ i + 0 = omega arith in let s = ap (slice_index places) e in omega (arith, s)
ascends bytes places count r i (suc k) h =
    let e : i + k + 1 ≡ i + suc k = omega arith in
    let s = ap (slice_index places) e in
    let before = ascends bytes places count r i k (omega (arith, h)) in
    let step = r.ordered (i + k) (omega (arith, h)) in
    omega (arith, s, before, step)

pub places_ascend : (bytes places : List ℕ) (count : ℕ) → AreRanges bytes places count → (i j : ℕ) → i ≤ j → j ≤ count → slice_index places i ≤ slice_index places j
places_ascend bytes places count r i j o h =
    let e : i + (j - i) ≡ j = omega (arith, o) in
    let up = ascends bytes places count r i (j - i) (omega (arith, e, h)) in
    let s = ap (slice_index places) e in
    omega (arith, up, s)

pub last_inside : (bytes places : List ℕ) (count : ℕ) → AreRanges bytes places count → 0 < count → slice_index places count ≤ length bytes
last_inside bytes places count r h =
    let e : count - 1 + 1 ≡ count = omega (arith, h) in
    let inside = r.inside (count - 1) (omega (arith, h)) in
    let s = ap (slice_index places) e in
    omega (arith, inside, s)

-- ---- texts behind others

-- no rows
pub none_behind : (rows : List (Option (List ℕ))) (n : ℕ) (bytes places : List ℕ) → length rows ≡ 0 → length places ≡ n + 1 → slice_index places n ≡ length bytes
    → AreRanges bytes places n → AreTexts bytes places n → ComeBehind rows n bytes places bytes places
none_behind rows n bytes places none long end r x =
    let e : n + 0 ≡ n = omega arith in
    record {
      count = 0;
      many = none;
      long = omega (arith, long);
      last = ap (slice_index places) e ∙ end;
      ranges = subst (AreRanges bytes places) (sym e) r;
      texts = subst (AreTexts bytes places) (sym e) x;
      before = λ i l. refl;
      behind = λ i t l h. absurd (omega (arith, l));
    }

module _ (present : Option (List Bool)) (held q : List ℕ) (count : ℕ) (some : 0 < count) (rr : AreRanges held q count) (xx : AreTexts held q count)
    (n : ℕ) (bytes places : List ℕ) (long : length places ≡ n + 1) (end : slice_index places n ≡ length bytes) (r : AreRanges bytes places n) (x : AreTexts bytes places n) where
  abbrev pub more : List ℕ
  more = slice_range held (slice_index q 0) (slice_index q count)

  abbrev pub ends : List ℕ
  ends = span (end_from q (length bytes)) 0 count

  abbrev pub bytes-now : List ℕ
  bytes-now = bytes ++ more

  abbrev pub places-now : List ℕ
  places-now = places ++ ends

  first-least : (i : ℕ) → i ≤ count → slice_index q 0 ≤ slice_index q i
  first-least i h = places_ascend held q count rr 0 i (omega arith) h

  last-greatest : (i : ℕ) → i ≤ count → slice_index q i ≤ slice_index q count
  last-greatest i h = places_ascend held q count rr i count h (omega arith)

  more-long : length more ≡ slice_index q count - slice_index q 0
  more-long =
      let size = length-drop (slice_index q 0) held in
      let inside = last_inside held q count rr some in
      length-take-le (slice_index q count - slice_index q 0) (drop (slice_index q 0) held) (omega (arith, size, inside))

  bytes-long : length bytes-now ≡ length bytes + (slice_index q count - slice_index q 0)
  bytes-long = let size = length-append bytes more in omega (arith, size, more-long)

  place-same : (i : ℕ) → i ≤ n → slice_index places-now i ≡ slice_index places i
  place-same i l = get_or_append_left places ends 0 i (omega (arith, l, long))

  place-next : (j : ℕ) → j < count → slice_index places-now (n + suc j) ≡ length bytes + (slice_index q (j + 1) - slice_index q 0)
  place-next j l =
      let e : n + suc j ≡ length places + j = omega (arith, long) in
      let z : 0 + j ≡ j = omega arith in
      ap (slice_index places-now) e ∙ get_or-append-add places ends j 0 ∙ get_or_span (end_from q (length bytes)) 0 count j 0 l ∙ ap (end_from q (length bytes)) z

  place-behind : (j : ℕ) → j ≤ count → slice_index places-now (n + j) ≡ length bytes + (slice_index q j - slice_index q 0)
  place-behind zero l =
      let e : n + 0 ≡ n = omega arith in
      let s = ap (slice_index places-now) e in
      let p = place-same n (omega arith) in
      omega (arith, s, p, end)
  place-behind (suc j) l =
      let e : j + 1 ≡ suc j = omega arith in
      place-next j (omega (arith, l)) ∙ ap (λ k. length bytes + (slice_index q k - slice_index q 0)) e

  place-after : (j : ℕ) → j < count → slice_index places-now (n + j + 1) ≡ length bytes + (slice_index q (j + 1) - slice_index q 0)
  place-after j l = let e : n + j + 1 ≡ n + suc j = omega arith in ap (slice_index places-now) e ∙ place-next j l

  range-same : (i : ℕ) → i < n → slice_range bytes-now (slice_index places-now i) (slice_index places-now (i + 1)) ≡ slice_range bytes (slice_index places i) (slice_index places (i + 1))
  range-same i l =
      ap (λ k. slice_range bytes-now k (slice_index places-now (i + 1))) (place-same i (omega (arith, l)))
      ∙ ap (slice_range bytes-now (slice_index places i)) (place-same (i + 1) (omega (arith, l)))
      ∙ part-of-front bytes more (slice_index places i) (slice_index places (i + 1)) (r.ordered i l) (r.inside i l)

  -- a part of what was put behind
  part-of-more : (a b : ℕ) → slice_range bytes-now (length bytes + a) (length bytes + b) ≡ slice_range more a b
  part-of-more a b =
      let e : length bytes + b - (length bytes + a) ≡ b - a = omega arith in
      ap (λ k. take k (drop (length bytes + a) bytes-now)) e ∙ ap (take (b - a)) (drop-append-add bytes more a)

  range-behind : (j : ℕ) → j < count → slice_range bytes-now (slice_index places-now (n + j)) (slice_index places-now (n + j + 1)) ≡ slice_range held (slice_index q j) (slice_index q (j + 1))
  range-behind j l =
      let from = first-least j (omega (arith, l)) in
      let to = first-least (j + 1) (omega (arith, l)) in
      let up = rr.ordered j l in
      let top = last-greatest (j + 1) (omega (arith, l)) in
      let a : slice_index q 0 + (slice_index q j - slice_index q 0) ≡ slice_index q j = omega (arith, from) in
      let b : slice_index q 0 + (slice_index q (j + 1) - slice_index q 0) ≡ slice_index q (j + 1) = omega (arith, to) in
      ap (λ k. slice_range bytes-now k (slice_index places-now (n + j + 1))) (place-behind j (omega (arith, l)))
      ∙ ap (slice_range bytes-now (length bytes + (slice_index q j - slice_index q 0))) (place-after j l)
      ∙ part-of-more (slice_index q j - slice_index q 0) (slice_index q (j + 1) - slice_index q 0)
      ∙ part-of-part held (slice_index q 0) (slice_index q count) (slice_index q j - slice_index q 0) (slice_index q (j + 1) - slice_index q 0) (omega (arith, up)) (omega (arith, top))
      ∙ ap (λ k. slice_range held k (slice_index q 0 + (slice_index q (j + 1) - slice_index q 0))) a
      ∙ ap (slice_range held (slice_index q j)) b

  ranges-now : AreRanges bytes-now places-now (n + count)
  ranges-now = record {
    ordered = both n count (λ i. slice_index places-now i ≤ slice_index places-now (i + 1))
        (λ i l. let a = place-same i (omega (arith, l)) in let b = place-same (i + 1) (omega (arith, l)) in let o = r.ordered i l in omega (arith, a, b, o))
        (λ j l. let a = place-behind j (omega (arith, l)) in let b = place-after j l in let o = rr.ordered j l in omega (arith, a, b, o));
    inside = both n count (λ i. slice_index places-now (i + 1) ≤ length bytes-now)
        (λ i l. let b = place-same (i + 1) (omega (arith, l)) in let o = r.inside i l in omega (arith, b, o, bytes-long))
        (λ j l. let b = place-after j l in let o = last-greatest (j + 1) (omega (arith, l)) in omega (arith, b, o, bytes-long));
  }

  texts-now : AreTexts bytes-now places-now (n + count)
  texts-now = record {
    text = both n count (λ i. IsUtf8 (slice_range bytes-now (slice_index places-now i) (slice_index places-now (i + 1))))
        (λ i l. subst IsUtf8 (sym (range-same i l)) (x.text i l)) (λ j l. subst IsUtf8 (sym (range-behind j l)) (xx.text j l));
  }

  -- the text of a row that has one
  text-of : (b : Bool) (s t : List ℕ) → cond b (Some s) None ≡ Some t → s ≡ t
  text-of true s t h = cc
  text-of false s t h = cc

  row-text : (i : ℕ) (t : List ℕ) → i < count → slice_index_or (span (text_row present held q) 0 count) i None ≡ Some t → slice_range held (slice_index q i) (slice_index q (i + 1)) ≡ t
  row-text i t l h =
      let z : 0 + i ≡ i = omega arith in
      text-of (present_at present i) (slice_range held (slice_index q i) (slice_index q (i + 1))) t
      (sym (get_or_span (text_row present held q) 0 count i None l ∙ ap (text_row present held q) z) ∙ h)

  pub come_behind : ComeBehind (span (text_row present held q) 0 count) n bytes places bytes-now places-now
  come_behind =
      let size = length-append places ends in
      let number = length_span (end_from q (length bytes)) 0 count in
      record {
        count = count;
        many = length_span (text_row present held q) 0 count;
        long = omega (arith, size, number, long);
        last = let p = place-behind count (omega arith) in omega (arith, p, bytes-long);
        ranges = ranges-now;
        texts = texts-now;
        before = range-same;
        behind = λ i t l h. range-behind i l ∙ row-text i t l h;
      }

-- ---- a column that grows by texts

module _ (nullable : Bool) (flags : List Bool) (rows : List (Option (List ℕ))) (hold : may_hold nullable rows ≡ true) where
  abbrev pub flags-then : Option (List Bool)
  flags-then = cond nullable (Some (flags ++ map is_some rows)) None

  flag-same : (i : ℕ) → i < length flags → present_at flags-then i ≡ present_at (cond nullable (Some flags) None) i
  flag-same i l = by nullable
    where
      by : (b : Bool) → present_at (cond b (Some (flags ++ map is_some rows)) None) i ≡ present_at (cond b (Some flags) None) i
      by true = get_or_append_left flags (map is_some rows) true i l
      by false = refl

  flag-behind : (i : ℕ) → i < length rows → present_at flags-then (length flags + i) ≡ is_some (slice_index_or rows i None)
  flag-behind i l = by nullable hold
    where
      by : (b : Bool) → may_hold b rows ≡ true → present_at (cond b (Some (flags ++ map is_some rows)) None) (length flags + i) ≡ is_some (slice_index_or rows i None)
      by true h = get_or-append-add flags (map is_some rows) i true ∙ get_or-map is_some rows i None true l
      by false h = sym (hold_at false rows i None h l)

  module _ (bytes places bytes' places' : List ℕ) (c : ComeBehind rows (length flags) bytes places bytes' places') where
    row-same : (i : ℕ) → i < length flags → text_row flags-then bytes' places' i ≡ text_row (cond nullable (Some flags) None) bytes places i
    row-same i l =
        ap (λ h. cond h (Some (slice_range bytes' (slice_index places' i) (slice_index places' (i + 1)))) None) (flag-same i l)
        ∙ ap (λ t. cond (present_at (cond nullable (Some flags) None) i) (Some t) None) (c.before i l)

    row-behind : (i : ℕ) → i < length rows → text_row flags-then bytes' places' (length flags + i) ≡ slice_index_or rows i None
    row-behind i l =
        ap (λ h. cond h (Some (slice_range bytes' (slice_index places' (length flags + i)) (slice_index places' (length flags + i + 1)))) None) (flag-behind i l)
        ∙ by (slice_index_or rows i None) refl
      where
        by : (row : Option (List ℕ)) → slice_index_or rows i None ≡ row
            → cond (is_some row) (Some (slice_range bytes' (slice_index places' (length flags + i)) (slice_index places' (length flags + i + 1)))) None ≡ row
        by None e = refl
        by (Some t) e = ap Some (c.behind i t (let m = c.many in omega (arith, l, m)) e)

    pub rows_behind : span (text_row flags-then bytes' places') 0 (length (flags ++ map is_some rows)) ≡ span (text_row (cond nullable (Some flags) None) bytes places) 0 (length flags) ++ rows
    rows_behind =
        let size : length (flags ++ map is_some rows) ≡ length flags + length rows = length-append flags (map is_some rows) ∙ ap (λ k. length flags + k) (map_long is_some rows) in
        let z : 0 + length flags ≡ length flags = omega arith in
        ap (span (text_row flags-then bytes' places') 0) size
        ∙ span_split (text_row flags-then bytes' places') 0 (length flags) (length rows)
        ∙ ap (λ xs. xs ++ span (text_row flags-then bytes' places') (0 + length flags) (length rows))
        (span_same (text_row flags-then bytes' places') (text_row (cond nullable (Some flags) None) bytes places) 0 (length flags) (λ i a b. row-same i (omega (arith, b))))
        ∙ ap (λ xs. span (text_row (cond nullable (Some flags) None) bytes places) 0 (length flags) ++ xs)
        (ap (λ k. span (text_row flags-then bytes' places') k (length rows)) z
        ∙ span_moved (λ i. slice_index_or rows i None) (text_row flags-then bytes' places') (length flags) 0 (length rows)
        (λ i l. let y : i ≡ 0 + i = omega arith in row-behind i l ∙ ap (λ k. slice_index_or rows k None) y)
        ∙ span_list None rows)

module _ (f g : Structs) (bytes bytes' places places' : List ℕ) (rows : List (Option (List ℕ))) (c : Texts)
    (e : record { nullable = f.nullable; rows = span (text_row (kept f) bytes places) 0 (length f.present) } ≡ c)
    (allowed : may_hold c.nullable rows ≡ true) (flag : g ≡ record { nullable = f.nullable; present = f.present ++ map is_some rows })
    (behind : ComeBehind rows (length f.present) bytes places bytes' places') where
  hold : may_hold f.nullable rows ≡ true
  hold = ap (λ (x : Texts). may_hold x.nullable rows) e ∙ allowed

  pub texts_joined : ◌≡◌ {A = Texts} (record { nullable = g.nullable; rows = span (text_row (kept g) bytes' places') 0 (length g.present) }) (record { nullable = c.nullable; rows = c.rows ++ rows })
  texts_joined =
      rw flag (ap (λ (xs : List (Option (List ℕ))). record { nullable = f.nullable; rows = xs }) (rows_behind f.nullable f.present rows hold bytes places bytes' places' behind)
      ∙ ap (λ (x : Texts). record { nullable = x.nullable; rows = x.rows ++ rows }) e)

  pub texts_joined_well : (length places' ≡ length g.present + 1) × (slice_index places' (length g.present) ≡ length bytes') × AreRanges bytes' places' (length g.present) × AreTexts bytes' places' (length g.present)
  texts_joined_well =
      let m = behind.many in
      let size : length f.present + behind.count ≡ length (f.present ++ map is_some rows) =
      sym (length-append f.present (map is_some rows) ∙ ap (λ k. length f.present + k) (map_long is_some rows ∙ m)) in
      rw flag (subst (λ k. (length places' ≡ k + 1) × (slice_index places' k ≡ length bytes') × AreRanges bytes' places' k × AreTexts bytes' places' k) size
      (behind.long, behind.last, behind.ranges, behind.texts))

-- ---- texts that stand one behind the other

-- two parts, of which one begins where the other ends
adjacent : (xs : List ℕ) (a b c : ℕ) → a ≤ b → b ≤ c → slice_range xs a b ++ slice_range xs b c ≡ slice_range xs a c
adjacent xs a b c o h =
    let e : a + (b - a) ≡ b = omega (arith, o) in
    let s : b - a + (c - b) ≡ c - a = omega (arith, o, h) in
    ap (λ ys. slice_range xs a b ++ take (c - b) ys) (ap (λ k. drop k xs) (sym e) ∙ sym (drop-drop (b - a) a xs))
    ∙ sym (take-add (b - a) (c - b) (drop a xs)) ∙ ap (λ k. take k (drop a xs)) s

pub texts_at_once : (held q : List ℕ) (count : ℕ) → AreRanges held q count → flat_map text_bytes (span (text_row None held q) 0 count) ≡ slice_range held (slice_index q 0) (slice_index q count)
texts_at_once held q count r = let z : 0 + count ≡ count = omega arith in run 0 count (omega arith) ∙ ap (λ k. slice_range held (slice_index q 0) (slice_index q k)) z
  where
    run : (k m : ℕ) → k + m ≤ count → flat_map text_bytes (span (text_row None held q) k m) ≡ slice_range held (slice_index q k) (slice_index q (k + m))
    run k zero h =
        let e : k + 0 ≡ k = omega arith in
        let z : slice_index q k - slice_index q k ≡ 0 = omega arith in
        sym (ap (λ j. slice_range held (slice_index q k) (slice_index q j)) e ∙ ap (λ j. take j (drop (slice_index q k) held)) z)
    run k (suc m) h =
        let e : k + 1 + m ≡ k + suc m = omega arith in
        ap (λ ys. slice_range held (slice_index q k) (slice_index q (k + 1)) ++ ys) (run (k + 1) m (omega (arith, h)))
        ∙ adjacent held (slice_index q k) (slice_index q (k + 1)) (slice_index q (k + 1 + m)) (r.ordered k (omega (arith, h)))
        (places_ascend held q count r (k + 1) (k + 1 + m) (omega arith) (omega (arith, h)))
        ∙ ap (λ j. slice_range held (slice_index q k) (slice_index q j)) e

-- all texts of a column without a bitmap
pub texts_together : (nullable : Bool) (present : Option (List Bool)) (held q : List ℕ) (count : ℕ) (c : Texts)
    → record { nullable = nullable; rows = span (text_row present held q) 0 count } ≡ c
    → present ≡ None → AreRanges held q count → slice_range held (slice_index q 0) (slice_index q count) ≡ flat_map text_bytes c.rows
texts_together nullable present held q count c e none r =
    sym (texts_at_once held q count r) ∙ ap (λ (p : Option (List Bool)). flat_map text_bytes (span (text_row p held q) 0 count)) (sym none)
    ∙ ap (λ (t : Texts). flat_map text_bytes t.rows) e

-- and how long they are together
pub texts_sum : (nullable : Bool) (present : Option (List Bool)) (held q : List ℕ) (count : ℕ) (c : Texts)
    → record { nullable = nullable; rows = span (text_row present held q) 0 count } ≡ c
    → present ≡ None → AreRanges held q count → length (slice_range held (slice_index q 0) (slice_index q count)) ≡ sum_by (λ row. length (text_bytes row)) c.rows
texts_sum nullable present held q count c e none r = ap length (texts_together nullable present held q count c e none r) ∙ length-flat_map text_bytes c.rows

-- ---- lengths by places

lengths_at_once : (held q : List ℕ) (count : ℕ) → AreRanges held q count
    → flat_map (to_le_bytes w32) (span (length_from q) 0 count) ≡ flat_map length_bytes (span (text_row None held q) 0 count)
lengths_at_once held q count r = run 0 count (omega arith)
  where
    long : (k : ℕ) → k < count → length_from q k ≡ length (slice_range held (slice_index q k) (slice_index q (k + 1)))
    long k l =
        let size = length-drop (slice_index q k) held in
        let inside = r.inside k l in
        sym (length-take-le (length_from q k) (drop (slice_index q k) held) (omega (arith, size, inside)))

    run : (k m : ℕ) → k + m ≤ count → flat_map (to_le_bytes w32) (span (length_from q) k m) ≡ flat_map length_bytes (span (text_row None held q) k m)
    run k zero h = refl
    run k (suc m) h =
        ap (λ n. to_le_bytes w32 n ++ flat_map (to_le_bytes w32) (span (length_from q) (k + 1) m)) (long k (omega (arith, h)))
        ∙ ap (λ ys. length_bytes (text_row None held q k) ++ ys) (run (k + 1) m (omega (arith, h)))

pub lengths_together : (nullable : Bool) (present : Option (List Bool)) (held q : List ℕ) (count : ℕ) (c : Texts)
    → record { nullable = nullable; rows = span (text_row present held q) 0 count } ≡ c
    → present ≡ None → AreRanges held q count → flat_map (to_le_bytes w32) (span (length_from q) 0 count) ≡ flat_map length_bytes c.rows
lengths_together nullable present held q count c e none r =
    lengths_at_once held q count r ∙ ap (λ (p : Option (List Bool)). flat_map length_bytes (span (text_row p held q) 0 count)) (sym none)
    ∙ ap (λ (t : Texts). flat_map length_bytes t.rows) e
