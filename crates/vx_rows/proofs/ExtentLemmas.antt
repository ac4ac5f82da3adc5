-- The least and the greatest of rows, gathered row by row and column by column.
use Rattle.std.proofs.Common.{◌≡◌, ℕ, zero, suc, ◌+◌, ◌<◌, ◌≤◌, Bool, true, false, cond, List, [], ◌∷◌, ◌++◌, length, map, drop, Option, Some, None, is_some, refl, ap, sym, subst, ◌∙◌, arith}
use Rattle.std.specs.Prelude.{slice_index_or, not}
use Rattle.std.specs.Option.{option_map}
use Rattle.std.specs.List.{list_all}
use Rattle.vx_data.specs.declared.ptype.PType.{PType}
use Rattle.vx_rows.specs.Columns.{Ints, Texts, int_row, text_row, AreRanges, AreTexts}
use Rattle.vx_rows.specs.PlainTexts.{ArePlainTexts}
use Rattle.vx_rows.proofs.SpanLemmas.{length_span}
use Rattle.vx_rows.specs.Span.{span}
use Rattle.std.specs.declared.cmp.Ordering.{Ordering}
use Rattle.std.specs.declared.cmp.Ordering.TheVariants.{Less, Equal, Greater}
use Rattle.std.specs.Ordering.{bool_cmp, int_cmp, is_lt, flip_args, ordering_reverse}
use Rattle.std.specs.Cmp.{IsTotalOrder, bool_cmp_total, int_cmp_total}
use Rattle.std.specs.Cmp.Lexicographic.{nat_list_cmp_total}
use Rattle.std.proofs.lemmas.Bool.{false≢true}
use Rattle.vx_data.specs.Scalar.{Value, flag, number, words}
use Rattle.vx_data.specs.Dtype.{Dtype, bool, int, text, struct}
use Rattle.vx_rows.specs.Rows.{Rows, bools, ints, texts, structs, rows_len, dtype_of}
use Rattle.vx_rows.specs.ReadRows.{no_rows}
use Rattle.vx_rows.specs.Parts.{appended}
use Rattle.std.proofs.lemmas.List.{drop_all, map-append}
use Rattle.std.proofs.lemmas.List.Sums.{sum_by-drop_more, sum_by-append, count_by-le-length}
use Rattle.vx_rows.proofs.WrittenLemmas.{next_of}
use Rattle.vx_rows.proofs.MakingLemmas.{map_long, map_at}
use Rattle.vx_data.specs.declared.stats_set.Stat.{Stat}
use Rattle.vx_data.specs.declared.stats_set.Stat.TheVariants.{Min, Max, NullCount}
use Rattle.vx_data.specs.declared.stats_set.Precision.{Precision}
use Rattle.vx_data.specs.Stats.{Stats, stat_in, with_stat}
use Rattle.vx_rows.specs.RowStats.{lesser, lesser_of, greater_of, least, greatest, nulls_in, masked, there, text_cmp, value_cmp, Summary, summary_by, summary}

-- ---- a choice of two, in any order of choosing

module _ {A : Type 0} where
  -- with h for 'c is less than this' and k for 'this is less than a'
  chosen : (h k : A → Bool) (a b c : A) (p q r : Bool) → k b ≡ p → h b ≡ q → h a ≡ r → k c ≡ r → (p ≡ true → q ≡ true → r ≡ true) → (p ≡ false → q ≡ false → r ≡ false)
      → cond (h (cond p b a)) c (cond p b a) ≡ cond (k (cond q c b)) (cond q c b) a
  chosen h k a b c true true r kb hb ha kc sure never = ap (λ x. cond x c b) hb ∙ sym (ap (λ x. cond x c a) (kc ∙ sure refl refl))
  chosen h k a b c true false r kb hb ha kc sure never = ap (λ x. cond x c b) hb ∙ sym (ap (λ x. cond x b a) kb)
  chosen h k a b c false true r kb hb ha kc sure never = ap (λ x. cond x c a) ha ∙ sym (ap (λ x. cond x c a) kc)
  chosen h k a b c false false r kb hb ha kc sure never = ap (λ x. cond x c a) (ha ∙ never refl refl) ∙ sym (ap (λ x. cond x b a) kb)

  module _ (cmp : A → A → Ordering) (t : IsTotalOrder cmp) where
    is-less : (o : Ordering) → is_lt o ≡ true → o ≡ Less
    is-less Less h = refl
    is-less Equal h = absurd (false≢true h)
    is-less Greater h = absurd (false≢true h)

    all-less : (a b c : A) → is_lt (cmp b a) ≡ true → is_lt (cmp c b) ≡ true → is_lt (cmp c a) ≡ true
    all-less a b c h g = ap is_lt (t.trans c b a (is-less _ g) (is-less _ h))

    none-less : (a b c : A) → is_lt (cmp b a) ≡ false → is_lt (cmp c b) ≡ false → is_lt (cmp c a) ≡ false
    none-less a b c h g = by (cmp b a) (cmp c b) refl refl h g
      where
        by : (x y : Ordering) → cmp b a ≡ x → cmp c b ≡ y → is_lt x ≡ false → is_lt y ≡ false → is_lt (cmp c a) ≡ false
        by Less y e f h g = absurd (false≢true (sym h))
        by Equal Less e f h g = absurd (false≢true (sym g))
        by Equal Equal e f h g = ap is_lt (t.congr c b a f ∙ e)
        by Equal Greater e f h g =
            let same : cmp b c ≡ cmp a c = t.congr b a c e in
            ap is_lt (t.antisymm c a ∙ ap ordering_reverse (sym same) ∙ sym (t.antisymm c b) ∙ f)
        by Greater Less e f h g = absurd (false≢true (sym g))
        by Greater Equal e f h g = ap is_lt (t.congr c b a f ∙ e)
        by Greater Greater e f h g =
            let first : cmp a b ≡ Less = t.antisymm a b ∙ ap ordering_reverse e in
            let second : cmp b c ≡ Less = t.antisymm b c ∙ ap ordering_reverse f in
            ap is_lt (t.antisymm c a ∙ ap ordering_reverse (t.trans a b c first second))

    lesser-assoc : (a b c : A) → lesser cmp (lesser cmp a b) c ≡ lesser cmp a (lesser cmp b c)
    lesser-assoc a b c = chosen (λ x. is_lt (cmp c x)) (λ x. is_lt (cmp x a)) a b c (is_lt (cmp b a)) (is_lt (cmp c b)) (is_lt (cmp c a)) refl refl refl refl (all-less a b c) (none-less a b c)

    pub lesser_of_assoc : (a b c : Option A) → lesser_of cmp (lesser_of cmp a b) c ≡ lesser_of cmp a (lesser_of cmp b c)
    lesser_of_assoc None b c = refl
    lesser_of_assoc (Some a) None c = refl
    lesser_of_assoc (Some a) (Some b) None = refl
    lesser_of_assoc (Some a) (Some b) (Some c) = ap Some (lesser-assoc a b c)

    -- the least of rows behind one another
    pub least_append : (xs ys : List (Option A)) → least cmp (xs ++ ys) ≡ lesser_of cmp (least cmp xs) (least cmp ys)
    least_append [] ys = refl
    least_append (x ∷ xs) ys = ap (lesser_of cmp x) (least_append xs ys) ∙ sym (lesser_of_assoc x (least cmp xs) (least cmp ys))

    -- one row more
    pub least_next : (xs : List (Option A)) (i : ℕ) (m : Option A) → i < length xs
        → lesser_of cmp (lesser_of cmp m (slice_index_or xs i None)) (least cmp (drop (i + 1) xs)) ≡ lesser_of cmp m (least cmp (drop i xs))
    least_next xs i m l = lesser_of_assoc m (slice_index_or xs i None) (least cmp (drop (i + 1) xs)) ∙ ap (λ ys. lesser_of cmp m (least cmp ys)) (sym (next_of xs i None l))

    pub least_end : (xs : List (Option A)) (i : ℕ) (m : Option A) → length xs ≤ i → lesser_of cmp m (least cmp (drop i xs)) ≡ m
    least_end xs i m l = ap (λ ys. lesser_of cmp m (least cmp ys)) (drop_all i xs l) ∙ itself m
      where
        itself : (m : Option A) → lesser_of cmp m None ≡ m
        itself None = refl
        itself (Some m) = refl

pub flip_total : {A : Type 0} → (cmp : A → A → Ordering) → IsTotalOrder cmp → IsTotalOrder (flip_args cmp)
flip_total cmp t = record {
  antisymm = λ x y. t.antisymm y x;
  trans = λ x y z h g. t.trans z y x g h;
  congr = λ x y z h.
      let level : cmp x y ≡ Equal = t.antisymm x y ∙ ap ordering_reverse h in
      t.antisymm z x ∙ ap ordering_reverse (t.congr x y z level) ∙ sym (t.antisymm z y);
}

-- ---- nulls

pub nulls_next : {A : Type 0} → (xs : List (Option A)) (i : ℕ) → i < length xs → nulls_in (drop i xs) ≡ cond (not (is_some (slice_index_or xs i None))) 1 0 + nulls_in (drop (i + 1) xs)
nulls_next xs i l = sum_by-drop_more (λ (row : Option _). cond (not (is_some row)) 1 0) xs i None l

pub nulls_end : {A : Type 0} → (xs : List (Option A)) (i : ℕ) → length xs ≤ i → nulls_in (drop i xs) ≡ 0
nulls_end xs i l = ap nulls_in (drop_all i xs l)

-- ---- rows that are present

pub masked_long : {A : Type 0} → (present : List Bool) (rows : List (Option A)) → length present ≡ length rows → length (masked present rows) ≡ length rows
masked_long [] [] e = refl
masked_long [] (row ∷ rows) e = absurd (omega (arith, e))
masked_long (here ∷ present) [] e = refl
masked_long (here ∷ present) (row ∷ rows) e = ap suc (masked_long present rows (omega (arith, e)))

pub masked_at : {A : Type 0} → (present : List Bool) (rows : List (Option A)) (i : ℕ) → length present ≡ length rows → i < length rows
    → slice_index_or (masked present rows) i None ≡ cond (slice_index_or present i true) (slice_index_or rows i None) None
masked_at [] [] i e l = absurd (omega (arith, l))
masked_at [] (row ∷ rows) i e l = absurd (omega (arith, e))
masked_at (here ∷ present) [] i e l = absurd (omega (arith, l))
masked_at (here ∷ present) (row ∷ rows) zero e l = refl
masked_at (here ∷ present) (row ∷ rows) (suc i) e l = masked_at present rows i (omega (arith, e)) (omega (arith, l))

pub masked_append : {A : Type 0} → (p q : List Bool) (xs ys : List (Option A)) → length p ≡ length xs → masked (p ++ q) (xs ++ ys) ≡ masked p xs ++ masked q ys
masked_append [] q [] ys e = refl
masked_append [] q (x ∷ xs) ys e = absurd (omega (arith, e))
masked_append (here ∷ p) q [] ys e = absurd (omega (arith, e))
masked_append (here ∷ p) q (x ∷ xs) ys e = ap (λ rows. cond here x None ∷ rows) (masked_append p q xs ys (omega (arith, e)))

pub masked_all : {A : Type 0} → (present : List Bool) (rows : List (Option A)) → list_all (λ b. b) present ≡ true → length present ≡ length rows → masked present rows ≡ rows
masked_all [] [] all e = refl
masked_all [] (row ∷ rows) all e = absurd (omega (arith, e))
masked_all (here ∷ present) [] all e = absurd (omega (arith, e))
masked_all (true ∷ present) (row ∷ rows) all e = ap (λ xs. row ∷ xs) (masked_all present rows all (omega (arith, e)))
masked_all (false ∷ present) (row ∷ rows) all e = absurd (false≢true all)

-- ---- what columns behind one another tell

-- what two parts of the rows tell together
abbrev pub joined : Summary → Summary → Summary
joined a b = record { min = lesser_of value_cmp a.min b.min; max = greater_of value_cmp a.max b.max; nulls = a.nulls + b.nulls }

module _ {A : Type 0} (value : A → Value) where
  chosen-value : (b : Bool) (x y : A) → value (cond b x y) ≡ cond b (value x) (value y)
  chosen-value true x y = refl
  chosen-value false x y = refl

  same-choice : (cmp : A → A → Ordering) (by : Value → Value → Ordering) → ((a b : A) → by (value a) (value b) ≡ cmp a b) → (x y : Option A)
      → option_map value (lesser_of cmp x y) ≡ lesser_of by (option_map value x) (option_map value y)
  same-choice cmp by same None y = refl
  same-choice cmp by same (Some x) None = refl
  same-choice cmp by same (Some x) (Some y) = ap Some (chosen-value (is_lt (cmp y x)) y x ∙ ap (λ o. cond (is_lt o) (value y) (value x)) (sym (same y x)))

  pub rows_joined : (cmp : A → A → Ordering) → IsTotalOrder cmp → ((a b : A) → value_cmp (value a) (value b) ≡ cmp a b) → (xs ys : List (Option A))
      → summary_by value cmp (xs ++ ys) ≡ joined (summary_by value cmp xs) (summary_by value cmp ys)
  rows_joined cmp t same xs ys =
      let low = ap (option_map value) (least_append cmp t xs ys) ∙ same-choice cmp value_cmp same (least cmp xs) (least cmp ys) in
      let high = ap (option_map value) (least_append (flip_args cmp) (flip_total cmp t) xs ys) ∙ same-choice (flip_args cmp) (flip_args value_cmp) (λ a b. same b a) (greatest cmp xs) (greatest cmp ys) in
      let none = sum_by-append (λ (row : Option A). cond (not (is_some row)) 1 0) xs ys in
      λ i. record { min = low i; max = high i; nulls = none i }

pub seen_more : (c d : Rows) (p q : List Bool) → dtype_of c ≡ dtype_of d → length p ≡ rows_len c → summary (p ++ q) (appended c d) ≡ joined (summary p c) (summary q d)
seen_more (bools c) (bools d) p q t e =
    ap (summary_by flag bool_cmp) (masked_append p q c.rows d.rows e) ∙ rows_joined flag bool_cmp bool_cmp_total (λ a b. refl) (masked p c.rows) (masked q d.rows)
seen_more (bools c) (ints d) p q t e = cc
seen_more (bools c) (texts d) p q t e = cc
seen_more (bools c) (structs d ds) p q t e = cc
seen_more (ints c) (bools d) p q t e = cc
seen_more (ints c) (ints d) p q t e =
    ap (summary_by number int_cmp) (masked_append p q c.rows d.rows e) ∙ rows_joined number int_cmp int_cmp_total (λ a b. refl) (masked p c.rows) (masked q d.rows)
seen_more (ints c) (texts d) p q t e = cc
seen_more (ints c) (structs d ds) p q t e = cc
seen_more (texts c) (bools d) p q t e = cc
seen_more (texts c) (ints d) p q t e = cc
seen_more (texts c) (texts d) p q t e =
    ap (summary_by words text_cmp) (masked_append p q c.rows d.rows e) ∙ rows_joined words text_cmp nat_list_cmp_total (λ a b. refl) (masked p c.rows) (masked q d.rows)
seen_more (texts c) (structs d ds) p q t e = cc
seen_more (structs c cs) (bools d) p q t e = cc
seen_more (structs c cs) (ints d) p q t e = cc
seen_more (structs c cs) (texts d) p q t e = cc
seen_more (structs c cs) (structs d ds) p q t e =
    let shown = map-append there c.present d.present in
    let rows = ap (masked (p ++ q)) shown ∙ masked_append p q (map there c.present) (map there d.present) (e ∙ sym (map_long there c.present)) in
    let none = ap nulls_in rows ∙ sum_by-append (λ (row : Option (Unit {0})). cond (not (is_some row)) 1 0) (masked p (map there c.present)) (masked q (map there d.present)) in
    λ i. record { min = None; max = None; nulls = none i }

-- what no rows tell
pub seen_none : (d : Dtype) → record { min = None; max = None; nulls = 0 } ≡ summary [] (no_rows d)
seen_none (bool nullable) = refl
seen_none (int ptype nullable) = refl
seen_none (text nullable) = refl
seen_none (struct fs nullable) = refl

-- no more rows are null than there are
pub nulls_few : {A : Type 0} → (xs : List (Option A)) → nulls_in xs ≤ length xs
nulls_few xs = count_by-le-length (λ (row : Option _). not (is_some row)) xs

-- ---- the rows of structs

struct-at : (present ps : List Bool) (i : ℕ) → length present ≡ length ps → i < length ps
    → slice_index_or (masked present (map there ps)) i None ≡ cond (slice_index_or present i true) (there (slice_index_or ps i true)) None
struct-at present ps i e l =
    let size = map_long there ps in
    masked_at present (map there ps) i (omega (arith, e, size)) (omega (arith, l, size))
    ∙ ap (λ (row : Option (Unit {0})). cond (slice_index_or present i true) row None) (map_at there ps i true None l)

pub struct_hidden : (present ps : List Bool) (i : ℕ) → length present ≡ length ps → i < length ps → slice_index_or present i true ≡ false
    → true ≡ not (is_some (slice_index_or (masked present (map there ps)) i None))
struct_hidden present ps i e l h =
    sym (ap (λ (row : Option (Unit {0})). not (is_some row)) (struct-at present ps i e l ∙ ap (λ b. cond b (there (slice_index_or ps i true)) None) h))

pub struct_shown : (present ps : List Bool) (i : ℕ) → length present ≡ length ps → i < length ps → slice_index_or present i true ≡ true
    → not (slice_index_or ps i true) ≡ not (is_some (slice_index_or (masked present (map there ps)) i None))
struct_shown present ps i e l h =
    sym (ap (λ (row : Option (Unit {0})). not (is_some row)) (struct-at present ps i e l ∙ ap (λ b. cond b (there (slice_index_or ps i true)) None) h) ∙ told (slice_index_or ps i true))
  where
    told : (b : Bool) → not (is_some (there b)) ≡ not b
    told true = refl
    told false = refl

pub ruleset struct_nulls = (struct_hidden, struct_shown)

-- ---- the steps of loops over the rows of a column

few-bits : (b : Bool) → cond b 1 0 ≤ 1
few-bits true = omega arith
few-bits false = omega arith

-- nulls so far
abbrev pub CountedNulls : {A : Type 0} → List (Option A) → ℕ → ℕ → Type 0
CountedNulls rows i nulls = (nulls + nulls_in (drop i rows) ≡ nulls_in rows) × (nulls ≤ i)

pub nulls_step : {A : Type 0} → (rows : List (Option A)) (i nulls one : ℕ) → i < length rows → one ≡ cond (not (is_some (slice_index_or rows i None))) 1 0 → CountedNulls rows i nulls → CountedNulls rows (i + 1) (nulls + one)
nulls_step rows i nulls one l e h =
    let next = nulls_next rows i l in
    let so = h.0 in
    let few = h.1 in
    let bit = few-bits (not (is_some (slice_index_or rows i None))) in
    (omega (arith, next, so, e), omega (arith, few, e, bit))

pub nulls_done : {A : Type 0} → (rows : List (Option A)) (i nulls : ℕ) → length rows ≤ i → CountedNulls rows i nulls → nulls ≡ nulls_in rows
nulls_done rows i nulls l h =
    let none = nulls_end rows i l in
    let so = h.0 in
    omega (arith, none, so)

-- what the rows so far tell, with those still to come
abbrev pub Gathered : {A : Type 0} → (A → A → Ordering) → List (Option A) → ℕ → Option A → Option A → ℕ → Type 0
Gathered cmp rows i min max nulls =
    (lesser_of cmp min (least cmp (drop i rows)) ≡ least cmp rows) × (greater_of cmp max (greatest cmp (drop i rows)) ≡ greatest cmp rows) × CountedNulls rows i nulls

module _ {A : Type 0} (cmp : A → A → Ordering) (t : IsTotalOrder cmp) (rows : List (Option A)) (i : ℕ) (min max : Option A) (nulls : ℕ) (h : Gathered cmp rows i min max nulls) where
  pub gathered_step : (min' max' row : Option A) (one : ℕ) → i < length rows → row ≡ slice_index_or rows i None → min' ≡ lesser_of cmp min row → max' ≡ greater_of cmp max row
      → one ≡ cond (not (is_some row)) 1 0 → Gathered cmp rows (i + 1) min' max' (nulls + one)
  gathered_step min' max' row one l e low high count = (
    ap (λ m. lesser_of cmp m (least cmp (drop (i + 1) rows))) (low ∙ ap (lesser_of cmp min) e) ∙ least_next cmp t rows i min l ∙ h.0,
    ap (λ m. greater_of cmp m (greatest cmp (drop (i + 1) rows))) (high ∙ ap (greater_of cmp max) e) ∙ least_next (flip_args cmp) (flip_total cmp t) rows i max l ∙ h.1,
    nulls_step rows i nulls one l (count ∙ ap (λ (r : Option A). cond (not (is_some r)) 1 0) e) h.2,
  )

  pub gathered_done : length rows ≤ i → (min ≡ least cmp rows) × (max ≡ greatest cmp rows) × (nulls ≡ nulls_in rows)
  gathered_done l = (sym (least_end cmp t rows i min l) ∙ h.0, sym (least_end (flip_args cmp) (flip_total cmp t) rows i max l) ∙ h.1, nulls_done rows i nulls l h.2)

  pub gathered_summary : (value : A → Value) (low high : Option Value) → length rows ≤ i → low ≡ option_map value min → high ≡ option_map value max
      → ◌≡◌ {A = Summary} (record { min = low; max = high; nulls = nulls }) (summary_by value cmp rows)
  gathered_summary value low high l a b =
      let done = gathered_done l in
      let first = a ∙ ap (option_map value) done.0 in
      let last = b ∙ ap (option_map value) done.1 in
      let count = done.2 in
      λ i. record { min = first i; max = last i; nulls = count i }

-- ---- summaries of two parts

-- no more rows of a column are null than there are
pub summary_few : (present : List Bool) (c : Rows) → length present ≡ rows_len c → (summary present c).nulls ≤ rows_len c
summary_few present (bools c) e = let a = nulls_few (masked present c.rows) in let b = masked_long present c.rows e in omega (arith, a, b)
summary_few present (ints c) e = let a = nulls_few (masked present c.rows) in let b = masked_long present c.rows e in omega (arith, a, b)
summary_few present (texts c) e = let a = nulls_few (masked present c.rows) in let b = masked_long present c.rows e in omega (arith, a, b)
summary_few present (structs c cs) e =
    let size = map_long there c.present in
    let a = nulls_few (masked present (map there c.present)) in
    let b = masked_long present (map there c.present) (omega (arith, e, size)) in
    omega (arith, a, b, size)

-- what all columns tell, one behind the other
pub summary_more : (old new : Summary) (q : List Bool) (d : Rows) → new ≡ joined old (summary q d)
    → (c : Rows) → (p : List Bool) → length p ≡ rows_len c → dtype_of c ≡ dtype_of d → old ≡ summary p c → new ≡ summary (p ++ q) (appended c d)
summary_more old new q d step c p l t e = step ∙ ap (λ (s : Summary). joined s (summary q d)) e ∙ sym (seen_more c d p q t l)

-- ---- statistics that are not there

pub unset : (stat : Stat) (s : Stats) → stat_in stat s ≡ None → s ≡ with_stat stat None s
unset Min s h = ap (λ (m : Option (Value × Precision)). record { min = m; max = s.max; null_count = s.null_count }) h
unset Max s h = ap (λ (m : Option (Value × Precision)). record { min = s.min; max = m; null_count = s.null_count }) h
unset NullCount s h = ap (λ (m : Option (Value × Precision)). record { min = s.min; max = s.max; null_count = m }) h

-- ---- integers of which none is null

pub plain_summary : (p : PType) (b : List ℕ) (at : ℕ) (c : Ints) (present : List Bool) (s : Summary) → c.ptype ≡ p → length present ≡ length c.rows → list_all (λ b. b) present ≡ true
    → c.rows ≡ span (int_row c.ptype None b at) 0 (length c.rows) → s ≡ summary_by number int_cmp (span (int_row p None b at) 0 (length c.rows)) → s ≡ summary present (ints c)
plain_summary p b at c present s typed long all rows tells =
    tells ∙ ap (summary_by number int_cmp) (ap (λ q. span (int_row q None b at) 0 (length c.rows)) (sym typed) ∙ sym rows ∙ sym (masked_all present c.rows all long))

-- ---- texts of which none is null

pub plain_texts_of : (present : Option (List Bool)) (held bytes places narrow : List ℕ) (count : ℕ) (nullable : Bool) (v : Texts) → present ≡ None → bytes ≡ held → narrow ≡ places
    → length places ≡ count + 1 → AreRanges held places count → AreTexts held places count → record { nullable = nullable; rows = span (text_row present held places) 0 count } ≡ v
    → ArePlainTexts v.rows bytes narrow
plain_texts_of present held bytes places narrow count nullable v none shared same long ordered valid is =
    let size = length_span (text_row None held places) 0 count in
    let plain : ArePlainTexts (span (text_row None held places) 0 count) held places = record {
      long = long ∙ ap (λ n. n + 1) (sym size);
      ranges = subst (λ n. AreRanges held places n) (sym size) ordered;
      texts = subst (λ n. AreTexts held places n) (sym size) valid;
      values = ap (λ n. span (text_row None held places) 0 n) (sym size);
    } in
    subst (λ bs. ArePlainTexts v.rows bs narrow) (sym shared) (subst (λ ps. ArePlainTexts v.rows held ps) (sym same)
    (subst (λ rows. ArePlainTexts rows held places) (ap (λ (t : Texts). t.rows) is)
    (subst (λ p. ArePlainTexts (span (text_row p held places) 0 count) held places) (sym none) plain)))

pub plain_texts_summary : (b places : List ℕ) (c : Texts) (present : List Bool) (s : Summary) → length present ≡ length c.rows → list_all (λ b. b) present ≡ true
    → ArePlainTexts c.rows b places → s ≡ summary_by words text_cmp (span (text_row None b places) 0 (length c.rows)) → s ≡ summary present (texts c)
plain_texts_summary b places c present s long all plain tells = tells ∙ ap (summary_by words text_cmp) (sym plain.values ∙ sym (masked_all present c.rows all long))
