-- The rows that a mask keeps, run by run, and in order.
use Rattle.std.proofs.Common.{◌≡◌, ℕ, zero, suc, ◌+◌, ◌-◌, ◌<◌, ◌≤◌, Bool, true, false, cond, List, [], ◌∷◌, ◌++◌, length, map, take, drop, None, refl, ap, sym, ◌∙◌, subst, arith, append_assoc, add-one}
use Rattle.std.specs.Prelude.{slice_index_or, slice_range, filter}
use Rattle.std.specs.List.{AllByRecursion}
use Rattle.std.proofs.lemmas.List.{append-nil, take_all, length-map}
use Rattle.std.proofs.Math.Seq.{take-add}
use Rattle.vx_data.specs.Dtype.{Dtype}
use Rattle.vx_rows.specs.Span.{span}
use Rattle.vx_rows.specs.RowValues.{Row, row_in, parts_in, of_parts, if_there, part, flat, bool_cell, int_cell, text_cell}
use Rattle.vx_rows.specs.Rows.{Rows, FieldRows, bools, ints, texts, structs, no_columns, column, dtype_of, types_of, rows_len, HasRows, AllHaveRows}
use Rattle.vx_rows.specs.Parts.{part as part_of, field_parts, appended, fields_appended}
use Rattle.vx_rows.specs.ReadRows.{no_rows, no_rows_each}
use Rattle.vx_rows.proofs.ColumnLaws.{drop-twice, rows_are, part_type}
use Rattle.vx_rows.proofs.SpanLemmas.{length_span, span_same}
use Rattle.vx_file.proofs.JoiningLemmas.{none_before}
use Rattle.vx_file.specs.Kept.{kept, kept_rows, kept_fields, all_rows, KeepsRows}

-- ---- lists

-- a row that is not kept
skipped : {A : Type 0} → (mask : List Bool) (xs : List A) (k : ℕ) → k < length mask → slice_index_or mask k true ≡ false → kept (take (k + 1) mask) xs ≡ kept (take k mask) xs
skipped [] xs k l e = absurd (omega (arith, l))
skipped (b ∷ mask) [] zero l e = refl
skipped (true ∷ mask) (x ∷ xs) zero l e = cc
skipped (false ∷ mask) (x ∷ xs) zero l e = refl
skipped (b ∷ mask) [] (suc k) l e = rw add-one refl
skipped (true ∷ mask) (x ∷ xs) (suc k) l e = rw add-one (ap (λ ys. x ∷ ys) (rw add-one at (skipped mask xs k (omega (arith, l)) e)))
skipped (false ∷ mask) (x ∷ xs) (suc k) l e = rw add-one (rw add-one at (skipped mask xs k (omega (arith, l)) e))

-- a row that is kept
taken : {A : Type 0} → (mask : List Bool) (xs : List A) (k : ℕ) → k < length mask → length mask ≤ length xs → slice_index_or mask k true ≡ true → kept (take (k + 1) mask) xs ≡ kept (take k mask) xs ++ slice_range xs k (k + 1)
taken [] xs k l m e = absurd (omega (arith, l))
taken (b ∷ mask) [] k l m e = absurd (omega (arith, m))
taken (false ∷ mask) (x ∷ xs) zero l m e = cc
taken (true ∷ mask) (x ∷ xs) zero l m e = refl
taken (true ∷ mask) (x ∷ xs) (suc k) l m e =
    let one : suc (suc k) - suc k ≡ suc k - k = omega arith in
    rw add-one (ap (λ ys. x ∷ ys) (rw add-one at (taken mask xs k (omega (arith, l)) (omega (arith, m)) e)
    ∙ ap (λ n. kept (take k mask) xs ++ take n (drop k xs)) (sym one)))
taken (false ∷ mask) (x ∷ xs) (suc k) l m e =
    let one : suc (suc k) - suc k ≡ suc k - k = omega arith in
    rw add-one (rw add-one at (taken mask xs k (omega (arith, l)) (omega (arith, m)) e)
    ∙ ap (λ n. kept (take k mask) xs ++ take n (drop k xs)) (sym one))

module _ (mask : List Bool) (from : ℕ) where
  -- rows that are not kept, one behind the other
  skip-run : {A : Type 0} → (n : ℕ) (xs : List A) → from + n ≤ length mask → ((k : ℕ) → from ≤ k → k < from + n → slice_index_or mask k true ≡ false)
      → kept (take (from + n) mask) xs ≡ kept (take from mask) xs
  skip-run zero xs l h = let e : from + 0 ≡ from = omega arith in ap (λ k. kept (take k mask) xs) e
  skip-run (suc n) xs l h =
      let e : from + suc n ≡ from + n + 1 = omega arith in
      ap (λ k. kept (take k mask) xs) e ∙ skipped mask xs (from + n) (omega (arith, l)) (h (from + n) (omega arith) (omega arith))
      ∙ skip-run n xs (omega (arith, l)) (λ k a b. h k a (omega (arith, b)))

  -- rows that are kept
  take-run : {A : Type 0} → (n : ℕ) (xs : List A) → from + n ≤ length mask → length mask ≤ length xs → ((k : ℕ) → from ≤ k → k < from + n → slice_index_or mask k true ≡ true)
      → kept (take (from + n) mask) xs ≡ kept (take from mask) xs ++ slice_range xs from (from + n)
  take-run zero xs l m h =
      let e : from + 0 ≡ from = omega arith in
      let none : from - from ≡ 0 = omega arith in
      ap (λ k. kept (take k mask) xs) e ∙ sym (append-nil (kept (take from mask) xs)) ∙ sym (ap (λ k. kept (take from mask) xs ++ slice_range xs from k) e ∙ ap (λ k. kept (take from mask) xs ++ take k (drop from xs)) none)
  take-run (suc n) xs l m h =
      let e : from + suc n ≡ from + n + 1 = omega arith in
      let a : from + n - from ≡ n = omega arith in
      let b : from + n + 1 - (from + n) ≡ 1 = omega arith in
      let c : from + suc n - from ≡ n + 1 = omega arith in
      let joined : slice_range xs from (from + n) ++ slice_range xs (from + n) (from + n + 1) ≡ slice_range xs from (from + suc n) =
      ap (λ k. take k (drop from xs) ++ slice_range xs (from + n) (from + n + 1)) a
      ∙ ap (λ k. take n (drop from xs) ++ take k (drop (from + n) xs)) b
      ∙ ap (λ ys. take n (drop from xs) ++ take 1 ys) (sym (drop-twice from n xs))
      ∙ sym (take-add n 1 (drop from xs)) ∙ sym (ap (λ k. take k (drop from xs)) c) in
      ap (λ k. kept (take k mask) xs) e ∙ taken mask xs (from + n) (omega (arith, l)) m (h (from + n) (omega arith) (omega arith))
      ∙ ap (λ ys. ys ++ slice_range xs (from + n) (from + n + 1)) (take-run n xs (omega (arith, l)) m (λ k a b. h k a (omega (arith, b))))
      ∙ append_assoc (kept (take from mask) xs) (slice_range xs from (from + n)) (slice_range xs (from + n) (from + n + 1))
      ∙ ap (λ ys. kept (take from mask) xs ++ ys) joined

-- ---- columns

module _ (mask : List Bool) (from n : ℕ) (inside : from + n ≤ length mask) (none : (k : ℕ) → from ≤ k → k < from + n → slice_index_or mask k true ≡ false) where
  mutual
    skip-rows : (c : Rows) → kept_rows (take (from + n) mask) c ≡ kept_rows (take from mask) c
    skip-rows (bools c) = ap (λ rows. bools (record { nullable = c.nullable; rows = rows })) (skip-run mask from n c.rows inside none)
    skip-rows (ints c) = ap (λ rows. ints (record { ptype = c.ptype; nullable = c.nullable; rows = rows })) (skip-run mask from n c.rows inside none)
    skip-rows (texts c) = ap (λ rows. texts (record { nullable = c.nullable; rows = rows })) (skip-run mask from n c.rows inside none)
    skip-rows (structs c cs) =
        ap (λ rows. structs (record { nullable = c.nullable; present = rows }) (kept_fields (take (from + n) mask) cs)) (skip-run mask from n c.present inside none)
        ∙ ap (structs (record { nullable = c.nullable; present = kept (take from mask) c.present })) (skip-fields cs)

    skip-fields : (cs : FieldRows) → kept_fields (take (from + n) mask) cs ≡ kept_fields (take from mask) cs
    skip-fields no_columns = refl
    skip-fields (column name c cs) =
        ap (λ (x : Rows). column name x (kept_fields (take (from + n) mask) cs)) (skip-rows c) ∙ ap (column name (kept_rows (take from mask) c)) (skip-fields cs)

module _ (mask : List Bool) (from n : ℕ) (inside : from + n ≤ length mask) (all : (k : ℕ) → from ≤ k → k < from + n → slice_index_or mask k true ≡ true) where
  mutual
    take-rows : (m : ℕ) (c : Rows) → length mask ≤ m → HasRows m c → kept_rows (take (from + n) mask) c ≡ appended (kept_rows (take from mask) c) (part_of from (from + n) c)
    take-rows m (bools c) l h = ap (λ rows. bools (record { nullable = c.nullable; rows = rows })) (take-run mask from n c.rows inside (omega (arith, l, h)) all)
    take-rows m (ints c) l h = ap (λ rows. ints (record { ptype = c.ptype; nullable = c.nullable; rows = rows })) (take-run mask from n c.rows inside (omega (arith, l, h)) all)
    take-rows m (texts c) l h = ap (λ rows. texts (record { nullable = c.nullable; rows = rows })) (take-run mask from n c.rows inside (omega (arith, l, h)) all)
    take-rows m (structs c cs) l h =
        let long = h.0 in
        ap (λ rows. structs (record { nullable = c.nullable; present = rows }) (kept_fields (take (from + n) mask) cs)) (take-run mask from n c.present inside (omega (arith, l, long)) all)
        ∙ ap (structs (record { nullable = c.nullable; present = kept (take from mask) c.present ++ slice_range c.present from (from + n) })) (take-fields m cs l h.1)

    take-fields : (m : ℕ) (cs : FieldRows) → length mask ≤ m → AllHaveRows m cs → kept_fields (take (from + n) mask) cs ≡ fields_appended (kept_fields (take from mask) cs) (field_parts from (from + n) cs)
    take-fields m no_columns l h = refl
    take-fields m (column name c cs) l h =
        ap (λ (x : Rows). column name x (kept_fields (take (from + n) mask) cs)) (take-rows m c l h.0)
        ∙ ap (column name (appended (kept_rows (take from mask) c) (part_of from (from + n) c))) (take-fields m cs l h.1)

none-kept : {A : Type 0} → (xs : List A) → kept [] xs ≡ []
none-kept xs = refl

mutual
  no-rows : (c : Rows) → kept_rows [] c ≡ no_rows (dtype_of c)
  no-rows (bools c) = refl
  no-rows (ints c) = refl
  no-rows (texts c) = refl
  no-rows (structs c cs) = ap (structs (record { nullable = c.nullable; present = [] })) (no-fields cs)

  no-fields : (cs : FieldRows) → kept_fields [] cs ≡ no_rows_each (types_of cs)
  no-fields no_columns = refl
  no-fields (column name c cs) = ap (λ (x : Rows). column name x (kept_fields [] cs)) (no-rows c) ∙ ap (column name (no_rows (dtype_of c))) (no-fields cs)

-- ---- run by run

-- the rows that are kept of those in front
pub record Keeps (mask : List Bool) (c : Rows) (at : ℕ) (kept_so_far : Rows) : Type 0 where
  pub rows : kept_so_far ≡ kept_rows (take at mask) c
  pub inside : at ≤ length mask

pub keeps_none : (mask : List Bool) (c : Rows) (d : Dtype) (now : Rows) → d ≡ dtype_of c → now ≡ no_rows d → Keeps mask c 0 now
keeps_none mask c d now t e = record { rows = e ∙ ap no_rows t ∙ sym (no-rows c); inside = omega arith }

pub keeps_more : (mask : List Bool) (c : Rows) (at from to : ℕ) (now next : Rows) → length mask ≡ rows_len c → HasRows (rows_len c) c → Keeps mask c at now
    → at ≤ from → from ≤ to → to ≤ length mask → ((k : ℕ) → at ≤ k → k < from → slice_index_or mask k true ≡ false) → ((k : ℕ) → from ≤ k → k < to → slice_index_or mask k true ≡ true)
    → next ≡ appended now (part_of from to c) → Keeps mask c to next
keeps_more mask c at from to now next long even k a b l none all e =
    let x : at + (from - at) ≡ from = omega (arith, a) in
    let y : from + (to - from) ≡ to = omega (arith, b) in
    let gap = subst (λ i. kept_rows (take i mask) c ≡ kept_rows (take at mask) c) x
    (skip-rows mask at (from - at) (omega (arith, a, b, l)) (λ i u v. none i u (omega (arith, v, a))) c) in
    let run = subst (λ i. kept_rows (take i mask) c ≡ appended (kept_rows (take from mask) c) (part_of from i c)) y
    (take-rows mask from (to - from) (omega (arith, b, l)) (λ i u v. all i u (omega (arith, v, b))) (rows_len c) c (omega (arith, long)) even) in
    record {
      rows = e ∙ ap (λ (r : Rows). appended r (part_of from to c)) (k.rows ∙ sym gap) ∙ sym run;
      inside = l;
    }

pub keeps_all : (mask : List Bool) (c : Rows) (at : ℕ) (now : Rows) → Keeps mask c at now → length mask ≤ at → now ≡ kept_rows mask c
keeps_all mask c at now k l = k.rows ∙ ap (λ m. kept_rows m c) (take_all at mask l)

-- ---- in order

kept-map : {A B : Type 0} → (f : A → B) (mask : List Bool) (xs : List A) → kept mask (map f xs) ≡ map f (kept mask xs)
kept-map f [] xs = refl
kept-map f (b ∷ mask) [] = refl
kept-map f (true ∷ mask) (x ∷ xs) = ap (λ ys. f x ∷ ys) (kept-map f mask xs)
kept-map f (false ∷ mask) (x ∷ xs) = kept-map f mask xs

kept-long : {A B : Type 0} → (mask : List Bool) (xs : List A) (ys : List B) → length xs ≡ length ys → length (kept mask xs) ≡ length (kept mask ys)
kept-long [] xs ys e = refl
kept-long (b ∷ mask) [] [] e = refl
kept-long (b ∷ mask) [] (y ∷ ys) e = absurd (omega (arith, e))
kept-long (b ∷ mask) (x ∷ xs) [] e = absurd (omega (arith, e))
kept-long (true ∷ mask) (x ∷ xs) (y ∷ ys) e = ap suc (kept-long mask xs ys (omega (arith, e)))
kept-long (false ∷ mask) (x ∷ xs) (y ∷ ys) e = kept-long mask xs ys (omega (arith, e))

span-shift : {A : Type 0} → (f : ℕ → A) (k n : ℕ) → span f (k + 1) n ≡ span (λ i. f (suc i)) k n
span-shift f k zero = refl
span-shift f k (suc n) = rw add-one (ap (λ ys. f (suc k) ∷ ys) (span-shift f (suc k) n))

span-map : {A B : Type 0} → (g : A → B) (f : ℕ → A) (k n : ℕ) → span (λ i. g (f i)) k n ≡ map g (span f k n)
span-map g f k zero = refl
span-map g f k (suc n) = ap (λ ys. g (f k) ∷ ys) (span-map g f (k + 1) n)

-- the places that a mask keeps of so many
abbrev places : List Bool → ℕ → List ℕ
places mask n = kept mask (span (λ i. i) 0 n)

places-shift : (mask : List Bool) (n : ℕ) → kept mask (span (λ i. i) (0 + 1) n) ≡ map suc (places mask n)
places-shift mask n = ap (kept mask) (span-shift (λ i. i) 0 n ∙ span-map suc (λ i. i) 0 n) ∙ kept-map suc mask (span (λ i. i) 0 n)

get-suc : (xs : List ℕ) (j : ℕ) → j < length xs → slice_index_or (map suc xs) j 0 ≡ suc (slice_index_or xs j 0)
get-suc [] j l = absurd (omega (arith, l))
get-suc (x ∷ xs) zero l = refl
get-suc (x ∷ xs) (suc j) l = get-suc xs j (omega (arith, l))

-- what stands at a row that is kept
kept-at : {A : Type 0} → (mask : List Bool) (xs : List A) (j : ℕ) (d : A) → j < length (places mask (length xs)) → slice_index_or (kept mask xs) j d ≡ slice_index_or xs (slice_index_or (places mask (length xs)) j 0) d
kept-at [] xs j d l = absurd (omega (arith, l))
kept-at (b ∷ mask) [] j d l = absurd (omega (arith, l))
kept-at (true ∷ mask) (x ∷ xs) zero d l = refl
kept-at (true ∷ mask) (x ∷ xs) (suc j) d l =
    let shift = places-shift mask (length xs) in
    let m : j < length (places mask (length xs)) = omega (arith, l, simp length-map at (ap length shift)) in
    kept-at mask xs j d m ∙ sym (ap (λ i. slice_index_or (x ∷ xs) i d) (ap (λ ps. slice_index_or ps j 0) shift ∙ get-suc (places mask (length xs)) j m))
kept-at (false ∷ mask) (x ∷ xs) j d l =
    let shift = places-shift mask (length xs) in
    let m : j < length (places mask (length xs)) = omega (arith, l, simp length-map at (ap length shift)) in
    kept-at mask xs j d m ∙ sym (ap (λ i. slice_index_or (x ∷ xs) i d) (ap (λ ps. slice_index_or ps j 0) shift ∙ get-suc (places mask (length xs)) j m))

module _ (mask : List Bool) (n j : ℕ) (l : j < length (places mask n)) where
  place : {A : Type 0} → (xs : List A) (d : A) → length xs ≡ n → slice_index_or (kept mask xs) j d ≡ slice_index_or xs (slice_index_or (places mask n) j 0) d
  place xs d e = kept-at mask xs j d (rw e l) ∙ ap (λ m. slice_index_or xs (slice_index_or (places mask m) j 0) d) e

  mutual
    row-kept : (c : Rows) → HasRows n c → row_in (kept_rows mask c) j ≡ row_in c (slice_index_or (places mask n) j 0)
    row-kept (bools c) h = ap (λ r. flat (bool_cell r)) (place c.rows None h)
    row-kept (ints c) h = ap (λ r. flat (int_cell r)) (place c.rows None h)
    row-kept (texts c) h = ap (λ r. flat (text_cell r)) (place c.rows None h)
    row-kept (structs c cs) h =
        ap (λ b. if_there b (of_parts (parts_in (kept_fields mask cs) j))) (place c.present true h.0)
        ∙ ap (λ ps. if_there (slice_index_or c.present (slice_index_or (places mask n) j 0) true) (of_parts ps)) (parts-kept cs h.1)

    parts-kept : (cs : FieldRows) → AllHaveRows n cs → parts_in (kept_fields mask cs) j ≡ parts_in cs (slice_index_or (places mask n) j 0)
    parts-kept no_columns h = refl
    parts-kept (column name c cs) h =
        ap (λ r. part r (parts_in (kept_fields mask cs) j)) (row-kept c h.0) ∙ ap (part (row_in c (slice_index_or (places mask n) j 0))) (parts-kept cs h.1)

kept-count : (mask : List Bool) (n : ℕ) (c : Rows) → HasRows n c → rows_len (kept_rows mask c) ≡ length (places mask n)
kept-count mask n (bools c) h = kept-long mask c.rows (span (λ i. i) 0 n) (h ∙ sym (length_span (λ i. i) 0 n))
kept-count mask n (ints c) h = kept-long mask c.rows (span (λ i. i) 0 n) (h ∙ sym (length_span (λ i. i) 0 n))
kept-count mask n (texts c) h = kept-long mask c.rows (span (λ i. i) 0 n) (h ∙ sym (length_span (λ i. i) 0 n))
kept-count mask n (structs c cs) h = kept-long mask c.present (span (λ i. i) 0 n) (h.0 ∙ sym (length_span (λ i. i) 0 n))

-- a list by its places
by-places : {A : Type 0} → (f : ℕ → A) (ps : List ℕ) → span (λ j. f (slice_index_or ps j 0)) 0 (length ps) ≡ map f ps
by-places f [] = refl
by-places f (p ∷ ps) = ap (λ ys. f p ∷ ys) (span-shift (λ j. f (slice_index_or (p ∷ ps) j 0)) 0 (length ps) ∙ by-places f ps)

pub keeps_rows : KeepsRows
keeps_rows mask n c h =
    let ps = places mask n in
    ap (span (row_in (kept_rows mask c)) 0) (kept-count mask n c h)
    ∙ span_same (row_in (kept_rows mask c)) (λ j. row_in c (slice_index_or ps j 0)) 0 (length ps) (λ j a b. row-kept mask n j (omega (arith, b)) c h)
    ∙ by-places (row_in c) ps ∙ sym (kept-map (row_in c) mask (span (λ i. i) 0 n))
    ∙ ap (kept mask) (sym (span-map (row_in c) (λ i. i) 0 n) ∙ ap (span (row_in c) 0) (sym (rows_are n c h)))

-- ---- rows that satisfy

kept-one : {A : Type 0} → (b : Bool) (mask : List Bool) (x : A) (xs ys : List A) → kept mask xs ≡ ys → kept (b ∷ mask) (x ∷ xs) ≡ cond b (x ∷ ys) ys
kept-one true mask x xs ys e = ap (λ zs. x ∷ zs) e
kept-one false mask x xs ys e = e

kept-filter : {A : Type 0} → (p : A → Bool) (xs : List A) → kept (map p xs) xs ≡ filter p xs
kept-filter p [] = refl
kept-filter p (x ∷ xs) = kept-one (p x) (map p xs) x xs (filter p xs) (kept-filter p xs)

pub kept_satisfying : (p : Row → Bool) (n : ℕ) (c : Rows) → HasRows n c → all_rows (kept_rows (span (λ i. p (row_in c i)) 0 (rows_len c)) c) ≡ filter p (all_rows c)
kept_satisfying p n c h =
    keeps_rows (span (λ i. p (row_in c i)) 0 (rows_len c)) n c h ∙ ap (λ m. kept m (all_rows c)) (span-map p (row_in c) 0 (rows_len c)) ∙ kept-filter p (all_rows c)

pub none_satisfies : (p : Row → Bool) (rows : List Row) → AllByRecursion (λ r. p r ≡ false) rows → filter p rows ≡ []
none_satisfies p [] h = refl
none_satisfies p (r ∷ rows) h = rw h.0 (none_satisfies p rows h.1)

-- one run of rows
pub one_run : (mask : List Bool) (c : Rows) (from to : ℕ) → length mask ≡ rows_len c → HasRows (rows_len c) c → from ≤ to → to ≤ length mask
    → ((k : ℕ) → k < from → slice_index_or mask k true ≡ false) → ((k : ℕ) → from ≤ k → k < to → slice_index_or mask k true ≡ true)
    → ((k : ℕ) → to ≤ k → k < length mask → slice_index_or mask k true ≡ false) → part_of from to c ≡ kept_rows mask c
one_run mask c from to long even o l none all after =
    let start = keeps_none mask c (dtype_of c) (no_rows (dtype_of c)) refl refl in
    let run = keeps_more mask c 0 from to (no_rows (dtype_of c)) (appended (no_rows (dtype_of c)) (part_of from to c)) long even start (omega arith) o l (λ k a b. none k b) all refl in
    let alone : appended (no_rows (dtype_of c)) (part_of from to c) ≡ part_of from to c =
    subst (λ (d : Dtype). appended (no_rows d) (part_of from to c) ≡ part_of from to c) (part_type from to c) (none_before (part_of from to c)) in
    let x : to + (length mask - to) ≡ length mask = omega (arith, l) in
    let gap = subst (λ i. kept_rows (take i mask) c ≡ kept_rows (take to mask) c) x
    (skip-rows mask to (length mask - to) (omega (arith, l)) (λ k a b. after k a (omega (arith, b, l))) c) in
    sym alone ∙ run.rows ∙ sym gap ∙ ap (λ m. kept_rows m c) (take_all (length mask) mask (omega arith))
