-- The ends of flat layouts, and the ranges between them.
use Rattle.std.proofs.Common.{◌≡◌, ℕ, zero, suc, ◌+◌, ◌<◌, ◌≤◌, Bool, true, false, List, [], ◌∷◌, ◌++◌, length, get_or, drop, refl, ap, sym, ◌∙◌, subst, arith, append_assoc, add-one, drop-cons}
use Rattle.std.specs.Prelude.{◌==◌, ◌&&◌}
use Rattle.std.specs.List.{list_all}
use Rattle.std.proofs.lemmas.List.{append-nil, drop_all}
use Rattle.std.proofs.lemmas.List.Sums.{sum_by-cons}
use Rattle.std.proofs.lemmas.Bool.{eqb-true}
use Rattle.vx_data.specs.declared.layout_kind.LayoutKind.TheVariants.{Flat, Chunked, Struct}
use Rattle.vx_data.specs.Dtype.{Dtype}
use Rattle.vx_data.specs.Layout.{LayoutTree, node, layouts_of, kind_of, children_of, rows_of, rows_sum, Fits}
use Rattle.vx_file.specs.Splits.{ends_of, chunk_ends, field_ends, neighbours}
use Rattle.vx_file.proofs.ReadingLemmas.{next_child, no_child}

and-rest : (a b : Bool) → (a && b) ≡ true → b ≡ true
and-rest true b h = h
and-rest false b h = cc

and-first : (a b : Bool) → (a && b) ≡ true → a ≡ true
and-first true b h = refl
and-first false b h = h

-- ---- chunks

-- the ends of the chunks in front are there, and those behind are to come
pub record ChunkEnds (before : List ℕ) (start : ℕ) (ts rest : List LayoutTree) (ends : List ℕ) (at : ℕ) : Type 0 where
  pub value : ends ++ chunk_ends at (layouts_of rest) ≡ before ++ chunk_ends start (layouts_of ts)
  pub rows : at + rows_sum rest ≡ start + rows_sum ts

pub chunk_step : (before : List ℕ) (start : ℕ) (ts : List LayoutTree) (i : ℕ) (t : LayoutTree) (ends next : List ℕ) (at : ℕ) → i < length ts → t ≡ get_or ts i t
    → ChunkEnds before start ts (drop i ts) ends at → next ≡ ends ++ ends_of at t → ChunkEnds before start ts (drop (i + 1) ts) next (at + rows_of t)
chunk_step before start ts i t ends next at l is h e =
    let here : drop i ts ≡ t ∷ drop (i + 1) ts = rw (add-one, drop-cons ts i t, ← is) refl in
    let now = subst (λ rest. ChunkEnds before start ts rest ends at) here h in
    let sum = sum_by-cons rows_of t (drop (i + 1) ts) in
    record {
      value = ap (λ xs. xs ++ chunk_ends (at + rows_of t) (layouts_of (drop (i + 1) ts))) e ∙ append_assoc ends (ends_of at t) (chunk_ends (at + rows_of t) (layouts_of (drop (i + 1) ts))) ∙ now.value;
      rows = let rows = now.rows in omega (arith, sum, rows);
    }

-- the rows of a chunk are among those of all
pub chunk_inside : (before : List ℕ) (start : ℕ) (ts : List LayoutTree) (i : ℕ) (t : LayoutTree) (ends : List ℕ) (at : ℕ) → i < length ts → t ≡ get_or ts i t
    → ChunkEnds before start ts (drop i ts) ends at → at + rows_of t ≤ start + rows_sum ts
chunk_inside before start ts i t ends at l is h =
    let here : drop i ts ≡ t ∷ drop (i + 1) ts = rw (add-one, drop-cons ts i t, ← is) refl in
    let rows = ap rows_sum here in
    let sum = sum_by-cons rows_of t (drop (i + 1) ts) in
    let all = h.rows in
    omega (arith, rows, sum, all)

pub chunk_end : (before : List ℕ) (start : ℕ) (ts : List LayoutTree) (i : ℕ) (ends : List ℕ) (at : ℕ) → length ts ≤ i
    → ChunkEnds before start ts (drop i ts) ends at → ends ≡ before ++ chunk_ends start (layouts_of ts)
chunk_end before start ts i ends at l h =
    sym (ap (λ rest. ends ++ chunk_ends at (layouts_of rest)) (drop_all i ts l) ∙ append-nil ends) ∙ h.value

-- chunks have the rows of their layout
pub chunks_sum : (d : Dtype) (n : ℕ) (s : List ℕ) (ts : List LayoutTree) → Fits Chunked d n s ts → n ≡ rows_sum ts
chunks_sum d n s ts f = eqb-true n (rows_sum ts) (and-rest (length s == 0) (n == rows_sum ts) f.shape)

-- ---- fields

pub field_step : (before : List ℕ) (first : ℕ) (ts : List LayoutTree) (i : ℕ) (t : LayoutTree) (ends next : List ℕ) → i < length ts → t ≡ get_or ts i t
    → ends ++ field_ends first (layouts_of (drop i ts)) ≡ before ++ field_ends first (layouts_of ts) → next ≡ ends ++ ends_of first t
    → next ++ field_ends first (layouts_of (drop (i + 1) ts)) ≡ before ++ field_ends first (layouts_of ts)
field_step before first ts i t ends next l is h e =
    ap (λ xs. xs ++ field_ends first (layouts_of (drop (i + 1) ts))) e ∙ append_assoc ends (ends_of first t) (field_ends first (layouts_of (drop (i + 1) ts)))
    ∙ ap (λ rest. ends ++ field_ends first rest) (sym (next_child ts i t l is)) ∙ h

pub field_end : (before : List ℕ) (first : ℕ) (ts : List LayoutTree) (i : ℕ) (ends : List ℕ) → length ts ≤ i
    → ends ++ field_ends first (layouts_of (drop i ts)) ≡ before ++ field_ends first (layouts_of ts) → ends ≡ before ++ field_ends first (layouts_of ts)
field_end before first ts i ends l h = sym (ap (λ rest. ends ++ field_ends first rest) (no_child ts i l) ∙ append-nil ends) ∙ h

long-at : (n : ℕ) (ts : List LayoutTree) (i : ℕ) (t : LayoutTree) → i < length ts → t ≡ get_or ts i t → list_all (λ t. n == rows_of t) ts ≡ true → n ≡ rows_of t
long-at n [] i t l is h = absurd (omega (arith, l))
long-at n (x ∷ ts) zero t l is h = eqb-true n (rows_of x) (and-first (n == rows_of x) (list_all (λ t. n == rows_of t) ts) h) ∙ ap rows_of (sym is)
long-at n (x ∷ ts) (suc i) t l is h = long-at n ts i t (omega (arith, l)) is (and-rest (n == rows_of x) (list_all (λ t. n == rows_of t) ts) h)

-- fields have the rows of their layout
pub field_rows : (d : Dtype) (n : ℕ) (s : List ℕ) (ts : List LayoutTree) (i : ℕ) (t : LayoutTree) → Fits Struct d n s ts → i < length ts → t ≡ get_or ts i t → n ≡ rows_of t
field_rows d n s ts i t f l is = long-at n ts i t l is (and-rest (length s == 0) (list_all (λ t. n == rows_of t) ts) f.shape)

-- ---- neighbours

pub neighbours_step : (xs : List ℕ) (i : ℕ) → i + 1 < length xs → neighbours (drop i xs) ≡ (get_or xs i 0, get_or xs (i + 1) 0) ∷ neighbours (drop (i + 1) xs)
neighbours_step [] i l = absurd (omega (arith, l))
neighbours_step (x ∷ []) i l = absurd (omega (arith, l))
neighbours_step (x ∷ y ∷ ys) zero l = refl
neighbours_step (x ∷ y ∷ ys) (suc i) l = rw add-one (rw add-one at (neighbours_step (y ∷ ys) i (omega (arith, l))))

pub neighbours_end : (xs : List ℕ) (i : ℕ) → length xs ≤ i + 1 → neighbours (drop i xs) ≡ []
neighbours_end [] zero l = refl
neighbours_end [] (suc i) l = refl
neighbours_end (x ∷ []) zero l = refl
neighbours_end (x ∷ []) (suc zero) l = refl
neighbours_end (x ∷ []) (suc (suc i)) l = refl
neighbours_end (x ∷ y ∷ ys) zero l = absurd (omega (arith, l))
neighbours_end (x ∷ y ∷ ys) (suc i) l = neighbours_end (y ∷ ys) i (omega (arith, l))

-- ---- a layout

pub ends_flat : (t : LayoutTree) (first : ℕ) → kind_of t ≡ Flat → ends_of first t ≡ (first + rows_of t) ∷ []
ends_flat (node k d n s ts) first e = rw e refl

pub ends_chunked : (t : LayoutTree) (first : ℕ) → kind_of t ≡ Chunked → ends_of first t ≡ chunk_ends first (children_of t)
ends_chunked (node k d n s ts) first e = rw e refl

pub ends_struct : (t : LayoutTree) (first : ℕ) → kind_of t ≡ Struct → ends_of first t ≡ field_ends first (children_of t)
ends_struct (node k d n s ts) first e = rw e refl
