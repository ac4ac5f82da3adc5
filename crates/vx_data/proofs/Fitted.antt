-- A layout that was read fits its type: each child has the type that was asked of it.
use Rattle.std.proofs.Common.{◌≡◌, ℕ, suc, Bool, true, false, List, [], ◌∷◌, length, map, Option, Some, None, refl, sym, ap, ap₂, ◌∙◌}
use Rattle.std.specs.Prelude.{if◌then◌else◌}
use Rattle.vx_data.specs.declared.layout_kind.LayoutKind.{LayoutKind}
use Rattle.vx_data.specs.Dtype.{Dtype}
use Rattle.vx_data.specs.Layout.{LayoutTree, node, layouts_of, dtype_of, child_dtypes, has_shape}
use Rattle.vx_data.specs.LayoutTable.{Row, row, Rows, no_rows, a_row, rows_count, kind_at, dtypes_for, shaped, before, fit, fit_each}

if_dtype : (b : Bool) (k : LayoutKind) (d : Dtype) (n : ℕ) (s : List ℕ) (ts : List LayoutTree) (t : LayoutTree) → (if b then Some (node k d n s (layouts_of ts)) else None) ≡ Some t → dtype_of t ≡ d
if_dtype true k d n s ts t e = let same : node k d n s (layouts_of ts) ≡ t = cc in ap dtype_of (sym same)
if_dtype false k d n s ts t e = cc

shaped_dtype : (k : Option LayoutKind) (d : Dtype) (n : ℕ) (s : List ℕ) (ts : Option (List LayoutTree)) (t : LayoutTree) → shaped k d n s ts ≡ Some t → dtype_of t ≡ d
shaped_dtype None d n s ts t e = cc
shaped_dtype (Some k) d n s None t e = cc
shaped_dtype (Some k) d n s (Some ts) t e = if_dtype (has_shape k n s ts) k d n s ts t e

pub fit_dtype : (kinds : List (Option LayoutKind)) (r : Row) (d : Dtype) (t : LayoutTree) → fit kinds r d ≡ Some t → dtype_of t ≡ d
fit_dtype kinds (row e n s cs) d t fits = shaped_dtype (kind_at kinds e) d n s (fit_each kinds cs (dtypes_for (kind_at kinds e) d (rows_count cs))) t fits

-- what stands before others, where all are there
record IsBefore (o : Option LayoutTree) (os : Option (List LayoutTree)) (ts : List LayoutTree) : Type 0 where
  one : LayoutTree
  others : List LayoutTree
  first : o ≡ Some one
  rest : os ≡ Some others
  whole : ts ≡ one ∷ others

before_some : (o : Option LayoutTree) (os : Option (List LayoutTree)) (ts : List LayoutTree) → before o os ≡ Some ts → IsBefore o os ts
before_some None os ts e = cc
before_some (Some t) None ts e = cc
before_some (Some t) (Some us) ts e = record { one = t; others = us; first = refl; rest = refl; whole = cc }

-- the layouts of rows have the types that were asked, and are as many as the rows
each_dtypes : (kinds : List (Option LayoutKind)) (rs : Rows) (ds : List Dtype) (ts : List LayoutTree) → fit_each kinds rs (Some ds) ≡ Some ts → map dtype_of ts ≡ ds
each_dtypes kinds no_rows [] ts e = let none : ts ≡ [] = cc in ap (map dtype_of) none
each_dtypes kinds no_rows (d ∷ ds) ts e = cc
each_dtypes kinds (a_row r rs) [] ts e = cc
each_dtypes kinds (a_row r rs) (d ∷ ds) ts e =
    let b = before_some (fit kinds r d) (fit_each kinds rs (Some ds)) ts e in
    ap (map dtype_of) b.whole ∙ ap₂ (λ x xs. x ∷ xs) (fit_dtype kinds r d b.one b.first) (each_dtypes kinds rs ds b.others b.rest)

each_length : (kinds : List (Option LayoutKind)) (rs : Rows) (ds : List Dtype) (ts : List LayoutTree) → fit_each kinds rs (Some ds) ≡ Some ts → length ts ≡ rows_count rs
each_length kinds no_rows [] ts e = let none : ts ≡ [] = cc in ap length none
each_length kinds no_rows (d ∷ ds) ts e = cc
each_length kinds (a_row r rs) [] ts e = cc
each_length kinds (a_row r rs) (d ∷ ds) ts e =
    let b = before_some (fit kinds r d) (fit_each kinds rs (Some ds)) ts e in
    ap length b.whole ∙ ap suc (each_length kinds rs ds b.others b.rest)

pub no_dtypes : (kinds : List (Option LayoutKind)) (rs : Rows) → let none : Option (List LayoutTree) = None in fit_each kinds rs None ≡ none
no_dtypes kinds no_rows = refl
no_dtypes kinds (a_row r rs) = refl

by_dtypes : (kinds : List (Option LayoutKind)) (k : LayoutKind) (d : Dtype) (rs : Rows) (ts : List LayoutTree) (o : Option (List Dtype))
    → child_dtypes k d (rows_count rs) ≡ o → fit_each kinds rs o ≡ Some ts → child_dtypes k d (length ts) ≡ Some (map dtype_of ts)
by_dtypes kinds k d rs ts None is e = let none = no_dtypes kinds rs in cc
by_dtypes kinds k d rs ts (Some ds) is e =
    ap (child_dtypes k d) (each_length kinds rs ds ts e) ∙ is ∙ ap (λ xs. Some xs) (sym (each_dtypes kinds rs ds ts e))

pub children_fit : (kinds : List (Option LayoutKind)) (o : Option LayoutKind) (k : LayoutKind) (d : Dtype) (rs : Rows) (ts : List LayoutTree)
    → o ≡ Some k → fit_each kinds rs (dtypes_for o d (rows_count rs)) ≡ Some ts → child_dtypes k d (length ts) ≡ Some (map dtype_of ts)
children_fit kinds None k d rs ts is e = cc
children_fit kinds (Some j) k d rs ts is e =
    let same : j ≡ k = cc in
    ap (λ i. child_dtypes i d (length ts)) (sym same) ∙ by_dtypes kinds j d rs ts (child_dtypes j d (rows_count rs)) refl e
