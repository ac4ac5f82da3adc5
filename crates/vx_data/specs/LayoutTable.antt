-- The table of a layout, and the checks on it: all of its grammar, then the ids that the tree uses, then the fit.
use Rattle.std.specs.Prelude.{ℕ, zero, suc, Bool, true, ◌&&◌, nat_lt, if◌then◌else◌, List, [], ◌∷◌, length, map, codes, slice_get, Option, Some, None, is_some, Result}
use Rattle.std.specs.Int.{w16, w64}
use Rattle.std.specs.Str.{bytes_eq}
use Rattle.vx_tables.specs.declared.elements.Elements.TheVariants.{Numbers, Offsets}
use Rattle.vx_tables.specs.Field.{Table, Vector, root, field, numbers_of_vector}
use Rattle.vx_tables.specs.Counted.{Counted, ◌>>=◌, pure, free, enter, present, each_table, or_empty, or_zero, vector_of, allowed}
use Rattle.vx_data.specs.declared.layout_kind.LayoutKind.{LayoutKind}
use Rattle.vx_data.specs.declared.layout_kind.LayoutKind.TheVariants.{Flat, Chunked, Struct}
use Rattle.vx_data.specs.declared.segment_ids.SegmentIds.{SegmentIds}
use Rattle.vx_data.specs.declared.segment_ids.SegmentIds.TheVariants.{One, Listed}
use Rattle.vx_base.specs.declared.segment.SegmentId.{SegmentId}
use Rattle.vx_data.specs.declared.data_error.DataError.{DataError}
use Rattle.vx_data.specs.declared.data_error.DataError.TheVariants.{BadTable, UnknownEncoding}
use Rattle.vx_base.specs.Checks.{◌>>=◌ as ◌passes◌, ◌unless◌, ◌lacking◌}
use Rattle.vx_data.specs.Dtype.{Dtype}
use Rattle.vx_data.specs.Layout.{LayoutTree, node, layouts_of, child_dtypes, has_shape}

-- ---- a layout as its table has it

mutual
  -- the encoding, the rows, the segments and the children
  pub data Row : Type 0 where
    row : ℕ → ℕ → List ℕ → Rows → Row

  pub data Rows : Type 0 where
    no_rows : Rows
    a_row : Row → Rows → Rows

abbrev pub rows_list : List Row → Rows
rows_list [] = no_rows
rows_list (r ∷ rs) = a_row r (rows_list rs)

abbrev pub rows_count : Rows → ℕ
rows_count no_rows = 0
rows_count (a_row r rs) = suc (rows_count rs)

abbrev pub ids_in : SegmentIds → List SegmentId
ids_in (One id) = id ∷ []
ids_in (Listed ids) = ids.items

-- ---- the table: encoding, rows, children, segments

-- an encoding is below the number of ids
abbrev pub row_from : ℕ → ℕ → ℕ → List ℕ → List Row → Option Row
row_from specs encoding rows segments children = if nat_lt encoding specs then Some (row encoding rows segments (rows_list children)) else None

unfoldable pub children_in : (Table → Option (Counted Row)) → List ℕ → Table → Option (Counted (List Row))
children_in read b t = do
  v ← vector_of b t 3 Offsets
  or_empty (each_table b read) v

abbrev pub numbers_or_empty : List ℕ → Option Vector → List ℕ
numbers_or_empty b None = []
numbers_or_empty b (Some v) = numbers_of_vector b v

unfoldable pub segments_in : List ℕ → Table → Option (Counted (List ℕ))
segments_in b t = do
  v ← vector_of b t 4 (Numbers 4)
  pure (numbers_or_empty b v)

-- the layout of a table, from which so many levels of tables may be entered, itself among them
unfoldable pub row_at : ℕ → ℕ → List ℕ → Table → Option (Counted Row)
row_at specs zero b t = None
row_at specs (suc levels) b t = do
  encoding ← free (field w16 b t 0)
  rows ← free (field w64 b t 1)
  children ← children_in (row_at specs levels b) b t
  segments ← segments_in b t
  present (row_from specs (or_zero encoding) (or_zero rows) segments children)

unfoldable pub layout_table : ℕ → List ℕ → Option (Counted Row)
layout_table specs b = enter (root b) (row_at specs 64 b)

-- ---- the ids that the tree uses

abbrev pub kind_of_id : List ℕ → Option LayoutKind
kind_of_id id =
    if bytes_eq id (codes "vortex.flat") then Some Flat else if bytes_eq id (codes "vortex.chunked") then Some Chunked
    else if bytes_eq id (codes "vortex.struct") then Some Struct else None

abbrev pub joined : Option (Option LayoutKind) → Option LayoutKind
joined None = None
joined (Some k) = k

-- the kind that the id at a place names
abbrev pub kind_at : List (Option LayoutKind) → ℕ → Option LayoutKind
kind_at kinds e = joined (slice_get kinds e)

abbrev mutual
  pub row_known : List (Option LayoutKind) → Row → Bool
  row_known kinds (row e n s cs) = is_some (kind_at kinds e) && rows_known kinds cs

  pub rows_known : List (Option LayoutKind) → Rows → Bool
  rows_known kinds no_rows = true
  rows_known kinds (a_row r rs) = row_known kinds r && rows_known kinds rs

-- ---- the fit

abbrev pub dtypes_for : Option LayoutKind → Dtype → ℕ → Option (List Dtype)
dtypes_for None d count = None
dtypes_for (Some k) d count = child_dtypes k d count

abbrev pub shaped : Option LayoutKind → Dtype → ℕ → List ℕ → Option (List LayoutTree) → Option LayoutTree
shaped None d n s ts = None
shaped (Some k) d n s None = None
shaped (Some k) d n s (Some ts) = if has_shape k n s ts then Some (node k d n s (layouts_of ts)) else None

-- a layout before others, where all are there
abbrev pub before : Option LayoutTree → Option (List LayoutTree) → Option (List LayoutTree)
before None ts = None
before (Some t) None = None
before (Some t) (Some ts) = Some (t ∷ ts)

abbrev mutual
  -- the layout of a row, where it fits the type
  pub fit : List (Option LayoutKind) → Row → Dtype → Option LayoutTree
  fit kinds (row e n s cs) d = shaped (kind_at kinds e) d n s (fit_each kinds cs (dtypes_for (kind_at kinds e) d (rows_count cs)))

  -- the layouts of rows, of as many types
  pub fit_each : List (Option LayoutKind) → Rows → Option (List Dtype) → Option (List LayoutTree)
  fit_each kinds no_rows None = None
  fit_each kinds no_rows (Some []) = Some []
  fit_each kinds no_rows (Some (d ∷ ds)) = None
  fit_each kinds (a_row r rs) None = None
  fit_each kinds (a_row r rs) (Some []) = None
  fit_each kinds (a_row r rs) (Some (d ∷ ds)) = before (fit kinds r d) (fit_each kinds rs (Some ds))

-- ---- the checks

unfoldable pub layout_checks : List (List ℕ) → Dtype → List ℕ → Result LayoutTree DataError
layout_checks ids d bytes =
    BadTable lacking allowed (layout_table (length ids) bytes) passes λ r.
    (UnknownEncoding unless row_known (map kind_of_id ids) r) passes λ _.
    BadTable lacking fit (map kind_of_id ids) r d
