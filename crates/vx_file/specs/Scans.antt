-- Reading the rows of a layout, segment by segment, from a source of segments.
use Rattle.std.specs.Prelude.{◌≡◌, ℕ, ◌==◌, Bool, true, false, List, [], ◌∷◌, ◌++◌, map, length, sum_by}
use Rattle.std.specs.Prelude.{Option, Some, None, is_some, Result, Err, slice_get, ◌⊎◌}
use Rattle.std.specs.List.{list_all, AllByRecursion}
use Rattle.std.specs.Option.{option_map}
use Rattle.vx_base.specs.Buffer.{bytes_at}
use Rattle.vx_base.specs.declared.segment.SegmentSpec.{SegmentSpec}
use Rattle.vx_data.specs.declared.layout_kind.LayoutKind.{LayoutKind}
use Rattle.vx_data.specs.declared.layout_kind.LayoutKind.TheVariants.{Flat, Chunked, Struct}
use Rattle.vx_data.specs.Dtype.{Dtype, FieldList, bool, int, text, struct, no_fields, field}
use Rattle.vx_data.specs.Layout.{LayoutTree, Layouts, node, no_layouts, a_layout, child_dtypes}
use Rattle.vx_data.specs.Layout.{dtype_of as type_of_tree, rows_of as tree_rows}
use Rattle.vx_rows.specs.declared.array_error.ArrayError.{ArrayError}
use Rattle.vx_rows.specs.declared.array_error.ArrayError.TheVariants as array_error
use Rattle.vx_rows.specs.declared.column.Column.{Column}
use Rattle.vx_rows.specs.LayoutRows.{flat_rows, struct_rows, rows_of, rows_of_all}
use Rattle.vx_rows.specs.Rows.{Rows, rows_len, dtype_of, IsColumn, column_view}
use Rattle.vx_rows.specs.Trees.{array}
use Rattle.vx_source.specs.declared.segment_source.SourceError.TheVariants as source_error
use Rattle.vx_source.specs.Sources.{SourceState, SegmentCause}
use Rattle.vx_file.specs.declared.scan_error.ScanError.{ScanError}
use Rattle.vx_file.specs.declared.scan_error.ScanError.TheVariants.{Segment, BadArray, UnknownEncoding, OutOfMemory}

-- ---- the flat layouts of a tree

-- the type, the rows and the segment of a flat layout
pub record FlatLayout : Type 0 where
  pub dtype : Dtype
  pub rows : ℕ
  pub segment : ℕ

abbrev mutual
  -- in preorder
  pub flats_of : LayoutTree → List FlatLayout
  flats_of (node Flat d n segments ts) = map (λ s. record { dtype = d; rows = n; segment = s }) segments
  flats_of (node Chunked d n segments ts) = flats_of_all ts
  flats_of (node Struct d n segments ts) = flats_of_all ts

  pub flats_of_all : Layouts → List FlatLayout
  flats_of_all no_layouts = []
  flats_of_all (a_layout t ts) = flats_of t ++ flats_of_all ts

-- ---- what stands in a file

-- the bytes of each segment
abbrev pub Segments : Type 0
Segments = ℕ → Option (List ℕ)

-- the bytes of a segment of a file
abbrev pub bytes_in : List ℕ → List SegmentSpec → Segments
bytes_in file table segment = option_map (λ s. bytes_at file s.offset s.length) (slice_get table segment)

-- the array of a flat layout, or why its bytes are none
abbrev pub array_of : Segments → List (List ℕ) → FlatLayout → Option (Result Rows ArrayError)
array_of bytes ids f = option_map (array ids f.dtype f.rows) (bytes f.segment)

-- the column of a layout in the bytes of one segment
abbrev pub array_in : LayoutTree → List (List ℕ) → List ℕ → Result Rows ArrayError
array_in t ids bytes = array ids (type_of_tree t) (tree_rows t) bytes

-- ---- the first flat layout that fails

-- a flat layout can be read
abbrev pub CanBeRead : Segments → List (List ℕ) → FlatLayout → Type 0
CanBeRead bytes ids f = is_some (flat_rows bytes ids f.dtype f.rows (f.segment ∷ [])) ≡ true

-- what an error tells of a flat layout. A source may refuse for want of memory, which is told as that alone
abbrev pub FailsAt : Segments → List (List ℕ) → SourceState → SourceState → ScanError → FlatLayout → Type 0
FailsAt bytes ids before now (Segment id e) f =
    (id.0 ≡ f.segment) × (e ≡ source_error.OutOfMemory → ⊥) × SegmentCause f.segment before now (Err e)
FailsAt bytes ids before now (BadArray id) f =
    (id.0 ≡ f.segment) × (array_of bytes ids f ≡ Some (Err array_error.BadArray))
FailsAt bytes ids before now (UnknownEncoding id) f =
    (id.0 ≡ f.segment) × (array_of bytes ids f ≡ Some (Err array_error.UnknownEncoding))
FailsAt bytes ids before now OutOfMemory f = Unit {0}

-- one of the flat layouts fails, and each before it can be read
abbrev pub FirstFails : (FlatLayout → Type 0) → (FlatLayout → Type 0) → List FlatLayout → Type 0
FirstFails reads fails [] = ⊥
FirstFails reads fails (f ∷ fs) = fails f ⊎ (reads f × FirstFails reads fails fs)

-- what decoding the array of a segment tells
abbrev pub DecodeFails : ℕ → Result Rows ArrayError → ScanError → Type 0
DecodeFails segment answer (Segment id e) = ⊥
DecodeFails segment answer (BadArray id) = (id.0 ≡ segment) × (answer ≡ Err array_error.BadArray)
DecodeFails segment answer (UnknownEncoding id) = (id.0 ≡ segment) × (answer ≡ Err array_error.UnknownEncoding)
DecodeFails segment answer OutOfMemory = Unit {0}

-- an error names the first flat layout that fails; want of memory names none
abbrev pub ScanFails : Segments → List (List ℕ) → SourceState → SourceState → List FlatLayout → ScanError → Type 0
ScanFails bytes ids before now fs OutOfMemory = Unit {0}
ScanFails bytes ids before now fs e = FirstFails (CanBeRead bytes ids) (FailsAt bytes ids before now e) fs

-- what an error tells of the source, whatever that serves
abbrev pub SourceFails : SourceState → SourceState → ScanError → Type 0
SourceFails before now (Segment id e) = (e ≡ source_error.OutOfMemory → ⊥) × SegmentCause id.0 before now (Err e)
SourceFails before now (BadArray id) = Unit {0}
SourceFails before now (UnknownEncoding id) = Unit {0}
SourceFails before now OutOfMemory = Unit {0}

-- ---- what reading answers, for every file that the source serves

-- a column is the rows of a layout
abbrev pub IsRead : (List ℕ → Type 0) → SourceState → List (List ℕ) → LayoutTree → Rows → Type 0
IsRead serves source ids t c = (file : List ℕ) → serves file → rows_of (bytes_in file source.table) ids t ≡ Some c

-- columns are the rows of layouts
abbrev pub AreRead : (List ℕ → Type 0) → SourceState → List (List ℕ) → Layouts → List Rows → Type 0
AreRead serves source ids ts cs =
    (file : List ℕ) → serves file → rows_of_all (bytes_in file source.table) ids ts ≡ Some cs

-- an error names the first flat layout that fails
abbrev pub NamesFirst : (List ℕ → Type 0) → SourceState → SourceState → List (List ℕ) → List FlatLayout → ScanError
    → Type 0
NamesFirst serves before now ids fs e =
    (file : List ℕ) → serves file → ScanFails (bytes_in file before.table) ids before now fs e

-- ---- the columns of the children of a layout

abbrev pub seen : List Column → List Rows
seen columns = map column_view columns

-- a column of a layout: it has its type and its rows
abbrev pub IsOf : LayoutTree → Rows → Type 0
IsOf t c = (dtype_of c ≡ type_of_tree t) × IsColumn (tree_rows t) c

-- the rows of chunks are those of the whole, and each column of a struct has all of them
abbrev pub has_rows : LayoutKind → ℕ → List Rows → Bool
has_rows Flat n cs = true
has_rows Chunked n cs = n == sum_by rows_len cs
has_rows Struct n cs = list_all (λ c. n == rows_len c) cs

-- columns of the types and rows that the children of a layout have
pub record AreParts (k : LayoutKind) (d : Dtype) (n : ℕ) (cs : List Rows) : Type 0 where
  pub dtypes : child_dtypes k d (length cs) ≡ Some (map dtype_of cs)
  pub rows : has_rows k n cs ≡ true
  pub sound : AllByRecursion (λ c. IsColumn (rows_len c) c) cs

-- columns of one type
abbrev pub AreChunks : Dtype → List Rows → Type 0
AreChunks d [] = Unit {0}
AreChunks d (c ∷ cs) = ((dtype_of c ≡ d) × IsColumn (rows_len c) c) × AreChunks d cs

-- columns of fields, of so many rows
abbrev pub AreFields : ℕ → FieldList → List Rows → Type 0
AreFields n no_fields [] = Unit {0}
AreFields n no_fields (c ∷ cs) = ⊥
AreFields n (field name d fs) [] = ⊥
AreFields n (field name d fs) (c ∷ cs) = ((dtype_of c ≡ d) × IsColumn n c) × AreFields n fs cs

-- where structs may be null, a column that says which are there comes before those of the fields
abbrev pub AreColumnsOf : Dtype → ℕ → List Rows → Type 0
AreColumnsOf (struct fs true) n [] = ⊥
AreColumnsOf (struct fs true) n (c ∷ cs) = ((dtype_of c ≡ bool false) × IsColumn n c) × AreFields n fs cs
AreColumnsOf (struct fs false) n cs = AreFields n fs cs
AreColumnsOf (bool nullable) n cs = ⊥
AreColumnsOf (int ptype nullable) n cs = ⊥
AreColumnsOf (text nullable) n cs = ⊥

-- the rows of structs over their columns
abbrev pub structs_over : Dtype → ℕ → List Rows → Option Rows
structs_over (struct fs nullable) n cs = struct_rows fs nullable n cs
structs_over (bool nullable) n cs = None
structs_over (int ptype nullable) n cs = None
structs_over (text nullable) n cs = None
