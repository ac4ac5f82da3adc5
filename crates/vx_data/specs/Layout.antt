-- How the rows of a column are laid out, as plain data, and which trees fit a type.
use Rattle.std.specs.Prelude.{◌≡◌, ℕ, suc, ◌+◌, Bool, true, false, ◌&&◌, ◌==◌, List, [], ◌∷◌, ◌++◌, length, map, replicate, sum_by, Option, Some, None}
use Rattle.std.specs.List.{list_all}
use Rattle.vx_base.specs.declared.segment.SegmentId.{SegmentId}
use Rattle.vx_data.specs.declared.layout_kind.LayoutKind.{LayoutKind}
use Rattle.vx_data.specs.declared.layout_kind.LayoutKind.TheVariants.{Flat, Chunked, Struct}
use Rattle.vx_data.specs.Dtype.{Dtype, bool, int, text, struct, FieldList, no_fields, field}

mutual
  -- the kind, the type, the rows, the segments and the children
  pub data LayoutTree : Type 0 where
    node : LayoutKind → Dtype → ℕ → List ℕ → Layouts → LayoutTree

  pub data Layouts : Type 0 where
    no_layouts : Layouts
    a_layout : LayoutTree → Layouts → Layouts

abbrev pub layouts_of : List LayoutTree → Layouts
layouts_of [] = no_layouts
layouts_of (t ∷ ts) = a_layout t (layouts_of ts)

abbrev pub numbers_of : List SegmentId → List ℕ
numbers_of ids = map (λ s. s.0) ids

-- ---- the parts of a node

abbrev pub kind_of : LayoutTree → LayoutKind
kind_of (node k d n s ts) = k

abbrev pub dtype_of : LayoutTree → Dtype
dtype_of (node k d n s ts) = d

abbrev pub rows_of : LayoutTree → ℕ
rows_of (node k d n s ts) = n

abbrev pub segments_of : LayoutTree → List ℕ
segments_of (node k d n s ts) = s

abbrev pub children_of : LayoutTree → Layouts
children_of (node k d n s ts) = ts

-- ---- which nodes fit

abbrev pub rows_sum : List LayoutTree → ℕ
rows_sum ts = sum_by rows_of ts

abbrev pub dtypes_of : FieldList → List Dtype
dtypes_of no_fields = []
dtypes_of (field n d fs) = d ∷ dtypes_of fs

-- where rows may be null, a column of truth values first, true for a row that is there
abbrev pub validity : Bool → List Dtype
validity true = bool false ∷ []
validity false = []

-- the types of the children, where a node of this kind can have the type
abbrev pub child_dtypes : LayoutKind → Dtype → ℕ → Option (List Dtype)
child_dtypes Flat d count = Some []
child_dtypes Chunked d count = Some (replicate count d)
child_dtypes Struct (struct fs nullable) count = Some (validity nullable ++ dtypes_of fs)
child_dtypes Struct (bool nullable) count = None
child_dtypes Struct (int ptype nullable) count = None
child_dtypes Struct (text nullable) count = None

-- a flat node has one segment, and others have none; the rows of chunks are behind one another, and each
-- child of a struct has all of them
abbrev pub has_shape : LayoutKind → ℕ → List ℕ → List LayoutTree → Bool
has_shape Flat n s ts = length s == 1
has_shape Chunked n s ts = (length s == 0) && (n == rows_sum ts)
has_shape Struct n s ts = (length s == 0) && list_all (λ t. n == rows_of t) ts

-- a node over these children fits its type
pub record Fits (k : LayoutKind) (d : Dtype) (n : ℕ) (s : List ℕ) (ts : List LayoutTree) : Type 0 where
  pub dtypes : child_dtypes k d (length ts) ≡ Some (map dtype_of ts)
  pub shape : has_shape k n s ts ≡ true

-- ---- how large a tree is

abbrev mutual
  pub tree_size : LayoutTree → ℕ
  tree_size (node k d n s ts) = suc (trees_size ts)

  pub trees_size : Layouts → ℕ
  trees_size no_layouts = 0
  trees_size (a_layout t ts) = tree_size t + trees_size ts
