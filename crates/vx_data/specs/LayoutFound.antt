-- What the walk over a layout's table finds: the row, which stands in no memory, and its layout.
use Rattle.std.specs.Prelude.{◌≡◌, ℕ, Bool, false, ◌&&◌, ◌==◌, nat_lt, if◌then◌else◌, List, [], ◌∷◌, ◌++◌, length, map, slice_get, Option, Some, None, Result, Ok, Err}
use Rattle.std.specs.Arc.{arc_value}
use Rattle.std.specs.Global.{Global}
use Rattle.std.specs.declared.sync.Arc.{Arc}
use Rattle.vx_tables.specs.declared.walk_error.WalkError.{WalkError}
use Rattle.vx_tables.specs.declared.walk_error.WalkError.TheVariants.{BadTable, OutOfMemory}
use Rattle.vx_data.specs.declared.dtype.DType.{DType}
use Rattle.vx_data.specs.declared.layout_kind.LayoutKind.{LayoutKind}
use Rattle.vx_data.specs.Dtype.{Dtype, dtype_view}
use Rattle.vx_data.specs.Layout.{LayoutTree, dtype_of, child_dtypes}
use Rattle.vx_data.specs.LayoutTable.{Row, rows_list, row_known, rows_known, dtypes_for, shaped, fit, fit_each}

-- the type behind an owner, where there is one
abbrev pub owned_dtype : Option (Arc DType Global) → Option Dtype
owned_dtype None = None
owned_dtype (Some d) = Some (dtype_view (arc_value d))

-- ---- the types of children

abbrev pub dtypes_asked : Option LayoutKind → Option Dtype → ℕ → Option (List Dtype)
dtypes_asked k None count = None
dtypes_asked k (Some d) count = dtypes_for k d count

abbrev pub are_as_many : Option (List Dtype) → ℕ → Bool
are_as_many None count = false
are_as_many (Some ds) count = count == length ds

abbrev pub one_of : Option (List Dtype) → ℕ → Option Dtype
one_of None at = None
one_of (Some ds) at = slice_get ds at

-- ---- rows and their layouts

-- the layout of a row, where its type is there and it fits
abbrev pub fit_in : List (Option LayoutKind) → Row → Option Dtype → Option LayoutTree
fit_in kinds r None = None
fit_in kinds r (Some d) = fit kinds r d

-- the same of what a layout is made of
abbrev pub shaped_in : Option LayoutKind → Option Dtype → ℕ → List ℕ → Option (List LayoutTree) → Option LayoutTree
shaped_in k None n s ts = None
shaped_in k (Some d) n s ts = shaped k d n s ts

-- the types of children are those that are asked, where there are any
abbrev pub AskedFit : Option LayoutKind → Option Dtype → Option (List LayoutTree) → Type 0
AskedFit None d ts = Unit {0}
AskedFit (Some k) None ts = Unit {0}
AskedFit (Some k) (Some d) None = Unit {0}
AskedFit (Some k) (Some d) (Some ts) = child_dtypes k d (length ts) ≡ Some (map dtype_of ts)

-- a layout behind others, where all are there
abbrev pub behind : Option (List LayoutTree) → Option LayoutTree → Option (List LayoutTree)
behind None t = None
behind (Some ts) None = None
behind (Some ts) (Some t) = Some (ts ++ t ∷ [])

-- the encoding, where it is below the number of ids
abbrev pub encoding_below : ℕ → ℕ → Option ℕ
encoding_below specs encoding = if nat_lt encoding specs then Some encoding else None

-- what was found of a row: whether its kinds are known beside those before it, and its layout
pub record IsRow (kinds : List (Option LayoutKind)) (d : Option Dtype) (before after : Bool) (r : Row) (layout : Option LayoutTree) : Type 0 where
  pub known : after ≡ (before && row_known kinds r)
  pub fitted : layout ≡ fit_in kinds r d

-- the same of the rows below one of this kind and type
pub record AreRows (kinds : List (Option LayoutKind)) (k : Option LayoutKind) (d : Option Dtype) (before after : Bool) (rs : List Row) (layouts : Option (List LayoutTree)) : Type 0 where
  pub known : after ≡ (before && rows_known kinds (rows_list rs))
  pub fitted : layouts ≡ fit_each kinds (rows_list rs) (dtypes_asked k d (length rs))

-- ---- walks

-- what a walk read, of which the answer says something
pub record Found {A X : Type 0} (Says : A → X → Type 0) (x : X) (left : ℕ) (walk : Option (A × ℕ)) : Type 0 where
  pub value : A
  pub read : walk ≡ Some (value, left)
  pub says : Says value x

abbrev pub Finds : {A X : Type 0} → (A → X → Type 0) → Result X WalkError → ℕ → Option (A × ℕ) → Type 0
Finds Says (Ok x) left walk = Found Says x left walk
Finds Says (Err BadTable) left walk = walk ≡ None
Finds Says (Err OutOfMemory) left walk = Unit {0}

-- the same of a whole root
pub record FoundAll {A X : Type 0} (Says : A → X → Type 0) (x : X) (read : Option A) : Type 0 where
  pub value : A
  pub is : read ≡ Some value
  pub says : Says value x

abbrev pub FindsAll : {A X : Type 0} → (A → X → Type 0) → Result X WalkError → Option A → Type 0
FindsAll Says (Ok x) read = FoundAll Says x read
FindsAll Says (Err BadTable) read = read ≡ None
FindsAll Says (Err OutOfMemory) read = Unit {0}
