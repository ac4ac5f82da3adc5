-- What the rows of a column are, as plain data: the names of fields are their bytes.
use Rattle.std.specs.Prelude.{ℕ, Bool, List, [], ◌∷◌, map, String, string_bytes}
use Rattle.std.specs.Global.{Global}
use Rattle.vx_data.specs.declared.ptype.PType.{PType}
use Rattle.vx_data.specs.declared.dtype.DType.{DType, fold-DType}
use Rattle.vx_data.specs.declared.dtype.DType.TheOpen.{DType-F, Fields-F, Kept-F}
use Rattle.vx_data.specs.declared.dtype.Fields.{Fields, fold-Fields}
use Rattle.std.specs.Arc.{arc_value}

mutual
  pub data Dtype : Type 0 where
    bool : Bool → Dtype
    int : PType → Bool → Dtype
    text : Bool → Dtype
    struct : FieldList → Bool → Dtype

  pub data FieldList : Type 0 where
    no_fields : FieldList
    field : List ℕ → Dtype → FieldList → FieldList

-- whether a row may be null
abbrev pub is_nullable : Dtype → Bool
is_nullable (bool nullable) = nullable
is_nullable (int ptype nullable) = nullable
is_nullable (text nullable) = nullable
is_nullable (struct fs nullable) = nullable

-- ---- what a type stands for

abbrev pub fields_of : List (String Global × Dtype) → FieldList
fields_of [] = no_fields
fields_of (f ∷ fs) = field (string_bytes f.0) f.1 (fields_of fs)

abbrev pub dtype_step : DType-F Dtype FieldList FieldList → Dtype
dtype_step (DType-F.Bool nullable) = bool nullable
dtype_step (DType-F.Int ptype nullable) = int ptype nullable
dtype_step (DType-F.Text nullable) = text nullable
dtype_step (DType-F.Struct fields nullable) = struct fields nullable

abbrev pub fields_step : Fields-F Dtype FieldList FieldList → FieldList
fields_step f = f.kept

abbrev pub kept_step : Kept-F Dtype FieldList FieldList → FieldList
kept_step (Kept-F.Owned fields) = fields_of fields.items
kept_step (Kept-F.Shared fields) = fields_of (arc_value fields).items

abbrev pub dtype_view : DType → Dtype
dtype_view = fold-DType Dtype FieldList FieldList dtype_step kept_step fields_step

abbrev pub fields_view : Fields → FieldList
fields_view = fold-Fields Dtype FieldList FieldList dtype_step kept_step fields_step

-- the same of fields in a list
abbrev pub pairs_view : List (String Global × DType) → FieldList
pairs_view fs = fields_of (map (λ f. (f.0, dtype_view f.1)) fs)
