-- The table of a type, and the checks on it. A value of the walk is a type where all of its kinds are known.
use Rattle.std.specs.Prelude.{ℕ, zero, suc, Bool, not, ◌==◌, if◌then◌else◌, List, [], ◌∷◌, length, Option, Some, None, Result}
use Rattle.std.specs.Int.{w8}
use Rattle.std.specs.Option.{option_map}
use Rattle.vx_tables.specs.declared.elements.Elements.TheVariants.{Offsets}
use Rattle.vx_tables.specs.Field.{Table, root, field}
use Rattle.vx_tables.specs.Counted.{Counted, ◌>>=◌, free, enter, present, each_text, each_table, or_empty, or_zero, vector_of, allowed}
use Rattle.vx_data.specs.declared.ptype.PType.{PType}
use Rattle.vx_data.specs.declared.ptype.PType.TheVariants.{U8, U16, U32, U64, I8, I16, I32, I64}
use Rattle.vx_data.specs.declared.data_error.DataError.{DataError}
use Rattle.vx_data.specs.declared.data_error.DataError.TheVariants.{BadTable, Unsupported}
use Rattle.vx_base.specs.Checks.{◌>>=◌ as ◌passes◌, ◌lacking◌}
use Rattle.vx_data.specs.Dtype.{Dtype, bool, int, text, struct, FieldList, no_fields, field as with}

-- ---- the parts of a type

abbrev pub ptype_of_number : ℕ → Option PType
ptype_of_number n =
    if n == 0 then Some U8 else if n == 1 then Some U16 else if n == 2 then Some U32 else if n == 3 then Some U64
    else if n == 4 then Some I8 else if n == 5 then Some I16 else if n == 6 then Some I32 else if n == 7 then Some I64 else None

-- kinds: 1 bool, 2 integer, 3 text, 4 struct
abbrev pub dtype_of : ℕ → Bool → ℕ → FieldList → Option Dtype
dtype_of kind nullable ptype fs =
    if kind == 1 then Some (bool nullable) else if kind == 2 then option_map (λ p. int p nullable) (ptype_of_number ptype)
    else if kind == 3 then Some (text nullable) else if kind == 4 then Some (struct fs nullable) else None

-- a field before others, where all are known
abbrev pub with_field : List ℕ → Option Dtype → Option FieldList → Option FieldList
with_field n (Some d) (Some fs) = Some (with n d fs)
with_field n (Some d) None = None
with_field n None fs = None

-- the fields of these names and types, where each type is known
abbrev pub known_fields : List (List ℕ) → List (Option Dtype) → Option FieldList
known_fields [] ds = Some no_fields
known_fields (n ∷ ns) [] = Some no_fields
known_fields (n ∷ ns) (d ∷ ds) = with_field n d (known_fields ns ds)

abbrev pub dtype_with : ℕ → Bool → ℕ → Option FieldList → Option Dtype
dtype_with kind nullable ptype None = None
dtype_with kind nullable ptype (Some fs) = dtype_of kind nullable ptype fs

-- as many names as types, or nothing. Every kind looks at its fields, and all of their kinds must be known.
abbrev pub paired : ℕ → Bool → ℕ → List (List ℕ) → List (Option Dtype) → Option (Option Dtype)
paired kind nullable ptype names dtypes = if length names == length dtypes then Some (dtype_with kind nullable ptype (known_fields names dtypes)) else None

-- ---- the table: kind, nullable, integer type, names, types of the fields

-- the type of integers, which is not looked at for another kind
abbrev pub ptype_field : List ℕ → Table → ℕ → Option (Option ℕ)
ptype_field b t kind = if kind == 2 then field w8 b t 2 else Some None

unfoldable pub names_in : List ℕ → Table → Option (Counted (List (List ℕ)))
names_in b t = do
  v ← vector_of b t 3 Offsets
  or_empty (each_text b) v

unfoldable pub fields_in : (Table → Option (Counted (Option Dtype))) → List ℕ → Table → Option (Counted (List (Option Dtype)))
fields_in read b t = do
  v ← vector_of b t 4 Offsets
  or_empty (each_table b read) v

-- the type of a table, from which so many levels of tables may be entered, itself among them
unfoldable pub dtype_at : ℕ → List ℕ → Table → Option (Counted (Option Dtype))
dtype_at zero b t = None
dtype_at (suc levels) b t = do
  kind ← free (field w8 b t 0)
  nullable ← free (field w8 b t 1)
  ptype ← free (ptype_field b t (or_zero kind))
  names ← names_in b t
  dtypes ← fields_in (dtype_at levels b) b t
  present (paired (or_zero kind) (not (or_zero nullable == 0)) (or_zero ptype) names dtypes)

unfoldable pub dtype_table : List ℕ → Option (Counted (Option Dtype))
dtype_table b = enter (root b) (dtype_at 64 b)

-- the checks on a table: all of its grammar, and then its kinds
unfoldable pub dtype_checks : List ℕ → Result Dtype DataError
dtype_checks bytes = BadTable lacking allowed (dtype_table bytes) passes λ d. Unsupported lacking d
