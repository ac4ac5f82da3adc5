-- How a column of any type is read from the bytes of a segment.
use Rattle.std.specs.Prelude.{ℕ, ◌+◌, ◌-◌, ◌==◌, nat_le, Bool, true, false, if◌then◌else◌, List, [], ◌∷◌}
use Rattle.std.specs.Prelude.{String, string_bytes, map, length, slice_get, codes, Option, Some, None, Result, Ok, Err}
use Rattle.std.specs.Str.{bytes_eq}
use Rattle.std.specs.Global.{Global}
use Rattle.vx_base.specs.Checks.{◌>>=◌}
use Rattle.vx_data.specs.declared.ptype.PType.TheVariants.{U16}
use Rattle.vx_data.specs.Dtype.{Dtype, FieldList, bool, int, text, struct, no_fields, field}
use Rattle.vx_rows.specs.Span.{span}
use Rattle.vx_rows.specs.Bits.{present_at}
use Rattle.vx_rows.specs.Columns.{raw_at, Structs as Presence}
use Rattle.vx_rows.specs.Rows.{Rows, FieldRows, bools, ints, texts, structs, no_columns, column}
use Rattle.vx_rows.specs.Arrays.{Found, presence_at, bools_at, ints_at, texts_at}
use Rattle.vx_rows.specs.declared.array_error.ArrayError.{ArrayError}
use Rattle.vx_rows.specs.declared.array_error.ArrayError.TheVariants.{BadArray, UnknownEncoding}
use Rattle.vx_rows.specs.declared.array_kind.ArrayKind.{ArrayKind}
use Rattle.vx_rows.specs.declared.array_kind.ArrayKind.TheVariants.{Bools, Integers, Texts, Structs as StructKind, Unknown}

-- the kind of array that an id names
abbrev pub kind_of : List ℕ → ArrayKind
kind_of id =
    if bytes_eq id (codes "vortex.bool") then Bools
    else if bytes_eq id (codes "vortex.primitive") then Integers
    else if bytes_eq id (codes "vortex.varbin") then Texts
    else if bytes_eq id (codes "vortex.struct") then StructKind
    else Unknown

-- whether two kinds are one
abbrev pub same_kind : ArrayKind → ArrayKind → Bool
same_kind Bools Bools = true
same_kind Integers Integers = true
same_kind Texts Texts = true
same_kind StructKind StructKind = true
same_kind Unknown Unknown = true
same_kind _ _ = false

-- the place after an index of this kind
abbrev pub index_of : ArrayKind → ℕ → Option ArrayKind → Result ℕ ArrayError
index_of want after None = Err BadArray
index_of want after (Some Unknown) = Err UnknownEncoding
index_of want after (Some Bools) = if same_kind want Bools then Ok after else Err BadArray
index_of want after (Some Integers) = if same_kind want Integers then Ok after else Err BadArray
index_of want after (Some Texts) = if same_kind want Texts then Ok after else Err BadArray
index_of want after (Some StructKind) = if same_kind want StructKind then Ok after else Err BadArray

-- the index of an array's id
abbrev pub index_at : List ArrayKind → ArrayKind → List ℕ → ℕ → Result ℕ ArrayError
index_at kinds want b at = if nat_le 2 (length b - at) then index_of want (at + 2) (slice_get kinds (raw_at U16 b at)) else Err BadArray

-- which structs are not null
abbrev pub structs_at : Bool → ℕ → List ℕ → ℕ → Found Presence
structs_at nullable n b at = presence_at nullable n b at >>= λ x. Ok (record { nullable = nullable; present = span (present_at x.0) 0 n }, x.1)

abbrev mutual
  pub column_at : List ArrayKind → Dtype → ℕ → List ℕ → ℕ → Found Rows
  column_at kinds (bool nullable) n b at = index_at kinds Bools b at >>= λ p. bools_at nullable n b p >>= λ x. Ok (bools x.0, x.1)
  column_at kinds (int ptype nullable) n b at = index_at kinds Integers b at >>= λ p. ints_at ptype nullable n b p >>= λ x. Ok (ints x.0, x.1)
  column_at kinds (text nullable) n b at = index_at kinds Texts b at >>= λ p. texts_at nullable n b p >>= λ x. Ok (texts x.0, x.1)
  column_at kinds (struct fs nullable) n b at = index_at kinds StructKind b at >>= λ p. structs_at nullable n b p
      >>= λ x. columns_at kinds fs n b x.1 >>= λ cs. Ok (structs x.0 cs.0, cs.1)

  -- the fields of a struct, one behind the other
  pub columns_at : List ArrayKind → FieldList → ℕ → List ℕ → ℕ → Found FieldRows
  columns_at kinds no_fields n b at = Ok (no_columns, at)
  columns_at kinds (field name d fs) n b at = column_at kinds d n b at >>= λ c. columns_at kinds fs n b c.1 >>= λ cs. Ok (column name c.0 cs.0, cs.1)

-- the column of so many rows whose bytes these are: no byte follows
abbrev pub array : List (List ℕ) → Dtype → ℕ → List ℕ → Result Rows ArrayError
array ids d n b = column_at (map kind_of ids) d n b 0 >>= λ x. if x.1 == length b then Ok x.0 else Err BadArray

-- ---- how large a type is

abbrev mutual
  pub type_size : Dtype → ℕ
  type_size (bool nullable) = 1
  type_size (int ptype nullable) = 1
  type_size (text nullable) = 1
  type_size (struct fs nullable) = fields_size fs + 1

  pub fields_size : FieldList → ℕ
  fields_size no_fields = 0
  fields_size (field name d fs) = type_size d + fields_size fs

-- ---- fields read so far, before those still to come

abbrev pub before : List (String Global × Rows) → FieldRows → FieldRows
before [] cs = cs
before (c ∷ rest) cs = column (string_bytes c.0) c.1 (before rest cs)

abbrev pub behind : List (String Global × Rows) → Found FieldRows → Found FieldRows
behind made (Ok x) = Ok (before made x.0, x.1)
behind made (Err e) = Err e
