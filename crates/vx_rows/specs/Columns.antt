-- What contracts see of a column: its type and the value of each row, or none where it is null.
use Rattle.std.specs.Prelude.{ℕ, ℤ, pos, ◌+◌, ◌*◌, ◌<◌, ◌≤◌, ◌==◌, Bool, true, false, ◌||◌, not, is_some}
use Rattle.std.specs.Prelude.{if◌then◌else◌, List, map, length, take, drop, slice_index, slice_index_or, slice_range, replicate, Option, Some, None, String, string_bytes}
use Rattle.std.specs.Option.{option_map}
use Rattle.std.specs.Global.{Global}
use Rattle.std.specs.Str.{IsUtf8}
use Rattle.std.specs.List.{list_all}
use Rattle.std.specs.Int.{Width, w8, w16, w32, w64, from_le_bytes, cast_signed}
use Rattle.vx_data.specs.declared.ptype.PType.{PType}
use Rattle.vx_data.specs.declared.ptype.PType.TheVariants.{U8, U16, U32, U64, I8, I16, I32, I64}
use Rattle.vx_rows.specs.Bits.{present_at}

-- truth values
pub record Bools : Type 0 where
  pub nullable : Bool
  pub rows : List (Option Bool)

-- integers of a type
pub record Ints : Type 0 where
  pub ptype : PType
  pub nullable : Bool
  pub rows : List (Option ℤ)

-- texts, each as its bytes
pub record Texts : Type 0 where
  pub nullable : Bool
  pub rows : List (Option (List ℕ))

-- structs: which are not null
pub record Structs : Type 0 where
  pub nullable : Bool
  pub present : List Bool

-- ---- integers in bytes

-- how many bytes a value has
abbrev pub value_size : PType → ℕ
value_size U8 = 1
value_size U16 = 2
value_size U32 = 4
value_size U64 = 8
value_size I8 = 1
value_size I16 = 2
value_size I32 = 4
value_size I64 = 8

abbrev pub width : PType → Width
width U8 = w8
width U16 = w16
width U32 = w32
width U64 = w64
width I8 = w8
width I16 = w16
width I32 = w32
width I64 = w64

abbrev pub is_signed : PType → Bool
is_signed U8 = false
is_signed U16 = false
is_signed U32 = false
is_signed U64 = false
is_signed I8 = true
is_signed I16 = true
is_signed I32 = true
is_signed I64 = true

-- the number that the bytes of a value are, without a sign
abbrev pub raw_at : PType → List ℕ → ℕ → ℕ
raw_at p bytes at = from_le_bytes (width p) (take (value_size p) (drop at bytes))

-- and with its sign, where the type has one
abbrev pub value_of : PType → ℕ → ℤ
value_of p raw = if is_signed p then cast_signed (width p) raw else pos raw

-- where the value of a row begins
abbrev pub value_place : PType → ℕ → ℕ → ℕ
value_place p at row = at + value_size p * row

abbrev pub int_row : PType → Option (List Bool) → List ℕ → ℕ → ℕ → Option ℤ
int_row p present bytes at row = if present_at present row then Some (value_of p (raw_at p bytes (value_place p at row))) else None

-- the value of a null row is 0
abbrev pub is_clear : PType → Option (List Bool) → List ℕ → ℕ → ℕ → Bool
is_clear p present b at row = present_at present row || (raw_at p b (value_place p at row) == 0)

-- ---- truth values and texts

abbrev pub bool_row : Option (List Bool) → List Bool → ℕ → Option Bool
bool_row present values row = if present_at present row then Some (slice_index_or values row true) else None

-- the value of a null row is false
abbrev pub is_false_row : Option (List Bool) → List Bool → ℕ → Bool
is_false_row present values row = present_at present row || not (slice_index_or values row true)

-- the text of a row lies between its place and the next
abbrev pub text_row : Option (List Bool) → List ℕ → List ℕ → ℕ → Option (List ℕ)
text_row present bytes places row =
    if present_at present row
    then Some (slice_range bytes (slice_index places row) (slice_index places (row + 1)))
    else None

-- the bytes of so many rows lie one behind the other
pub record AreRanges (bytes places : List ℕ) (n : ℕ) : Type 0 where
  pub ordered : (row : ℕ) → row < n → slice_index places row ≤ slice_index places (row + 1)
  pub inside : (row : ℕ) → row < n → slice_index places (row + 1) ≤ length bytes

-- and are texts
pub record AreTexts (bytes places : List ℕ) (n : ℕ) : Type 0 where
  pub text : (row : ℕ) → row < n → IsUtf8 (slice_range bytes (slice_index places row) (slice_index places (row + 1)))

-- none is among values only where they may be null
abbrev pub may_hold : {A : Type 0} → Bool → List (Option A) → Bool
may_hold nullable values = nullable || list_all is_some values

-- all structs are there, or they may be null
abbrev pub are_there : Bool → List Bool → Bool
are_there nullable present = nullable || list_all (λ b. b) present

-- which rows are there: as flags say, or as many as were counted, where none may be null
abbrev pub rows_there : Bool → ℕ → List Bool → List Bool
rows_there true counted flags = flags
rows_there false counted flags = replicate counted true

-- texts as their bytes
abbrev pub texts_of : List (Option (String Global)) → List (Option (List ℕ))
texts_of values = map (λ value. option_map string_bytes value) values
