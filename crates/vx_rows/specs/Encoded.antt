-- What encoding a column gives: its bytes, or why there are none.
use Rattle.std.specs.Prelude.{◌≡◌, ℕ, ◌^◌, ◌&&◌, Bool, true, nat_lt, List, [], ◌++◌, length, codes, Result, Ok, Err}
use Rattle.std.specs.Int.{w16, to_le_bytes}
use Rattle.vx_base.specs.Checks.{◌>>=◌, ◌unless◌}
use Rattle.vx_data.specs.LayoutWritten.{place_in, has_id}
use Rattle.vx_rows.specs.Rows.{Rows, FieldRows, bools, ints, texts, structs, no_columns, column}
use Rattle.vx_rows.specs.Written.{presence_bytes, bools_bytes, ints_bytes, texts_bytes}
use Rattle.vx_rows.specs.declared.encode_error.EncodeError.{EncodeError}
use Rattle.vx_rows.specs.declared.encode_error.EncodeError.TheVariants.{NotPermitted, SegmentTooLong, OutOfMemory}

-- the id of the array of a column
abbrev pub id_of : Rows → List ℕ
id_of (bools c) = codes "vortex.bool"
id_of (ints c) = codes "vortex.primitive"
id_of (texts c) = codes "vortex.varbin"
id_of (structs c cs) = codes "vortex.struct"

-- the index of an id among those of the file
abbrev pub index_bytes : List (List ℕ) → List ℕ → List ℕ
index_bytes ids id = to_le_bytes w16 (place_in ids id)

abbrev mutual
  -- the ids of all arrays are among those of the file
  pub is_permitted : List (List ℕ) → Rows → Bool
  is_permitted ids (bools c) = has_id ids (id_of (bools c))
  is_permitted ids (ints c) = has_id ids (id_of (ints c))
  is_permitted ids (texts c) = has_id ids (id_of (texts c))
  is_permitted ids (structs c cs) = has_id ids (id_of (structs c cs)) && are_permitted ids cs

  pub are_permitted : List (List ℕ) → FieldRows → Bool
  are_permitted ids no_columns = true
  are_permitted ids (column name c cs) = is_permitted ids c && are_permitted ids cs

abbrev mutual
  -- the bytes of an array behind the index of its id
  pub body_bytes : List (List ℕ) → Rows → List ℕ
  body_bytes ids (bools c) = bools_bytes c
  body_bytes ids (ints c) = ints_bytes c
  body_bytes ids (texts c) = texts_bytes c
  body_bytes ids (structs c cs) = presence_bytes c.nullable c.present ++ arrays_bytes ids cs

  -- the arrays of a struct's fields, one behind the other
  pub arrays_bytes : List (List ℕ) → FieldRows → List ℕ
  arrays_bytes ids no_columns = []
  arrays_bytes ids (column name c cs) = (index_bytes ids (id_of c) ++ body_bytes ids c) ++ arrays_bytes ids cs

-- an array
abbrev pub array_bytes : List (List ℕ) → Rows → List ℕ
array_bytes ids c = index_bytes ids (id_of c) ++ body_bytes ids c

abbrev pub encoded : List (List ℕ) → Rows → Result (List ℕ) EncodeError
encoded ids c =
    NotPermitted unless is_permitted ids c >>= λ _.
    SegmentTooLong unless nat_lt (length (array_bytes ids c)) (2 ^ 32) >>= λ _.
    Ok (array_bytes ids c)

-- what a refusal tells. Want of memory tells nothing
abbrev pub FailsToEncode : EncodeError → Result (List ℕ) EncodeError → Type 0
FailsToEncode NotPermitted answer = answer ≡ Err NotPermitted
FailsToEncode SegmentTooLong answer = answer ≡ Err SegmentTooLong
FailsToEncode OutOfMemory answer = Unit {0}
