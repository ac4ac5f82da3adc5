-- Parts of columns, columns behind one another, and how large the rows of a column are.
use Rattle.std.specs.Prelude.{◌≡◌, ℕ, ◌+◌, ◌*◌, Bool, true, false, if◌then◌else◌, ◌++◌, map, length, sum_by, slice_range, Some}
use Rattle.vx_rows.specs.Bits.{bitmap_size}
use Rattle.vx_rows.specs.Columns.{Structs, value_size}
use Rattle.vx_rows.specs.Written.{text_bytes}
use Rattle.vx_rows.specs.Rows.{Rows, FieldRows, bools, ints, texts, structs, no_columns, column, HasRows, AllHaveRows}

abbrev mutual
  -- the rows of a column, and of all fields in it, from one on up to another
  pub part : ℕ → ℕ → Rows → Rows
  part from to (bools c) = bools (record { nullable = c.nullable; rows = slice_range c.rows from to })
  part from to (ints c) = ints (record { ptype = c.ptype; nullable = c.nullable; rows = slice_range c.rows from to })
  part from to (texts c) = texts (record { nullable = c.nullable; rows = slice_range c.rows from to })
  part from to (structs c cs) = structs (record { nullable = c.nullable; present = slice_range c.present from to }) (field_parts from to cs)

  pub field_parts : ℕ → ℕ → FieldRows → FieldRows
  field_parts from to no_columns = no_columns
  field_parts from to (column name c cs) = column name (part from to c) (field_parts from to cs)

abbrev mutual
  -- the rows of a column, and behind them those of a second one of the same type
  pub appended : Rows → Rows → Rows
  appended (bools c) (bools d) = bools (record { nullable = c.nullable; rows = c.rows ++ d.rows })
  appended (ints c) (ints d) = ints (record { ptype = c.ptype; nullable = c.nullable; rows = c.rows ++ d.rows })
  appended (texts c) (texts d) = texts (record { nullable = c.nullable; rows = c.rows ++ d.rows })
  appended (structs c cs) (structs d ds) = structs (record { nullable = c.nullable; present = c.present ++ d.present }) (fields_appended cs ds)
  appended c _ = c

  pub fields_appended : FieldRows → FieldRows → FieldRows
  fields_appended (column name c cs) (column _ d ds) = column name (appended c d) (fields_appended cs ds)
  fields_appended cs _ = cs

-- the rows that were there are the first of those that are there now
pub record Keeps (old new : Rows) : Type 0 where
  pub front : (n : ℕ) → HasRows n old → part 0 n new ≡ old

pub record FieldsKeep (old new : FieldRows) : Type 0 where
  pub front : (n : ℕ) → AllHaveRows n old → field_parts 0 n new ≡ old

-- ---- sizes

-- how many bytes it takes to say which rows are null
abbrev pub nulls_size : Bool → ℕ → ℕ
nulls_size nullable n = if nullable then bitmap_size n else 0

abbrev mutual
  -- how many bytes the rows take, written plainly
  pub plain_size : Rows → ℕ
  plain_size (bools c) = bitmap_size (length c.rows) + nulls_size c.nullable (length c.rows)
  plain_size (ints c) = value_size c.ptype * length c.rows + nulls_size c.nullable (length c.rows)
  plain_size (texts c) = (4 * length c.rows + sum_by (λ row. length (text_bytes row)) c.rows) + nulls_size c.nullable (length c.rows)
  plain_size (structs c cs) = fields_plain_size cs + nulls_size c.nullable (length c.present)

  pub fields_plain_size : FieldRows → ℕ
  fields_plain_size no_columns = 0
  fields_plain_size (column name c cs) = plain_size c + fields_plain_size cs

-- ---- which rows of a struct are not null

-- as a column of truth values
abbrev pub presence : Structs → Rows
presence c = bools (record { nullable = false; rows = map Some c.present })

abbrev pub is_struct : Rows → Bool
is_struct (bools c) = false
is_struct (ints c) = false
is_struct (texts c) = false
is_struct (structs c cs) = true

-- which rows of a column are not null, where it is one of structs
abbrev pub presence_of : Rows → Rows
presence_of (structs c cs) = presence c
presence_of c = c
