-- What predicates see of a row of a column.
use Rattle.std.specs.Prelude.{ℕ, zero, suc, ℤ, Bool, true, if◌then◌else◌, List, slice_index_or, Option, Some, None}
use Rattle.vx_data.specs.Scalar.{Value, flag, number, words}
use Rattle.vx_rows.specs.Rows.{Rows, FieldRows, bools, ints, texts, structs, no_columns, column}

-- nothing, a value, or a struct that is there
pub data Cell : Type 0 where
  null : Cell
  value : Value → Cell
  a_struct : Cell

mutual
  -- a row of a column: a cell, or a struct's parts, one for each field
  pub data Row : Type 0 where
    flat : Cell → Row
    of_parts : Parts → Row

  pub data Parts : Type 0 where
    no_parts : Parts
    part : Row → Parts → Parts

-- what a row is by itself
abbrev pub cell : Row → Cell
cell (flat c) = c
cell (of_parts ps) = a_struct

abbrev pub nth_part : ℕ → Parts → Row
nth_part i no_parts = flat null
nth_part zero (part r ps) = r
nth_part (suc i) (part r ps) = nth_part i ps

-- the part of a row at a place. What is null has null parts
abbrev pub part_at : ℕ → Row → Row
part_at i (flat c) = flat null
part_at i (of_parts ps) = nth_part i ps

-- ---- rows of columns

abbrev pub value_cell : Option Value → Cell
value_cell None = null
value_cell (Some v) = value v

abbrev pub bool_cell : Option Bool → Cell
bool_cell None = null
bool_cell (Some b) = value (flag b)

abbrev pub int_cell : Option ℤ → Cell
int_cell None = null
int_cell (Some n) = value (number n)

abbrev pub text_cell : Option (List ℕ) → Cell
text_cell None = null
text_cell (Some t) = value (words t)

-- a row, or null where it is not there
abbrev pub if_there : Bool → Row → Row
if_there present r = if present then r else flat null

abbrev mutual
  pub row_in : Rows → ℕ → Row
  row_in (bools c) row = flat (bool_cell (slice_index_or c.rows row None))
  row_in (ints c) row = flat (int_cell (slice_index_or c.rows row None))
  row_in (texts c) row = flat (text_cell (slice_index_or c.rows row None))
  row_in (structs c cs) row = if_there (slice_index_or c.present row true) (of_parts (parts_in cs row))

  pub parts_in : FieldRows → ℕ → Parts
  parts_in no_columns row = no_parts
  parts_in (column name c cs) row = part (row_in c row) (parts_in cs row)
