-- The texts of values: one spelling for each.
use Rattle.std.specs.Prelude.{ℕ, zero, suc, ◌+◌, Bool, true, false, if◌then◌else◌, List, [], ◌++◌, codes, slice_index_or, Option, Some, None}
use Rattle.std.specs.Fmt.{signed_decimal}
use Rattle.vx_data.specs.Texts.{quoted, comma}
use Rattle.vx_rows.specs.Rows.{Rows, FieldRows, bools, ints, texts, structs, no_columns, column, rows_len}

-- null is `~`
abbrev pub optional : {A : Type 0} → (A → List ℕ) → Option A → List ℕ
optional text None = codes "~"
optional text (Some value) = text value

abbrev pub bool_text : Bool → List ℕ
bool_text true = codes "true"
bool_text false = codes "false"

abbrev mutual
  -- the text of a row of a column
  pub value_text : Rows → ℕ → List ℕ
  value_text (bools c) row = optional bool_text (slice_index_or c.rows row None)
  value_text (ints c) row = optional signed_decimal (slice_index_or c.rows row None)
  value_text (texts c) row = optional quoted (slice_index_or c.rows row None)
  value_text (structs c cs) row = if slice_index_or c.present row true then codes "(" ++ fields_text true cs row ++ codes ")" else codes "~"

  -- the fields of a row, whose first has no comma before it
  pub fields_text : Bool → FieldRows → ℕ → List ℕ
  fields_text first no_columns row = []
  fields_text first (column name c cs) row = comma first ++ value_text c row ++ fields_text false cs row

-- a row and a line feed
abbrev pub line_text : Rows → ℕ → List ℕ
line_text c row = value_text c row ++ codes "\n"

-- so many rows from one on, one line each
abbrev pub lines_from : Rows → ℕ → ℕ → List ℕ
lines_from c row zero = []
lines_from c row (suc n) = line_text c row ++ lines_from c (row + 1) n

-- all rows of a column
abbrev pub lines_text : Rows → List ℕ
lines_text c = lines_from c 0 (rows_len c)
