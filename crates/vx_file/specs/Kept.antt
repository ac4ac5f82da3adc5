-- The rows of a column that a mask keeps.
use Rattle.std.specs.Prelude.{◌≡◌, ℕ, Bool, true, false, List, [], ◌∷◌}
use Rattle.vx_rows.specs.Rows.{Rows, FieldRows, bools, ints, texts, structs, no_columns, column, HasRows, rows_len}
use Rattle.vx_rows.specs.RowValues.{Row, row_in}
use Rattle.vx_rows.specs.Span.{span}

-- those of a list for which the mask is true, in order
abbrev pub kept : {A : Type 0} → List Bool → List A → List A
kept [] xs = []
kept (b ∷ mask) [] = []
kept (true ∷ mask) (x ∷ xs) = x ∷ kept mask xs
kept (false ∷ mask) (x ∷ xs) = kept mask xs

abbrev mutual
  -- those of a column, and of all fields in it
  pub kept_rows : List Bool → Rows → Rows
  kept_rows mask (bools c) = bools (record { nullable = c.nullable; rows = kept mask c.rows })
  kept_rows mask (ints c) = ints (record { ptype = c.ptype; nullable = c.nullable; rows = kept mask c.rows })
  kept_rows mask (texts c) = texts (record { nullable = c.nullable; rows = kept mask c.rows })
  kept_rows mask (structs c cs) =
      structs (record { nullable = c.nullable; present = kept mask c.present }) (kept_fields mask cs)

  pub kept_fields : List Bool → FieldRows → FieldRows
  kept_fields mask no_columns = no_columns
  kept_fields mask (column name c cs) = column name (kept_rows mask c) (kept_fields mask cs)

-- the rows of a column, in order
abbrev pub all_rows : Rows → List Row
all_rows c = span (row_in c) 0 (rows_len c)

-- the rows of what a mask keeps of a column are those of its rows that the mask keeps, in order
abbrev pub KeepsRows : Type 0
KeepsRows = (mask : List Bool) (n : ℕ) (c : Rows) → HasRows n c → all_rows (kept_rows mask c) ≡ kept mask (all_rows c)
