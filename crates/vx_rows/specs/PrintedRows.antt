-- Columns whose printed rows are read as the same column.
use Rattle.std.specs.Prelude.{◌≡◌, ℕ, pos, ◌<◌, true, false, not, List, [], length, slice_index_or, None, ◌++◌, codes}
use Rattle.vx_rows.specs.Rows.{Rows, FieldRows, bools, ints, texts, structs, no_columns, column}
use Rattle.vx_rows.specs.ReadRows.{null_or}

abbrev mutual
  -- a row is the one that a column has in a struct that is null
  pub IsAbsent : Rows → ℕ → Type 0
  IsAbsent (bools c) row = slice_index_or c.rows row None ≡ null_or c.nullable false
  IsAbsent (ints c) row = slice_index_or c.rows row None ≡ null_or c.nullable (pos 0)
  IsAbsent (texts c) row = slice_index_or c.rows row None ≡ null_or c.nullable []
  IsAbsent (structs c cs) row = (slice_index_or c.present row true ≡ not c.nullable) × AreAbsent cs row

  pub AreAbsent : FieldRows → ℕ → Type 0
  AreAbsent no_columns row = Unit {0}
  AreAbsent (column name c cs) row = IsAbsent c row × AreAbsent cs row

abbrev mutual
  -- where a struct is null, its fields have the rows that are read there
  pub HidesNothing : Rows → Type 0
  HidesNothing (bools c) = Unit {0}
  HidesNothing (ints c) = Unit {0}
  HidesNothing (texts c) = Unit {0}
  HidesNothing (structs c cs) = ((row : ℕ) → row < length c.present → slice_index_or c.present row true ≡ false → AreAbsent cs row) × HideNothing cs

  pub HideNothing : FieldRows → Type 0
  HideNothing no_columns = Unit {0}
  HideNothing (column name c cs) = HidesNothing c × HideNothing cs

-- a line and its line feed
abbrev pub fed : List ℕ → List ℕ
fed line = line ++ codes "\n"
