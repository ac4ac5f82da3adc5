-- The columns of fields, and which of their rows are there.
use Rattle.std.specs.Prelude.{◌≡◌, ℕ, zero, suc, ◌<◌, ◌&&◌, Bool, true, List, slice_index_or, Option, Some, None}
use Rattle.std.specs.Option.{option_map}
use Rattle.std.specs.Borrow.{Bor}
use Rattle.vx_rows.specs.declared.column.Column.{Column}
use Rattle.vx_rows.specs.Columns.{Structs}
use Rattle.vx_rows.specs.Rows.{Rows, FieldRows, bools, ints, texts, structs, no_columns, column, column_view}
use Rattle.vx_rows.specs.Operands.{is_shown}

-- whether a struct is there
abbrev pub is_there : Structs → ℕ → Bool
is_there c row = slice_index_or c.present row true

abbrev pub shown_and_there : Option (List Bool) → Structs → ℕ → Bool
shown_and_there shown c row = is_shown shown row && is_there c row

-- of so many rows those are shown that were, and are there
pub record Hides (shown : Option (List Bool)) (c : Structs) (n : ℕ) (less : Option (List Bool)) : Type 0 where
  pub same : (row : ℕ) → row < n → is_shown less row ≡ shown_and_there shown c row

abbrev pub nth_column : ℕ → FieldRows → Option Rows
nth_column i no_columns = None
nth_column zero (column name c cs) = Some c
nth_column (suc i) (column name c cs) = nth_column i cs

-- of a struct, which are there, and the column of the field at a place
abbrev pub part_of : ℕ → Rows → Option (Structs × Rows)
part_of i (bools c) = None
part_of i (ints c) = None
part_of i (texts c) = None
part_of i (structs c cs) = option_map (λ x. (c, x)) (nth_column i cs)

abbrev pub lent_column : Option (Bor Column) → Option Rows
lent_column x = option_map (λ c. column_view c.now) x

abbrev pub lent_part : Option (Bor Structs × Bor Column) → Option (Structs × Rows)
lent_part x = option_map (λ p. (p.0.now, column_view p.1.now)) x
