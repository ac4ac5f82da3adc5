-- The operands of predicates at each row of a column.
use Rattle.std.specs.Prelude.{◌≡◌, ℕ, ◌<◌, ℤ, Bool, true, not, List, slice_index_or, Option, Some, None, Result}
use Rattle.vx_data.specs.Dtype.{Dtype}
use Rattle.vx_rows.specs.Rows.{Rows, rows_len, column_view}
use Rattle.vx_rows.specs.RowValues.{Cell, Row, cell, bool_cell, int_cell, if_there, row_in}
use Rattle.vx_rows.specs.CellViews.{cell_view}
use Rattle.vx_rows.specs.Predicates.{Pred}
use Rattle.vx_rows.specs.Truth.{to_truth, kleene_and, kleene_or, kleene_not, is_null, is_true, compared, summed, value_at}
use Rattle.vx_rows.specs.declared.kind.Kind.{Kind}
use Rattle.vx_rows.specs.declared.bind_error.BindError.{BindError}
use Rattle.vx_rows.specs.declared.predicate.Comparison.{Comparison}
use Rattle.vx_rows.specs.declared.operand.Operand.{Operand}
use Rattle.vx_rows.specs.declared.operand.Operand.TheVariants.{Value, Rows as RowsOf, Numbers, Truths}

-- whether a row is shown; without a list each is
abbrev pub is_shown : Option (List Bool) → ℕ → Bool
is_shown None row = true
is_shown (Some bits) row = slice_index_or bits row true

-- a row of a column, or null where it is not shown
abbrev pub shown_row : Option (List Bool) → Rows → ℕ → Row
shown_row shown c row = if_there (is_shown shown row) (row_in c row)

-- what an operand is at a row
abbrev pub operand_at : Operand → ℕ → Cell
operand_at (Value c) row = cell_view c
operand_at (RowsOf column shown) row = cell (shown_row shown (column_view column.now) row)
operand_at (Numbers values) row = int_cell (slice_index_or values.items row None)
operand_at (Truths values) row = bool_cell (slice_index_or values.items row None)

-- ---- nodes at a row

abbrev pub compared_at : Comparison → Operand → Operand → ℕ → Option Bool
compared_at op a b row = compared op (operand_at a row) (operand_at b row)

abbrev pub summed_at : Result Kind BindError → Operand → Operand → ℕ → Option ℤ
summed_at kind a b row = summed kind (operand_at a row) (operand_at b row)

abbrev pub and_at : Operand → Operand → ℕ → Option Bool
and_at a b row = kleene_and (to_truth (operand_at a row)) (to_truth (operand_at b row))

abbrev pub or_at : Operand → Operand → ℕ → Option Bool
or_at a b row = kleene_or (to_truth (operand_at a row)) (to_truth (operand_at b row))

abbrev pub not_at : Operand → ℕ → Option Bool
not_at a row = kleene_not (to_truth (operand_at a row))

abbrev pub null_at : Operand → ℕ → Option Bool
null_at a row = Some (is_null (operand_at a row))

abbrev pub present_at : Operand → ℕ → Option Bool
present_at a row = Some (not (is_null (operand_at a row)))

abbrev pub true_at : Operand → ℕ → Bool
true_at a row = is_true (to_truth (operand_at a row))

-- the same of truth values
abbrev pub is_true_in : List (Option Bool) → ℕ → Bool
is_true_in truths row = is_true (to_truth (bool_cell (slice_index_or truths row None)))

-- an operand is what a predicate is at each row of a column
pub record IsValueOf (p : Pred) (d : Dtype) (c : Rows) (v : Operand) : Type 0 where
  pub same : (row : ℕ) → row < rows_len c → operand_at v row ≡ value_at p d (row_in c row)
