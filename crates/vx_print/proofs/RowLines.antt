-- The texts of rows, field by field.
use Rattle.std.proofs.Common.{◌≡◌, ℕ, ◌+◌, ◌*◌, ◌<◌, List, length, get_or, arith}
use Rattle.std.specs.Prelude.{String}
use Rattle.std.specs.Global.{Global}
use Rattle.vx_rows.specs.declared.column.Column.{Column}
use Rattle.vx_rows.specs.Rows.{column_view, pairs_view, dtype_of, types_of}
use Rattle.vx_rows.specs.Trees.{type_size, fields_size}
use Rattle.vx_rows.proofs.FieldGrowLemmas.{column_size}

-- the column of one field is no larger than all
pub smaller_column : (cs : List (String Global × Column)) (i : ℕ) (c : String Global × Column) → i < length cs → c ≡ get_or cs i c
    → 4 * type_size (dtype_of (column_view c.1)) < 4 * fields_size (types_of (pairs_view cs)) + 1
smaller_column cs i c inside is = let size = column_size cs i c inside is in omega (arith, size)
