-- Values of rows in the code, as plain data.
use Rattle.vx_data.specs.Scalar.{flag, number, words}
use Rattle.vx_rows.specs.declared.cell.Cell.{Cell}
use Rattle.vx_rows.specs.declared.cell.Cell.TheVariants as variant
use Rattle.vx_rows.specs.RowValues.{Cell as PlainCell, null, value, a_struct}

abbrev pub cell_view : Cell → PlainCell
cell_view variant.Null = null
cell_view (variant.Bool b) = value (flag b)
cell_view (variant.Int n) = value (number n)
cell_view (variant.Text t) = value (words t.now)
cell_view variant.Struct = a_struct
