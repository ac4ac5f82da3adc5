use Rattle.std.proofs.Common.{◌≡◌, ◌+◌, ◌*◌, take, drop}
use Rattle.vx_rows.specs.Rows.{pairs_view as columns_in, column_view, columns_view, dtype_of, types_of}
use Rattle.vx_rows.specs.Trees.{before, type_size, fields_size}
use Rattle.vx_rows.specs.Builders.{built, pairs_view}
use Rattle.vx_rows.specs.Parts.{fields_appended, FieldsKeep}
use Rattle.vx_rows.proofs.growing.+appending.Given as goal

abbrev pub decreases-append_to : goal.decreases-append_to
decreases-append_to l = 4 * type_size (dtype_of (column_view l.column.now))

abbrev pub decreases-append_structs : goal.decreases-append_structs
decreases-append_structs l = 4 * fields_size (types_of (columns_view l.columns.now)) + 3

abbrev pub decreases-append_fields : goal.decreases-append_fields
decreases-append_fields l = 4 * fields_size (types_of (columns_view l.columns.now)) + 2

abbrev pub decreases-append_all : goal.decreases-append_all
decreases-append_all l = 4 * fields_size (types_of (columns_in l.columns.now)) + 1

-- the fields so far have their rows, and those still to come are to have them; all keep the rows before
abbrev pub invariant-append_all-loop-at : goal.invariant-append_all-loop-at
invariant-append_all-loop-at l =
    goal.unvisited-append_all-loop-at l
    × (before (built (take l.at l.builders.items)) (fields_appended (pairs_view (drop l.at l.builders.items)) (columns_in (drop l.at l.columns)))
    ≡ fields_appended (pairs_view l.fn.builders.items) (columns_in l.columns))
    × FieldsKeep (pairs_view l.fn.builders.items) (pairs_view l.builders.items)
