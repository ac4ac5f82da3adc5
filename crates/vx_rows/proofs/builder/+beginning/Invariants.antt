use Rattle.std.proofs.Common.{◌≡◌, ◌+◌, ◌*◌, drop}
use Rattle.vx_data.specs.Dtype.{dtype_view, pairs_view as types_view}
use Rattle.vx_rows.specs.Trees.{before, type_size, fields_size}
use Rattle.vx_rows.specs.ReadRows.{no_rows_each}
use Rattle.vx_rows.specs.Builders.{built}
use Rattle.vx_rows.proofs.builder.+beginning.Given as goal

abbrev pub decreases-begin : goal.decreases-begin
decreases-begin l = 2 * type_size (dtype_view l.dtype.now)

abbrev pub decreases-begin_fields : goal.decreases-begin_fields
decreases-begin_fields l = 2 * fields_size (types_view l.fields.now) + 1

-- the fields so far and those still to come
abbrev pub invariant-begin_fields-loop-at : goal.invariant-begin_fields-loop-at
invariant-begin_fields-loop-at l = before (built l.builders.items) (no_rows_each (types_view (drop l.at l.fields))) ≡ no_rows_each (types_view l.fields)
