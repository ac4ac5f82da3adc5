use Rattle.std.proofs.Common.{◌≡◌, ◌*◌, ◌+◌, map}
use Rattle.std.specs.Option.{option_map}
use Rattle.vx_tables.specs.Field.{table_of_vector}
use Rattle.vx_tables.specs.Counted.{within, enter, each_table}
use Rattle.vx_tables.proofs.Walk.{walk_from}
use Rattle.vx_data.specs.Dtype.{dtype_view}
use Rattle.vx_data.specs.DtypeTable.{dtype_at}
use Rattle.vx_data.proofs.dtype_reading.+walking.Given as goal

abbrev pub decreases-read_in : goal.decreases-read_in
decreases-read_in l = 4 * l.table.now.levels + 2

abbrev pub decreases-read_fields : goal.decreases-read_fields
decreases-read_fields l = 4 * l.table.now.levels + 1

abbrev pub decreases-read_elements : goal.decreases-read_elements
decreases-read_elements l = 4 * l.vector.now.levels

-- the types so far and those still to come are those of the vector
abbrev pub invariant-read_elements-loop-at : goal.invariant-read_elements-loop-at
invariant-read_elements-loop-at l =
    let b = l.vector.bytes in let v = l.vector.vector in let n = l.vector.levels in
    walk_from (λ i. enter (table_of_vector b v i) (dtype_at n b)) v.count n l.visits l.at (map (option_map dtype_view) l.dtypes.items) ≡ within n l.fn.visits (each_table b (dtype_at n b) v)
