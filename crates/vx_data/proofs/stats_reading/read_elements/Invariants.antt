use Rattle.std.proofs.Common.{◌≡◌}
use Rattle.vx_tables.specs.Field.{table_of_vector}
use Rattle.vx_tables.specs.Counted.{within, enter, each_table}
use Rattle.vx_tables.proofs.Walk.{walk_from}
use Rattle.vx_data.specs.StatsTable.{entry_in}
use Rattle.vx_data.proofs.stats_reading.read_elements.Given as goal

-- the statistics so far and those still to come are those of the vector
abbrev pub invariant-loop-at : goal.invariant-loop-at
invariant-loop-at l =
    let b = l.vector.bytes in let v = l.vector.vector in
    walk_from (λ i. enter (table_of_vector b v i) (entry_in b)) v.count l.vector.levels l.visits l.at l.entries.items ≡ within l.vector.levels l.fn.visits (each_table b (entry_in b) v)
