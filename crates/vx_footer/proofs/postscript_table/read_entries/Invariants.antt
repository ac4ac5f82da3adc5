use Rattle.std.proofs.Common.{◌≡◌}
use Rattle.vx_tables.specs.Field.{table_of_vector}
use Rattle.vx_tables.specs.Counted.{within, enter}
use Rattle.vx_tables.proofs.Walk.{walk_from}
use Rattle.vx_footer.specs.Tables.{entry_in, entries_of}
use Rattle.vx_footer.proofs.postscript_table.read_entries.Given as goal

-- the entries so far and those still to come are those of the vector
abbrev pub invariant-loop-at : goal.invariant-loop-at
invariant-loop-at l =
    let b = l.vector.bytes in let v = l.vector.vector in
    walk_from (λ i. enter (table_of_vector b v i) (entry_in b)) v.count l.vector.levels l.visits l.at l.entries ≡ within l.vector.levels l.fn.visits (entries_of b v)
