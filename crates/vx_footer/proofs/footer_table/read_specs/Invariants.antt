use Rattle.std.proofs.Common.{◌≡◌, map}
use Rattle.std.specs.Prelude.{string_bytes}
use Rattle.vx_tables.specs.Field.{table_of_vector}
use Rattle.vx_tables.specs.Counted.{within, enter}
use Rattle.vx_tables.proofs.Walk.{walk_from}
use Rattle.vx_footer.specs.Tables.{spec_in, specs_of}
use Rattle.vx_footer.proofs.footer_table.read_specs.Given as goal

-- the ids so far and those still to come are those of the vector
abbrev pub invariant-loop-at : goal.invariant-loop-at
invariant-loop-at l =
    let b = l.vector.bytes in let v = l.vector.vector in
    walk_from (λ i. enter (table_of_vector b v i) (spec_in b)) v.count l.vector.levels l.visits l.at (map string_bytes l.ids.items) ≡ within l.vector.levels l.fn.visits (specs_of b v)
