use Rattle.std.proofs.Common.{◌≡◌, map}
use Rattle.std.specs.Prelude.{string_bytes}
use Rattle.vx_tables.specs.Field.{text_of_vector}
use Rattle.vx_tables.specs.Counted.{within, counted, text_cost, each_text}
use Rattle.vx_tables.proofs.Walk.{walk_from}
use Rattle.vx_data.proofs.dtype_reading.read_texts.Given as goal

-- the texts so far and those still to come are those of the vector
abbrev pub invariant-loop-at : goal.invariant-loop-at
invariant-loop-at l =
    let b = l.vector.bytes in let v = l.vector.vector in
    walk_from (λ i. counted text_cost (text_of_vector b v i)) v.count l.vector.levels l.visits l.at (map string_bytes l.texts.items) ≡ within l.vector.levels l.fn.visits (each_text b v)
