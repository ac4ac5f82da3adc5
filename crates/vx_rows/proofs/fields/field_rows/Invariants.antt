use Rattle.std.proofs.Common.{drop}
use Rattle.std.specs.Prelude.{map, string_bytes}
use Rattle.vx_data.specs.Dtype.{dtype_view}
use Rattle.vx_rows.specs.Rows.{column_view}
use Rattle.vx_rows.proofs.FieldRowLemmas.{Walked}
use Rattle.vx_rows.proofs.fields.field_rows.Given as goal

-- the rest of the names leads on from here
abbrev pub invariant-loop-name : goal.invariant-loop-name
invariant-loop-name l =
    Walked (map string_bytes l.names) (dtype_view l.dtype) (column_view l.column) (map string_bytes (drop l.name-index l.names)) (dtype_view l.here) (column_view l.below) l.shown
