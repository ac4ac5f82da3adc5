use Rattle.std.proofs.Common.{◌≡◌, drop}
use Rattle.std.specs.Prelude.{map, string_bytes}
use Rattle.vx_data.specs.Dtype.{dtype_view}
use Rattle.vx_rows.specs.Binding.{type_at}
use Rattle.vx_rows.proofs.places.type_of_field.Given as goal

-- the rest of the names leads on from here
abbrev pub invariant-loop-name : goal.invariant-loop-name
invariant-loop-name l = type_at (map string_bytes (drop l.name-index l.names)) (dtype_view l.here) ≡ type_at (map string_bytes l.names) (dtype_view l.dtype)
