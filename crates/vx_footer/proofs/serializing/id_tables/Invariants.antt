use Rattle.std.proofs.Common.{◌≡◌, ◌++◌, map, drop}
use Rattle.std.specs.Prelude.{string_bytes}
use Rattle.vx_footer.specs.Serialized.{id_pieces}
use Rattle.vx_footer.proofs.serializing.id_tables.Given as goal

abbrev pub invariant-loop-id : goal.invariant-loop-id
invariant-loop-id l = l.tables.items ++ map id_pieces (map string_bytes (drop l.id-index l.ids)) ≡ map id_pieces (map string_bytes l.ids)
