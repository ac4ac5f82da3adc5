use Rattle.std.proofs.Common.{◌≡◌, map, drop}
use Rattle.std.specs.Prelude.{string_bytes}
use Rattle.std.specs.List.{list_all}
use Rattle.vx_data.specs.LayoutWritten.{has_id}
use Rattle.vx_footer.proofs.serializer_tables.have_all.Given as goal

-- those still to come are among them
abbrev pub invariant-loop-id : goal.invariant-loop-id
invariant-loop-id l = list_all (has_id (map string_bytes l.permitted)) (map string_bytes (drop l.id-index l.ids)) ≡ list_all (has_id (map string_bytes l.permitted)) (map string_bytes l.ids)
