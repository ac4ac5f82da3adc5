use Rattle.std.proofs.Common.{◌≡◌, map, drop}
use Rattle.std.specs.Prelude.{string_bytes}
use Rattle.vx_data.specs.Written.{left_of}
use Rattle.vx_footer.specs.Serializing.{ids_visits}
use Rattle.vx_footer.proofs.serializer_tables.ids_left.Given as goal

-- what is left of the visits still to come
abbrev pub invariant-loop-id : goal.invariant-loop-id
invariant-loop-id l = left_of (ids_visits (map string_bytes (drop l.id-index l.ids))) l.left ≡ left_of (ids_visits (map string_bytes l.ids)) l.visits
