use Rattle.std.proofs.Common.{◌≡◌, map, drop}
use Rattle.std.specs.Prelude.{string_bytes}
use Rattle.vx_data.specs.LayoutWritten.{has_id}
use Rattle.vx_write.proofs.options.has_id.Given as goal

abbrev pub invariant-loop-other : goal.invariant-loop-other
invariant-loop-other l = has_id (map string_bytes (drop l.other-index l.ids)) l.id ≡ has_id (map string_bytes l.ids) l.id
