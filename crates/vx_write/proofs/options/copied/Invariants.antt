use Rattle.std.proofs.Common.{◌≡◌, ◌++◌, ◌+◌, ◌≤◌, ◌<◌, ◌^◌, [], map, drop, take, length}
use Rattle.std.specs.Prelude.{string_bytes}
use Rattle.vx_write.proofs.options.copied.Given as goal

abbrev pub invariant-loop-id : goal.invariant-loop-id
invariant-loop-id l = map string_bytes l.copies.items ++ map string_bytes (drop l.id-index l.ids) ≡ map string_bytes l.ids
