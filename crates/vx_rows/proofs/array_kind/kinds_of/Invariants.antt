use Rattle.std.proofs.Common.{◌≡◌, ◌++◌, map, drop}
use Rattle.std.specs.Prelude.{string_bytes}
use Rattle.vx_rows.specs.Trees.{kind_of}
use Rattle.vx_rows.proofs.array_kind.kinds_of.Given as goal

abbrev pub invariant-loop-id : goal.invariant-loop-id
invariant-loop-id l = l.kinds.items ++ map kind_of (map string_bytes (drop l.id-index l.ids)) ≡ map kind_of (map string_bytes l.ids)
