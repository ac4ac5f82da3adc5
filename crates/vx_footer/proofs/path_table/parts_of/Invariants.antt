use Rattle.std.proofs.Common.{◌≡◌, ◌++◌, drop, map}
use Rattle.std.specs.Prelude.{string_bytes}
use Rattle.vx_footer.proofs.path_table.parts_of.Given as goal

-- the names so far and those still to come
abbrev pub invariant-loop-name : goal.invariant-loop-name
invariant-loop-name l = map string_bytes l.parts.items ++ map string_bytes (drop l.name-index l.names) ≡ map string_bytes l.names
