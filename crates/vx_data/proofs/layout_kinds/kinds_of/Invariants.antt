use Rattle.std.proofs.Common.{◌≡◌, ◌++◌, map, drop}
use Rattle.std.specs.Prelude.{string_bytes}
use Rattle.vx_data.specs.LayoutTable.{kind_of_id}
use Rattle.vx_data.proofs.layout_kinds.kinds_of.Given as goal

-- the kinds so far and those still to come
abbrev pub invariant-loop-id : goal.invariant-loop-id
invariant-loop-id l = l.kinds.items ++ map kind_of_id (map string_bytes (drop l.id-index l.ids)) ≡ map kind_of_id (map string_bytes l.ids)
