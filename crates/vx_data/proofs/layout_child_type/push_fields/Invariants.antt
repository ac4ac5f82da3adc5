use Rattle.std.proofs.Common.{◌≡◌, ◌++◌, map, drop}
use Rattle.vx_data.specs.Dtype.{pairs_view}
use Rattle.vx_data.specs.ChildTypes.{child_view, field_types}
use Rattle.vx_data.proofs.layout_child_type.push_fields.Given as goal

-- the fields so far and those still to come
abbrev pub invariant-loop-at : goal.invariant-loop-at
invariant-loop-at l = map child_view l.types.items ++ field_types (pairs_view (drop l.at l.fields)) ≡ map child_view l.fn.types.items ++ field_types (pairs_view l.fields)
