use Rattle.std.proofs.Common.{◌≡◌, ◌+◌, ◌*◌, ◌≤◌, map, drop}
use Rattle.std.specs.Prelude.{string_bytes}
use Rattle.vx_data.specs.Dtype.{dtype_view, fields_view, pairs_view}
use Rattle.vx_rows.specs.Trees.{type_size, fields_size}
use Rattle.vx_write.specs.Written.{may_encode_all}
use Rattle.vx_write.proofs.needs.+encodable.Given as goal

abbrev pub decreases-is_encodable : goal.decreases-is_encodable
decreases-is_encodable l = 4 * type_size (dtype_view l.dtype.now)

abbrev pub decreases-is_struct_encodable : goal.decreases-is_struct_encodable
decreases-is_struct_encodable l = 4 * fields_size (fields_view l.fields.now) + 2

abbrev pub decreases-are_fields_encodable : goal.decreases-are_fields_encodable
decreases-are_fields_encodable l = 4 * fields_size (pairs_view l.fields.now) + 1

abbrev pub invariant-are_fields_encodable-loop-at : goal.invariant-are_fields_encodable-loop-at
invariant-are_fields_encodable-loop-at l =
    (may_encode_all (map string_bytes l.ids) (pairs_view (drop l.at l.fields)) ≡ may_encode_all (map string_bytes l.ids) (pairs_view l.fields))
    × (fields_size (pairs_view (drop l.at l.fields)) ≤ fields_size (pairs_view l.fields))
