use Rattle.std.proofs.Common.{◌≡◌, ◌+◌, ◌*◌, ◌++◌, drop}
use Rattle.vx_data.specs.Dtype.{dtype_view, pairs_view}
use Rattle.vx_rows.specs.Trees.{type_size, fields_size}
use Rattle.vx_write.specs.Leaves.{nows}
use Rattle.vx_write.specs.Plans.{plans_view, leaves_in}
use Rattle.vx_write.proofs.new_leaves.+beginning.Given as goal

abbrev pub decreases-add_leaves : goal.decreases-add_leaves
decreases-add_leaves l = 2 * type_size (dtype_view l.dtype.now)

abbrev pub decreases-add_fields : goal.decreases-add_fields
decreases-add_fields l = 2 * fields_size (pairs_view l.fields.now) + 1

-- the leaves so far and those of the fields still to come
abbrev pub invariant-add_fields-loop-at : goal.invariant-add_fields-loop-at
invariant-add_fields-loop-at l =
    nows l.leaves.items ++ leaves_in (plans_view (drop l.at l.plans)) (pairs_view (drop l.at l.fields)) ≡ nows l.fn.leaves.items ++ leaves_in (plans_view l.plans) (pairs_view l.fields)
