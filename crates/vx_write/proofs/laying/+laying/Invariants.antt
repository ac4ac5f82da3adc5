use Rattle.std.proofs.Common.{◌≡◌, ◌+◌, ◌*◌, ◌≤◌, ◌++◌, drop, length}
use Rattle.vx_data.specs.Dtype.{dtype_view, fields_view, pairs_view}
use Rattle.vx_rows.specs.Trees.{type_size, fields_size}
use Rattle.vx_write.specs.Laying.{leaves_count, all_laid_out}
use Rattle.vx_write.specs.Plans.{plans_view, AreFor}
use Rattle.vx_write.proofs.laying.+laying.Given as goal

abbrev pub decreases-lay_out : goal.decreases-lay_out
decreases-lay_out l = 4 * type_size (dtype_view l.dtype.now)

abbrev pub decreases-lay_out_struct : goal.decreases-lay_out_struct
decreases-lay_out_struct l = 4 * fields_size (fields_view l.fields.now) + 2

abbrev pub decreases-push_fields : goal.decreases-push_fields
decreases-push_fields l = 4 * fields_size (pairs_view l.fields.now) + 1

-- the layouts so far and those still to come, whose leaves are counted so far and still to come
abbrev pub invariant-push_fields-loop-at : goal.invariant-push_fields-loop-at
invariant-push_fields-loop-at l =
    (l.next + leaves_count (plans_view (drop l.at l.plans)) ≡ leaves_count (plans_view l.plans))
    × AreFor (plans_view (drop l.at l.plans)) (pairs_view (drop l.at l.fields))
    × (l.children.items ++ all_laid_out (plans_view (drop l.at l.plans)) (pairs_view (drop l.at l.fields)) l.rows (drop l.next l.groups)
    ≡ l.fn.children.items ++ all_laid_out (plans_view l.plans) (pairs_view l.fields) l.rows l.groups)
    × (fields_size (pairs_view (drop l.at l.fields)) ≤ fields_size (pairs_view l.fields))
