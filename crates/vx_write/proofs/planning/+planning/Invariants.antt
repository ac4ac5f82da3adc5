use Rattle.std.proofs.Common.{◌≡◌, ◌+◌, ◌*◌, ◌++◌, drop}
use Rattle.vx_data.specs.Dtype.{dtype_view, pairs_view}
use Rattle.vx_rows.specs.Trees.{type_size, fields_size}
use Rattle.vx_write.specs.Plans.{plan_view, plans_for, plans_behind}
use Rattle.vx_write.specs.Rules.{rules_seen}
use Rattle.vx_write.proofs.planning.+planning.Given as goal

abbrev pub decreases-plan_type : goal.decreases-plan_type
decreases-plan_type l = 2 * type_size (dtype_view l.dtype.now)

abbrev pub decreases-plan_fields : goal.decreases-plan_fields
decreases-plan_fields l = 2 * fields_size (pairs_view l.fields.now) + 1

-- the plans so far and those of the fields still to come
abbrev pub invariant-plan_fields-loop-at : goal.invariant-plan_fields-loop-at
invariant-plan_fields-loop-at l = plans_behind l.plans.items (plans_for l.default (rules_seen l.rules) (pairs_view (drop l.at l.fields))) ≡ plans_for l.default (rules_seen l.rules) (pairs_view l.fields)
