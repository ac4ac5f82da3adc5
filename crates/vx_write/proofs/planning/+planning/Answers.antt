use Rattle.std.proofs.Common.{◌≡◌, ◌≤◌, ◌∙◌, length, sym, rules, arith}
use Rattle.std.specs.Prelude.{string_bytes}
use Rattle.vx_rows.proofs.TreeLemmas.{field_size}
use Rattle.vx_write.specs.Strategies.{below}
use Rattle.vx_write.specs.Rules.{rules_seen}
use Rattle.vx_write.proofs.PlanLemmas.{plans_more, plans_end}
use Rattle.vx_write.proofs.planning.+planning.Goals as goal

pub plan_fields-plan_type-requires : goal.plan_fields-plan_type-requires
plan_fields-plan_type-requires t c =
    let less = field_size c.args.fields.now c.loop-at.at c.index-fields-at.result c.loop-at-test.true c.index-fields-at.is in
    (omega (arith, less, c.decreases), tt)

pub plan_fields-loop-at-preserved : goal.plan_fields-loop-at-preserved
plan_fields-loop-at-preserved t c =
    let within : rules_seen c.deref.result.now ≡ below (string_bytes c.index-fields-at.result.0) (rules_seen c.args.rules.now) = search rules in
    plans_more c.args.default (rules_seen c.args.rules.now) (rules_seen c.deref.result.now) c.args.fields.now c.loop-at.at c.index-fields-at.result c.loop-at.plans.items c.push.new.self.items
    c.in_ok-plan_type.field-0 c.loop-at-test.true c.index-fields-at.is c.in_ok-push.ensures.items within c.in_ok-plan_type.ensures
    ∙ c.loop-at.invariant

pub plan_fields-returns : goal.plan_fields-returns
plan_fields-returns t c =
    let past : length c.args.fields.now ≤ c.loop-at.at = omega arith in
    sym (plans_end c.args.default (rules_seen c.args.rules.now) c.args.fields.now c.loop-at.at c.loop-at.plans.items past) ∙ c.loop-at.invariant
