use Rattle.std.proofs.Common.{◌≡◌, ℕ, ◌+◌, ◌<◌, ◌≤◌, ◌∙◌, ◌++◌, length, sym, ap, subst, rules, arith}
use Rattle.std.specs.Prelude.{String}
use Rattle.std.specs.Global.{Global}
use Rattle.vx_rows.specs.declared.column.Column.{Column}
use Rattle.vx_rows.specs.Rows.{column_view, pairs_view, dtype_of, IsColumn}
use Rattle.vx_rows.specs.Trees.{type_size}
use Rattle.vx_rows.proofs.FieldGrowLemmas.{column_at, column_size}
use Rattle.vx_rows.specs.Parts.{part}
use Rattle.vx_write.specs.declared.plan.Plan.{the_lemmas}
use Rattle.vx_write.specs.Plans.{PlanTree, a_leaf, a_struct, plan_view, plans_view, columns_of}
use Rattle.vx_write.specs.Chunks.{columns_seen}
use Rattle.vx_write.proofs.SplitLemmas.{as_many, fits_at, split_more, split_end, struct_split, leaf_pushed}
use Rattle.vx_write.proofs.splitting.+splitting.Goals as goal

pub split_fields-bounds-fields-at : goal.split_fields-bounds-fields-at
split_fields-bounds-fields-at t c =
    let many = as_many c.args.plans.now c.args.fields.now c.requires.fit in
    let less : c.loop-at.at < length c.args.plans.now = search rules in
    omega (arith, less, many)

pub split_fields-offset_bounds-fields-at : goal.split_fields-offset_bounds-fields-at
split_fields-offset_bounds-fields-at t c =
    let many = as_many c.args.plans.now c.args.fields.now c.requires.fit in
    let less : c.loop-at.at < length c.args.plans.now = search rules in
    let inside : c.loop-at.at < length c.args.fields.now = omega (arith, less, many) in
    search (rules, inside)

pub split_fields-split_one-requires : goal.split_fields-split_one-requires
split_fields-split_one-requires t c =
    let many = as_many c.args.plans.now c.args.fields.now c.requires.fit in
    let less : c.loop-at.at < length c.args.plans.now = search rules in
    let inside : c.loop-at.at < length c.args.fields.now = omega (arith, less, many) in
    let size = column_size c.args.fields.now c.loop-at.at c.index-fields-at.result inside c.index-fields-at.is in (
      omega (arith, size, c.decreases),
      (
        fits_at c.args.plans.now c.args.fields.now c.loop-at.at c.index-plans-at.result c.index-fields-at.result c.requires.fit less c.index-plans-at.is inside c.index-fields-at.is,
        (c.requires.even.0, column_at c.requires.even.0 c.args.fields.now c.loop-at.at c.index-fields-at.result c.requires.even.1 inside c.index-fields-at.is),
      ),
    )

pub split_fields-loop-at-preserved : goal.split_fields-loop-at-preserved
split_fields-loop-at-preserved t c =
    let many = as_many c.args.plans.now c.args.fields.now c.requires.fit in
    let less : c.loop-at.at < length c.args.plans.now = search rules in
    let inside : c.loop-at.at < length c.args.fields.now = omega (arith, less, many) in
    split_more c.args.plans.now c.args.fields.now c.loop-at.at c.index-plans-at.result c.index-fields-at.result (columns_seen c.loop-at.columns.items) (columns_seen c.split_one.new.columns.items)
    less c.index-plans-at.is inside c.index-fields-at.is c.in_ok-split_one.ensures
    ∙ c.loop-at.invariant

pub split_fields-returns : goal.split_fields-returns
split_fields-returns t c =
    let past : length c.args.plans.now ≤ c.loop-at.at = omega arith in
    sym (split_end c.args.plans.now _ c.loop-at.at (columns_seen c.loop-at.columns.items) past) ∙ c.loop-at.invariant

pub split_one-returns-in-Leaf : goal.split_one-returns-in-Leaf
split_one-returns-in-Leaf t c =
    let is : plan_view c.args.plan.now ≡ a_leaf c.in-Leaf.field-0 = search (rules, the_lemmas) in
    leaf_pushed c.args.columns.now.items c.push.new.self.items (column_view c.args.chunk.now) c.in_ok-part-in-Leaf.field-0 c.requires.even.0 c.in_ok-push-in-Leaf.ensures.items
    (c.in_ok-part-in-Leaf.ensures ∙ ap (λ (n : ℕ). part 0 n (column_view c.args.chunk.now)) c.len.ensures) c.requires.even.1
    ∙ ap (λ (p : PlanTree). columns_seen c.args.columns.now.items ++ columns_of p (column_view c.args.chunk.now)) (sym is)

pub split_one-returns : goal.split_one-returns
split_one-returns t c =
    let is : plan_view c.args.plan.now ≡ a_struct c.in-Struct.validity (plans_view c.in-Struct.plans.items) = search (rules, the_lemmas) in
    struct_split c.in-Struct.validity (plans_view c.in-Struct.plans.items) (plans_view c.deref.result.now) c.requires.even.0 (column_view c.args.chunk.now) (pairs_view c.fields.result.now)
    (plan_view c.args.plan.now) is c.requires.fit c.requires.even.1 (ap plans_view c.deref.ensures.value) c.fields.ensures
    (columns_seen c.args.columns.now.items) (columns_seen c.push_validity.new.columns.items) (columns_seen c.split_fields.new.columns.items) c.in_ok-push_validity.ensures c.in_ok-split_fields.ensures
