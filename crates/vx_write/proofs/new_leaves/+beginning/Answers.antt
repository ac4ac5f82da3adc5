use Rattle.std.proofs.Common.{◌<◌, ◌≤◌, ◌∙◌, length, sym, rules, arith}
use Rattle.vx_rows.proofs.TreeLemmas.{field_size}
use Rattle.vx_write.specs.Leaves.{nows}
use Rattle.vx_write.proofs.NewLeavesLemmas.{as_many_types, is_for_at, leaves_more, leaves_end}
use Rattle.vx_write.proofs.new_leaves.+beginning.Goals as goal

pub add_fields-bounds-fields-at : goal.add_fields-bounds-fields-at
add_fields-bounds-fields-at t c =
    let many = as_many_types c.args.plans.now c.args.fields.now c.requires in
    let less : c.loop-at.at < length c.args.plans.now = search rules in
    omega (arith, less, many)

pub add_fields-offset_bounds-fields-at : goal.add_fields-offset_bounds-fields-at
add_fields-offset_bounds-fields-at t c =
    let many = as_many_types c.args.plans.now c.args.fields.now c.requires in
    let less : c.loop-at.at < length c.args.plans.now = search rules in
    let inside : c.loop-at.at < length c.args.fields.now = omega (arith, less, many) in
    search (rules, inside)

pub add_fields-add_leaves-requires : goal.add_fields-add_leaves-requires
add_fields-add_leaves-requires t c =
    let many = as_many_types c.args.plans.now c.args.fields.now c.requires in
    let less : c.loop-at.at < length c.args.plans.now = search rules in
    let inside : c.loop-at.at < length c.args.fields.now = omega (arith, less, many) in
    let size = field_size c.args.fields.now c.loop-at.at c.index-fields-at.result inside c.index-fields-at.is in
    (omega (arith, size, c.decreases), is_for_at c.args.plans.now c.args.fields.now c.loop-at.at c.index-plans-at.result c.index-fields-at.result c.requires less c.index-plans-at.is inside c.index-fields-at.is)

pub add_fields-loop-at-preserved : goal.add_fields-loop-at-preserved
add_fields-loop-at-preserved t c =
    let many = as_many_types c.args.plans.now c.args.fields.now c.requires in
    let less : c.loop-at.at < length c.args.plans.now = search rules in
    let inside : c.loop-at.at < length c.args.fields.now = omega (arith, less, many) in
    leaves_more c.args.plans.now c.args.fields.now c.loop-at.at c.index-plans-at.result c.index-fields-at.result (nows c.loop-at.leaves.items) (nows c.add_leaves.new.leaves.items)
    less c.index-plans-at.is inside c.index-fields-at.is c.in_ok-add_leaves.ensures
    ∙ c.loop-at.invariant

pub add_fields-returns : goal.add_fields-returns
add_fields-returns t c =
    let past : length c.args.plans.now ≤ c.loop-at.at = omega arith in
    sym (leaves_end c.args.plans.now _ c.loop-at.at (nows c.loop-at.leaves.items) past) ∙ c.loop-at.invariant
