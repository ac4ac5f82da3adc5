use Rattle.std.proofs.Common.{◌≡◌, ◌≤◌, ◌∙◌, length, sym, rules, arith}
use Rattle.std.specs.Prelude.{string_bytes}
use Rattle.vx_rows.proofs.TreeLemmas.{field_size}
use Rattle.vx_rows.proofs.BuildingLemmas.{begun_more, begun_end}
use Rattle.vx_rows.proofs.builder.+beginning.Goals as goal

pub begin_fields-begin-requires : goal.begin_fields-begin-requires
begin_fields-begin-requires t c =
    let less = field_size c.args.fields.now c.loop-at.at c.index-fields-at.result c.loop-at-test.true c.index-fields-at.is in
    (omega (arith, less, c.decreases), tt)

pub begin_fields-loop-at-preserved : goal.begin_fields-loop-at-preserved
begin_fields-loop-at-preserved t c =
    let name : string_bytes c.in_ok-clone.field-0 ≡ string_bytes c.index-fields-at.result.0 = search rules in
    begun_more c.args.fields.now c.loop-at.at c.index-fields-at.result c.loop-at.builders.items c.push.new.self.items c.in_ok-clone.field-0 c.in_ok-begin.field-0
    c.loop-at-test.true c.index-fields-at.is c.in_ok-push.ensures.items name c.in_ok-begin.ensures ∙ c.loop-at.invariant

pub begin_fields-returns : goal.begin_fields-returns
begin_fields-returns t c =
    let past : length c.args.fields.now ≤ c.loop-at.at = omega arith in
    c.new.ensures ∙ sym (begun_end c.args.fields.now c.loop-at.at c.loop-at.builders.items past) ∙ c.loop-at.invariant
