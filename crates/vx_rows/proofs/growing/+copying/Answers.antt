use Rattle.std.proofs.Common.{◌≡◌, ◌≤◌, ◌∙◌, length, sym, rules, arith}
use Rattle.std.specs.Prelude.{string_bytes}
use Rattle.vx_rows.proofs.FieldGrowLemmas.{copy_more, copy_end}
use Rattle.vx_rows.proofs.growing.+copying.Goals as goal

pub copy_all-loop-at-preserved : goal.copy_all-loop-at-preserved
copy_all-loop-at-preserved t c =
    let name : string_bytes c.in_ok-clone.field-0 ≡ string_bytes c.index-builders-at.result.0 = search rules in
    copy_more c.args.builders.now c.loop-at.at c.index-builders-at.result c.loop-at.columns.items c.push.new.self.items c.in_ok-clone.field-0 c.in_ok-copy.field-0
    c.loop-at-test.true c.index-builders-at.is c.in_ok-push.ensures.items name c.in_ok-copy.ensures ∙ c.loop-at.invariant

pub copy_all-returns : goal.copy_all-returns
copy_all-returns t c =
    let past : length c.args.builders.now ≤ c.loop-at.at = omega arith in
    sym (copy_end c.args.builders.now c.loop-at.at c.loop-at.columns.items past) ∙ c.loop-at.invariant
