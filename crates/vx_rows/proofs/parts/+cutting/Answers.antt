use Rattle.std.proofs.Common.{◌≡◌, ◌≤◌, ◌∙◌, length, sym, rules, arith}
use Rattle.std.specs.Prelude.{string_bytes}
use Rattle.vx_rows.proofs.PartLemmas.{cut_more, cut_end}
use Rattle.vx_rows.proofs.parts.+cutting.Goals as goal

pub cut_all-loop-at-preserved : goal.cut_all-loop-at-preserved
cut_all-loop-at-preserved t c =
    let name : string_bytes c.in_ok-clone.field-0 ≡ string_bytes c.index-columns-at.result.0 = search rules in
    cut_more c.args.columns.now c.loop-at.at c.index-columns-at.result c.args.from c.args.to c.loop-at.parts.items c.push.new.self.items c.in_ok-clone.field-0 c.in_ok-cut.field-0
    c.loop-at-test.true c.index-columns-at.is c.in_ok-push.ensures.items name c.in_ok-cut.ensures ∙ c.loop-at.invariant

pub cut_all-returns : goal.cut_all-returns
cut_all-returns t c =
    let past : length c.args.columns.now ≤ c.loop-at.at = omega arith in
    sym (cut_end c.args.columns.now c.loop-at.at c.args.from c.args.to c.loop-at.parts.items past) ∙ c.loop-at.invariant
