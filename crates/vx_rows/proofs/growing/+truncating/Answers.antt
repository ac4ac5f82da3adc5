use Rattle.std.proofs.Common.{◌≤◌, ◌∙◌, length, sym, rules}
use Rattle.vx_rows.proofs.FieldGrowLemmas.{truncate_more, truncate_end}
use Rattle.vx_rows.proofs.growing.+truncating.Goals as goal

pub truncate_all-loop-at-preserved : goal.truncate_all-loop-at-preserved
truncate_all-loop-at-preserved t c =
    (search rules, truncate_more c.loop-at.builders.items c.loop-at.at c.args.rows c.index_mut-builder.result.now c.truncate.new.builder (search rules) (search rules) c.truncate.ensures ∙ c.loop-at.invariant.1)

pub truncate_all-returns : goal.truncate_all-returns
truncate_all-returns t c =
    let past : length c.loop-at.builders.items ≤ c.loop-at.at = search rules in
    sym (truncate_end c.loop-at.builders.items c.loop-at.at c.args.rows past) ∙ c.loop-at.invariant.1
