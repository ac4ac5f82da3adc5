use Rattle.std.proofs.Common.{◌≤◌, ◌∙◌, length, sym, rules}
use Rattle.vx_rows.proofs.BuildingLemmas.{absent_more, absent_end}
use Rattle.vx_rows.proofs.builder.+leaving.Goals as goal

pub push_all_absent-loop-at-preserved : goal.push_all_absent-loop-at-preserved
push_all_absent-loop-at-preserved t c =
    (search rules, absent_more c.loop-at.builders.items c.loop-at.at c.index_mut-builder.result.now c.push_absent.new.builder (search rules) (search rules) c.in_ok-push_absent.ensures ∙ c.loop-at.invariant.1)

pub push_all_absent-returns : goal.push_all_absent-returns
push_all_absent-returns t c =
    let past : length c.loop-at.builders.items ≤ c.loop-at.at = search rules in
    sym (absent_end c.loop-at.builders.items c.loop-at.at past) ∙ c.loop-at.invariant.1
