use Rattle.std.proofs.Common.{◌≤◌, ◌+◌, ◌-◌, ◌++◌, length, map, sym, ap, ◌∙◌, arith}
use Rattle.std.proofs.lemmas.List.{append-nil}
use Rattle.vx_file.proofs.SplitLemmas.{neighbours_end}
use Rattle.vx_file.proofs.splits.ranges_between.Goals as goal

pub returns : goal.returns
returns c =
    let from = c.loop-at.auto.at in
    let test = c.loop-at-test.false in
    let past : length c.args.points.now ≤ c.loop-at.at - 1 + 1 = omega (arith, from, test) in
    let front = map (λ r. (r.start, r.end)) c.loop-at.ranges.items in
    sym (ap (λ rest. front ++ rest) (neighbours_end c.args.points.now (c.loop-at.at - 1) past) ∙ append-nil front) ∙ c.loop-at.invariant
