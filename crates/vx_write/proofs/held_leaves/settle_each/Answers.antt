use Rattle.std.proofs.Common.{◌<◌, ◌≤◌, ◌∙◌, length, sym, rules, arith}
use Rattle.vx_write.proofs.LeavesLemmas.{ahead_start, ahead_set, settled_more, settled_end}
use Rattle.vx_write.proofs.held_leaves.settle_each.Goals as goal

pub loop-at-init : goal.loop-at-init
loop-at-init c = record { others = ahead_start c.args.leaves.now.items; same = search rules }

pub loop-at-preserved : goal.loop-at-preserved
loop-at-preserved c =
    let many = c.loop-at.invariant.others.long in
    let below : c.loop-at.at < length c.args.leaves.now.items = search rules in
    let here : c.loop-at.at < length c.loop-at.leaves.items = omega (arith, many, below) in
    let is = c.index_mut-leaf.ensures.value ∙ c.loop-at.invariant.others.same c.loop-at.at c.index_mut-leaf.result.now (omega arith) in record {
      others = ahead_set c.loop-at.at c.loop-at.leaves.items c.args.leaves.now.items c.settle.new.self c.loop-at.invariant.others;
      same = settled_more c.loop-at.leaves.items c.args.leaves.now.items c.loop-at.at c.index_mut-leaf.result.now c.settle.new.self here below is c.settle.ensures ∙ c.loop-at.invariant.same;
    }

pub returns : goal.returns
returns c =
    let many = c.loop-at.invariant.others.long in
    let past : length c.args.leaves.now.items ≤ c.loop-at.at = search rules in
    sym (settled_end c.loop-at.leaves.items c.args.leaves.now.items c.loop-at.at (omega (arith, many, past)) past) ∙ c.loop-at.invariant.same
