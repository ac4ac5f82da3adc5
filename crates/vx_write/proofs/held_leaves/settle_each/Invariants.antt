use Rattle.std.proofs.Common.{◌≡◌, ◌++◌, take, drop}
use Rattle.vx_write.specs.Leaves.{nows, nexts}
use Rattle.vx_write.proofs.LeavesLemmas.{Ahead}
use Rattle.vx_write.proofs.held_leaves.settle_each.Given as goal

-- the leaves so far are settled, and those still to come are to be
abbrev pub invariant-loop-at : goal.invariant-loop-at
invariant-loop-at l = record {
  others : Ahead l.at l.leaves.items l.fn.leaves.items;
  same : nows (take l.at l.leaves.items) ++ nexts (drop l.at l.fn.leaves.items) ≡ nexts l.fn.leaves.items;
}
