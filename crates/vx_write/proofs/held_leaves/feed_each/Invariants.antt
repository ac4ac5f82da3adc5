use Rattle.std.proofs.Common.{◌≡◌, ◌++◌, take, drop}
use Rattle.vx_write.specs.Leaves.{nows, nexts, filled, filled_from, grown, leaf_types, AreChunks}
use Rattle.vx_write.specs.Chunks.{chunks_view, columns_seen}
use Rattle.vx_write.proofs.LeavesLemmas.{Ahead}
use Rattle.vx_write.proofs.held_leaves.feed_each.Given as goal

-- the leaves so far have their columns, and those still to come are to have them
abbrev pub invariant-loop-at : goal.invariant-loop-at
invariant-loop-at l = record {
  others : Ahead l.at l.leaves.items l.fn.leaves.items;
  same : nows l.leaves.items ≡ nows l.fn.leaves.items;
  full : chunks_view l.chunks.items ++ filled_from l.at (nows (drop l.at l.fn.leaves.items)) (columns_seen (drop l.at l.columns)) ≡ filled (nows l.fn.leaves.items) (columns_seen l.columns);
  sound : AreChunks (leaf_types (nows l.fn.leaves.items)) (chunks_view l.chunks.items);
  next : nexts (take l.at l.leaves.items) ++ grown (nows (drop l.at l.fn.leaves.items)) (columns_seen (drop l.at l.columns)) ≡ grown (nows l.fn.leaves.items) (columns_seen l.columns);
}
