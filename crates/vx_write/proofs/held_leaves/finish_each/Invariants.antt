use Rattle.std.proofs.Common.{◌≡◌, ◌++◌, drop}
use Rattle.vx_write.specs.Leaves.{nows, rests, rests_from, leaf_types, AreChunks}
use Rattle.vx_write.specs.Chunks.{chunks_view}
use Rattle.vx_write.proofs.LeavesLemmas.{Ahead}
use Rattle.vx_write.proofs.held_leaves.finish_each.Given as goal

-- the last chunks so far and those still to come
abbrev pub invariant-loop-at : goal.invariant-loop-at
invariant-loop-at l = record {
  others : Ahead l.at l.leaves.items l.fn.leaves.items;
  last : chunks_view l.chunks.items ++ rests_from l.at (nows (drop l.at l.fn.leaves.items)) ≡ rests (nows l.fn.leaves.items);
  sound : AreChunks (leaf_types (nows l.fn.leaves.items)) (chunks_view l.chunks.items);
}
