use Rattle.std.proofs.Common.{◌≡◌, ◌≤◌, drop, true}
use Rattle.vx_tables.specs.Block.{slots_from, in_order}
use Rattle.vx_tables.proofs.blocks.slot_count_of.Given as goal

abbrev pub invariant-loop-piece : goal.invariant-loop-piece
invariant-loop-piece l = record {
  order : in_order l.next (drop l.piece-index l.pieces) ≡ true;
  bound : l.next ≤ 1024;
  count : slots_from l.next (drop l.piece-index l.pieces) ≡ slots_from 0 l.pieces;
}
