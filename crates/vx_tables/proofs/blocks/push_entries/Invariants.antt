use Rattle.std.proofs.Common.{◌≡◌, ◌≤◌, ◌+◌, ◌*◌, ◌++◌, drop, true}
use Rattle.vx_tables.specs.Block.{entries, in_order}
use Rattle.vx_tables.proofs.blocks.push_entries.Given as goal

abbrev pub invariant-loop-piece : goal.invariant-loop-piece
invariant-loop-piece l = record {
  order : in_order l.next (drop l.piece-index l.pieces) ≡ true;
  bound : l.next ≤ 1024;
  place : l.at ≤ 4 + 8 * l.next;
  made : l.out.items ++ entries l.at l.next (drop l.piece-index l.pieces) ≡ l.initial.out.items ++ entries 4 0 l.pieces;
}
