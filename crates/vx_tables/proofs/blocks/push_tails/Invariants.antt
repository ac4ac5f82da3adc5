use Rattle.std.proofs.Common.{◌≡◌, ◌++◌, drop}
use Rattle.std.specs.List.{flat_map}
use Rattle.vx_tables.specs.Block.{tail}
use Rattle.vx_tables.proofs.blocks.push_tails.Given as goal

abbrev pub invariant-loop-piece : goal.invariant-loop-piece
invariant-loop-piece l = l.out.items ++ flat_map tail (drop l.piece-index l.pieces) ≡ l.initial.out.items ++ flat_map tail l.pieces
