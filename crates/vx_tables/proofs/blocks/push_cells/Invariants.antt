use Rattle.std.proofs.Common.{◌≡◌, ◌++◌, drop}
use Rattle.vx_tables.specs.Block.{cells}
use Rattle.vx_tables.proofs.blocks.push_cells.Given as goal

abbrev pub invariant-loop-piece : goal.invariant-loop-piece
invariant-loop-piece l = l.out.items ++ cells l.at l.behind (drop l.piece-index l.pieces) ≡ l.initial.out.items ++ cells 4 l.fixed l.pieces
