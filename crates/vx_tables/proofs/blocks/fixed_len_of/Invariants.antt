use Rattle.std.proofs.Common.{◌≡◌, ◌+◌, take, sum_by}
use Rattle.vx_tables.specs.Block.{fixed_size}
use Rattle.vx_tables.proofs.blocks.fixed_len_of.Given as goal

abbrev pub invariant-loop-piece : goal.invariant-loop-piece
invariant-loop-piece l = l.size ≡ 4 + sum_by fixed_size (take l.piece-index l.pieces)
