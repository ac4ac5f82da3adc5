use Rattle.std.proofs.Common.{◌≡◌, ◌++◌, length, drop}
use Rattle.std.specs.Int.{w32, to_le_bytes}
use Rattle.std.specs.List.{flat_map}
use Rattle.vx_tables.specs.Block.{counted_block}
use Rattle.vx_tables.proofs.elements_block.numbers_block_of.Given as goal

abbrev pub invariant-loop-number : goal.invariant-loop-number
invariant-loop-number l = l.out.items ++ flat_map (to_le_bytes w32) (drop l.number-index l.value) ≡ counted_block (length l.value) (flat_map (to_le_bytes w32) l.value)
