use Rattle.std.proofs.Common.{◌≡◌, ◌++◌, length, drop}
use Rattle.std.specs.List.{flat_map}
use Rattle.vx_tables.specs.Block.{counted_block, segment}
use Rattle.vx_tables.proofs.elements_block.segments_block_of.Given as goal

abbrev pub invariant-loop-segment : goal.invariant-loop-segment
invariant-loop-segment l = l.out.items ++ flat_map segment (drop l.segment-index l.value) ≡ counted_block (length l.value) (flat_map segment l.value)
