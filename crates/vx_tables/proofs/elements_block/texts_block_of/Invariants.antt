use Rattle.std.proofs.Common.{◌≡◌, ◌++◌, map, drop}
use Rattle.std.specs.Prelude.{string_bytes}
use Rattle.vx_tables.specs.Block.{text}
use Rattle.vx_tables.proofs.elements_block.texts_block_of.Given as goal

abbrev pub invariant-loop-text : goal.invariant-loop-text
invariant-loop-text l = l.elements.items ++ map (text 0) (map string_bytes (drop l.text-index l.value)) ≡ map (text 0) (map string_bytes l.value)
