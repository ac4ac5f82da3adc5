use Rattle.std.proofs.Common.{◌≡◌, map, length}
use Rattle.std.specs.Prelude.{string_bytes}
use Rattle.vx_text.specs.Options.{are_options as are_all_options}
use Rattle.vx_text.proofs.options.are_options.Given as goal

-- the words before are options that are not given again
abbrev pub invariant-loop-word : goal.invariant-loop-word
invariant-loop-word l = are_all_options l.shapes (map string_bytes l.left) ≡ are_all_options l.shapes (map string_bytes l.words)

abbrev pub decreases-loop-word : goal.decreases-loop-word
decreases-loop-word l = length l.left
