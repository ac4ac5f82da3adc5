use Rattle.std.proofs.Common.{◌≡◌, map, length}
use Rattle.std.specs.Prelude.{string_bytes}
use Rattle.vx_text.specs.Options.{values_of as values_in}
use Rattle.vx_text.proofs.options.values_of.Given as goal

-- the option is not among the words before
abbrev pub invariant-loop-word : goal.invariant-loop-word
invariant-loop-word l = values_in l.shapes l.wanted (map string_bytes l.rest) ≡ values_in l.shapes l.wanted (map string_bytes l.words)

abbrev pub decreases-loop-word : goal.decreases-loop-word
decreases-loop-word l = length l.rest
