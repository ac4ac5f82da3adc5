use Rattle.std.proofs.Common.{◌≡◌, None}
use Rattle.std.specs.Prelude.{replicate}
use Rattle.vx_footer.proofs.gathered.no_numbers.Given as goal

-- none so far
abbrev pub invariant-loop-segment : goal.invariant-loop-segment
invariant-loop-segment l = l.numbers.items ≡ replicate l._segment None
