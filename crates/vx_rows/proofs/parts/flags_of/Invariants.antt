use Rattle.std.proofs.Common.{◌≡◌}
use Rattle.vx_rows.specs.Span.{span}
use Rattle.vx_rows.specs.Bits.{present_at}
use Rattle.vx_rows.proofs.parts.flags_of.Given as goal

-- the flags so far
abbrev pub invariant-loop-row : goal.invariant-loop-row
invariant-loop-row l = l.flags.items ≡ span (present_at l.present) 0 l.row
