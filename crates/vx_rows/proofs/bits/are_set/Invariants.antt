use Rattle.std.proofs.Common.{◌≡◌, ◌-◌}
use Rattle.vx_rows.specs.Span.{every}
use Rattle.vx_rows.specs.Bits.{bit}
use Rattle.vx_rows.proofs.bits.are_set.Given as goal

abbrev pub invariant-loop-i : goal.invariant-loop-i
invariant-loop-i l = every (bit l.bytes l.at) l.i (l.count - l.i) ≡ every (bit l.bytes l.at) 0 l.count
