use Rattle.std.proofs.Common.{◌≡◌}
use Rattle.vx_rows.specs.Span.{span}
use Rattle.vx_rows.specs.Operands.{or_at}
use Rattle.vx_rows.proofs.nodes.or_rows.Given as goal

abbrev pub invariant-loop-row : goal.invariant-loop-row
invariant-loop-row l = l.truths.items ≡ span (or_at l.a l.b) 0 l.row
