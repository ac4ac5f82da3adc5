use Rattle.std.proofs.Common.{◌≡◌}
use Rattle.vx_rows.specs.Span.{span}
use Rattle.vx_rows.specs.Operands.{and_at}
use Rattle.vx_rows.proofs.nodes.and_rows.Given as goal

abbrev pub invariant-loop-row : goal.invariant-loop-row
invariant-loop-row l = l.truths.items ≡ span (and_at l.a l.b) 0 l.row
