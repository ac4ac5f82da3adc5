use Rattle.std.proofs.Common.{◌≡◌}
use Rattle.vx_rows.specs.Span.{span}
use Rattle.vx_rows.specs.Operands.{not_at}
use Rattle.vx_rows.proofs.nodes.not_rows.Given as goal

abbrev pub invariant-loop-row : goal.invariant-loop-row
invariant-loop-row l = l.truths.items ≡ span (not_at l.a) 0 l.row
