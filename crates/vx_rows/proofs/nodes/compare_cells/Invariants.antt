use Rattle.std.proofs.Common.{◌≡◌}
use Rattle.vx_rows.specs.Span.{span}
use Rattle.vx_rows.specs.Operands.{compared_at}
use Rattle.vx_rows.proofs.nodes.compare_cells.Given as goal

abbrev pub invariant-loop-row : goal.invariant-loop-row
invariant-loop-row l = l.truths.items ≡ span (compared_at l.op l.a l.b) 0 l.row
