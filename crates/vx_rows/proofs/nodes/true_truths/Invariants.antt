use Rattle.std.proofs.Common.{◌≡◌, ◌≤◌, ◌+◌, vec_len, vec_capacity}
use Rattle.vx_rows.specs.Span.{span}
use Rattle.vx_rows.specs.Operands.{is_true_in}
use Rattle.vx_rows.proofs.nodes.true_truths.Given as goal

abbrev pub invariant-loop-row : goal.invariant-loop-row
invariant-loop-row l = (l.bits.items ≡ span (is_true_in l.truths) 0 l.row) × (vec_len l.bits + l.count ≤ vec_capacity l.bits + l.row) × (l.row ≤ l.count)
