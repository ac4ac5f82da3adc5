use Rattle.std.proofs.Common.{◌≡◌, ◌≤◌, ◌+◌, vec_len, vec_capacity}
use Rattle.vx_rows.specs.Span.{span}
use Rattle.vx_rows.specs.Verdicts.{number_told}
use Rattle.vx_rows.proofs.comparing.compare_nullable_of.Given as goal

abbrev pub invariant-loop-row : goal.invariant-loop-row
invariant-loop-row l = (l.truths.items ≡ span (number_told l.verdict l.values l.literal) 0 l.row) × (vec_len l.truths + l.count ≤ vec_capacity l.truths + l.row) × (l.row ≤ l.count)
