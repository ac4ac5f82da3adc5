use Rattle.std.proofs.Common.{◌≡◌, ◌≤◌, ◌+◌, vec_len, vec_capacity}
use Rattle.vx_rows.specs.Span.{span}
use Rattle.vx_rows.specs.Verdicts.{plain_told}
use Rattle.vx_rows.proofs.comparing.compare_plain_of.Given as goal

abbrev pub invariant-loop-row : goal.invariant-loop-row
invariant-loop-row l = (l.truths.items ≡ span (plain_told l.verdict l.ptype l.bytes l.at l.literal) 0 l.row) × (vec_len l.truths + l.count ≤ vec_capacity l.truths + l.row) × (l.row ≤ l.count)
