use Rattle.std.proofs.Common.{◌≡◌, ◌≤◌, ◌+◌, ◌++◌, vec_len, vec_capacity}
use Rattle.vx_rows.specs.Span.{span}
use Rattle.vx_rows.specs.Bits.{bit}
use Rattle.vx_rows.proofs.bits.push_bits.Given as goal

-- the rows so far, and room for the others
abbrev pub invariant-loop-row : goal.invariant-loop-row
invariant-loop-row l =
    (l.rows.items ≡ l.fn.rows.items ++ span (bit l.bytes l.at) l.first l.row) × (vec_len l.rows + l.count ≤ vec_capacity l.rows + l.row) × (l.row ≤ l.count)
