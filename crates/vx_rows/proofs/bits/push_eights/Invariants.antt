use Rattle.std.proofs.Common.{◌≡◌, ◌≤◌, ◌+◌, ◌*◌, ◌++◌, vec_len, vec_capacity}
use Rattle.vx_rows.specs.Span.{span}
use Rattle.vx_rows.specs.Bits.{bit}
use Rattle.vx_rows.proofs.bits.push_eights.Given as goal

-- the rows so far, and room for the others
abbrev pub invariant-loop-k : goal.invariant-loop-k
invariant-loop-k l =
    (l.rows.items ≡ l.fn.rows.items ++ span (bit l.bytes l.from) 0 (8 * l.k)) × (vec_len l.rows ≡ vec_len l.fn.rows + 8 * l.k) × (vec_capacity l.rows ≡ vec_capacity l.fn.rows) × (l.k ≤ l.count)
