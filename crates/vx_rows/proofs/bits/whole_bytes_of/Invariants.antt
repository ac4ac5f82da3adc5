use Rattle.std.proofs.Common.{◌≡◌, ◌≤◌, ◌+◌, vec_len, vec_capacity}
use Rattle.vx_rows.specs.Span.{span}
use Rattle.vx_rows.specs.Bits.{bitmap_byte}
use Rattle.vx_rows.proofs.bits.whole_bytes_of.Given as goal

-- the bytes so far, and room for the others
abbrev pub invariant-loop-k : goal.invariant-loop-k
invariant-loop-k l = (l.bytes.items ≡ span (bitmap_byte l.rows) 0 l.k) × (vec_len l.bytes + l.count ≤ vec_capacity l.bytes + l.k) × (l.k ≤ l.count)
