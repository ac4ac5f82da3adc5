use Rattle.std.proofs.Common.{◌≡◌, ◌++◌}
use Rattle.vx_rows.specs.Bits.{bitmap_byte}
use Rattle.vx_rows.specs.Span.{span}
use Rattle.vx_generate.specs.Generated.{has_score}
use Rattle.vx_generate.proofs.generated_bytes.push_bitmap.Given as goal

abbrev pub invariant-loop-k : goal.invariant-loop-k
invariant-loop-k l = l.bytes.items ≡ l.fn.bytes.items ++ span (bitmap_byte (span (has_score l.seed) 0 l.rows)) 0 l.k
