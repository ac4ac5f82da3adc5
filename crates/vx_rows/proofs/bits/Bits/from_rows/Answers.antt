use Rattle.std.proofs.Common.{◌≡◌, ◌∙◌, length, ap, arith, rules}
use Rattle.vx_rows.specs.Bits.{bitmap_size, bitmap_byte, bitmap}
use Rattle.vx_rows.proofs.SpanLemmas.{length_span}
use Rattle.vx_rows.proofs.bits.Bits.from_rows.Goals as goal

pub new-requires : goal.new-requires
new-requires c =
    let same : c.in_ok-held.held.bytes ≡ bitmap c.args.rows.now = search rules in
    let long : length c.in_ok-held.held.bytes ≡ bitmap_size (length c.args.rows.now) = ap length same ∙ length_span (bitmap_byte c.args.rows.now) 0 (bitmap_size (length c.args.rows.now)) in
    omega (arith, long)
