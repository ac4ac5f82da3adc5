use Rattle.std.proofs.Common.{◌≡◌, ℕ, ◌+◌, ◌-◌, ◌/◌, ◌%◌, ◌^◌, ◌<◌, ◌≤◌, Bool, List, ◌++◌, length, ap, ◌∙◌, subst, arith, rules}
use Rattle.std.specs.Prelude.{slice_index, slice_range}
use Rattle.vx_rows.specs.Span.{span}
use Rattle.vx_rows.specs.Bits.{bit, bitmap_byte, bitmap_size, bitmap}
use Rattle.vx_rows.proofs.SpanLemmas.{length_span}
use Rattle.vx_rows.proofs.WholeLemmas.{bitmap_in_two}
use Rattle.vx_rows.proofs.bits.Bits.push_bytes.Goals as goal

pub push_from-requires-2 : goal.push_from-requires-2
push_from-requires-2 c =
    let s = c.self.inside in
    let long = length_span (bit s.held.bytes s.at) s.first s.count in
    let same = ap (λ (xs : List Bool). length xs) c.self.view_is in
    omega (arith, long, same)

pub returns : goal.returns
returns c =
    let s = c.self.inside in
    let b = s.held.bytes in
    let front = c.args.bytes.now.items in
    let rows : List Bool = span (bit b s.at) s.first s.count in
    let long : length rows ≡ s.count = length_span (bit b s.at) s.first s.count in
    let room = c.self.invariant.0 in
    let even : s.first % 8 ≡ 0 = omega (arith, c.if-self-ne0.false) in
    let inside : s.at + s.first / 8 + s.count / 8 ≤ length b = omega (arith, room, even) in
    let some : s.count / 8 ≤ bitmap_size (length rows) = omega (arith, long) in
    let bytes : (i : ℕ) → slice_index b i < 2 ^ 8 =
    subst (λ (xs : List ℕ). (i : ℕ) → slice_index xs i < 2 ^ 8) c.as_slice.ensures.value c.in_ok-push_whole.ensures.bytes in
    let whole : c.push_whole.new.out.items ≡ front ++ slice_range b (s.at + s.first / 8) (s.at + s.first / 8 + s.count / 8) = search rules in
    let all : c.push_whole.new.out.items ++ span (bitmap_byte c.args.self.now) (s.count / 8) (bitmap_size (length c.args.self.now) - s.count / 8) ≡ front ++ bitmap c.args.self.now =
    subst (λ (xs : List Bool). c.push_whole.new.out.items ++ span (bitmap_byte xs) (s.count / 8) (bitmap_size (length xs) - s.count / 8) ≡ front ++ bitmap xs) c.self.view_is
    (ap (λ xs. xs ++ span (bitmap_byte rows) (s.count / 8) (bitmap_size (length rows) - s.count / 8)) whole
    ∙ bitmap_in_two b s.at s.first s.count bytes even front (s.count / 8) (omega arith) inside some) in
    search (all, rules)
