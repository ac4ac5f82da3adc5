-- Texts among bytes that are all ASCII.
use Rattle.std.proofs.Common.{◌≡◌, ℕ, zero, suc, ◌+◌, ◌-◌, ◌≤◌, true, List, ap, ◌∙◌, subst, arith}
use Rattle.std.specs.Prelude.{slice_index, slice_range, IsAscii}
use Rattle.std.proofs.lemmas.Str.{IsUtf8-from_ascii, is_utf8-from_IsUtf8, IsAscii-take, IsAscii-drop}
use Rattle.vx_rows.specs.Span.{every}
use Rattle.vx_rows.specs.Columns.{AreRanges}
use Rattle.vx_rows.specs.Arrays.{is_text}
use Rattle.vx_rows.proofs.SpanLemmas.{every_holds}
use Rattle.vx_rows.proofs.ColumnLaws.{part-of-part}

-- places rise
grows : (b places : List ℕ) (n row k : ℕ) → AreRanges b places n → row + k ≤ n → slice_index places row ≤ slice_index places (row + k)
grows b places n row zero r h = let e : row + 0 ≡ row = omega arith in rw e (omega arith)
grows b places n row (suc k) r h =
    let e : row + suc k ≡ row + k + 1 = omega arith in
    let before = grows b places n row k r (omega (arith, h)) in
    let step = r.ordered (row + k) (omega (arith, h)) in
    rw e (omega (arith, before, step))

pub rises : (b places : List ℕ) (n row m : ℕ) → AreRanges b places n → row ≤ m → m ≤ n → slice_index places row ≤ slice_index places m
rises b places n row m r l h =
    let e : row + (m - row) ≡ m = omega arith in
    subst (λ k. slice_index places row ≤ slice_index places k) e (grows b places n row (m - row) r (omega (arith, l, h)))

-- a part of what is ASCII
part-ascii : (b : List ℕ) (a z p q : ℕ) → a ≤ p → p ≤ q → q ≤ z → IsAscii (slice_range b a z) → IsAscii (slice_range b p q)
part-ascii b a z p q x y w h =
    let first : a + (p - a) ≡ p = omega (arith, x) in
    let last : a + (q - a) ≡ q = omega (arith, x, y) in
    let same = part-of-part b a z (p - a) (q - a) (omega (arith, x, y)) (omega (arith, x, y, w)) in
    let inside = IsAscii-take _ (q - a - (p - a)) (IsAscii-drop (slice_range b a z) (p - a) h) in
    subst IsAscii (same ∙ ap (λ i. slice_range b i (a + (q - a))) first ∙ ap (slice_range b p) last) inside

pub ascii_texts : (n : ℕ) (b places : List ℕ) → AreRanges b places n → IsAscii (slice_range b (slice_index places 0) (slice_index places n)) → every (is_text b places) 0 n ≡ true
ascii_texts n b places r h = every_holds (is_text b places) 0 n (λ i l u.
    is_utf8-from_IsUtf8 _ (IsUtf8-from_ascii _ (part-ascii b (slice_index places 0) (slice_index places n) (slice_index places i) (slice_index places (i + 1))
    (rises b places n 0 i r (omega arith) (omega (arith, u))) (r.ordered i (omega (arith, u))) (rises b places n (i + 1) n r (omega (arith, u)) (omega arith)) h)))
