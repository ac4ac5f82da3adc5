-- Bits by whole bytes.
use Rattle.std.proofs.Common.{◌≡◌, ℕ, zero, suc, ◌+◌, ◌*◌, ◌/◌, ◌%◌, ◌<◌, ◌==◌, Bool, List, [], ◌∷◌, ◌++◌, length, refl, ap, sym, ◌∙◌, arith, append_assoc}
use Rattle.std.specs.Prelude.{slice_index}
use Rattle.std.specs.Int.{bit_at}
use Rattle.vx_rows.specs.Span.{span}
use Rattle.vx_rows.specs.Bits.{bit, byte_bits, bitmap_byte, bitmap_size, bitmap}
use Rattle.vx_rows.proofs.SpanLemmas.{span_push}
use Rattle.vx_rows.proofs.BehindLemmas.{span_split}

-- the bits of a byte are eight of the bitmap
module _ (bytes : List ℕ) (from k : ℕ) where
  bit-of : (r : ℕ) → r < 8 → bit bytes from (8 * k + r) ≡ (bit_at (slice_index bytes (from + k)) r == 1)
  bit-of r l =
      let place : from + (8 * k + r) / 8 ≡ from + k = omega (arith, l) in
      let low : (8 * k + r) % 8 ≡ r = omega (arith, l) in
      ap (λ i. bit_at (slice_index bytes i) ((8 * k + r) % 8) == 1) place ∙ ap (λ i. bit_at (slice_index bytes (from + k)) i == 1) low

  pub bits-of : span (bit bytes from) (8 * k) 8 ≡ byte_bits (slice_index bytes (from + k))
  bits-of =
      let z : 8 * k ≡ 8 * k + 0 = omega arith in
      let e2 : 8 * k + 1 + 1 ≡ 8 * k + 2 = omega arith in
      let e3 : 8 * k + 2 + 1 ≡ 8 * k + 3 = omega arith in
      let e4 : 8 * k + 3 + 1 ≡ 8 * k + 4 = omega arith in
      let e5 : 8 * k + 4 + 1 ≡ 8 * k + 5 = omega arith in
      let e6 : 8 * k + 5 + 1 ≡ 8 * k + 6 = omega arith in
      let e7 : 8 * k + 6 + 1 ≡ 8 * k + 7 = omega arith in
      let v0 = ap (bit bytes from) z ∙ bit-of 0 (omega arith) in
      let v1 = bit-of 1 (omega arith) in
      let v2 = bit-of 2 (omega arith) in
      let v3 = bit-of 3 (omega arith) in
      let v4 = bit-of 4 (omega arith) in
      let v5 = bit-of 5 (omega arith) in
      let v6 = bit-of 6 (omega arith) in
      let v7 = bit-of 7 (omega arith) in
      rw (e2, e3, e4, e5, e6, e7, v0, v1, v2, v3, v4, v5, v6, v7) refl

pub eight_more : (front : List Bool) (bytes : List ℕ) (from k : ℕ)
    → (front ++ span (bit bytes from) 0 (8 * k)) ++ byte_bits (slice_index bytes (from + k)) ≡ front ++ span (bit bytes from) 0 (8 * (k + 1))
eight_more front bytes from k =
    let e : 8 * k + 8 ≡ 8 * (k + 1) = omega arith in
    let z : 0 + 8 * k ≡ 8 * k = omega arith in
    append_assoc front (span (bit bytes from) 0 (8 * k)) (byte_bits (slice_index bytes (from + k)))
    ∙ ap (λ xs. front ++ (span (bit bytes from) 0 (8 * k) ++ xs)) (sym (bits-of bytes from k) ∙ ap (λ i. span (bit bytes from) i 8) (sym z))
    ∙ ap (λ xs. front ++ xs) (sym (span_split (bit bytes from) 0 (8 * k) 8) ∙ ap (span (bit bytes from) 0) e)

-- a bitmap has its full bytes, and one more where rows are left
pub bitmap_whole : (rows : List Bool) → length rows % 8 ≡ 0 → span (bitmap_byte rows) 0 (length rows / 8) ≡ bitmap rows
bitmap_whole rows h = let e : length rows / 8 ≡ bitmap_size (length rows) = omega (arith, h) in ap (span (bitmap_byte rows) 0) e

pub bitmap_last : (rows : List Bool) → (length rows % 8 ≡ 0 → ⊥) → span (bitmap_byte rows) 0 (length rows / 8) ++ bitmap_byte rows (length rows / 8) ∷ [] ≡ bitmap rows
bitmap_last rows h =
    let z : 0 + length rows / 8 ≡ length rows / 8 = omega arith in
    let e : length rows / 8 + 1 ≡ bitmap_size (length rows) = omega (arith, h) in
    ap (λ i. span (bitmap_byte rows) 0 (length rows / 8) ++ bitmap_byte rows i ∷ []) (sym z)
    ∙ sym (span_push (bitmap_byte rows) 0 (length rows / 8)) ∙ ap (span (bitmap_byte rows) 0) e

-- full bytes and the bits left are all
module _ (front : List Bool) (bytes : List ℕ) (at first count : ℕ) (even : first % 8 ≡ 0) where
  shifted : (k n : ℕ) → span (bit bytes (at + first / 8)) k n ≡ span (bit bytes at) (first + k) n
  shifted k zero = refl
  shifted k (suc n) =
      let place : at + first / 8 + k / 8 ≡ at + (first + k) / 8 = omega (arith, even) in
      let low : k % 8 ≡ (first + k) % 8 = omega (arith, even) in
      let e : first + (k + 1) ≡ first + k + 1 = omega arith in
      ap (λ x. x ∷ span (bit bytes (at + first / 8)) (k + 1) n)
      (ap (λ i. bit_at (slice_index bytes i) (k % 8) == 1) place ∙ ap (λ i. bit_at (slice_index bytes (at + (first + k) / 8)) i == 1) low)
      ∙ ap (λ xs. bit bytes at (first + k) ∷ xs) (shifted (k + 1) n ∙ ap (λ i. span (bit bytes at) i n) e)

  pub all_behind : (front ++ span (bit bytes (at + first / 8)) 0 (8 * (count / 8))) ++ span (bit bytes at) (first + 8 * (count / 8)) (count % 8)
      ≡ front ++ span (bit bytes at) first count
  all_behind =
      let z : first + 0 ≡ first = omega arith in
      let e : 8 * (count / 8) + count % 8 ≡ count = omega arith in
      append_assoc front (span (bit bytes (at + first / 8)) 0 (8 * (count / 8))) (span (bit bytes at) (first + 8 * (count / 8)) (count % 8))
      ∙ ap (λ xs. front ++ (xs ++ span (bit bytes at) (first + 8 * (count / 8)) (count % 8))) (shifted 0 (8 * (count / 8)) ∙ ap (λ i. span (bit bytes at) i (8 * (count / 8))) z)
      ∙ ap (λ xs. front ++ xs) (sym (span_split (bit bytes at) first (8 * (count / 8)) (count % 8)) ∙ ap (span (bit bytes at) first) e)
