-- Whole bytes of a bitmap, as they are.
use Rattle.std.proofs.Common.{◌≡◌, ℕ, zero, suc, ◌+◌, ◌-◌, ◌*◌, ◌/◌, ◌%◌, ◌^◌, ◌<◌, ◌≤◌, ◌==◌, Bool, false, cond, List, [], ◌∷◌, ◌++◌, length, take, drop, refl, ap, sym, ◌∙◌, arith, append_assoc}
use Rattle.std.specs.Prelude.{slice_index, slice_index_or, slice_range}
use Rattle.std.specs.Int.{bit_at}
use Rattle.std.proofs.lemmas.List.{get_or-drop, get_or-take, length-drop, length-take-le}
use Rattle.vx_rows.specs.Span.{span}
use Rattle.vx_rows.specs.Bits.{bit, bit_value, bitmap_byte, bitmap_size, bitmap}
use Rattle.vx_rows.proofs.SpanLemmas.{get_or_span, span_push, span_same}
use Rattle.vx_rows.proofs.BehindLemmas.{span_split}
use Rattle.vx_rows.proofs.MakingLemmas.{span_list}

-- one more behind a front, from a number on
pub run_more : {A : Type 0} → (front : List A) (f : ℕ → A) (from k : ℕ) → from ≤ k → (front ++ span f from (k - from)) ++ f k ∷ [] ≡ front ++ span f from (k + 1 - from)
run_more front f from k h =
    let e : from + (k - from) ≡ k = omega (arith, h) in
    let n : k - from + 1 ≡ k + 1 - from = omega (arith, h) in
    append_assoc front (span f from (k - from)) (f k ∷ [])
    ∙ ap (λ xs. front ++ xs) (ap (λ i. span f from (k - from) ++ f i ∷ []) (sym e) ∙ sym (span_push f from (k - from)) ∙ ap (span f from) n)

-- the bits of a byte make it up
byte-again : (x : ℕ) → x < 2 ^ 8
    → bit_at x 0 + 2 * bit_at x 1 + 4 * bit_at x 2 + 8 * bit_at x 3 + 16 * bit_at x 4 + 32 * bit_at x 5 + 64 * bit_at x 6 + 128 * bit_at x 7 ≡ x
byte-again x l = omega (arith, l)

bit-again : (n : ℕ) → n < 2 → cond (n == 1) 1 0 ≡ n
bit-again zero l = refl
bit-again (suc zero) l = refl
bit-again (suc (suc n)) l = absurd (omega (arith, l))

module _ (b : List ℕ) (at first n : ℕ) (bytes : (i : ℕ) → slice_index b i < 2 ^ 8) (even : first % 8 ≡ 0) where
  abbrev pub rows : List Bool
  rows = span (bit b at) first n

  value : (k r : ℕ) → r < 8 → 8 * k + r < n → bit_value rows (8 * k + r) ≡ bit_at (slice_index b (at + first / 8 + k)) r
  value k r l h =
      let place : at + (first + (8 * k + r)) / 8 ≡ at + first / 8 + k = omega (arith, l, even) in
      let low : (first + (8 * k + r)) % 8 ≡ r = omega (arith, l, even) in
      ap (λ (x : Bool). cond x 1 0) (get_or_span (bit b at) first n (8 * k + r) false h)
      ∙ ap (λ i. cond (bit_at (slice_index b i) ((first + (8 * k + r)) % 8) == 1) 1 0) place
      ∙ ap (λ i. cond (bit_at (slice_index b (at + first / 8 + k)) i == 1) 1 0) low
      ∙ bit-again (bit_at (slice_index b (at + first / 8 + k)) r) (omega arith)

  byte : (k : ℕ) → 8 * k + 8 ≤ n → bitmap_byte rows k ≡ slice_index b (at + first / 8 + k)
  byte k h =
      let z : 8 * k ≡ 8 * k + 0 = omega arith in
      let v0 = ap (bit_value rows) z ∙ value k 0 (omega arith) (omega (arith, h)) in
      let v1 = value k 1 (omega arith) (omega (arith, h)) in
      let v2 = value k 2 (omega arith) (omega (arith, h)) in
      let v3 = value k 3 (omega arith) (omega (arith, h)) in
      let v4 = value k 4 (omega arith) (omega (arith, h)) in
      let v5 = value k 5 (omega arith) (omega (arith, h)) in
      let v6 = value k 6 (omega arith) (omega (arith, h)) in
      let v7 = value k 7 (omega arith) (omega (arith, h)) in
      let again = byte-again (slice_index b (at + first / 8 + k)) (bytes (at + first / 8 + k)) in
      rw (v0, v1, v2, v3, v4, v5, v6, v7) again

  pub whole_again : (count : ℕ) → 8 * count ≤ n → at + first / 8 + count ≤ length b → slice_range b (at + first / 8) (at + first / 8 + count) ≡ span (bitmap_byte rows) 0 count
  whole_again count h inside =
      let from = at + first / 8 in
      let e : from + count - from ≡ count = omega arith in
      let left = length-drop from b in
      let long : length (take count (drop from b)) ≡ count = length-take-le count (drop from b) (omega (arith, left, inside)) in
      ap (λ m. take m (drop from b)) e
      ∙ sym (span_list 0 (take count (drop from b)))
      ∙ ap (span (λ i. slice_index_or (take count (drop from b)) i 0) 0) long
      ∙ span_same (λ i. slice_index_or (take count (drop from b)) i 0) (bitmap_byte rows) 0 count
      (λ i l u. get_or-take count (drop from b) i 0 (omega (arith, u)) ∙ get_or-drop from b i 0 ∙ sym (byte i (omega (arith, u, h))))

  -- whole bytes, and the others behind them
  pub bitmap_in_two : (front : List ℕ) (count : ℕ) → 8 * count ≤ n → at + first / 8 + count ≤ length b → count ≤ bitmap_size (length rows)
      → (front ++ slice_range b (at + first / 8) (at + first / 8 + count)) ++ span (bitmap_byte rows) count (bitmap_size (length rows) - count) ≡ front ++ bitmap rows
  bitmap_in_two front count h inside some =
      let z : 0 + count ≡ count = omega arith in
      let all : count + (bitmap_size (length rows) - count) ≡ bitmap_size (length rows) = omega (arith, some) in
      append_assoc front (slice_range b (at + first / 8) (at + first / 8 + count)) (span (bitmap_byte rows) count (bitmap_size (length rows) - count))
      ∙ ap (λ xs. front ++ xs)
      (ap (λ xs. xs ++ span (bitmap_byte rows) count (bitmap_size (length rows) - count)) (whole_again count h inside)
      ∙ ap (λ j. span (bitmap_byte rows) 0 count ++ span (bitmap_byte rows) j (bitmap_size (length rows) - count)) (sym z)
      ∙ sym (span_split (bitmap_byte rows) 0 count (bitmap_size (length rows) - count)) ∙ ap (span (bitmap_byte rows) 0) all)
