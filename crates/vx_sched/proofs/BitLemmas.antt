-- The bits of a word.
use Rattle.std.proofs.Common.{◌≡◌, ℕ, ◌+◌, ◌-◌, ◌*◌, ◌/◌, ◌%◌, ◌^◌, ◌<◌, ◌≤◌, ◌==◌, Bool, true, false, cond, bit_and, bit_or, w64, ◌⊎◌, inl, inr, refl, ap, sym, ◌∙◌, subst, arith}
use Rattle.std.proofs.lemmas.Bool.Decides.{nat_tests}
use Rattle.std.proofs.lemmas.Bool.{cases_lt}
use Rattle.std.proofs.lemmas.Nat.{shr-shr}
use Rattle.std.proofs.lemmas.Nat.Bits.{bit_at_set_same, bit_at_set_other, bit_at_clear_same, bit_at_clear_other, bit_at_above, bit_at-trailing_zeros}
use Rattle.std.specs.Int.{bit_at, trailing_zeros}

pub set-bit : (n k : ℕ) → k < 64 → (i : ℕ) → bit_at (bit_or n (1 * 2 ^ k % 2 ^ 64)) i ≡ cond (k == i) 1 (bit_at n i)
set-bit n k w i = at (k == i) refl
  where
    at : (b : Bool) → (k == i) ≡ b → bit_at (bit_or n (1 * 2 ^ k % 2 ^ 64)) i ≡ cond b 1 (bit_at n i)
    at true e =
        let same : k ≡ i = grind (arith, nat_tests) in
        subst (λ j. bit_at (bit_or n (1 * 2 ^ k % 2 ^ 64)) j ≡ 1) same (bit_at_set_same w64 n k w)
    at false e = bit_at_set_other w64 n k w i (λ s. grind (arith, nat_tests))

pub clear-bit : (n k : ℕ) → k < 64 → (i : ℕ) → i < 64 → bit_at (bit_and n (2 ^ 64 - 1 - 1 * 2 ^ k % 2 ^ 64)) i ≡ cond (k == i) 0 (bit_at n i)
clear-bit n k w i l = at (k == i) refl
  where
    at : (b : Bool) → (k == i) ≡ b → bit_at (bit_and n (2 ^ 64 - 1 - 1 * 2 ^ k % 2 ^ 64)) i ≡ cond b 0 (bit_at n i)
    at true e =
        let same : k ≡ i = grind (arith, nat_tests) in
        subst (λ j. bit_at (bit_and n (2 ^ 64 - 1 - 1 * 2 ^ k % 2 ^ 64)) j ≡ 0) same (bit_at_clear_same w64 n k w)
    at false e = bit_at_clear_other w64 n k w i l (λ s. grind (arith, nat_tests))

-- a bit past those that were shifted out
pub shifted-bit : (n k i : ℕ) → bit_at (n / 2 ^ k) i ≡ bit_at n (k + i)
shifted-bit n k i = ap (λ x. x % 2) (shr-shr n k i)

shifted-from : (n k i : ℕ) → k ≤ i → bit_at n i ≡ bit_at (n / 2 ^ k) (i - k)
shifted-from n k i l =
    let same : k + (i - k) ≡ i = omega arith in
    sym (shifted-bit n k (i - k) ∙ ap (bit_at n) same)

bit-zero : (i : ℕ) → bit_at 0 i ≡ 0
bit-zero i = bit_at_above 0 0 i (omega arith) (omega arith)

-- none where nothing is left
pub none-shifted : (n k : ℕ) → n / 2 ^ k ≡ 0 → (i : ℕ) → k ≤ i → bit_at n i ≡ 0
none-shifted n k z i l = shifted-from n k i l ∙ ap (λ m. bit_at m (i - k)) z ∙ bit-zero (i - k)

-- the lowest of those that are left
module _ (n k : ℕ) (some : 0 < n / 2 ^ k) (wide : n / 2 ^ k < 2 ^ 64) where
  lowest : (trailing_zeros w64 (n / 2 ^ k) < 64) × (bit_at (n / 2 ^ k) (trailing_zeros w64 (n / 2 ^ k)) ≡ 1) × ((i : ℕ) → i < trailing_zeros w64 (n / 2 ^ k) → bit_at (n / 2 ^ k) i ≡ 0)
  lowest = bit_at-trailing_zeros w64 (n / 2 ^ k) some wide

  pub lowest-set : bit_at n (k + trailing_zeros w64 (n / 2 ^ k)) ≡ 1
  lowest-set = sym (shifted-bit n k (trailing_zeros w64 (n / 2 ^ k))) ∙ lowest.1

  pub lowest-within : n < 2 ^ 64 → k + trailing_zeros w64 (n / 2 ^ k) < 64
  lowest-within l = at (cases_lt (k + trailing_zeros w64 (n / 2 ^ k)) 64)
    where
      at : (k + trailing_zeros w64 (n / 2 ^ k) < 64) ⊎ (64 ≤ k + trailing_zeros w64 (n / 2 ^ k)) → k + trailing_zeros w64 (n / 2 ^ k) < 64
      at (inl h) = h
      at (inr h) = cc (sym lowest-set ∙ bit_at_above n 64 (k + trailing_zeros w64 (n / 2 ^ k)) l h)

  pub lowest-least : (i : ℕ) → k ≤ i → i < k + trailing_zeros w64 (n / 2 ^ k) → bit_at n i ≡ 0
  lowest-least i f l =
      let before : i - k < trailing_zeros w64 (n / 2 ^ k) = omega arith in
      shifted-from n k i f ∙ lowest.2 (i - k) before
