-- Bits of numbers in words of 64, and bits of words over them.
use Rattle.std.proofs.Common.{◌≡◌, ℕ, ◌+◌, ◌*◌, ◌/◌, ◌%◌, ◌<◌, ◌≤◌, ◌==◌, Bool, true, false, cond, not, nat_lt, refl, ap, sym, ◌∙◌, arith}
use Rattle.std.proofs.lemmas.Bool.Decides.{nat_tests}
use Rattle.std.proofs.lemmas.Bool.{cases_lt}
use Rattle.std.proofs.lemmas.Nat.Bits.{bit_at-zero}
use Rattle.std.proofs.Math.Logic.{⊎_elim}
use Rattle.std.specs.Int.{bit_at}
use Rattle.vx_sched.specs.BitSet.{Words, word_at, has_word, is_raised, Covers}

-- a word without bits raises none
pub low : (words : Words) (q : ℕ) → word_at words (q / 64) ≡ 0 → is_raised words q ≡ false
low words q h = ap (λ w. bit_at w (q % 64) == 1) h ∙ ap (λ b. b == 1) (bit_at-zero (q % 64))

-- the bits over words after a bit of a word was put, and then that of the word
pub covers-put : (words words' groups groups' : Words) (k : ℕ) (has : Bool) → Covers words groups
    → ((b : ℕ) → (k / 64 == b) ≡ false → word_at words' b ≡ word_at words b) → ((b : ℕ) → has_word words' b ≡ has_word words b)
    → has ≡ nat_lt 0 (word_at words' (k / 64))
    → ((b : ℕ) → is_raised groups' b ≡ cond (k / 64 == b) has (is_raised groups b)) → ((b : ℕ) → has_word groups' b ≡ has_word groups b) → Covers words' groups'
covers-put words words' groups groups' k has c others kept is bits kept-groups = record {
  room = λ b h. kept-groups (b / 64) ∙ c.room b (sym (kept b) ∙ h);
  tied = λ b. bits b ∙ tied b (k / 64 == b) refl;
  small = λ b h. c.small b (sym (kept b) ∙ h);
  few = λ b h. c.few b (sym (kept-groups b) ∙ h);
}
  where
    tied : (b : ℕ) (t : Bool) → (k / 64 == b) ≡ t → cond t has (is_raised groups b) ≡ nat_lt 0 (word_at words' b)
    tied b true e =
        let same : k / 64 ≡ b = grind (arith, nat_tests) in
        is ∙ ap (λ m. nat_lt 0 (word_at words' m)) same
    tied b false e = c.tied b ∙ sym (ap (nat_lt 0) (others b e))

-- what is raised from a number on, past the rest of its block
module _ (raised : ℕ → Bool) (word : ℕ → ℕ) (under : (q : ℕ) → word (q / 64) ≡ 0 → raised q ≡ false) (from : ℕ)
    (own : (q : ℕ) → from ≤ q → q / 64 ≡ from / 64 → raised q ≡ false) where
  -- nothing, where no later block has a bit set
  pub rest-none : ((b : ℕ) → from / 64 + 1 ≤ b → word b ≡ 0) → (q : ℕ) → from ≤ q → raised q ≡ false
  rest-none none q f = ⊎_elim
      (λ (l : q < from / 64 * 64 + 64). own q f (omega arith))
      (λ (g : from / 64 * 64 + 64 ≤ q). under q (none (q / 64) (omega arith)))
      (cases_lt q (from / 64 * 64 + 64))

  -- nothing before the first raised one of the next block that has one
  pub rest-least : (b n : ℕ) → from / 64 + 1 ≤ b → ((a : ℕ) → from / 64 + 1 ≤ a → a < b → word a ≡ 0)
      → ((q : ℕ) → b * 64 ≤ q → q < n → raised q ≡ false) → (q : ℕ) → from ≤ q → q < n → raised q ≡ false
  rest-least b n after least there q f l = ⊎_elim
      (λ (x : q < from / 64 * 64 + 64). own q f (omega arith))
      (λ (x : from / 64 * 64 + 64 ≤ q). ⊎_elim
      (λ (y : q < b * 64). under q (least (q / 64) (omega arith) (omega arith)))
      (λ (y : b * 64 ≤ q). there q y l)
      (cases_lt q (b * 64)))
      (cases_lt q (from / 64 * 64 + 64))

-- the first number of a block
pub block-start : (b : ℕ) → (b * 64 % 64 ≡ 0) × (b * 64 / 64 ≡ b)
block-start b = (omega arith, omega arith)

-- a word that is not 0
pub nonzero : (r w : ℕ) → r ≡ w → not (r == 0) ≡ nat_lt 0 w
nonzero r w e = ap (λ n. not (n == 0)) e ∙ at w
  where
    at : (n : ℕ) → not (n == 0) ≡ nat_lt 0 n
    at n = grind (arith, nat_tests)
