-- Bits of numbers in words of 64, and bits of words over them.
use Rattle.std.specs.Prelude.{◌≡◌, ℕ, ◌/◌, ◌%◌, ◌<◌, ◌^◌, ◌==◌, nat_lt, Bool, true, List, Option, is_some, unwrap_or}
use Rattle.std.specs.Int.{bit_at}
use Rattle.std.specs.Map.{lookup}
use Rattle.std.specs.BTreeMap.{is_at}
use Rattle.std.specs.Ordering.{nat_cmp}

-- words by block, in order
abbrev pub Words : Type 0
Words = List (ℕ × ℕ)

abbrev pub or_zero : Option ℕ → ℕ
or_zero o = unwrap_or o 0

-- the word of a block, which is 0 where there is none
abbrev pub word_at : Words → ℕ → ℕ
word_at words b = or_zero (lookup (is_at (nat_cmp b)) words)

-- whether a block has a word
abbrev pub has_word : Words → ℕ → Bool
has_word words b = is_some (lookup (is_at (nat_cmp b)) words)

-- whether a number has a bit
abbrev pub has_room : Words → ℕ → Bool
has_room words n = has_word words (n / 64)

-- whether the bit of a number is set
abbrev pub is_raised : Words → ℕ → Bool
is_raised words n = bit_at (word_at words (n / 64)) (n % 64) == 1

-- whether a word that may be there has a bit set
abbrev pub IsUp : Option ℕ → Type 0
IsUp o = 0 < or_zero o

-- words, and groups of bits over them: a block with a word has a bit, and that is set exactly where a bit of the word is
pub record Covers (words groups : Words) : Type 0 where
  pub room : (b : ℕ) → has_word words b ≡ true → has_room groups b ≡ true
  pub tied : (b : ℕ) → is_raised groups b ≡ nat_lt 0 (word_at words b)
  pub small : (b : ℕ) → has_word words b ≡ true → b < 2 ^ 58
  pub few : (b : ℕ) → has_word groups b ≡ true → b < 2 ^ 58
