-- A field of bits, one for the numbers at a place of it, which tells of most numbers that they are not among some.
use Rattle.std.specs.Prelude.{◌≡◌, ℕ, ◌/◌, ◌%◌, ◌==◌, slice_get, Bool, true, List, Option, Some, None}
use Rattle.std.specs.Int.{bit_at}
use Rattle.vx_sched.specs.Picks.{is_among}

-- the word of a number's bit, of 1,024
abbrev pub word_of : ℕ → ℕ
word_of n = n / 64 % 1024

-- whether a bit of a word is set, or there is no word
abbrev pub lets_through : Option ℕ → ℕ → Bool
lets_through None place = true
lets_through (Some word) place = bit_at word place == 1

-- whether a number may be among those that were marked
abbrev pub may_hold : List ℕ → ℕ → Bool
may_hold words n = lets_through (slice_get words (word_of n)) (n % 64)

-- each number that is among some may be held
abbrev pub MayHoldAll : List ℕ → List ℕ → Type 0
MayHoldAll words numbers = (q : ℕ) → is_among numbers q ≡ true → may_hold words q ≡ true

-- what may be held stays so
abbrev pub HoldsOn : List ℕ → List ℕ → Type 0
HoldsOn old new = (q : ℕ) → may_hold old q ≡ true → may_hold new q ≡ true
