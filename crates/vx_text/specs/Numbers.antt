-- The numbers that texts spell.
use Rattle.std.specs.Prelude.{ℕ, ℤ, pos, negsuc, zero, suc, ◌+◌, ◌*◌, ◌-◌, ◌^◌, Bool, false, ◌&&◌, ◌==◌, nat_lt, if◌then◌else◌, List, [], ◌∷◌, length, Option, Some, None}
use Rattle.std.specs.List.{list_all}
use Rattle.std.specs.Char.{is_ascii_digit}

-- digits without a leading zero: one spelling for each number
abbrev pub is_plain : List ℕ → Bool
is_plain [] = false
is_plain (digit ∷ digits) = if digit == 48 then nat_lt (length digits) 1 else list_all is_ascii_digit (digit ∷ digits)

-- the value of digits that stand after those of another number
abbrev pub value_after : ℕ → List ℕ → ℕ
value_after before [] = before
value_after before (digit ∷ digits) = value_after (10 * before + (digit - 48)) digits

-- the number of 64 bits that a text spells
unfoldable pub number_of : List ℕ → Option ℕ
number_of text = if is_plain text && nat_lt (value_after 0 text) (2 ^ 64) then Some (value_after 0 text) else None

abbrev pub positive : Option ℕ → Option ℤ
positive None = None
positive (Some n) = if nat_lt n (2 ^ 31) then Some (pos n) else None

-- the value below 0 of this magnitude
abbrev pub negative : Option ℕ → Option ℤ
negative None = None
negative (Some zero) = None
negative (Some (suc n)) = if nat_lt n (2 ^ 31) then Some (negsuc n) else None

-- the value of 32 bits that a word spells: digits without leading zeros, after a `-` where it is below 0
abbrev pub value_of : List ℕ → Option ℤ
value_of [] = None
value_of (byte ∷ bytes) = if byte == 45 then negative (number_of bytes) else positive (number_of (byte ∷ bytes))
