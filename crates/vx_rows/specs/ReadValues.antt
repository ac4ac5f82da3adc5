-- How the texts of values are read: each has one spelling.
use Rattle.std.specs.Prelude.{ℕ, zero, suc, ℤ, pos, negsuc, ◌+◌, ◌*◌, ◌-◌, ◌^◌, ◌==◌, nat_le, nat_lt, Bool, true, false, ◌&&◌, if◌then◌else◌}
use Rattle.std.specs.Prelude.{List, [], ◌∷◌, codes, Option, Some, None}
use Rattle.std.specs.Option.{option_map, option_and_then, option_or}
use Rattle.vx_data.specs.declared.ptype.PType.{PType}
use Rattle.vx_data.specs.TextsRead.{after}
use Rattle.vx_rows.specs.Written.{is_within}

-- Each value is read from the front, and what follows is given with it.

-- ---- null

-- what follows `~`, where a row may be null
abbrev pub null_in : Bool → List ℕ → Option (List ℕ)
null_in nullable t = if nullable then after (codes "~") t else None

abbrev pub unless_null : {A : Type 0} → Option (List ℕ) → Option (A × List ℕ) → Option (Option A × List ℕ)
unless_null (Some rest) value = Some (None, rest)
unless_null None value = option_map (λ x. (Some x.0, x.1)) value

-- null, or a value
abbrev pub optional_in : {A : Type 0} → (List ℕ → Option (A × List ℕ)) → Bool → List ℕ → Option (Option A × List ℕ)
optional_in read nullable t = unless_null (null_in nullable t) (read t)

-- ---- truth values

abbrev pub truth_in : List ℕ → Option (Bool × List ℕ)
truth_in t = option_or (option_map (λ rest. (true, rest)) (after (codes "true") t)) (option_map (λ rest. (false, rest)) (after (codes "false") t))

-- ---- integers

abbrev pub is_digit : ℕ → Bool
is_digit c = nat_le 48 c && nat_le c 57

-- a number whose first digits spell this one, and whose others come
unfoldable pub digits_in : ℕ → List ℕ → ℕ × List ℕ
digits_in n [] = (n, [])
digits_in n (c ∷ cs) = if is_digit c then digits_in (10 * n + (c - 48)) cs else (n, c ∷ cs)

-- a decimal number: 0, or digits of which the first is not 0
unfoldable pub natural_in : List ℕ → Option (ℕ × List ℕ)
natural_in [] = None
natural_in (c ∷ cs) = if c == 48 then Some (0, cs) else if is_digit c then Some (digits_in (c - 48) cs) else None

-- the number behind a sign, which is below 0
abbrev pub below_zero : ℕ × List ℕ → Option (ℤ × List ℕ)
below_zero (zero, rest) = None
below_zero (suc n, rest) = Some (negsuc n, rest)

abbrev pub signed_in : List ℕ → Option (List ℕ) → Option (ℤ × List ℕ)
signed_in t (Some rest) = option_and_then below_zero (natural_in rest)
signed_in t None = option_map (λ x. (pos x.0, x.1)) (natural_in t)

-- an integer, with its sign where it is below 0
abbrev pub integer_in : List ℕ → Option (ℤ × List ℕ)
integer_in t = signed_in t (after (codes "-") t)

-- a number that 64 bits hold
abbrev pub narrow : ℕ → Option ℕ
narrow n = if nat_lt n (2 ^ 64) then Some n else None

abbrev pub narrowed : ℕ × List ℕ → Option (ℕ × List ℕ)
narrowed x = if nat_lt x.0 (2 ^ 64) then Some x else None

abbrev pub within_range : PType → ℤ × List ℕ → Option (ℤ × List ℕ)
within_range p x = if is_within p x.0 then Some x else None

-- an integer in the range of a type
abbrev pub number_in : PType → List ℕ → Option (ℤ × List ℕ)
number_in p t = option_and_then (within_range p) (integer_in t)
