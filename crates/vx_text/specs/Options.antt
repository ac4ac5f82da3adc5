-- Options behind the name that a command serves: in any order, each at most once where it may not repeat.
use Rattle.std.specs.Prelude.{ℕ, zero, suc, Bool, true, false, ◌&&◌, ◌||◌, not, if◌then◌else◌, List, [], ◌∷◌, length, take, Option, Some, None, is_some}
use Rattle.std.specs.List.{find}
use Rattle.std.specs.Option.{option_map, option_map_or}
use Rattle.std.specs.Str.{bytes_eq}
use Rattle.vx_text.specs.Numbers.{number_of}

-- an option: its word, how many values stand behind it, whether it may be given again, and whether all words
-- behind it are its values
pub record OptionShape : Type 0 where
  pub word : List ℕ
  pub values : ℕ
  pub repeats : Bool
  pub is_last : Bool

-- an option that has so many values and is given at most once
abbrev pub once : List ℕ → ℕ → OptionShape
once word values = record { word = word; values = values; repeats = false; is_last = false }

-- an option that has so many values and may be given again
abbrev pub repeated : List ℕ → ℕ → OptionShape
repeated word values = record { word = word; values = values; repeats = true; is_last = false }

-- an option whose values are all words behind it
abbrev pub last : List ℕ → OptionShape
last word = record { word = word; values = 0; repeats = false; is_last = true }

-- the option that a word names
abbrev pub shape_named : List OptionShape → List ℕ → Option OptionShape
shape_named shapes word = find (λ s. bytes_eq s.word word) shapes

abbrev pub values_behind : List (List ℕ) → OptionShape → ℕ
values_behind words s = if s.is_last then length words else s.values

-- how many of the words behind an option are its values
abbrev pub value_count : List OptionShape → List ℕ → List (List ℕ) → ℕ
value_count shapes word words = option_map_or (values_behind words) (shape_named shapes word) 0

-- the values of the first option of this word, where so many words are passed over before
abbrev pub values_after : List OptionShape → List ℕ → ℕ → List (List ℕ) → Option (List (List ℕ))
values_after shapes wanted passed [] = None
values_after shapes wanted (suc passed) (word ∷ words) = values_after shapes wanted passed words
values_after shapes wanted zero (word ∷ words) =
    if bytes_eq word wanted then Some (take (value_count shapes word words) words) else values_after shapes wanted (value_count shapes word words) words

abbrev pub values_of : List OptionShape → List ℕ → List (List ℕ) → Option (List (List ℕ))
values_of shapes wanted words = values_after shapes wanted 0 words

-- a word that names an option, which may be given again or is not given behind its values
abbrev pub is_option : List OptionShape → List ℕ → List (List ℕ) → Bool
is_option shapes word words =
    option_map_or (λ s. s.repeats || not (is_some (values_after shapes word (values_behind words s) words))) (shape_named shapes word) false

-- words that are options with all their values, where so many words are passed over before
abbrev pub options_after : List OptionShape → ℕ → List (List ℕ) → Bool
options_after shapes zero [] = true
options_after shapes (suc passed) [] = false
options_after shapes (suc passed) (word ∷ words) = options_after shapes passed words
options_after shapes zero (word ∷ words) = is_option shapes word words && options_after shapes (value_count shapes word words) words

abbrev pub are_options : List OptionShape → List (List ℕ) → Bool
are_options shapes words = options_after shapes 0 words

-- ---- values

-- a number, where the option is given
abbrev pub optional_number : Option (List (List ℕ)) → Option (Option ℕ)
optional_number None = Some None
optional_number (Some []) = None
optional_number (Some (word ∷ [])) = option_map (λ n. Some n) (number_of word)
optional_number (Some (word ∷ more ∷ words)) = None
