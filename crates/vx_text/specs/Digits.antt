-- The digits of a number, two and four at a time, and how they are put into cells.
use Rattle.std.specs.Prelude.{◌≡◌, ℕ, ◌+◌, ◌/◌, ◌%◌, List, [], ◌∷◌, ◌++◌, take}

abbrev pub pair_text : ℕ → List ℕ
pair_text pair = (48 + pair / 10) ∷ (48 + pair % 10) ∷ []

abbrev pub four_text : ℕ → List ℕ
four_text number = pair_text (number / 100) ++ pair_text (number % 100)

-- these bytes were put behind those at the front of cells, which end here
pub record Puts (bytes : List ℕ) (end : ℕ) (cells : List ℕ) (end_now : ℕ) (cells_now : List ℕ) : Type 0 where
  pub text : take end_now cells_now ≡ take end cells ++ bytes
