-- Lines of words and numbers.
use Rattle.std.specs.Prelude.{ℕ, ◌+◌, List, [], ◌∷◌, ◌++◌, decimal}
use Rattle.std.specs.List.{flat_map}

-- a word, and numbers behind it, each after a space
abbrev pub numbers_after : List ℕ → List ℕ
numbers_after ns = flat_map (λ n. 32 ∷ decimal n) ns

abbrev pub words : List ℕ → List ℕ → List ℕ
words head ns = head ++ numbers_after ns

abbrev pub line : List ℕ → List ℕ → List ℕ
line head ns = words head ns ++ 10 ∷ []

-- the texts of a list, each by its place
abbrev pub numbered : {A : Type 0} → (ℕ → A → List ℕ) → ℕ → List A → List ℕ
numbered text i [] = []
numbered text i (x ∷ xs) = text i x ++ numbered text (i + 1) xs
