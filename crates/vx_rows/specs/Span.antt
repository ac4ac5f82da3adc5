-- A run of values of a function.
use Rattle.std.specs.Prelude.{ℕ, zero, suc, ◌+◌, Bool, true, ◌&&◌, List, [], ◌∷◌}

-- f k, f (k + 1) and so on, so many of them
abbrev pub span : {A : Type 0} → (ℕ → A) → ℕ → ℕ → List A
span f k zero = []
span f k (suc n) = f k ∷ span f (k + 1) n

-- a test holds at k, k + 1 and so on, so many times
abbrev pub every : (ℕ → Bool) → ℕ → ℕ → Bool
every f k zero = true
every f k (suc n) = f k && every f (k + 1) n
