-- Rows of a mask that have one truth value.
use Rattle.std.proofs.Common.{◌≡◌, ℕ, ◌<◌, ◌≤◌, Bool, true, List, ◌⊎◌, inl, inr}
use Rattle.std.specs.Prelude.{slice_index_or}
use Rattle.std.proofs.lemmas.Bool.{cases_lt}

-- the rows from one on, up to another, have a truth value
abbrev pub AreValues : List Bool → Bool → ℕ → ℕ → Type 0
AreValues bits value from to = (k : ℕ) → from ≤ k → k < to → slice_index_or bits k true ≡ value

pub values_then : (bits : List Bool) (value : Bool) (from at to : ℕ) → AreValues bits value from at → AreValues bits value at to → AreValues bits value from to
values_then bits value from at to front behind = λ k least less. by k least less (cases_lt k at)
  where
    by : (k : ℕ) → from ≤ k → k < to → (k < at) ⊎ (at ≤ k) → slice_index_or bits k true ≡ value
    by k least less (inl l) = front k least l
    by k least less (inr g) = behind k g less
