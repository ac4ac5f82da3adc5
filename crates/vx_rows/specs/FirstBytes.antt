-- The first bytes of a text as a number.
use Rattle.std.specs.Prelude.{ℕ, List, [], ◌∷◌, slice_index_or}
use Rattle.std.specs.Int.{w32, from_be_bytes}

-- the first four bytes of a text as one number, in which those that it lacks are 0
abbrev pub first_four : List ℕ → ℕ
first_four text = from_be_bytes w32 (slice_index_or text 0 0 ∷ slice_index_or text 1 0 ∷ slice_index_or text 2 0 ∷ slice_index_or text 3 0 ∷ [])
