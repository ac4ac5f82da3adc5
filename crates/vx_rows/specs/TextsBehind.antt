-- Texts whose bytes and places come behind those of others.
use Rattle.std.specs.Prelude.{◌≡◌, ℕ, ◌+◌, ◌-◌, ◌<◌, List, length, slice_index, slice_index_or, slice_range, Option, Some, None}
use Rattle.vx_rows.specs.Columns.{AreRanges, AreTexts}

-- how far the place of a row is from the next
abbrev pub length_from : List ℕ → ℕ → ℕ
length_from places row = slice_index places (row + 1) - slice_index places row

-- the place behind a row, where the first of the rows comes at a place
abbrev pub end_from : List ℕ → ℕ → ℕ → ℕ
end_from places start row = start + (slice_index places (row + 1) - slice_index places 0)

-- Behind n texts come these rows: the texts before them are as they were, and each row that has a text has it there.
pub record ComeBehind (rows : List (Option (List ℕ))) (n : ℕ) (bytes places bytes_now places_now : List ℕ) : Type 0 where
  pub count : ℕ
  pub many : length rows ≡ count
  pub long : length places_now ≡ n + count + 1
  pub last : slice_index places_now (n + count) ≡ length bytes_now
  pub ranges : AreRanges bytes_now places_now (n + count)
  pub texts : AreTexts bytes_now places_now (n + count)
  pub before : (i : ℕ) → i < n → slice_range bytes_now (slice_index places_now i) (slice_index places_now (i + 1)) ≡ slice_range bytes (slice_index places i) (slice_index places (i + 1))
  pub behind : (i : ℕ) (t : List ℕ) → i < count → slice_index_or rows i None ≡ Some t
      → slice_range bytes_now (slice_index places_now (n + i)) (slice_index places_now (n + i + 1)) ≡ t
