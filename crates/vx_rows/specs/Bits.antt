-- Truth values in a bitmap: row i is bit i % 8, from the lowest, of byte i / 8.
use Rattle.std.specs.Prelude.{◌∷◌, [], ℕ, ◌+◌, ◌*◌, ◌/◌, ◌%◌, ◌==◌, Bool, true, false, if◌then◌else◌, List, length, slice_index, slice_index_or, Option, Some, None}
use Rattle.std.specs.Int.{bit_at}
use Rattle.vx_rows.specs.Span.{span}

-- bit i of the bitmap at a byte
abbrev pub bit : List ℕ → ℕ → ℕ → Bool
bit bytes at i = bit_at (slice_index bytes (at + i / 8)) (i % 8) == 1

-- the eight bits of a byte, from the lowest on
abbrev pub byte_bits : ℕ → List Bool
byte_bits x = (bit_at x 0 == 1) ∷ (bit_at x 1 == 1) ∷ (bit_at x 2 == 1) ∷ (bit_at x 3 == 1)
    ∷ (bit_at x 4 == 1) ∷ (bit_at x 5 == 1) ∷ (bit_at x 6 == 1) ∷ (bit_at x 7 == 1) ∷ []

-- whether a row has a value; without a bitmap each has one
abbrev pub present_at : Option (List Bool) → ℕ → Bool
present_at None row = true
present_at (Some bits) row = slice_index_or bits row true

-- how many bytes a bitmap of so many rows has
abbrev pub bitmap_size : ℕ → ℕ
bitmap_size n = (n + 7) / 8

-- ---- a bitmap that is written

abbrev pub bit_value : List Bool → ℕ → ℕ
bit_value rows i = if slice_index_or rows i false then 1 else 0

-- byte k of the bitmap of rows
abbrev pub bitmap_byte : List Bool → ℕ → ℕ
bitmap_byte rows k = bit_value rows (8 * k) + 2 * bit_value rows (8 * k + 1) + 4 * bit_value rows (8 * k + 2) + 8 * bit_value rows (8 * k + 3)
    + 16 * bit_value rows (8 * k + 4) + 32 * bit_value rows (8 * k + 5) + 64 * bit_value rows (8 * k + 6) + 128 * bit_value rows (8 * k + 7)

abbrev pub bitmap : List Bool → List ℕ
bitmap rows = span (bitmap_byte rows) 0 (bitmap_size (length rows))
