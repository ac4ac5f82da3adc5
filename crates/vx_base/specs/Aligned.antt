-- Offsets and alignments.
use Rattle.std.specs.Prelude.{ℕ, ◌-◌, ◌%◌, ◌^◌}

-- the greatest multiple of `2 ^ exponent` at or below an offset
abbrev pub align_down : ℕ → ℕ → ℕ
align_down exponent offset = offset - offset % 2 ^ exponent
