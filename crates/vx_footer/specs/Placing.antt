-- Bytes at multiples of an alignment.
use Rattle.std.specs.Prelude.{ℕ, ◌-◌, ◌%◌, ◌^◌}

-- how many zeros lead from an offset to the next multiple of 2 ^ exponent
abbrev pub padding : ℕ → ℕ → ℕ
padding exponent offset = (2 ^ exponent - offset % 2 ^ exponent) % 2 ^ exponent
