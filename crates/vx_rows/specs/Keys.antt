-- Integers of a type as numbers of 64 bits with a sign, in the same order.
use Rattle.std.specs.Prelude.{ℤ, pos, ◌+ℤ◌, ◌^◌}
use Rattle.vx_data.specs.declared.ptype.PType.{PType}
use Rattle.vx_data.specs.declared.ptype.PType.TheVariants.{U8, U16, U32, U64, I8, I16, I32, I64}

-- The integer that a key stands for. Most stand for themselves; those of U64 are moved by half of their range.
abbrev pub of_key : PType → ℤ → ℤ
of_key U8 key = key
of_key U16 key = key
of_key U32 key = key
of_key U64 key = key +ℤ pos (2 ^ 63)
of_key I8 key = key
of_key I16 key = key
of_key I32 key = key
of_key I64 key = key
