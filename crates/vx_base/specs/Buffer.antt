-- What contracts see of a byte buffer, and parts of a list of bytes.
use Rattle.std.specs.Prelude.{ℕ, List, take, drop}

-- bytes, and the exponent of the alignment that they claim
pub record Buffer : Type 0 where
  pub bytes : List ℕ
  pub alignment : ℕ

-- the `size` bytes from `offset`, fewer where the list ends before
abbrev pub bytes_at : List ℕ → ℕ → ℕ → List ℕ
bytes_at bytes offset size = take size (drop offset bytes)
