-- Bytes in lower case hexadecimal digits.
use Rattle.std.specs.Prelude.{ℕ, List, [], ◌∷◌}
use Rattle.hex.specs.Hex.{encode_lower}

-- two digits for each byte, and `-` for none
abbrev pub hex_text : List ℕ → List ℕ
hex_text [] = 45 ∷ []
hex_text (byte ∷ bytes) = encode_lower (byte ∷ bytes)
