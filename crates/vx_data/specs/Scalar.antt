-- One value of a column, as plain data, and its text.
use Rattle.std.specs.Prelude.{ℕ, ℤ, Bool, true, false, List, codes, string_bytes}
use Rattle.std.specs.Fmt.{signed_decimal}
use Rattle.vx_data.specs.declared.scalar.Scalar.{Scalar}
use Rattle.vx_data.specs.declared.scalar.Scalar.TheVariants as variant
use Rattle.vx_data.specs.Texts.{quoted}

pub data Value : Type 0 where
  flag : Bool → Value
  number : ℤ → Value
  words : List ℕ → Value

abbrev pub scalar_view : Scalar → Value
scalar_view (variant.Bool b) = flag b
scalar_view (variant.Int n) = number n
scalar_view (variant.Text t) = words (string_bytes t)

abbrev pub scalar_text : Value → List ℕ
scalar_text (flag true) = codes "true"
scalar_text (flag false) = codes "false"
scalar_text (number n) = signed_decimal n
scalar_text (words t) = quoted t
