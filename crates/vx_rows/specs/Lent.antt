-- What is lent out, as plain data.
use Rattle.std.specs.Prelude.{ℕ, Option}
use Rattle.std.specs.Option.{option_map}
use Rattle.std.specs.Borrow.{Bor}
use Rattle.vx_data.specs.declared.dtype.DType.{DType}
use Rattle.vx_data.specs.Dtype.{Dtype, dtype_view}

abbrev pub lent_place : Option (ℕ × Bor DType) → Option (ℕ × Dtype)
lent_place p = option_map (λ x. (x.0, dtype_view x.1.now)) p

abbrev pub lent_type : Option (Bor DType) → Option Dtype
lent_type d = option_map (λ x. dtype_view x.now) d
