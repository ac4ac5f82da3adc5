-- The type that a word spells.
use Rattle.std.proofs.Common.{◌≡◌, Option, Some, None, Ok, Err, refl}
use Rattle.std.specs.Option.{option_map}
use Rattle.vx_base.specs.Checks.{◌lacking◌}
use Rattle.vx_data.specs.Dtype.{Dtype}
use Rattle.vx_data.specs.declared.text_error.TextError.TheVariants.{BadText}

pub spelled : (o : Option Dtype) (d : Dtype) → BadText lacking o ≡ Ok d → option_map (λ x. Some x) o ≡ Some (Some d)
spelled None d h = cc
spelled (Some x) d h = cc

pub not_spelled : (o : Option Dtype) → BadText lacking o ≡ Err BadText → option_map (λ x. Some x) o ≡ None
not_spelled None h = refl
not_spelled (Some x) h = cc
