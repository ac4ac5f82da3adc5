use Rattle.std.proofs.Common.{◌≡◌, true, false, sym}
use Rattle.std.specs.Prelude.{is_some}
use Rattle.std.specs.List.{list_all}
use Rattle.vx_data.proofs.Known.{known_zipped, known_not}
use Rattle.vx_data.proofs.dtype_parts.fields_of.Goals as goal

pub returns-then-not-are_known : goal.returns-then-not-are_known
returns-then-not-are_known c =
    let some : list_all (λ d. is_some d) c.args.dtypes.items ≡ false = cc in
    sym (known_not _ _ c.requires some)

pub returns : goal.returns
returns c =
    let all : list_all (λ d. is_some d) c.args.dtypes.items ≡ true = cc in
    rw (c.in_ok-zipped.ensures, c.in_ok-known.ensures) (sym (known_zipped _ _ c.requires all))
