-- The fields whose types are all known.
use Rattle.std.proofs.Common.{◌≡◌, true, false, List, [], ◌∷◌, length, map, Option, Some, None, refl, ap, arith}
use Rattle.std.specs.Prelude.{String, string_bytes, is_some}
use Rattle.std.specs.Global.{Global}
use Rattle.std.specs.List.{list_all, flat_map, zip}
use Rattle.std.specs.Option.{option_map, option_to_list}
use Rattle.vx_data.specs.declared.dtype.DType.{DType}
use Rattle.vx_data.specs.Dtype.{FieldList, dtype_view, pairs_view}
use Rattle.vx_data.specs.DtypeTable.{with_field, known_fields}

pub known_zipped : (ns : List (String Global)) (ds : List (Option DType)) → length ns ≡ length ds → list_all (λ d. is_some d) ds ≡ true
    → known_fields (map string_bytes ns) (map (option_map dtype_view) ds) ≡ Some (pairs_view (zip ns (flat_map option_to_list ds)))
known_zipped [] ds same all = refl
known_zipped (n ∷ ns) [] same all = absurd (omega (arith, same))
known_zipped (n ∷ ns) (None ∷ ds) same all = cc
known_zipped (n ∷ ns) (Some d ∷ ds) same all = ap (with_field (string_bytes n) (Some (dtype_view d))) (known_zipped ns ds (omega (arith, same)) all)

pub known_not : (ns : List (String Global)) (ds : List (Option DType)) → length ns ≡ length ds → list_all (λ d. is_some d) ds ≡ false
    → let none : Option FieldList = None in known_fields (map string_bytes ns) (map (option_map dtype_view) ds) ≡ none
known_not [] [] same some = cc
known_not [] (d ∷ ds) same some = absurd (omega (arith, same))
known_not (n ∷ ns) [] same some = absurd (omega (arith, same))
known_not (n ∷ ns) (None ∷ ds) same some = refl
known_not (n ∷ ns) (Some d ∷ ds) same some = ap (with_field (string_bytes n) (Some (dtype_view d))) (known_not ns ds (omega (arith, same)) some)
