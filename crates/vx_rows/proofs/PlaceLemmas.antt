-- Fields by their names, one after the other.
use Rattle.std.proofs.Common.{◌≡◌, ℕ, ◌+◌, ◌<◌, List, ◌∷◌, length, get_or, drop, refl, ap, ◌∙◌, add-one, drop-cons}
use Rattle.std.specs.Prelude.{String, string_bytes, map, if◌then◌else◌, Some, None}
use Rattle.std.specs.Str.{bytes_eq}
use Rattle.std.specs.Global.{Global}
use Rattle.vx_data.specs.declared.dtype.DType.{DType}
use Rattle.vx_data.specs.Dtype.{Dtype, dtype_view, pairs_view}
use Rattle.vx_rows.specs.Binding.{place_from, place, with_place, type_at}

pub next_place : (name : List ℕ) (fs : List (String Global × DType)) (i : ℕ) (f : String Global × DType) → i < length fs → f ≡ get_or fs i f
    → place_from i name (pairs_view (drop i fs)) ≡ (if bytes_eq (string_bytes f.0) name then Some (i, dtype_view f.1) else place_from (i + 1) name (pairs_view (drop (i + 1) fs)))
next_place name fs i f lt is =
    let next : drop i fs ≡ f ∷ drop (i + 1) fs = rw (add-one, drop-cons fs i f, ← is) refl in
    ap (λ xs. place_from i name (pairs_view xs)) next

pub next_name : (names : List (String Global)) (i : ℕ) (n : String Global) → i < length names → n ≡ get_or names i n
    → map string_bytes (drop i names) ≡ string_bytes n ∷ map string_bytes (drop (i + 1) names)
next_name names i n lt is =
    let next : drop i names ≡ n ∷ drop (i + 1) names = rw (add-one, drop-cons names i n, ← is) refl in
    ap (λ xs. map string_bytes xs) next

-- one name further, or no field of that name
pub type_on : (names : List (String Global)) (i : ℕ) (n : String Global) (d : Dtype) (k : ℕ) (e : Dtype) → i < length names → n ≡ get_or names i n → place (string_bytes n) d ≡ Some (k, e)
    → type_at (map string_bytes (drop i names)) d ≡ type_at (map string_bytes (drop (i + 1) names)) e
type_on names i n d k e lt is here =
    ap (λ ns. type_at ns d) (next_name names i n lt is) ∙ ap (λ p. with_place p None (λ _ e. type_at (map string_bytes (drop (i + 1) names)) e)) here

pub type_off : (names : List (String Global)) (i : ℕ) (n : String Global) (d : Dtype) → i < length names → n ≡ get_or names i n → place (string_bytes n) d ≡ None
    → type_at (map string_bytes (drop i names)) d ≡ None
type_off names i n d lt is here =
    ap (λ ns. type_at ns d) (next_name names i n lt is) ∙ ap (λ p. with_place p None (λ _ e. type_at (map string_bytes (drop (i + 1) names)) e)) here
