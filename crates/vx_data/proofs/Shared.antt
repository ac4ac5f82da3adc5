-- Fields that are shared one after the other.
use Rattle.std.proofs.Common.{◌≡◌, ℕ, ◌+◌, ◌<◌, List, [], ◌∷◌, ◌++◌, length, get_or, drop, refl, sym, ap, ◌∙◌, append_assoc, add-one, drop-cons}
use Rattle.std.specs.Prelude.{String, string_bytes}
use Rattle.std.specs.Global.{Global}
use Rattle.vx_data.specs.declared.dtype.DType.{DType}
use Rattle.vx_data.specs.Dtype.{field, dtype_view, pairs_view}

pairs_same : (made rest : List (String Global × DType)) (x y : String Global × DType) → string_bytes x.0 ≡ string_bytes y.0 → dtype_view x.1 ≡ dtype_view y.1 → pairs_view (made ++ x ∷ rest) ≡ pairs_view (made ++ y ∷ rest)
pairs_same [] rest x y name dtype = ap (λ n. field n (dtype_view x.1) (pairs_view rest)) name ∙ ap (λ d. field (string_bytes y.0) d (pairs_view rest)) dtype
pairs_same (m ∷ ms) rest x y name dtype = ap (field (string_bytes m.0) (dtype_view m.1)) (pairs_same ms rest x y name dtype)

pub one_shared : (made fs : List (String Global × DType)) (i : ℕ) (x y : String Global × DType) → i < length fs → y ≡ get_or fs i y → string_bytes x.0 ≡ string_bytes y.0 → dtype_view x.1 ≡ dtype_view y.1
    → pairs_view ((made ++ x ∷ []) ++ drop (i + 1) fs) ≡ pairs_view (made ++ drop i fs)
one_shared made fs i x y lt is name dtype =
    let next : drop i fs ≡ y ∷ drop (i + 1) fs = rw (add-one, drop-cons fs i y, ← is) refl in
    ap pairs_view (append_assoc made (x ∷ []) (drop (i + 1) fs)) ∙ pairs_same made (drop (i + 1) fs) x y name dtype ∙ ap (λ r. pairs_view (made ++ r)) (sym next)
