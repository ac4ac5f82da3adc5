-- The texts of fields, one after the other.
use Rattle.std.proofs.Common.{◌≡◌, ℕ, ◌+◌, ◌<◌, Bool, false, List, ◌∷◌, ◌++◌, length, get_or, drop, refl, ap, add-one, drop-cons}
use Rattle.std.specs.Prelude.{String, string_bytes}
use Rattle.std.specs.Global.{Global}
use Rattle.vx_data.specs.declared.dtype.DType.{DType}
use Rattle.vx_data.specs.Dtype.{dtype_view, pairs_view}
use Rattle.vx_data.specs.Texts.{comma, name_text, dtype_text, fields_text}

pub next_field : (first : Bool) (fs : List (String Global × DType)) (i : ℕ) (f : String Global × DType) → i < length fs → f ≡ get_or fs i f
    → fields_text first (pairs_view (drop i fs)) ≡ comma first ++ name_text (string_bytes f.0) ++ dtype_text (dtype_view f.1) ++ fields_text false (pairs_view (drop (i + 1) fs))
next_field first fs i f lt is =
    let next : drop i fs ≡ f ∷ drop (i + 1) fs = rw (add-one, drop-cons fs i f, ← is) refl in
    ap (λ xs. fields_text first (pairs_view xs)) next
