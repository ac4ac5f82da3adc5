-- The types of fields, one after the other.
use Rattle.std.proofs.Common.{◌≡◌, ℕ, ◌+◌, ◌<◌, List, [], ◌∷◌, ◌++◌, length, get_or, drop, refl, ap, sym, ◌∙◌, add-one, drop-cons}
use Rattle.std.specs.Prelude.{String, string_bytes}
use Rattle.std.specs.Global.{Global}
use Rattle.vx_data.specs.declared.dtype.DType.{DType}
use Rattle.vx_data.specs.Dtype.{FieldList, no_fields, field, dtype_view, pairs_view as types_view}
use Rattle.vx_rows.specs.declared.column.Column.{Column}
use Rattle.vx_rows.specs.Rows.{column_view, pairs_view, dtype_of, types_of}

-- types made so far, before others
abbrev pub before_types : List (String Global × DType) → FieldList → FieldList
before_types [] fs = fs
before_types (t ∷ ts) fs = field (string_bytes t.0) (dtype_view t.1) (before_types ts fs)

before-more : (made : List (String Global × DType)) (x : String Global × DType) (fs : FieldList) → before_types (made ++ x ∷ []) fs ≡ before_types made (field (string_bytes x.0) (dtype_view x.1) fs)
before-more [] x fs = refl
before-more (y ∷ made) x fs = ap (field (string_bytes y.0) (dtype_view y.1)) (before-more made x fs)

pub before_none : (made : List (String Global × DType)) → before_types made no_fields ≡ types_view made
before_none [] = refl
before_none (y ∷ made) = ap (field (string_bytes y.0) (dtype_view y.1)) (before_none made)

-- one more type
pub next_type : (cs : List (String Global × Column)) (i : ℕ) (c : String Global × Column) (made made' : List (String Global × DType)) (name : String Global) (d : DType) → i < length cs → c ≡ get_or cs i c
    → made' ≡ made ++ (name, d) ∷ [] → string_bytes name ≡ string_bytes c.0 → dtype_view d ≡ dtype_of (column_view c.1)
    → before_types made' (types_of (pairs_view (drop (i + 1) cs))) ≡ before_types made (types_of (pairs_view (drop i cs)))
next_type cs i c made made' name d lt is more same type =
    let next : drop i cs ≡ c ∷ drop (i + 1) cs = rw (add-one, drop-cons cs i c, ← is) refl in
    ap (λ (ts : List (String Global × DType)). before_types ts (types_of (pairs_view (drop (i + 1) cs)))) more
    ∙ before-more made (name, d) (types_of (pairs_view (drop (i + 1) cs)))
    ∙ ap (λ bytes. before_types made (field bytes (dtype_view d) (types_of (pairs_view (drop (i + 1) cs))))) same
    ∙ ap (λ t. before_types made (field (string_bytes c.0) t (types_of (pairs_view (drop (i + 1) cs))))) type
    ∙ sym (ap (λ (xs : List (String Global × Column)). before_types made (types_of (pairs_view xs))) next)
