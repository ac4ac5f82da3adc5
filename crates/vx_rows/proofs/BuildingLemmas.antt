-- Columns of fields that grow, one after the other.
use Rattle.std.proofs.Common.{◌≡◌, ℕ, ◌+◌, ◌<◌, ◌≤◌, List, [], ◌∷◌, ◌++◌, length, get_or, set, take, drop, refl, ap, sym, ◌∙◌, add-one, drop-cons, arith}
use Rattle.std.specs.Prelude.{String, string_bytes}
use Rattle.std.specs.Global.{Global}
use Rattle.std.proofs.lemmas.List.{take_more_set, take_all, drop-set-lt, drop_all}
use Rattle.vx_data.specs.declared.dtype.DType.{DType}
use Rattle.vx_data.specs.Dtype.{dtype_view, pairs_view as types_view}
use Rattle.vx_rows.specs.declared.builder.Builder.{Builder}
use Rattle.vx_rows.specs.Rows.{Rows, FieldRows, no_columns, column}
use Rattle.vx_rows.specs.Trees.{before}
use Rattle.vx_rows.specs.ReadRows.{absent, all_absent, no_rows, no_rows_each}
use Rattle.vx_rows.specs.Builders.{builder_view, built, pairs_view}
use Rattle.vx_rows.proofs.TreeLemmas.{next, before-more, before-none}

abbrev pub Field : Type 0
Field = String Global × Builder

built-more : (made : List Field) (x : Field) → built (made ++ x ∷ []) ≡ built made ++ (x.0, builder_view x.1) ∷ []
built-more [] x = refl
built-more (y ∷ made) x = ap (λ (xs : List (String Global × Rows)). (y.0, builder_view y.1) ∷ xs) (built-more made x)

-- one more field
pub before_built : (made : List Field) (x : Field) (cs : FieldRows) → before (built (made ++ x ∷ [])) cs ≡ before (built made) (column (string_bytes x.0) (builder_view x.1) cs)
before_built made x cs =
    ap (λ (xs : List (String Global × Rows)). before xs cs) (built-more made x) ∙ before-more (built made) (x.0, builder_view x.1) cs

pub built_end : (made : List Field) → before (built made) no_columns ≡ pairs_view made
built_end made = before-none (built made)

next-field : (bs : List Field) (i : ℕ) (b : Field) → i < length bs → b ≡ get_or bs i b → drop i bs ≡ b ∷ drop (i + 1) bs
next-field bs i b lt is = rw (add-one, drop-cons bs i b, ← is) refl

-- ---- columns without rows

pub begun_more : (fs : List (String Global × DType)) (i : ℕ) (f : String Global × DType) (made made' : List Field) (name : String Global) (b : Builder) → i < length fs → f ≡ get_or fs i f
    → made' ≡ made ++ (name, b) ∷ [] → string_bytes name ≡ string_bytes f.0 → builder_view b ≡ no_rows (dtype_view f.1)
    → before (built made') (no_rows_each (types_view (drop (i + 1) fs))) ≡ before (built made) (no_rows_each (types_view (drop i fs)))
begun_more fs i f made made' name b lt is more same empty =
    ap (λ (xs : List Field). before (built xs) (no_rows_each (types_view (drop (i + 1) fs)))) more
    ∙ before_built made (name, b) (no_rows_each (types_view (drop (i + 1) fs)))
    ∙ ap (λ bytes. before (built made) (column bytes (builder_view b) (no_rows_each (types_view (drop (i + 1) fs))))) same
    ∙ ap (λ (c : Rows). before (built made) (column (string_bytes f.0) c (no_rows_each (types_view (drop (i + 1) fs))))) empty
    ∙ sym (ap (λ (xs : List (String Global × DType)). before (built made) (no_rows_each (types_view xs))) (next fs i f lt is))

-- ---- a row in a struct that is null

pub absent_more : (bs : List Field) (i : ℕ) (b : Field) (c : Builder) → i < length bs → b ≡ get_or bs i b → builder_view c ≡ absent (builder_view b.1)
    → before (built (take (i + 1) (set bs i (b.0, c)))) (all_absent (pairs_view (drop (i + 1) (set bs i (b.0, c))))) ≡ before (built (take i bs)) (all_absent (pairs_view (drop i bs)))
absent_more bs i b c lt is row =
    ap (λ (xs : List Field). before (built xs) (all_absent (pairs_view (drop (i + 1) (set bs i (b.0, c)))))) (take_more_set bs i (b.0, c) lt)
    ∙ before_built (take i bs) (b.0, c) (all_absent (pairs_view (drop (i + 1) (set bs i (b.0, c)))))
    ∙ ap (λ (xs : List Field). before (built (take i bs)) (column (string_bytes b.0) (builder_view c) (all_absent (pairs_view xs)))) (drop-set-lt (i + 1) bs i (b.0, c) (omega arith))
    ∙ ap (λ (x : Rows). before (built (take i bs)) (column (string_bytes b.0) x (all_absent (pairs_view (drop (i + 1) bs))))) row
    ∙ sym (ap (λ (xs : List Field). before (built (take i bs)) (all_absent (pairs_view xs))) (next-field bs i b lt is))

pub absent_end : (bs : List Field) (i : ℕ) → length bs ≤ i → before (built (take i bs)) (all_absent (pairs_view (drop i bs))) ≡ pairs_view bs
absent_end bs i l =
    ap (λ (xs : List Field). before (built xs) (all_absent (pairs_view (drop i bs)))) (take_all i bs l)
    ∙ ap (λ (xs : List Field). before (built bs) (all_absent (pairs_view xs))) (drop_all i bs l) ∙ built_end bs

pub begun_end : (fs : List (String Global × DType)) (i : ℕ) (made : List Field) → length fs ≤ i → before (built made) (no_rows_each (types_view (drop i fs))) ≡ pairs_view made
begun_end fs i made l = ap (λ (xs : List (String Global × DType)). before (built made) (no_rows_each (types_view xs))) (drop_all i fs l) ∙ built_end made
