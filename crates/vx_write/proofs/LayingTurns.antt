-- The layouts of fields, one after the other.
use Rattle.std.proofs.Common.{◌≡◌, ℕ, ◌+◌, ◌-◌, ◌<◌, ◌≤◌, List, [], ◌∷◌, ◌++◌, length, drop, get_or, refl, sym, ap, subst, ◌∙◌, arith, add-one, drop-cons, length-drop, append_assoc, inl, inr}
use Rattle.std.specs.Prelude.{String, string_bytes, Option, Some, None}
use Rattle.std.specs.Global.{Global}
use Rattle.std.proofs.lemmas.Bool.{cases_lt}
use Rattle.std.proofs.lemmas.List.{drop_all, drop-drop}
use Rattle.vx_data.specs.declared.dtype.DType.{DType}
use Rattle.vx_data.specs.Dtype.{Dtype, dtype_view, pairs_view}
use Rattle.vx_data.specs.Layout.{LayoutTree}
use Rattle.vx_rows.specs.Trees.{type_size, fields_size}
use Rattle.vx_write.specs.declared.plan.Plan.{Plan}
use Rattle.vx_write.specs.declared.strategy.LeafStrategy.{LeafStrategy}
use Rattle.vx_write.specs.Plans.{plan_view, plans_view, IsFor, AreFor}
use Rattle.vx_write.specs.Laying.{Groups, leaf_count, leaves_count, laid_out, all_laid_out, with_validity, AreFull}
use Rattle.vx_write.proofs.LayingLemmas.{full_drop}

next : {A : Type 0} → (xs : List A) (i : ℕ) (x : A) → i < length xs → x ≡ get_or xs i x → drop i xs ≡ x ∷ drop (i + 1) xs
next xs i x lt is = rw (add-one, drop-cons xs i x, ← is) refl

pub field_inside : (ps : List Plan) (fs : List (String Global × DType)) (i : ℕ) (p : Plan) → i < length ps → p ≡ get_or ps i p → AreFor (plans_view (drop i ps)) (pairs_view (drop i fs)) → i < length fs
field_inside ps fs i p lt is fit = elim (cases_lt i (length fs)) [
  | inl less ↦ less
  | inr more ↦ absurd (subst (λ xs. AreFor (plans_view (p ∷ drop (i + 1) ps)) (pairs_view xs)) (drop_all i fs more) (subst (λ xs. AreFor (plans_view xs) (pairs_view (drop i fs))) (next ps i p lt is) fit))
]

pub field_for : (ps : List Plan) (fs : List (String Global × DType)) (i : ℕ) (p : Plan) (f : String Global × DType) → i < length ps → p ≡ get_or ps i p → i < length fs → f ≡ get_or fs i f
    → AreFor (plans_view (drop i ps)) (pairs_view (drop i fs)) → IsFor (plan_view p) (dtype_view f.1) × AreFor (plans_view (drop (i + 1) ps)) (pairs_view (drop (i + 1) fs))
field_for ps fs i p f lt is less same fit =
    subst (λ xs. AreFor (plans_view (p ∷ drop (i + 1) ps)) (pairs_view xs)) (next fs i f less same) (subst (λ xs. AreFor (plans_view xs) (pairs_view (drop i fs))) (next ps i p lt is) fit)

pub field_count : (ps : List Plan) (i : ℕ) (p : Plan) → i < length ps → p ≡ get_or ps i p → leaves_count (plans_view (drop i ps)) ≡ leaf_count (plan_view p) + leaves_count (plans_view (drop (i + 1) ps))
field_count ps i p lt is = ap (λ xs. leaves_count (plans_view xs)) (next ps i p lt is)

pub field_size : (fs : List (String Global × DType)) (i : ℕ) (f : String Global × DType) → i < length fs → f ≡ get_or fs i f → fields_size (pairs_view (drop i fs)) ≡ type_size (dtype_view f.1) + fields_size (pairs_view (drop (i + 1) fs))
field_size fs i f lt is = ap (λ xs. fields_size (pairs_view xs)) (next fs i f lt is)

-- the layouts so far, and with one more
pub field_laid : (ps : List Plan) (fs : List (String Global × DType)) (i : ℕ) (p : Plan) (f : String Global × DType) (n at count : ℕ) (gs : Groups) (made : List LayoutTree) (t : LayoutTree)
    → i < length ps → p ≡ get_or ps i p → i < length fs → f ≡ get_or fs i f → count ≡ leaf_count (plan_view p) → t ≡ laid_out (plan_view p) (dtype_view f.1) n (drop at gs)
    → (made ++ t ∷ []) ++ all_laid_out (plans_view (drop (i + 1) ps)) (pairs_view (drop (i + 1) fs)) n (drop (at + count) gs)
    ≡ made ++ all_laid_out (plans_view (drop i ps)) (pairs_view (drop i fs)) n (drop at gs)
field_laid ps fs i p f n at count gs made t lt is less same many laid =
    let rest = all_laid_out (plans_view (drop (i + 1) ps)) (pairs_view (drop (i + 1) fs)) n in
    append_assoc made (t ∷ []) (rest (drop (at + count) gs))
    ∙ ap (λ hs. made ++ t ∷ rest hs) (sym (drop-drop count at gs))
    ∙ ap (λ k. made ++ t ∷ rest (drop k (drop at gs))) many
    ∙ ap (λ x. made ++ x ∷ rest (drop (leaf_count (plan_view p)) (drop at gs))) laid
    ∙ sym (ap (λ xs. made ++ all_laid_out (plans_view xs) (pairs_view (drop i fs)) n (drop at gs)) (next ps i p lt is)
    ∙ ap (λ xs. made ++ all_laid_out (plans_view (p ∷ drop (i + 1) ps)) (pairs_view xs) n (drop at gs)) (next fs i f less same))

pub with_append : (v : Option LeafStrategy) (gs : Groups) (ts : List LayoutTree) → with_validity v gs [] ++ ts ≡ with_validity v gs ts
with_append None gs ts = refl
with_append (Some s) gs ts = refl

pub ruleset field_steps = (field_inside, field_for, field_count, field_size, field_laid, full_drop, length-drop)
