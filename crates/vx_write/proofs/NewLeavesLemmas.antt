-- The leaves of fields, one after the other.
use Rattle.std.proofs.Common.{◌≡◌, ℕ, zero, suc, ◌+◌, ◌<◌, ◌≤◌, List, [], ◌∷◌, ◌++◌, length, get_or, drop, drop-cons, Option, refl, ap, ap₂, sym, ◌∙◌, subst, arith, append_assoc, Bool}
use Rattle.std.specs.Prelude.{String}
use Rattle.std.specs.Global.{Global}
use Rattle.std.proofs.lemmas.List.{drop_all, append-nil}
use Rattle.vx_data.specs.Dtype.{FieldList, struct, dtype_view, pairs_view}
use Rattle.vx_data.specs.declared.dtype.DType.{DType}
use Rattle.vx_write.specs.declared.strategy.LeafStrategy.{LeafStrategy}
use Rattle.vx_write.specs.declared.plan.Plan.{Plan}
use Rattle.vx_write.specs.Leaves.{Leaf}
use Rattle.vx_write.specs.Plans.{PlanList, a_struct, plan_view, plans_view, IsFor, AreFor, leaves_of, leaves_in, validity_leaves}

next_plan : (ps : List Plan) (i : ℕ) (p : Plan) → i < length ps → p ≡ get_or ps i p → drop i ps ≡ p ∷ drop (i + 1) ps
next_plan ps i p h e = let one : i + 1 ≡ suc i = omega arith in drop-cons ps i p h ∙ ap (λ x. x ∷ drop (suc i) ps) (sym e) ∙ ap (λ n. p ∷ drop n ps) (sym one)

next_type : (fs : List (String Global × DType)) (i : ℕ) (f : String Global × DType) → i < length fs → f ≡ get_or fs i f → drop i fs ≡ f ∷ drop (i + 1) fs
next_type fs i f h e = let one : i + 1 ≡ suc i = omega arith in drop-cons fs i f h ∙ ap (λ x. x ∷ drop (suc i) fs) (sym e) ∙ ap (λ n. f ∷ drop n fs) (sym one)

pub as_many_types : (ps : List Plan) (fs : List (String Global × DType)) → AreFor (plans_view ps) (pairs_view fs) → length ps ≡ length fs
as_many_types [] [] f = refl
as_many_types [] (c ∷ cs) f = absurd f
as_many_types (p ∷ ps) [] f = absurd f
as_many_types (p ∷ ps) (c ∷ cs) f = ap suc (as_many_types ps cs f.1)

pub is_for_at : (ps : List Plan) (fs : List (String Global × DType)) (i : ℕ) (p : Plan) (f : String Global × DType) → AreFor (plans_view ps) (pairs_view fs)
    → i < length ps → p ≡ get_or ps i p → i < length fs → f ≡ get_or fs i f → IsFor (plan_view p) (dtype_view f.1)
is_for_at [] fs i p c f l e m g = absurd (omega (arith, l))
is_for_at (q ∷ ps) [] i p c f l e m g = absurd f
is_for_at (q ∷ ps) (d ∷ fs) zero p c f l e m g =
    subst (λ (x : String Global × DType). IsFor (plan_view p) (dtype_view x.1)) (sym g) (subst (λ (x : Plan). IsFor (plan_view x) (dtype_view d.1)) (sym e) f.0)
is_for_at (q ∷ ps) (d ∷ fs) (suc i) p c f l e m g = is_for_at ps fs i p c f.1 (omega (arith, l)) e (omega (arith, m)) g

pub leaves_more : (ps : List Plan) (fs : List (String Global × DType)) (i : ℕ) (p : Plan) (f : String Global × DType) (made made' : List Leaf)
    → i < length ps → p ≡ get_or ps i p → i < length fs → f ≡ get_or fs i f → made' ≡ made ++ leaves_of (plan_view p) (dtype_view f.1)
    → made' ++ leaves_in (plans_view (drop (i + 1) ps)) (pairs_view (drop (i + 1) fs)) ≡ made ++ leaves_in (plans_view (drop i ps)) (pairs_view (drop i fs))
leaves_more ps fs i p f made made' l e m g more =
    ap (λ xs. xs ++ leaves_in (plans_view (drop (i + 1) ps)) (pairs_view (drop (i + 1) fs))) more
    ∙ append_assoc made (leaves_of (plan_view p) (dtype_view f.1)) (leaves_in (plans_view (drop (i + 1) ps)) (pairs_view (drop (i + 1) fs)))
    ∙ sym (ap₂ (λ (x : List Plan) (y : List (String Global × DType)). made ++ leaves_in (plans_view x) (pairs_view y)) (next_plan ps i p l e) (next_type fs i f m g))

pub leaves_end : (ps : List Plan) (fs : FieldList) (i : ℕ) (made : List Leaf) → length ps ≤ i → made ++ leaves_in (plans_view (drop i ps)) fs ≡ made
leaves_end ps fs i made l = ap (λ (x : List Plan). made ++ leaves_in (plans_view x) fs) (drop_all i ps l) ∙ append-nil made

-- the leaves of a struct
pub struct_leaves : (validity : Option LeafStrategy) (ps qs : PlanList) (fs gs : FieldList) (nullable : Bool) (before more all : List Leaf) → qs ≡ ps → gs ≡ fs → more ≡ before ++ validity_leaves validity → all ≡ more ++ leaves_in qs gs
    → all ≡ before ++ leaves_of (a_struct validity ps) (struct fs nullable)
struct_leaves validity ps qs fs gs nullable before more all e f first second =
    second ∙ ap₂ (λ x y. x ++ leaves_in y gs) first e ∙ ap (λ y. before ++ validity_leaves validity ++ leaves_in ps y) f ∙ append_assoc before (validity_leaves validity) (leaves_in ps fs)
