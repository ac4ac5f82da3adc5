-- What fields and plans from a place on need.
use Rattle.std.proofs.Common.{◌≡◌, ℕ, ◌+◌, ◌<◌, ◌≤◌, max, Bool, true, false, List, [], ◌∷◌, ◌++◌, length, map, get_or, drop, refl, sym, ap, ◌∙◌, add-one, drop-cons}
use Rattle.std.specs.Prelude.{◌&&◌, String, string_bytes}
use Rattle.std.specs.Global.{Global}
use Rattle.std.proofs.lemmas.List.{drop_all}
use Rattle.vx_data.specs.declared.dtype.DType.{DType}
use Rattle.vx_data.specs.Dtype.{dtype_view, pairs_view}
use Rattle.vx_write.specs.declared.plan.Plan.{Plan}
use Rattle.vx_write.specs.Plans.{plan_view, plans_view}
use Rattle.vx_write.specs.Laying.{least_levels, most_least_levels}
use Rattle.vx_write.specs.Written.{may_encode, may_encode_all, may_write, may_write_all}

next : {A : Type 0} → (xs : List A) (i : ℕ) (x : A) → i < length xs → x ≡ get_or xs i x → drop i xs ≡ x ∷ drop (i + 1) xs
next xs i x lt is = rw (add-one, drop-cons xs i x, ← is) refl

pub next_encodable : (ids : List (List ℕ)) (fs : List (String Global × DType)) (i : ℕ) (f : String Global × DType) → i < length fs → f ≡ get_or fs i f
    → may_encode_all ids (pairs_view (drop i fs)) ≡ (may_encode ids (dtype_view f.1) && may_encode_all ids (pairs_view (drop (i + 1) fs)))
next_encodable ids fs i f lt is = ap (λ xs. may_encode_all ids (pairs_view xs)) (next fs i f lt is)

pub next_written : (ids : List (List ℕ)) (ps : List Plan) (fs : List (String Global × DType)) (i : ℕ) (p : Plan) (f : String Global × DType) → i < length ps → p ≡ get_or ps i p
    → i < length fs → f ≡ get_or fs i f
    → may_write_all ids (plans_view (drop i ps)) (pairs_view (drop i fs)) ≡ (may_write ids (plan_view p) (dtype_view f.1) && may_write_all ids (plans_view (drop (i + 1) ps)) (pairs_view (drop (i + 1) fs)))
next_written ids ps fs i p f lt is less same =
    ap (λ xs. may_write_all ids (plans_view xs) (pairs_view (drop i fs))) (next ps i p lt is) ∙ ap (λ xs. may_write_all ids (plans_view (p ∷ drop (i + 1) ps)) (pairs_view xs)) (next fs i f less same)

pub all_written : (ids : List (List ℕ)) (ps : List Plan) (fs : List (String Global × DType)) (i : ℕ) → length ps ≤ i → may_write_all ids (plans_view (drop i ps)) (pairs_view (drop i fs)) ≡ true
all_written ids ps fs i le = ap (λ xs. may_write_all ids (plans_view xs) (pairs_view (drop i fs))) (drop_all i ps le)

no-fields-left : (ids : List (List ℕ)) (ps : List Plan) → may_write_all ids (plans_view ps) (pairs_view []) ≡ true
no-fields-left ids [] = refl
no-fields-left ids (p ∷ ps) = refl

pub no_more_fields : (ids : List (List ℕ)) (ps : List Plan) (fs : List (String Global × DType)) (i : ℕ) → length fs ≤ i → may_write_all ids (plans_view (drop i ps)) (pairs_view (drop i fs)) ≡ true
no_more_fields ids ps fs i le = ap (λ xs. may_write_all ids (plans_view (drop i ps)) (pairs_view xs)) (drop_all i fs le) ∙ no-fields-left ids (drop i ps)

pub next_levels : (ps : List Plan) (i : ℕ) (p : Plan) → i < length ps → p ≡ get_or ps i p → most_least_levels (plans_view (drop i ps)) ≡ max (least_levels (plan_view p)) (most_least_levels (plans_view (drop (i + 1) ps)))
next_levels ps i p lt is = ap (λ xs. most_least_levels (plans_view xs)) (next ps i p lt is)
