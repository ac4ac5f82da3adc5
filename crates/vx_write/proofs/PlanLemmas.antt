-- Plans of types, and the columns of their leaves.
use Rattle.std.proofs.Common.{◌≡◌, ℕ, zero, suc, ◌+◌, ◌<◌, ◌≤◌, Bool, true, false, List, [], ◌∷◌, ◌++◌, map, length, get_or, drop, drop-cons, Option, Some, None, is_some, refl, ap, ap₂, sym, ◌∙◌, subst, arith, inl, inr}
use Rattle.std.specs.Prelude.{◌==◌, if◌then◌else◌, ◌⊎◌, String, string_bytes}
use Rattle.std.specs.Global.{Global}
use Rattle.std.proofs.lemmas.List.{drop_all}
use Rattle.std.specs.List.{All}
use Rattle.std.specs.Str.{bytes_eq}
use Rattle.std.proofs.lemmas.Bool.{cases_Bool}
use Rattle.std.proofs.lemmas.List.Elements.{All-nil, All-cons, All-head, All-tail, All-append}
use Rattle.vx_data.specs.Dtype.{Dtype, FieldList, bool, int, text, struct, no_fields, field, dtype_view, pairs_view}
use Rattle.vx_data.specs.declared.dtype.DType.{DType}
use Rattle.vx_write.specs.declared.plan.Plan.{Plan}
use Rattle.vx_write.specs.declared.strategy.LeafStrategy.{LeafStrategy}
use Rattle.vx_write.specs.Strategies.{Rule, Strategy, HasBlocks, AllHaveBlocks, later, of_itself, own, rule_below, below}
use Rattle.vx_write.specs.Plans.{PlanTree, PlanList, a_leaf, a_struct, no_plans, a_plan, leaf_or, validity_of, plan_of, plans_for, planned, ValidityHasBlocks, IsFor, AreFor, plan_view, plans_view, plans_behind}

-- ---- what rules say has blocks

abbrev pub SomeHasBlocks : Option LeafStrategy → Type 0
SomeHasBlocks None = Unit {0}
SomeHasBlocks (Some s) = HasBlocks s

later_has : (a b : Option LeafStrategy) → SomeHasBlocks a → SomeHasBlocks b → SomeHasBlocks (later a b)
later_has (Some s) b h k = h
later_has None b h k = k

itself_has : (r : Rule) → HasBlocks r.1 → SomeHasBlocks (of_itself r)
itself_has r h = by (length r.0 == 0)
  where
    by : (b : Bool) → SomeHasBlocks (if b then Some r.1 else None)
    by true = h
    by false = tt

pub own_has : (rules : List Rule) → AllHaveBlocks rules → SomeHasBlocks (own rules)
own_has [] h = tt
own_has (r ∷ rs) h = later_has (own rs) (of_itself r) (own_has rs (All-tail (λ (x : Rule). HasBlocks x.1) r rs h)) (itself_has r (All-head (λ (x : Rule). HasBlocks x.1) r rs h))

below_one : (name : List ℕ) (path : List (List ℕ)) (s : LeafStrategy) → HasBlocks s → AllHaveBlocks (rule_below name path s)
below_one name [] s h = All-nil (λ (x : Rule). HasBlocks x.1)
below_one name (first ∷ names) s h = by (bytes_eq first name)
  where
    by : (b : Bool) → AllHaveBlocks (if b then (names, s) ∷ [] else [])
    by true = All-cons (λ (x : Rule). HasBlocks x.1) (names, s) [] h (All-nil (λ (x : Rule). HasBlocks x.1))
    by false = All-nil (λ (x : Rule). HasBlocks x.1)

pub below_has : (name : List ℕ) (rules : List Rule) → AllHaveBlocks rules → AllHaveBlocks (below name rules)
below_has name [] h = All-nil (λ (x : Rule). HasBlocks x.1)
below_has name (r ∷ rs) h =
    All-append (λ (x : Rule). HasBlocks x.1) (rule_below name r.0 r.1) (below name rs) (below_one name r.0 r.1 (All-head (λ (x : Rule). HasBlocks x.1) r rs h))
    (below_has name rs (All-tail (λ (x : Rule). HasBlocks x.1) r rs h))

-- ---- a plan is one for its type

leaf_is_for : (o : Option LeafStrategy) (p : PlanTree) (d : Dtype) → SomeHasBlocks o → IsFor p d → IsFor (leaf_or o p) d
leaf_is_for (Some s) p d h k = h
leaf_is_for None p d h k = k

validity_is : (default : LeafStrategy) (nullable : Bool) → is_some (validity_of default nullable) ≡ nullable
validity_is default true = refl
validity_is default false = refl

validity_has : (default : LeafStrategy) (nullable : Bool) → HasBlocks default → ValidityHasBlocks (validity_of default nullable)
validity_has default true h = h
validity_has default false h = tt

mutual
  pub plan_is_for : (default : LeafStrategy) (d : Dtype) (rules : List Rule) → HasBlocks default → AllHaveBlocks rules → IsFor (plan_of default rules d) d
  plan_is_for default (bool nullable) rules h k = leaf_is_for (own rules) (a_leaf default) (bool nullable) (own_has rules k) h
  plan_is_for default (int ptype nullable) rules h k = leaf_is_for (own rules) (a_leaf default) (int ptype nullable) (own_has rules k) h
  plan_is_for default (text nullable) rules h k = leaf_is_for (own rules) (a_leaf default) (text nullable) (own_has rules k) h
  plan_is_for default (struct fs nullable) rules h k =
      leaf_is_for (own rules) (a_struct (validity_of default nullable) (plans_for default rules fs)) (struct fs nullable) (own_has rules k)
      (validity_is default nullable, validity_has default nullable h, plans_are_for default fs rules h k)

  pub plans_are_for : (default : LeafStrategy) (fs : FieldList) (rules : List Rule) → HasBlocks default → AllHaveBlocks rules → AreFor (plans_for default rules fs) fs
  plans_are_for default no_fields rules h k = tt
  plans_are_for default (field name d fs) rules h k = (plan_is_for default d (below name rules) h (below_has name rules k), plans_are_for default fs rules h k)

pub planned_is_for : (s : Strategy) (d : Dtype) → HasBlocks s.default → AllHaveBlocks s.rules → IsFor (planned s d) d
planned_is_for s d h k = plan_is_for s.default d s.rules h k

-- ---- the plans of fields, one after the other

next_type : (fs : List (String Global × DType)) (i : ℕ) (f : String Global × DType) → i < length fs → f ≡ get_or fs i f → drop i fs ≡ f ∷ drop (i + 1) fs
next_type fs i f h e = let one : i + 1 ≡ suc i = omega arith in drop-cons fs i f h ∙ ap (λ x. x ∷ drop (suc i) fs) (sym e) ∙ ap (λ n. f ∷ drop n fs) (sym one)

behind_more : (made : List Plan) (p : Plan) (ps : PlanList) → plans_behind (made ++ p ∷ []) ps ≡ plans_behind made (a_plan (plan_view p) ps)
behind_more [] p ps = refl
behind_more (q ∷ made) p ps = ap (a_plan (plan_view q)) (behind_more made p ps)

behind_none : (made : List Plan) → plans_behind made no_plans ≡ plans_view made
behind_none [] = refl
behind_none (q ∷ made) = ap (a_plan (plan_view q)) (behind_none made)

pub plans_more : (default : LeafStrategy) (rules inner : List Rule) (fs : List (String Global × DType)) (i : ℕ) (f : String Global × DType) (made made' : List Plan) (p : Plan) → i < length fs → f ≡ get_or fs i f
    → made' ≡ made ++ p ∷ [] → inner ≡ below (string_bytes f.0) rules → plan_view p ≡ plan_of default inner (dtype_view f.1)
    → plans_behind made' (plans_for default rules (pairs_view (drop (i + 1) fs))) ≡ plans_behind made (plans_for default rules (pairs_view (drop i fs)))
plans_more default rules inner fs i f made made' p h e more within is =
    ap (λ (xs : List Plan). plans_behind xs (plans_for default rules (pairs_view (drop (i + 1) fs)))) more
    ∙ behind_more made p (plans_for default rules (pairs_view (drop (i + 1) fs)))
    ∙ ap (λ (q : PlanTree). plans_behind made (a_plan q (plans_for default rules (pairs_view (drop (i + 1) fs))))) (is ∙ ap (λ (rs : List Rule). plan_of default rs (dtype_view f.1)) within)
    ∙ ap (λ (xs : List (String Global × DType)). plans_behind made (plans_for default rules (pairs_view xs))) (sym (next_type fs i f h e))

pub plans_end : (default : LeafStrategy) (rules : List Rule) (fs : List (String Global × DType)) (i : ℕ) (made : List Plan) → length fs ≤ i
    → plans_behind made (plans_for default rules (pairs_view (drop i fs))) ≡ plans_view made
plans_end default rules fs i made l = ap (λ (xs : List (String Global × DType)). plans_behind made (plans_for default rules (pairs_view xs))) (drop_all i fs l) ∙ behind_none made
