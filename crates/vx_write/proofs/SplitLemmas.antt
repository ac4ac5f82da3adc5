-- Columns of leaves, one after the other.
use Rattle.std.proofs.Common.{◌≡◌, ℕ, zero, suc, ◌+◌, ◌<◌, ◌≤◌, Bool, true, false, List, [], ◌∷◌, ◌++◌, map, length, get_or, drop, drop-cons, Option, Some, None, is_some, refl, ap, ap₂, sym, ◌∙◌, subst, arith, append_assoc}
use Rattle.std.specs.Prelude.{String, string_bytes}
use Rattle.std.specs.Global.{Global}
use Rattle.std.specs.List.{All, list_all}
use Rattle.std.proofs.lemmas.List.{map-append, length-map, drop_all, append-nil}
use Rattle.std.proofs.lemmas.List.Elements.{All-nil, All-cons, All-append, All-weaker}
use Rattle.vx_data.specs.Dtype.{Dtype, FieldList, bool, int, text, struct, no_fields, field}
use Rattle.vx_rows.specs.declared.column.Column.{Column}
use Rattle.vx_rows.specs.Columns.{Structs}
use Rattle.vx_rows.specs.Rows.{Rows, FieldRows, bools, ints, texts, structs, no_columns, column, column_view, pairs_view, rows_len, dtype_of, types_of, fields_in, IsColumn, AreColumns}
use Rattle.vx_rows.specs.Parts.{part, presence, presence_of, is_struct}
use Rattle.vx_rows.specs.ReadRows.{no_rows}
use Rattle.vx_rows.specs.Trees.{type_size, fields_size}
use Rattle.vx_rows.proofs.ColumnLaws.{column_rows, rows_are, all-kept}
use Rattle.vx_rows.proofs.KeepLemmas.{new_type}
use Rattle.vx_write.specs.declared.strategy.LeafStrategy.{LeafStrategy}
use Rattle.vx_write.specs.declared.plan.Plan.{Plan}
use Rattle.vx_write.specs.Leaves.{Leaf, leaf_type, leaf_types, column_types, AreSound}
use Rattle.vx_write.specs.Plans.{PlanTree, PlanList, a_leaf, a_struct, no_plans, a_plan, plan_view, plans_view, IsFor, AreFor, ValidityHasBlocks, leaves_of, leaves_in, columns_of, columns_in, validity_leaves, validity_columns}
use Rattle.vx_write.specs.Chunks.{columns_seen, AllHaveLength}

-- ---- a struct and its fields

pub record IsSplit (validity : Option LeafStrategy) (ps : PlanList) (n : ℕ) (c : Rows) : Type 0 where
  pub is : is_struct c ≡ true
  pub fit : AreFor ps (types_of (fields_in c))
  pub even : AreColumns n (fields_in c)
  pub less : fields_size (types_of (fields_in c)) < type_size (dtype_of c)
  pub parts : columns_of (a_struct validity ps) c ≡ validity_columns validity (presence_of c) ++ columns_in ps (fields_in c)

pub struct_splits : (validity : Option LeafStrategy) (ps : PlanList) (n : ℕ) (c : Rows) → IsFor (a_struct validity ps) (dtype_of c) → IsColumn n c → IsSplit validity ps n c
struct_splits validity ps n (bools c) f h = absurd f
struct_splits validity ps n (ints c) f h = absurd f
struct_splits validity ps n (texts c) f h = absurd f
struct_splits validity ps n (structs c cs) f h = record { is = refl; fit = f.2; even = h.2; less = omega arith; parts = refl }

-- ---- fields, one after the other

next_plan : (ps : List Plan) (i : ℕ) (p : Plan) → i < length ps → p ≡ get_or ps i p → drop i ps ≡ p ∷ drop (i + 1) ps
next_plan ps i p h e = let one : i + 1 ≡ suc i = omega arith in drop-cons ps i p h ∙ ap (λ x. x ∷ drop (suc i) ps) (sym e) ∙ ap (λ n. p ∷ drop n ps) (sym one)

next_field : (cs : List (String Global × Column)) (i : ℕ) (c : String Global × Column) → i < length cs → c ≡ get_or cs i c → drop i cs ≡ c ∷ drop (i + 1) cs
next_field cs i c h e = let one : i + 1 ≡ suc i = omega arith in drop-cons cs i c h ∙ ap (λ x. x ∷ drop (suc i) cs) (sym e) ∙ ap (λ n. c ∷ drop n cs) (sym one)

pub as_many : (ps : List Plan) (cs : List (String Global × Column)) → AreFor (plans_view ps) (types_of (pairs_view cs)) → length ps ≡ length cs
as_many [] [] f = refl
as_many [] (c ∷ cs) f = absurd f
as_many (p ∷ ps) [] f = absurd f
as_many (p ∷ ps) (c ∷ cs) f = ap suc (as_many ps cs f.1)

pub fits_at : (ps : List Plan) (cs : List (String Global × Column)) (i : ℕ) (p : Plan) (c : String Global × Column) → AreFor (plans_view ps) (types_of (pairs_view cs))
    → i < length ps → p ≡ get_or ps i p → i < length cs → c ≡ get_or cs i c → IsFor (plan_view p) (dtype_of (column_view c.1))
fits_at [] cs i p c f l e m g = absurd (omega (arith, l))
fits_at (q ∷ ps) [] i p c f l e m g = absurd f
fits_at (q ∷ ps) (d ∷ cs) zero p c f l e m g =
    subst (λ (x : String Global × Column). IsFor (plan_view p) (dtype_of (column_view x.1))) (sym g) (subst (λ (x : Plan). IsFor (plan_view x) (dtype_of (column_view d.1))) (sym e) f.0)
fits_at (q ∷ ps) (d ∷ cs) (suc i) p c f l e m g = fits_at ps cs i p c f.1 (omega (arith, l)) e (omega (arith, m)) g

pub split_more : (ps : List Plan) (cs : List (String Global × Column)) (i : ℕ) (p : Plan) (c : String Global × Column) (made made' : List Rows)
    → i < length ps → p ≡ get_or ps i p → i < length cs → c ≡ get_or cs i c → made' ≡ made ++ columns_of (plan_view p) (column_view c.1)
    → made' ++ columns_in (plans_view (drop (i + 1) ps)) (pairs_view (drop (i + 1) cs)) ≡ made ++ columns_in (plans_view (drop i ps)) (pairs_view (drop i cs))
split_more ps cs i p c made made' l e m g more =
    ap (λ xs. xs ++ columns_in (plans_view (drop (i + 1) ps)) (pairs_view (drop (i + 1) cs))) more
    ∙ append_assoc made (columns_of (plan_view p) (column_view c.1)) (columns_in (plans_view (drop (i + 1) ps)) (pairs_view (drop (i + 1) cs)))
    ∙ sym (ap₂ (λ (x : List Plan) (y : List (String Global × Column)). made ++ columns_in (plans_view x) (pairs_view y)) (next_plan ps i p l e) (next_field cs i c m g))

pub split_end : (ps : List Plan) (cs : FieldRows) (i : ℕ) (made : List Rows) → length ps ≤ i → made ++ columns_in (plans_view (drop i ps)) cs ≡ made
split_end ps cs i made l = ap (λ (x : List Plan). made ++ columns_in (plans_view x) cs) (drop_all i ps l) ∙ append-nil made

-- ---- a leaf

pub leaf_pushed : (columns columns' : List Column) (c : Rows) (pushed : Column) (n : ℕ) → columns' ≡ columns ++ pushed ∷ [] → column_view pushed ≡ part 0 (rows_len c) c → IsColumn n c
    → columns_seen columns' ≡ columns_seen columns ++ c ∷ []
leaf_pushed columns columns' c pushed n e is h =
    let long = column_rows n c h in
    let all : part 0 (rows_len c) c ≡ c = ap (λ k. part 0 k c) (rows_are n c long) ∙ all-kept c n long in
    ap columns_seen e ∙ map-append column_view columns (pushed ∷ []) ∙ ap (λ x. columns_seen columns ++ x ∷ []) (is ∙ all)

-- ---- a struct

pub struct_split : (validity : Option LeafStrategy) (ps qs : PlanList) (n : ℕ) (c : Rows) (cs : FieldRows) (p : PlanTree) → p ≡ a_struct validity ps → IsFor p (dtype_of c) → IsColumn n c → qs ≡ ps → cs ≡ fields_in c
    → (before more all : List Rows) → more ≡ before ++ validity_columns validity (presence_of c) → all ≡ more ++ columns_in qs cs → all ≡ before ++ columns_of p c
struct_split validity ps qs n c cs p e f h g k before more all first second =
    let s = struct_splits validity ps n c (subst (λ (q : PlanTree). IsFor q (dtype_of c)) e f) h in
    second ∙ ap₂ (λ x y. x ++ columns_in y cs) first g ∙ ap (λ y. before ++ validity_columns validity (presence_of c) ++ columns_in ps y) k
    ∙ append_assoc before (validity_columns validity (presence_of c)) (columns_in ps (fields_in c))
    ∙ ap (λ xs. before ++ xs) (sym s.parts)
    ∙ ap (λ (q : PlanTree). before ++ columns_of q c) (sym e)

-- ---- the columns have the types of the leaves, and as many rows

some_all : (xs : List Bool) → list_all is_some (map Some xs) ≡ true
some_all [] = refl
some_all (x ∷ xs) = some_all xs

presence_even : (n : ℕ) (c : Structs) → length c.present ≡ n → IsColumn n (presence c)
presence_even n c e = let long = length-map {A = Bool} {B = Option Bool} c.present Some in (omega (arith, long, e), some_all c.present)

mutual
  pub columns_typed : (p : PlanTree) (c : Rows) → IsFor p (dtype_of c) → column_types (columns_of p c) ≡ leaf_types (leaves_of p (dtype_of c))
  columns_typed (a_leaf s) c f = ap (λ d. d ∷ []) (sym (new_type (dtype_of c) (no_rows (dtype_of c)) refl))
  columns_typed (a_struct validity ps) (bools c) f = absurd f
  columns_typed (a_struct validity ps) (ints c) f = absurd f
  columns_typed (a_struct validity ps) (texts c) f = absurd f
  columns_typed (a_struct None ps) (structs c cs) f = fields_typed ps cs f.2
  columns_typed (a_struct (Some s) ps) (structs c cs) f = ap (λ ds. bool false ∷ ds) (fields_typed ps cs f.2)

  pub fields_typed : (ps : PlanList) (cs : FieldRows) → AreFor ps (types_of cs) → column_types (columns_in ps cs) ≡ leaf_types (leaves_in ps (types_of cs))
  fields_typed no_plans no_columns f = refl
  fields_typed no_plans (column name c cs) f = absurd f
  fields_typed (a_plan p ps) no_columns f = absurd f
  fields_typed (a_plan p ps) (column name c cs) f =
      map-append dtype_of (columns_of p c) (columns_in ps cs)
      ∙ ap₂ (λ x y. x ++ y) (columns_typed p c f.0) (fields_typed ps cs f.1)
      ∙ sym (map-append leaf_type (leaves_of p (dtype_of c)) (leaves_in ps (types_of cs)))

mutual
  pub columns_even : (n : ℕ) (p : PlanTree) (c : Rows) → IsColumn n c → AllHaveLength n (columns_of p c)
  columns_even n (a_leaf s) c h = All-cons (IsColumn n) c [] h (All-nil (IsColumn n))
  columns_even n (a_struct validity ps) (bools c) h = All-nil (IsColumn n)
  columns_even n (a_struct validity ps) (ints c) h = All-nil (IsColumn n)
  columns_even n (a_struct validity ps) (texts c) h = All-nil (IsColumn n)
  columns_even n (a_struct None ps) (structs c cs) h = fields_even n ps cs h.2
  columns_even n (a_struct (Some s) ps) (structs c cs) h = All-cons (IsColumn n) (presence c) (columns_in ps cs) (presence_even n c h.0) (fields_even n ps cs h.2)

  pub fields_even : (n : ℕ) (ps : PlanList) (cs : FieldRows) → AreColumns n cs → AllHaveLength n (columns_in ps cs)
  fields_even n no_plans cs h = All-nil (IsColumn n)
  fields_even n (a_plan p ps) no_columns h = All-nil (IsColumn n)
  fields_even n (a_plan p ps) (column name c cs) h = All-append (IsColumn n) (columns_of p c) (columns_in ps cs) (columns_even n p c h.0) (fields_even n ps cs h.1)

pub sound_columns : (n : ℕ) (cs : List Rows) → AllHaveLength n cs → AreSound cs
sound_columns n cs h = All-weaker (IsColumn n) (λ (c : Rows). IsColumn (rows_len c) c) (λ c k. subst (λ (m : ℕ). IsColumn m c) (sym (rows_are n c (column_rows n c k))) k) cs h
