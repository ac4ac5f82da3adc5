-- How the rows of a type are laid out: the leaves of the type, and the strategy of each.
use Rattle.std.specs.Prelude.{◌≡◌, Bool, false, if◌then◌else◌, List, [], ◌∷◌, ◌++◌, map, Option, Some, None, is_some}
use Rattle.vx_data.specs.Dtype.{Dtype, FieldList, bool, int, text, struct, no_fields, field}
use Rattle.vx_rows.specs.Rows.{Rows, FieldRows, bools, ints, texts, structs, no_columns, column}
use Rattle.vx_rows.specs.Parts.{presence}
use Rattle.vx_rows.specs.ReadRows.{no_rows}
use Rattle.vx_write.specs.declared.strategy.LeafStrategy.{LeafStrategy}
use Rattle.vx_write.specs.declared.plan.Plan.{Plan, fold-Plan}
use Rattle.vx_write.specs.declared.plan.Plan.TheOpen.{Plan-F}
use Rattle.vx_write.specs.Strategies.{Rule, Strategy, HasBlocks, own, below}
use Rattle.vx_write.specs.Leaves.{Leaf}

mutual
  pub data PlanTree : Type 0 where
    a_leaf : LeafStrategy → PlanTree
    -- the strategy of the validity column, where there is one, and the plans of the fields
    a_struct : Option LeafStrategy → PlanList → PlanTree

  pub data PlanList : Type 0 where
    no_plans : PlanList
    a_plan : PlanTree → PlanList → PlanList

-- ---- what a plan stands for

abbrev pub plans_of : List PlanTree → PlanList
plans_of [] = no_plans
plans_of (p ∷ ps) = a_plan p (plans_of ps)

abbrev pub plan_step : Plan-F PlanTree → PlanTree
plan_step (Plan-F.Leaf s) = a_leaf s
plan_step (Plan-F.Struct validity fields) = a_struct validity (plans_of fields.items)

abbrev pub plan_view : Plan → PlanTree
plan_view = fold-Plan PlanTree plan_step

-- the same of plans in a list
abbrev pub plans_view : List Plan → PlanList
plans_view ps = plans_of (map plan_view ps)

-- ---- the plan of a type

-- a column with a strategy of its own is a leaf
abbrev pub leaf_or : Option LeafStrategy → PlanTree → PlanTree
leaf_or (Some s) plan = a_leaf s
leaf_or None plan = plan

abbrev pub validity_of : LeafStrategy → Bool → Option LeafStrategy
validity_of default nullable = if nullable then Some default else None

abbrev mutual
  -- a struct without a strategy of its own is laid out by its fields, any other column as a leaf
  pub plan_of : LeafStrategy → List Rule → Dtype → PlanTree
  plan_of default rules (bool nullable) = leaf_or (own rules) (a_leaf default)
  plan_of default rules (int ptype nullable) = leaf_or (own rules) (a_leaf default)
  plan_of default rules (text nullable) = leaf_or (own rules) (a_leaf default)
  plan_of default rules (struct fs nullable) = leaf_or (own rules) (a_struct (validity_of default nullable) (plans_for default rules fs))

  pub plans_for : LeafStrategy → List Rule → FieldList → PlanList
  plans_for default rules no_fields = no_plans
  plans_for default rules (field name d fs) = a_plan (plan_of default (below name rules) d) (plans_for default rules fs)

abbrev pub planned : Strategy → Dtype → PlanTree
planned s d = plan_of s.default s.rules d

-- ---- types that a plan is for

abbrev pub ValidityHasBlocks : Option LeafStrategy → Type 0
ValidityHasBlocks None = Unit {0}
ValidityHasBlocks (Some s) = HasBlocks s

abbrev mutual
  -- a plan is one for a type: its structs are those of the type, with a validity column where they may be null
  pub IsFor : PlanTree → Dtype → Type 0
  IsFor (a_leaf s) d = HasBlocks s
  IsFor (a_struct validity ps) (struct fs nullable) = (is_some validity ≡ nullable) × ValidityHasBlocks validity × AreFor ps fs
  IsFor (a_struct validity ps) (bool nullable) = ⊥
  IsFor (a_struct validity ps) (int ptype nullable) = ⊥
  IsFor (a_struct validity ps) (text nullable) = ⊥

  pub AreFor : PlanList → FieldList → Type 0
  AreFor no_plans no_fields = Unit {0}
  AreFor no_plans (field name d fs) = ⊥
  AreFor (a_plan p ps) no_fields = ⊥
  AreFor (a_plan p ps) (field name d fs) = IsFor p d × AreFor ps fs

-- ---- the leaves of a type, in preorder, without rows

abbrev pub validity_leaves : Option LeafStrategy → List Leaf
validity_leaves None = []
validity_leaves (Some s) = record { strategy = s; kept = no_rows (bool false) } ∷ []

abbrev mutual
  pub leaves_of : PlanTree → Dtype → List Leaf
  leaves_of (a_leaf s) d = record { strategy = s; kept = no_rows d } ∷ []
  leaves_of (a_struct validity ps) (struct fs nullable) = validity_leaves validity ++ leaves_in ps fs
  leaves_of (a_struct validity ps) (bool nullable) = []
  leaves_of (a_struct validity ps) (int ptype nullable) = []
  leaves_of (a_struct validity ps) (text nullable) = []

  pub leaves_in : PlanList → FieldList → List Leaf
  leaves_in no_plans fs = []
  leaves_in (a_plan p ps) no_fields = []
  leaves_in (a_plan p ps) (field name d fs) = leaves_of p d ++ leaves_in ps fs

-- ---- the columns of the leaves, in preorder

-- which structs are there, where that is a leaf
abbrev pub validity_columns : Option LeafStrategy → Rows → List Rows
validity_columns None c = []
validity_columns (Some s) c = c ∷ []

abbrev mutual
  pub columns_of : PlanTree → Rows → List Rows
  columns_of (a_leaf s) c = c ∷ []
  columns_of (a_struct validity ps) (structs c cs) = validity_columns validity (presence c) ++ columns_in ps cs
  columns_of (a_struct validity ps) (bools c) = []
  columns_of (a_struct validity ps) (ints c) = []
  columns_of (a_struct validity ps) (texts c) = []

  pub columns_in : PlanList → FieldRows → List Rows
  columns_in no_plans cs = []
  columns_in (a_plan p ps) no_columns = []
  columns_in (a_plan p ps) (column name c cs) = columns_of p c ++ columns_in ps cs

-- plans before others
abbrev pub plans_behind : List Plan → PlanList → PlanList
plans_behind [] ps = ps
plans_behind (p ∷ rest) ps = a_plan (plan_view p) (plans_behind rest ps)
