-- The layout of a file: a tree by the plan of its type, over the chunks that lie in the file.
use Rattle.std.specs.Prelude.{◌≡◌, ℕ, zero, suc, ◌+◌, List, [], ◌∷◌, ◌++◌, length, drop, map, replicate, sum_by, max, false, Option, Some, None}
use Rattle.vx_data.specs.declared.layout_kind.LayoutKind.TheVariants.{Flat, Chunked, Struct}
use Rattle.vx_data.specs.Dtype.{Dtype, FieldList, bool, int, text, struct, no_fields, field}
use Rattle.vx_data.specs.Layout.{LayoutTree, node, no_layouts, layouts_of}
use Rattle.vx_write.specs.declared.laid_chunk.Laid.{Laid}
use Rattle.vx_write.specs.declared.laid_chunk.Numbered.{Numbered}
use Rattle.vx_write.specs.declared.strategy.LeafStrategy.{LeafStrategy}
use Rattle.vx_rows.specs.Rows.{rows_len, IsColumn}
use Rattle.vx_write.specs.Leaves.{Leaf}
use Rattle.vx_write.specs.Strategies.{HasBlocks}
use Rattle.vx_write.specs.Plans.{PlanTree, PlanList, a_leaf, a_struct, no_plans, a_plan}

-- the chunks of each leaf
abbrev pub Groups : Type 0
Groups = List (List Numbered)

-- ---- the chunks of a file, by leaf

-- with a chunk more of the leaf at a place
abbrev pub put_at : ℕ → Numbered → Groups → Groups
put_at place x [] = []
put_at zero x (g ∷ gs) = (g ++ x ∷ []) ∷ gs
put_at (suc place) x (g ∷ gs) = g ∷ put_at place x gs

-- with the chunks that lie in a file, of which the first has a number
abbrev pub put_from : ℕ → List Laid → Groups → Groups
put_from number [] gs = gs
put_from number (l ∷ ls) gs = put_from (number + 1) ls (put_at l.leaf (record { rows = l.rows; segment = number }) gs)

abbrev pub grouped : ℕ → List Laid → Groups
grouped leaves ls = put_from 0 ls (replicate leaves [])

-- ---- the layout of a leaf

abbrev pub flat : Dtype → Numbered → LayoutTree
flat d x = node Flat d x.rows (x.segment ∷ []) no_layouts

abbrev pub chunked : Dtype → List Numbered → LayoutTree
chunked d xs = node Chunked d (sum_by (λ x. x.rows) xs) [] (layouts_of (map (flat d) xs))

-- one chunk is a flat layout, any other number a chunked one of flat ones
abbrev pub leaf_layout : Dtype → List Numbered → LayoutTree
leaf_layout d [] = chunked d []
leaf_layout d (x ∷ []) = flat d x
leaf_layout d (x ∷ y ∷ xs) = chunked d (x ∷ y ∷ xs)

-- ---- the layout of a plan

abbrev pub first_group : Groups → List Numbered
first_group [] = []
first_group (g ∷ gs) = g

abbrev pub validity_count : Option LeafStrategy → ℕ
validity_count None = 0
validity_count (Some s) = 1

-- how many leaves a plan has
abbrev mutual
  pub leaf_count : PlanTree → ℕ
  leaf_count (a_leaf s) = 1
  leaf_count (a_struct validity ps) = validity_count validity + leaves_count ps

  pub leaves_count : PlanList → ℕ
  leaves_count no_plans = 0
  leaves_count (a_plan p ps) = leaf_count p + leaves_count ps

-- the validity column before the fields, where there is one
abbrev pub with_validity : Option LeafStrategy → Groups → List LayoutTree → List LayoutTree
with_validity None gs ts = ts
with_validity (Some s) gs ts = leaf_layout (bool false) (first_group gs) ∷ ts

abbrev mutual
  -- of so many rows, whose leaves have these chunks
  pub laid_out : PlanTree → Dtype → ℕ → Groups → LayoutTree
  laid_out (a_leaf s) d n gs = leaf_layout d (first_group gs)
  laid_out (a_struct validity ps) (struct fs nullable) n gs =
      node Struct (struct fs nullable) n [] (layouts_of (with_validity validity gs (all_laid_out ps fs n (drop (validity_count validity) gs))))
  laid_out (a_struct validity ps) (bool nullable) n gs = leaf_layout (bool nullable) []
  laid_out (a_struct validity ps) (int ptype nullable) n gs = leaf_layout (int ptype nullable) []
  laid_out (a_struct validity ps) (text nullable) n gs = leaf_layout (text nullable) []

  pub all_laid_out : PlanList → FieldList → ℕ → Groups → List LayoutTree
  all_laid_out no_plans fs n gs = []
  all_laid_out (a_plan p ps) no_fields n gs = []
  all_laid_out (a_plan p ps) (field name d fs) n gs = laid_out p d n gs ∷ all_laid_out ps fs n (drop (leaf_count p) gs)

-- each leaf's chunks have so many rows together
abbrev pub AreFull : ℕ → Groups → Type 0
AreFull n [] = Unit {0}
AreFull n (g ∷ gs) = (sum_by (λ x. x.rows) g ≡ n) × AreFull n gs

-- and with those that are held back
abbrev pub AreSums : ℕ → Groups → List Leaf → Type 0
AreSums n [] [] = Unit {0}
AreSums n [] (leaf ∷ leaves) = ⊥
AreSums n (g ∷ gs) [] = ⊥
AreSums n (g ∷ gs) (leaf ∷ leaves) = (sum_by (λ x. x.rows) g + rows_len leaf.kept ≡ n) × AreSums n gs leaves

-- a leaf as a writer keeps it
pub record IsLeaf (leaf : Leaf) : Type 0 where
  pub blocks : HasBlocks leaf.strategy
  pub even : IsColumn (rows_len leaf.kept) leaf.kept

abbrev pub AreLeaves : List Leaf → Type 0
AreLeaves [] = Unit {0}
AreLeaves (leaf ∷ leaves) = IsLeaf leaf × AreLeaves leaves

-- ---- how deep the least layout of a plan is

abbrev pub validity_levels : Option LeafStrategy → ℕ
validity_levels None = 0
validity_levels (Some s) = 1

abbrev mutual
  pub least_levels : PlanTree → ℕ
  least_levels (a_leaf s) = 1
  least_levels (a_struct validity ps) = max (validity_levels validity) (most_least_levels ps) + 1

  pub most_least_levels : PlanList → ℕ
  most_least_levels no_plans = 0
  most_least_levels (a_plan p ps) = max (least_levels p) (most_least_levels ps)
