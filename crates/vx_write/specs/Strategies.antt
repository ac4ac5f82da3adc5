-- How types are laid out in a file: what is said of leaves, as plain data.
use Rattle.std.specs.Prelude.{ℕ, ◌≤◌, ◌==◌, if◌then◌else◌, List, [], ◌∷◌, ◌++◌, length, Option, Some, None}
use Rattle.std.specs.List.{All}
use Rattle.std.specs.Str.{bytes_eq}
use Rattle.vx_write.specs.declared.strategy.LeafStrategy.{LeafStrategy}
use Rattle.vx_write.specs.declared.strategy.LeafStrategy.TheVariants.{Whole, Blocks}

-- a strategy for the column that names lead to
abbrev pub Rule : Type 0
Rule = List (List ℕ) × LeafStrategy

-- a block has a row at least
abbrev pub HasBlocks : LeafStrategy → Type 0
HasBlocks Whole = Unit {0}
HasBlocks (Blocks rows target) = 1 ≤ rows

abbrev pub AllHaveBlocks : List Rule → Type 0
AllHaveBlocks rules = All (λ (r : Rule). HasBlocks r.1) rules

-- what a builder was told: the blocks of a leaf of which no rule speaks, the alignment of segments, and the rules
pub record Settings : Type 0 where
  pub block_rows : ℕ
  pub block_bytes : Option ℕ
  pub alignment : ℕ
  pub rules : List Rule

-- a strategy for each leaf of which no rule speaks, the alignment of segments, and the rules
pub record Strategy : Type 0 where
  pub default : LeafStrategy
  pub alignment : ℕ
  pub rules : List Rule

abbrev pub built : Settings → Strategy
built s = record { default = Blocks s.block_rows s.block_bytes; alignment = s.alignment; rules = s.rules }

abbrev pub default_settings : Settings
default_settings = record { block_rows = 8192; block_bytes = Some 1048576; alignment = 3; rules = [] }

-- ---- what rules say

-- of a column itself: the last rule without a name counts
abbrev pub later : Option LeafStrategy → Option LeafStrategy → Option LeafStrategy
later (Some last) first = Some last
later None first = first

abbrev pub of_itself : Rule → Option LeafStrategy
of_itself r = if length r.0 == 0 then Some r.1 else None

abbrev pub own : List Rule → Option LeafStrategy
own [] = None
own (r ∷ rs) = later (own rs) (of_itself r)

-- of what lies below a field: the rules whose first name is the field's, without it
abbrev pub rule_below : List ℕ → List (List ℕ) → LeafStrategy → List Rule
rule_below name [] s = []
rule_below name (first ∷ names) s = if bytes_eq first name then (names, s) ∷ [] else []

abbrev pub below : List ℕ → List Rule → List Rule
below name [] = []
below name (r ∷ rs) = rule_below name r.0 r.1 ++ below name rs
