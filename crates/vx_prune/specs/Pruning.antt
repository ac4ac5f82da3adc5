-- What pruning means: statistics that are true of rows, the law of pruning, and where it is exact.
use Rattle.std.specs.Prelude.{◌≡◌, ℕ, pos, ◌↔◌, Bool, true, false, List, [], ◌∷◌, map, length, slice_index_or, Option, Some, None}
use Rattle.std.specs.List.{All, Contains, count_by}
use Rattle.std.specs.Ordering.{is_gt}
use Rattle.vx_data.specs.declared.stats_set.Precision.{Precision}
use Rattle.vx_data.specs.declared.stats_set.Precision.TheVariants.{Exact, Inexact}
use Rattle.vx_data.specs.Dtype.{Dtype}
use Rattle.vx_data.specs.Scalar.{Value, flag, number, words}
use Rattle.vx_data.specs.Stats.{Stats, no_stats}
use Rattle.vx_rows.specs.declared.predicate.Comparison.{Comparison}
use Rattle.vx_rows.specs.RowValues.{Cell, null, value, a_struct, Row, cell, part_at}
use Rattle.vx_rows.specs.Predicates.{Pred, lit, root, path, cast, add, compare, both, either, negated, null_test, present_test}
use Rattle.vx_rows.specs.Truth.{is_null, is_true, compared_values, satisfies}
use Rattle.vx_prune.specs.Never.{value_cmp, Known, known_path, never}

-- ---- statistics that are true of rows

-- v is at or below w
abbrev pub AtMost : Value → Value → Type 0
AtMost v w = is_gt (value_cmp v w) ≡ false

-- what is null is neither above nor below anything
abbrev pub NotBelow : Value → Cell → Type 0
NotBelow v null = Unit {0}
NotBelow v (value w) = AtMost v w
NotBelow v a_struct = Unit {0}

abbrev pub NotAbove : Value → Cell → Type 0
NotAbove v null = Unit {0}
NotAbove v (value w) = AtMost w v
NotAbove v a_struct = Unit {0}

-- an exact least value is one of the values, an inexact one is at or below each
abbrev pub IsTrueMin : Option (Value × Precision) → List Cell → Type 0
IsTrueMin None cells = Unit {0}
IsTrueMin (Some (v, Exact)) cells = All (NotBelow v) cells × Contains cells (value v)
IsTrueMin (Some (v, Inexact)) cells = All (NotBelow v) cells

abbrev pub IsTrueMax : Option (Value × Precision) → List Cell → Type 0
IsTrueMax None cells = Unit {0}
IsTrueMax (Some (v, Exact)) cells = All (NotAbove v) cells × Contains cells (value v)
IsTrueMax (Some (v, Inexact)) cells = All (NotAbove v) cells

-- an exact count is that of the nulls, an inexact one tells nothing
abbrev pub IsTrueCount : Option (Value × Precision) → List Cell → Type 0
IsTrueCount None cells = Unit {0}
IsTrueCount (Some (v, Exact)) cells = v ≡ number (pos (count_by is_null cells))
IsTrueCount (Some (v, Inexact)) cells = Unit {0}

pub record IsTrueOf (s : Stats) (cells : List Cell) : Type 0 where
  pub min : IsTrueMin s.min cells
  pub max : IsTrueMax s.max cells
  pub null_count : IsTrueCount s.null_count cells

-- what stands at a place of each row
abbrev pub field_cells : ℕ → List Row → List Cell
field_cells i rows = map (λ r. cell (part_at i r)) rows

-- each set is true of its field
abbrev pub AreTrueOf : List Stats → List Row → Type 0
AreTrueOf ss rows = (i : ℕ) → IsTrueOf (slice_index_or ss i no_stats) (field_cells i rows)

-- ---- the laws

-- no row satisfies what never holds, where the statistics are true of the rows and these are so many
abbrev pub Prunes : Pred → Dtype → List Stats → ℕ → Type 0
Prunes p d ss n = (rows : List Row) → AreTrueOf ss rows → length rows ≡ n → All (λ r. satisfies p d r ≡ false) rows

abbrev pub PruningLaw : Type 0
PruningLaw = (p : Pred) (d : Dtype) (ss : List Stats) (n : ℕ) → never p d ss n ≡ true → Prunes p d ss n

-- a field of the rows, through any number of casts
abbrev pub is_field : Pred → Bool
is_field (path (name ∷ [])) = true
is_field (path []) = false
is_field (path (name ∷ other ∷ names)) = false
is_field (cast t p) = is_field p
is_field (lit t v) = false
is_field root = false
is_field (add p q) = false
is_field (compare op p q) = false
is_field (both p q) = false
is_field (either p q) = false
is_field (negated p) = false
is_field (null_test p) = false
is_field (present_test p) = false

abbrev pub are_of_one_kind : Value → Value → Bool
are_of_one_kind (flag a) (flag b) = true
are_of_one_kind (number a) (number b) = true
are_of_one_kind (words a) (words b) = true
are_of_one_kind _ _ = false

-- both bounds of an operand are known, in order and of the kind of a value, and not each row is null
pub record HasBounds (k : Known) (least greatest v : Value) : Type 0 where
  pub low : k.low ≡ Some least
  pub high : k.high ≡ Some greatest
  pub ordered : AtMost least greatest
  pub some : k.always_null ≡ false
  pub low_kind : are_of_one_kind least v ≡ true
  pub high_kind : are_of_one_kind greatest v ≡ true

-- a comparison of a field with a literal never holds exactly where it holds of no value between the bounds
abbrev pub ExactLaw : Type 0
ExactLaw = (op : Comparison) (p : Pred) (t : Dtype) (v : Value) (d : Dtype) (ss : List Stats) (n : ℕ) (least greatest : Value)
    → is_field p ≡ true → HasBounds (known_path p d ss n) least greatest v
    → (never (compare op p (lit t (Some v))) d ss n ≡ true) ↔ ((w : Value) → AtMost least w → AtMost w greatest → is_true (compared_values op w v) ≡ false)
