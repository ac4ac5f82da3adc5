-- Which predicates no row satisfies, as far as statistics tell.
use Rattle.std.specs.Prelude.{ℕ, ℤ, pos, Bool, true, false, not, ◌&&◌, ◌||◌, List, [], ◌∷◌, slice_index_or, Option, Some, None}
use Rattle.std.specs.declared.cmp.Ordering.{Ordering}
use Rattle.std.specs.Ordering.{nat_cmp, int_cmp, int_eq, on, then_cmp, is_eq, is_lt, is_gt, is_ge}
use Rattle.std.specs.Cmp.Lexicographic.{slice_cmp}
use Rattle.vx_data.specs.declared.stats_set.Stat.{Stat}
use Rattle.vx_data.specs.declared.stats_set.Stat.TheVariants.{Min, Max, NullCount}
use Rattle.vx_data.specs.declared.stats_set.Precision.{Precision}
use Rattle.vx_data.specs.declared.stats_set.Precision.TheVariants.{Exact, Inexact}
use Rattle.vx_data.specs.Dtype.{Dtype}
use Rattle.vx_data.specs.Scalar.{Value, flag, number, words}
use Rattle.vx_data.specs.Stats.{Stats, no_stats, stat_in}
use Rattle.vx_rows.specs.declared.predicate.Comparison.{Comparison}
use Rattle.vx_rows.specs.declared.predicate.Comparison.TheVariants.{Eq, Ne, Lt, Le, Gt, Ge}
use Rattle.vx_rows.specs.RowValues.{value_cell}
use Rattle.vx_rows.specs.Predicates.{Pred, lit, root, path, cast, add, compare, both, either, negated, null_test, present_test}
use Rattle.vx_rows.specs.Binding.{place, with_place}
use Rattle.vx_rows.specs.Truth.{to_truth, is_true}

-- ---- one order of all values: truth values, false first, then numbers, then texts by their bytes

abbrev pub rank : Value → ℕ
rank (flag b) = 0
rank (number n) = 1
rank (words t) = 2

abbrev pub as_number : Value → ℤ
as_number (flag true) = pos 1
as_number (flag false) = pos 0
as_number (number n) = n
as_number (words t) = pos 0

abbrev pub as_words : Value → List ℕ
as_words (flag b) = []
as_words (number n) = []
as_words (words t) = t

abbrev pub value_cmp : Value → Value → Ordering
value_cmp = then_cmp (on rank nat_cmp) (then_cmp (on as_number int_cmp) (on as_words (slice_cmp nat_cmp)))

-- ---- what statistics tell of a field

abbrev pub exact : Option (Value × Precision) → Option Value
exact None = None
exact (Some (v, Exact)) = Some v
exact (Some (v, Inexact)) = None

-- an exact statistic of the first field of a name, in a set for each field
abbrev pub stat_of : Stat → List (List ℕ) → Dtype → List Stats → Option Value
stat_of stat [] d ss = None
stat_of stat (name ∷ []) d ss = with_place (place name d) None (λ i e. exact (stat_in stat (slice_index_or ss i no_stats)))
stat_of stat (name ∷ other ∷ names) d ss = None

-- whether a count is this one
abbrev pub is_count : Option Value → ℕ → Bool
is_count None n = false
is_count (Some (flag b)) n = false
is_count (Some (number z)) n = int_eq z (pos n)
is_count (Some (words t)) n = false

-- ---- what is known of an operand, where there are so many rows

pub record Known : Type 0 where
  pub low : Option Value
  pub high : Option Value
  pub always_null : Bool
  pub never_null : Bool

abbrev pub unknown : Known
unknown = record { low = None; high = None; always_null = false; never_null = false }

abbrev pub known_field : List (List ℕ) → Dtype → List Stats → ℕ → Known
known_field names d ss n = record {
  low = stat_of Min names d ss;
  high = stat_of Max names d ss;
  always_null = is_count (stat_of NullCount names d ss) n;
  never_null = is_count (stat_of NullCount names d ss) 0;
}

-- of a path through any number of casts, which keep the value
abbrev pub known_path : Pred → Dtype → List Stats → ℕ → Known
known_path (path names) d ss n = known_field names d ss n
known_path (cast t p) d ss n = known_path p d ss n
known_path (lit t v) d ss n = unknown
known_path root d ss n = unknown
known_path (add p q) d ss n = unknown
known_path (compare op p q) d ss n = unknown
known_path (both p q) d ss n = unknown
known_path (either p q) d ss n = unknown
known_path (negated p) d ss n = unknown
known_path (null_test p) d ss n = unknown
known_path (present_test p) d ss n = unknown

-- a literal is its own least and greatest value
abbrev pub known_value : Option Value → Known
known_value None = record { low = None; high = None; always_null = true; never_null = false }
known_value (Some v) = record { low = Some v; high = Some v; always_null = false; never_null = true }

abbrev pub known : Pred → Dtype → List Stats → ℕ → Known
known (lit t v) d ss n = known_value v
known root d ss n = unknown
known (path names) d ss n = known_field names d ss n
known (cast t p) d ss n = known_path p d ss n
known (add p q) d ss n = unknown
known (compare op p q) d ss n = unknown
known (both p q) d ss n = unknown
known (either p q) d ss n = unknown
known (negated p) d ss n = unknown
known (null_test p) d ss n = unknown
known (present_test p) d ss n = unknown

-- ---- never

-- a test of the order of two bounds, which fails where one is not known
abbrev pub ranked : (Ordering → Bool) → Option Value → Option Value → Bool
ranked test None b = false
ranked test (Some a) None = false
ranked test (Some a) (Some b) = test (value_cmp a b)

abbrev pub never_by : Comparison → Known → Known → Bool
never_by Eq a b = ranked is_lt a.high b.low || ranked is_lt b.high a.low
never_by Ne a b = ranked is_eq a.low a.high && (ranked is_eq a.high b.low && ranked is_eq b.low b.high)
never_by Lt a b = ranked is_ge a.low b.high
never_by Le a b = ranked is_gt a.low b.high
never_by Gt a b = ranked is_ge b.low a.high
never_by Ge a b = ranked is_gt b.low a.high

abbrev pub never_compare : Comparison → Known → Known → Bool
never_compare op a b = a.always_null || (b.always_null || never_by op a b)

abbrev pub is_false : Option Value → Bool
is_false None = false
is_false (Some (flag b)) = not b
is_false (Some (number n)) = false
is_false (Some (words t)) = false

abbrev pub never_true : Known → Bool
never_true k = k.always_null || is_false k.high

-- no row of so many satisfies the predicate
abbrev pub never : Pred → Dtype → List Stats → ℕ → Bool
never (lit t v) d ss n = not (is_true (to_truth (value_cell v)))
never root d ss n = false
never (path names) d ss n = never_true (known_field names d ss n)
never (cast t p) d ss n = false
never (add p q) d ss n = false
never (compare op p q) d ss n = never_compare op (known p d ss n) (known q d ss n)
never (both p q) d ss n = never p d ss n || never q d ss n
never (either p q) d ss n = never p d ss n && never q d ss n
never (negated p) d ss n = false
never (null_test p) d ss n = (known_path p d ss n).never_null
never (present_test p) d ss n = (known p d ss n).always_null
