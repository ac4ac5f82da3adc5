-- The statistics of rows: the least and the greatest value, and how many rows are null.
use Rattle.std.specs.Prelude.{ℕ, pos, Bool, true, false, if◌then◌else◌, nat_le, not, is_some}
use Rattle.std.specs.Prelude.{List, [], ◌∷◌, length, map, count_by, Option, Some, None}
use Rattle.std.specs.Option.{option_map}
use Rattle.std.specs.List.{list_any}
use Rattle.std.specs.declared.cmp.Ordering.{Ordering}
use Rattle.std.specs.declared.cmp.Ordering.TheVariants.{Equal}
use Rattle.std.specs.Ordering.{bool_cmp, int_cmp, nat_cmp, is_lt, flip_args}
use Rattle.std.specs.Cmp.Lexicographic.{slice_cmp}
use Rattle.vx_data.specs.declared.stats_set.Stat.{Stat}
use Rattle.vx_data.specs.declared.stats_set.Stat.TheVariants.{Min, Max, NullCount}
use Rattle.vx_data.specs.declared.stats_set.Precision.{Precision}
use Rattle.vx_data.specs.declared.stats_set.Precision.TheVariants.{Exact}
use Rattle.vx_data.specs.Scalar.{Value, flag, number, words}
use Rattle.vx_data.specs.Stats.{Stats}
use Rattle.vx_rows.specs.Rows.{Rows, bools, ints, texts, structs}

-- ---- the least of many

-- the first, unless the second is less
abbrev pub lesser : {A : Type 0} → (A → A → Ordering) → A → A → A
lesser cmp a b = if is_lt (cmp b a) then b else a

-- the same where either may lack
abbrev pub lesser_of : {A : Type 0} → (A → A → Ordering) → Option A → Option A → Option A
lesser_of cmp None b = b
lesser_of cmp (Some a) None = Some a
lesser_of cmp (Some a) (Some b) = Some (lesser cmp a b)

-- the greater instead
abbrev pub greater_of : {A : Type 0} → (A → A → Ordering) → Option A → Option A → Option A
greater_of cmp a b = lesser_of (flip_args cmp) a b

-- the least value of rows, if some row has one
abbrev pub least : {A : Type 0} → (A → A → Ordering) → List (Option A) → Option A
least cmp [] = None
least cmp (row ∷ rows) = lesser_of cmp row (least cmp rows)

abbrev pub greatest : {A : Type 0} → (A → A → Ordering) → List (Option A) → Option A
greatest cmp rows = least (flip_args cmp) rows

-- how many rows are null
abbrev pub nulls_in : {A : Type 0} → List (Option A) → ℕ
nulls_in rows = count_by (λ row. not (is_some row)) rows

-- ---- the rows of a column, some of which are not present

-- a row that is not present counts as null
abbrev pub masked : {A : Type 0} → List Bool → List (Option A) → List (Option A)
masked [] rows = []
masked (here ∷ present) [] = []
masked (here ∷ present) (row ∷ rows) = (if here then row else None) ∷ masked present rows

-- a struct that is there has no value of its own
abbrev pub there : Bool → Option (Unit {0})
there present = if present then Some tt else None

-- texts by their bytes
abbrev pub text_cmp : List ℕ → List ℕ → Ordering
text_cmp = slice_cmp nat_cmp

-- values of one kind: false is less than true, integers go by value and texts by bytes
abbrev pub value_cmp : Value → Value → Ordering
value_cmp (flag a) (flag b) = bool_cmp a b
value_cmp (number a) (number b) = int_cmp a b
value_cmp (words a) (words b) = text_cmp a b
value_cmp _ _ = Equal

-- what statistics tell of rows
pub record Summary : Type 0 where
  pub min : Option Value
  pub max : Option Value
  pub nulls : ℕ

abbrev pub summary_by : {A : Type 0} → (A → Value) → (A → A → Ordering) → List (Option A) → Summary
summary_by value cmp rows = record { min = option_map value (least cmp rows); max = option_map value (greatest cmp rows); nulls = nulls_in rows }

-- of the rows of a column. A struct has no least value
abbrev pub summary : List Bool → Rows → Summary
summary present (bools c) = summary_by flag bool_cmp (masked present c.rows)
summary present (ints c) = summary_by number int_cmp (masked present c.rows)
summary present (texts c) = summary_by words text_cmp (masked present c.rows)
summary present (structs c cs) = record { min = None; max = None; nulls = nulls_in (masked present (map there c.present)) }

-- ---- statistics

abbrev pub same_stat : Stat → Stat → Bool
same_stat Min Min = true
same_stat Max Max = true
same_stat NullCount NullCount = true
same_stat _ _ = false

abbrev pub wants : List Stat → Stat → Bool
wants wanted stat = list_any (same_stat stat) wanted

-- a text of more than 64 bytes is no minimum and no maximum
abbrev pub bound : Option Value → Option (Value × Precision)
bound None = None
bound (Some (flag b)) = Some (flag b, Exact)
bound (Some (number n)) = Some (number n, Exact)
bound (Some (words t)) = if nat_le (length t) 64 then Some (words t, Exact) else None

-- those that are wanted, all of them exact
abbrev pub stats_of : List Stat → Summary → Stats
stats_of wanted s = record {
  min = if wants wanted Min then bound s.min else None;
  max = if wants wanted Max then bound s.max else None;
  null_count = if wants wanted NullCount then Some (number (pos s.nulls), Exact) else None;
}

-- the statistics of the rows of a column
abbrev pub row_stats : List Stat → List Bool → Rows → Stats
row_stats wanted present c = stats_of wanted (summary present c)

-- what is kept of the columns so far: which statistics are wanted, how many rows there were, and what they tell
pub record Running : Type 0 where
  pub wanted : List Stat
  pub rows : ℕ
  pub seen : Summary
