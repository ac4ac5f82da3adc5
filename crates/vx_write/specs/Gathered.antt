-- The statistics of a file: a set for each field of a struct, or one for rows of another type.
use Rattle.std.specs.Prelude.{◌≡◌, ℕ, zero, suc, ◌+◌, ◌<◌, ◌^◌, Bool, true, List, [], ◌∷◌, ◌++◌, length, map, replicate, Option, Some, None}
use Rattle.vx_data.specs.declared.stats_set.Stat.{Stat}
use Rattle.vx_data.specs.Dtype.{Dtype}
use Rattle.vx_data.specs.Stats.{Stats}
use Rattle.vx_data.specs.StatsTable.{columns_of}
use Rattle.vx_footer.specs.FileStats.{FileStats}
use Rattle.vx_rows.specs.Parts.{appended}
use Rattle.vx_rows.specs.Rows.{Rows, FieldRows, bools, ints, texts, structs, no_columns, column, rows_len, dtype_of}
use Rattle.vx_rows.specs.RowStats.{Running, summary, row_stats}

-- a column, and which of its rows are there
abbrev pub Counted : Type 0
Counted = List Bool × Rows

-- the fields of structs, of which these are there
abbrev pub counted_fields : List Bool → FieldRows → List Counted
counted_fields present no_columns = []
counted_fields present (column name c cs) = (present, c) ∷ counted_fields present cs

-- the columns of a file that have statistics
abbrev pub counted_columns : Rows → List Counted
counted_columns (structs s cs) = counted_fields s.present cs
counted_columns (bools c) = (replicate (length c.rows) true, bools c) ∷ []
counted_columns (ints c) = (replicate (length c.rows) true, ints c) ∷ []
counted_columns (texts c) = (replicate (length c.rows) true, texts c) ∷ []

-- what is kept of a column
abbrev pub running : List Stat → Counted → Running
running wanted x = record { wanted = wanted; rows = rows_len x.1; seen = summary x.0 x.1 }

-- of each column of the rows so far
abbrev pub gathered : List Stat → Rows → List Running
gathered wanted c = map (running wanted) (counted_columns c)

-- the statistics of all rows, true of them
abbrev pub set_of : List Stat → Counted → Stats
set_of wanted x = row_stats wanted x.0 x.1

abbrev pub sets_of : List Stat → Rows → List Stats
sets_of wanted c = map (set_of wanted) (counted_columns c)

-- none where none are wanted
abbrev pub file_stats : List Stat → Dtype → Rows → Option FileStats
file_stats [] d c = None
file_stats (stat ∷ more) d c = Some (record { sets = sets_of (stat ∷ more) c; dtypes = columns_of d })

-- ---- columns, and behind them others of the same types

abbrev pub both : Counted → Counted → Counted
both a b = (a.0 ++ b.0, appended a.1 b.1)

-- of which the first ones are still alone
abbrev pub half_both : List Stat → ℕ → List Counted → List Counted → List Running
half_both wanted k [] news = []
half_both wanted k (a ∷ olds) [] = running wanted a ∷ half_both wanted k olds []
half_both wanted zero (a ∷ olds) (b ∷ news) = running wanted (both a b) ∷ half_both wanted zero olds news
half_both wanted (suc k) (a ∷ olds) (b ∷ news) = running wanted a ∷ half_both wanted k olds news

pub record ArePair (a b : Counted) : Type 0 where
  pub first : length a.0 ≡ rows_len a.1
  pub second : length b.0 ≡ rows_len b.1
  pub types : dtype_of a.1 ≡ dtype_of b.1
  pub few : rows_len a.1 + rows_len b.1 < 2 ^ 64

abbrev pub ArePairs : List Counted → List Counted → Type 0
ArePairs [] [] = Unit {0}
ArePairs [] (b ∷ news) = ⊥
ArePairs (a ∷ olds) [] = ⊥
ArePairs (a ∷ olds) (b ∷ news) = ArePair a b × ArePairs olds news
