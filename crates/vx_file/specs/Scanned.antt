-- The rows of a file that a scan gives.
use Rattle.std.specs.Prelude.{◌≡◌, ℕ, Bool, true, false, List, length, Option, Some, None, filter}
use Rattle.std.specs.Option.{option_map}
use Rattle.vx_data.specs.Dtype.{Dtype, bool, int, text, struct}
use Rattle.vx_data.specs.Layout.{dtype_of as type_of_tree, rows_of as tree_rows}
use Rattle.vx_footer.specs.FileStats.{FileStats}
use Rattle.vx_footer.specs.Footers.{FooterContent}
use Rattle.vx_prune.specs.Never.{never}
use Rattle.vx_prune.specs.Pruning.{AreTrueOf}
use Rattle.vx_rows.specs.declared.bound.Bound.{Bound}
use Rattle.vx_rows.specs.Bounds.{bound_view}
use Rattle.vx_rows.specs.LayoutRows.{rows_of}
use Rattle.vx_rows.specs.Predicates.{Pred}
use Rattle.vx_rows.specs.ReadRows.{no_rows}
use Rattle.vx_rows.specs.Rows.{Rows, rows_len, dtype_of, IsColumn}
use Rattle.vx_rows.specs.Truth.{satisfies, rows_satisfying}
use Rattle.vx_source.specs.Sources.{SourceState, SameSource}
use Rattle.vx_file.specs.Kept.{kept_rows, all_rows}
use Rattle.vx_file.specs.declared.scan_error.ScanError.{ScanError}
use Rattle.vx_file.specs.declared.scan_error.ScanError.TheVariants.{OutOfMemory}
use Rattle.vx_file.specs.Scans.{bytes_in, flats_of, NamesFirst}

-- a predicate that is bound to a type
abbrev pub Filter : Type 0
Filter = Pred × Dtype

abbrev pub filter_of : Option Bound → Option Filter
filter_of filter = option_map bound_view filter

-- ---- files that are not read

-- no row of so many satisfies a filter, as statistics tell; only structs have any
abbrev pub never_met : Filter → Dtype → Option FileStats → ℕ → Bool
never_met b (struct fs nullable) (Some stats) n = never b.0 b.1 stats.sets n
never_met b (struct fs nullable) None n = false
never_met b (bool nullable) stats n = false
never_met b (int ptype nullable) stats n = false
never_met b (text nullable) stats n = false

abbrev pub is_skipped : Option Filter → FooterContent → Bool
is_skipped None f = false
is_skipped (Some b) f = never_met b (type_of_tree f.layout) f.statistics (tree_rows f.layout)

-- ---- the rows of the others

-- all rows, or those that satisfy the filter
abbrev pub matching : Option Filter → Rows → Rows
matching None c = c
matching (Some b) c = kept_rows (rows_satisfying b.0 b.1 c) c

-- a column has the rows of a file that match
abbrev pub IsScan : (List ℕ → Type 0) → SourceState → FooterContent → Option Filter → Rows → Type 0
IsScan serves source f b c = (file : List ℕ) → serves file →
    (all : Rows) × (rows_of (bytes_in file source.table) f.array_ids f.layout ≡ Some all) × (c ≡ matching b all)

-- ---- both

-- the statistics of a footer are true of rows, and their number is right
pub record TellsOf (f : FooterContent) (all : Rows) : Type 0 where
  pub statistics : (stats : FileStats) → f.statistics ≡ Some stats → AreTrueOf stats.sets (all_rows all)
  pub count : length (all_rows all) ≡ tree_rows f.layout

-- the rows of a file that satisfy a filter, in order, where what the footer tells is true of them
abbrev pub HasMatching : (List ℕ → Type 0) → SourceState → FooterContent → Filter → Rows → Type 0
HasMatching serves source f b c = (file : List ℕ) (all : Rows) → serves file →
    rows_of (bytes_in file source.table) f.array_ids f.layout ≡ Some all → TellsOf f all →
    all_rows c ≡ filter (satisfies b.0 b.1) (all_rows all)

-- what a scan gives: no rows where the file is skipped, else those that match
pub record IsScanned (serves : List ℕ → Type 0) (source : SourceState) (f : FooterContent) (b : Option Filter) (c : Rows)
    : Type 0 where
  pub skipped : is_skipped b f ≡ true → c ≡ no_rows (type_of_tree f.layout)
  pub read : is_skipped b f ≡ false → IsScan serves source f b c
  pub matches : (p : Filter) → b ≡ Some p → HasMatching serves source f p c
  pub typed : dtype_of c ≡ type_of_tree f.layout
  pub sound : IsColumn (rows_len c) c

-- why a scan gives nothing: the first flat layout that fails, or want of memory
pub record ScanStopped (serves : List ℕ → Type 0) (before now : SourceState) (f : FooterContent) (b : Option Filter)
    (e : ScanError) : Type 0 where
  pub skipped : is_skipped b f ≡ true → e ≡ OutOfMemory
  pub first : NamesFirst serves before now f.array_ids (flats_of f.layout) e

-- the same, whatever the source is afterwards
abbrev pub ScanEnds : (List ℕ → Type 0) → SourceState → FooterContent → Option Filter → ScanError → Type 0
ScanEnds serves before f b e = (now : SourceState) × SameSource before now × ScanStopped serves before now f b e
