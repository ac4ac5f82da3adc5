-- Readers of layouts with statistics.
use Rattle.std.specs.Prelude.{Bool, false, if◌then◌else◌, List, length, replicate}
use Rattle.vx_data.specs.Layout.{LayoutTree, dtype_of, rows_of}
use Rattle.vx_rows.specs.LayoutReaders.{tree_of}
use Rattle.vx_rows.specs.Predicates.{Pred}
use Rattle.vx_footer.specs.FileStats.{FileStats}
use Rattle.vx_prune.specs.declared.file_stats_layout_reader.FileStatsLayoutReader.{FileStatsLayoutReader}
use Rattle.vx_prune.specs.Never.{never}

-- the layout and the statistics of a reader
abbrev pub layout_of : FileStatsLayoutReader → LayoutTree
layout_of r = tree_of r.child

abbrev pub stats_of : FileStatsLayoutReader → FileStats
stats_of r = r.stats

-- whether the statistics of a reader tell that none of its rows satisfies a predicate
abbrev pub is_pruned : Pred → FileStatsLayoutReader → Bool
is_pruned p r = never p (dtype_of (layout_of r)) (stats_of r).sets (rows_of (layout_of r))

-- a mask, or as many rows that are all false
abbrev pub mask_where : Bool → List Bool → List Bool
mask_where pruned mask = if pruned then replicate (length mask) false else mask
