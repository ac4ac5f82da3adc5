-- Readers of a file's layout.
use Rattle.std.specs.Prelude.{Option, Some, None}
use Rattle.vx_data.specs.Layout.{LayoutTree}
use Rattle.vx_footer.specs.FileStats.{FileStats}
use Rattle.vx_prune.specs.Readers.{layout_of, stats_of}
use Rattle.vx_rows.specs.LayoutReaders.{tree_of}
use Rattle.vx_file.specs.declared.layout_readers.FileLayoutReader.{FileLayoutReader}
use Rattle.vx_file.specs.declared.layout_readers.FileLayoutReader.TheVariants.{Plain, Stats}

-- the layout that a reader reads
abbrev pub layout_in : FileLayoutReader → LayoutTree
layout_in (Plain r) = tree_of r
layout_in (Stats r) = layout_of r

-- and its statistics
abbrev pub statistics_in : FileLayoutReader → Option FileStats
statistics_in (Plain r) = None
statistics_in (Stats r) = Some (stats_of r)
