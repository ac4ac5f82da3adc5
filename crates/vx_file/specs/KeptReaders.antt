-- Readers of layouts that files keep.
use Rattle.std.specs.Prelude.{ℕ, List, Option}
use Rattle.std.specs.Coded.{Coded, coded_option, coded×}
use Rattle.vx_data.specs.Codes.{tree_code}
use Rattle.vx_data.specs.Layout.{LayoutTree}
use Rattle.vx_footer.specs.FileStats.{FileStats}
use Rattle.vx_footer.specs.Footers.{FooterContent}
use Rattle.vx_prune.specs.StatsCodes.{file_stats_code}
use Rattle.vx_prune.specs.Tags.{tag_of}
use Rattle.vx_file.specs.declared.layout_readers.FileLayoutReader.{FileLayoutReader}
use Rattle.vx_file.specs.LayoutReaders.{layout_in, statistics_in}

-- what a reader is told apart by: its layout and its statistics
abbrev pub parts_code : Coded (LayoutTree × Option FileStats)
parts_code = coded× tree_code (coded_option file_stats_code)

abbrev pub tag_of_footer : FooterContent → List ℕ
tag_of_footer f = tag_of parts_code (f.layout, f.statistics)

abbrev pub tag_of_reader : FileLayoutReader → List ℕ
tag_of_reader r = tag_of parts_code (layout_in r, statistics_in r)
