-- How a file is opened: its footer or the refusal, whether its size is asked, the ranges that are asked, and where the
-- tail begins that they give.
use Rattle.std.specs.Prelude.{ℕ, Bool, false, List, [], Option, Some, None, is_none, Result, unwrap_or}
use Rattle.vx_base.specs.Caches.{Segments}
use Rattle.vx_base.specs.Readers.{ReaderSettings}
use Rattle.vx_base.specs.declared.segment.SegmentSpec.{SegmentSpec}
use Rattle.vx_footer.specs.declared.error.OpenError.{OpenError}
use Rattle.vx_footer.specs.Footers.{FooterContent, segment_table}
use Rattle.vx_footer.specs.Opening.{vx_grammar, extent_check}
use Rattle.vx_source.specs.Fits.{World}
use Rattle.vx_source.specs.Stands.{world}
use Rattle.vx_file.specs.Covered.{covered_from}
use Rattle.vx_file.specs.Hints.{Hints}
use Rattle.vx_file.specs.Ranges.{tail_start, tail_ranges}

pub record Plan : Type 0 where
  pub footer : Result FooterContent OpenError
  pub asks_size : Bool
  pub ranges : List (ℕ × ℕ)
  pub start : Option ℕ

-- from the tail: the footer is that of the grammar
abbrev pub tail_plan : Hints → List ℕ → Plan
tail_plan hints file = record {
  footer = vx_grammar file hints.dtype;
  asks_size = is_none hints.size;
  ranges = tail_ranges hints file;
  start = Some (tail_start hints file);
}

-- the greatest end that a segment may have: the size that is supplied, or else the last offset
abbrev pub greatest_end : Option ℕ → ℕ
greatest_end size = unwrap_or size 18446744073709551615

-- by a footer that is supplied: nothing is read, and only the ends of its segments are checked
abbrev pub supplied_plan : Option ℕ → FooterContent → Plan
supplied_plan size footer = record { footer = extent_check (greatest_end size) footer; asks_size = false; ranges = []; start = None }

abbrev pub plan_with : Option FooterContent → Hints → List ℕ → Plan
plan_with None hints file = tail_plan hints file
plan_with (Some footer) hints file = supplied_plan hints.size footer

abbrev pub plan_of : Hints → List ℕ → Plan
plan_of hints file = plan_with hints.footer hints file

-- what the replies are about: a segment table, the settings of the reader, and where the tail begins, if one is read
abbrev pub table_world : List SegmentSpec → ReaderSettings → Option ℕ → World
table_world table settings start = world table settings.distance settings.max_read_size settings.concurrency start

abbrev pub world_of : Plan → FooterContent → ReaderSettings → World
world_of plan footer settings = table_world (segment_table footer) settings plan.start

-- the segments that the tail covers, if one is read
abbrev pub covered_by : Plan → List ℕ → FooterContent → Segments
covered_by plan file footer = covered_from file plan.start (segment_table footer)
