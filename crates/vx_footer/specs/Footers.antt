-- A footer as plain data.
use Rattle.std.specs.Prelude.{ℕ, ◌+◌, List, ◌++◌, length, map, sum_by, slice_get, position, Option}
use Rattle.std.specs.Option.{option_and_then}
use Rattle.std.specs.Str.{bytes_eq}
use Rattle.vx_base.specs.declared.segment.SegmentSpec.{SegmentSpec}
use Rattle.vx_data.specs.Layout.{LayoutTree}
use Rattle.vx_footer.specs.FileStats.{FileStats}
use Rattle.vx_footer.specs.declared.version.FileVersion.{FileVersion}
use Rattle.vx_footer.specs.declared.postscript.PostscriptSegment.{PostscriptSegment}
use Rattle.vx_footer.specs.declared.postscript.PostscriptMetadata.{PostscriptMetadata}
use Rattle.vx_footer.specs.declared.postscript.Postscript.{Postscript}

-- the layout has the type of the rows. Metadata is in the order of the postscript
pub record FooterContent : Type 0 where
  pub version : FileVersion
  pub layout : LayoutTree
  pub segments : List SegmentSpec
  pub statistics : Option FileStats
  pub metadata : List PostscriptMetadata
  pub array_ids : List (List ℕ)

-- a footer, and how many bytes it takes in a file, where that is known
pub record FooterValue : Type 0 where
  pub content : FooterContent
  pub approx_byte_size : Option ℕ

-- ---- the segment table

abbrev pub spec_of : PostscriptSegment → SegmentSpec
spec_of s = record { offset = s.offset; length = s.length; alignment = s.alignment }

abbrev pub metadata_specs : List PostscriptMetadata → List SegmentSpec
metadata_specs entries = map (λ m. spec_of m.segment) entries

-- the data segments, and then those of the metadata
abbrev pub segment_table : FooterContent → List SegmentSpec
segment_table f = f.segments ++ metadata_specs f.metadata

-- where the value of a key lies
abbrev pub segment_of_key : List PostscriptMetadata → List ℕ → Option SegmentSpec
segment_of_key entries key = option_and_then (λ at. slice_get (metadata_specs entries) at) (position (λ m. bytes_eq m.key key) entries)

-- 16 and the key's length for each metadata entry
abbrev pub entries_size : List PostscriptMetadata → ℕ
entries_size entries = sum_by (λ m. 16 + length m.key) entries

-- the lengths of the footer's table and the layout's, and the metadata entries
abbrev pub approx_of : Postscript → ℕ
approx_of p = p.footer.length + p.layout.length + entries_size p.metadata
