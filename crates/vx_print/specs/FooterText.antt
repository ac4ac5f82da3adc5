-- The text of a footer.
use Rattle.std.specs.Prelude.{ℕ, ◌+◌, List, [], ◌∷◌, ◌++◌, length, codes, decimal, Option, Some, None}
use Rattle.std.specs.List.{flat_map}
use Rattle.vx_base.specs.declared.segment.SegmentSpec.{SegmentSpec}
use Rattle.vx_base.specs.Counts.{next_count}
use Rattle.vx_data.specs.declared.layout_kind.LayoutKind.{LayoutKind}
use Rattle.vx_data.specs.declared.layout_kind.LayoutKind.TheVariants.{Flat, Chunked, Struct}
use Rattle.vx_data.specs.declared.stats_set.Precision.{Precision}
use Rattle.vx_data.specs.declared.stats_set.Precision.TheVariants.{Exact, Inexact}
use Rattle.vx_data.specs.Dtype.{Dtype}
use Rattle.vx_data.specs.Layout.{LayoutTree, node, Layouts, no_layouts, a_layout, dtype_of, rows_of}
use Rattle.vx_data.specs.Scalar.{Value, scalar_text}
use Rattle.vx_data.specs.Stats.{Stats}
use Rattle.vx_data.specs.Texts.{quoted, dtype_text}
use Rattle.vx_footer.specs.declared.postscript.PostscriptMetadata.{PostscriptMetadata}
use Rattle.vx_footer.specs.FileStats.{FileStats}
use Rattle.vx_footer.specs.Footers.{FooterContent}
use Rattle.vx_print.specs.Lines.{numbers_after, line, numbered}

abbrev pub dtype_line : Dtype → List ℕ
dtype_line dtype = codes "dtype " ++ dtype_text dtype ++ 10 ∷ []

abbrev pub kind_name : LayoutKind → List ℕ
kind_name Flat = codes "flat"
kind_name Chunked = codes "chunked"
kind_name Struct = codes "struct"

-- how far below the root, the kind, the rows, and the segment of a flat one
abbrev pub layout_line : ℕ → LayoutKind → ℕ → List ℕ → List ℕ
layout_line depth kind rows segments = codes "layout " ++ decimal depth ++ codes " " ++ kind_name kind ++ numbers_after (rows ∷ segments) ++ 10 ∷ []

-- a layout's line, and behind it those of the layouts below
abbrev mutual
  pub layout_lines : ℕ → LayoutTree → List ℕ
  layout_lines depth (node kind dtype rows segments children) = layout_line depth kind rows segments ++ layouts_lines (next_count depth) children

  pub layouts_lines : ℕ → Layouts → List ℕ
  layouts_lines depth no_layouts = []
  layouts_lines depth (a_layout layout layouts) = layout_lines depth layout ++ layouts_lines depth layouts

abbrev pub segment_line : ℕ → SegmentSpec → List ℕ
segment_line i s = line (codes "segment") (i ∷ s.offset ∷ s.length ∷ s.alignment ∷ [])

-- `=` before an exact value, `?` before one that is a bound
abbrev pub precision_mark : Precision → List ℕ
precision_mark Exact = codes " ="
precision_mark Inexact = codes " ?"

-- `.` where a statistic is not known
abbrev pub stat_words : Option (Value × Precision) → List ℕ
stat_words None = codes " ."
stat_words (Some stat) = precision_mark stat.1 ++ scalar_text stat.0

abbrev pub stats_line : ℕ → Stats → List ℕ
stats_line i s = codes "stats " ++ decimal i ++ stat_words s.min ++ stat_words s.max ++ stat_words s.null_count ++ 10 ∷ []

abbrev pub stats_lines : Option FileStats → List ℕ
stats_lines None = []
stats_lines (Some statistics) = numbered stats_line 0 statistics.sets

abbrev pub array_line : ℕ → List ℕ → List ℕ
array_line i id = codes "array " ++ decimal i ++ codes " " ++ quoted id ++ 10 ∷ []

abbrev pub meta_line : PostscriptMetadata → List ℕ
meta_line m = codes "meta " ++ quoted m.key ++ numbers_after (m.segment.offset ∷ m.segment.length ∷ m.segment.alignment ∷ []) ++ 10 ∷ []

abbrev pub footer_text : FooterContent → List ℕ
footer_text f =
    line (codes "rows") (rows_of f.layout ∷ []) ++ dtype_line (dtype_of f.layout) ++ layout_lines 0 f.layout ++ numbered segment_line 0 f.segments ++
    stats_lines f.statistics ++ numbered array_line 0 f.array_ids ++ flat_map meta_line f.metadata
