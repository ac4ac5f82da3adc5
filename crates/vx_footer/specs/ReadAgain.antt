-- Which footers are read again from the file that they end, and what is read.
use Rattle.std.specs.Prelude.{◌≡◌, ℕ, ◌<◌, ◌≤◌, ◌+◌, ◌%◌, ◌^◌, ◌==◌, Bool, true, false, if◌then◌else◌, List, [], ◌∷◌, length, Option, Some, None, IfSome}
use Rattle.std.specs.List.{AllByRecursion}
use Rattle.std.specs.Str.{is_utf8}
use Rattle.vx_base.specs.declared.segment.SegmentSpec.{SegmentSpec}
use Rattle.vx_base.specs.Buffer.{Buffer}
use Rattle.vx_data.specs.declared.layout_kind.LayoutKind.{LayoutKind}
use Rattle.vx_data.specs.Dtype.{Dtype}
use Rattle.vx_data.specs.DtypeWritten.{HasTexts}
use Rattle.vx_data.specs.Layout.{LayoutTree, node, Layouts, no_layouts, a_layout, dtype_of, Fits}
use Rattle.vx_data.specs.Stats.{Stats}
use Rattle.vx_data.specs.StatsTable.{columns_of, stats_of}
use Rattle.vx_data.specs.StatsWritten.{entry_of}
use Rattle.vx_tables.specs.Standing.{AreUtf8}
use Rattle.vx_footer.specs.FileStats.{FileStats}
use Rattle.vx_footer.specs.Footers.{FooterContent}
use Rattle.vx_footer.specs.Opening.{are_ordered}
use Rattle.vx_footer.specs.declared.postscript.PostscriptMetadata.{PostscriptMetadata}
use Rattle.vx_footer.specs.PostscriptWritten.{IsEntry}
use Rattle.vx_footer.specs.Serializing.{Serializing, keys_by, are_distinct}

-- ---- what is read

-- statistics without sets are read as none
abbrev pub stats_read : Option FileStats → Option FileStats
stats_read None = None
stats_read (Some stats) = if length stats.sets == 0 then None else Some stats

abbrev pub content_read : FooterContent → FooterContent
content_read f = record f { statistics = stats_read f.statistics }

-- ---- layouts

abbrev pub list_of : Layouts → List LayoutTree
list_of no_layouts = []
list_of (a_layout t ts) = t ∷ list_of ts

-- a node that fits its type, and whose numbers fit their widths
pub record IsNode (k : LayoutKind) (d : Dtype) (n : ℕ) (s : List ℕ) (ts : Layouts) : Type 0 where
  pub fits : Fits k d n s (list_of ts)
  pub rows : n < 2 ^ 64
  pub segments : AllByRecursion (λ (m : ℕ). m < 2 ^ 32) s

abbrev mutual
  -- and so of each node of a tree
  pub IsLaid : LayoutTree → Type 0
  IsLaid (node k d n s ts) = IsNode k d n s ts × AreLaid ts

  pub AreLaid : Layouts → Type 0
  AreLaid no_layouts = Unit {0}
  AreLaid (a_layout t ts) = IsLaid t × AreLaid ts

-- ---- statistics

-- the values of a set are those of a type
pub record IsSet (d : Dtype) (s : Stats) : Type 0 where
  pub again : stats_of d (entry_of d s) ≡ Some s
  pub count : IfSome (entry_of d s).null_count (λ n. n < 2 ^ 64)

abbrev pub AreSets : List Stats → List Dtype → Type 0
AreSets [] [] = Unit {0}
AreSets [] (d ∷ ds) = ⊥
AreSets (s ∷ ss) [] = ⊥
AreSets (s ∷ ss) (d ∷ ds) = IsSet d s × AreSets ss ds

-- a set for each column of a type
pub record AreStats (d : Dtype) (stats : FileStats) : Type 0 where
  pub dtypes : stats.dtypes ≡ columns_of d
  pub sets : AreSets stats.sets (columns_of d)

-- ---- segments

-- a segment whose numbers fit their widths
pub record IsSegment (size : ℕ) (s : SegmentSpec) : Type 0 where
  pub offset : s.offset < 2 ^ 64
  pub short : s.length < 2 ^ 32
  pub aligned : s.alignment ≤ 16
  pub inside : s.offset + s.length ≤ size

-- ---- metadata

-- an entry of a file of this size
pub record IsPlaced (size : ℕ) (m : PostscriptMetadata) : Type 0 where
  pub entry : IsEntry m
  pub aligned : m.segment.offset % 2 ^ m.segment.alignment ≡ 0
  pub inside : m.segment.offset + m.segment.length ≤ size

-- a value whose key is a text
pub record IsValue (v : List ℕ × Buffer) : Type 0 where
  pub key : is_utf8 v.0 ≡ true
  pub aligned : v.1.alignment ≤ 16

-- ---- footers

-- a footer that is read again from a file of this size, where a serializer was told so of it
pub record IsReadable (size : ℕ) (s : Serializing) : Type 0 where
  pub layout : IsLaid s.content.layout
  pub stats : IfSome s.content.statistics (AreStats (dtype_of s.content.layout))
  pub ids : AreUtf8 s.content.array_ids
  pub segments : AllByRecursion (IsSegment size) s.content.segments
  pub ordered : are_ordered s.content.segments ≡ true
  pub own : AllByRecursion (IsPlaced size) s.content.metadata
  pub values : AllByRecursion IsValue s.values
  pub distinct : are_distinct (keys_by s.content.metadata s.values) ≡ true

-- a type that is supplied is the one of the rows; where none is, it is written, and its names are texts
abbrev pub IsSupplied : Option Dtype → Bool → Dtype → Type 0
IsSupplied (Some e) excluded d = e ≡ d
IsSupplied None excluded d = (excluded ≡ false) × HasTexts d
