-- What scanning a file by a reader gives.
use Rattle.std.specs.Prelude.{◌≡◌, ℕ, Bool, true, false, List, Option, Some, None, is_some, filter, Result, Ok, Err, ◌⊎◌}
use Rattle.std.specs.Option.{option_map}
use Rattle.vx_base.specs.Caches.{nothing_held}
use Rattle.vx_base.specs.Checks.{◌>>=◌}
use Rattle.vx_base.specs.Counts.{Rises}
use Rattle.vx_base.specs.Readers.{ReaderState}
use Rattle.vx_base.specs.declared.segment.SegmentId.{SegmentId}
use Rattle.vx_base.specs.declared.segment.SegmentSpec.{SegmentSpec}
use Rattle.vx_data.specs.Dtype.{Dtype}
use Rattle.vx_data.specs.Layout.{dtype_of as type_of_tree}
use Rattle.vx_footer.specs.Footers.{FooterContent, segment_table}
use Rattle.vx_rows.specs.Binding.{bound}
use Rattle.vx_rows.specs.LayoutRows.{rows_of}
use Rattle.vx_rows.specs.Predicates.{Pred}
use Rattle.vx_rows.specs.ReadRows.{no_rows}
use Rattle.vx_rows.specs.Rows.{Rows, dtype_of, column_view}
use Rattle.vx_rows.specs.Truth.{satisfies}
use Rattle.vx_rows.specs.declared.array_error.ArrayError.{ArrayError}
use Rattle.vx_rows.specs.declared.array_error.ArrayError.TheVariants as array_error
use Rattle.vx_rows.specs.declared.bind_error.BindError.{BindError}
use Rattle.vx_rows.specs.declared.column.Column.{Column}
use Rattle.vx_source.specs.Asks.{Grew}
use Rattle.vx_source.specs.Sources.{SourceState}
use Rattle.vx_source.specs.declared.reply.FailCause.TheVariants as cause
use Rattle.vx_source.specs.declared.segment_source.SourceError.TheVariants as source_error
use Rattle.vx_file.specs.declared.reader_scanning.ScanReaderError.{ScanReaderError}
use Rattle.vx_file.specs.declared.reader_scanning.ScanReaderError.TheVariants as errors
use Rattle.vx_file.specs.declared.scan_error.ScanError.{ScanError}
use Rattle.vx_file.specs.declared.scan_error.ScanError.TheVariants as scan_error
use Rattle.vx_file.specs.declared.served.ServeError.{ServeError}
use Rattle.vx_file.specs.declared.served.ServeError.TheVariants as serve_error
use Rattle.vx_file.specs.Kept.{all_rows}
use Rattle.vx_file.specs.Plans.{Plan}
use Rattle.vx_file.specs.Ranges.{opened}
use Rattle.vx_file.specs.Scanned.{Filter, is_skipped, matching, TellsOf}
use Rattle.vx_file.specs.Scans.{FlatLayout, flats_of, Segments, bytes_in, array_of, CanBeRead, FirstFails}
use Rattle.vx_file.specs.Serving.{RefusedFrom, SizeFault, TailFault, MetadataFault}

-- ---- the scan of a file

-- the filter that a predicate is on rows of a type, if one is given
abbrev pub filter_on : Option Pred → Dtype → Result (Option Filter) BindError
filter_on None d = Ok None
filter_on (Some p) d = bound p d >>= λ b. Ok (Some b)

-- all rows of a file, where each flat layout can be read
abbrev pub rows_in : List ℕ → FooterContent → Option Rows
rows_in file f = rows_of (bytes_in file (segment_table f)) f.array_ids f.layout

-- no rows where the file is skipped, else those that match
abbrev pub scan_by : Bool → Option Filter → List ℕ → FooterContent → Option Rows
scan_by true b file f = Some (no_rows (type_of_tree f.layout))
scan_by false b file f = option_map (matching b) (rows_in file f)

abbrev pub scan_of : Option Filter → List ℕ → FooterContent → Option Rows
scan_of b file f = scan_by (is_skipped b f) b file f

-- the rows of a file that satisfy a filter, in order, where what the footer tells is true of them
abbrev pub HasMatches : List ℕ → FooterContent → Filter → Rows → Type 0
HasMatches file f b c =
    (all : Rows) → rows_in file f ≡ Some all → TellsOf f all → all_rows c ≡ filter (satisfies b.0 b.1) (all_rows all)

-- what scanning a file of this footer by a predicate gives
pub record IsScanOf (file : List ℕ) (p : Option Pred) (f : FooterContent) (c : Rows) : Type 0 where
  pub chosen : Option Filter
  pub binds : filter_on p (type_of_tree f.layout) ≡ Ok chosen
  pub rows : scan_of chosen file f ≡ Some c
  pub matches : (b : Filter) → chosen ≡ Some b → HasMatches file f b c
  pub typed : dtype_of c ≡ type_of_tree f.layout

-- an opened file was scanned; one that is skipped was not read
pub record HasScan (file : List ℕ) (p : Option Pred) (f : FooterContent) (before now : ReaderState) (c : Rows) : Type 0 where
  pub is : IsScanOf file p f c
  pub unread : is_skipped is.chosen f ≡ true → now ≡ before

-- the predicate is not one on the rows of an opened file, which are not read
pub record IsUnbound (p : Option Pred) (f : FooterContent) (before now : ReaderState) (e : BindError) : Type 0 where
  pub fails : filter_on p (type_of_tree f.layout) ≡ Err e
  pub unread : now ≡ before

-- the first flat layout of an opened file that cannot be read fails so
pub record StopsAt (file : List ℕ) (p : Option Pred) (f : FooterContent) (Fails : Segments → List (List ℕ) → FlatLayout → Type 0)
    : Type 0 where
  pub chosen : Option Filter
  pub binds : filter_on p (type_of_tree f.layout) ≡ Ok chosen
  pub read : is_skipped chosen f ≡ false
  pub first : let bytes = bytes_in file (segment_table f) in
      FirstFails (CanBeRead bytes f.array_ids) (Fails bytes f.array_ids) (flats_of f.layout)

-- its segment is not in the file
abbrev pub IsMissing : SegmentId → Segments → List (List ℕ) → FlatLayout → Type 0
IsMissing id bytes ids f = (id.0 ≡ f.segment) × (bytes f.segment ≡ None)

-- the bytes of its segment are no array of its rows
abbrev pub IsUndecoded : ArrayError → SegmentId → Segments → List (List ℕ) → FlatLayout → Type 0
IsUndecoded e id bytes ids f = (id.0 ≡ f.segment) × (array_of bytes ids f ≡ Some (Err e))

-- its segment is in the file
abbrev pub IsThere : Segments → List (List ℕ) → FlatLayout → Type 0
IsThere bytes ids f = is_some (bytes f.segment) ≡ true

-- what scanning an opened file gives, or why it gives nothing
abbrev pub ScanCause : List ℕ → Option Pred → FooterContent → ReaderState → ReaderState → Result Column ScanReaderError → Type 0
ScanCause file p f before now (Ok c) = HasScan file p f before now (column_view c)
ScanCause file p f before now (Err (errors.Open e)) = ⊥
ScanCause file p f before now (Err (errors.Read fault)) = StopsAt file p f IsThere
ScanCause file p f before now (Err (errors.Unbound e)) = IsUnbound p f before now e
ScanCause file p f before now (Err (errors.MissingSegment id)) = StopsAt file p f (IsMissing id)
ScanCause file p f before now (Err (errors.BadArray id)) = StopsAt file p f (IsUndecoded array_error.BadArray id)
ScanCause file p f before now (Err (errors.UnknownEncoding id)) = StopsAt file p f (IsUndecoded array_error.UnknownEncoding id)
ScanCause file p f before now (Err errors.OutOfMemory) = Unit {0}

-- ---- opening and scanning

-- A plan opened a file, whose reader had then been asked for the opening ranges alone, unless the metadata was loaded; and
-- then this was so.
pub record OpensThen (plan : Plan) (include : Bool) (before : ReaderState) (Then : FooterContent → ReaderState → Type 0) : Type 0 where
  pub footer : FooterContent
  pub grammar : plan.footer ≡ Ok footer
  pub between : ReaderState
  pub asked : include ≡ false → Grew (opened plan.ranges) before.log between.log
  pub then : Then footer between

-- what opening a file by a plan and scanning it gives, or why it gives nothing
abbrev pub ScansBy : Plan → Bool → List ℕ → Option Pred → ReaderState → ReaderState → Result Column ScanReaderError → Type 0
ScansBy plan include file p before now (Err (errors.Open e)) = RefusedFrom plan before now e
ScansBy plan include file p before now (Err (errors.Read fault)) =
    SizeFault plan before now fault ⊎ TailFault plan before now fault
    ⊎ MetadataFault plan before now nothing_held (cause.Fault fault)
    ⊎ OpensThen plan include before (λ f between. StopsAt file p f IsThere)
ScansBy plan include file p before now (Err errors.OutOfMemory) = Unit {0}
ScansBy plan include file p before now answer = OpensThen plan include before (λ f between. ScanCause file p f between now answer)

-- a fault is answered only where the count of faults rose
abbrev pub ScanRose : ReaderState → ReaderState → Result Column ScanReaderError → Type 0
ScanRose before now (Err (errors.Read fault)) = Rises 1 before.faults now.faults
ScanRose before now answer = Unit {0}

-- ---- what a session gives

-- what a session over a table tells of its reader
abbrev pub source_by : List SegmentSpec → ReaderState → SourceState
source_by table reader = record { table = table; may_pass = false; faults = reader.faults; cache_faults = 0 }

-- what an error of a scan by a session is told as: it lacks a segment, or could not read it
abbrev pub IsTold : ScanError → ScanReaderError → Type 0
IsTold (scan_error.Segment id source_error.MissingSegment) told = told ≡ errors.MissingSegment id
IsTold (scan_error.Segment id (source_error.Fault fault)) told = told ≡ errors.Read fault
IsTold (scan_error.Segment id source_error.PastEnd) told = ⊥
IsTold (scan_error.Segment id source_error.CacheFault) told = ⊥
IsTold (scan_error.Segment id source_error.OutOfMemory) told = ⊥
IsTold (scan_error.BadArray id) told = told ≡ errors.BadArray id
IsTold (scan_error.UnknownEncoding id) told = told ≡ errors.UnknownEncoding id
IsTold scan_error.OutOfMemory told = told ≡ errors.OutOfMemory

abbrev pub AreTold : Result Column ScanError → Result Column ScanReaderError → Type 0
AreTold (Ok c) (Ok d) = column_view d ≡ column_view c
AreTold (Ok c) (Err told) = ⊥
AreTold (Err e) (Ok d) = ⊥
AreTold (Err e) (Err told) = IsTold e told

-- the errors of a scan by a session
abbrev pub IsOfSession : ScanError → Type 0
IsOfSession (scan_error.Segment id source_error.PastEnd) = ⊥
IsOfSession (scan_error.Segment id source_error.CacheFault) = ⊥
IsOfSession (scan_error.Segment id source_error.OutOfMemory) = ⊥
IsOfSession e = Unit {0}

-- what an error of opening is told as, over a cache that never fails
abbrev pub IsOpening : ServeError → ScanReaderError → Type 0
IsOpening (serve_error.Open e) told = told ≡ errors.Open e
IsOpening (serve_error.Fault fault) told = told ≡ errors.Read fault
IsOpening serve_error.CacheFault told = ⊥
IsOpening serve_error.OutOfMemory told = told ≡ errors.OutOfMemory
