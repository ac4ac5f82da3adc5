-- What a file is: the opening checks in order, each a named condition on the whole file and the supplied dtype, and
-- the footer where all of them hold. The first check that fails names the refusal.
use Rattle.std.specs.Prelude.{◌≡◌, ℕ, ◌≤◌, ◌+◌, ◌-◌, ◌%◌, ◌^◌, Bool, true, ◌&&◌, ◌||◌, not, ◌==◌, nat_le, min, if◌then◌else◌, List, [], ◌∷◌, ◌++◌, length, take, drop, codes, Option, Some, None, is_some, Result, Ok, Err}
use Rattle.std.specs.Int.{w16, from_le_bytes}
use Rattle.std.specs.List.{list_all, list_any}
use Rattle.std.specs.Option.{option_map}
use Rattle.std.specs.Str.{bytes_eq}
use Rattle.vx_base.specs.Buffer.{bytes_at}
use Rattle.vx_base.specs.Checks.{◌>>=◌, ◌unless◌, ◌lacking◌}
use Rattle.vx_base.specs.declared.segment.SegmentSpec.{SegmentSpec}
use Rattle.vx_tables.specs.Counted.{allowed}
use Rattle.vx_data.specs.declared.data_error.DataError.{DataError}
use Rattle.vx_data.specs.declared.data_error.DataError.TheVariants as table
use Rattle.vx_data.specs.Dtype.{Dtype}
use Rattle.vx_data.specs.DtypeTable.{dtype_checks}
use Rattle.vx_data.specs.LayoutTable.{layout_checks}
use Rattle.vx_data.specs.StatsTable.{columns_of, stats_checks}
use Rattle.vx_footer.specs.declared.error.OpenError.{OpenError}
use Rattle.vx_footer.specs.declared.error.OpenError.TheVariants.{TooSmall, BadMagic, BadVersion, PostscriptTooLong, BadTable, Unsupported, TooManyMetadata, EmptyKey, LongKey, DuplicateKey, BadAlignment, MissingDType, OutOfBounds, StatsCount, PastEnd, UnknownEncoding, Unordered, OutOfMemory}
use Rattle.vx_footer.specs.declared.error.Which.{Which}
use Rattle.vx_footer.specs.declared.error.Which.TheVariants as which
use Rattle.vx_footer.specs.declared.version.FileVersion.{FileVersion}
use Rattle.vx_footer.specs.declared.version.FileVersion.TheVariants.{V1, V2}
use Rattle.vx_footer.specs.declared.postscript.PostscriptSegment.{PostscriptSegment}
use Rattle.vx_footer.specs.declared.postscript.PostscriptMetadata.{PostscriptMetadata}
use Rattle.vx_footer.specs.declared.postscript.Postscript.{Postscript}
use Rattle.vx_footer.specs.declared.rows.Locator.{Locator}
use Rattle.vx_footer.specs.declared.rows.MetadataRow.{MetadataRow}
use Rattle.vx_footer.specs.declared.rows.PostscriptRow.{PostscriptRow}
use Rattle.vx_footer.specs.Tables.{postscript_table, footer_table}
use Rattle.vx_footer.specs.FileStats.{FileStats}
use Rattle.vx_footer.specs.Footers.{FooterContent, segment_table}

-- ---- the end marker: a version, the postscript's length, and the magic

-- the last eight bytes
abbrev pub marker_of : List ℕ → List ℕ
marker_of file = drop (length file - 8) file

abbrev pub version_number : List ℕ → ℕ
version_number file = from_le_bytes w16 (take 2 (marker_of file))

abbrev pub version_of : ℕ → Option FileVersion
version_of n = if n == 1 then Some V1 else if n == 2 then Some V2 else None

abbrev pub postscript_length : List ℕ → ℕ
postscript_length file = from_le_bytes w16 (take 2 (drop 2 (marker_of file)))

abbrev pub ends_with_magic : List ℕ → Bool
ends_with_magic file = bytes_eq (drop 4 (marker_of file)) (codes "VTXF")

-- the postscript stands directly before the end marker
abbrev pub postscript_bytes : List ℕ → List ℕ
postscript_bytes file = bytes_at file (length file - 8 - postscript_length file) (postscript_length file)

-- the checks on the end marker, which give the version
unfoldable pub marker_checks : List ℕ → Result FileVersion OpenError
marker_checks file = do
  _ ← TooSmall unless nat_le 8 (length file)
  _ ← BadMagic unless ends_with_magic file
  version ← BadVersion lacking version_of (version_number file)
  _ ← PostscriptTooLong unless nat_le (postscript_length file) 65527
  Ok version

-- the checks on the end marker and the postscript's place, which give the version and the postscript's bytes
unfoldable pub end_checks : List ℕ → Result (FileVersion × List ℕ) OpenError
end_checks file = do
  version ← marker_checks file
  _ ← TooSmall unless nat_le (postscript_length file + 8) (length file)
  Ok (version, postscript_bytes file)

-- ---- the postscript

-- a test of what is there
abbrev pub passes : {A : Type 0} → (A → Bool) → Option A → Bool
passes test None = true
passes test (Some x) = test x

abbrev pub is_plain : Locator → Bool
is_plain l = not l.is_coded

-- no segment names compression or encryption
abbrev pub all_plain : PostscriptRow → Bool
all_plain p = passes is_plain p.dtype && is_plain p.layout && passes is_plain p.statistics && is_plain p.footer && list_all (λ e. is_plain e.segment) p.metadata

-- how many metadata entries a file may have, and how long their keys may be
abbrev pub most_entries : FileVersion → ℕ
most_entries V1 = 16
most_entries V2 = 64

abbrev pub longest_key : FileVersion → ℕ
longest_key V1 = 64
longest_key V2 = 256

-- a segment whose exponent is at most 16
abbrev pub aligned : Locator → Option PostscriptSegment
aligned l = if nat_le l.exponent 16 then Some (record { offset = l.offset; length = l.length; alignment = l.exponent }) else None

abbrev pub aligned_if_any : Option Locator → Option (Option PostscriptSegment)
aligned_if_any None = Some None
aligned_if_any (Some l) = option_map (λ s. Some s) (aligned l)

abbrev pub has_key : List PostscriptMetadata → List ℕ → Bool
has_key entries key = list_any (λ m. bytes_eq m.key key) entries

-- the checks on a metadata entry behind others
unfoldable pub entry_checks : FileVersion → List PostscriptMetadata → MetadataRow → Result PostscriptMetadata OpenError
entry_checks version earlier e = do
  segment ← BadAlignment lacking aligned e.segment
  _ ← EmptyKey unless not (length e.key == 0)
  _ ← LongKey unless nat_le (length e.key) (longest_key version)
  _ ← DuplicateKey unless not (has_key earlier e.key)
  Ok (record { key = e.key; segment = segment })

-- the entries that were checked, and those that come behind them, in order
unfoldable pub entries_checks : FileVersion → List PostscriptMetadata → List MetadataRow → Result (List PostscriptMetadata) OpenError
entries_checks version earlier [] = Ok earlier
entries_checks version earlier (e ∷ es) = entry_checks version earlier e >>= λ m. entries_checks version (earlier ++ m ∷ []) es

-- the checks on the alignments of the tables
unfoldable pub places_checks : Option Locator → Locator → Option Locator → Locator → List PostscriptMetadata → Result Postscript OpenError
places_checks dtype layout statistics footer metadata = do
  d ← BadAlignment lacking aligned_if_any dtype
  l ← BadAlignment lacking aligned layout
  s ← BadAlignment lacking aligned_if_any statistics
  f ← BadAlignment lacking aligned footer
  Ok (record { dtype = d; layout = l; statistics = s; footer = f; metadata = metadata })

-- the checks on the postscript
unfoldable pub postscript_checks : FileVersion → List ℕ → Result Postscript OpenError
postscript_checks version bytes = do
  p ← BadTable which.Postscript lacking allowed (postscript_table bytes)
  _ ← Unsupported unless all_plain p
  _ ← TooManyMetadata unless nat_le (length p.metadata) (most_entries version)
  metadata ← entries_checks version [] p.metadata
  places_checks p.dtype p.layout p.statistics p.footer metadata

-- ---- the tail: the end marker and the postscript, and that a dtype is supplied or named

unfoldable pub tail_checks : Option Dtype → List ℕ → Result (FileVersion × Postscript) OpenError
tail_checks dtype file = do
  end ← end_checks file
  p ← postscript_checks end.0 end.1
  _ ← MissingDType unless (is_some dtype || is_some p.dtype)
  Ok (end.0, p)

-- ---- the tables that are needed: the dtype where none is supplied, the statistics where they are named, the
-- layout and the footer

abbrev pub needed_dtype : Option Dtype → Option PostscriptSegment → Option PostscriptSegment
needed_dtype None place = place
needed_dtype (Some d) place = None

-- the lesser of an offset and that of a table, where there is one
abbrev pub lesser : Option PostscriptSegment → ℕ → ℕ
lesser None offset = offset
lesser (Some s) offset = min s.offset offset

abbrev pub least_offset : Option Dtype → Postscript → ℕ
least_offset dtype p = lesser (needed_dtype dtype p.dtype) (lesser p.statistics (min p.layout.offset p.footer.offset))

-- ---- the tables

-- the bytes of a table that lies in the file
abbrev pub table_bytes : List ℕ → PostscriptSegment → Option (List ℕ)
table_bytes file s = if nat_le (s.offset + s.length) (length file) then Some (bytes_at file s.offset s.length) else None

-- which refusal of a file the refusal of a table is
abbrev pub refusal_of : Which → DataError → OpenError
refusal_of which table.BadTable = BadTable which
refusal_of which table.Unsupported = Unsupported
refusal_of which table.UnknownEncoding = UnknownEncoding
refusal_of which table.StatsCount = StatsCount
refusal_of which table.OutOfMemory = OutOfMemory

abbrev pub of_table : {A : Type 0} → Which → Result A DataError → Result A OpenError
of_table which (Ok x) = Ok x
of_table which (Err e) = Err (refusal_of which e)

-- the dtype of the rows: the supplied one, or that of the table that is named
abbrev pub dtype_found : (PostscriptSegment → Option (List ℕ)) → Option Dtype → Option PostscriptSegment → Result Dtype OpenError
dtype_found piece (Some d) place = Ok d
dtype_found piece None None = Err MissingDType
dtype_found piece None (Some s) = OutOfBounds lacking piece s >>= λ bytes. of_table which.DType (dtype_checks bytes)

-- the statistics of a table: one set for each field of a struct, or one
abbrev pub statistics_in : Dtype → List ℕ → Result FileStats OpenError
statistics_in d bytes = of_table which.Statistics (stats_checks d bytes) >>= λ sets. Ok (record { sets = sets; dtypes = columns_of d })

-- the statistics, where they are named
abbrev pub statistics_found : (PostscriptSegment → Option (List ℕ)) → Dtype → Option PostscriptSegment → Result (Option FileStats) OpenError
statistics_found piece d None = Ok None
statistics_found piece d (Some s) = OutOfBounds lacking piece s >>= λ bytes. statistics_in d bytes >>= λ stats. Ok (Some stats)

-- the offset of a metadata segment is a multiple of its alignment
abbrev pub is_placed : PostscriptMetadata → Bool
is_placed m = m.segment.offset % 2 ^ m.segment.alignment == 0

abbrev pub aligned_spec : Locator → Option SegmentSpec
aligned_spec l = if nat_le l.exponent 16 then Some (record { offset = l.offset; length = l.length; alignment = l.exponent }) else None

-- a segment before others, where all are there
abbrev pub spec_before : Option SegmentSpec → Option (List SegmentSpec) → Option (List SegmentSpec)
spec_before None ss = None
spec_before (Some s) None = None
spec_before (Some s) (Some ss) = Some (s ∷ ss)

abbrev pub aligned_specs : List Locator → Option (List SegmentSpec)
aligned_specs [] = Some []
aligned_specs (l ∷ ls) = spec_before (aligned_spec l) (aligned_specs ls)

-- no offset is below the one before it
abbrev pub rise_from : ℕ → List SegmentSpec → Bool
rise_from least [] = true
rise_from least (s ∷ ss) = nat_le least s.offset && rise_from s.offset ss

abbrev pub are_ordered : List SegmentSpec → Bool
are_ordered ss = rise_from 0 ss

-- the checks on the data segments: their alignments, then their order
unfoldable pub segments_checks : List Locator → Result (List SegmentSpec) OpenError
segments_checks ls = do
  segments ← BadAlignment lacking aligned_specs ls
  _ ← Unordered unless are_ordered segments
  Ok segments

-- the checks on the footer's table and the layout's
unfoldable pub content_checks : FileVersion → Dtype → Option FileStats → List PostscriptMetadata → List ℕ → List ℕ → Result FooterContent OpenError
content_checks version d statistics metadata footer_bytes layout_bytes = do
  f ← BadTable which.Footer lacking allowed (footer_table footer_bytes)
  _ ← Unsupported unless list_all is_plain f.segments
  layout ← of_table which.Layout (layout_checks f.layouts d layout_bytes)
  segments ← segments_checks f.segments
  Ok (record { version = version; layout = layout; segments = segments; statistics = statistics; metadata = metadata; array_ids = f.arrays })

-- the checks on the tables, which are got by `piece`
unfoldable pub table_checks : (PostscriptSegment → Option (List ℕ)) → Option Dtype → FileVersion → Postscript → Result FooterContent OpenError
table_checks piece dtype version p = do
  d ← dtype_found piece dtype p.dtype
  statistics ← statistics_found piece d p.statistics
  _ ← BadAlignment unless list_all is_placed p.metadata
  footer_bytes ← OutOfBounds lacking piece p.footer
  layout_bytes ← OutOfBounds lacking piece p.layout
  content_checks version d statistics p.metadata footer_bytes layout_bytes

-- ---- the file

-- a segment ends within a file of this size
abbrev pub ends_within : ℕ → SegmentSpec → Bool
ends_within size s = nat_le (s.offset + s.length) size

abbrev pub EndsWithin : ℕ → SegmentSpec → Type 0
EndsWithin size s = s.offset + s.length ≤ size

-- each segment ends within a file of this size
abbrev pub extent_check : ℕ → FooterContent → Result FooterContent OpenError
extent_check size f = PastEnd unless list_all (ends_within size) (segment_table f) >>= λ _. Ok f

-- the footer that the tables of a file give, before its extent is looked at
unfoldable pub footer_of : List ℕ → Option Dtype → Result FooterContent OpenError
footer_of file dtype = do
  tail ← tail_checks dtype file
  table_checks (table_bytes file) dtype tail.0 tail.1

-- the footer of a file, or the refusal of the first check that fails
unfoldable pub vx_grammar : List ℕ → Option Dtype → Result FooterContent OpenError
vx_grammar file dtype = footer_of file dtype >>= extent_check (length file)

-- ---- what a function answers

-- what an error tells: it is what the definition gives, unless memory ran out
abbrev pub Fails : {A : Type 0} → OpenError → Result A OpenError → Type 0
Fails OutOfMemory answer = Unit {0}
Fails e answer = answer ≡ Err e
