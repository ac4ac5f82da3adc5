-- The values of a file's metadata, which are read before a script is answered.
use Rattle.std.specs.Prelude.{◌≡◌, ℕ, zero, suc, ◌+◌, ◌-◌, Bool, true, false, List, [], ◌∷◌, length, map, Option, Some, None, Result, Ok, Err, ◌⊎◌}
use Rattle.vx_base.specs.Buffer.{Buffer}
use Rattle.vx_base.specs.Caches.{CacheState}
use Rattle.vx_base.specs.Counts.{Rises}
use Rattle.vx_base.specs.Readers.{ReaderState}
use Rattle.vx_base.specs.declared.segment.SegmentId.{SegmentId}
use Rattle.vx_footer.specs.Footers.{FooterContent, spec_of}
use Rattle.vx_footer.specs.declared.postscript.PostscriptMetadata.{PostscriptMetadata}
use Rattle.vx_source.specs.Asks.{Grew, asked_by, bad_spans}
use Rattle.vx_source.specs.Bytes.{TellsSlices}
use Rattle.vx_source.specs.Fetching.{Fetches, StopsFetch}
use Rattle.vx_source.specs.Fits.{World}
use Rattle.vx_source.specs.Kept.{Kept}
use Rattle.vx_source.specs.Puts.{put_by}
use Rattle.vx_source.specs.declared.fetching.Fetched.{Fetched}
use Rattle.vx_source.specs.declared.reply.FailCause.{FailCause}
use Rattle.vx_source.specs.declared.reply.FailCause.TheVariants as cause
use Rattle.vx_source.specs.declared.reply.Reply.{Reply}
use Rattle.vx_source.specs.declared.reply.Reply.TheVariants.{Ready, Failed}
use Rattle.vx_source.specs.declared.span.Span.{Span}
use Rattle.vx_file.specs.declared.metadata.Loaded.{Loaded}
use Rattle.vx_file.specs.declared.metadata.MetadataValue.{MetadataValue}
use Rattle.vx_file.specs.declared.served.ServeError.{ServeError}
use Rattle.vx_file.specs.declared.served.ServeError.TheVariants as errors
use Rattle.vx_file.specs.Covered.{slice_of}

-- ---- numbers and values

-- so many numbers from one on
abbrev pub numbers_from : ℕ → ℕ → List SegmentId
numbers_from first zero = []
numbers_from first (suc n) = record { 0 = first } ∷ numbers_from (first + 1) n

-- the numbers of the metadata segments, which stand behind the data segments
abbrev pub metadata_ids : FooterContent → List SegmentId
metadata_ids f = numbers_from (length f.segments) (length f.metadata)

-- bytes under the key of an entry, with its alignment
abbrev pub keyed : PostscriptMetadata → Buffer → MetadataValue
keyed m buffer = record { key = m.key; value = record { bytes = buffer.bytes; alignment = m.segment.alignment } }

-- the values of entries, where each reply about one is ready
abbrev pub values_of : List PostscriptMetadata → List Reply → List MetadataValue
values_of [] replies = []
values_of (m ∷ ms) [] = []
values_of (m ∷ ms) (Ready buffer ∷ replies) = keyed m buffer ∷ values_of ms replies
values_of (m ∷ ms) (reply ∷ replies) = values_of ms replies

-- the bytes of an entry's segment under its key
abbrev pub value_in : List ℕ → PostscriptMetadata → MetadataValue
value_in file m = record { key = m.key; value = slice_of file (spec_of m.segment) }

-- the first entry that failed
abbrev pub first_failed : List Reply → Option FailCause
first_failed [] = None
first_failed (Failed c ∷ replies) = Some c
first_failed (reply ∷ replies) = first_failed replies

-- the range of a span
abbrev pub range_of : Span → ℕ × ℕ
range_of span = (span.start, span.end - span.start)

-- ---- the metadata drive

-- A drive for the metadata, in a history of its own: each metadata segment was registered in order, each number polled, one
-- drive made, and each pending number polled again.
pub record Drives (w : World) (footer : FooterContent) (cache cache_now : CacheState) (fetched : Fetched) : Type 0 where
  pub kept : Kept
  pub fetches : Fetches w [] cache cache_now (metadata_ids footer) fetched kept

-- the numbers of the segments that it put into the cache
abbrev pub put_numbers : (w : World) (footer : FooterContent) (cache cache_now : CacheState) (fetched : Fetched)
    → Drives w footer cache cache_now fetched → List ℕ
put_numbers w footer cache cache_now fetched d = put_by d.fetches.waiting fetched.spans

-- the values of the metadata were loaded: one for each entry, in order, which are their segments' bytes where the entries
-- of the cache are
pub record Loads (w : World) (file : List ℕ) (footer : FooterContent) (cache cache_now : CacheState) (l : Loaded) : Type 0 where
  pub fetched : Fetched
  pub drives : Drives w footer cache cache_now fetched
  pub spans : l.spans ≡ fetched.spans
  pub values : l.values ≡ values_of footer.metadata fetched.replies
  pub one_each : length l.values ≡ length footer.metadata
  pub true_of : TellsSlices file w.table cache → l.values ≡ map (value_in file) footer.metadata

-- a reader was asked for spans, of which so many failed
pub record AsksSpans (spans : List Span) (before now : ReaderState) : Type 0 where
  pub log : Grew (asked_by spans) before.log now.log
  pub rises : Rises (bad_spans spans) before.faults now.faults

-- the first entry of the metadata that failed has this cause
pub record LoadFails (w : World) (footer : FooterContent) (before now : ReaderState) (cache cache_now : CacheState) (c : FailCause) : Type 0 where
  pub fetched : Fetched
  pub drives : Drives w footer cache cache_now fetched
  pub first : first_failed fetched.replies ≡ Some c
  pub asks : AsksSpans fetched.spans before now

-- memory ran out while the metadata was fetched
pub record StopsDrives (w : World) (footer : FooterContent) (before now : ReaderState) (cache cache_now : CacheState) : Type 0 where
  pub kept : Kept
  pub stops : StopsFetch w [] before.log now.log cache cache_now (metadata_ids footer) kept

-- memory ran out behind that
pub record StopsBehind (w : World) (footer : FooterContent) (before now : ReaderState) (cache cache_now : CacheState) : Type 0 where
  pub fetched : Fetched
  pub drives : Drives w footer cache cache_now fetched
  pub asks : AsksSpans fetched.spans before now

-- memory ran out before the metadata was fetched, while it was, or behind that
abbrev pub StopsLoading : World → FooterContent → ReaderState → ReaderState → CacheState → CacheState → Type 0
StopsLoading w footer before now cache cache_now =
    (now.log ≡ before.log) ⊎ StopsDrives w footer before now cache cache_now ⊎ StopsBehind w footer before now cache cache_now

-- what loading the metadata answers
abbrev pub LoadCause : World → List ℕ → FooterContent → ReaderState → ReaderState → CacheState → CacheState → Result Loaded ServeError → Type 0
LoadCause w file footer before now cache cache_now (Ok l) = Loads w file footer cache cache_now l × AsksSpans l.spans before now
LoadCause w file footer before now cache cache_now (Err (errors.Open e)) = ⊥
LoadCause w file footer before now cache cache_now (Err (errors.Fault fault)) = LoadFails w footer before now cache cache_now (cause.Fault fault)
LoadCause w file footer before now cache cache_now (Err errors.CacheFault) = LoadFails w footer before now cache cache_now cause.Cache
LoadCause w file footer before now cache cache_now (Err errors.OutOfMemory) = StopsLoading w footer before now cache cache_now

-- where the metadata is not to be loaded, nothing was asked
pub record LoadsNothing (include : Bool) (before now : ReaderState) (cache cache_now : CacheState) : Type 0 where
  pub not_included : include ≡ false
  pub reader : now ≡ before
  pub cache_is : cache_now ≡ cache

-- what loading the metadata answers, where it may not be asked for
abbrev pub LoadIfCause : Bool → World → List ℕ → FooterContent → ReaderState → ReaderState → CacheState → CacheState
    → Result (Option Loaded) ServeError → Type 0
LoadIfCause include w file footer before now cache cache_now (Ok None) = LoadsNothing include before now cache cache_now
LoadIfCause include w file footer before now cache cache_now (Ok (Some l)) =
    (include ≡ true) × Loads w file footer cache cache_now l × AsksSpans l.spans before now
LoadIfCause include w file footer before now cache cache_now (Err e) =
    (let answer : Result Loaded ServeError = Err e in LoadCause w file footer before now cache cache_now answer)

-- the spans that were read, if the metadata was loaded, and the values
abbrev pub spans_of : Option Loaded → List Span
spans_of None = []
spans_of (Some l) = l.spans

abbrev pub values_in : Option Loaded → Option (List MetadataValue)
values_in None = None
values_in (Some l) = Some l.values
