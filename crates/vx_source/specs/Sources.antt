-- What sources of segments tell, and what their calls answer.
use Rattle.std.specs.Prelude.{◌≡◌, ℕ, ◌+◌, ◌≤◌, ◌<◌, nat_le, Bool, true, false, List, [], length, Option, Some, None, Result, Ok, Err, OnOk, slice_get, if◌then◌else◌}
use Rattle.vx_base.specs.Buffer.{Buffer, bytes_at}
use Rattle.vx_base.specs.Counts.{Rises, last_count}
use Rattle.vx_base.specs.declared.segment.SegmentSpec.{SegmentSpec}
use Rattle.vx_sched.specs.declared.fault.Fault.{Fault}
use Rattle.vx_base.specs.Caches.{CacheState}
use Rattle.vx_base.specs.Readers.{ReaderState}
use Rattle.vx_source.specs.Bytes.{HasBytes, TellsSlices}
use Rattle.vx_source.specs.Fits.{World}
use Rattle.vx_source.specs.History.{Moment, made}
use Rattle.vx_source.specs.Kept.{Kept}
use Rattle.vx_source.specs.Stands.{Stands, EndsWithin}
use Rattle.vx_source.specs.declared.segment_source.SourceError.{SourceError}
use Rattle.vx_source.specs.declared.segment_source.SourceError.TheVariants as source_error

-- A source of segments: the segment table; whether a segment may pass the file's end; and its counts of faults of
-- reads and of the cache.
pub record SourceState : Type 0 where
  pub table : List SegmentSpec
  pub may_pass : Bool
  pub faults : ℕ
  pub cache_faults : ℕ

-- no call changes what a source is, and its counts never fall
pub record SameSource (before now : SourceState) : Type 0 where
  pub table : now.table ≡ before.table
  pub may_pass : now.may_pass ≡ before.may_pass
  pub never_falls : before.faults ≤ now.faults
  pub cache_never_falls : before.cache_faults ≤ now.cache_faults

-- What asking a source for a segment answers. A fault comes only where its count rose; a segment is missing only where
-- the table has none with the number, and then nothing else but want of memory comes.
pub record SegmentCause (segment : ℕ) (before now : SourceState) (found : Result Buffer SourceError) : Type 0 where
  pub inside : OnOk found (segment < length before.table)
  pub missing : found ≡ Err source_error.MissingSegment → length before.table ≤ segment
  pub passes : found ≡ Err source_error.PastEnd → (before.may_pass ≡ true) × (segment < length before.table)
  pub fault : (f : Fault) → found ≡ Err (source_error.Fault f) → Rises 1 before.faults now.faults × (segment < length before.table)
  pub cache : found ≡ Err source_error.CacheFault → Rises 1 before.cache_faults now.cache_faults × (segment < length before.table)

-- a file in memory, and its segments
pub record FileInMemory : Type 0 where
  pub buffer : Buffer
  pub table : List SegmentSpec

-- it never fails
abbrev pub in_memory : FileInMemory → SourceState
in_memory m = record { table = m.table; may_pass = true; faults = 0; cache_faults = 0 }

-- its segments are those of its bytes
abbrev pub IsFileInMemory : FileInMemory → List ℕ → Type 0
IsFileInMemory m file = m.buffer.bytes ≡ file

abbrev pub cut_from : Buffer → Option SegmentSpec → Result Buffer SourceError
cut_from buffer None = Err source_error.MissingSegment
cut_from buffer (Some s) =
    if nat_le (s.offset + s.length) (length buffer.bytes) then Ok (record { bytes = bytes_at buffer.bytes s.offset s.length; alignment = s.alignment })
    else Err source_error.PastEnd

-- a segment of a file in memory, or the first refusal
abbrev pub segment_in : FileInMemory → ℕ → Result Buffer SourceError
segment_in m segment = cut_from m.buffer (slice_get m.table segment)

-- what an error tells: want of memory may come in place of any answer
abbrev pub tells : SourceError → Result Buffer SourceError → Type 0
tells source_error.OutOfMemory answer = Unit {0}
tells error answer = answer ≡ Err error

-- ---- a session with its reader and its cache

-- its table, and the counts of its parts
abbrev pub in_session : Kept → ReaderState → CacheState → SourceState
in_session k reader cache = record { table = k.table; may_pass = false; faults = reader.faults; cache_faults = cache.faults }

-- the reader tells a file, of which the session has the bytes and the cache the segments
pub record ShareFile (k : Kept) (reader : ReaderState) (cache : CacheState) (file : List ℕ) : Type 0 where
  pub told : reader.bytes ≡ Some file
  pub bytes : HasBytes file k
  pub slices : TellsSlices file k.table cache

abbrev pub AreOfFile : Kept → ReaderState → CacheState → List ℕ → Type 0
AreOfFile k reader cache file = ∥ ShareFile k reader cache file ∥₁

-- the reader tells a file, in which each segment ends, and never fails
pub record NeverFails (k : Kept) (reader : ReaderState) (file : List ℕ) : Type 0 where
  pub told : reader.bytes ≡ Some file
  pub never : reader.never_fails ≡ true
  pub within : EndsWithin (length file) k.table

-- a session stands for some history
abbrev pub HasHistory : Kept → Type 0
HasHistory k = ∥ ((w : World) × (past : List Moment) × Stands w past k) ∥₁

-- the history that a fetch of so many segments goes on from: the numbers begin anew where they would pass the greatest
abbrev pub history_for : ℕ → List Moment → List Moment
history_for count past = if nat_le (made past + count) last_count then past else []
