-- What opening a file by a reader gives.
use Rattle.std.specs.Prelude.{◌≡◌, ℕ, Bool, List, [], ◌++◌, Option, Some, Err}
use Rattle.vx_base.specs.Caches.{CacheState}
use Rattle.vx_base.specs.Counts.{Rises}
use Rattle.vx_base.specs.Openers.{OpenerState, AsksFor, IsOpened}
use Rattle.vx_base.specs.Readers.{ReaderState, settings_of}
use Rattle.vx_footer.specs.Footers.{FooterContent, segment_table}
use Rattle.vx_source.specs.Asks.{Grew, asked_by, bad_spans}
use Rattle.vx_source.specs.Bytes.{TellsSlices}
use Rattle.vx_source.specs.Kept.{Kept}
use Rattle.vx_source.specs.Sources.{AreOfFile}
use Rattle.vx_source.specs.Stands.{Stands}
use Rattle.vx_file.specs.declared.metadata.MetadataValue.{MetadataValue}
use Rattle.vx_file.specs.declared.prepared.Prepared.{Prepared}
use Rattle.vx_file.specs.declared.served.ServeError.{ServeError}
use Rattle.vx_file.specs.Hints.{Hints, IsSized}
use Rattle.vx_file.specs.Plans.{Plan, plan_of, world_of}
use Rattle.vx_file.specs.Prepared.{PrepareCause}
use Rattle.vx_file.specs.Ranges.{opened}
use Rattle.vx_file.specs.Serving.{Prepares, FaultRose}

-- an opened file: its footer, the values of its metadata, where they were loaded, and the session, the reader and the cache
-- of its segments
pub record Held : Type 0 where
  pub footer : FooterContent
  pub metadata : Option (List MetadataValue)
  pub session : Kept
  pub reader : ReaderState
  pub cache : CacheState

-- A file was opened by a plan: the footer is the plan's, the metadata was loaded, where that is asked for, the reader was
-- asked exactly for the opening ranges and the spans of the metadata, and the session has made no number. Where the
-- entries of the cache are slices of the file, so are the segments.
pub record OpensRead (plan : Plan) (include : Bool) (file : List ℕ) (before : ReaderState) (cache : CacheState) (f : Held) : Type 0 where
  pub opening : List (ℕ × ℕ)
  pub prepares : Prepares plan include file (settings_of before) cache f.cache f.footer opening f.metadata
  pub asked : Grew (opened plan.ranges ++ asked_by prepares.spans) before.log f.reader.log
  pub bad : Rises (bad_spans prepares.spans) before.faults f.reader.faults
  pub stands : Stands (world_of plan f.footer (settings_of before)) [] f.session
  pub slices : TellsSlices file (segment_table f.footer) cache → AreOfFile f.session f.reader f.cache file

-- a file was not opened: the cause is that of preparing it, and a fault is named only where its count rose
pub record NotOpened (plan : Plan) (include : Bool) (file : List ℕ) (before : ReaderState) (cache : CacheState) (e : ServeError) : Type 0 where
  pub reader_now : ReaderState
  pub cache_now : CacheState
  pub cause : PrepareCause plan include file before reader_now cache cache_now (Err e)
  pub rose : FaultRose {A = Prepared} before reader_now cache cache_now (Err e)

-- a reader that tells its bytes opened a file, or why not, where a size by which the tail is read is theirs
abbrev pub OpensBy : Hints → ReaderState → CacheState → Held → Type 0
OpensBy hints before cache f =
    (file : List ℕ) → before.bytes ≡ Some file → IsSized hints file → OpensRead (plan_of hints file) hints.metadata file before cache f

abbrev pub FailsBy : Hints → ReaderState → CacheState → ServeError → Type 0
FailsBy hints before cache e =
    (file : List ℕ) → before.bytes ≡ Some file → IsSized hints file → NotOpened (plan_of hints file) hints.metadata file before cache e

-- the name was asked for once, and a fresh reader of it opened the file
pub record OpensPath (hints : Hints) (name : List ℕ) (before now : OpenerState) (cache : CacheState) (f : Held) : Type 0 where
  pub asked : AsksFor name before now
  pub reader : ReaderState
  pub fresh : IsOpened name before reader
  pub opens : OpensBy hints reader cache f

-- the name was asked for once, and a fresh reader of it did not
pub record FailsPath (hints : Hints) (name : List ℕ) (before now : OpenerState) (cache : CacheState) (e : ServeError) : Type 0 where
  pub asked : AsksFor name before now
  pub reader : ReaderState
  pub fresh : IsOpened name before reader
  pub fails : FailsBy hints reader cache e
