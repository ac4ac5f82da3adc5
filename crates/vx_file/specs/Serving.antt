-- What serving a script from a file gives.
use Rattle.std.specs.Prelude.{◌≡◌, ℕ, ◌+◌, ◌<◌, Bool, true, false, List, [], ◌∷◌, ◌++◌, map, Option, Some, None, Result, Ok, Err, IsOk, IfSome, ◌⊎◌}
use Rattle.vx_base.specs.Asking.{Log, ranges_of}
use Rattle.vx_base.specs.Buffer.{Buffer}
use Rattle.vx_base.specs.Caches.{Segments, CacheState}
use Rattle.vx_base.specs.Counts.{Rises, last_count}
use Rattle.vx_base.specs.Readers.{ReaderState, ReaderSettings, settings_of}
use Rattle.vx_base.specs.declared.answer.Asked.{Asked}
use Rattle.vx_base.specs.declared.answer.ReadAtRequest.{ReadAtRequest}
use Rattle.vx_base.specs.declared.segment.SegmentId.{SegmentId}
use Rattle.vx_base.specs.declared.segment_cache.CacheError.{CacheError}
use Rattle.vx_base.specs.declared.segment_cache.CacheError.TheVariants as cache_error
use Rattle.vx_footer.specs.declared.error.OpenError.{OpenError}
use Rattle.vx_footer.specs.declared.error.OpenError.TheVariants as checks
use Rattle.vx_footer.specs.Footers.{FooterContent, segment_table}
use Rattle.vx_sched.specs.Outcomes.{size_fault}
use Rattle.vx_sched.specs.declared.fault.Fault.{Fault}
use Rattle.vx_sched.specs.declared.fault.Place.TheVariants.{Range}
use Rattle.vx_source.specs.Asks.{Grew, asked_by, bad_spans}
use Rattle.vx_source.specs.Bytes.{TellsSlices}
use Rattle.vx_source.specs.Fits.{World}
use Rattle.vx_source.specs.History.{Moment}
use Rattle.vx_source.specs.Puts.{Gains}
use Rattle.vx_source.specs.declared.reply.FailCause.{FailCause}
use Rattle.vx_source.specs.declared.reply.FailCause.TheVariants as cause
use Rattle.vx_source.specs.declared.reply.Reply.{Reply}
use Rattle.vx_source.specs.declared.span.Span.{Span}
use Rattle.vx_file.specs.declared.metadata.Loaded.{Loaded}
use Rattle.vx_file.specs.declared.metadata.MetadataValue.{MetadataValue}
use Rattle.vx_file.specs.declared.step.Step.{Step}
use Rattle.vx_file.specs.declared.served.Served.{Served}
use Rattle.vx_file.specs.declared.served.ServeError.{ServeError}
use Rattle.vx_file.specs.declared.served.ServeError.TheVariants as errors
use Rattle.vx_file.specs.Hints.{Hints}
use Rattle.vx_file.specs.Loading.{Loads, LoadFails, StopsLoading, put_numbers, range_of, value_in}
use Rattle.vx_file.specs.Plans.{Plan, plan_of, world_of, covered_by}
use Rattle.vx_file.specs.Ranges.{opening_range, opened}
use Rattle.vx_file.specs.Scripts.{Answers, AreTrue, Leads, Stops, asked_for, bad_replies, cache_failures, put_in}

-- the numbers of segments' buffers
abbrev pub numbers_of : Segments → List ℕ
numbers_of puts = map (λ (e : SegmentId × Buffer). e.0.0) puts

-- The cache was asked for puts: first those of the covered segments, then those of the reads of good spans, first of these
-- the numbers that the metadata brought, and then those of the drives, in order. Those that found no memory may be missing
-- from its log.
pub record Puts (covered : Segments) (loaded : List ℕ) (history : List Moment) (before now : CacheState) : Type 0 where
  pub driven : Segments
  pub numbers : numbers_of driven ≡ loaded ++ put_in history
  pub gains : Gains (covered ++ driven) before now

-- A script was played over a cache: a history answers it, and led the cache on. Whatever is ready is its segment's bytes
-- where the entries of the cache are. Each failure that the cache is named for was counted.
pub record Plays (w : World) (file : List ℕ) (script : List Step) (cache cache_now : CacheState) (replies : List Reply) : Type 0 where
  pub history : List Moment
  pub answers : Answers w script replies history
  pub leads : Leads w cache history cache_now
  pub true_of : TellsSlices file w.table cache → AreTrue file w history
  pub failed : Rises (cache_failures replies) cache.faults cache_now.faults

-- the metadata, where it is to be loaded; the spans that were read for it; and the numbers of the segments that these brought
-- into the cache
pub record LoadsMetadata (w : World) (file : List ℕ) (footer : FooterContent) (cache cache_now : CacheState)
    (metadata : List MetadataValue) (spans : List Span) (numbers : List ℕ) : Type 0 where
  pub loaded : Loaded
  pub loads : Loads w file footer cache cache_now loaded
  pub values : metadata ≡ loaded.values
  pub spans_are : spans ≡ loaded.spans
  pub numbers_are : numbers ≡ put_numbers w footer cache cache_now loads.fetched loads.drives

abbrev pub LoadsIf : Bool → World → List ℕ → FooterContent → CacheState → CacheState → Option (List MetadataValue) → List Span → List ℕ → Type 0
LoadsIf false w file footer cache cache_now metadata spans numbers = (metadata ≡ None) × (spans ≡ []) × (numbers ≡ []) × (cache_now ≡ cache)
LoadsIf true w file footer cache cache_now None spans numbers = ⊥
LoadsIf true w file footer cache cache_now (Some metadata) spans numbers = LoadsMetadata w file footer cache cache_now metadata spans numbers

-- the values of the metadata, if they are there, are the bytes of their segments, in the order of the file
abbrev pub HaveValues : List ℕ → FooterContent → Option (List MetadataValue) → Type 0
HaveValues file footer metadata = IfSome metadata (λ values. values ≡ map (value_in file) footer.metadata)

-- A file was opened by a plan, the covered segments were put into the cache, and the metadata was loaded, where that is asked
-- for.
pub record Prepares (plan : Plan) (include : Bool) (file : List ℕ) (settings : ReaderSettings) (cache cache_now : CacheState)
    (footer : FooterContent) (opening : List (ℕ × ℕ)) (metadata : Option (List MetadataValue)) : Type 0 where
  pub footer_is : plan.footer ≡ Ok footer
  pub spans : List Span
  pub opening_is : opening ≡ plan.ranges ++ map range_of spans
  pub filled : CacheState
  pub fills : Gains (covered_by plan file footer) cache filled
  pub numbers : List ℕ
  pub loads : LoadsIf include (world_of plan footer settings) file footer filled cache_now metadata spans numbers
  pub true_of : TellsSlices file (segment_table footer) cache → HaveValues file footer metadata

-- A script was served from a file that was opened by a plan: the footer is the plan's, the metadata was loaded before, where that
-- is asked for, and a history answers the script, one reply for each step.
pub record Serves (plan : Plan) (include : Bool) (file : List ℕ) (script : List Step) (settings : ReaderSettings)
    (cache cache_now : CacheState) (s : Served) : Type 0 where
  pub prepared : CacheState
  pub prepares : Prepares plan include file settings cache prepared s.footer.content s.opening s.metadata
  pub plays : Plays (world_of plan s.footer.content settings) file script prepared cache_now s.replies
  pub true_of : TellsSlices file (segment_table s.footer.content) cache → AreTrue file (world_of plan s.footer.content settings) plays.history
  pub puts : Puts (covered_by plan file s.footer.content) prepares.numbers plays.history cache cache_now

-- the ranges of opening, the spans of the metadata, and then those of the drives
abbrev pub asked : List (ℕ × ℕ) → List Span → List Reply → Log
asked ranges spans replies = opened ranges ++ asked_by spans ++ asked_for replies

-- A script was served from a file, and the reader was asked exactly for the ranges of opening, the spans of the metadata and
-- those of the drives.
pub record ServedFrom (plan : Plan) (include : Bool) (file : List ℕ) (script : List Step) (before now : ReaderState)
    (cache cache_now : CacheState) (s : Served) : Type 0 where
  pub serves : Serves plan include file script (settings_of before) cache cache_now s
  pub asked : Grew (asked plan.ranges serves.prepares.spans s.replies) before.log now.log
  pub bad : Rises (bad_spans serves.prepares.spans + bad_replies s.replies) before.faults now.faults

-- a file was refused by the name of the first check that it fails, and the reader was asked for the opening ranges alone
pub record RefusedFrom (plan : Plan) (before now : ReaderState) (e : OpenError) : Type 0 where
  pub fails : plan.footer ≡ Err e
  pub asked : Grew (opened plan.ranges) before.log now.log

-- a range with the mark of a fault
abbrev pub faulty : ℕ × ℕ → Fault → Asked
faulty r fault = record { range = opening_range r; mark = Some fault.kind }

-- a fault of the size call, which asks no range
pub record SizeFault (plan : Plan) (before now : ReaderState) (fault : Fault) : Type 0 where
  pub asks : plan.asks_size ≡ true
  pub is : fault ≡ size_fault
  pub asked : Grew [] before.log now.log

-- a fault of an opening range, with its mark: those before it got their bytes
pub record TailFault (plan : Plan) (before now : ReaderState) (fault : Fault) : Type 0 where
  pub front : List (ℕ × ℕ)
  pub range : ℕ × ℕ
  pub rest : List (ℕ × ℕ)
  pub ranges : plan.ranges ≡ front ++ range ∷ rest
  pub place : fault.place ≡ Range range.0 range.1
  pub asked : Grew (opened front ++ faulty range fault ∷ []) before.log now.log

-- the cache failed a put of a covered segment, after a file of the grammar was opened
pub record CacheRefused (plan : Plan) (before now : ReaderState) : Type 0 where
  pub grammar : IsOk plan.footer
  pub asked : Grew (opened plan.ranges) before.log now.log

-- the metadata of an opened file was not loaded: the first entry that failed has this cause, and the reader was asked for the
-- opening ranges and the spans of one whole metadata drive
pub record MetadataFault (plan : Plan) (before now : ReaderState) (cache_now : CacheState) (cause : FailCause) : Type 0 where
  pub footer : FooterContent
  pub grammar : plan.footer ≡ Ok footer
  pub between : ReaderState
  pub asked : Grew (opened plan.ranges) before.log between.log
  pub filled : CacheState
  pub fails : LoadFails (world_of plan footer (settings_of before)) footer between now filled cache_now cause

-- ---- what stands after want of memory

-- memory ran out while the file was opened: some of its opening ranges were asked, in order, with any marks
pub record StopsOpening (plan : Plan) (before now : ReaderState) : Type 0 where
  pub gained : Log
  pub rest : List ReadAtRequest
  pub ranges : map opening_range plan.ranges ≡ ranges_of gained ++ rest
  pub grew : Grew gained before.log now.log

-- memory ran out while the metadata of an opened file was loaded
pub record StopsMetadata (plan : Plan) (before now : ReaderState) (cache_now : CacheState) : Type 0 where
  pub footer : FooterContent
  pub grammar : plan.footer ≡ Ok footer
  pub between : ReaderState
  pub asked : Grew (opened plan.ranges) before.log between.log
  pub filled : CacheState
  pub stops : StopsLoading (world_of plan footer (settings_of before)) footer between now filled cache_now

-- memory ran out after that: the steps before were answered, and at most one block more was asked than the spans that were read
pub record StopsServing (plan : Plan) (script : List Step) (before now : ReaderState) : Type 0 where
  pub footer : FooterContent
  pub grammar : plan.footer ≡ Ok footer
  pub spans : List Span
  pub between : Option Log
  pub prepared : Grew (opened plan.ranges ++ asked_by spans) before.log between
  pub stops : Stops (world_of plan footer (settings_of before)) script between now.log

-- what a put of a covered segment that was refused makes of serving
abbrev pub put_error : CacheError → ServeError
put_error cache_error.Failed = errors.CacheFault
put_error cache_error.OutOfMemory = errors.OutOfMemory

-- a refusal of a file whose metadata could not be read
abbrev pub failure_as : FailCause → ServeError
failure_as (cause.Fault fault) = errors.Fault fault
failure_as cause.Cache = errors.CacheFault

-- the answer to a script has its cause, where a file is opened by a plan and the reader tells its bytes
abbrev pub CauseBy : Plan → Bool → List ℕ → List Step → ReaderState → ReaderState → CacheState → CacheState → Result Served ServeError → Type 0
CauseBy plan include file script before now cache cache_now (Ok s) = ServedFrom plan include file script before now cache cache_now s
CauseBy plan include file script before now cache cache_now (Err (errors.Open e)) = RefusedFrom plan before now e
CauseBy plan include file script before now cache cache_now (Err (errors.Fault fault)) =
    SizeFault plan before now fault ⊎ TailFault plan before now fault ⊎ MetadataFault plan before now cache_now (cause.Fault fault)
CauseBy plan include file script before now cache cache_now (Err errors.CacheFault) =
    CacheRefused plan before now ⊎ MetadataFault plan before now cache_now cause.Cache
CauseBy plan include file script before now cache cache_now (Err errors.OutOfMemory) =
    StopsOpening plan before now ⊎ StopsMetadata plan before now cache_now ⊎ StopsServing plan script before now

abbrev pub HasCause : Hints → List ℕ → List Step → ReaderState → ReaderState → CacheState → CacheState → Result Served ServeError → Type 0
HasCause hints file = CauseBy (plan_of hints file) hints.metadata file

-- opening answers a fault only where the count of faults rose
abbrev pub OpeningRose : {A : Type 0} → ReaderState → ReaderState → Result A ServeError → Type 0
OpeningRose before now (Ok s) = Unit {0}
OpeningRose before now (Err (errors.Open e)) = Unit {0}
OpeningRose before now (Err (errors.Fault fault)) = Rises 1 before.faults now.faults
OpeningRose before now (Err errors.CacheFault) = ⊥
OpeningRose before now (Err errors.OutOfMemory) = Unit {0}

-- a fault is answered only where the count of faults rose, of the reader or of the cache
abbrev pub FaultRose : {A : Type 0} → ReaderState → ReaderState → CacheState → CacheState → Result A ServeError → Type 0
FaultRose before now cache cache_now (Ok s) = Unit {0}
FaultRose before now cache cache_now (Err (errors.Open e)) = Unit {0}
FaultRose before now cache cache_now (Err (errors.Fault fault)) = Rises 1 before.faults now.faults
FaultRose before now cache cache_now (Err errors.CacheFault) = Rises 1 cache.faults cache_now.faults
FaultRose before now cache cache_now (Err errors.OutOfMemory) = Unit {0}

-- want of memory is never told as a refusal
abbrev pub NamesCheck : {A : Type 0} → Result A ServeError → Type 0
NamesCheck (Err (errors.Open checks.OutOfMemory)) = ⊥
NamesCheck answer = Unit {0}

-- a count did not rise
pub record StandsStill (before now : ℕ) : Type 0 where
  pub same : now ≡ before
  pub below : before < last_count

-- the script was served, or memory was wanting
abbrev pub Succeeds : Result Served ServeError → Type 0
Succeeds (Ok s) = Unit {0}
Succeeds (Err (errors.Open e)) = ⊥
Succeeds (Err (errors.Fault fault)) = ⊥
Succeeds (Err errors.CacheFault) = ⊥
Succeeds (Err errors.OutOfMemory) = Unit {0}
