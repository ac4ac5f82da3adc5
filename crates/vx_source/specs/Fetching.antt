-- Segments that are fetched in one call: the steps that a history gains by it, and the last reply about each.
use Rattle.std.specs.Prelude.{◌≡◌, ℕ, ◌+◌, ◌<◌, ◌≤◌, ◌++◌, ◌⊎◌, List, [], ◌∷◌, length, map, Option, Some, None}
use Rattle.vx_base.specs.Asking.{Log}
use Rattle.vx_base.specs.Caches.{CacheState}
use Rattle.vx_base.specs.declared.segment.SegmentId.{SegmentId}
use Rattle.vx_base.specs.declared.segment.SegmentSpec.{SegmentSpec}
use Rattle.vx_sched.specs.declared.fault.Fault.{Fault}
use Rattle.vx_source.specs.Asks.{Grew, asked_by, bad_spans}
use Rattle.vx_source.specs.Bytes.{IsSlice, IsTrueReply}
use Rattle.vx_source.specs.Caching.{HasGot}
use Rattle.vx_source.specs.Drives.{StopsDrive}
use Rattle.vx_source.specs.Fits.{World, IsRow, asks, driven}
use Rattle.vx_source.specs.History.{Got, registers, polls, drives, Moment, moment}
use Rattle.vx_source.specs.Kept.{Kept}
use Rattle.vx_source.specs.Puts.{PutsBy}
use Rattle.vx_source.specs.Stands.{Stands}
use Rattle.vx_source.specs.declared.fetching.Fetch.{Fetch}
use Rattle.vx_source.specs.declared.fetching.Fetched.{Fetched}
use Rattle.vx_source.specs.declared.reply.FailCause.TheVariants as cause
use Rattle.vx_source.specs.declared.reply.Reply.{Reply}
use Rattle.vx_source.specs.declared.reply.Reply.TheVariants.{Registered, MissingSegment, Ready, Pending, Failed, Driven}
use Rattle.vx_source.specs.declared.span.Span.{Span}
use Rattle.vx_source.specs.declared.span.SpanOutcome.TheVariants.{Bad}

-- ---- registers

-- the number that a register made
abbrev pub number_in : Reply → Option ℕ
number_in (Registered number held) = Some number
number_in _ = None

-- a request is open from its register on
abbrev pub at_register : Reply → Fetch
at_register reply = record { number = number_in reply; reply = reply }

-- a segment was registered
pub record IsRegistered (w : World) (past : List Moment) (before : CacheState) (id : SegmentId) (f : Fetch) (now : List Moment)
    (after : CacheState) : Type 0 where
  pub got : Got
  pub fetch : f ≡ at_register f.reply
  pub row : IsRow w past (registers id.0 got) f.reply
  pub cache : HasGot (asks w id.0) id.0 before after got
  pub history : now ≡ moment (registers id.0 got) f.reply ∷ past

-- segments were registered in order: the history and the cache then
abbrev pub Registering : World → List Moment → CacheState → List SegmentId → List Fetch → List Moment → CacheState → Type 0
Registering w past before [] [] now after = (now ≡ past) × (after ≡ before)
Registering w past before [] (f ∷ more) now after = ⊥
Registering w past before (id ∷ rest) [] now after = ⊥
Registering w past before (id ∷ rest) (f ∷ more) now after =
    (next : List Moment) × (mid : CacheState) × IsRegistered w past before id f next mid × Registering w next mid rest more now after

-- ---- polls

abbrev pub pending_number : ℕ → Reply → Option ℕ
pending_number number Pending = Some number
pending_number number _ = None

-- a request that is polled stays open while it is pending
abbrev pub at_poll : ℕ → Reply → Fetch
at_poll number reply = record { number = pending_number number reply; reply = reply }

-- an open request was polled; where none is open nothing was done
abbrev pub IsPolled : World → List Moment → Option ℕ → Fetch → Fetch → List Moment → Type 0
IsPolled w past None f g now = (g ≡ f) × (now ≡ past)
IsPolled w past (Some number) f g now = (g ≡ at_poll number g.reply) × IsRow w past (polls number) g.reply × (now ≡ moment (polls number) g.reply ∷ past)

-- the open requests were polled in order: what was fetched and the history then
abbrev pub Polling : World → List Moment → List Fetch → List Fetch → List Moment → Type 0
Polling w past [] [] now = now ≡ past
Polling w past [] (g ∷ more) now = ⊥
Polling w past (f ∷ rest) [] now = ⊥
Polling w past (f ∷ rest) (g ∷ more) now = (next : List Moment) × IsPolled w past f.number f g next × Polling w next rest more now

-- ---- a fetch

-- Segments were registered in order, each number that was made was polled in order, one drive was made, and each number
-- that was pending was polled again, in order. The last replies are those about each segment.
pub record Fetches (w : World) (past : List Moment) (before after : CacheState) (ids : List SegmentId) (fetched : Fetched) (k : Kept) : Type 0 where
  pub registered : List Moment
  pub cache : CacheState
  pub first : List Fetch
  pub registers : Registering w past before ids first registered cache
  pub waiting : List Moment
  pub second : List Fetch
  pub polls : Polling w registered first second waiting
  pub drive : IsRow w waiting drives (Driven fetched.spans)
  pub puts : PutsBy waiting fetched.spans before after
  pub now : List Moment
  pub last : List Fetch
  pub again : Polling w (driven fetched.spans waiting) second last now
  pub replies : fetched.replies ≡ map (λ f. f.reply) last
  pub stands : Stands w now k

-- ---- a fetch that found no memory

-- some of the segments were registered, and these are left
pub record RegistersSome (w : World) (past : List Moment) (before after : CacheState) (ids rest : List SegmentId) (first : List Fetch) (k : Kept) : Type 0 where
  pub done : List SegmentId
  pub split : done ++ rest ≡ ids
  pub now : List Moment
  pub registers : Registering w past before done first now after
  pub stands : Stands w now k

abbrev pub StopsRegisters : World → List Moment → CacheState → List SegmentId → Kept → Type 0
StopsRegisters w past before ids k = (after : CacheState) × (rest : List SegmentId) × (first : List Fetch) × RegistersSome w past before after ids rest first k

-- some of the open requests were polled, and these are left
pub record PollsSome (w : World) (past : List Moment) (first rest second : List Fetch) (k : Kept) : Type 0 where
  pub done : List Fetch
  pub split : done ++ rest ≡ first
  pub now : List Moment
  pub polls : Polling w past done second now
  pub stands : Stands w now k

abbrev pub StopsPolls : World → List Moment → List Fetch → Kept → Type 0
StopsPolls w past first k = (rest : List Fetch) × (second : List Fetch) × PollsSome w past first rest second k

-- all were registered, and some of the numbers that were made were polled
pub record StopsFirst (w : World) (past : List Moment) (before after : CacheState) (ids : List SegmentId) (k : Kept) : Type 0 where
  pub registered : List Moment
  pub first : List Fetch
  pub registers : Registering w past before ids first registered after
  pub stops : StopsPolls w registered first k

-- all were registered and polled, and the drive stopped
pub record StopsInDrive (w : World) (past : List Moment) (log_before log_now : Option Log) (before after : CacheState)
    (ids : List SegmentId) (k : Kept) : Type 0 where
  pub registered : List Moment
  pub cache : CacheState
  pub first : List Fetch
  pub registers : Registering w past before ids first registered cache
  pub waiting : List Moment
  pub second : List Fetch
  pub polls : Polling w registered first second waiting
  pub stops : StopsDrive w waiting log_before log_now cache after k

-- the drive was made, and some of the pending numbers were polled again
pub record StopsAgain (w : World) (past : List Moment) (log_before log_now : Option Log) (before after : CacheState)
    (ids : List SegmentId) (k : Kept) : Type 0 where
  pub registered : List Moment
  pub cache : CacheState
  pub first : List Fetch
  pub registers : Registering w past before ids first registered cache
  pub waiting : List Moment
  pub second : List Fetch
  pub polls : Polling w registered first second waiting
  pub spans : List Span
  pub drive : IsRow w waiting drives (Driven spans)
  pub puts : PutsBy waiting spans cache after
  pub log : Grew (asked_by spans) log_before log_now
  pub stops : StopsPolls w (driven spans waiting) second k

-- a fetch found no memory: the history gained some of its first steps, and the reader was asked by the drive alone
abbrev pub StopsFetch : World → List Moment → Option Log → Option Log → CacheState → CacheState → List SegmentId → Kept → Type 0
StopsFetch w past log_before log_now before after ids k =
    (StopsRegisters w past before ids k × (log_now ≡ log_before)) ⊎ (StopsFirst w past before after ids k × (log_now ≡ log_before))
    ⊎ StopsInDrive w past log_before log_now before after ids k ⊎ StopsAgain w past log_before log_now before after ids k

-- ---- what the last replies say

-- what a poll of a number finds ready is true of a file
abbrev pub IsTruePoll : List ℕ → World → List Moment → Option ℕ → Reply → Type 0
IsTruePoll file w past None reply = Unit {0}
IsTruePoll file w past (Some number) reply = IsTrueReply file w past number reply

abbrev pub AreTruePolls : List ℕ → World → List Moment → List Fetch → List Fetch → Type 0
AreTruePolls file w past [] second = Unit {0}
AreTruePolls file w past (f ∷ rest) [] = Unit {0}
AreTruePolls file w past (f ∷ rest) (g ∷ more) = IsTruePoll file w past f.number g.reply × AreTruePolls file w past rest more

-- the last reply about a segment, where these spans were read: it is missing just where the table lacks it; else it is
-- ready, or the cache failed, or its read did
abbrev pub IsAnswer : List SegmentSpec → List Span → ℕ → Reply → Type 0
IsAnswer table spans s MissingSegment = length table ≤ s
IsAnswer table spans s (Ready buffer) = s < length table
IsAnswer table spans s (Failed cause.Cache) = s < length table
IsAnswer table spans s (Failed (cause.Fault fault)) = (s < length table) × (1 ≤ bad_spans spans)
IsAnswer table spans s _ = ⊥

-- one for each segment
abbrev pub AreAnswers : List SegmentSpec → List Span → List SegmentId → List Reply → Type 0
AreAnswers table spans [] [] = Unit {0}
AreAnswers table spans [] (reply ∷ more) = ⊥
AreAnswers table spans (id ∷ rest) [] = ⊥
AreAnswers table spans (id ∷ rest) (reply ∷ more) = IsAnswer table spans id.0 reply × AreAnswers table spans rest more

-- a span failed with this fault
abbrev pub IsFaultIn : Fault → List Span → Type 0
IsFaultIn fault [] = ⊥
IsFaultIn fault (span ∷ rest) = (span.outcome ≡ Bad fault) ⊎ IsFaultIn fault rest

abbrev pub IsFaultOf : List Span → Reply → Type 0
IsFaultOf spans (Failed (cause.Fault fault)) = IsFaultIn fault spans
IsFaultOf spans _ = Unit {0}

-- each fault is that of a span
abbrev pub AreFaultsOf : List Span → List Reply → Type 0
AreFaultsOf spans [] = Unit {0}
AreFaultsOf spans (reply ∷ more) = IsFaultOf spans reply × AreFaultsOf spans more

-- what is ready is the bytes of its segment
abbrev pub HasSlice : List ℕ → List SegmentSpec → ℕ → Reply → Type 0
HasSlice file table s (Ready buffer) = IsSlice file table s buffer
HasSlice file table s _ = Unit {0}

abbrev pub HaveSlices : List ℕ → List SegmentSpec → List SegmentId → List Reply → Type 0
HaveSlices file table [] replies = Unit {0}
HaveSlices file table (id ∷ rest) [] = Unit {0}
HaveSlices file table (id ∷ rest) (reply ∷ more) = HasSlice file table id.0 reply × HaveSlices file table rest more

abbrev pub cache_failure : Reply → ℕ
cache_failure (Failed cause.Cache) = 1
cache_failure _ = 0

-- how many replies tell that the cache failed
abbrev pub cache_failures : List Reply → ℕ
cache_failures [] = 0
cache_failures (reply ∷ replies) = cache_failure reply + cache_failures replies

-- each reply is ready
abbrev pub AreReady : List Reply → Type 0
AreReady [] = Unit {0}
AreReady (Ready buffer ∷ more) = AreReady more
AreReady (reply ∷ more) = ⊥

-- the table has each segment
abbrev pub AreInTable : List SegmentSpec → List SegmentId → Type 0
AreInTable table [] = Unit {0}
AreInTable table (id ∷ rest) = (id.0 < length table) × AreInTable table rest

-- where the table has each segment and nothing failed, each reply is ready
abbrev pub IsReadyUnlessFailed : List SegmentSpec → List SegmentId → Fetched → Type 0
IsReadyUnlessFailed table ids fetched = AreInTable table ids → bad_spans fetched.spans ≡ 0 → cache_failures fetched.replies ≡ 0 → AreReady fetched.replies
