-- Which replies fit a history: for each deed and reply, what must hold of the moments before.
use Rattle.std.specs.Prelude.{◌≡◌, ℕ, ◌-◌, ◌*◌, ◌<◌, ◌≤◌, nat_le, nat_lt, not, Bool, true, false, ◌&&◌, ◌||◌, List, [], ◌∷◌, ◌++◌, length, Option, Some, None, slice_get, option_and_then, if◌then◌else◌}
use Rattle.std.specs.Option.{option_map, option_map_or}
use Rattle.vx_base.specs.declared.segment.SegmentSpec.{SegmentSpec}
use Rattle.vx_sched.specs.Scheduling.{Scheduler, MergesFrom, span_at}
use Rattle.vx_sched.specs.Span as sched
use Rattle.vx_sched.specs.declared.request.ReadRequest.{ReadRequest}
use Rattle.vx_sched.specs.declared.fault.Place.TheVariants.{Range}
use Rattle.vx_source.specs.History.{Got, gave, failing, Deed, registers, polls, drops, drives, stops, Moment, moment, made, segment_of, is_live, is_held, is_good, outcome_at, waits, waits_at, is_due}
use Rattle.vx_source.specs.declared.reply.FailCause.TheVariants.{Fault, Cache}
use Rattle.vx_source.specs.declared.reply.Reply.{Reply}
use Rattle.vx_source.specs.declared.reply.Reply.TheVariants.{Registered, MissingSegment, Ready, Pending, Failed, Dropped, NotLive, Driven}
use Rattle.vx_source.specs.declared.span.Span.{Span}
use Rattle.vx_source.specs.declared.span.SpanOutcome.{SpanOutcome}
use Rattle.vx_source.specs.declared.span.SpanOutcome.TheVariants.{Good, Bad}

-- what replies are about: the segment table, where the tail that was read begins, if one was, and a scheduler
-- without reads, which has the settings
pub record World : Type 0 where
  pub table : List SegmentSpec
  pub start : Option ℕ
  pub idle : Scheduler

abbrev pub covered_from : Option ℕ → SegmentSpec → Bool
covered_from start s = option_map_or (λ from. nat_le from s.offset) start false

-- a segment is covered where it begins at or after the tail's start
abbrev pub covers : World → ℕ → Bool
covers w segment = option_map_or (covered_from w.start) (slice_get w.table segment) false

-- whether a register of a segment asks the cache: the table has it, and the tail does not cover it
abbrev pub asks : World → ℕ → Bool
asks w segment = nat_lt segment (length w.table) && not (covers w segment)

-- the read of a segment under a number
abbrev pub read_request : ℕ → SegmentSpec → ReadRequest
read_request r s = record { id = r; offset = s.offset; length = s.length; alignment = s.alignment }

-- what a read asks for: the bytes of the segment of its number
abbrev pub request_at : World → List Moment → ℕ → Option ReadRequest
request_at w past r = option_map (read_request r) (option_and_then (slice_get w.table) (segment_of past r))

-- the waiting reads
abbrev pub waiting : World → List Moment → ℕ → Option ReadRequest
waiting w past r = if waits past r then request_at w past r else None

-- ---- drives

abbrev pub with_request : Option ReadRequest → List ReadRequest → List ReadRequest
with_request None rest = rest
with_request (Some r) rest = r ∷ rest

-- what reads ask for
abbrev pub requests_of : World → List Moment → List ℕ → List ReadRequest
requests_of w past [] = []
requests_of w past (r ∷ rest) = with_request (request_at w past r) (requests_of w past rest)

-- the scheduler's span of the reads that a span lists: the settings and what they ask for give its range
abbrev pub core_span : World → List Moment → Span → sched.Span
core_span w past span = span_at w.idle (requests_of w past span.reads)

-- a failed span names its own range
abbrev pub NamesRange : Span → SpanOutcome → Type 0
NamesRange span Good = Unit {0}
NamesRange span (Bad fault) = fault.place ≡ Range span.start (span.end - span.start)

-- a span merges from what waits and serves the least read that is due; its range and alignment are those of its
-- reads under the settings
pub record IsTurn (w : World) (past : List Moment) (span : Span) : Type 0 where
  pub merges : MergesFrom w.idle (waiting w past) (is_due past) (core_span w past span)
  pub start : span.start ≡ (core_span w past span).start
  pub end : span.end ≡ (core_span w past span).end
  pub alignment : span.alignment ≡ (core_span w past span).alignment
  pub place : NamesRange span span.outcome

-- the history after spans of a drive
abbrev pub driven : List Span → List Moment → List Moment
driven spans past = moment drives (Driven spans) ∷ past

-- after those that were read, each span merges from what the earlier ones leave
abbrev pub Turns : World → List Moment → List Span → List Span → Type 0
Turns w past done [] = Unit {0}
Turns w past done (span ∷ rest) = IsTurn w (driven done past) span × Turns w past (done ++ span ∷ []) rest

-- no polled read waits
abbrev pub NoneDue : List Moment → Type 0
NoneDue past = (r : ℕ) → is_due past r ≡ false

-- a whole number of blocks of this size
pub record IsWhole (size : ℕ) (spans : List Span) : Type 0 where
  pub count : ℕ
  pub whole : length spans ≡ count * size

-- ---- the rows

abbrev pub is_gave : Got → Bool
is_gave gave = true
is_gave _ = false

abbrev pub is_failing : Got → Bool
is_failing failing = true
is_failing _ = false

-- what must hold of the past for this reply to this deed
abbrev pub IsRow : World → List Moment → Deed → Reply → Type 0
IsRow w past (registers s got) MissingSegment = length w.table ≤ s
IsRow w past (registers s got) (Registered number held) = (s < length w.table) × (number ≡ made past)
    × (held ≡ (covers w s || is_gave got)) × (is_failing got ≡ false)
IsRow w past (registers s got) (Failed Cache) = (s < length w.table) × (covers w s ≡ false) × (is_failing got ≡ true)
IsRow w past (polls n) NotLive = is_live past n ≡ false
IsRow w past (polls n) (Ready buffer) = (is_live past n ≡ true) × ((is_held past n || is_good (outcome_at past n)) ≡ true)
IsRow w past (polls n) Pending = (is_live past n ≡ true) × (waits_at past n ≡ true)
IsRow w past (polls n) (Failed (Fault fault)) = (is_live past n ≡ true) × (outcome_at past n ≡ Some (Bad fault))
IsRow w past (drops n) NotLive = is_live past n ≡ false
IsRow w past (drops n) Dropped = is_live past n ≡ true
IsRow w past drives (Driven spans) = Turns w past [] spans × NoneDue (driven spans past)
IsRow w past stops (Driven spans) = Turns w past [] spans × IsWhole w.idle.concurrency spans
IsRow w past _ _ = ⊥
