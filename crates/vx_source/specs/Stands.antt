-- When what a session keeps stands for a history.
use Rattle.std.specs.Prelude.{◌≡◌, ℕ, ◌+◌, ◌^◌, ◌<◌, ◌≤◌, ◌&&◌, nat_le, max, Bool, true, false, List, [], ◌∷◌, length, Option, Some, None, is_none, is_some, slice_get, option_and_then, if◌then◌else◌}
use Rattle.std.specs.Option.{option_map}
use Rattle.vx_base.specs.Caches.{CacheState}
use Rattle.vx_base.specs.declared.segment.SegmentSpec.{SegmentSpec}
use Rattle.vx_sched.specs.Law.{IsSound, idle}
use Rattle.vx_sched.specs.Merging.{raised}
use Rattle.vx_sched.specs.Reads.{waiting_at, ranges_in_flight}
use Rattle.vx_sched.specs.Reads as core
use Rattle.vx_sched.specs.Scheduling.{Scheduler, SameSettings, IsLegal, replay}
use Rattle.vx_sched.specs.declared.event.Event.{Event}
use Rattle.vx_sched.specs.declared.metrics.RequestMetrics.{RequestMetrics}
use Rattle.vx_sched.specs.declared.request.ReadRequest.{ReadRequest}
use Rattle.vx_source.specs.Events.{events, metrics}
use Rattle.vx_source.specs.Caching.{HasGot}
use Rattle.vx_source.specs.Fits.{World, IsRow, asks, read_request}
use Rattle.vx_source.specs.History.{Got, Deed, registers, Moment, moment, made, segment_of, is_live, is_held, joins, is_polled, outcome_of, uses, count_below, is_good, is_bad}
use Rattle.vx_source.specs.Kept.{Kept, standing_at, segment_at, users_at, polled_at, outcome_at, bytes_of, latest_at, tail_start, LiesIn}
use Rattle.vx_source.specs.declared.reply.Reply.{Reply}
use Rattle.vx_source.specs.declared.span.SpanOutcome.{SpanOutcome}
use Rattle.vx_source.specs.declared.tail.Tail.{Tail}

-- what a history says: how many numbers it made; of each number its segment, whether it is held and live, and its
-- read; the newest read of each segment; of each read whether it was polled and how it went; its events and counts
pub record Words : Type 0 where
  pub made : ℕ
  pub segment : ℕ → Option ℕ
  pub held : ℕ → Bool
  pub live : ℕ → Bool
  pub read : ℕ → Option ℕ
  pub latest : ℕ → Option ℕ
  pub polled : ℕ → Bool
  pub outcome : ℕ → Option SpanOutcome
  pub events : List Event
  pub metrics : RequestMetrics

abbrev pub words : World → List Moment → Words
words w past = record {
  made = made past;
  segment = λ n. segment_of past n;
  held = λ n. is_held past n;
  live = λ n. is_live past n;
  read = λ n. (joins past).read_of n;
  latest = λ s. (joins past).latest s;
  polled = λ r. is_polled past r;
  outcome = λ r. outcome_of past r;
  events = events w past;
  metrics = metrics w past;
}

-- how many live numbers have a read
abbrev pub users_of : Words → ℕ → ℕ
users_of v r = count_below v.made (uses v.live v.read r)

-- whether a read waits
abbrev pub waits : Words → ℕ → Bool
waits v r = is_none (v.outcome r) && nat_le 1 (users_of v r)

-- whether a polled read waits
abbrev pub is_due : Words → ℕ → Bool
is_due v r = v.polled r && waits v r

-- what a read asks for
abbrev pub request_of : World → Words → ℕ → Option ReadRequest
request_of w v r = option_map (read_request r) (option_and_then (slice_get w.table) (v.segment r))

-- the waiting reads
abbrev pub waiting : World → Words → ℕ → Option ReadRequest
waiting w v r = if waits v r then request_of w v r else None

-- how a number stands: a live one that is not held has its read
abbrev pub standing : Words → ℕ → Option (Option ℕ)
standing v n = if v.live n then Some (v.read n) else None

-- a scheduler has the reads that a history says: what waits, what is due, and the settings
pub record Ties (w : World) (v : Words) (s : Scheduler) : Type 0 where
  pub waiting : (q : ℕ) → waiting_at s.reads q ≡ waiting w v q
  pub due : (q : ℕ) → core.polled_at s.reads q ≡ is_due v q
  pub settings : SameSettings w.idle s
  pub next : s.next ≤ v.made
  pub rests : ranges_in_flight s.reads ≡ 0
  pub sound : IsSound s

-- what holds of numbers and reads: a number's segment is in the table, it is held exactly where it has no read, and
-- its read is one of its segment, as the newest read of a segment is; the read of a live number is the newest one of
-- its segment, unless it failed
pub record AreKnown (w : World) (v : Words) : Type 0 where
  pub known : (n s : ℕ) → v.segment n ≡ Some s → s < length w.table
  pub held : (n s : ℕ) → v.segment n ≡ Some s → v.held n ≡ is_none (v.read n)
  pub shared : (n r s : ℕ) → v.read n ≡ Some r → v.segment n ≡ Some s → v.segment r ≡ Some s
  pub newest : (s r : ℕ) → v.latest s ≡ Some r → v.segment r ≡ Some s
  pub joined : (n r s : ℕ) → v.live n ≡ true → v.read n ≡ Some r → v.segment n ≡ Some s → is_bad (v.outcome r) ≡ false → v.latest s ≡ Some r

-- a scheduler that had no read yet
pub record IsIdle (s : Scheduler) : Type 0 where
  pub reads : s.reads ≡ []
  pub next : s.next ≡ 0

-- what a session keeps has what a history says: the scheduler is the replay of its events, which are legal, and each
-- number and each read stands so. Of a read that a span listed nobody asks whether it was polled
pub record HasWords (w : World) (v : Words) (k : Kept) : Type 0 where
  pub table : k.table ≡ w.table
  pub start : tail_start k.tail ≡ w.start
  pub idle : k.idle ≡ w.idle
  pub rested : IsIdle w.idle
  pub core : k.core ≡ replay w.idle v.events
  pub legal : IsLegal w.idle v.events
  pub ties : Ties w v k.core
  pub known : AreKnown w v
  pub count : length k.requests ≡ v.made
  pub places : length k.reads ≡ v.made
  pub segments : length k.latest ≡ length w.table
  pub standing : (n : ℕ) → standing_at k.requests n ≡ standing v n
  pub segment : (n : ℕ) → segment_at k.requests n ≡ v.segment n
  pub users : (r : ℕ) → users_at k.reads r ≡ users_of v r
  pub polled : (r : ℕ) → v.outcome r ≡ None → polled_at k.reads r ≡ v.polled r
  pub outcome : (r : ℕ) → outcome_at k.reads r ≡ v.outcome r
  pub bytes : (r : ℕ) → 1 ≤ users_of v r → is_good (v.outcome r) ≡ true → is_some (bytes_of k.reads r) ≡ true
  pub latest : (s : ℕ) → latest_at k.latest s ≡ v.latest s
  pub metrics : k.metrics ≡ v.metrics
  pub ends : (s : ℕ) (spec : SegmentSpec) → slice_get w.table s ≡ Some spec → spec.offset + spec.length < 2 ^ 64

-- what a session keeps stands for a history
abbrev pub Stands : World → List Moment → Kept → Type 0
Stands w past k = HasWords w (words w past) k

-- the greatest alignment of segments
abbrev pub greatest_alignment : List SegmentSpec → ℕ
greatest_alignment [] = 0
greatest_alignment (s ∷ rest) = max s.alignment (greatest_alignment rest)

-- the world of a segment table, settings, and a tail's start: the limit has room for the greatest alignment
abbrev pub world : List SegmentSpec → Option ℕ → Option ℕ → ℕ → Option ℕ → World
world table distance max_read_size concurrency start = record {
  table = table;
  start = start;
  idle = idle distance (option_map (raised (greatest_alignment table)) max_read_size) (greatest_alignment table) concurrency;
}

-- each segment ends in range, and lies in the tail where the tail covers it
pub record AreFit (table : List SegmentSpec) (tail : Option Tail) : Type 0 where
  pub ends : (n : ℕ) (s : SegmentSpec) → slice_get table n ≡ Some s → s.offset + s.length < 2 ^ 64
  pub lies : (n : ℕ) (s : SegmentSpec) → slice_get table n ≡ Some s → LiesIn tail s

-- each segment of a table ends within so many bytes
abbrev pub EndsWithin : ℕ → List SegmentSpec → Type 0
EndsWithin size table = (s : ℕ) (spec : SegmentSpec) → slice_get table s ≡ Some spec → spec.offset + spec.length ≤ size

-- the reply fits, and what is kept then stands for the history with it
pub record IsNext (w : World) (past : List Moment) (deed : Deed) (reply : Reply) (k : Kept) : Type 0 where
  pub row : IsRow w past deed reply
  pub stands : Stands w (moment deed reply ∷ past) k

-- a register was answered, and the cache did what the history says
pub record Registers (w : World) (past : List Moment) (segment : ℕ) (before now : CacheState) (reply : Reply) (k : Kept) : Type 0 where
  pub got : Got
  pub cache : HasGot (asks w segment) segment before now got
  pub next : IsNext w past (registers segment got) reply k
