-- A scheduler as its history makes it: each event is one step.
use Rattle.std.specs.Prelude.{◌≡◌, ℕ, ◌+◌, ◌^◌, ◌<◌, ◌≤◌, ◌==◌, Bool, true, false, List, [], ◌∷◌, ◌++◌, length, Option, None}
use Rattle.std.specs.List.{AllByRecursion}
use Rattle.vx_sched.specs.Span.{Span, end_of}
use Rattle.vx_sched.specs.Reads.{Reads, read_at, waiting_at, polled_at, leads_at, ranges_in_flight, Rise, change, register_read, poll_read, drop_read, take_read, resolve_read}
use Rattle.vx_sched.specs.Merging.{Merges, span_of, first_number, is_listed}
use Rattle.vx_sched.specs.declared.request.ReadRequest.{ReadRequest}
use Rattle.vx_sched.specs.declared.event.ReadEvent.{ReadEvent}
use Rattle.vx_sched.specs.declared.event.ReadEvent.TheVariants as asked
use Rattle.vx_sched.specs.declared.event.Event.{Event}
use Rattle.vx_sched.specs.declared.event.Event.TheVariants as happens

-- settings, the reads in order of number, and the least number that a new read may have. The limit has
-- room for alignment
pub record Scheduler : Type 0 where
  pub distance : Option ℕ
  pub limit : Option ℕ
  pub alignment : ℕ
  pub concurrency : ℕ
  pub reads : Reads
  pub next : ℕ

-- two schedulers have the same settings
pub record SameSettings (s t : Scheduler) : Type 0 where
  pub distance : t.distance ≡ s.distance
  pub limit : t.limit ≡ s.limit
  pub alignment : t.alignment ≡ s.alignment
  pub concurrency : t.concurrency ≡ s.concurrency

-- the span of reads under the settings
abbrev pub span_at : Scheduler → List ReadRequest → Span
span_at s reads = span_of s.distance s.alignment reads

-- a span merges, under the settings, from what waits, and serves the least number that is due
pub record MergesFrom (s : Scheduler) (waiting : ℕ → Option ReadRequest) (due : ℕ → Bool) (span : Span) : Type 0 where
  pub next : ℕ
  pub is_due : due next ≡ true
  pub least : (q : ℕ) → q < next → due q ≡ false
  pub merges : Merges s.distance s.limit s.alignment waiting next span

-- a span merges from what waits
abbrev pub MergesNow : Scheduler → Span → Type 0
MergesNow s span = MergesFrom s (waiting_at s.reads) (polled_at s.reads) span

-- no polled read waits
abbrev pub NonePolled : Reads → Type 0
NonePolled reads = (id : ℕ) → polled_at reads id ≡ false

-- a read is polled
abbrev pub IsSomePolled : Reads → Type 0
IsSomePolled reads = (id : ℕ) × (polled_at reads id ≡ true)

-- the numbers rise and lie below the next one
pub record IsOrdered (s : Scheduler) : Type 0 where
  pub rise : Rise 0 s.reads
  pub below : (q : ℕ) → s.next ≤ q → read_at s.reads q ≡ None

-- a read is registered
abbrev pub requested : Scheduler → ReadRequest → Scheduler
requested s r = record s { reads = s.reads ++ register_read r ∷ []; next = r.id + 1 }

-- a registered read is polled, any other stays
abbrev pub polled : Scheduler → ℕ → Scheduler
polled s id = record s { reads = change (λ n. n == id) poll_read s.reads }

-- a registered, polled or resolved read is gone; one in flight is marked
abbrev pub dropped : Scheduler → ℕ → Scheduler
dropped s id = record s { reads = change (λ n. n == id) drop_read s.reads }

-- the reads of a span are in flight
abbrev pub taken : Scheduler → Span → Scheduler
taken s span = record s { reads = change (is_listed span.reads) (take_read span.reads) s.reads }

-- the reads of spans are in flight
abbrev pub all_taken : Scheduler → List Span → Scheduler
all_taken s [] = s
all_taken s (span ∷ rest) = all_taken (taken s span) rest

-- the unmarked reads of a span are resolved, its marked ones are gone
abbrev pub resolved : Scheduler → Span → Scheduler
resolved s span = record s { reads = change (is_listed span.reads) resolve_read s.reads }

-- several spans are resolved
abbrev pub all_resolved : Scheduler → List Span → Scheduler
all_resolved s [] = s
all_resolved s (span ∷ rest) = all_resolved (resolved s span) rest

-- a batch is taken and resolved
abbrev pub settled : Scheduler → List Span → Scheduler
settled s spans = all_resolved (all_taken s spans) spans

-- each span merges from what the earlier ones leave
abbrev pub MergesInTurn : Scheduler → List Span → Type 0
MergesInTurn s [] = Unit {0}
MergesInTurn s (span ∷ rest) = MergesNow s span × MergesInTurn (taken s span) rest

-- a span is in flight: its first read leads its reads, and its range is theirs
pub record IsInFlight (s : Scheduler) (span : Span) : Type 0 where
  pub some : 1 ≤ length span.reads
  pub leads : leads_at s.reads (first_number span.reads) ≡ span.reads
  pub range : span ≡ span_at s span.reads

-- each of some spans is in flight
abbrev pub AllInFlight : Scheduler → List Span → Type 0
AllInFlight s [] = Unit {0}
AllInFlight s (span ∷ rest) = IsInFlight s span × AllInFlight s rest

-- spans begin with reads of different numbers
abbrev pub AreApart : List Span → Type 0
AreApart [] = Unit {0}
AreApart (span ∷ rest) = AllByRecursion (λ t. (first_number span.reads == first_number t.reads) ≡ false) rest × AreApart rest

-- what a caller may do
abbrev pub MayHappen : Scheduler → ReadEvent → Type 0
MayHappen s (asked.Request r) = (s.next ≤ r.id) × (end_of r < 2 ^ 64)
MayHappen s (asked.Polled id) = Unit {0}
MayHappen s (asked.Dropped id) = Unit {0}

-- the scheduler after what a caller does
abbrev pub stepped : Scheduler → ReadEvent → Scheduler
stepped s (asked.Request r) = requested s r
stepped s (asked.Polled id) = polled s id
stepped s (asked.Dropped id) = dropped s id

-- whether it only changes what is there
abbrev pub takes_no_memory : ReadEvent → Bool
takes_no_memory (asked.Request r) = false
takes_no_memory (asked.Polled id) = true
takes_no_memory (asked.Dropped id) = true

-- spans may be taken
pub record MayTake (s : Scheduler) (spans : List Span) : Type 0 where
  pub some : 1 ≤ length spans
  pub merge : MergesInTurn s spans
  pub fit : ranges_in_flight (all_taken s spans).reads ≤ s.concurrency

-- an event is legal
abbrev pub IsLegalNow : Scheduler → Event → Type 0
IsLegalNow s (happens.Request r) = MayHappen s (asked.Request r)
IsLegalNow s (happens.Polled id) = Unit {0}
IsLegalNow s (happens.Dropped id) = Unit {0}
IsLegalNow s (happens.Take spans) = MayTake s spans
IsLegalNow s (happens.Resolve span) = IsInFlight s span

-- the scheduler after an event
abbrev pub after_event : Scheduler → Event → Scheduler
after_event s (happens.Request r) = requested s r
after_event s (happens.Polled id) = polled s id
after_event s (happens.Dropped id) = dropped s id
after_event s (happens.Take spans) = all_taken s spans
after_event s (happens.Resolve span) = resolved s span

-- the scheduler after a list of events
abbrev pub replay : Scheduler → List Event → Scheduler
replay s [] = s
replay s (e ∷ rest) = replay (after_event s e) rest

-- each event of a list is legal at its place
abbrev pub IsLegal : Scheduler → List Event → Type 0
IsLegal s [] = Unit {0}
IsLegal s (e ∷ rest) = IsLegalNow s e × IsLegal (after_event s e) rest
