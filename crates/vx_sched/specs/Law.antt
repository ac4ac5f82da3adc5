-- What holds of every legal list of events.
use Rattle.std.specs.Prelude.{◌≡◌, ℕ, ◌+◌, ◌-◌, ◌≤◌, ◌==◌, max, Bool, true, false, List, [], ◌∷◌, Option, IsSome, if◌then◌else◌}
use Rattle.std.specs.List.{list_any}
use Rattle.vx_sched.specs.Span.{Span, end_of}
use Rattle.vx_sched.specs.Reads.{Reads, read_at, leads_at, flying_at, flights, has_first, ranges_in_flight}
use Rattle.vx_sched.specs.Merging.{is_listed, first_number}
use Rattle.vx_sched.specs.Scheduling.{Scheduler, IsOrdered, replay}
use Rattle.vx_sched.specs.declared.request.ReadRequest.{ReadRequest}
use Rattle.vx_sched.specs.declared.event.Event.{Event}
use Rattle.vx_sched.specs.declared.event.Event.TheVariants.{Request, Polled, Dropped, Take, Resolve}

-- a scheduler without reads
abbrev pub idle : Option ℕ → Option ℕ → ℕ → ℕ → Scheduler
idle distance limit alignment concurrency = record {
  distance = distance;
  limit = limit;
  alignment = alignment;
  concurrency = concurrency;
  reads = [];
  next = 0;
}

-- whether an event asks for a read of a number
abbrev pub requests : ℕ → Event → Bool
requests id (Request r) = r.id == id
requests id (Polled _) = false
requests id (Dropped _) = false
requests id (Take _) = false
requests id (Resolve _) = false

-- whether an event drops a number
abbrev pub drops : ℕ → Event → Bool
drops id (Request _) = false
drops id (Polled _) = false
drops id (Dropped q) = q == id
drops id (Take _) = false
drops id (Resolve _) = false

-- how many of some spans list a number
abbrev pub times_in : ℕ → List Span → ℕ
times_in id [] = 0
times_in id (span ∷ rest) = (if is_listed span.reads id then 1 else 0) + times_in id rest

-- how many spans of an event list a number
abbrev pub times_of : ℕ → Event → ℕ
times_of id (Request _) = 0
times_of id (Polled _) = 0
times_of id (Dropped _) = 0
times_of id (Take spans) = times_in id spans
times_of id (Resolve _) = 0

-- how many taken spans list a number
abbrev pub times_taken : ℕ → List Event → ℕ
times_taken id [] = 0
times_taken id (e ∷ rest) = times_of id e + times_taken id rest

-- the bytes of a range that no read covers, from the greatest end before the first read on
abbrev pub uncovered_after : ℕ → List ReadRequest → ℕ
uncovered_after reach [] = 0
uncovered_after reach (r ∷ rest) = (r.offset - reach) + uncovered_after (max reach (end_of r)) rest

-- the bytes of a span that none of its reads covers
abbrev pub uncovered : Span → ℕ
uncovered span = uncovered_after span.start span.reads

-- the first numbers of lists of reads rise, from one at or above this
abbrev pub FirstNumbersRise : ℕ → List (List ReadRequest) → Type 0
FirstNumbersRise from [] = Unit {0}
FirstNumbersRise from (reads ∷ rest) = (from ≤ first_number reads) × FirstNumbersRise (first_number reads + 1) rest

-- how spans in flight, each under the number of its first read, hold the reads in flight: each read in
-- flight is in one of them and in one alone
pub record Holds (leads : ℕ → List ReadRequest) (flying : ℕ → Bool) : Type 0 where
  pub named : (n : ℕ) → has_first (leads n) ≡ true → first_number (leads n) ≡ n
  pub flies : (n q : ℕ) → is_listed (leads n) q ≡ true → flying q ≡ true
  pub held : (q : ℕ) → flying q ≡ true → (n : ℕ) × (is_listed (leads n) q ≡ true)
  pub alone : (n m q : ℕ) → is_listed (leads n) q ≡ true → is_listed (leads m) q ≡ true → n ≡ m

-- the spans in flight are distinct and hold the reads in flight
pub record AreFlights (reads : Reads) : Type 0 where
  pub distinct : FirstNumbersRise 0 (flights reads)
  pub holds : Holds (leads_at reads) (flying_at reads)

-- the numbers rise, and the spans in flight are so
pub record IsSound (s : Scheduler) : Type 0 where
  pub ordered : IsOrdered s
  pub spans : AreFlights s.reads

-- what holds after every legal list of events: each number stands once; one that was asked for and
-- never dropped has a read, which is in one state; no number is taken twice; and at most so many
-- ranges, of distinct spans, are in flight as the settings allow
pub record Keeps (s : Scheduler) (events : List Event) : Type 0 where
  pub sound : IsSound (replay s events)
  pub kept : (id : ℕ) → list_any (requests id) events ≡ true → list_any (drops id) events ≡ false → IsSome (read_at (replay s events).reads id)
  pub taken : (id : ℕ) → times_taken id events ≤ 1
  pub fits : ranges_in_flight (replay s events).reads ≤ s.concurrency
