-- What a caller does with a scheduler, call by call.
use Rattle.std.specs.Prelude.{◌≡◌, ◌<◌, List, [], ◌∷◌, ◌++◌, map}
use Rattle.vx_sched.specs.Span.{Span}
use Rattle.vx_sched.specs.Reads.{ranges_in_flight}
use Rattle.vx_sched.specs.Scheduling.{Scheduler, MayHappen, MayTake, MergesNow, IsInFlight, IsLegal, stepped, taken, all_taken, resolved, settled, replay}
use Rattle.vx_sched.specs.Law.{Keeps}
use Rattle.vx_sched.specs.declared.event.ReadEvent.{ReadEvent}
use Rattle.vx_sched.specs.declared.event.ReadEvent.TheVariants as asked
use Rattle.vx_sched.specs.declared.event.Event.{Event}
use Rattle.vx_sched.specs.declared.event.Event.TheVariants as happens

-- a call and what it gave: an event, no memory, a batch that is taken, the next span or none, a span
-- that is resolved, and a batch that is settled
pub data Call : Type 0 where
  told : ReadEvent → Call
  refused : Call
  took : List Span → Call
  gave : Span → Call
  gave_none : Call
  resolves : Span → Call
  settles : List Span → Call

-- a call under its conditions, from one state to the next
abbrev pub IsCall : Call → Scheduler → Scheduler → Type 0
IsCall (told e) s t = MayHappen s e × (t ≡ stepped s e)
IsCall refused s t = t ≡ s
IsCall (took spans) s t = MayTake s spans × (t ≡ all_taken s spans)
IsCall (gave span) s t = (ranges_in_flight s.reads < s.concurrency) × MergesNow s span × (t ≡ taken s span)
IsCall gave_none s t = t ≡ s
IsCall (resolves span) s t = IsInFlight s span × (t ≡ resolved s span)
IsCall (settles spans) s t = MayTake s spans × (t ≡ settled s spans)

-- calls one after another, from one state to the last
abbrev pub AreCalls : List Call → Scheduler → Scheduler → Type 0
AreCalls [] s t = t ≡ s
AreCalls (c ∷ rest) s t = (m : Scheduler) × (IsCall c s m × AreCalls rest m t)

abbrev pub event_of : ReadEvent → Event
event_of (asked.Request r) = happens.Request r
event_of (asked.Polled id) = happens.Polled id
event_of (asked.Dropped id) = happens.Dropped id

-- the events of a call
abbrev pub events_of : Call → List Event
events_of (told e) = event_of e ∷ []
events_of refused = []
events_of (took spans) = happens.Take spans ∷ []
events_of (gave span) = happens.Take (span ∷ []) ∷ []
events_of gave_none = []
events_of (resolves span) = happens.Resolve span ∷ []
events_of (settles spans) = happens.Take spans ∷ map happens.Resolve spans

-- the events of several calls
abbrev pub all_events : List Call → List Event
all_events [] = []
all_events (c ∷ rest) = events_of c ++ all_events rest

-- the events are legal, their replay is the state, and what holds of legal lists holds
pub record IsReplay (s : Scheduler) (events : List Event) (t : Scheduler) : Type 0 where
  pub legal : IsLegal s events
  pub state : t ≡ replay s events
  pub keeps : Keeps s events
