-- What waits and what is polled after calls, by look-ups.
use Rattle.std.specs.Prelude.{◌≡◌, ℕ, ◌==◌, Bool, false, Option, Some, None, is_some, if◌then◌else◌}
use Rattle.vx_sched.specs.Reads.{waiting_at, polled_at}
use Rattle.vx_sched.specs.Scheduling.{Scheduler, SameSettings}
use Rattle.vx_sched.specs.declared.request.ReadRequest.{ReadRequest}
use Rattle.vx_sched.specs.declared.event.ReadEvent.{ReadEvent}
use Rattle.vx_sched.specs.declared.event.ReadEvent.TheVariants.{Request, Polled, Dropped}

-- what waits after what a caller does
abbrev pub waiting_after : ReadEvent → (ℕ → Option ReadRequest) → ℕ → Option ReadRequest
waiting_after (Request r) waiting q = if r.id == q then Some r else waiting q
waiting_after (Polled id) waiting q = waiting q
waiting_after (Dropped id) waiting q = if q == id then None else waiting q

-- what is polled after what a caller does
abbrev pub polled_after : ReadEvent → (ℕ → Option ReadRequest) → (ℕ → Bool) → ℕ → Bool
polled_after (Request r) waiting polled q = polled q
polled_after (Polled id) waiting polled q = if q == id then is_some (waiting q) else polled q
polled_after (Dropped id) waiting polled q = if q == id then false else polled q

-- what waits, what is polled, the settings and the next number are as before
pub record IsLeft (s t : Scheduler) : Type 0 where
  pub waiting : (q : ℕ) → waiting_at t.reads q ≡ waiting_at s.reads q
  pub polled : (q : ℕ) → polled_at t.reads q ≡ polled_at s.reads q
  pub settings : SameSettings s t
  pub next : t.next ≡ s.next
