-- A read as the table keeps it, and its stage.
use Rattle.std.specs.Prelude.{◌≡◌, ℕ, true, false}
use Rattle.vx_sched.specs.declared.read.Stage.{Stage}
use Rattle.vx_sched.specs.declared.read.Stage.TheVariants.{Registered, Polled, InFlight, Resolved}
use Rattle.vx_sched.specs.declared.read.Standing.{Standing}
use Rattle.vx_sched.specs.declared.read.Standing.TheVariants as standing
use Rattle.vx_sched.specs.declared.request.ReadRequest.{ReadRequest}

-- a read, and the stage that it is in
pub record Read : Type 0 where
  pub request : ReadRequest
  pub stage : Stage

-- the stage of a read that stands so, and is in this span of so many reads if it is in flight
abbrev pub stage_of : Standing → ℕ → ℕ → Stage
stage_of standing.Registered span size = Registered
stage_of standing.Polled span size = Polled
stage_of standing.Flies span size = InFlight span size false
stage_of standing.FliesDropped span size = InFlight span size true
stage_of standing.Resolved span size = Resolved

-- a read that is not in flight keeps no span
abbrev pub IsTidy : Standing → ℕ → ℕ → Type 0
IsTidy standing.Registered span size = (0 ≡ span) × (0 ≡ size)
IsTidy standing.Polled span size = (0 ≡ span) × (0 ≡ size)
IsTidy standing.Flies span size = Unit {0}
IsTidy standing.FliesDropped span size = Unit {0}
IsTidy standing.Resolved span size = (0 ≡ span) × (0 ≡ size)

-- ---- what a stage tells

abbrev pub standing_of : Stage → Standing
standing_of Registered = standing.Registered
standing_of Polled = standing.Polled
standing_of (InFlight span size false) = standing.Flies
standing_of (InFlight span size true) = standing.FliesDropped
standing_of Resolved = standing.Resolved

abbrev pub span_in : Stage → ℕ
span_in Registered = 0
span_in Polled = 0
span_in (InFlight span size dropped) = span
span_in Resolved = 0

abbrev pub size_in : Stage → ℕ
size_in Registered = 0
size_in Polled = 0
size_in (InFlight span size dropped) = size
size_in Resolved = 0

abbrev pub standing_back : (s : Standing) (span size : ℕ) → standing_of (stage_of s span size) ≡ s
standing_back standing.Registered span size = λ i. standing.Registered
standing_back standing.Polled span size = λ i. standing.Polled
standing_back standing.Flies span size = λ i. standing.Flies
standing_back standing.FliesDropped span size = λ i. standing.FliesDropped
standing_back standing.Resolved span size = λ i. standing.Resolved

abbrev pub span_back : (s : Standing) (span size : ℕ) → IsTidy s span size → span_in (stage_of s span size) ≡ span
span_back standing.Registered span size tidy = tidy.0
span_back standing.Polled span size tidy = tidy.0
span_back standing.Flies span size tidy = λ i. span
span_back standing.FliesDropped span size tidy = λ i. span
span_back standing.Resolved span size tidy = tidy.0

abbrev pub size_back : (s : Standing) (span size : ℕ) → IsTidy s span size → size_in (stage_of s span size) ≡ size
size_back standing.Registered span size tidy = tidy.1
size_back standing.Polled span size tidy = tidy.1
size_back standing.Flies span size tidy = λ i. size
size_back standing.FliesDropped span size tidy = λ i. size
size_back standing.Resolved span size tidy = tidy.1
