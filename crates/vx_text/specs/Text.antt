-- A text that goes to a sink through a buffer: what was put into it stands on the sink and in the buffer.
use Rattle.std.specs.Prelude.{◌≡◌, ℕ, true, List, [], ◌++◌, Option, Some, None, Result, OnOk}
use Rattle.vx_base.specs.Counts.{Rises}
use Rattle.vx_base.specs.Streams.{SinkState, SameSink, Took, WritesAll}
use Rattle.vx_base.specs.declared.fault.SinkError.{SinkError}
use Rattle.vx_base.specs.declared.fault.SinkError.TheVariants as sink_error

-- what waits in the buffer, and why nothing more is written
pub record TextState : Type 0 where
  pub held : List ℕ
  pub failure : Option SinkError

abbrev pub new_text : TextState
new_text = record { held = []; failure = None }

-- Since the sink stood so, this text was put in: a front of it was sent, and the rest waits in the buffer,
-- unless a write was refused.
pub record Stands (start : SinkState) (text : List ℕ) (w : TextState) (now : SinkState) : Type 0 where
  pub sent : List ℕ
  pub rest : List ℕ
  pub text_is : text ≡ sent ++ rest
  pub took : Took sent start.gained now.gained
  pub going : w.failure ≡ None → rest ≡ w.held
  pub failed : w.failure ≡ Some sink_error.Failed → Rises 1 start.faults now.faults
  pub memory : w.failure ≡ Some sink_error.OutOfMemory → Rises 1 start.memory_faults now.memory_faults
  pub sound : start.never_fails ≡ true → (w.failure ≡ Some sink_error.Failed → ⊥)
  pub steady : start.never_fails ≡ true → now.faults ≡ start.faults
  pub same : SameSink start now

-- these bytes were put in behind the text that stood
pub record Adds (bytes : List ℕ) (w : TextState) (before : SinkState) (w_now : TextState) (now : SinkState) : Type 0 where
  pub each : (start : SinkState) (text : List ℕ) → Stands start text w before → Stands start (text ++ bytes) w_now now

-- a text was written whole and flushed, or a prefix of it stands on the sink
pub record Writes (text : List ℕ) (before now : SinkState) (result : Result (Unit {0}) SinkError) : Type 0 where
  pub written : WritesAll text before now result
  pub flushed : OnOk result (now.is_flushed ≡ true)
  pub same : SameSink before now

-- what was put in was written whole and flushed, or a prefix of it stands on the sink
pub record Finishes (w : TextState) (before now : SinkState) (result : Result (Unit {0}) SinkError) : Type 0 where
  pub each : (start : SinkState) (text : List ℕ) → Stands start text w before → Writes text start now result

-- these bytes wait in the buffer behind what waited there, and nothing was sent
pub record Holds (bytes : List ℕ) (w w_now : TextState) : Type 0 where
  pub held : w_now.held ≡ w.held ++ bytes
  pub failure : w_now.failure ≡ w.failure
