-- The script that an input spells.
use Rattle.std.specs.Prelude.{◌≡◌, ℕ, List, Some, Result, Ok, Err}
use Rattle.vx_base.specs.Counts.{Rises}
use Rattle.vx_base.specs.Streams.{SourceState}
use Rattle.vx_file.specs.declared.step.Step.{Step}
use Rattle.vx_commands.specs.declared.script.ScriptError.{ScriptError}
use Rattle.vx_commands.specs.declared.script.ScriptError.TheVariants.{Line, OutOfMemory}
use Rattle.vx_commands.specs.declared.failure.Failure.{Failure}
use Rattle.vx_commands.specs.declared.failure.Failure.TheVariants as failures
use Rattle.vx_commands.specs.Script.{script_of}
use Rattle.vx_commands.specs.Streams.{ReadToEnd, TooLong}

-- the input was read to its end, and these are the steps that it spells
abbrev pub ReadsScript : SourceState → SourceState → List Step → Type 0
ReadsScript before now steps = (text : List ℕ) → before.rest ≡ Some text → ReadToEnd text now × (script_of text ≡ Ok steps)

-- the input, read to its end, has this line first that is no step
abbrev pub BadLine : ℕ → SourceState → SourceState → Type 0
BadLine line before now = (text : List ℕ) → before.rest ≡ Some text → ReadToEnd text now × (script_of text ≡ Err line)

-- the input has more bytes than it may
abbrev pub BadLength : SourceState → SourceState → Type 0
BadLength before now = (text : List ℕ) → before.rest ≡ Some text → TooLong text now

-- what was taken of the input has its cause
abbrev pub ScriptCause : SourceState → SourceState → Result (List Step) Failure → Type 0
ScriptCause before now (Ok steps) = ReadsScript before now steps
ScriptCause before now (Err (failures.Line line)) = BadLine line before now
ScriptCause before now (Err failures.Input) = Rises 1 before.faults now.faults
ScriptCause before now (Err failures.InputTooLong) = BadLength before now
ScriptCause before now (Err failures.OutOfMemory) = Unit {0}
ScriptCause before now (Err _) = ⊥

-- ---- the steps of a text

abbrev pub script_failure : ScriptError → Failure
script_failure (Line line) = failures.Line line
script_failure OutOfMemory = failures.OutOfMemory

-- what reading a script from a text gave has its cause
abbrev pub StepsCause : List ℕ → Result (List Step) Failure → Type 0
StepsCause text (Ok steps) = script_of text ≡ Ok steps
StepsCause text (Err (failures.Line line)) = script_of text ≡ Err line
StepsCause text (Err failures.OutOfMemory) = Unit {0}
StepsCause text (Err _) = ⊥
