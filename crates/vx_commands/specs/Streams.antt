-- What streams took and gave.
use Rattle.std.specs.Prelude.{◌≡◌, ℕ, ◌+◌, ◌≤◌, ◌<◌, List, [], length, drop, Some, Result, Ok, Err}
use Rattle.vx_base.specs.Counts.{Rises}
use Rattle.vx_base.specs.Streams.{SourceState}
use Rattle.vx_commands.specs.declared.input.InputError.{InputError}
use Rattle.vx_commands.specs.declared.input.InputError.TheVariants as errors
use Rattle.vx_commands.specs.declared.input.TheConstants.{MOST_INPUT}

-- the input was read to its end, and this is all of it
pub record ReadToEnd (text : List ℕ) (now : SourceState) : Type 0 where
  pub ended : now.rest ≡ Some []
  pub short : length text ≤ MOST_INPUT

-- one byte more was taken than an input may have
pub record TooLong (text : List ℕ) (now : SourceState) : Type 0 where
  pub long : MOST_INPUT < length text
  pub taken : now.rest ≡ Some (drop (MOST_INPUT + 1) text)

-- what was taken of an input has its cause
abbrev pub InputCause : {A : Type 0} → (A → List ℕ) → SourceState → SourceState → Result A InputError → Type 0
InputCause view before now (Ok read) = (text : List ℕ) → before.rest ≡ Some text → (view read ≡ text) × ReadToEnd text now
InputCause view before now (Err errors.Failed) = Rises 1 before.faults now.faults
InputCause view before now (Err errors.TooLong) = (text : List ℕ) → before.rest ≡ Some text → TooLong text now
InputCause view before now (Err errors.OutOfMemory) = Unit {0}
