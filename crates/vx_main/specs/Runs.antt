-- What a run of the program does.
use Rattle.std.specs.Prelude.{◌≡◌, ℕ, Option, Result, Ok, Err}
use Rattle.vx_base.specs.Streams.{SinkState}
use Rattle.vx_commands.specs.declared.command.Command.{Command}
use Rattle.vx_commands.specs.declared.failure.Failure.{Failure}
use Rattle.vx_commands.specs.Outside.{Outside}
use Rattle.vx_commands.specs.Performs.{Performs, Fails}

-- status 0 and nothing on the error stream, or a failure with its status and line
abbrev pub Concludes : Result (Unit {0}) Failure → SinkState → SinkState → ℕ → Type 0
Concludes (Ok _) err err_now code = (code ≡ 0) × (err_now ≡ err)
Concludes (Err failure) err err_now code = Fails failure err err_now code

-- A run of the program: the command that the words ask for was performed, or has a failure with its cause,
-- and the status and the error stream are those of it.
pub record Runs (command : Option Command) (before now : Outside) (err err_now : SinkState) (code : ℕ) : Type 0 where
  pub result : Result (Unit {0}) Failure
  pub performs : Performs command before now result
  pub concludes : Concludes result err err_now code
