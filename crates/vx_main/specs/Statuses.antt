-- What each exit status of a run says.
use Rattle.std.specs.Prelude.{◌≡◌, ℕ, ◌∷◌, [], Bool, true, false, ◌==◌, List, Option, Some, None, ◌⊎◌}
use Rattle.vx_base.specs.Openers.{OpenerState}
use Rattle.vx_base.specs.Streams.{SinkState}
use Rattle.vx_footer.specs.declared.error.OpenError.{OpenError}
use Rattle.vx_footer.specs.declared.write_error.WriteError.{WriteError}
use Rattle.vx_rows.specs.declared.array_error.ArrayError.{ArrayError}
use Rattle.vx_rows.specs.declared.bind_error.BindError.{BindError}
use Rattle.vx_sched.specs.declared.fault.Fault.{Fault}
use Rattle.vx_commands.specs.declared.command.Command.{Command}
use Rattle.vx_commands.specs.declared.failure.Failure.{Failure}
use Rattle.vx_commands.specs.declared.failure.Failure.TheVariants as failures
use Rattle.vx_commands.specs.Command.{names_of, reads_input}
use Rattle.vx_commands.specs.Failures.{HasCause, message_of}
use Rattle.vx_commands.specs.Outputs.{IsTold, wanted_status}
use Rattle.vx_commands.specs.Outside.{Outside, Steady}
use Rattle.vx_commands.specs.Performs.{Fails, Prints, Reports}

-- a failure with its cause, and its line on the error stream
pub record Says (c : Command) (before now : Outside) (err err_now : SinkState) (failure : Failure) : Type 0 where
  pub cause : HasCause c before now failure
  pub reported : Reports (message_of failure) err err_now

-- some line of the input is in no grammar
abbrev pub SaysLine : Command → Outside → Outside → SinkState → SinkState → Type 0
SaysLine c before now err err_now = (line : ℕ) × Says c before now err err_now (failures.Line line)

-- The file fails some check, lacks a segment that its layout names, has rows of which the predicate is none, or a segment that
-- is no array; or the file of the rows is refused
abbrev pub SaysRefused : Command → Outside → Outside → SinkState → SinkState → Type 0
SaysRefused c before now err err_now =
    ((refusal : OpenError) × Says c before now err err_now (failures.Refused refusal)) ⊎ Says c before now err err_now failures.MissingSegment
    ⊎ ((error : BindError) × Says c before now err err_now (failures.Unbound error))
    ⊎ ((error : ArrayError) × Says c before now err err_now (failures.Undecoded error))
    ⊎ ((error : WriteError) × Says c before now err err_now (failures.Unwritten error))

-- some read failed
abbrev pub SaysRead : Command → Outside → Outside → SinkState → SinkState → Type 0
SaysRead c before now err err_now = (fault : Fault) × Says c before now err err_now (failures.Read fault)

-- the file of some name could not be opened
abbrev pub SaysOpen : Command → Outside → Outside → SinkState → SinkState → Type 0
SaysOpen c before now err err_now = (name : List ℕ) × Says c before now err err_now (failures.Open name)

abbrev pub when : Bool → Type 0 → Type 0 → Type 0
when true holds else_holds = holds
when false holds else_holds = else_holds

-- what a status says of a command
abbrev pub Means : ℕ → Command → Outside → Outside → SinkState → SinkState → Type 0
Means code c before now err err_now =
    when (code == 0) (Prints c before now × (err_now ≡ err))
    (when (code == 3) (SaysLine c before now err err_now)
    (when (code == 4) (SaysRefused c before now err err_now)
    (when (code == 5) (SaysRead c before now err err_now)
    (when (code == 6) (Says c before now err err_now failures.Input)
    (when (code == 7) (Says c before now err err_now failures.Output)
    (when (code == 8) (SaysOpen c before now err err_now)
    (when (code == 9) (Says c before now err err_now failures.InputTooLong)
    (when (code == 70) (Says c before now err err_now failures.OutOfMemory) ⊥))))))))

-- the files and their reads stand still
pub record FilesWell (before now : OpenerState) : Type 0 where
  pub opens : Steady before.faults now.faults
  pub reads : Steady before.read_faults now.read_faults

-- no count of what a command calls rose, and what it reads is told
pub record AllWell (c : Command) (before now : Outside) : Type 0 where
  pub told : IsTold c before
  pub input : reads_input c ≡ true → Steady before.source.faults now.source.faults
  pub files : (name : List ℕ) → names_of c ≡ name ∷ [] → FilesWell before.files now.files
  pub output : Steady before.out.faults now.out.faults

-- words that are no command end with 2, or with 70 where memory ran out before that was known
abbrev pub EndsUnparsed : SinkState → SinkState → ℕ → Type 0
EndsUnparsed err err_now code = Fails failures.Usage err err_now code ⊎ Fails failures.OutOfMemory err err_now code

-- 2 comes only where the words are no command, which touch nothing; each other status says what it means; and where all
-- is well it is the one that words, input and file deserve, or 70
pub record Statuses (command : Option Command) (before now : Outside) (err err_now : SinkState) (code : ℕ) : Type 0 where
  pub unparsed : command ≡ None → EndsUnparsed err err_now code × (now ≡ before)
  pub usage_only : code ≡ 2 → command ≡ None
  pub means : (c : Command) → command ≡ Some c → Means code c before now err err_now
  pub complete : (c : Command) → command ≡ Some c → AllWell c before now → (code ≡ wanted_status c before) ⊎ (code ≡ 70)
