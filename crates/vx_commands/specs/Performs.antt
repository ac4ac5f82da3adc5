-- What performing a command does, and reporting a failure.
use Rattle.std.specs.Prelude.{◌≡◌, ℕ, true, List, Option, Some, None, Result, Ok, Err, ◌⊎◌}
use Rattle.vx_base.specs.Counts.{Rises}
use Rattle.vx_base.specs.Openers.{OpenerState}
use Rattle.vx_base.specs.Streams.{SinkState, SourceState, Took, TookPrefix}
use Rattle.vx_base.specs.declared.fault.SinkError.{SinkError}
use Rattle.vx_base.specs.declared.fault.SinkError.TheVariants as sink_error
use Rattle.vx_commands.specs.declared.answer.Answer.{Answer}
use Rattle.vx_commands.specs.declared.command.Command.{Command}
use Rattle.vx_commands.specs.declared.failure.Failure.{Failure}
use Rattle.vx_commands.specs.declared.failure.Failure.TheVariants as failures
use Rattle.vx_commands.specs.Failures.{HasCause, status_of, message_of}
use Rattle.vx_commands.specs.Outputs.{IsAnswer, Opens, is_text, text_of, unwritten, refusal_status, Deserves}
use Rattle.vx_commands.specs.Outside.{Outside}

-- ---- the answer of a command

-- an answer is the command's, and the status that it brings is what it deserves
pub record Given (c : Command) (before now : Outside) (answer : Answer) : Type 0 where
  pub is : IsAnswer c before now answer
  pub deserved : Deserves c before (refusal_status (unwritten answer))

abbrev pub Answers : Command → Outside → Outside → Result Answer Failure → Type 0
Answers c before now (Ok answer) = Given c before now answer
Answers c before now (Err failure) = HasCause c before now failure

-- a command was answered over its input and the files, whatever the output is
pub record Gathers (c : Command) (source source_now : SourceState) (files files_now : OpenerState) (result : Result Answer Failure) : Type 0 where
  pub each : (out : SinkState) → Answers c (record { source = source; files = files; out = out })
      (record { source = source_now; files = files_now; out = out }) result

-- ---- printing

-- why the program fails where its output fails so
abbrev pub output_failure_of : SinkError → Failure
output_failure_of sink_error.Failed = failures.Output
output_failure_of sink_error.OutOfMemory = failures.OutOfMemory

-- what the program answers where its output answers this
abbrev pub shown_of : Result (Unit {0}) SinkError → Result (Unit {0}) Failure
shown_of (Ok _) = Ok tt
shown_of (Err error) = Err (output_failure_of error)

-- The text of an answer was written whole and flushed, or a prefix of it was taken: the sink refused the rest, memory ran out, or
-- a check refuses the file that it is. Only where it is a file, memory may have run out beside the sink.
abbrev pub Shows : Answer → SinkState → SinkState → Result (Unit {0}) Failure → Type 0
Shows answer before now (Ok _) = Took (text_of answer) before.gained now.gained × (now.is_flushed ≡ true) × (unwritten answer ≡ None) × Opens answer
Shows answer before now (Err (failures.Unwritten e)) = TookPrefix (text_of answer) before.gained now.gained × (unwritten answer ≡ Some e)
Shows answer before now (Err failures.Output) = TookPrefix (text_of answer) before.gained now.gained × Rises 1 before.faults now.faults
Shows answer before now (Err failures.OutOfMemory) =
    TookPrefix (text_of answer) before.gained now.gained × (is_text answer ≡ true → Rises 1 before.memory_faults now.memory_faults)
Shows answer before now (Err _) = ⊥

-- the text of the command's answer was written whole and flushed; where it is a file of rows, that opens again and has the rows
pub record Prints (c : Command) (before now : Outside) : Type 0 where
  pub answer : Answer
  pub given : Given c before now answer
  pub whole : unwritten answer ≡ None
  pub opens : Opens answer
  pub took : Took (text_of answer) before.out.gained now.out.gained
  pub flushed : now.out.is_flushed ≡ true

-- the words are no command, or there was no memory to tell
abbrev pub IsUnparsed : Result (Unit {0}) Failure → Type 0
IsUnparsed result = (result ≡ Err failures.Usage) ⊎ (result ≡ Err failures.OutOfMemory)

-- words that are no command touch nothing
abbrev pub Performs : Option Command → Outside → Outside → Result (Unit {0}) Failure → Type 0
Performs None before now result = IsUnparsed result × (now ≡ before)
Performs (Some c) before now (Ok _) = Prints c before now
Performs (Some c) before now (Err failure) = HasCause c before now failure

-- ---- a failure

-- a line was written whole, or a prefix of it where a call of the stream failed or found no memory
abbrev pub Reports : List ℕ → SinkState → SinkState → Type 0
Reports text before now = Took text before.gained now.gained ⊎
    (TookPrefix text before.gained now.gained × (Rises 1 before.faults now.faults ⊎ Rises 1 before.memory_faults now.memory_faults))

-- a failure has its status, and its line stands on the error stream
pub record Fails (failure : Failure) (err err_now : SinkState) (code : ℕ) : Type 0 where
  pub status : code ≡ status_of failure
  pub reported : Reports (message_of failure) err err_now
