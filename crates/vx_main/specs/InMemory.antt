-- What a run over memory leaves.
use Rattle.std.specs.Prelude.{◌≡◌, ℕ, true, List, [], ◌∷◌, String, Vec, Option, Some, ◌⊎◌}
use Rattle.std.specs.Global.{Global}
use Rattle.vx_base.specs.Buffer.{Buffer}
use Rattle.vx_base.specs.Memory.{MemSinkState, source_state, sink_state, opener_state, new_opener}
use Rattle.vx_base.specs.Streams.{SinkState}
use Rattle.vx_base.specs.declared.mischief.Mischief.{Mischief}
use Rattle.vx_commands.specs.declared.command.Command.{Command}
use Rattle.vx_main.specs.declared.memory.Left.{Left}
use Rattle.vx_commands.specs.Command.{names_of}
use Rattle.vx_commands.specs.Outputs.{IsTold, wanted_status}
use Rattle.vx_commands.specs.Outside.{Outside}
use Rattle.vx_main.specs.Runs.{Runs}

abbrev pub Files : Type 0
Files = List (String Global × Buffer × Vec Mischief Global)

-- a stream in memory that took nothing yet, and of which no call fails
abbrev pub new_sink : MemSinkState
new_sink = record { gained = []; is_flushed = true; fail = []; calls = 0; faults = 0; memory_faults = 0 }

-- an input, files and an output in memory, of which no call fails but what the files' mischief does
abbrev pub in_memory : List ℕ → Files → Outside
in_memory input files = record {
  source = source_state (record { rest = input; fail = []; calls = 0; faults = 0 });
  files = opener_state (new_opener files []);
  out = sink_state new_sink;
}

-- a run over memory left this
pub record RunsInMemory (command : Option Command) (input : List ℕ) (files : Files) (left : Left) : Type 0 where
  pub now : Outside
  pub err_now : SinkState
  pub runs : Runs command (in_memory input files) now (sink_state new_sink) err_now left.status
  pub out : now.out.gained ≡ Some left.out.items
  pub err : err_now.gained ≡ Some left.err.items

-- the file that a command opens, where it opens one, is there without mischief
abbrev pub IsWell : Command → Outside → Type 0
IsWell c before = IsTold c before × ((name : List ℕ) → names_of c ≡ name ∷ [] → before.files.never_fails name ≡ true)

-- it ends with the status that words, input and file deserve, or memory ran out
abbrev pub EndsWell : Option Command → List ℕ → Files → ℕ → Type 0
EndsWell command input files code = (c : Command) → command ≡ Some c → IsWell c (in_memory input files) →
    (code ≡ wanted_status c (in_memory input files)) ⊎ (code ≡ 70)
