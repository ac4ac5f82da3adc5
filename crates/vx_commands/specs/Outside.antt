-- What a run finds and leaves outside: its input, the files, and the output.
use Rattle.std.specs.Prelude.{◌≡◌, ℕ, ◌≤◌, ◌<◌, true, List, Option, Some, None}
use Rattle.vx_base.specs.Counts.{last_count}
use Rattle.vx_base.specs.Openers.{OpenerState, SameOpener}
use Rattle.vx_base.specs.Streams.{SourceState, SinkState, SameSource, SameSink}
use Rattle.vx_file.specs.Hints.{IsSizeOf}
use Rattle.vx_commands.specs.declared.command.Command.{Command}
use Rattle.vx_commands.specs.declared.command.Command.TheVariants.{Help, Version, Serve, Demo, Sizes, Prune, Scan, Write, Gen}

pub record Outside : Type 0 where
  pub source : SourceState
  pub files : OpenerState
  pub out : SinkState

abbrev pub outside : SourceState → OpenerState → SinkState → Outside
outside source files out = record { source = source; files = files; out = out }

-- what no run changes
pub record SameOutside (before now : Outside) : Type 0 where
  pub source : SameSource before.source now.source
  pub files : SameOpener before.files now.files
  pub out : SameSink before.out now.out

-- ---- counts of faults

-- the counts of an opener whose file of this name is told and never fails stand still, where a size that is
-- supplied is the file's
pub record OpenerSteady (size : Option ℕ) (name : List ℕ) (before now : OpenerState) : Type 0 where
  pub opens : before.never_fails name ≡ true → now.faults ≡ before.faults
  pub reads : (file : List ℕ) → before.never_fails name ≡ true → before.file name ≡ Some file → IsSizeOf size file → before.read_faults ≤ last_count →
      now.read_faults ≡ before.read_faults

-- an opener that no command calls stays as it is
abbrev pub FilesSteady : Option Command → OpenerState → OpenerState → Type 0
FilesSteady None before now = now ≡ before
FilesSteady (Some Help) before now = now ≡ before
FilesSteady (Some Version) before now = now ≡ before
FilesSteady (Some (Serve s)) before now = OpenerSteady s.size s.name before now
FilesSteady (Some (Demo d)) before now = now ≡ before
FilesSteady (Some (Sizes s)) before now = OpenerSteady None s.name before now
FilesSteady (Some (Prune p)) before now = OpenerSteady None p.name before now
FilesSteady (Some (Scan s)) before now = OpenerSteady None s.name before now
FilesSteady (Some (Write w)) before now = now ≡ before
FilesSteady (Some (Gen g)) before now = now ≡ before

-- the counts of what never fails stand still
pub record KeepSteady (command : Option Command) (before now : Outside) : Type 0 where
  pub source : before.source.never_fails ≡ true → now.source.faults ≡ before.source.faults
  pub files : FilesSteady command before.files now.files
  pub out : before.out.never_fails ≡ true → now.out.faults ≡ before.out.faults

-- what the answer of a command leaves of its input and the files
pub record Keeps (c : Command) (source source_now : SourceState) (files files_now : OpenerState) : Type 0 where
  pub source_steady : source.never_fails ≡ true → source_now.faults ≡ source.faults
  pub files_steady : FilesSteady (Some c) files files_now
  pub source_same : SameSource source source_now
  pub files_same : SameOpener files files_now

-- a count stands still
pub record Steady (before now : ℕ) : Type 0 where
  pub same : now ≡ before
  pub below : before < last_count
