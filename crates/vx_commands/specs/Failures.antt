-- The failures of the program: each with its status, its line, and its cause.
use Rattle.std.specs.Prelude.{◌≡◌, ℕ, Bool, true, false, List, [], ◌∷◌, ◌++◌, codes, decimal, Option, Some, None, Ok, Err, ◌⊎◌}
use Rattle.vx_base.specs.Counts.{Rises}
use Rattle.vx_base.specs.Openers.{OpenerState, AsksFor}
use Rattle.vx_base.specs.Streams.{SourceState, TookPrefix}
use Rattle.vx_footer.specs.declared.error.OpenError.{OpenError}
use Rattle.vx_footer.specs.Footers.{FooterContent}
use Rattle.vx_footer.specs.Opening.{vx_grammar}
use Rattle.vx_footer.specs.declared.write_error.WriteError.{WriteError}
use Rattle.vx_base.specs.declared.segment.SegmentId.{SegmentId}
use Rattle.vx_data.specs.Layout.{dtype_of as type_of_tree}
use Rattle.vx_rows.specs.declared.array_error.ArrayError.{ArrayError}
use Rattle.vx_rows.specs.declared.bind_error.BindError.{BindError}
use Rattle.vx_rows.specs.Predicates.{Pred}
use Rattle.vx_prune.specs.PredicateWords.{predicate_of}
use Rattle.vx_file.specs.Pruned.{pruned}
use Rattle.vx_sched.specs.declared.fault.Fault.{Fault}
use Rattle.vx_sched.specs.declared.fault.Place.{Place}
use Rattle.vx_sched.specs.declared.fault.Place.TheVariants.{Size, Range}
use Rattle.vx_file.specs.declared.step.Step.{Step}
use Rattle.vx_commands.specs.declared.answer.Answer.{Answer}
use Rattle.vx_commands.specs.declared.command.Command.{Command}
use Rattle.vx_commands.specs.declared.command.Command.TheVariants.{Help, Version, Serve, Demo, Sizes, Prune, Scan, Write, Gen}
use Rattle.vx_commands.specs.declared.failure.Failure.{Failure}
use Rattle.vx_commands.specs.declared.failure.Failure.TheVariants as failures
use Rattle.vx_file.specs.Hints.{IsSizeOf}
use Rattle.vx_file.specs.Plans.{plan_of}
use Rattle.vx_file.specs.ReaderScans.{IsMissing, IsUndecoded, IsThere, filter_on}
use Rattle.vx_file.specs.Scans.{FlatLayout, Segments}
use Rattle.vx_commands.specs.Command.{names_of, reads_input, writes_file, hints_of, settings_of_command, scan_hints}
use Rattle.vx_commands.specs.Demo.{demo_refusal}
use Rattle.vx_commands.specs.Generated.{gen_refusal}
use Rattle.vx_commands.specs.Input.{ReadsScript, BadLine, BadLength}
use Rattle.vx_commands.specs.Tables.{BadTableLine}
use Rattle.vx_commands.specs.Outputs.{IsAnswer, text_of, unwritten, Deserves, LacksSegment}
use Rattle.vx_commands.specs.Outside.{Outside}
use Rattle.vx_commands.specs.Refusals.{refusal_words, bind_error_words, array_error_words, write_error_words}
use Rattle.vx_commands.specs.Render.{fault_words}
use Rattle.vx_commands.specs.Scans.{OfSpelled, StopsFile}
use Rattle.vx_commands.specs.Served.{GaveBack, LeavesOpener, RefusesFile, LacksFile}

-- ---- statuses and lines

abbrev pub status_of : Failure → ℕ
status_of failures.Usage = 2
status_of (failures.Line line) = 3
status_of (failures.Refused refusal) = 4
status_of failures.MissingSegment = 4
status_of (failures.Unbound error) = 4
status_of (failures.Undecoded error) = 4
status_of (failures.Unwritten error) = 4
status_of (failures.Read fault) = 5
status_of failures.Input = 6
status_of failures.Output = 7
status_of (failures.Open name) = 8
status_of failures.InputTooLong = 9
status_of failures.OutOfMemory = 70

-- a read that failed is named by its kind and range, and the call for the size by its place alone
abbrev pub read_words : Fault → Place → List ℕ
read_words fault Size = codes "size"
read_words fault (Range offset size) = fault_words fault

abbrev pub failure_words : Failure → List ℕ
failure_words failures.Usage = codes "usage"
failure_words (failures.Line line) = codes "line " ++ decimal line
failure_words (failures.Refused refusal) = refusal_words refusal
failure_words failures.MissingSegment = codes "MissingSegment"
failure_words (failures.Unbound error) = bind_error_words error
failure_words (failures.Undecoded error) = array_error_words error
failure_words (failures.Unwritten error) = write_error_words error
failure_words (failures.Read fault) = codes "read " ++ read_words fault fault.place
failure_words failures.Input = codes "input"
failure_words failures.Output = codes "output"
failure_words (failures.Open name) = codes "open " ++ name
failure_words failures.InputTooLong = codes "input too long"
failure_words failures.OutOfMemory = codes "memory"

-- the line on the error stream
abbrev pub message_of : Failure → List ℕ
message_of failure = codes "vx: " ++ failure_words failure ++ 10 ∷ []

-- ---- causes

-- what the command reads from its input is wanting: no file was opened, and nothing was printed
pub record InputFault (c : Command) (before now : Outside) (Wants : SourceState → SourceState → Type 0) : Type 0 where
  pub reads : reads_input c ≡ true
  pub wants : Wants before.source now.source
  pub files : now.files ≡ before.files
  pub out : now.out ≡ before.out

-- an input that deserves this status
pub record BadInput (c : Command) (before now : Outside) (code : ℕ) (Wants : SourceState → SourceState → Type 0) : Type 0 where
  pub fault : InputFault c before now Wants
  pub deserved : Deserves c before code

-- the first line that is no step of a script, or else spells neither the type nor a row
abbrev pub WantsLine : Command → ℕ → SourceState → SourceState → Type 0
WantsLine (Write w) line before now = BadTableLine line before now
WantsLine _ line before now = BadLine line before now

abbrev pub SourceFails : SourceState → SourceState → Type 0
SourceFails before now = Rises 1 before.faults now.faults

-- the script was read, where the command reads one, or else the input was not touched
abbrev pub ReadsInput : Bool → SourceState → SourceState → Type 0
ReadsInput true before now = (steps : List Step) × ReadsScript before now steps
ReadsInput false before now = now ≡ before

-- the input was read, where the command reads it, and the one file of the command was asked for: nothing was printed
pub record Asks (c : Command) (before now : Outside) (name : List ℕ) : Type 0 where
  pub named : names_of c ≡ name ∷ []
  pub input : ReadsInput (reads_input c) before.source now.source
  pub asked : AsksFor name before.files now.files
  pub out : now.out ≡ before.out

-- the file could not be opened
pub record OpenFault (c : Command) (before now : Outside) (name : List ℕ) : Type 0 where
  pub asks : Asks c before now name
  pub rose : Rises 1 before.files.faults now.files.faults

-- the first flat layout that cannot be read of the file that a command scans fails so
abbrev pub StopsScan : Command → List ℕ → (Segments → List (List ℕ) → FlatLayout → Type 0) → Type 0
StopsScan (Scan s) file Fails = OfSpelled s.filter (λ p. StopsFile (plan_of (scan_hints s) file) p file Fails)
StopsScan _ file Fails = ⊥

-- the file could not be read, or its first flat layout that cannot be, and its reader was given back
pub record ReadFault (c : Command) (before now : Outside) (fault : Fault) : Type 0 where
  pub name : List ℕ
  pub asks : Asks c before now name
  pub back : GaveBack name before.files now.files
  pub rose : Rises 1 before.files.read_faults now.files.read_faults
  pub lacks : (file : List ℕ) → before.files.file name ≡ Some file → IsSizeOf (hints_of c).size file →
      LacksFile (plan_of (hints_of c) file) (settings_of_command c (before.files.settings name)) name fault before.files now.files ⊎ StopsScan c file IsThere

-- the file fails an opening check, and its reader was given back
pub record Refusal (c : Command) (before now : Outside) (refusal : OpenError) : Type 0 where
  pub name : List ℕ
  pub asks : Asks c before now name
  pub back : GaveBack name before.files now.files
  pub refuses : (file : List ℕ) → before.files.file name ≡ Some file → IsSizeOf (hints_of c).size file →
      RefusesFile (plan_of (hints_of c) file) name refusal before.files now.files
  pub deserved : Deserves c before 4

-- the layout of a file names a segment that the file has not
abbrev pub LacksOne : Command → List ℕ → Type 0
LacksOne (Scan s) file = (id : SegmentId) × StopsScan (Scan s) file (IsMissing id)
LacksOne c file = LacksSegment (hints_of c) file

-- the layout of the file names a segment that the file has not, and its reader was given back
pub record Lacking (c : Command) (before now : Outside) : Type 0 where
  pub name : List ℕ
  pub asks : Asks c before now name
  pub back : GaveBack name before.files now.files
  pub lacks : (file : List ℕ) → before.files.file name ≡ Some file → LacksOne c file
  pub deserved : Deserves c before 4

-- why the predicate of a command is not one on the rows of a file
abbrev pub Misfits : Command → FooterContent → BindError → Type 0
Misfits (Prune p) footer error = (predicate : Pred) × (predicate_of p.filter ≡ Some predicate) × (pruned predicate footer ≡ Err error)
Misfits (Scan s) footer error = OfSpelled s.filter (λ p. filter_on p (type_of_tree footer.layout) ≡ Err error)
Misfits _ footer error = ⊥

-- a file of the grammar on whose rows it is none
pub record MisfitsFile (c : Command) (file : List ℕ) (error : BindError) : Type 0 where
  pub footer : FooterContent
  pub grammar : vx_grammar file (hints_of c).dtype ≡ Ok footer
  pub misfits : Misfits c footer error

-- the predicate is not one on the rows of the file, and its reader was given back
pub record Misfit (c : Command) (before now : Outside) (error : BindError) : Type 0 where
  pub name : List ℕ
  pub asks : Asks c before now name
  pub back : GaveBack name before.files now.files
  pub misfits : (file : List ℕ) → before.files.file name ≡ Some file → MisfitsFile c file error
  pub deserved : Deserves c before 4

-- the bytes of a segment of the file are no array of the rows that its layout tells, and its reader was given back
pub record Undecodable (c : Command) (before now : Outside) (error : ArrayError) : Type 0 where
  pub name : List ℕ
  pub asks : Asks c before now name
  pub back : GaveBack name before.files now.files
  pub stops : (file : List ℕ) → before.files.file name ≡ Some file → (id : SegmentId) × StopsScan c file (IsUndecoded error id)
  pub deserved : Deserves c before 4

-- a check refuses the file of the answer, and a prefix of it stands on the output
pub record NotWritten (c : Command) (before now : Outside) (error : WriteError) : Type 0 where
  pub answer : Answer
  pub is : IsAnswer c before now answer
  pub refused : unwritten answer ≡ Some error
  pub took : TookPrefix (text_of answer) before.out.gained now.out.gained
  pub deserved : Deserves c before 4

-- why a file that a command writes to memory is refused, if a check refuses it
abbrev pub made_refusal : Command → Option WriteError
made_refusal Help = None
made_refusal Version = None
made_refusal (Serve s) = None
made_refusal (Demo d) = demo_refusal d.values
made_refusal (Sizes s) = None
made_refusal (Prune p) = None
made_refusal (Scan s) = None
made_refusal (Write w) = None
made_refusal (Gen g) = gen_refusal g.seed g.rows

-- the file is refused, and nothing was printed
pub record NotMade (c : Command) (before now : Outside) (error : WriteError) : Type 0 where
  pub refused : made_refusal c ≡ Some error
  pub input : ReadsInput (reads_input c) before.source now.source
  pub files : now.files ≡ before.files
  pub out : now.out ≡ before.out
  pub deserved : Deserves c before 4

-- a write of the answer's text failed, and a prefix of it stands on the output
pub record OutputFault (c : Command) (before now : Outside) : Type 0 where
  pub answer : Answer
  pub is : IsAnswer c before now answer
  pub took : TookPrefix (text_of answer) before.out.gained now.out.gained
  pub rose : Rises 1 before.out.faults now.out.faults

-- A write of the answer's text found no memory, and a prefix of it stands on the output. Where that is a file, memory may have
-- run out beside the output.
pub record Unfinished (c : Command) (before now : Outside) : Type 0 where
  pub answer : Answer
  pub is : IsAnswer c before now answer
  pub took : TookPrefix (text_of answer) before.out.gained now.out.gained
  pub rose : writes_file c ≡ false → Rises 1 before.out.memory_faults now.out.memory_faults

-- what a command without memory leaves of the files: the one that it opens was asked for at most once, and
-- its reader was given back
abbrev pub LeavesFiles : Command → OpenerState → OpenerState → Type 0
LeavesFiles Help before now = now ≡ before
LeavesFiles Version before now = now ≡ before
LeavesFiles (Serve s) before now = LeavesOpener s.name before now
LeavesFiles (Demo d) before now = now ≡ before
LeavesFiles (Sizes s) before now = LeavesOpener s.name before now
LeavesFiles (Prune p) before now = LeavesOpener p.name before now
LeavesFiles (Scan s) before now = LeavesOpener s.name before now
LeavesFiles (Write w) before now = now ≡ before
LeavesFiles (Gen g) before now = now ≡ before

-- memory ran out
pub record Stopped (c : Command) (before now : Outside) : Type 0 where
  pub files : LeavesFiles c before.files now.files
  pub out : (now.out ≡ before.out) ⊎ Unfinished c before now

-- the cause of each failure of a command
abbrev pub HasCause : Command → Outside → Outside → Failure → Type 0
HasCause c before now failures.Usage = ⊥
HasCause c before now (failures.Line line) = BadInput c before now 3 (WantsLine c line)
HasCause c before now failures.InputTooLong = BadInput c before now 9 BadLength
HasCause c before now failures.Input = InputFault c before now SourceFails
HasCause c before now (failures.Open name) = OpenFault c before now name
HasCause c before now (failures.Read fault) = ReadFault c before now fault
HasCause c before now (failures.Refused refusal) = Refusal c before now refusal
HasCause c before now failures.MissingSegment = Lacking c before now
HasCause c before now (failures.Unbound error) = Misfit c before now error
HasCause c before now (failures.Undecoded error) = Undecodable c before now error
HasCause c before now (failures.Unwritten error) = NotWritten c before now error ⊎ NotMade c before now error
HasCause c before now failures.Output = OutputFault c before now
HasCause c before now failures.OutOfMemory = Stopped c before now
