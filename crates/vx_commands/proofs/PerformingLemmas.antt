-- What performing a command does, from its parse, its answer, and the writing of that.
use Rattle.std.proofs.Common.{◌≡◌, true, false, Option, Some, None, Result, Ok, Err, refl, sym, ap, ◌∙◌, subst, inl, inr}
use Rattle.vx_base.specs.Openers.{OpenerState}
use Rattle.vx_base.specs.Streams.{SinkState, SourceState}
use Rattle.vx_commands.specs.declared.answer.Answer.{Answer}
use Rattle.vx_commands.specs.declared.answer.Answer.TheVariants as answers
use Rattle.vx_commands.specs.declared.command.Command.{Command}
use Rattle.vx_commands.specs.declared.command.Command.TheVariants as commands
use Rattle.vx_commands.specs.declared.failure.Failure.{Failure}
use Rattle.vx_commands.specs.declared.failure.Failure.TheVariants as failures
use Rattle.vx_commands.specs.Command.{Parses, writes_file}
use Rattle.vx_commands.specs.Failures.{LeavesFiles}
use Rattle.vx_commands.specs.Outputs.{IsAnswer, Opens, is_text, text_of, unwritten, refusal_status}
use Rattle.vx_commands.specs.Outside.{Outside, Keeps, KeepSteady, outside}
use Rattle.vx_commands.specs.Performs.{Gathers, Given, Performs, Shows, shown_of}
use Rattle.vx_text.specs.Text.{Writes}
use Rattle.vx_base.specs.declared.fault.SinkError.{SinkError}
use Rattle.vx_base.specs.declared.fault.SinkError.TheVariants as sink_error

leaves-same : (c : Command) (files : OpenerState) → LeavesFiles c files files
leaves-same commands.Help files = refl
leaves-same commands.Version files = refl
leaves-same (commands.Serve s) files = inl (record { asked = refl; returned = refl })
leaves-same (commands.Demo d) files = refl
leaves-same (commands.Sizes s) files = inl (record { asked = refl; returned = refl })
leaves-same (commands.Prune p) files = inl (record { asked = refl; returned = refl })
leaves-same (commands.Scan s) files = inl (record { asked = refl; returned = refl })
leaves-same (commands.Write w) files = refl
leaves-same (commands.Gen g) files = refl

-- the words were no command, or there was no memory for it
pub unparsed : (command : Option Command) (before : Outside) (failure : Failure) → Parses {A = Command} command (Err failure) → Performs command before before (Err failure)
unparsed None before failures.Usage h = (inl refl, refl)
unparsed (Some c) before failures.Usage h = absurd cc
unparsed None before failures.OutOfMemory h = (inr refl, refl)
unparsed (Some c) before failures.OutOfMemory h = record { files = leaves-same c before.files; out = inl refl }
unparsed command before (failures.Line line) h = absurd h
unparsed command before (failures.Refused refusal) h = absurd h
unparsed command before failures.MissingSegment h = absurd h
unparsed command before (failures.Unbound error) h = absurd h
unparsed command before (failures.Undecoded error) h = absurd h
unparsed command before (failures.Unwritten error) h = absurd h
unparsed command before (failures.Read fault) h = absurd h
unparsed command before failures.Input h = absurd h
unparsed command before failures.Output h = absurd h
unparsed command before (failures.Open name) h = absurd h
unparsed command before failures.InputTooLong h = absurd h

-- the command has no answer
pub unanswered : (command : Option Command) (c : Command) (source source_now : SourceState) (files files_now : OpenerState) (out : SinkState) (failure : Failure) → command ≡ Some c → Gathers c source source_now files files_now (Err failure)
    → Performs command (outside source files out) (outside source_now files_now out) (Err failure)
unanswered command c source source_now files files_now out failure is h = subst (λ x. Performs x (outside source files out) (outside source_now files_now out) (Err failure)) (sym is) (h.each out)

-- ---- the answer was written, or not all of it

leaves-of : (c : Command) (source source_now : SourceState) (files files_now : OpenerState) (answer : Answer) → Gathers c source source_now files files_now (Ok answer) → (out : SinkState) → LeavesFiles c files files_now
leaves-of commands.Help source source_now files files_now answer h out = (h.each out).is.files
leaves-of commands.Version source source_now files files_now answer h out = (h.each out).is.files
leaves-of (commands.Serve s) source source_now files files_now answer h out = inr (record { asked = (h.each out).is.asked; back = inl (h.each out).is.back })
leaves-of (commands.Demo d) source source_now files files_now answer h out = (h.each out).is.files
leaves-of (commands.Sizes s) source source_now files files_now answer h out = inr (record { asked = (h.each out).is.asked; back = inl (h.each out).is.back })
leaves-of (commands.Prune p) source source_now files files_now answer h out = inr (record { asked = (h.each out).is.asked; back = inl (h.each out).is.back })
leaves-of (commands.Scan s) source source_now files files_now answer h out = inr (record { asked = (h.each out).is.asked; back = inl (h.each out).is.back })
leaves-of (commands.Write w) source source_now files files_now answer h out = (h.each out).is.files
leaves-of (commands.Gen g) source source_now files files_now answer h out = (h.each out).is.files

-- what is answered does not depend on the output
again : (c : Command) (source source_now : SourceState) (files files_now : OpenerState) (out out' now' : SinkState) (answer : Answer) → IsAnswer c (outside source files out) (outside source_now files_now out') answer
    → IsAnswer c (outside source files out) (outside source_now files_now now') answer
again commands.Help source source_now files files_now out out' now' answer h = record { is = h.is; source = h.source; files = h.files }
again commands.Version source source_now files files_now out out' now' answer h = record { is = h.is; source = h.source; files = h.files }
again (commands.Serve s) source source_now files files_now out out' now' answer h = record { served = h.served; is = h.is; steps = h.steps; script = h.script; asked = h.asked; back = h.back; serves = h.serves }
again (commands.Demo d) source source_now files files_now out out' now' answer h = record { served = h.served; is = h.is; steps = h.steps; script = h.script; demonstrates = h.demonstrates; files = h.files }
again (commands.Sizes s) source source_now files files_now out out' now' answer h = record { sizes = h.sizes; is = h.is; source = h.source; asked = h.asked; back = h.back; measures = h.measures }
again (commands.Prune p) source source_now files files_now out out' now' answer h = record { skipped = h.skipped; is = h.is; source = h.source; asked = h.asked; back = h.back; judges = h.judges }
again (commands.Scan s) source source_now files files_now out out' now' answer h = record { rows = h.rows; is = h.is; source = h.source; asked = h.asked; back = h.back; predicate = h.predicate; spells = h.spells; scans = h.scans }
again (commands.Write w) source source_now files files_now out out' now' answer h = record { table = h.table; is = h.is; reads = h.reads; files = h.files }
again (commands.Gen g) source source_now files files_now out out' now' answer h = record { summary = h.summary; is = h.is; sums = h.sums; source = h.source; files = h.files }

-- only a file has memory run out beside the output
is-text : (c : Command) (before now : Outside) (answer : Answer) → IsAnswer c before now answer → writes_file c ≡ false → is_text answer ≡ true
is-text commands.Help before now answer h plain = ap is_text h.is
is-text commands.Version before now answer h plain = ap is_text h.is
is-text (commands.Serve s) before now answer h plain = ap is_text h.is
is-text (commands.Demo d) before now answer h plain = ap is_text h.is
is-text (commands.Sizes s) before now answer h plain = ap is_text h.is
is-text (commands.Prune p) before now answer h plain = ap is_text h.is
is-text (commands.Scan s) before now answer h plain = ap is_text h.is
is-text (commands.Write w) before now answer h plain = absurd cc
is-text (commands.Gen g) before now answer h plain = ap is_text h.is

-- no text is a file
pub not-file : (a : Answer) → is_text a ≡ true → unwritten a ≡ None
not-file answers.Help text = refl
not-file answers.Version text = refl
not-file (answers.Served served) text = refl
not-file (answers.Sizes sizes) text = refl
not-file (answers.Pruned skipped) text = refl
not-file (answers.Rows rows) text = refl
not-file (answers.Summary summary) text = refl
not-file (answers.File f) text = absurd cc

-- no text is a file that opens
pub opens-text : (a : Answer) → is_text a ≡ true → Opens a
opens-text answers.Help text = tt
opens-text answers.Version text = tt
opens-text (answers.Served served) text = tt
opens-text (answers.Sizes sizes) text = tt
opens-text (answers.Pruned skipped) text = tt
opens-text (answers.Rows rows) text = tt
opens-text (answers.Summary summary) text = tt
opens-text (answers.File f) text = absurd cc

-- what printing a text leaves is what writing it does
pub shown-text : (a : Answer) (before now : SinkState) (written : Result (Unit {0}) SinkError) → is_text a ≡ true → Writes (text_of a) before now written → Shows a before now (shown_of written)
shown-text a before now (Ok u) text w = (w.written.took, w.flushed, not-file a text, opens-text a text)
shown-text a before now (Err sink_error.Failed) text w = (w.written.prefix, w.written.refused.failed refl)
shown-text a before now (Err sink_error.OutOfMemory) text w = (w.written.prefix, λ plain. w.written.refused.memory refl)

module _ (c : Command) (source source_now : SourceState) (files files_now : OpenerState) (out out_now : SinkState) (answer : Answer) (h : Gathers c source source_now files files_now (Ok answer)) where
  abbrev before : Outside
  before = outside source files out

  abbrev now : Outside
  now = outside source_now files_now out_now

  given : Given c before now answer
  given = record { is = again c source source_now files files_now out out out_now answer (h.each out).is; deserved = (h.each out).deserved }

  shown : (result : Result (Unit {0}) Failure) → Shows answer out out_now result → Performs (Some c) before now result
  shown (Ok u) w = record { answer = answer; given = given; whole = w.2; opens = w.3; took = w.0; flushed = w.1 }
  shown (Err failures.Usage) w = absurd w
  shown (Err (failures.Line line)) w = absurd w
  shown (Err (failures.Refused refusal)) w = absurd w
  shown (Err failures.MissingSegment) w = absurd w
  shown (Err (failures.Unbound error)) w = absurd w
  shown (Err (failures.Undecoded error)) w = absurd w
  shown (Err (failures.Unwritten error)) w = inl (record {
    answer = answer;
    is = given.is;
    refused = w.1;
    took = w.0;
    deserved = λ told. given.deserved told ∙ ap refusal_status w.1;
  })
  shown (Err (failures.Read fault)) w = absurd w
  shown (Err failures.Input) w = absurd w
  shown (Err failures.Output) w = record { answer = answer; is = given.is; took = w.0; rose = w.1 }
  shown (Err (failures.Open name)) w = absurd w
  shown (Err failures.InputTooLong) w = absurd w
  shown (Err failures.OutOfMemory) w = record {
    files = leaves-of c source source_now files files_now answer h out;
    out = inr (record { answer = answer; is = given.is; took = w.0; rose = λ plain. w.1 (is-text c before now answer given.is plain) });
  }

-- the answer was printed, or not all of it
pub performed : (command : Option Command) (c : Command) (source source_now : SourceState) (files files_now : OpenerState) (out out_now : SinkState) (answer : Answer) (result : Result (Unit {0}) Failure) → command ≡ Some c
    → Gathers c source source_now files files_now (Ok answer) → Shows answer out out_now result → Performs command (outside source files out) (outside source_now files_now out_now) result
performed command c source source_now files files_now out out_now answer result is h w =
    subst (λ x. Performs x (outside source files out) (outside source_now files_now out_now) result) (sym is) (shown c source source_now files files_now out out_now answer h result w)

-- the counts of what never fails stand still
pub keeps-steady : (command : Option Command) (c : Command) (source source_now : SourceState) (files files_now : OpenerState) (out out_now : SinkState) → command ≡ Some c → Keeps c source source_now files files_now
    → (out.never_fails ≡ true → out_now.faults ≡ out.faults) → KeepSteady command (outside source files out) (outside source_now files_now out_now)
keeps-steady command c source source_now files files_now out out_now is keeps still =
    subst (λ x. KeepSteady x (outside source files out) (outside source_now files_now out_now)) (sym is) (record { source = keeps.source_steady; files = keeps.files_steady; out = still })
