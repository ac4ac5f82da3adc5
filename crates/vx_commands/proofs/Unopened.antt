-- Commands that open the file of one name, touch no input and serve no step: where the file was not opened.
use Rattle.std.proofs.Common.{◌≡◌, ℕ, true, false, List, [], ◌∷◌, Option, Some, None, Err, refl, sym, subst, inl}
use Rattle.std.specs.Prelude.{is_some}
use Rattle.vx_base.specs.Openers.{OpenerState, AsksFor}
use Rattle.vx_base.specs.Readers.{ReaderSettings}
use Rattle.vx_base.specs.Streams.{SourceState, SinkState}
use Rattle.vx_footer.specs.declared.error.OpenError.{OpenError}
use Rattle.vx_file.specs.Hints.{IsSizeOf}
use Rattle.vx_file.specs.Plans.{plan_of}
use Rattle.vx_commands.specs.declared.command.Command.{Command}
use Rattle.vx_commands.specs.declared.failure.Failure.{Failure}
use Rattle.vx_commands.specs.declared.failure.Failure.TheVariants as failures
use Rattle.vx_commands.specs.Command.{names_of, hints_of, reads_input, settings_of_command}
use Rattle.vx_commands.specs.Failures.{LeavesFiles, ReadsInput}
use Rattle.vx_commands.specs.Outputs.{IsTold, wanted_status}
use Rattle.vx_commands.specs.Outside.{outside}
use Rattle.vx_commands.specs.Reading.{plain_reading, settings_by}
use Rattle.vx_commands.specs.Performs.{Gathers}
use Rattle.vx_commands.specs.Served.{LeavesOpener, LacksFile}
use Rattle.vx_commands.specs.Sizes.{OpensFile}

-- a command that opens the file of a name so
pub record Opens (c : Command) (name : List ℕ) (source : SourceState) (files files_now : OpenerState) : Type 0 where
  pub named : names_of c ≡ name ∷ []
  pub silent : reads_input c ≡ false
  pub chosen : (own : ReaderSettings) → settings_of_command c own ≡ settings_by plain_reading own
  pub unsized : (hints_of c).size ≡ None
  pub leaves : LeavesOpener name files files_now → LeavesFiles c files files_now
  pub told : (out : SinkState) → IsTold c (outside source files out) → is_some (files.file name) ≡ true
  pub refused : (refusal : OpenError) → is_some (files.file name) ≡ true → ((file : List ℕ) → files.file name ≡ Some file → (plan_of (hints_of c) file).footer ≡ Err refusal)
      → (out : SinkState) → wanted_status c (outside source files out) ≡ 4

any_size : (size : Option ℕ) (file : List ℕ) → size ≡ None → IsSizeOf size file
any_size size file none = subst (λ s. IsSizeOf s file) (sym none) tt

untouched : (c : Command) (source : SourceState) → reads_input c ≡ false → ReadsInput (reads_input c) source source
untouched c source silent = subst (λ reads. ReadsInput reads source source) (sym silent) refl

pub unopened : (c : Command) (name : List ℕ) (source : SourceState) (files files_now : OpenerState) (failure : Failure) → Opens c name source files files_now
    → OpensFile (hints_of c) name files files_now (Err failure) → Gathers c source source files files_now (Err failure)
unopened c name source files files_now failures.Usage o h = absurd h
unopened c name source files files_now (failures.Line line) o h = absurd h
unopened c name source files files_now (failures.Refused refusal) o h = record {
  each = λ out. record {
    name = name;
    asks = record { named = o.named; input = untouched c source o.silent; asked = h.0; out = refl };
    back = h.1;
    refuses = h.2;
    deserved = λ told. o.refused refusal (o.told out told) (λ file e. (h.2 file e (any_size (hints_of c).size file o.unsized)).fails) out;
  };
}
unopened c name source files files_now failures.MissingSegment o h = absurd h
unopened c name source files files_now (failures.Unbound error) o h = absurd h
unopened c name source files files_now (failures.Undecoded error) o h = absurd h
unopened c name source files files_now (failures.Unwritten error) o h = absurd h
unopened c name source files files_now (failures.Read fault) o h = record {
  each = λ out. record {
    name = name;
    asks = record { named = o.named; input = untouched c source o.silent; asked = h.0; out = refl };
    back = h.1;
    rose = h.2;
    lacks = λ file e sized. inl (subst (λ settings. LacksFile (plan_of (hints_of c) file) settings name fault files files_now) (sym (o.chosen (files.settings name))) (h.3 file e sized));
  };
}
unopened c name source files files_now failures.Input o h = absurd h
unopened c name source files files_now failures.Output o h = absurd h
unopened c name source files files_now (failures.Open opened) o h = record {
  each = λ out. record {
    asks = record { named = subst (λ n. names_of c ≡ n ∷ []) (sym h.0) o.named; input = untouched c source o.silent; asked = subst (λ n. AsksFor n files files_now) (sym h.0) h.1; out = refl };
    rose = h.2;
  };
}
unopened c name source files files_now failures.InputTooLong o h = absurd h
unopened c name source files files_now failures.OutOfMemory o h = record { each = λ out. record { files = o.leaves h; out = inl refl } }
