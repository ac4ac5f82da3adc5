-- The rows that an input spells, and `write`, which answers their file.
use Rattle.std.proofs.Common.{◌≡◌, ℕ, ◌≤◌, true, List, length, Option, Some, None, Result, Ok, Err, refl, ap, subst, ◌∙◌, cond, inl}
use Rattle.std.specs.Prelude.{is_some}
use Rattle.std.proofs.lemmas.Bool.{le-ltb, lt-ltb}
use Rattle.vx_base.specs.Openers.{OpenerState}
use Rattle.vx_base.specs.Streams.{SourceState}
use Rattle.vx_commands.specs.declared.answer.Answer.TheVariants as answers
use Rattle.vx_commands.specs.declared.command.Command.TheVariants as commands
use Rattle.vx_commands.specs.declared.failure.Failure.{Failure}
use Rattle.vx_commands.specs.declared.failure.Failure.TheVariants as failures
use Rattle.vx_commands.specs.declared.input.TheConstants.{MOST_INPUT}
use Rattle.vx_commands.specs.Input.{BadLength}
use Rattle.vx_commands.specs.Outputs.{rows_status, table_status}
use Rattle.vx_commands.specs.Performs.{Gathers}
use Rattle.vx_commands.specs.Streams.{ReadToEnd}
use Rattle.vx_commands.specs.Tables.{TableValue, table_of, ReadsTable, TableCause, InputTableCause}
use Rattle.vx_commands.specs.WriteWords.{WriteValue}

-- ---- from the text to the input

pub table-cause : (before now : SourceState) (text : List ℕ) (answer : Result TableValue Failure) → ((t : List ℕ) → before.rest ≡ Some t → (text ≡ t) × ReadToEnd t now) → TableCause text answer → InputTableCause before now answer
table-cause before now text (Ok table) read h = λ t told. let r = read t told in (r.1, subst (λ x. table_of x ≡ Ok table) r.0 h)
table-cause before now text (Err (failures.Line line)) read h = λ t told. let r = read t told in (r.1, subst (λ x. table_of x ≡ Err line) r.0 h)
table-cause before now text (Err failures.OutOfMemory) read h = tt
table-cause before now text (Err failures.Usage) read h = absurd h
table-cause before now text (Err (failures.Refused refusal)) read h = absurd h
table-cause before now text (Err failures.MissingSegment) read h = absurd h
table-cause before now text (Err (failures.Unbound error)) read h = absurd h
table-cause before now text (Err (failures.Undecoded error)) read h = absurd h
table-cause before now text (Err (failures.Unwritten error)) read h = absurd h
table-cause before now text (Err (failures.Read fault)) read h = absurd h
table-cause before now text (Err failures.Input) read h = absurd h
table-cause before now text (Err failures.Output) read h = absurd h
table-cause before now text (Err (failures.Open name)) read h = absurd h
table-cause before now text (Err failures.InputTooLong) read h = absurd h

-- ---- the status of an input

short : (w : WriteValue) (text : List ℕ) → length text ≤ MOST_INPUT → rows_status w (Some text) ≡ table_status w (table_of text)
short w text few = ap (λ long. cond long 9 (table_status w (table_of text))) (le-ltb MOST_INPUT (length text) few)

long-status : (w : WriteValue) (before now : SourceState) (rest : Option (List ℕ)) → before.rest ≡ rest → is_some rest ≡ true → BadLength before now → rows_status w rest ≡ 9
long-status w before now None e told h = absurd cc
long-status w before now (Some text) e told h = ap (λ long. cond long 9 (table_status w (table_of text))) (lt-ltb MOST_INPUT (length text) (h text e).long)

spelled-status : (w : WriteValue) (before now : SourceState) (rest : Option (List ℕ)) (found : Result TableValue ℕ) → before.rest ≡ rest → is_some rest ≡ true
    → ((text : List ℕ) → before.rest ≡ Some text → ReadToEnd text now × (table_of text ≡ found)) → rows_status w rest ≡ table_status w found
spelled-status w before now None found e told h = absurd cc
spelled-status w before now (Some text) found e told h = let k = h text e in short w text k.0.short ∙ ap (table_status w) k.1

-- ---- write

pub write-fails : (w : WriteValue) (source source_now : SourceState) (files : OpenerState) (failure : Failure) → InputTableCause source source_now (Err failure) → Gathers (commands.Write w) source source_now files files (Err failure)
write-fails w source source_now files failures.Usage h = absurd h
write-fails w source source_now files failures.MissingSegment h = absurd h
write-fails w source source_now files (failures.Unbound error) h = absurd h
write-fails w source source_now files (failures.Undecoded error) h = absurd h
write-fails w source source_now files (failures.Unwritten error) h = absurd h
write-fails w source source_now files (failures.Line line) h = record {
  each = λ out. record {
    fault = record { reads = refl; wants = h; files = refl; out = refl };
    deserved = λ told. spelled-status w source source_now source.rest (Err line) refl told h;
  };
}
write-fails w source source_now files (failures.Refused refusal) h = absurd h
write-fails w source source_now files (failures.Read fault) h = absurd h
write-fails w source source_now files failures.Input h = record { each = λ out. record { reads = refl; wants = h; files = refl; out = refl } }
write-fails w source source_now files failures.Output h = absurd h
write-fails w source source_now files (failures.Open name) h = absurd h
write-fails w source source_now files failures.InputTooLong h = record {
  each = λ out. record {
    fault = record { reads = refl; wants = h; files = refl; out = refl };
    deserved = λ told. long-status w source source_now source.rest refl told h;
  };
}
write-fails w source source_now files failures.OutOfMemory h = record { each = λ out. record { files = refl; out = inl refl } }

pub write-answers : (w : WriteValue) (table : TableValue) (source source_now : SourceState) (files : OpenerState) → ReadsTable source source_now table
    → Gathers (commands.Write w) source source_now files files (Ok (answers.File (record { arguments = w; table = table })))
write-answers w table source source_now files h = record {
  each = λ out. record {
    is = record { table = table; is = refl; reads = h; files = refl };
    deserved = λ told. spelled-status w source source_now source.rest (Ok table) refl told h;
  };
}
