-- The answers of `prune`, from the file that it opens and the predicate.
use Rattle.std.proofs.Common.{◌≡◌, ℕ, Bool, true, List, Option, Some, None, Result, Ok, Err, refl, ap, ◌∙◌, inl, inr}
use Rattle.std.specs.Prelude.{is_some}
use Rattle.vx_base.specs.Openers.{OpenerState}
use Rattle.vx_base.specs.Streams.{SourceState}
use Rattle.vx_footer.specs.declared.error.OpenError.{OpenError}
use Rattle.vx_footer.specs.Footers.{FooterContent}
use Rattle.vx_footer.specs.Opening.{vx_grammar}
use Rattle.vx_rows.specs.Binding.{Fails}
use Rattle.vx_rows.specs.declared.bind_error.BindError.{BindError}
use Rattle.vx_rows.specs.declared.bind_error.BindError.TheVariants as bind
use Rattle.vx_rows.specs.Predicates.{Pred}
use Rattle.vx_prune.specs.PredicateWords.{predicate_of}
use Rattle.vx_file.specs.declared.served.Served.{Served}
use Rattle.vx_file.specs.Hints.{Hints}
use Rattle.vx_file.specs.Pruned.{pruned}
use Rattle.vx_file.specs.Ranges.{tail_ranges}
use Rattle.vx_commands.specs.declared.answer.Answer.TheVariants as answers
use Rattle.vx_commands.specs.declared.command.Command.TheVariants as commands
use Rattle.vx_commands.specs.declared.commands.prune.Prune as prune
use Rattle.vx_commands.specs.declared.failure.Failure.{Failure}
use Rattle.vx_commands.specs.declared.failure.Failure.TheVariants as failures
use Rattle.vx_commands.specs.Command.{prune_hints}
use Rattle.vx_commands.specs.Outputs.{grammar_status, predicate_status, pruned_status, judged_status}
use Rattle.vx_commands.specs.Performs.{Gathers}
use Rattle.vx_commands.specs.Sizes.{OpensFile}
use Rattle.vx_commands.proofs.Arms.{asked-nothing-more}
use Rattle.vx_commands.proofs.Unopened.{unopened}

unjudged-status : (hints : Hints) (words : List (List ℕ)) (refusal : OpenError) (o : Option (List ℕ)) → is_some o ≡ true → ((file : List ℕ) → o ≡ Some file → vx_grammar file hints.dtype ≡ Err refusal) → judged_status hints words o ≡ 4
unjudged-status hints words refusal None told h = absurd cc
unjudged-status hints words refusal (Some file) told h = ap (pruned_status words) (h file refl)

judged-status : (hints : Hints) (words : List (List ℕ)) (footer : FooterContent) (predicate : Pred) (answer : Result Bool BindError) (o : Option (List ℕ)) → is_some o ≡ true
    → ((file : List ℕ) → o ≡ Some file → vx_grammar file hints.dtype ≡ Ok footer) → predicate_of words ≡ Some predicate → pruned predicate footer ≡ answer → judged_status hints words o ≡ grammar_status answer
judged-status hints words footer predicate answer None told h spelled is = absurd cc
judged-status hints words footer predicate answer (Some file) told h spelled is =
    ap (pruned_status words) (h file refl) ∙ ap (λ p. predicate_status p footer) spelled ∙ ap grammar_status is

abbrev opens : prune.Prune → OpenerState → OpenerState → Result Served Failure → Type 0
opens p files files_now answer = OpensFile (prune_hints p) p.name files files_now answer

-- the file was not opened
pub prune-fails : (p : prune.Prune) (source : SourceState) (files files_now : OpenerState) (failure : Failure) → opens p files files_now (Err failure) → Gathers (commands.Prune p) source source files files_now (Err failure)
prune-fails p source files files_now failure h = unopened (commands.Prune p) p.name source files files_now failure (record {
  named = refl;
  silent = refl;
  chosen = λ own. refl;
  unsized = refl;
  leaves = λ leaves. leaves;
  told = λ out told. told;
  refused = λ refusal told fails out. unjudged-status (prune_hints p) p.filter refusal (files.file p.name) told fails;
}) h

-- the file was opened
module _ (p : prune.Prune) (source : SourceState) (files files_now : OpenerState) (served : Served) (h : opens p files files_now (Ok served)) where
  grammar : (file : List ℕ) → files.file p.name ≡ Some file → vx_grammar file p.dtype ≡ Ok served.footer.content
  grammar file e = (h.2 file e tt).serves.prepares.footer_is

  pub prune-answers : (predicate : Pred) (skipped : Bool) → predicate_of p.filter ≡ Some predicate → pruned predicate served.footer.content ≡ Ok skipped
      → Gathers (commands.Prune p) source source files files_now (Ok (answers.Pruned skipped))
  prune-answers predicate skipped spelled is = record {
    each = λ out. record {
      is = record {
        skipped = skipped;
        is = refl;
        source = refl;
        asked = h.0;
        back = h.1;
        judges = λ file e. let serves = h.2 file e tt in record {
          footer = served.footer.content;
          grammar = grammar file e;
          predicate = predicate;
          spelled = spelled;
          is = is;
          back = asked-nothing-more p.name (tail_ranges (prune_hints p) file) serves.serves.prepares.spans served.replies files files_now serves.serves.prepares.loads.1 serves.serves.plays.answers.one_each serves.back;
        };
      };
      deserved = λ told. judged-status (prune_hints p) p.filter served.footer.content predicate (Ok skipped) (files.file p.name) told grammar spelled is;
    };
  }

  pub prune-refuses : (predicate : Pred) (error : BindError) → predicate_of p.filter ≡ Some predicate → pruned predicate served.footer.content ≡ Err error
      → Gathers (commands.Prune p) source source files files_now (Err (failures.Unbound error))
  prune-refuses predicate error spelled is = record {
    each = λ out. record {
      name = p.name;
      asks = record { named = refl; input = refl; asked = h.0; out = refl };
      back = h.1;
      misfits = λ file e. record { footer = served.footer.content; grammar = grammar file e; misfits = (predicate, spelled, is) };
      deserved = λ told. judged-status (prune_hints p) p.filter served.footer.content predicate (Err error) (files.file p.name) told grammar spelled is;
    };
  }

  -- the predicate does not fit the rows
  pub prune-unbound : (predicate : Pred) (error : BindError) → predicate_of p.filter ≡ Some predicate → (error ≡ bind.OutOfMemory → ⊥) → Fails error (pruned predicate served.footer.content)
      → Gathers (commands.Prune p) source source files files_now (Err (failures.Unbound error))
  prune-unbound predicate bind.NoField spelled other is = prune-refuses predicate bind.NoField spelled is
  prune-unbound predicate bind.TypeMismatch spelled other is = prune-refuses predicate bind.TypeMismatch spelled is
  prune-unbound predicate bind.NarrowingCast spelled other is = prune-refuses predicate bind.NarrowingCast spelled is
  prune-unbound predicate bind.OutOfMemory spelled other is = absurd (other refl)

  -- memory ran out behind the opening
  pub prune-stopped : Gathers (commands.Prune p) source source files files_now (Err failures.OutOfMemory)
  prune-stopped = record { each = λ out. record { files = inr (record { asked = h.0; back = inl h.1 }); out = inl refl } }
