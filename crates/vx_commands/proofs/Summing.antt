-- What is told of a generated file, from its writer and its opening.
use Rattle.std.proofs.Common.{◌≡◌, ℕ, true, false, List, [], ◌∷◌, ◌++◌, length, map, None, Result, Ok, Err, refl, sym, ap, ◌∙◌, inr, inl}
use Rattle.std.specs.Prelude.{is_ok}
use Rattle.std.proofs.lemmas.List.{append-nil}
use Rattle.vx_base.specs.Openers.{OpenerState}
use Rattle.vx_base.specs.Streams.{SourceState}
use Rattle.vx_file.specs.declared.served.Served.{Served}
use Rattle.vx_file.specs.declared.step.Step.{Step}
use Rattle.vx_file.specs.Hints.{no_hints}
use Rattle.vx_file.specs.Loading.{range_of}
use Rattle.vx_file.specs.Memory.{ServedWhole}
use Rattle.vx_file.specs.Ranges.{tail_ranges}
use Rattle.vx_footer.specs.declared.error.OpenError.{OpenError}
use Rattle.vx_footer.specs.Footers.{FooterContent}
use Rattle.vx_footer.specs.Opening.{vx_grammar}
use Rattle.vx_footer.specs.ReadAgain.{content_read}
use Rattle.vx_rows.proofs.SpanLemmas.{length_span}
use Rattle.vx_source.specs.declared.span.Span.{Span}
use Rattle.vx_write.specs.ColumnSizes.{HasColumnSizes}
use Rattle.vx_commands.specs.declared.answer.Answer.TheVariants as answers
use Rattle.vx_commands.specs.declared.command.Command.TheVariants as commands
use Rattle.vx_commands.specs.declared.commands.generate.Generate as generate
use Rattle.vx_commands.specs.declared.failure.Failure.{Failure}
use Rattle.vx_commands.specs.declared.failure.Failure.TheVariants as failures
use Rattle.vx_commands.specs.declared.made_file.MadeFile.{MadeFile}
use Rattle.vx_commands.specs.declared.summary.FileSummary.{FileSummary}
use Rattle.vx_commands.specs.Command.{gen_of}
use Rattle.vx_generate.specs.Generated.{is_there, generated, generated_dtype}
use Rattle.vx_commands.specs.Generated.{gen_options, gen_bytes, gen_refusal}
use Rattle.vx_commands.specs.MadeFiles.{IsMade, MakesFile}
use Rattle.vx_commands.specs.Outputs.{refusal_status}
use Rattle.vx_commands.specs.Performs.{Gathers}
use Rattle.vx_commands.specs.Summaries.{SumsUp, SummaryCause}

-- two words, and no others
pub gen_other : (words : List (List ℕ)) → (length words ≡ 2 → ⊥) → gen_of words ≡ None
gen_other [] h = refl
gen_other (seed ∷ []) h = refl
gen_other (seed ∷ rows ∷ []) h = absurd (h refl)
gen_other (seed ∷ rows ∷ word ∷ words) h = refl

-- opening a file in memory reads the ranges of the tail alone, since no metadata is loaded
pub whole_opening : (file : List ℕ) (script : List Step) (s : Served) → ServedWhole file script s → s.opening ≡ tail_ranges no_hints file
whole_opening file script s h =
    let p = h.serves.prepares in
    p.opening_is ∙ ap (λ (spans : List Span). tail_ranges no_hints file ++ map range_of spans) p.loads.1 ∙ append-nil (tail_ranges no_hints file)

-- what is in the grammar is not refused
pub not_refused : (r : Result FooterContent OpenError) (e : OpenError) → is_ok r ≡ true → r ≡ Err e → ⊥
not_refused r e ok is = let k : false ≡ true = sym (ap is_ok is) ∙ ok in cc

-- the file of a seed
pub made_opens : (seed rows : ℕ) (made : MadeFile) → IsMade (gen_options seed) generated_dtype (generated seed rows) made → vx_grammar made.bytes.items None ≡ Ok (content_read made.summary.footer.content)
made_opens seed rows made h = ap (λ file. vx_grammar file None) h.bytes ∙ h.opens.alone refl

pub made_opens_ok : (seed rows : ℕ) (made : MadeFile) → IsMade (gen_options seed) generated_dtype (generated seed rows) made → is_ok (vx_grammar made.bytes.items None) ≡ true
made_opens_ok seed rows made h = ap is_ok (made_opens seed rows made h)

-- a summary with what the calls tell of the file
pub record Tells (made : MadeFile) (s : FileSummary) : Type 0 where
  pub rows : s.rows ≡ made.summary.row_count
  pub size : s.size ≡ made.summary.size
  pub segments : s.segments ≡ length made.summary.footer.content.segments
  pub columns : HasColumnSizes made.summary.footer.content.layout made.summary.footer.content.segments s.columns
  pub opening : s.opening ≡ tail_ranges no_hints made.bytes.items

pub summed_up : (seed rows : ℕ) (made : MadeFile) (s : FileSummary) → IsMade (gen_options seed) generated_dtype (generated seed rows) made → Tells made s → SumsUp seed rows s
unfolding gen_bytes gen_refusal
summed_up seed rows made s h t = record {
  whole = h.checked;
  footer = content_read made.summary.footer.content;
  grammar = h.opens.alone refl;
  has_rows = h.opens.rows;
  rows = t.rows ∙ h.rows ∙ length_span is_there 0 rows;
  size = t.size ∙ h.size;
  segments = t.segments;
  columns = t.columns;
  opening = t.opening ∙ ap (tail_ranges no_hints) h.bytes;
}

-- a file that was not made
pub not_summed : (seed rows : ℕ) (failure : Failure) → MakesFile (gen_options seed) generated_dtype (generated seed rows) (Err failure) → SummaryCause seed rows (Err failure)
unfolding gen_refusal
not_summed seed rows failures.Usage h = absurd h
not_summed seed rows (failures.Line line) h = absurd h
not_summed seed rows (failures.Refused refusal) h = absurd h
not_summed seed rows failures.MissingSegment h = absurd h
not_summed seed rows (failures.Unbound error) h = absurd h
not_summed seed rows (failures.Undecoded error) h = absurd h
not_summed seed rows (failures.Unwritten error) h = h
not_summed seed rows (failures.Read fault) h = absurd h
not_summed seed rows failures.Input h = absurd h
not_summed seed rows failures.Output h = absurd h
not_summed seed rows (failures.Open name) h = absurd h
not_summed seed rows failures.InputTooLong h = absurd h
not_summed seed rows failures.OutOfMemory h = tt

-- ---- the answer

pub gen_fails : (g : generate.Generate) (source : SourceState) (files : OpenerState) (failure : Failure) → SummaryCause g.seed g.rows (Err failure) → Gathers (commands.Gen g) source source files files (Err failure)
gen_fails g source files failures.Usage h = absurd h
gen_fails g source files (failures.Line line) h = absurd h
gen_fails g source files (failures.Refused refusal) h = absurd h
gen_fails g source files failures.MissingSegment h = absurd h
gen_fails g source files (failures.Unbound error) h = absurd h
gen_fails g source files (failures.Undecoded error) h = absurd h
gen_fails g source files (failures.Unwritten error) h = record { each = λ out. inr (record { refused = h; input = refl; files = refl; out = refl; deserved = λ told. ap refusal_status h }) }
gen_fails g source files (failures.Read fault) h = absurd h
gen_fails g source files failures.Input h = absurd h
gen_fails g source files failures.Output h = absurd h
gen_fails g source files (failures.Open name) h = absurd h
gen_fails g source files failures.InputTooLong h = absurd h
gen_fails g source files failures.OutOfMemory h = record { each = λ out. record { files = refl; out = inl refl } }

pub gen_answers : (g : generate.Generate) (source : SourceState) (files : OpenerState) (s : FileSummary) → SumsUp g.seed g.rows s → Gathers (commands.Gen g) source source files files (Ok (answers.Summary s))
gen_answers g source files s h = record {
  each = λ out. record {
    is = record { summary = s; is = refl; sums = h; source = refl; files = refl };
    deserved = λ told. ap refusal_status h.whole;
  };
}
