-- The answers of commands, from the script that they read and the file that they serve.
use Rattle.std.proofs.Common.{◌≡◌, ℕ, ◌≤◌, true, List, [], ◌∷◌, ◌++◌, length, Option, Some, None, Result, Ok, Err, refl, sym, ap, subst, ◌∙◌, cond, inl, inr}
use Rattle.std.specs.Prelude.{is_some}
use Rattle.std.proofs.lemmas.Bool.{le-ltb, lt-ltb}
use Rattle.std.proofs.lemmas.List.{append-nil}
use Rattle.vx_base.specs.Openers.{OpenerState, AsksFor}
use Rattle.vx_base.specs.Streams.{SourceState, SinkState}
use Rattle.vx_base.specs.declared.segment.SegmentId.{SegmentId}
use Rattle.vx_footer.specs.declared.error.OpenError.{OpenError}
use Rattle.vx_footer.specs.declared.write_error.WriteError.{WriteError}
use Rattle.vx_footer.specs.declared.sizes_error.SizesError.TheVariants.{MissingSegment}
use Rattle.vx_footer.specs.FieldSizes.{SizeList, SizesGiven, missing}
use Rattle.vx_footer.specs.Footers.{FooterContent}
use Rattle.vx_footer.specs.Opening.{vx_grammar}
use Rattle.vx_source.specs.declared.reply.Reply.{Reply}
use Rattle.vx_source.specs.declared.span.Span.{Span}
use Rattle.vx_file.specs.declared.step.Step.{Step}
use Rattle.vx_file.specs.declared.served.Served.{Served}
use Rattle.vx_commands.specs.declared.answer.Answer.TheVariants as answers
use Rattle.vx_commands.specs.declared.command.Command.{Command}
use Rattle.vx_commands.specs.declared.command.Command.TheVariants as commands
use Rattle.vx_commands.specs.declared.commands.serve.Serve as serve
use Rattle.vx_commands.specs.declared.commands.demo.Demo as demo
use Rattle.vx_commands.specs.declared.commands.sizes.Sizes as sizes
use Rattle.vx_commands.specs.declared.failure.Failure.{Failure}
use Rattle.vx_commands.specs.declared.failure.Failure.TheVariants as failures
use Rattle.vx_commands.specs.declared.input.TheConstants.{MOST_INPUT}
use Rattle.vx_commands.specs.Command.{reads_input, serve_hints, sizes_hints}
use Rattle.vx_file.specs.Hints.{Hints, IsSizeOf}
use Rattle.vx_file.specs.Ranges.{tail_ranges, opened}
use Rattle.vx_file.specs.Serving.{asked}
use Rattle.vx_commands.specs.Demo.{demo_refusal, Demonstrates, DemoCause}
use Rattle.vx_commands.specs.Failures.{LeavesFiles, WantsLine}
use Rattle.vx_commands.specs.Input.{ReadsScript, ScriptCause, BadLine, BadLength}
use Rattle.vx_commands.specs.Outputs.{IsTold, IsTrueSize, wanted_status, input_status, script_status, file_status, grammar_status, missing_status, sizes_status, measured_status, refusal_status}
use Rattle.vx_commands.specs.Outside.{outside}
use Rattle.vx_commands.specs.Reading.{settings_by, new_cache}
use Rattle.vx_commands.specs.Performs.{Gathers}
use Rattle.vx_commands.specs.Script.{script_of}
use Rattle.vx_commands.specs.Served.{FileCause, GivesBack}
use Rattle.vx_commands.specs.Sizes.{OpensFile}
use Rattle.vx_commands.proofs.Unopened.{unopened}

-- ---- the status of an input

-- an input that is not too long has the status of its script
short-status : (text : List ℕ) (file : ℕ) → length text ≤ MOST_INPUT → input_status (Some text) file ≡ script_status (script_of text) file
short-status text file short = ap (λ long. cond long 9 (script_status (script_of text) file)) (le-ltb MOST_INPUT (length text) short)

line-status : (line : ℕ) (before now : SourceState) (rest : Option (List ℕ)) (file : ℕ) → before.rest ≡ rest → is_some rest ≡ true → BadLine line before now → input_status rest file ≡ 3
line-status line before now None file e told h = absurd cc
line-status line before now (Some text) file e told h = let k = h text e in short-status text file k.0.short ∙ ap (λ s. script_status s file) k.1

long-status : (before now : SourceState) (rest : Option (List ℕ)) (file : ℕ) → before.rest ≡ rest → is_some rest ≡ true → BadLength before now → input_status rest file ≡ 9
long-status before now None file e told h = absurd cc
long-status before now (Some text) file e told h = ap (λ long. cond long 9 (script_status (script_of text) file)) (lt-ltb MOST_INPUT (length text) (h text e).long)

-- an input that spells a script has the status of the file
read-status : (before now : SourceState) (steps : List Step) (rest : Option (List ℕ)) (file : ℕ) → before.rest ≡ rest → is_some rest ≡ true → ReadsScript before now steps → input_status rest file ≡ file
read-status before now steps None file e told h = absurd cc
read-status before now steps (Some text) file e told h =
    let k = h text e in
    short-status text file k.0.short ∙ ap (λ s. script_status s file) k.1

-- ---- the script is wanting

pub script-fails : (c : Command) (file : ℕ) (source source_now : SourceState) (files : OpenerState) (failure : Failure) → reads_input c ≡ true
    → ((line : ℕ) → BadLine line source source_now → WantsLine c line source source_now)
    → ((out : SinkState) → wanted_status c (outside source files out) ≡ input_status source.rest file)
    → ((out : SinkState) → IsTold c (outside source files out) → is_some source.rest ≡ true)
    → LeavesFiles c files files → ScriptCause source source_now (Err failure) → Gathers c source source_now files files (Err failure)
script-fails c file source source_now files failures.Usage reads line wanted told leaves h = absurd h
script-fails c file source source_now files failures.MissingSegment reads line wanted told leaves h = absurd h
script-fails c file source source_now files (failures.Unbound error) reads line wanted told leaves h = absurd h
script-fails c file source source_now files (failures.Undecoded error) reads line wanted told leaves h = absurd h
script-fails c file source source_now files (failures.Unwritten error) reads line wanted told leaves h = absurd h
script-fails c file source source_now files (failures.Line number) reads line wanted told leaves h = record {
  each = λ out. record {
    fault = record { reads = reads; wants = line number h; files = refl; out = refl };
    deserved = λ t. wanted out ∙ line-status number source source_now source.rest file refl (told out t) h;
  };
}
script-fails c file source source_now files (failures.Refused refusal) reads line wanted told leaves h = absurd h
script-fails c file source source_now files (failures.Read fault) reads line wanted told leaves h = absurd h
script-fails c file source source_now files failures.Input reads line wanted told leaves h = record { each = λ out. record { reads = reads; wants = h; files = refl; out = refl } }
script-fails c file source source_now files failures.Output reads line wanted told leaves h = absurd h
script-fails c file source source_now files (failures.Open name) reads line wanted told leaves h = absurd h
script-fails c file source source_now files failures.InputTooLong reads line wanted told leaves h = record {
  each = λ out. record {
    fault = record { reads = reads; wants = h; files = refl; out = refl };
    deserved = λ t. wanted out ∙ long-status source source_now source.rest file refl (told out t) h;
  };
}
script-fails c file source source_now files failures.OutOfMemory reads line wanted told leaves h = record { each = λ out. record { files = leaves; out = inl refl } }

-- ---- serve

pub serve-unread : (s : serve.Serve) (source source_now : SourceState) (files : OpenerState) (failure : Failure) → ScriptCause source source_now (Err failure)
    → Gathers (commands.Serve s) source source_now files files (Err failure)
serve-unread s source source_now files failure h =
    script-fails (commands.Serve s) (file_status (serve_hints s) (files.file s.name)) source source_now files failure refl (λ line h. h) (λ out. refl) (λ out told. told.0) (inl (record { asked = refl; returned = refl })) h

refused-status : (hints : Hints) (refusal : OpenError) (o : Option (List ℕ)) → is_some o ≡ true → IsTrueSize hints.size o → ((file : List ℕ) → o ≡ Some file → IsSizeOf hints.size file → vx_grammar file hints.dtype ≡ Err refusal)
    → file_status hints o ≡ 4
refused-status hints refusal None told sized h = absurd cc
refused-status hints refusal (Some file) told sized h = ap grammar_status (h file refl sized)

pub serve-fails : (s : serve.Serve) (steps : List Step) (source source_now : SourceState) (files files_now : OpenerState) (failure : Failure) → ReadsScript source source_now steps
    → FileCause (serve_hints s) (settings_by s.reading) (new_cache s.reading.kept) s.name steps files files_now (Err failure) → Gathers (commands.Serve s) source source_now files files_now (Err failure)
serve-fails s steps source source_now files files_now failures.Usage script h = absurd h
serve-fails s steps source source_now files files_now failures.MissingSegment script h = absurd h
serve-fails s steps source source_now files files_now (failures.Unbound error) script h = absurd h
serve-fails s steps source source_now files files_now (failures.Undecoded error) script h = absurd h
serve-fails s steps source source_now files files_now (failures.Unwritten error) script h = absurd h
serve-fails s steps source source_now files files_now (failures.Line line) script h = absurd h
serve-fails s steps source source_now files files_now (failures.Refused refusal) script h = record {
  each = λ out. record {
    name = s.name;
    asks = record { named = refl; input = (steps, script); asked = h.0; out = refl };
    back = h.1;
    refuses = h.2;
    deserved = λ told. read-status source source_now steps source.rest (file_status (serve_hints s) (files.file s.name)) refl told.0 script
        ∙ refused-status (serve_hints s) refusal (files.file s.name) told.1 told.2 (λ file e sized. (h.2 file e sized).fails);
  };
}
serve-fails s steps source source_now files files_now (failures.Read fault) script h = record {
  each = λ out. record {
    name = s.name;
    asks = record { named = refl; input = (steps, script); asked = h.0; out = refl };
    back = h.1;
    rose = h.2;
    lacks = λ file e sized. inl (h.3 file e sized);
  };
}
serve-fails s steps source source_now files files_now failures.Input script h = absurd h
serve-fails s steps source source_now files files_now failures.Output script h = absurd h
serve-fails s steps source source_now files files_now (failures.Open name) script h = record {
  each = λ out. record {
    asks = record { named = ap (λ n. n ∷ []) (sym h.0); input = (steps, script); asked = subst (λ n. AsksFor n files files_now) (sym h.0) h.1; out = refl };
    rose = h.2;
  };
}
serve-fails s steps source source_now files files_now failures.InputTooLong script h = absurd h
serve-fails s steps source source_now files files_now failures.OutOfMemory script h = record { each = λ out. record { files = h; out = inl refl } }

served-status : (hints : Hints) (o : Option (List ℕ)) (served : Served) → is_some o ≡ true → IsTrueSize hints.size o
    → ((file : List ℕ) → o ≡ Some file → IsSizeOf hints.size file → vx_grammar file hints.dtype ≡ Ok served.footer.content) → file_status hints o ≡ 0
served-status hints None served told sized h = absurd cc
served-status hints (Some file) served told sized h = ap grammar_status (h file refl sized)

pub serve-answers : (s : serve.Serve) (steps : List Step) (source source_now : SourceState) (files files_now : OpenerState) (served : Served) → ReadsScript source source_now steps
    → FileCause (serve_hints s) (settings_by s.reading) (new_cache s.reading.kept) s.name steps files files_now (Ok served) → Gathers (commands.Serve s) source source_now files files_now (Ok (answers.Served served))
serve-answers s steps source source_now files files_now served script h = record {
  each = λ out. record {
    is = record { served = served; is = refl; steps = steps; script = script; asked = h.0; back = h.1; serves = h.2 };
    deserved = λ told. read-status source source_now steps source.rest (file_status (serve_hints s) (files.file s.name)) refl told.0 script
        ∙ served-status (serve_hints s) (files.file s.name) served told.1 told.2 (λ file e sized. (h.2 file e sized).serves.prepares.footer_is);
  };
}

-- memory for the options is wanting
pub serve-stopped : (s : serve.Serve) (source source_now : SourceState) (files : OpenerState) → Gathers (commands.Serve s) source source_now files files (Err failures.OutOfMemory)
serve-stopped s source source_now files = record { each = λ out. record { files = inl (record { asked = refl; returned = refl }); out = inl refl } }

-- memory for the text of the type is wanting
pub serve-unprinted : (s : serve.Serve) (steps : List Step) (source source_now : SourceState) (files files_now : OpenerState) (served : Served) → FileCause (serve_hints s) (settings_by s.reading) (new_cache s.reading.kept) s.name steps files files_now (Ok served)
    → Gathers (commands.Serve s) source source_now files files_now (Err failures.OutOfMemory)
serve-unprinted s steps source source_now files files_now served h = record { each = λ out. record { files = inr (record { asked = h.0; back = inl h.1 }); out = inl refl } }

-- ---- demo

pub demo-unread : (d : demo.Demo) (source source_now : SourceState) (files : OpenerState) (failure : Failure) → ScriptCause source source_now (Err failure)
    → Gathers (commands.Demo d) source source_now files files (Err failure)
demo-unread d source source_now files failure h =
    script-fails (commands.Demo d) (refusal_status (demo_refusal d.values)) source source_now files failure refl (λ line h. h) (λ out. refl) (λ out told. told) refl h

-- the status of an input that spells a script
demo-status : (d : demo.Demo) (steps : List Step) (source source_now : SourceState) (refusal : Option WriteError) → is_some source.rest ≡ true → ReadsScript source source_now steps → demo_refusal d.values ≡ refusal
    → input_status source.rest (refusal_status (demo_refusal d.values)) ≡ refusal_status refusal
demo-status d steps source source_now refusal told script is = read-status source source_now steps source.rest (refusal_status (demo_refusal d.values)) refl told script ∙ ap refusal_status is

pub demo-fails : (d : demo.Demo) (steps : List Step) (source source_now : SourceState) (files : OpenerState) (failure : Failure) → ReadsScript source source_now steps → DemoCause d.values steps (Err failure)
    → Gathers (commands.Demo d) source source_now files files (Err failure)
demo-fails d steps source source_now files failures.Usage script h = absurd h
demo-fails d steps source source_now files failures.MissingSegment script h = absurd h
demo-fails d steps source source_now files (failures.Unbound error) script h = absurd h
demo-fails d steps source source_now files (failures.Undecoded error) script h = absurd h
demo-fails d steps source source_now files (failures.Unwritten error) script h = record {
  each = λ out. inr (record {
    refused = h;
    input = (steps, script);
    files = refl;
    out = refl;
    deserved = λ told. demo-status d steps source source_now (Some error) told script h;
  });
}
demo-fails d steps source source_now files (failures.Line line) script h = absurd h
demo-fails d steps source source_now files (failures.Refused refusal) script h = absurd h
demo-fails d steps source source_now files (failures.Read fault) script h = absurd h
demo-fails d steps source source_now files failures.Input script h = absurd h
demo-fails d steps source source_now files failures.Output script h = absurd h
demo-fails d steps source source_now files (failures.Open name) script h = absurd h
demo-fails d steps source source_now files failures.InputTooLong script h = absurd h
demo-fails d steps source source_now files failures.OutOfMemory script h = record { each = λ out. record { files = refl; out = inl refl } }

pub demo-answers : (d : demo.Demo) (steps : List Step) (source source_now : SourceState) (files : OpenerState) (served : Served) → ReadsScript source source_now steps
    → Demonstrates d.values steps served → Gathers (commands.Demo d) source source_now files files (Ok (answers.Served served))
demo-answers d steps source source_now files served script h = record {
  each = λ out. record {
    is = record { served = served; is = refl; steps = steps; script = script; demonstrates = h; files = refl };
    deserved = λ told. demo-status d steps source source_now None told script h.whole;
  };
}

-- ---- sizes

unmeasured-status : (hints : Hints) (refusal : OpenError) (o : Option (List ℕ)) → is_some o ≡ true → ((file : List ℕ) → o ≡ Some file → vx_grammar file hints.dtype ≡ Err refusal) → measured_status hints o ≡ 4
unmeasured-status hints refusal None told h = absurd cc
unmeasured-status hints refusal (Some file) told h = ap sizes_status (h file refl)

measured-status : (hints : Hints) (footer : FooterContent) (o : Option (List ℕ)) (code : ℕ) → is_some o ≡ true → ((file : List ℕ) → o ≡ Some file → vx_grammar file hints.dtype ≡ Ok footer)
    → missing_status (missing footer.layout footer.segments) ≡ code → measured_status hints o ≡ code
measured-status hints footer None code told h e = absurd cc
measured-status hints footer (Some file) code told h e = ap sizes_status (h file refl) ∙ e

abbrev opens : sizes.Sizes → OpenerState → OpenerState → Result Served Failure → Type 0
opens s files files_now answer = OpensFile (sizes_hints s) s.name files files_now answer

no-replies : (replies : List Reply) → length replies ≡ 0 → replies ≡ []
no-replies [] e = refl
no-replies (reply ∷ replies) e = absurd cc

-- what opening without a step and without the metadata asked
pub asked-nothing-more : (name : List ℕ) (ranges : List (ℕ × ℕ)) (spans : List Span) (replies : List Reply) (before now : OpenerState) → spans ≡ [] → length replies ≡ 0 → GivesBack name before now (asked ranges spans replies)
    → GivesBack name before now (opened ranges)
asked-nothing-more name ranges spans replies before now no_spans none h =
    subst (GivesBack name before now) (append-nil (opened ranges ++ []) ∙ append-nil (opened ranges)) (subst (λ ss. GivesBack name before now (asked ranges ss [])) no_spans (subst (λ rs. GivesBack name before now (asked ranges spans rs)) (no-replies replies none) h))

-- the file was not opened
pub sizes-fails : (s : sizes.Sizes) (source : SourceState) (files files_now : OpenerState) (failure : Failure) → opens s files files_now (Err failure) → Gathers (commands.Sizes s) source source files files_now (Err failure)
sizes-fails s source files files_now failure h = unopened (commands.Sizes s) s.name source files files_now failure (record {
  named = refl;
  silent = refl;
  chosen = λ own. refl;
  unsized = refl;
  leaves = λ leaves. leaves;
  told = λ out told. told;
  refused = λ refusal told fails out. unmeasured-status (sizes_hints s) refusal (files.file s.name) told fails;
}) h

-- the file was opened
module _ (s : sizes.Sizes) (source : SourceState) (files files_now : OpenerState) (served : Served) (h : opens s files files_now (Ok served)) where
  grammar : (file : List ℕ) → files.file s.name ≡ Some file → vx_grammar file s.dtype ≡ Ok served.footer.content
  grammar file e = (h.2 file e tt).serves.prepares.footer_is

  pub sizes-answers : (sizes : SizeList) → SizesGiven served.footer.content.layout served.footer.content.segments (Ok sizes) → Gathers (commands.Sizes s) source source files files_now (Ok (answers.Sizes sizes))
  sizes-answers sizes given = record {
    each = λ out. record {
      is = record {
        sizes = sizes;
        is = refl;
        source = refl;
        asked = h.0;
        back = h.1;
        measures = λ file e. let serves = h.2 file e tt in record {
          footer = served.footer.content;
          grammar = grammar file e;
          there = given.0;
          sizes_are = given.1;
          back = asked-nothing-more s.name (tail_ranges (sizes_hints s) file) serves.serves.prepares.spans served.replies files files_now serves.serves.prepares.loads.1 serves.serves.plays.answers.one_each serves.back;
        };
      };
      deserved = λ told. measured-status (sizes_hints s) served.footer.content (files.file s.name) 0 told grammar (ap missing_status given.0);
    };
  }

  pub sizes-lacks : (id : SegmentId) → SizesGiven served.footer.content.layout served.footer.content.segments (Err (MissingSegment id)) → Gathers (commands.Sizes s) source source files files_now (Err failures.MissingSegment)
  sizes-lacks id given = record {
    each = λ out. record {
      name = s.name;
      asks = record { named = refl; input = refl; asked = h.0; out = refl };
      back = h.1;
      lacks = λ file e. record { footer = served.footer.content; grammar = grammar file e; id = id.0; lacks = given };
      deserved = λ told. measured-status (sizes_hints s) served.footer.content (files.file s.name) 4 told grammar (ap missing_status given);
    };
  }

  -- memory ran out behind the opening
  pub sizes-stopped : Gathers (commands.Sizes s) source source files files_now (Err failures.OutOfMemory)
  sizes-stopped = record { each = λ out. record { files = inr (record { asked = h.0; back = inl h.1 }); out = inl refl } }
