-- The answers of `scan`, from the file that it opens and the predicate.
use Rattle.std.proofs.Common.{◌≡◌, ℕ, true, List, [], ◌∷◌, Option, Some, None, Result, Ok, Err, refl, sym, ap, ◌∙◌, subst, inl, inr}
use Rattle.std.specs.Prelude.{is_some}
use Rattle.vx_base.specs.Openers.{OpenerState, AsksFor}
use Rattle.vx_base.specs.Streams.{SourceState}
use Rattle.vx_footer.specs.Opening.{vx_grammar}
use Rattle.vx_rows.specs.declared.column.Column.{Column}
use Rattle.vx_rows.specs.Predicates.{Pred}
use Rattle.vx_rows.specs.Rows.{column_view}
use Rattle.vx_file.specs.Hints.{Hints}
use Rattle.vx_file.specs.Plans.{Plan, plan_of}
use Rattle.vx_file.specs.ReaderScans.{IsMissing, IsUndecoded}
use Rattle.vx_file.specs.Scans.{Segments, FlatLayout, CanBeRead}
use Rattle.vx_file.proofs.ReaderScanning.{stopped_none, missing_unread, undecoded_unread}
use Rattle.vx_commands.specs.declared.answer.Answer.TheVariants as answers
use Rattle.vx_commands.specs.declared.command.Command.TheVariants as commands
use Rattle.vx_commands.specs.declared.commands.scan.Scan as scan
use Rattle.vx_commands.specs.declared.failure.Failure.{Failure}
use Rattle.vx_commands.specs.declared.failure.Failure.TheVariants as failures
use Rattle.vx_commands.specs.Command.{scan_hints}
use Rattle.vx_commands.specs.Outputs.{scanned_status}
use Rattle.vx_commands.specs.Performs.{Gathers}
use Rattle.vx_commands.specs.Scans.{Spells, spelled, NameScan, ScansName, ScansFile, StopsFile, found_status, chosen_status, opened_status}

-- ---- the predicate of words

spelled-is : (words : Option (List (List ℕ))) (p : Option Pred) → Spells words p → spelled words ≡ p
spelled-is None p h = sym h
spelled-is (Some words) None h = absurd h
spelled-is (Some words) (Some p) h = h

pub of-spelled : (hints : Hints) (words : Option (List (List ℕ))) (p : Option Pred) (name : List ℕ) (before now : OpenerState) (answer : Result Column Failure) → Spells words p → NameScan hints p name before now answer
    → ScansName hints words name before now answer
of-spelled hints words p name before now (Ok c) spells h = record { predicate = p; spells = spells; is = h }
of-spelled hints words p name before now (Err failures.Usage) spells h = absurd h
of-spelled hints words p name before now (Err (failures.Line line)) spells h = absurd h
of-spelled hints words p name before now (Err (failures.Refused refusal)) spells h = record { predicate = p; spells = spells; is = h }
of-spelled hints words p name before now (Err failures.MissingSegment) spells h = record { predicate = p; spells = spells; is = h }
of-spelled hints words p name before now (Err (failures.Unbound error)) spells h = record { predicate = p; spells = spells; is = h }
of-spelled hints words p name before now (Err (failures.Undecoded error)) spells h = record { predicate = p; spells = spells; is = h }
of-spelled hints words p name before now (Err (failures.Unwritten error)) spells h = absurd h
of-spelled hints words p name before now (Err (failures.Read fault)) spells h = record { predicate = p; spells = spells; is = h }
of-spelled hints words p name before now (Err failures.Input) spells h = absurd h
of-spelled hints words p name before now (Err failures.Output) spells h = absurd h
of-spelled hints words p name before now (Err (failures.Open opened)) spells h = record { predicate = p; spells = spells; is = h }
of-spelled hints words p name before now (Err failures.InputTooLong) spells h = absurd h
of-spelled hints words p name before now (Err failures.OutOfMemory) spells h = h

-- ---- the status of a file

told-status : (hints : Hints) (words : Option (List (List ℕ))) (p : Option Pred) (o : Option (List ℕ)) (code : ℕ) → is_some o ≡ true → Spells words p
    → ((file : List ℕ) → o ≡ Some file → opened_status p file (vx_grammar file hints.dtype) ≡ code) → scanned_status hints words o ≡ code
told-status hints words p None code told spells h = absurd cc
told-status hints words p (Some file) code told spells h = ap (λ q. opened_status q file (vx_grammar file hints.dtype)) (spelled-is words p spells) ∙ h file refl

-- a file of which a flat layout cannot be read
stops-status : (plan : Plan) (p : Option Pred) (file : List ℕ) (Fails : Segments → List (List ℕ) → FlatLayout → Type 0)
    → ((bytes : Segments) (ids : List (List ℕ)) (g : FlatLayout) → Fails bytes ids g → CanBeRead bytes ids g → ⊥) → StopsFile plan p file Fails → opened_status p file plan.footer ≡ 4
stops-status plan p file Fails unread h =
    ap (opened_status p file) h.grammar ∙ ap (λ r. chosen_status r file h.footer) h.stops.binds ∙ ap found_status (stopped_none file p h.footer Fails unread h.stops)

scans-status : (plan : Plan) (p : Option Pred) (file name : List ℕ) (before now : OpenerState) (c : Column) → ScansFile plan p file name before now (column_view c) → opened_status p file plan.footer ≡ 0
scans-status plan p file name before now c h =
    ap (opened_status p file) h.grammar ∙ ap (λ r. chosen_status r file h.footer) h.scan.binds ∙ ap found_status h.scan.rows

-- ---- scan

pub scan-fails : (s : scan.Scan) (source : SourceState) (files files_now : OpenerState) (failure : Failure) → ScansName (scan_hints s) s.filter s.name files files_now (Err failure)
    → Gathers (commands.Scan s) source source files files_now (Err failure)
scan-fails s source files files_now failures.Usage h = absurd h.is
scan-fails s source files files_now (failures.Line line) h = absurd h.is
scan-fails s source files files_now (failures.Refused refusal) h = record {
  each = λ out. record {
    name = s.name;
    asks = record { named = refl; input = refl; asked = h.is.asked; out = refl };
    back = h.is.back;
    refuses = h.is.is;
    deserved = λ told. told-status (scan_hints s) s.filter h.predicate (files.file s.name) 4 told h.spells (λ file e. ap (opened_status h.predicate file) (h.is.is file e tt).fails);
  };
}
scan-fails s source files files_now failures.MissingSegment h = record {
  each = λ out. record {
    name = s.name;
    asks = record { named = refl; input = refl; asked = h.is.asked; out = refl };
    back = h.is.back;
    lacks = λ file e. let x = h.is.is file e tt in (x.0, record { predicate = h.predicate; spells = h.spells; is = x.1 });
    deserved = λ told. told-status (scan_hints s) s.filter h.predicate (files.file s.name) 4 told h.spells (λ file e. let x = h.is.is file e tt in
        stops-status (plan_of (scan_hints s) file) h.predicate file (IsMissing x.0) (missing_unread x.0) x.1);
  };
}
scan-fails s source files files_now (failures.Unbound error) h = record {
  each = λ out. record {
    name = s.name;
    asks = record { named = refl; input = refl; asked = h.is.asked; out = refl };
    back = h.is.back;
    misfits = λ file e. let x = h.is.is file e tt in record { footer = x.footer; grammar = x.grammar; misfits = record { predicate = h.predicate; spells = h.spells; is = x.fails } };
    deserved = λ told. told-status (scan_hints s) s.filter h.predicate (files.file s.name) 4 told h.spells (λ file e. let x = h.is.is file e tt in
        ap (opened_status h.predicate file) x.grammar ∙ ap (λ r. chosen_status r file x.footer) x.fails);
  };
}
scan-fails s source files files_now (failures.Undecoded error) h = record {
  each = λ out. record {
    name = s.name;
    asks = record { named = refl; input = refl; asked = h.is.asked; out = refl };
    back = h.is.back;
    stops = λ file e. let x = h.is.is file e tt in (x.0, record { predicate = h.predicate; spells = h.spells; is = x.1 });
    deserved = λ told. told-status (scan_hints s) s.filter h.predicate (files.file s.name) 4 told h.spells (λ file e. let x = h.is.is file e tt in
        stops-status (plan_of (scan_hints s) file) h.predicate file (IsUndecoded error x.0) (undecoded_unread error x.0) x.1);
  };
}
scan-fails s source files files_now (failures.Unwritten error) h = absurd h.is
scan-fails s source files files_now (failures.Read fault) h = record {
  each = λ out. record {
    name = s.name;
    asks = record { named = refl; input = refl; asked = h.is.1.asked; out = refl };
    back = h.is.1.back;
    rose = h.is.0;
    lacks = λ file e sized. elim (h.is.1.is file e sized) [ inl lacks ↦ inl lacks | inr stops ↦ inr (record { predicate = h.predicate; spells = h.spells; is = stops }) ];
  };
}
scan-fails s source files files_now failures.Input h = absurd h.is
scan-fails s source files files_now failures.Output h = absurd h.is
scan-fails s source files files_now (failures.Open name) h = record {
  each = λ out. record {
    asks = record { named = ap (λ n. n ∷ []) (sym h.is.0); input = refl; asked = subst (λ n. AsksFor n files files_now) (sym h.is.0) h.is.1; out = refl };
    rose = h.is.2;
  };
}
scan-fails s source files files_now failures.InputTooLong h = absurd h.is
scan-fails s source files files_now failures.OutOfMemory h = record { each = λ out. record { files = h; out = inl refl } }

-- the rows of the file
module _ (s : scan.Scan) (source : SourceState) (files files_now : OpenerState) (c : Column) (h : ScansName (scan_hints s) s.filter s.name files files_now (Ok c)) where
  pub scan-answers : Gathers (commands.Scan s) source source files files_now (Ok (answers.Rows (column_view c)))
  scan-answers = record {
    each = λ out. record {
      is = record {
        rows = column_view c;
        is = refl;
        source = refl;
        asked = h.is.asked;
        back = h.is.back;
        predicate = h.predicate;
        spells = h.spells;
        scans = λ file e. h.is.is file e tt;
      };
      deserved = λ told. told-status (scan_hints s) s.filter h.predicate (files.file s.name) 0 told h.spells (λ file e. scans-status (plan_of (scan_hints s) file) h.predicate file s.name files files_now c (h.is.is file e tt));
    };
  }

  -- memory for the text of the type is wanting
  pub scan-stopped : Gathers (commands.Scan s) source source files files_now (Err failures.OutOfMemory)
  scan-stopped = record { each = λ out. record { files = inr (record { asked = h.is.asked; back = inl h.is.back }); out = inl refl } }
