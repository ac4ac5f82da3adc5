-- What became of the ranges that a reader was asked.
use Rattle.std.specs.Prelude.{◌≡◌, ℕ, ◌++◌, ◌==◌, true, List, [], ◌∷◌, length, All, Option, Some, None, IsSome, Ok, Err, Result, IsOk, IfOk, IfErr, OnErr, Vec, if◌then◌else◌}
use Rattle.std.specs.Global.{Global}
use Rattle.std.specs.Option.{option_map}
use Rattle.vx_base.specs.Buffer.{Buffer, bytes_at}
use Rattle.vx_base.specs.Asking.{Log, faulted, GrewOrStayed, IsInside}
use Rattle.vx_base.specs.Counts.{Rises}
use Rattle.vx_base.specs.Readers.{ReaderState}
use Rattle.vx_base.specs.declared.answer.ReadAtRequest.{ReadAtRequest}
use Rattle.vx_base.specs.declared.answer.RangeAnswer.{RangeAnswer}
use Rattle.vx_base.specs.declared.fault.Failed.{Failed}
use Rattle.vx_base.specs.declared.fault.FaultKind.{FaultKind}
use Rattle.vx_base.specs.declared.fault.FaultKind.TheVariants.{ReadFault, ShortRead, MissingRange}
use Rattle.vx_sched.specs.declared.fault.Place.TheVariants as place
use Rattle.vx_sched.specs.declared.fault.Fault.{Fault}
use Rattle.vx_sched.specs.declared.fault.Outcome.{Outcome}
use Rattle.vx_sched.specs.declared.fault.Outcome.TheVariants as out

-- a fault at a range
abbrev pub range_fault : FaultKind → ReadAtRequest → Fault
range_fault kind range = record { kind = kind; place = place.Range range.offset range.length }

-- what a result makes of a range
abbrev pub outcome_of_result : ReadAtRequest → Result Buffer Failed → Outcome
outcome_of_result range (Ok buffer) =
    if length buffer.bytes == range.length
    then out.Bytes (record buffer { alignment = range.alignment })
    else out.Fault (range_fault ShortRead range)
outcome_of_result range (Err _) = out.Fault (range_fault ReadFault range)

-- what the answer to a range makes of it
abbrev pub outcome_of : ReadAtRequest → Option (RangeAnswer Buffer) → Outcome
outcome_of range None = out.Fault (range_fault MissingRange range)
outcome_of range (Some a) = outcome_of_result range a.result

-- the mark of a range with this outcome
abbrev pub mark_of_outcome : Outcome → Option FaultKind
mark_of_outcome (out.Bytes _) = None
mark_of_outcome (out.Fault f) = Some f.kind
mark_of_outcome out.NoMemory = Some MissingRange

-- the log of ranges with these outcomes
abbrev pub log_of : List ReadAtRequest → List Outcome → Log
log_of [] outcomes = []
log_of (r ∷ rest) [] = []
log_of (r ∷ rest) (o ∷ more) = record { range = r; mark = mark_of_outcome o } ∷ log_of rest more

-- an outcome is that of a range: bytes as many as it asks, with its alignment, or a fault at its place
abbrev pub IsOutcomeOf : ReadAtRequest → Outcome → Type 0
IsOutcomeOf range (out.Bytes buffer) = (length buffer.bytes ≡ range.length) × (buffer.alignment ≡ range.alignment)
IsOutcomeOf range (out.Fault f) = f.place ≡ place.Range range.offset range.length
IsOutcomeOf range out.NoMemory = ⊥

-- each outcome is that of its range
abbrev pub AreOutcomesOf : List ReadAtRequest → List Outcome → Type 0
AreOutcomesOf [] [] = Unit {0}
AreOutcomesOf [] (o ∷ more) = ⊥
AreOutcomesOf (r ∷ rest) [] = ⊥
AreOutcomesOf (r ∷ rest) (o ∷ more) = IsOutcomeOf r o × AreOutcomesOf rest more

-- the bytes of an outcome are those of its range
abbrev pub HasBytesOf : List ℕ → ReadAtRequest → Outcome → Type 0
HasBytesOf bytes range (out.Bytes buffer) = buffer.bytes ≡ bytes_at bytes range.offset range.length
HasBytesOf bytes range (out.Fault f) = Unit {0}
HasBytesOf bytes range out.NoMemory = Unit {0}

-- the bytes of each outcome are those of its range
abbrev pub HaveBytesOf : List ℕ → List ReadAtRequest → List Outcome → Type 0
HaveBytesOf bytes [] outcomes = Unit {0}
HaveBytesOf bytes (r ∷ rest) [] = Unit {0}
HaveBytesOf bytes (r ∷ rest) (o ∷ more) = HasBytesOf bytes r o × HaveBytesOf bytes rest more

-- What asking a reader for ranges answers: one outcome a range, in order, and its bytes are those of the
-- range. The log gained the ranges, with these outcomes as marks; without memory it gained them with any
-- marks, or nothing. Each fault counts.
pub record AskCause {E : Type 0} (ranges : List ReadAtRequest) (before now : ReaderState) (outcomes : Result (Vec Outcome Global) E) : Type 0 where
  pub places : IfOk outcomes (λ all. AreOutcomesOf ranges all.items)
  pub bytes : IfOk outcomes (λ all. (b : List ℕ) → before.bytes ≡ Some b → HaveBytesOf b ranges all.items)
  pub log : IfOk outcomes (λ all. now.log ≡ option_map (λ l. l ++ log_of ranges all.items) before.log)
  pub memory : OnErr outcomes (GrewOrStayed ranges before.log now.log)
  pub rises : IfOk outcomes (λ all. Rises (faulted (log_of ranges all.items)) before.faults now.faults)
  pub sound : (b : List ℕ) → before.never_fails ≡ true → before.bytes ≡ Some b → All (IsInside b) ranges → now.faults ≡ before.faults
  pub complete : IfOk outcomes (λ all. (b : List ℕ) → before.never_fails ≡ true → before.bytes ≡ Some b
      → All (IsInside b) ranges → faulted (log_of ranges all.items) ≡ 0)

-- the fault of the call for the size
abbrev pub size_fault : Fault
size_fault = record { kind = ReadFault; place = place.Size }

-- what asking a reader for its size answers: the number of bytes, or the fault of that call
pub record AskSizeCause (before now : ReaderState) (size : Result ℕ Fault) : Type 0 where
  pub told : IfOk size (λ n. (b : List ℕ) → before.bytes ≡ Some b → n ≡ length b)
  pub fault : IfErr size (λ f. f ≡ size_fault)
  pub failed : OnErr size (Rises 1 before.faults now.faults)
  pub sound : before.never_fails ≡ true → IsOk size × (now.faults ≡ before.faults) × IsSome before.bytes
  pub log : now.log ≡ before.log
