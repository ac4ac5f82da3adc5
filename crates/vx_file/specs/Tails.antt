-- What reading the tail of a file gives, and the footer that it tells.
use Rattle.std.specs.Prelude.{◌≡◌, ◌⊎◌, ℕ, ◌+◌, ◌-◌, false, List, [], ◌∷◌, ◌++◌, length, drop, Option, Some, None, is_none, Result, Ok, Err, true, IfOk, IfErr, IsOk, OnErr}
use Rattle.vx_base.specs.Asking.{GrewOrStayed}
use Rattle.vx_base.specs.Buffer.{bytes_at}
use Rattle.vx_base.specs.Counts.{Rises}
use Rattle.vx_base.specs.Readers.{ReaderState}
use Rattle.vx_sched.specs.Outcomes.{size_fault}
use Rattle.vx_sched.specs.declared.fault.Fault.{Fault}
use Rattle.vx_sched.specs.declared.fault.Place.TheVariants.{Range}
use Rattle.vx_footer.specs.declared.deserializer.DeserializeStep.{DeserializeStep}
use Rattle.vx_footer.specs.declared.deserializer.DeserializeStep.TheVariants.{NeedMoreData, Done}
use Rattle.vx_footer.specs.declared.error.OpenError.{OpenError}
use Rattle.vx_footer.specs.declared.error.OpenError.TheVariants as checks
use Rattle.vx_footer.specs.declared.footer.Footer.{Footer}
use Rattle.vx_footer.specs.Opening.{footer_of, vx_grammar}
use Rattle.vx_footer.specs.Steps.{step_of, asks_bytes}
use Rattle.vx_file.specs.declared.opening.Look.{Look}
use Rattle.vx_file.specs.declared.opening.Look.TheVariants.{Whole, Before}
use Rattle.vx_file.specs.declared.opening.Opening.{Opening}
use Rattle.vx_source.specs.declared.tail.Tail.{Tail}
use Rattle.vx_file.specs.declared.served.ServeError.{ServeError}
use Rattle.vx_file.specs.declared.served.ServeError.TheVariants as errors
use Rattle.vx_source.specs.Asks.{Grew}
use Rattle.vx_file.specs.Hints.{Hints, IsSizeOf}
use Rattle.vx_file.specs.Plans.{tail_plan}
use Rattle.vx_file.specs.Ranges.{first_start, tail_start, tail_ranges, opening_range, opened}
use Rattle.vx_file.specs.Serving.{RefusedFrom, SizeFault, TailFault, StopsOpening, faulty}

-- ---- the size

-- the size of a file: the one that is supplied, or what its reader says
pub record SizeCause (hints : Hints) (before now : ReaderState) (size : Result ℕ Fault) : Type 0 where
  pub told : IfOk size (λ n. (file : List ℕ) → before.bytes ≡ Some file → IsSizeOf hints.size file → n ≡ length file)
  pub fault : IfErr size (λ f. f ≡ size_fault)
  pub asks : OnErr size (is_none hints.size ≡ true)
  pub failed : OnErr size (Rises 1 before.faults now.faults)
  pub sound : before.never_fails ≡ true → IsOk size × (now.faults ≡ before.faults)
  pub log : now.log ≡ before.log

-- ---- the first range

-- the bytes of a file from an offset on
pub record TailFrom (file : List ℕ) (from : ℕ) (t : Tail) : Type 0 where
  pub start : t.start ≡ from
  pub bytes : t.bytes.bytes ≡ drop from file
  pub total : from + length t.bytes.bytes ≡ length file

-- the first range was read
pub record FirstRead (hints : Hints) (file : List ℕ) (before now : ReaderState) (t : Tail) : Type 0 where
  pub tail : TailFrom file (first_start hints (length file)) t
  pub asked : Grew (opened ((t.start, length t.bytes.bytes) ∷ [])) before.log now.log
  pub rises : Rises 0 before.faults now.faults

-- an opening range failed, with its mark
pub record RangeFault (offset len : ℕ) (before now : ReaderState) (fault : Fault) : Type 0 where
  pub place : fault.place ≡ Range offset len
  pub asked : Grew (faulty (offset, len) fault ∷ []) before.log now.log

-- where the first range of a file begins, and how long it is
abbrev pub first_range : Hints → List ℕ → ℕ × ℕ
first_range hints file = (first_start hints (length file), length file - first_start hints (length file))

abbrev pub FirstCause : Hints → List ℕ → ReaderState → ReaderState → Result Tail ServeError → Type 0
FirstCause hints file before now (Ok t) = FirstRead hints file before now t
FirstCause hints file before now (Err (errors.Open e)) = ⊥
FirstCause hints file before now (Err (errors.Fault fault)) =
    SizeFault (tail_plan hints file) before now fault ⊎ RangeFault (first_range hints file).0 (first_range hints file).1 before now fault
FirstCause hints file before now (Err errors.CacheFault) = ⊥
FirstCause hints file before now (Err errors.OutOfMemory) = GrewOrStayed (opening_range (first_range hints file) ∷ []) before.log now.log

-- ---- what a tail tells

-- the step that a tail leads to, in a file that ends with it
abbrev pub tail_step : Hints → Tail → Result DeserializeStep OpenError
tail_step hints t = step_of hints.dtype (Some (t.start + length t.bytes.bytes)) t.bytes.bytes

abbrev pub refused_as : OpenError → ServeError
refused_as checks.OutOfMemory = errors.OutOfMemory
refused_as e = errors.Open e

-- a refusal by a check, or want of memory, which is never told as one
abbrev pub Refuses : {A : Type 0} → Result A ServeError → Type 0
Refuses (Ok x) = Unit {0}
Refuses (Err (errors.Open checks.OutOfMemory)) = ⊥
Refuses (Err (errors.Open e)) = Unit {0}
Refuses (Err (errors.Fault fault)) = ⊥
Refuses (Err errors.CacheFault) = ⊥
Refuses (Err errors.OutOfMemory) = Unit {0}

abbrev pub Looks : Result DeserializeStep OpenError → Result Look ServeError → Type 0
Looks step (Ok (Whole footer)) = step ≡ Ok (Done footer)
Looks step (Ok (Before offset len)) = step ≡ Ok (NeedMoreData offset len)
Looks step (Err (errors.Open e)) = step ≡ Err e
Looks step (Err (errors.Fault fault)) = ⊥
Looks step (Err errors.CacheFault) = ⊥
Looks step (Err errors.OutOfMemory) = Unit {0}

abbrev pub Finishes : Result DeserializeStep OpenError → Result Footer ServeError → Type 0
Finishes step (Ok footer) = step ≡ Ok (Done footer)
Finishes step (Err (errors.Open e)) = step ≡ Err e
Finishes step (Err (errors.Fault fault)) = ⊥
Finishes step (Err errors.CacheFault) = ⊥
Finishes step (Err errors.OutOfMemory) = Unit {0}

-- ---- what lies before a tail

-- bytes were put before a tail
pub record Prefixed (offset len : ℕ) (t now : Tail) : Type 0 where
  pub more : List ℕ
  pub as_many : length more ≡ len
  pub start : now.start ≡ offset
  pub bytes : now.bytes.bytes ≡ more ++ t.bytes.bytes

pub record BeforeRead (file : List ℕ) (t : Tail) (offset len : ℕ) (before now : ReaderState) (tail : Tail) : Type 0 where
  pub start : tail.start ≡ offset
  pub bytes : tail.bytes.bytes ≡ bytes_at file offset len ++ t.bytes.bytes
  pub size : length tail.bytes.bytes ≡ len + length t.bytes.bytes
  pub asked : Grew (opened ((offset, len) ∷ [])) before.log now.log
  pub rises : Rises 0 before.faults now.faults

abbrev pub BeforeCause : List ℕ → Tail → ℕ → ℕ → ReaderState → ReaderState → Result Tail ServeError → Type 0
BeforeCause file t offset len before now (Ok tail) = BeforeRead file t offset len before now tail
BeforeCause file t offset len before now (Err (errors.Open e)) = ⊥
BeforeCause file t offset len before now (Err (errors.Fault fault)) = RangeFault offset len before now fault
BeforeCause file t offset len before now (Err errors.CacheFault) = ⊥
BeforeCause file t offset len before now (Err errors.OutOfMemory) = GrewOrStayed (opening_range (offset, len) ∷ []) before.log now.log

-- ---- the whole tail

-- a footer that was found is what the tables of a file give
abbrev pub IsFound : Hints → List ℕ → Option Footer → Type 0
IsFound hints file None = Unit {0}
IsFound hints file (Some footer) = footer_of file hints.dtype ≡ Ok footer.content

-- the tail was read that has all tables
pub record TailRead (hints : Hints) (file : List ℕ) (before now : ReaderState) (o : Opening) : Type 0 where
  pub first : o.first ≡ first_start hints (length file)
  pub tail : TailFrom file (tail_start hints file) o.tail
  pub footer : IsFound hints file o.footer
  pub asked : Grew (opened (tail_ranges hints file)) before.log now.log
  pub rises : Rises 0 before.faults now.faults

-- where the footer is not known yet, the tail asks for no bytes
abbrev pub IsSettled : Hints → Opening → Option Footer → Type 0
IsSettled hints o (Some footer) = Unit {0}
IsSettled hints o None = asks_bytes (tail_step hints o.tail) ≡ false

abbrev pub TailCause : Hints → List ℕ → ReaderState → ReaderState → Result Opening ServeError → Type 0
TailCause hints file before now (Ok o) = TailRead hints file before now o
TailCause hints file before now (Err (errors.Open e)) = RefusedFrom (tail_plan hints file) before now e
TailCause hints file before now (Err (errors.Fault fault)) =
    SizeFault (tail_plan hints file) before now fault ⊎ TailFault (tail_plan hints file) before now fault
TailCause hints file before now (Err errors.CacheFault) = ⊥
TailCause hints file before now (Err errors.OutOfMemory) = StopsOpening (tail_plan hints file) before now

-- the footer of a file, or its refusal
abbrev pub FooterCause : Hints → List ℕ → Result Footer ServeError → Type 0
FooterCause hints file (Ok footer) = vx_grammar file hints.dtype ≡ Ok footer.content
FooterCause hints file (Err (errors.Open e)) = vx_grammar file hints.dtype ≡ Err e
FooterCause hints file (Err (errors.Fault fault)) = ⊥
FooterCause hints file (Err errors.CacheFault) = ⊥
FooterCause hints file (Err errors.OutOfMemory) = Unit {0}
