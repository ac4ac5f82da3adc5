-- What a reader is asked.
use Rattle.std.specs.Prelude.{◌≡◌, ℕ, ◌+◌, ◌≤◌, true, List, [], ◌∷◌, length, Option, Some, None, Result, Ok, Err, IsOk, IfOk, IfErr}
use Rattle.vx_base.specs.Buffer.{Buffer, bytes_at}
use Rattle.vx_base.specs.Counts.{Rises}
use Rattle.vx_base.specs.Readers.{ReaderState}
use Rattle.vx_base.specs.declared.answer.ReadAtRequest.{ReadAtRequest}
use Rattle.vx_base.specs.declared.fault.FaultKind.{FaultKind}
use Rattle.vx_sched.specs.declared.fault.Fault.{Fault}
use Rattle.vx_sched.specs.declared.fault.Place.TheVariants.{Range}
use Rattle.vx_source.specs.Asks.{Grew}

-- the mark that what a read gave leaves
abbrev pub mark_of_read : Result Buffer Fault → Option FaultKind
mark_of_read (Ok buffer) = None
mark_of_read (Err fault) = Some fault.kind

abbrev pub faults_of : Result Buffer Fault → ℕ
faults_of (Ok buffer) = 0
faults_of (Err fault) = 1

-- a range was asked, and gave this
pub record ReadsRange (range : ReadAtRequest) (before now : ReaderState) (read : Result Buffer Fault) : Type 0 where
  pub log : Grew (record { range = range; mark = mark_of_read read } ∷ []) before.log now.log
  pub rises : Rises (faults_of read) before.faults now.faults
  pub size : IfOk read (λ buffer. length buffer.bytes ≡ range.length)
  pub slice : IfOk read (λ buffer. (file : List ℕ) → before.bytes ≡ Some file → buffer.bytes ≡ bytes_at file range.offset range.length)
  pub place : IfErr read (λ fault. fault.place ≡ Range range.offset range.length)
  pub sound : (file : List ℕ) → before.never_fails ≡ true → before.bytes ≡ Some file → range.offset + range.length ≤ length file → IsOk read
