-- Answers without their bytes, which are matched in their place.
use Rattle.std.specs.Prelude.{ℕ, length, Option, Some, None, Ok, Err, Result}
use Rattle.vx_base.specs.Buffer.{Buffer}
use Rattle.vx_base.specs.Asking.{mark_of_bytes}
use Rattle.vx_base.specs.declared.answer.RangeAnswer.{RangeAnswer}
use Rattle.vx_base.specs.declared.fault.Failed.{Failed}
use Rattle.vx_base.specs.declared.fault.FaultKind.{FaultKind}
use Rattle.vx_base.specs.declared.fault.FaultKind.TheVariants.{ReadFault, MissingRange}

-- how many bytes a result has
abbrev pub count_in : Result Buffer Failed → Result ℕ Failed
count_in (Ok buffer) = Ok (length buffer.bytes)
count_in (Err e) = Err e

-- an answer without its bytes
abbrev pub outline_of : RangeAnswer Buffer → RangeAnswer ℕ
outline_of answer = record { request = answer.request; result = count_in answer.result }

-- what a count of bytes says of a range of this length
abbrev pub mark_of_count : ℕ → Result ℕ Failed → Option FaultKind
mark_of_count size (Ok count) = mark_of_bytes size count
mark_of_count size (Err _) = Some ReadFault

-- what an outline says of a range of this length
abbrev pub mark_of_outline : ℕ → Option (RangeAnswer ℕ) → Option FaultKind
mark_of_outline size None = Some MissingRange
mark_of_outline size (Some o) = mark_of_count size o.result
