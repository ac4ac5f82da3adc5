-- How answers of a reader are matched to the ranges that it was asked, and the log of both.
use Rattle.std.specs.Prelude.{◌≡◌, ℕ, ◌+◌, ◌≤◌, Bool, ◌&&◌, ◌==◌, ◌⊎◌, List, [], ◌∷◌, ◌++◌, length, map, find, count_by, Option, Some, None, is_some, Ok, Err, Result, if◌then◌else◌, refl}
use Rattle.std.specs.Option.{option_map}
use Rattle.std.proofs.Common.{ap}
use Rattle.vx_base.specs.Buffer.{Buffer, bytes_at}
use Rattle.vx_base.specs.declared.answer.ReadAtRequest.{ReadAtRequest}
use Rattle.vx_base.specs.declared.answer.RangeAnswer.{RangeAnswer}
pub use Rattle.vx_base.specs.declared.answer.Asked.{Asked}
use Rattle.vx_base.specs.declared.fault.Failed.{Failed}
use Rattle.vx_base.specs.declared.fault.FaultKind.{FaultKind}
use Rattle.vx_base.specs.declared.fault.FaultKind.TheVariants.{ReadFault, ShortRead, MissingRange}

-- all that a reader was asked, in order
abbrev pub Log : Type 0
Log = List Asked

-- the ranges of a log
abbrev pub ranges_of : Log → List ReadAtRequest
ranges_of log = map (λ a. a.range) log

-- how many ranges of a log got no bytes of their length
abbrev pub faulted : Log → ℕ
faulted log = count_by (λ a. is_some a.mark) log

-- a list without its first element that passes the test
abbrev pub without_first : {X : Type 0} → (X → Bool) → List X → List X
without_first test [] = []
without_first test (x ∷ rest) = if test x then rest else x ∷ without_first test rest

-- whether two ranges are one in offset, length and alignment
abbrev pub same_range : ReadAtRequest → ReadAtRequest → Bool
same_range a b = (a.offset == b.offset) && (a.length == b.length) && (a.alignment == b.alignment)

-- whether an answer names exactly this range
abbrev pub names : {B : Type 0} → ReadAtRequest → RangeAnswer B → Bool
names range answer = same_range range answer.request

-- the first answer that names a range
abbrev pub answer_to : {B : Type 0} → ReadAtRequest → List (RangeAnswer B) → Option (RangeAnswer B)
answer_to range answers = find (names range) answers

-- the answers without the first one that names a range
abbrev pub without_answer : {B : Type 0} → ReadAtRequest → List (RangeAnswer B) → List (RangeAnswer B)
without_answer range answers = without_first (names range) answers

-- what this many bytes say of a range of this length
abbrev pub mark_of_bytes : ℕ → ℕ → Option FaultKind
mark_of_bytes size count = if count == size then None else Some ShortRead

-- what a result says of a range of this length
abbrev pub mark_of_result : ℕ → Result Buffer Failed → Option FaultKind
mark_of_result size (Ok buffer) = mark_of_bytes size (length buffer.bytes)
mark_of_result size (Err _) = Some ReadFault

-- what the answer to a range of this length says of it
abbrev pub mark_of_answer : ℕ → Option (RangeAnswer Buffer) → Option FaultKind
mark_of_answer size None = Some MissingRange
mark_of_answer size (Some a) = mark_of_result size a.result

-- the mark of a range by the first answer that names it
abbrev pub mark_of : ReadAtRequest → List (RangeAnswer Buffer) → Option FaultKind
mark_of range answers = mark_of_answer range.length (answer_to range answers)

-- the ranges asked in one call, each marked by the first answer left that names it
abbrev pub logged : List ReadAtRequest → List (RangeAnswer Buffer) → Log
logged [] answers = []
logged (r ∷ rest) answers =
    record { range = r; mark = mark_of r answers } ∷ logged rest (without_answer r answers)

-- a log grew by the ranges of one call, with any marks, or stayed as it was
pub record GrewOrStayed (ranges : List ReadAtRequest) (before now : Option Log) : Type 0 where
  pub more : Log
  pub asked : (ranges_of more ≡ []) ⊎ (ranges_of more ≡ ranges)
  pub grew : now ≡ option_map (λ log. log ++ more) before

-- the range lies in the bytes
abbrev pub IsInside : List ℕ → ReadAtRequest → Type 0
IsInside bytes range = range.offset + range.length ≤ length bytes

-- where the answer has bytes of the length that it names, they are those of its range
abbrev pub IsTrueTo : List ℕ → RangeAnswer Buffer → Type 0
IsTrueTo bytes answer = (buffer : Buffer) → answer.result ≡ Ok buffer →
    length buffer.bytes ≡ answer.request.length →
    buffer.bytes ≡ bytes_at bytes answer.request.offset answer.request.length

-- the ranges of a log are those that were asked
pub ranges_of-logged : (asked : List ReadAtRequest) (answers : List (RangeAnswer Buffer)) → ranges_of (logged asked answers) ≡ asked
ranges_of-logged [] answers = refl
ranges_of-logged (r ∷ rest) answers = ap (λ rs. r ∷ rs) (ranges_of-logged rest (without_answer r answers))
