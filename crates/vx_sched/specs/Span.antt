-- What contracts see of a span of reads.
use Rattle.std.specs.Prelude.{ℕ, ◌+◌, ◌≤◌, nat_lt, List, [], ◌∷◌, Option, Some, None, if◌then◌else◌}
use Rattle.vx_sched.specs.declared.request.ReadRequest.{ReadRequest}
use Rattle.vx_sched.specs.declared.span.RangeError.{RangeError}
use Rattle.vx_sched.specs.declared.span.RangeError.TheVariants.{RangeReversed, Precedes, Exceeds}

-- a range of a file, the alignment that its bytes claim, and the reads that it serves
pub record Span : Type 0 where
  pub start : ℕ
  pub end : ℕ
  pub alignment : ℕ
  pub reads : List ReadRequest

-- where a read ends
abbrev pub end_of : ReadRequest → ℕ
end_of r = r.offset + r.length

-- a read lies in a range
pub record IsWithin (start end : ℕ) (r : ReadRequest) : Type 0 where
  pub from : start ≤ r.offset
  pub upto : end_of r ≤ end

-- each read lies in a range
abbrev pub AllWithin : ℕ → ℕ → List ReadRequest → Type 0
AllWithin start end [] = Unit {0}
AllWithin start end (r ∷ rest) = IsWithin start end r × AllWithin start end rest

-- the first read that does not lie in a range, and how
abbrev pub outside : ℕ → ℕ → List ReadRequest → Option RangeError
outside start end [] = None
outside start end (r ∷ rest) =
    if nat_lt r.offset start then Some Precedes
    else if nat_lt end (end_of r) then Some Exceeds
    else outside start end rest

-- why a range cannot be a span of these reads, if it cannot
abbrev pub range_error : ℕ → ℕ → List ReadRequest → Option RangeError
range_error start end reads = if nat_lt end start then Some RangeReversed else outside start end reads
