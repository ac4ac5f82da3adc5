-- Reads that lie in a range.
use Rattle.std.proofs.Common.{◌≡◌, ℕ, zero, suc, ◌<◌, ◌≤◌, List, [], ◌∷◌, length, get_or, None, arith}
use Rattle.std.proofs.lemmas.Bool.Decides.{nat_tests}
use Rattle.vx_sched.specs.Span.{end_of, outside, IsWithin, AllWithin}
use Rattle.vx_sched.specs.declared.request.ReadRequest.{ReadRequest}

-- where no read lies outside, each lies within
pub within-from_outside : (start end : ℕ) (reads : List ReadRequest) → outside start end reads ≡ None → AllWithin start end reads
within-from_outside start end [] h = tt
within-from_outside start end (r ∷ rest) h =
    let a : start ≤ r.offset = grind (arith, nat_tests) in
    let b : end_of r ≤ end = grind (arith, nat_tests) in
    let c : outside start end rest ≡ None = grind (arith, nat_tests) in
    (record { from = a; upto = b }, within-from_outside start end rest c)

-- the read at a place lies within
pub within-at : (start end : ℕ) (reads : List ReadRequest) (i : ℕ) (d : ReadRequest) → AllWithin start end reads → i < length reads → IsWithin start end (get_or reads i d)
within-at start end [] i d h l = absurd (omega arith)
within-at start end (r ∷ rest) zero d h l = h.0
within-at start end (r ∷ rest) (suc i) d h l = within-at start end rest i d h.1 (omega arith)
