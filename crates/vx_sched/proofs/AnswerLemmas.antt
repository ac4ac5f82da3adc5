-- What answers make of ranges.
use Rattle.std.proofs.Common.{◌≡◌, ℕ, ◌==◌, Bool, true, false, cond, List, [], ◌∷◌, length, Option, Some, None, Ok, Err, Result, refl, ap, sym, ◌∙◌, arith}
use Rattle.std.proofs.lemmas.Bool.Decides.{nat_tests}
use Rattle.std.specs.List.{AllByRecursion}
use Rattle.vx_base.specs.Buffer.{Buffer, bytes_at}
use Rattle.vx_base.specs.Asking.{logged, names, without_answer, answer_to, mark_of_answer, mark_of_result, IsTrueTo}
use Rattle.vx_base.specs.declared.answer.ReadAtRequest.{ReadAtRequest}
use Rattle.vx_base.specs.declared.answer.RangeAnswer.{RangeAnswer}
use Rattle.vx_base.specs.declared.fault.Failed.{Failed}
use Rattle.vx_sched.specs.declared.fault.Outcome.{Outcome}
use Rattle.vx_sched.specs.Outcomes.{outcome_of, outcome_of_result, mark_of_outcome, log_of, IsOutcomeOf, AreOutcomesOf, HasBytesOf, HaveBytesOf}

-- what the answers make of ranges, each by the first answer left that names it
abbrev pub outcomes_of : List ReadAtRequest → List (RangeAnswer Buffer) → List Outcome
outcomes_of [] answers = []
outcomes_of (r ∷ rest) answers = outcome_of r (answer_to r answers) ∷ outcomes_of rest (without_answer r answers)

-- the mark of an outcome is that of its answer
mark-outcome : (r : ReadAtRequest) (o : Option (RangeAnswer Buffer)) → mark_of_outcome (outcome_of r o) ≡ mark_of_answer r.length o
mark-outcome r None = refl
mark-outcome r (Some a) = at a.result
  where
    size : (b : Bool) (buffer : Buffer) → (length buffer.bytes == r.length) ≡ b → mark_of_outcome (outcome_of_result r (Ok buffer)) ≡ mark_of_result r.length (Ok buffer)
    size true buffer e = rw e refl
    size false buffer e = rw e refl

    at : (x : Result Buffer Failed) → mark_of_outcome (outcome_of_result r x) ≡ mark_of_result r.length x
    at (Ok buffer) = size (length buffer.bytes == r.length) buffer refl
    at (Err _) = refl

-- the log of outcomes is that of their answers
pub log_of-outcomes : (asked : List ReadAtRequest) (answers : List (RangeAnswer Buffer)) → log_of asked (outcomes_of asked answers) ≡ logged asked answers
log_of-outcomes [] answers = refl
log_of-outcomes (r ∷ rest) answers =
    let mark = mark-outcome r (answer_to r answers) in
    let others = log_of-outcomes rest (without_answer r answers) in
    cc (mark, others)

-- an outcome is that of its range
outcome-is : (r : ReadAtRequest) (o : Option (RangeAnswer Buffer)) → IsOutcomeOf r (outcome_of r o)
outcome-is r None = refl
outcome-is r (Some a) = at a.result
  where
    size : (b : Bool) (buffer : Buffer) → (length buffer.bytes == r.length) ≡ b → IsOutcomeOf r (outcome_of_result r (Ok buffer))
    size true buffer e = let same : length buffer.bytes ≡ r.length = grind (arith, nat_tests) in rw e (same, refl)
    size false buffer e = rw e refl

    at : (x : Result Buffer Failed) → IsOutcomeOf r (outcome_of_result r x)
    at (Ok buffer) = size (length buffer.bytes == r.length) buffer refl
    at (Err _) = refl

pub outcomes-are : (asked : List ReadAtRequest) (answers : List (RangeAnswer Buffer)) → AreOutcomesOf asked (outcomes_of asked answers)
outcomes-are [] answers = tt
outcomes-are (r ∷ rest) answers = (outcome-is r (answer_to r answers), outcomes-are rest (without_answer r answers))

-- the bytes of an answer that names a range are those of the range
outcome-bytes : (b : List ℕ) (r : ReadAtRequest) (a : RangeAnswer Buffer) → names r a ≡ true → IsTrueTo b a → HasBytesOf b r (outcome_of r (Some a))
outcome-bytes b r a n t = at a.result refl
  where
    size : (w : Bool) (buffer : Buffer) → (length buffer.bytes == r.length) ≡ w → a.result ≡ Ok buffer → HasBytesOf b r (outcome_of_result r (Ok buffer))
    size true buffer e h =
        let same : length buffer.bytes ≡ r.length = grind (arith, nat_tests) in
        let offset : a.request.offset ≡ r.offset = grind (arith, nat_tests) in
        let size : a.request.length ≡ r.length = grind (arith, nat_tests) in
        let held = t buffer h (same ∙ sym size) in
        rw e (held ∙ ap (λ o. bytes_at b o a.request.length) offset ∙ ap (λ l. bytes_at b r.offset l) size)
    size false buffer e h = rw e tt

    at : (x : Result Buffer Failed) → a.result ≡ x → HasBytesOf b r (outcome_of_result r x)
    at (Ok buffer) h = size (length buffer.bytes == r.length) buffer refl h
    at (Err _) h = tt

-- the first answer that names a range, among answers that are true
found-bytes : (b : List ℕ) (r : ReadAtRequest) (answers : List (RangeAnswer Buffer)) → AllByRecursion (IsTrueTo b) answers → HasBytesOf b r (outcome_of r (answer_to r answers))
found-bytes b r [] t = tt
found-bytes b r (a ∷ rest) t = at (names r a) refl (found-bytes b r rest t.1)
  where
    at : (w : Bool) → names r a ≡ w → HasBytesOf b r (outcome_of r (answer_to r rest)) → HasBytesOf b r (outcome_of r (cond w (Some a) (answer_to r rest)))
    at true e h = outcome-bytes b r a e t.0
    at false e h = h

-- the answers that are left are true
left-true : (b : List ℕ) (r : ReadAtRequest) (answers : List (RangeAnswer Buffer)) → AllByRecursion (IsTrueTo b) answers → AllByRecursion (IsTrueTo b) (without_answer r answers)
left-true b r [] t = tt
left-true b r (a ∷ rest) t = at (names r a) (left-true b r rest t.1)
  where
    at : (w : Bool) → AllByRecursion (IsTrueTo b) (without_answer r rest) → AllByRecursion (IsTrueTo b) (cond w rest (a ∷ without_answer r rest))
    at true h = t.1
    at false h = (t.0, h)

pub outcomes-bytes : (b : List ℕ) (asked : List ReadAtRequest) (answers : List (RangeAnswer Buffer)) → AllByRecursion (IsTrueTo b) answers → HaveBytesOf b asked (outcomes_of asked answers)
outcomes-bytes b [] answers t = tt
outcomes-bytes b (r ∷ rest) answers t = (found-bytes b r answers t, outcomes-bytes b rest (without_answer r answers) (left-true b r answers t))
