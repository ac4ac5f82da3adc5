-- A reader in memory without mischief.
use Rattle.std.proofs.Common.{◌≡◌, ◌∙◌, ap, ◌++◌, ℕ, ◌+◌, Bool, true, false, nat_le, List, [], ◌∷◌, map, length, All, refl, arith, length-take, length-drop, None, Ok, Err, if◌then◌else◌}
use Rattle.std.proofs.lemmas.List.Elements.{recursion_from_All}
use Rattle.std.proofs.lemmas.Bool.Decides.{nat_tests}
use Rattle.std.specs.List.{AllByRecursion}
use Rattle.std.proofs.lemmas.List.{append-nil}
use Rattle.vx_base.specs.Asking.{IsInside, faulted, logged, same_range, mark_of, mark_of_result}
use Rattle.vx_base.specs.Buffer.{Buffer, bytes_at}
use Rattle.vx_base.specs.declared.answer.RangeAnswer.{RangeAnswer}
use Rattle.vx_base.specs.Mischiefs.{plain_answer, is_well_behaved, turn, answers_of}
use Rattle.vx_base.specs.Counts.{next_count}
use Rattle.vx_base.specs.Memory.{is_empty, is_failing}
use Rattle.vx_base.specs.declared.answer.ReadAtRequest.{ReadAtRequest}
use Rattle.vx_base.specs.declared.mischief.Mischief.{Mischief}

-- good behaviour is no mischief
pub well_behaved-nil : (mischief : List Mischief) → is_well_behaved mischief ≡ true → mischief ≡ []
well_behaved-nil [] h = refl
well_behaved-nil (m ∷ ms) h = cc

-- a range is the same as itself
pub same_range-refl : (r : ReadAtRequest) → same_range r r ≡ true
same_range-refl r = grind (arith, nat_tests)

-- the bytes of a range inside the bytes are as many as it asks
pub length-bytes_at : (b : List ℕ) (r : ReadAtRequest) → IsInside b r → length (bytes_at b r.offset r.length) ≡ r.length
length-bytes_at b r h = simp (length-take, length-drop) (omega arith)

-- a range inside the bytes passes its test
pub inside-test : (b : List ℕ) (r : ReadAtRequest) → IsInside b r → nat_le (r.offset + r.length) (length b) ≡ true
inside-test b r h = grind (arith, nat_tests)

-- a result of the right length has no mark
pub unmarked : (n : ℕ) (t : Bool) (buffer : Buffer) → t ≡ true → length buffer.bytes ≡ n → mark_of_result n (if t then Ok buffer else Err (record {})) ≡ None
unmarked n true buffer h e = grind (arith, nat_tests)
unmarked n false buffer h e = cc

-- a plain answer inside the bytes has no mark
pub plain-marked : (b : List ℕ) (r : ReadAtRequest) (rest : List ReadAtRequest) → IsInside b r → mark_of r (map (plain_answer b) (r ∷ rest)) ≡ None
plain-marked b r rest h =
    rw (same_range-refl r) (unmarked r.length _ (record { bytes = bytes_at b r.offset r.length; alignment = r.alignment }) (inside-test b r h) (length-bytes_at b r h))

-- plain answers inside the bytes leave no fault
pub plain-faulted : (b : List ℕ) (asked : List ReadAtRequest) → AllByRecursion (IsInside b) asked → faulted (logged asked (map (plain_answer b) asked)) ≡ 0
plain-faulted b [] h = refl
plain-faulted b (r ∷ rest) h =
    rw (plain-marked b r rest h.0, same_range-refl r) (plain-faulted b rest h.1)

-- without mischief each range gets its plain answer in the first turn
pub turn-prompt : (b : List ℕ) (place : ℕ) (asked : List ReadAtRequest) → turn false b [] place asked ≡ map (plain_answer b) asked
turn-prompt b place [] = refl
turn-prompt b place (r ∷ rest) = ap (λ rs. plain_answer b r ∷ rs) (turn-prompt b (next_count place) rest)

-- and none in the second
pub turn-late : (b : List ℕ) (place : ℕ) (asked : List ReadAtRequest) → turn true b [] place asked ≡ []
turn-late b place [] = refl
turn-late b place (r ∷ rest) = turn-late b (next_count place) rest

pub plain-answers : (b : List ℕ) (place : ℕ) (asked : List ReadAtRequest) → answers_of b [] place asked ≡ map (plain_answer b) asked
plain-answers b place asked =
    ap (λ rs. turn false b [] place asked ++ rs) (turn-late b place asked) ∙ append-nil (turn false b [] place asked) ∙ turn-prompt b place asked

-- a reader that behaves leaves no fault inside the bytes
pub well_behaved-faulted : (b : List ℕ) (mischief : List Mischief) (place : ℕ) (asked : List ReadAtRequest) (answers : List (RangeAnswer Buffer)) → is_well_behaved mischief ≡ true → All (IsInside b) asked → answers ≡ answers_of b mischief place asked → faulted (logged asked answers) ≡ 0
well_behaved-faulted b mischief place asked answers w inside are =
    rw (are ∙ ap (λ ms. answers_of b ms place asked) (well_behaved-nil mischief w) ∙ plain-answers b place asked) (plain-faulted b asked (recursion_from_All (IsInside b) asked inside))

-- where no place is given no call fails
pub empty_failing : (fail : List ℕ) (place : ℕ) → is_empty fail ≡ true → is_failing fail place ≡ false
empty_failing [] place h = refl
empty_failing (n ∷ ns) place h = cc
