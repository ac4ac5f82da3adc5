-- Matching by outlines is matching by answers.
use Rattle.std.proofs.Common.{◌≡◌, ℕ, suc, ◌+◌, ◌<◌, ◌≤◌, Bool, true, false, cond, not, List, [], ◌∷◌, ◌++◌, map, length, take, drop, find, position, remove, slice_index_or, slice_get, Option, Some, None, Ok, Err, refl, ap, sym, ◌∙◌, arith}
use Rattle.std.proofs.lemmas.Grind.{common_steps}
use Rattle.std.proofs.Math.Numerals.{one-add}
use Rattle.std.proofs.lemmas.Bool.Decides.{nat_tests}
use Rattle.std.proofs.lemmas.Option.{slice_get_read, slice_get_past}
use Rattle.std.proofs.lemmas.List.Folds.{find_at}
use Rattle.std.specs.Option.{option_map}
use Rattle.std.specs.List.{position_or_len}
use Rattle.vx_base.specs.Asking.{Log, logged, faulted, names, answer_to, without_first, without_answer, mark_of, mark_of_answer, mark_of_result}
use Rattle.vx_base.specs.Outlines.{outline_of, mark_of_outline}
use Rattle.vx_base.specs.declared.answer.ReadAtRequest.{ReadAtRequest}
use Rattle.vx_base.specs.declared.answer.RangeAnswer.{RangeAnswer}
use Rattle.vx_base.specs.Buffer.{Buffer}

-- the list without the first that passes is the list with the first place removed
pub without_first-at : {X : Type 0} (p : X → Bool) (xs : List X) → without_first p xs ≡ take (position_or_len p xs) xs ++ drop (suc (position_or_len p xs)) xs
without_first-at p [] = refl
without_first-at p (x ∷ xs) = at (p x) (position_or_len p xs) (without_first-at p xs)
  where
    at : (b : Bool) (n : ℕ) → without_first p xs ≡ take n xs ++ drop (suc n) xs → cond b xs (x ∷ without_first p xs) ≡ take (cond (not b) (1 + n) 0) (x ∷ xs) ++ drop (suc (cond (not b) (1 + n) 0)) (x ∷ xs)
    at true n h = refl
    at false n h = rw one-add (ap (λ ys. x ∷ ys) h)

-- where the first that passes has a place, it is this
pub place-is : {X : Type 0} (p : X → Bool) (xs : List X) (i : ℕ) → position p xs ≡ Some i → (position_or_len p xs ≡ i) × (i < length xs)
place-is p xs i h = grind (arith, nat_tests)

-- where the first that passes has a place, it stands there
pub place-found : {X : Type 0} (p : X → Bool) (xs : List X) (i : ℕ) (x : X) → position p xs ≡ Some i → x ≡ slice_index_or xs i x → Some x ≡ find p xs
place-found p xs i x h e =
    let k = place-is p xs i h in
    let g = slice_get_read xs (length xs) i x refl k.1 e in
    sym (find_at p xs ∙ ap (slice_get xs) k.0 ∙ g)

pub place-left : {X : Type 0} (p : X → Bool) (xs : List X) (i : ℕ) → position p xs ≡ Some i → remove xs i ≡ without_first p xs
place-left p xs i h =
    let k = place-is p xs i h in
    sym (without_first-at p xs ∙ ap (λ n. take n xs ++ drop (suc n) xs) k.0)

-- where none passes there is no place
pub no_place-is : {X : Type 0} (p : X → Bool) (xs : List X) → position p xs ≡ None → length xs ≤ position_or_len p xs
no_place-is p xs h = grind (arith, nat_tests)

pub no_place-found : {X : Type 0} (p : X → Bool) (xs : List X) → position p xs ≡ None → None ≡ find p xs
no_place-found p xs h = sym (find_at p xs ∙ slice_get_past xs (position_or_len p xs) (no_place-is p xs h))

pub no_place-left : {X : Type 0} (p : X → Bool) (xs : List X) → position p xs ≡ None → xs ≡ without_first p xs
no_place-left p xs h =
    let k = no_place-is p xs h in
    let f = without_first-at p xs in
    grind (arith, common_steps)

-- the first of a mapped list
pub find-map : {X Y : Type 0} (p : Y → Bool) (f : X → Y) (xs : List X) → find p (map f xs) ≡ option_map f (find (λ x. p (f x)) xs)
find-map p f [] = refl
find-map p f (x ∷ xs) = at (p (f x)) (find-map p f xs)
  where
    at : (b : Bool) → find p (map f xs) ≡ option_map f (find (λ x. p (f x)) xs) → cond b (Some (f x)) (find p (map f xs)) ≡ option_map f (cond b (Some x) (find (λ x. p (f x)) xs))
    at true h = refl
    at false h = h

-- a mapped list without its first
pub without_first-map : {X Y : Type 0} (p : Y → Bool) (f : X → Y) (xs : List X) → without_first p (map f xs) ≡ map f (without_first (λ x. p (f x)) xs)
without_first-map p f [] = refl
without_first-map p f (x ∷ xs) = at (p (f x)) (without_first-map p f xs)
  where
    at : (b : Bool) → without_first p (map f xs) ≡ map f (without_first (λ x. p (f x)) xs) → cond b (map f xs) (f x ∷ without_first p (map f xs)) ≡ map f (cond b xs (x ∷ without_first (λ x. p (f x)) xs))
    at true h = refl
    at false h = ap (λ ys. f x ∷ ys) h

-- the mark of an outline is that of its answer
pub mark_of_outline-map : (size : ℕ) (found : Option (RangeAnswer Buffer)) → mark_of_outline size (option_map outline_of found) ≡ mark_of_answer size found
mark_of_outline-map size None = refl
mark_of_outline-map size (Some a) = elim (a.result) as (λ r. mark_of_outline size (option_map outline_of (Some (record a { result = r }))) ≡ mark_of_answer size (Some (record a { result = r }))) [ Ok b ↦ refl | Err e ↦ refl ]

-- the log of ranges by outlines
abbrev pub logged_outlines : List ReadAtRequest → List (RangeAnswer ℕ) → Log
logged_outlines [] left = []
logged_outlines (r ∷ rest) left =
    record { range = r; mark = mark_of_outline r.length (find (names r) left) } ∷ logged_outlines rest (without_first (names r) left)

-- it is the log by answers
pub logged_outlines-map : (asked : List ReadAtRequest) (answers : List (RangeAnswer Buffer)) → logged_outlines asked (map outline_of answers) ≡ logged asked answers
logged_outlines-map [] answers = refl
logged_outlines-map (r ∷ rest) answers =
    let found = find-map (names r) outline_of answers in
    let marks : mark_of_outline r.length (find (names r) (map outline_of answers)) ≡ mark_of r answers = ap (mark_of_outline r.length) found ∙ mark_of_outline-map r.length (find (names r) answers) in
    let left = without_first-map (names r) outline_of answers in
    let others : logged_outlines rest (without_first (names r) (map outline_of answers)) ≡ logged rest (without_answer r answers) = ap (logged_outlines rest) left ∙ logged_outlines-map rest (without_answer r answers) in
    cc (marks, others)

-- a range whose answer comes first and is whole adds no fault
pub whole-step : (r : ReadAtRequest) (rest : List ReadAtRequest) (a : RangeAnswer Buffer) (others : List (RangeAnswer Buffer)) → names r a ≡ true → mark_of_result r.length a.result ≡ None
    → faulted (logged (r ∷ rest) (a ∷ others)) ≡ faulted (logged rest others)
whole-step r rest a others named whole =
    let found : answer_to r (a ∷ others) ≡ Some a = rw named refl in
    let left : without_answer r (a ∷ others) ≡ others = rw named refl in
    let mark : mark_of r (a ∷ others) ≡ None = ap (mark_of_answer r.length) found ∙ whole in
    rw (mark, left) refl
