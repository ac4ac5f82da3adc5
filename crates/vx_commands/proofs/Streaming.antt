-- Streams, turn by turn.
use Rattle.std.proofs.Common.{◌≡◌, ℕ, ◌+◌, ◌≤◌, List, [], ◌++◌, length, take, drop, Option, Some, Err, refl, sym, ap, ◌∙◌, arith, length-drop}
use Rattle.std.proofs.lemmas.List.{drop-drop, append-nil, take-append-drop}
use Rattle.std.proofs.Math.Seq.{take-add}
use Rattle.vx_base.specs.Counts.{Rises}
use Rattle.vx_base.specs.Streams.{SourceState}
use Rattle.vx_commands.specs.declared.input.InputError.{InputError}
use Rattle.vx_commands.specs.declared.input.InputError.TheVariants as errors
use Rattle.vx_commands.specs.Streams.{ReadToEnd, TooLong, InputCause}
use Rattle.vx_commands.specs.declared.input.TheConstants.{MOST_INPUT}

-- ---- input

-- the first k bytes of an input were read
abbrev pub Reading : List ℕ → Option (List ℕ) → List ℕ → ℕ → Type 0
Reading r rest text k = (rest ≡ Some (drop k r)) × (text ≡ take k r) × (k ≤ length r)

pub reading-turn : (r : List ℕ) (rest rest' : Option (List ℕ)) (text text' : List ℕ) (k k' n : ℕ) → Reading r rest text k
    → (n ≤ length (drop k r)) × (rest' ≡ Some (drop n (drop k r))) × (text' ≡ text ++ take n (drop k r)) → k' ≡ k + n → Reading r rest' text' k'
reading-turn r rest rest' text text' k k' n h t e = (
  t.1 ∙ ap Some (drop-drop n k r ∙ ap (λ m. drop m r) (sym e)),
  t.2 ∙ ap (λ x. x ++ take n (drop k r)) h.1 ∙ sym (take-add k n r) ∙ ap (λ m. take m r) (sym e),
  omega (arith, t.0, length-drop k r, h.2),
)

pub reading-ends : (r : List ℕ) (rest rest' : Option (List ℕ)) (text text' : List ℕ) (k k' n : ℕ) (now : SourceState) → Reading r rest text k
    → (n ≤ length (drop k r)) × (rest' ≡ Some (drop n (drop k r))) × (text' ≡ text ++ take n (drop k r)) → k' ≡ k + n → drop k r ≡ [] → k ≤ MOST_INPUT
    → now.rest ≡ rest' → (text' ≡ r) × ReadToEnd r now
reading-ends r rest rest' text text' k k' n now h t e none bound is =
    let all : take k r ≡ r = sym (append-nil (take k r)) ∙ sym (ap (λ x. take k r ++ x) none) ∙ take-append-drop k r in
    let nothing : n ≡ 0 = omega (arith, t.0, ap length none) in
    let size : length r ≡ k = omega (arith, length-drop k r, ap length none, h.2) in (
      t.2 ∙ ap (λ m. text ++ take m (drop k r)) nothing ∙ append-nil text ∙ h.1 ∙ all,
      record { ended = is ∙ t.1 ∙ ap (λ m. Some (drop m (drop k r))) nothing ∙ ap Some none; short = omega (arith, size) },
    )

pub reading-long : (r : List ℕ) (text : List ℕ) (k : ℕ) (now : SourceState) → Reading r now.rest text k → k ≡ MOST_INPUT + 1 → TooLong r now
reading-long r text k now h e = record { long = omega (arith, h.2); taken = h.0 ∙ ap (λ m. Some (drop m r)) e }

-- ---- faults of an input

pub rises-from : (start before now : ℕ) → start ≤ before → Rises 1 before now → Rises 1 start now
rises-from start before now le h = record { later = omega (arith, h.later); risen = omega (arith, h.risen) }

pub err-cause : {A : Type 0} (view : A → List ℕ) (before now : SourceState) (e : InputError) → (e ≡ errors.Failed → Rises 1 before.faults now.faults) → (e ≡ errors.TooLong → ⊥) → InputCause view before now (Err e)
err-cause view before now errors.Failed failed short = failed refl
err-cause view before now errors.TooLong failed short = absurd (short refl)
err-cause view before now errors.OutOfMemory failed short = tt
