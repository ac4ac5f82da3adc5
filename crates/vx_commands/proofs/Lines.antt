-- The lines of a text.
use Rattle.std.proofs.Common.{◌≡◌, ℕ, ◌+◌, ◌<◌, Bool, true, false, List, [], ◌∷◌, ◌++◌, length, take, drop, refl, sym, ap, ◌∙◌, cond, nat_eq, add-one, append_assoc, arith, Some, None, Result, Ok, Err}
use Rattle.vx_commands.specs.Script.{line_length, lines_of, onto_first, with_front, with_step, steps_from, go_on, step_of}
use Rattle.vx_file.specs.declared.Step.{Step}

first_longer : (byte : ℕ) (rest : List ℕ) (n : ℕ) → lines_of rest ≡ take n rest ∷ lines_of (drop (n + 1) rest) → onto_first byte (lines_of rest) ≡ take (n + 1) (byte ∷ rest) ∷ lines_of (drop (n + 1 + 1) (byte ∷ rest))
first_longer byte rest n more = rw (more, add-one (n + 1), add-one n) refl

-- a text is its first line, and the lines behind that
pub lines_of-first : (byte : ℕ) (bytes : List ℕ) → lines_of (byte ∷ bytes) ≡ take (line_length (byte ∷ bytes)) (byte ∷ bytes) ∷ lines_of (drop (line_length (byte ∷ bytes) + 1) (byte ∷ bytes))
lines_of-first byte [] = elim (nat_eq byte 10) as (λ b. cond b ([] ∷ []) ((byte ∷ []) ∷ []) ≡ take (cond b 0 1) (byte ∷ []) ∷ lines_of (drop (cond b 0 1 + 1) (byte ∷ []))) [ true ↦ refl | false ↦ refl ]
lines_of-first byte (next ∷ bytes) =
    let rest = next ∷ bytes in
    let more : lines_of rest ≡ take (line_length rest) rest ∷ lines_of (drop (line_length rest + 1) rest) = lines_of-first next bytes in
    let P : Bool → Type 0 = λ b. cond b ([] ∷ lines_of rest) (onto_first byte (lines_of rest)) ≡ take (cond b 0 (line_length rest + 1)) (byte ∷ rest) ∷ lines_of (drop (cond b 0 (line_length rest + 1) + 1) (byte ∷ rest)) in
    elim (nat_eq byte 10) as P [ true ↦ refl | false ↦ first_longer byte rest (line_length rest) more ]

pub with_front-step : (front : List Step) (step : Step) (rest : Result (List Step) ℕ) → with_front front (with_step step rest) ≡ with_front (front ++ step ∷ []) rest
with_front-step front step (Ok steps) = ap Ok (sym (append_assoc front (step ∷ []) steps))
with_front-step front step (Err line) = refl

-- a text that is not empty is its first line, and the lines behind that
pub lines_of-split : (text : List ℕ) → 0 < length text → lines_of text ≡ take (line_length text) text ∷ lines_of (drop (line_length text + 1) text)
lines_of-split [] h = absurd (omega arith)
lines_of-split (byte ∷ bytes) h = lines_of-first byte bytes

-- a first line that is no step refuses the script
pub script-refused : (front : List Step) (line : ℕ) (rest : List ℕ) (script : Result (List Step) ℕ) → 0 < length rest → with_front front (steps_from (line + 1) (lines_of rest)) ≡ script → step_of (take (line_length rest) rest) ≡ None → script ≡ Err (line + 1)
script-refused front line rest script h told none =
    sym told ∙ ap (λ lines. with_front front (steps_from (line + 1) lines)) (lines_of-split rest h) ∙ ap (λ step. with_front front (go_on (line + 1) step (steps_from (line + 1 + 1) (lines_of (drop (line_length rest + 1) rest))))) none

-- a first line that is a step goes before the steps of the others
pub script-longer : (front : List Step) (line : ℕ) (rest : List ℕ) (script : Result (List Step) ℕ) (step : Step) → 0 < length rest → with_front front (steps_from (line + 1) (lines_of rest)) ≡ script → step_of (take (line_length rest) rest) ≡ Some step → with_front (front ++ step ∷ []) (steps_from (line + 1 + 1) (lines_of (drop (line_length rest + 1) rest))) ≡ script
script-longer front line rest script step h told some =
    let others = steps_from (line + 1 + 1) (lines_of (drop (line_length rest + 1) rest)) in
    sym (with_front-step front step others)
    ∙ sym (ap (λ step. with_front front (go_on (line + 1) step others)) some)
    ∙ sym (ap (λ lines. with_front front (steps_from (line + 1) lines)) (lines_of-split rest h))
    ∙ told
