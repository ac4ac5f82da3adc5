-- Hex text, digit by digit and piece by piece.
use Rattle.std.proofs.Common.{◌≡◌, ℕ, zero, suc, ◌+◌, ◌-◌, ◌*◌, ◌<◌, ◌≤◌, arith, List, [], ◌∷◌, ◌++◌, length, refl, sym, ap, subst, ◌∙◌, append_assoc}
use Rattle.std.proofs.lemmas.List.{append-nil}
use Rattle.std.specs.Prelude.{slice_index, ◌/◌, ◌%◌}
use Rattle.hex.specs.Hex.{encode_with, encode_lower, lower_digits}
use Rattle.vx_base.specs.Streams.{SinkState}
use Rattle.vx_text.specs.Text.{TextState, Adds, Holds}
use Rattle.vx_text.proofs.TextLemmas.{adds_then, adds_nothing, adds_put, holds_then}

-- ---- digits

pub digit_low : (n : ℕ) → n < 10 → 48 + n ≡ slice_index lower_digits n
digit_low zero h = refl
digit_low (suc zero) h = refl
digit_low (suc (suc zero)) h = refl
digit_low (suc (suc (suc zero))) h = refl
digit_low (suc (suc (suc (suc zero)))) h = refl
digit_low (suc (suc (suc (suc (suc zero))))) h = refl
digit_low (suc (suc (suc (suc (suc (suc zero)))))) h = refl
digit_low (suc (suc (suc (suc (suc (suc (suc zero))))))) h = refl
digit_low (suc (suc (suc (suc (suc (suc (suc (suc zero)))))))) h = refl
digit_low (suc (suc (suc (suc (suc (suc (suc (suc (suc zero))))))))) h = refl
digit_low (suc (suc (suc (suc (suc (suc (suc (suc (suc (suc n)))))))))) h = absurd (omega (arith, h))

pub digit_high : (n : ℕ) → 10 ≤ n → n < 16 → 87 + n ≡ slice_index lower_digits n
digit_high n l h = let e : n ≡ 10 + (n - 10) = omega (arith, l) in subst (λ k. 87 + k ≡ slice_index lower_digits k) (sym e) (letter (n - 10) (omega (arith, l, h)))
  where
    letter : (k : ℕ) → k < 6 → 87 + (10 + k) ≡ slice_index lower_digits (10 + k)
    letter zero h = refl
    letter (suc zero) h = refl
    letter (suc (suc zero)) h = refl
    letter (suc (suc (suc zero))) h = refl
    letter (suc (suc (suc (suc zero)))) h = refl
    letter (suc (suc (suc (suc (suc zero))))) h = refl
    letter (suc (suc (suc (suc (suc (suc k)))))) h = absurd (omega (arith, h))

pub ruleset lower_digit_is = (digit_low, digit_high)

-- ---- pieces

pub encode-append : (t xs ys : List ℕ) → encode_with t (xs ++ ys) ≡ encode_with t xs ++ encode_with t ys
unfolding encode_with
encode-append t [] ys = refl
encode-append t (x ∷ xs) ys = ap (λ r. slice_index t (x / 16) ∷ slice_index t (x % 16) ∷ r) (encode-append t xs ys)

pub encoded-long : (t xs : List ℕ) → length (encode_with t xs) ≡ 2 * length xs
unfolding encode_with
encoded-long t [] = refl
encoded-long t (x ∷ xs) = ap (λ n. suc (suc n)) (encoded-long t xs) ∙ omega arith

encode-none : (t : List ℕ) → encode_with t [] ≡ []
unfolding encode_with
encode-none t = refl

-- the digits of a byte
pub pair-of : (byte : ℕ) → encode_lower (byte ∷ []) ≡ slice_index lower_digits (byte / 16) ∷ slice_index lower_digits (byte % 16) ∷ []
unfolding encode_with
pair-of byte = refl

-- the digits of a front of the bytes were put
pub record PutSoFar (bytes rest : List ℕ) (w w_now : TextState) : Type 0 where
  pub front : List ℕ
  pub whole : front ++ rest ≡ bytes
  pub holds : Holds (encode_lower front) w w_now

pub put-none : (bytes : List ℕ) (w : TextState) → PutSoFar bytes bytes w w
put-none bytes w = record {
  front = [];
  whole = refl;
  holds = record { held = sym (ap (λ d. w.held ++ d) (encode-none lower_digits) ∙ append-nil w.held); failure = refl };
}

pub put-more : (bytes piece rest rest' : List ℕ) (w w1 w2 : TextState) → rest ≡ piece ++ rest' → PutSoFar bytes rest w w1 → Holds (encode_lower piece) w1 w2 → PutSoFar bytes rest' w w2
put-more bytes piece rest rest' w w1 w2 split h k = record {
  front = h.front ++ piece;
  whole = append_assoc h.front piece rest' ∙ ap (λ r. h.front ++ r) (sym split) ∙ h.whole;
  holds = subst (λ b. Holds b w w2) (sym (encode-append lower_digits h.front piece)) (holds_then h.holds k);
}

pub put-all : (bytes rest : List ℕ) (w w1 : TextState) → rest ≡ [] → PutSoFar bytes rest w w1 → Holds (encode_lower bytes) w w1
put-all bytes rest w w1 none h =
    subst (λ b. Holds (encode_lower b) w w1) (sym (append-nil h.front) ∙ ap (λ r. h.front ++ r) (sym none) ∙ h.whole) h.holds

-- the digits of a front of the bytes were added
pub record Spelled (bytes rest : List ℕ) (w : TextState) (s : SinkState) (w_now : TextState) (now : SinkState) : Type 0 where
  pub front : List ℕ
  pub whole : front ++ rest ≡ bytes
  pub adds : Adds (encode_lower front) w s w_now now

pub spelled-none : (bytes : List ℕ) (w : TextState) (s : SinkState) → Spelled bytes bytes w s w s
spelled-none bytes w s = record { front = []; whole = refl; adds = subst (λ b. Adds b w s w s) (sym (encode-none lower_digits)) (adds_nothing w s) }

pub spelled-more : (bytes piece rest rest' : List ℕ) (w w1 w2 w3 : TextState) (s s1 s2 : SinkState) → rest ≡ piece ++ rest' → Spelled bytes rest w s w1 s1 → Adds [] w1 s1 w2 s2 → Holds (encode_lower piece) w2 w3 → Spelled bytes rest' w s w3 s2
spelled-more bytes piece rest rest' w w1 w2 w3 s s1 s2 split h k l = record {
  front = h.front ++ piece;
  whole = append_assoc h.front piece rest' ∙ ap (λ r. h.front ++ r) (sym split) ∙ h.whole;
  adds = subst (λ b. Adds b w s w3 s2) (sym (encode-append lower_digits h.front piece)) (adds_then h.adds (adds_put k l));
}

-- the digits of a piece were added behind them
pub spelled-behind : (bytes piece rest rest' : List ℕ) (w w1 w2 : TextState) (s s1 s2 : SinkState) → rest ≡ piece ++ rest' → Spelled bytes rest w s w1 s1 → Adds (encode_lower piece) w1 s1 w2 s2 → Spelled bytes rest' w s w2 s2
spelled-behind bytes piece rest rest' w w1 w2 s s1 s2 split h k = record {
  front = h.front ++ piece;
  whole = append_assoc h.front piece rest' ∙ ap (λ r. h.front ++ r) (sym split) ∙ h.whole;
  adds = subst (λ b. Adds b w s w2 s2) (sym (encode-append lower_digits h.front piece)) (adds_then h.adds k);
}

pub spelled-all : (bytes : List ℕ) (w w1 : TextState) (s s1 : SinkState) → Spelled bytes [] w s w1 s1 → Adds (encode_lower bytes) w s w1 s1
spelled-all bytes w w1 s s1 h = subst (λ b. Adds (encode_lower b) w s w1 s1) (sym (append-nil h.front) ∙ h.whole) h.adds
