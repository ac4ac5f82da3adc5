-- Bytes that stand for themselves in quoted text.
use Rattle.std.proofs.Common.{◌≡◌, ℕ, zero, suc, ◌-◌, ◌<◌, ◌&&◌, not, Bool, true, false, T, List, [], ◌∷◌, get_or, ap, refl, ◌∙◌, ◌++◌, ◌/◌, ◌%◌, ◌==◌, length, inl, inr, arith, eq-zero-or-pos}
use Rattle.std.specs.Prelude.{if◌then◌else◌}
use Rattle.std.proofs.lemmas.Grind.{flat_map-append}
use Rattle.std.specs.List.{flat_map, list_all}
use lib.Ieee.Fits.{and_l, and_r}
use Rattle.vx_data.specs.Texts.{quoted_byte, is_quote_plain, upper_hex_digit}
use Rattle.vx_print.specs.declared.words.TheConstants.{PLAIN}

-- where all of them do, the quoted text is the text
plain-bytes : (bytes : List ℕ) → list_all is_quote_plain bytes ≡ true → flat_map quoted_byte bytes ≡ bytes
plain-bytes [] h = refl
plain-bytes (byte ∷ bytes) h = by (is_quote_plain byte) refl h (plain-bytes bytes)
  where
    by : (b : Bool) → is_quote_plain byte ≡ b → (b && list_all is_quote_plain bytes) ≡ true → (list_all is_quote_plain bytes ≡ true → flat_map quoted_byte bytes ≡ bytes)
        → flat_map quoted_byte (byte ∷ bytes) ≡ byte ∷ bytes
    by false e k rest = cc
    by true e k rest =
        ap (λ b. (if b then byte ∷ [] else 37 ∷ upper_hex_digit (byte / 16) ∷ upper_hex_digit (byte % 16) ∷ []) ++ flat_map quoted_byte bytes) e ∙ ap (λ r. byte ∷ r) (rest k)

-- so of a front of which all do
pub plain-front : (front behind bytes : List ℕ) → bytes ≡ front ++ behind → list_all is_quote_plain front ≡ true → flat_map quoted_byte bytes ≡ front ++ flat_map quoted_byte behind
plain-front front behind bytes split h = ap (flat_map quoted_byte) split ∙ flat_map-append quoted_byte front behind ∙ ap (λ r. r ++ flat_map quoted_byte behind) (plain-bytes front h)

pub four_bytes : (bytes : List ℕ) → length bytes ≡ 4 → get_or bytes 0 0 ∷ get_or bytes 1 0 ∷ get_or bytes 2 0 ∷ get_or bytes 3 0 ∷ [] ≡ bytes
four_bytes [] h = absurd (omega (arith, h))
four_bytes (a ∷ []) h = absurd (omega (arith, h))
four_bytes (a ∷ b ∷ []) h = absurd (omega (arith, h))
four_bytes (a ∷ b ∷ c ∷ []) h = absurd (omega (arith, h))
four_bytes (a ∷ b ∷ c ∷ d ∷ []) h = refl
four_bytes (a ∷ b ∷ c ∷ d ∷ e ∷ bytes) h = absurd (omega (arith, h))

-- ---- the table

abbrev agree : Bool → Bool → Bool
agree true b = b
agree false b = not b

agreed : (a b : Bool) → T (agree a b) → a ≡ b
agreed true true t = refl
agreed true false t = absurd t
agreed false true t = absurd t
agreed false false t = refl

abbrev are_told : ℕ → Bool
are_told zero = true
are_told (suc b) = agree (get_or PLAIN b 0 == b) (is_quote_plain b) && are_told b

below : (n b : ℕ) → T (are_told n) → b < n → (get_or PLAIN b 0 == b) ≡ is_quote_plain b
below zero b t h = absurd (omega arith)
below (suc n) b t h =
    elim (eq-zero-or-pos (n - b)) [
      | inl z ↦ let e : b ≡ n = omega arith in rw e (agreed _ _ (and_l _ (are_told n) t))
      | inr g ↦ below n b (and_r _ (are_told n) t) (omega arith)
    ]

-- a byte stands at its place just where it stands for itself
pub plain_at : (b : ℕ) → b < 256 → (get_or PLAIN b 0 == b) ≡ is_quote_plain b
plain_at b h = below 256 b tt h
