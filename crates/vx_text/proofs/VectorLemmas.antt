-- The digits of sixteen bytes, which are looked up at once.
use Rattle.std.proofs.Common.{◌≡◌, ℕ, zero, suc, ◌+◌, ◌*◌, ◌/◌, ◌%◌, ◌^◌, ◌<◌, ◌≤◌, List, [], ◌∷◌, ◌++◌, map, length, take, drop, get_or, replicate, bit_and, refl, sym, ap, ◌∙◌, append_assoc, arith, w8, Fits}
use Rattle.std.proofs.lemmas.List.{get_or-map, length-map, ext_get_or}
use Rattle.std.proofs.lemmas.Nat.{and_le_r, and_mask}
use Rattle.std.proofs.lemmas.Simd.{Each1-all, Each1-weaker, Each1-zip2, Each2-splat, below_from_Fits, length-zip2, zip2_splat, length-chunk, chunk-drop, take_more_put_chunk, swz_l, SwzOk, SwzOk-from_below, length-swz_l, get_or-swz_l_below}
use lib.Lanes.{zip2, pick_l, Each1, chunk, put_chunk}
use Rattle.hex.specs.Hex.{encode_lower, encode_with, lower_digits}
use Rattle.vx_text.proofs.HexLemmas.{encode-append, encoded-long}

abbrev pub IsVector : List ℕ → Type 0
IsVector v = (length v ≡ 16) × Each1 (Fits w8) v

lane_fits : (v : List ℕ) (i : ℕ) → Each1 (Fits w8) v → get_or v i 0 < 256
lane_fits [] i h = omega arith
lane_fits (x ∷ xs) zero h = h.0.fits
lane_fits (x ∷ xs) (suc i) h = lane_fits xs i h.1

-- ---- halves of bytes

abbrev down : ℕ → ℕ → ℕ
down a b = a / 2 ^ b

pub high_ok : (v : List ℕ) → IsVector v → SwzOk w8 16 16 0 (zip2 down v (replicate 16 4))
high_ok v fits =
    let small = Each1-weaker (λ a. a < 256) (λ a. a / 16 < 16) (λ a h. omega arith) v (below_from_Fits w8 v fits.1) in
    SwzOk-from_below w8 16 1 16 0 (zip2 down v (replicate 16 4)) refl (omega (arith, length-zip2 down v (replicate 16 4) fits.0))
    (Each1-zip2 down (λ j. j < 16) v (replicate 16 4) (Each2-splat (λ a b. down a b < 16) v 16 4 small))

pub low_ok : (v : List ℕ) → IsVector v → SwzOk w8 16 16 0 (zip2 bit_and v (replicate 16 15))
low_ok v fits =
    let small = Each1-all (λ a. bit_and a 15 < 16) (λ a. omega (arith, and_le_r a 15)) v in
    SwzOk-from_below w8 16 1 16 0 (zip2 bit_and v (replicate 16 15)) refl (omega (arith, length-zip2 bit_and v (replicate 16 15) fits.0))
    (Each1-zip2 bit_and (λ j. j < 16) v (replicate 16 15) (Each2-splat (λ a b. bit_and a b < 16) v 16 15 small))

-- a table that is read at places below 16
looked_up : (t : List ℕ) (place read : ℕ → ℕ) (v js : List ℕ) → IsVector v → js ≡ map place v → ((x : ℕ) → x < 256 → place x < 16)
    → ((x : ℕ) → get_or t (place x) 0 ≡ read x) → swz_l w8 16 t 0 js ≡ map read v
looked_up t place read v js fits e small reads =
    let long : length js ≡ 16 = ap length e ∙ length-map v place ∙ fits.0 in
    ext_get_or 0 _ _ (length-swz_l w8 16 t 0 js ∙ long ∙ sym (length-map v read ∙ fits.0)) (λ i h.
    let lt : i < 16 = omega (arith, length-swz_l w8 16 t 0 js) in
    let within : i < length v = omega (arith, fits.0) in
    let is : get_or js i 0 ≡ place (get_or v i 0) = ap (λ l. get_or l i 0) e ∙ get_or-map place v i 0 0 within in
    let below : get_or js i 0 < 16 = omega (arith, small (get_or v i 0) (lane_fits v i fits.1)) in
    let here : 16 * ((0 + i) / 16) + get_or js i 0 ≡ get_or js i 0 = omega arith in
    get_or-swz_l_below w8 16 t 0 js i (omega arith) below
    ∙ ap (λ k. get_or t k 0) (here ∙ is)
    ∙ reads (get_or v i 0)
    ∙ sym (get_or-map read v i 0 0 within))

pub high_read : (v : List ℕ) → IsVector v → swz_l w8 16 lower_digits 0 (zip2 down v (replicate 16 4)) ≡ map (λ byte. get_or lower_digits (byte / 16) 0) v
high_read v fits =
    looked_up lower_digits (λ x. x / 16) (λ byte. get_or lower_digits (byte / 16) 0) v _ fits (zip2_splat down v 16 4 fits.0) (λ x h. omega arith) (λ x. refl)

pub low_read : (v : List ℕ) → IsVector v → swz_l w8 16 lower_digits 0 (zip2 bit_and v (replicate 16 15)) ≡ map (λ byte. get_or lower_digits (byte % 16) 0) v
low_read v fits =
    looked_up lower_digits (λ x. bit_and x 15) (λ byte. get_or lower_digits (byte % 16) 0) v _ fits (zip2_splat bit_and v 16 15 fits.0)
    (λ x h. omega (arith, and_le_r x 15)) (λ x. ap (λ k. get_or lower_digits k 0) (and_mask x 4))

-- ---- both digits of a byte beside one another

-- a statement of the lists of so many elements
abbrev Every : ℕ → (List ℕ → Type 0) → Type 0
Every zero P = P []
Every (suc n) P = (x : ℕ) → Every n (λ xs. P (x ∷ xs))

every-list : (n : ℕ) (P : List ℕ → Type 0) → Every n P → (v : List ℕ) → length v ≡ n → P v
every-list zero P h [] e = h
every-list zero P h (x ∷ xs) e = absurd (omega (arith, e))
every-list (suc n) P h [] e = absurd (omega (arith, e))
every-list (suc n) P h (x ∷ xs) e = every-list n (λ ys. P (x ∷ ys)) (h x) xs (omega (arith, e))

-- where the digits of each byte stand among the high digits and then the low ones
abbrev pub pairs : List ℕ
pairs = 0 ∷ 16 ∷ 1 ∷ 17 ∷ 2 ∷ 18 ∷ 3 ∷ 19 ∷ 4 ∷ 20 ∷ 5 ∷ 21 ∷ 6 ∷ 22 ∷ 7 ∷ 23 ∷ 8 ∷ 24 ∷ 9 ∷ 25 ∷ 10 ∷ 26 ∷ 11 ∷ 27 ∷ 12 ∷ 28 ∷ 13 ∷ 29 ∷ 14 ∷ 30 ∷ 15 ∷ 31 ∷ []

pub paired : (v high low : List ℕ) → length v ≡ 16 → high ≡ map (λ byte. get_or lower_digits (byte / 16) 0) v → low ≡ map (λ byte. get_or lower_digits (byte % 16) 0) v
    → pick_l 0 (high ++ low) pairs ≡ encode_lower v
unfolding encode_with
paired v high low long above below = rw (above, below) (every-list 16
    (λ v. pick_l 0 (map (λ byte. get_or lower_digits (byte / 16) 0) v ++ map (λ byte. get_or lower_digits (byte % 16) 0) v) pairs ≡ encode_lower v)
    (λ a b c d e f g h i j k l m n o p. refl) v long)

-- ---- the digits so far

-- so many bytes are spelled, and these digits follow those so far
abbrev pub AreSpelled : List ℕ → List ℕ → ℕ → Type 0
AreSpelled bytes digits at = take (2 * at) digits ++ encode_lower (drop at bytes) ≡ encode_lower bytes

pub sixteen-more : (bytes digits lanes : List ℕ) (at next place : ℕ) → next ≡ at + 16 → place ≡ 2 * at → next ≤ length bytes → length digits ≡ 2 * length bytes
    → lanes ≡ encode_lower (chunk at 16 bytes) → AreSpelled bytes digits at → AreSpelled bytes (put_chunk place digits lanes) next
sixteen-more bytes digits lanes at next place is twice room long lanes_are so_far =
    let front = length-chunk at 16 bytes (omega (arith, is, room)) in
    let wide : length lanes ≡ 32 = ap length lanes_are ∙ encoded-long lower_digits (chunk at 16 bytes) ∙ ap (λ n. 2 * n) front in
    let placed : take (2 * next) (put_chunk place digits lanes) ≡ take place digits ++ lanes =
    take_more_put_chunk place digits lanes (2 * next) (omega (arith, is, twice, wide)) (omega (arith, room, long)) in
    let split : encode_lower (drop at bytes) ≡ lanes ++ encode_lower (drop next bytes) =
    ap encode_lower (chunk-drop at 16 bytes) ∙ encode-append lower_digits (chunk at 16 bytes) (drop (at + 16) bytes)
    ∙ ap (λ l. l ++ encode_lower (drop (at + 16) bytes)) (sym lanes_are) ∙ ap (λ n. lanes ++ encode_lower (drop n bytes)) (sym is) in
    ap (λ t. t ++ encode_lower (drop next bytes)) placed
    ∙ append_assoc (take place digits) lanes (encode_lower (drop next bytes))
    ∙ ap (λ t. take place digits ++ t) (sym split)
    ∙ ap (λ n. take n digits ++ encode_lower (drop at bytes)) twice
    ∙ so_far
