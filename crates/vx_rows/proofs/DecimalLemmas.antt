-- Decimal numbers that were printed are read again.
use Rattle.std.proofs.Common.{◌≡◌, ℕ, ℤ, zero, suc, pos, negsuc, ◌+◌, ◌*◌, ◌-◌, ◌/◌, ◌%◌, ◌^◌, ◌<◌, Bool, true, false, cond, List, [], ◌∷◌, ◌++◌, Option, Some, None, refl, ap, ◌∙◌, arith}
use Rattle.std.specs.Prelude.{◌&&◌, ◌==◌, codes}
use Rattle.std.specs.List.{list_all}
use Rattle.std.specs.Fmt.{digits, digits_onto, digit_glyph, decimal, signed_decimal}
use Rattle.std.proofs.lemmas.Bool.Decides.{nat_tests}
use Rattle.vx_data.specs.declared.ptype.PType.{PType}
use Rattle.vx_data.specs.declared.ptype.PType.TheVariants.{U8, U16, U32, U64, I8, I16, I32, I64}
use Rattle.vx_data.specs.TextsRead.{after}
use Rattle.vx_rows.specs.Written.{is_within}
use Rattle.vx_rows.specs.ReadValues.{is_digit, digits_in, natural_in, number_in}
use Rattle.vx_rows.proofs.DigitLemmas.{next_digit}
use Rattle.vx_rows.proofs.ReadingLemmas.{is_other}

unfoldable pub tens : ℕ → ℕ
tens zero = 1
tens (suc k) = 10 * tens k

pub onto-append : (k n : ℕ) (acc t : List ℕ) → digits_onto k 10 false n acc ++ t ≡ digits_onto k 10 false n (acc ++ t)
onto-append zero n acc t = refl
onto-append (suc k) n acc t = step (n / 10 == 0) (onto-append k (n / 10) (digit_glyph false (n % 10) ∷ acc) t)
  where
    step : (b : Bool) → digits_onto k 10 false (n / 10) (digit_glyph false (n % 10) ∷ acc) ++ t ≡ digits_onto k 10 false (n / 10) (digit_glyph false (n % 10) ∷ acc ++ t)
        → cond b (digit_glyph false (n % 10) ∷ acc) (digits_onto k 10 false (n / 10) (digit_glyph false (n % 10) ∷ acc)) ++ t
        ≡ cond b (digit_glyph false (n % 10) ∷ acc ++ t) (digits_onto k 10 false (n / 10) (digit_glyph false (n % 10) ∷ acc ++ t))
    step true h = refl
    step false h = h

pub glyph : (d : ℕ) → d < 10 → digit_glyph false d ≡ 48 + d
glyph d h = grind (arith, nat_tests)

digit-test : (d : ℕ) → d < 10 → is_digit (48 + d) ≡ true
digit-test d h = grind (arith, nat_tests)

not-zero : (d : ℕ) → 0 < d → (48 + d == 48) ≡ false
not-zero d h = grind (arith, nat_tests)

one-digit : (d : ℕ) (t : List ℕ) → 0 < d → d < 10 → natural_in ((48 + d) ∷ t) ≡ Some (digits_in d t)
unfolding natural_in
one-digit d t some less =
    let e : 48 + d - 48 ≡ d = omega arith in
    rw (not-zero d some, digit-test d less, e) refl

more-digits : (n : ℕ) (t : List ℕ) → digits_in (n / 10) ((48 + n % 10) ∷ t) ≡ digits_in n t
more-digits n t =
    let e : 10 * (n / 10) + (48 + n % 10 - 48) ≡ n = omega arith in
    next_digit (n / 10) (48 + n % 10) t (digit-test (n % 10) (omega arith)) ∙ ap (λ m. digits_in m t) e

is-zero : (n : ℕ) → (n == 0) ≡ true → n ≡ 0
is-zero n h = grind (arith, nat_tests)

is-some : (n : ℕ) → (n == 0) ≡ false → 0 < n
is-some n h = grind (arith, nat_tests)

onto-read : (k n : ℕ) (acc : List ℕ) → 0 < n → n < tens k → natural_in (digits_onto k 10 false n acc) ≡ Some (digits_in n acc)
unfolding tens
onto-read zero n acc some less = absurd (omega (arith, some, less))
onto-read (suc k) n acc some less =
    step (n / 10 == 0) refl (λ more. onto-read k (n / 10) (digit_glyph false (n % 10) ∷ acc) more (omega (arith, less)))
  where
    last : digit_glyph false (n % 10) ≡ 48 + n % 10
    last = glyph (n % 10) (omega arith)

    step : (b : Bool) → (n / 10 == 0) ≡ b
        → (0 < n / 10 → natural_in (digits_onto k 10 false (n / 10) (digit_glyph false (n % 10) ∷ acc)) ≡ Some (digits_in (n / 10) (digit_glyph false (n % 10) ∷ acc)))
        → natural_in (cond b (digit_glyph false (n % 10) ∷ acc) (digits_onto k 10 false (n / 10) (digit_glyph false (n % 10) ∷ acc))) ≡ Some (digits_in n acc)
    step true e h =
        let small = is-zero (n / 10) e in
        let same : n % 10 ≡ n = omega (arith, small) in
        ap (λ c. natural_in (c ∷ acc)) (last ∙ ap (λ m. 48 + m) same) ∙ one-digit n acc some (omega (arith, small))
    step false e h = h (is-some (n / 10) e) ∙ ap (λ c. Some (digits_in (n / 10) (c ∷ acc))) last ∙ ap Some (more-digits n acc)

-- a text that goes on with no digit
abbrev pub EndsDigits : List ℕ → Type 0
EndsDigits t = (n : ℕ) → digits_in n t ≡ (n, t)

room : (n : ℕ) → n < 2 ^ 64 → n < tens 64
unfolding tens
room n h = omega (arith, h)

pub natural_again : (n : ℕ) (t : List ℕ) → n < 2 ^ 64 → EndsDigits t → natural_in (decimal n ++ t) ≡ Some (n, t)
unfolding digits natural_in
natural_again zero t less ends = refl
natural_again (suc n) t less ends =
    ap natural_in (onto-append 64 (suc n) [] t) ∙ onto-read 64 (suc n) t (omega arith) (room (suc n) less) ∙ ap Some (ends (suc n))

-- ---- the first byte

other-glyph : (c d : ℕ) → d < 10 → is_digit c ≡ false → (digit_glyph false d == c) ≡ false
other-glyph c d h n = grind (arith, nat_tests)

front-other : (c n : ℕ) (acc : List ℕ) → is_digit c ≡ false → after (c ∷ []) (digit_glyph false (n % 10) ∷ acc) ≡ None
front-other c n acc h = rw (other-glyph c (n % 10) (omega arith) h) refl

other-step : (f : List ℕ → Option (List ℕ)) (b : Bool) (x y : List ℕ) → f x ≡ None → f y ≡ None → f (cond b x y) ≡ None
other-step f true x y h k = h
other-step f false x y h k = k

onto-other : (c k n : ℕ) (acc : List ℕ) → is_digit c ≡ false → after (c ∷ []) acc ≡ None → after (c ∷ []) (digits_onto k 10 false n acc) ≡ None
onto-other c zero n acc h e = e
onto-other c (suc k) n acc h e =
    other-step (after (c ∷ [])) (n / 10 == 0) (digit_glyph false (n % 10) ∷ acc) (digits_onto k 10 false (n / 10) (digit_glyph false (n % 10) ∷ acc)) (front-other c n acc h)
    (onto-other c k (n / 10) (digit_glyph false (n % 10) ∷ acc) h (front-other c n acc h))

-- a number begins with a digit
pub decimal_other : (c n : ℕ) (t : List ℕ) → is_digit c ≡ false → after (c ∷ []) (decimal n ++ t) ≡ None
unfolding digits
decimal_other c n t h =
    ap (after (c ∷ [])) (onto-append 64 n [] t)
    ∙ other-step (after (c ∷ [])) (n / 10 == 0) (digit_glyph false (n % 10) ∷ t) (digits_onto 63 10 false (n / 10) (digit_glyph false (n % 10) ∷ t)) (front-other c n t h)
    (onto-other c 63 (n / 10) (digit_glyph false (n % 10) ∷ t) h (front-other c n t h))

-- ---- no line feed

both : (a b : Bool) → a ≡ true → b ≡ true → (a && b) ≡ true
both a b x y = rw (x, y) refl

glyph-line : (d : ℕ) → d < 10 → is_other (digit_glyph false d) ≡ true
glyph-line d h = grind (arith, nat_tests)

line-step : (b : Bool) (x y : List ℕ) → list_all is_other x ≡ true → list_all is_other y ≡ true → list_all is_other (cond b x y) ≡ true
line-step true x y h k = h
line-step false x y h k = k

onto-line : (k n : ℕ) (acc : List ℕ) → list_all is_other acc ≡ true → list_all is_other (digits_onto k 10 false n acc) ≡ true
onto-line zero n acc h = h
onto-line (suc k) n acc h =
    let more = both (is_other (digit_glyph false (n % 10))) _ (glyph-line (n % 10) (omega arith)) h in
    line-step (n / 10 == 0) (digit_glyph false (n % 10) ∷ acc) (digits_onto k 10 false (n / 10) (digit_glyph false (n % 10) ∷ acc)) more (onto-line k (n / 10) (digit_glyph false (n % 10) ∷ acc) more)

decimal-line : (n : ℕ) → list_all is_other (decimal n) ≡ true
unfolding digits
decimal-line n = onto-line 64 n [] refl

-- ---- integers

pub signed_line : (z : ℤ) → list_all is_other (signed_decimal z) ≡ true
signed_line (pos n) = decimal-line n
signed_line (negsuc n) = decimal-line (suc n)

pub small-above : (p : PType) (n : ℕ) → is_within p (pos n) ≡ true → n < 2 ^ 64
small-above U8 n h = grind (arith, nat_tests)
small-above U16 n h = grind (arith, nat_tests)
small-above U32 n h = grind (arith, nat_tests)
small-above U64 n h = grind (arith, nat_tests)
small-above I8 n h = grind (arith, nat_tests)
small-above I16 n h = grind (arith, nat_tests)
small-above I32 n h = grind (arith, nat_tests)
small-above I64 n h = grind (arith, nat_tests)

pub small-below : (p : PType) (n : ℕ) → is_within p (negsuc n) ≡ true → suc n < 2 ^ 64
small-below U8 n h = cc
small-below U16 n h = cc
small-below U32 n h = cc
small-below U64 n h = cc
small-below I8 n h = grind (arith, nat_tests)
small-below I16 n h = grind (arith, nat_tests)
small-below I32 n h = grind (arith, nat_tests)
small-below I64 n h = grind (arith, nat_tests)

pub number_again : (p : PType) (z : ℤ) (t : List ℕ) → is_within p z ≡ true → EndsDigits t → number_in p (signed_decimal z ++ t) ≡ Some (z, t)
number_again p (pos n) t h ends = rw (decimal_other 45 n t refl, natural_again n t (small-above p n h) ends, h) refl
number_again p (negsuc n) t h ends = rw (natural_again (suc n) t (small-below p n h) ends, h) refl

-- `~` is the first byte of no number
pub number_there : (z : ℤ) (t : List ℕ) → after (codes "~") (signed_decimal z ++ t) ≡ None
number_there (pos n) t = decimal_other 126 n t refl
number_there (negsuc n) t = refl
