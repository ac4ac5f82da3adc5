-- Decimal numbers.
use Rattle.std.proofs.Common.{◌≡◌, ℕ, zero, suc, pos, negsuc, ◌+◌, ◌*◌, ◌/◌, ◌-◌, ◌^◌, ◌<◌, ◌≤◌, Bool, true, false, cond, List, [], ◌∷◌, length, drop, Option, Some, None, refl, ap, sym, ◌∙◌, arith}
use Rattle.std.specs.Prelude.{nat_lt, nat_le, slice_index, ◌&&◌}
use Rattle.std.specs.Option.{option_map, option_and_then}
use Rattle.std.proofs.lemmas.Bool.Decides.{nat_tests}
use Rattle.std.proofs.Math.Nat.{pow-suc, pow-le-pow_right}
use Rattle.vx_data.specs.declared.ptype.PType.{PType}
use Rattle.vx_data.specs.declared.ptype.PType.TheVariants.{U8, U16, U32, U64, I8, I16, I32, I64}
use Rattle.vx_rows.specs.Columns.{is_signed}
use Rattle.vx_rows.specs.Written.{value_bits, is_within}
use Rattle.vx_rows.specs.ReadValues.{is_digit, digits_in, narrow, narrowed, below_zero, within_range}

pub next_digit : (n c : ℕ) (cs : List ℕ) → is_digit c ≡ true → digits_in n (c ∷ cs) ≡ digits_in (10 * n + (c - 48)) cs
unfolding digits_in
next_digit n c cs h = rw h refl

pub past_digits : (n c : ℕ) (cs : List ℕ) → is_digit c ≡ false → digits_in n (c ∷ cs) ≡ (n, c ∷ cs)
unfolding digits_in
past_digits n c cs h = rw h refl

pub no_digits : (n : ℕ) → digits_in n [] ≡ (n, [])
unfolding digits_in
no_digits n = refl

grown-step : (n m c : ℕ) (cs : List ℕ) (after : ℕ × List ℕ) (b : Bool) → n ≤ m → m ≤ after.0 → n ≤ (cond b after (n, c ∷ cs)).0
grown-step n m c cs after true h k = omega (arith, h, k)
grown-step n m c cs after false h k = omega arith

-- digits only make a number greater
pub grown : (n : ℕ) (t : List ℕ) → n ≤ (digits_in n t).0
unfolding digits_in
grown n [] = omega arith
grown n (c ∷ cs) = grown-step n (10 * n + (c - 48)) c cs (digits_in (10 * n + (c - 48)) cs) (is_digit c) (omega arith) (grown (10 * n + (c - 48)) cs)

too-great : (n : ℕ) → None ≡ narrow n → 2 ^ 64 ≤ n
too-great n h = grind (arith, nat_tests)

stays-great : (n : ℕ) (t : List ℕ) → 2 ^ 64 ≤ n → narrowed (n, t) ≡ None
stays-great n t h = grind (arith, nat_tests)

-- a number that is too great stays so
pub digits_fail : (n c : ℕ) (cs : List ℕ) → is_digit c ≡ true → None ≡ narrow (10 * n + (c - 48)) → narrowed (digits_in n (c ∷ cs)) ≡ None
digits_fail n c cs h great =
    let least = too-great (10 * n + (c - 48)) great in
    let most = grown (10 * n + (c - 48)) cs in
    ap narrowed (next_digit n c cs h) ∙ stays-great (digits_in (10 * n + (c - 48)) cs).0 (digits_in (10 * n + (c - 48)) cs).1 (omega (arith, least, most))

pub number_fits : (n : ℕ) (t : List ℕ) → n < 2 ^ 64 → narrowed (n, t) ≡ Some (n, t)
number_fits n t h = grind (arith, nat_tests)

-- behind the last digit
pub digits_end : (n : ℕ) (t : List ℕ) (total : ℕ × List ℕ) → n < 2 ^ 64 → digits_in n t ≡ (n, t) → digits_in n t ≡ total → Some (n, t) ≡ narrowed total
digits_end n t total h e is = sym (number_fits n t h) ∙ ap narrowed (sym e ∙ is)

pub digits_done : (n : ℕ) (t : List ℕ) (total : ℕ × List ℕ) → n < 2 ^ 64 → length t ≡ 0 → digits_in n t ≡ total → Some (n, t) ≡ narrowed total
digits_done n [] total h none is = digits_end n [] total h (no_digits n) is
digits_done n (c ∷ cs) total h none is = cc

pub ruleset digit_steps = (next_digit, past_digits, no_digits, digits_fail, digits_end)

-- ---- digits from a place on

pub digit_at : (t : List ℕ) (at n : ℕ) → at < length t → is_digit (slice_index t at) ≡ true → digits_in n (drop at t) ≡ digits_in (10 * n + (slice_index t at - 48)) (drop (at + 1) t)
digit_at [] at n l h = absurd (omega (arith, l))
digit_at (c ∷ cs) zero n l h = next_digit n c cs h
digit_at (c ∷ cs) (suc at) n l h =
    let e : suc at + 1 ≡ suc (at + 1) = omega arith in
    digit_at cs at n (omega (arith, l)) h ∙ ap (λ k. digits_in (10 * n + (slice_index cs at - 48)) (drop k (c ∷ cs))) (sym e)

pub no_digit_at : (t : List ℕ) (at n : ℕ) → at < length t → is_digit (slice_index t at) ≡ false → digits_in n (drop at t) ≡ (n, drop at t)
no_digit_at [] at n l h = absurd (omega (arith, l))
no_digit_at (c ∷ cs) zero n l h = past_digits n c cs h
no_digit_at (c ∷ cs) (suc at) n l h = no_digit_at cs at n (omega (arith, l)) h

-- so few digits are no number that is too great
pub few_digits : (at n : ℕ) → at < 18 → n < 10 ^ (at + 1) → n < 10 ^ 18
few_digits at n l h =
    let most : 10 ^ (at + 1) ≤ 10 ^ 18 = pow-le-pow_right {n = 10} (omega arith) {i = at + 1} {j = 18} (omega (arith, l)) in
    omega (arith, h, most)

-- a digit more
pub digit_more : (at n d : ℕ) → n < 10 ^ (at + 1) → d < 10 → 10 * n + d < 10 ^ (at + 1 + 1)
digit_more at n d h l =
    let e : at + 1 + 1 ≡ suc (at + 1) = omega arith in
    let power : 10 ^ suc (at + 1) ≡ 10 ^ (at + 1) * 10 = pow-suc 10 (at + 1) in
    rw e (omega (arith, h, l, power))

pub few_digits_end : (t : List ℕ) (at n : ℕ) (total : ℕ × List ℕ) → at < length t → at < 18 → n < 10 ^ (at + 1) → is_digit (slice_index t at) ≡ false → digits_in n (drop at t) ≡ total
    → Some (n, drop at t) ≡ narrowed total
few_digits_end t at n total l k h none is =
    let small = few_digits at n k h in
    digits_end n (drop at t) total (omega (arith, small)) (no_digit_at t at n l none) is

pub digit_less : (c : ℕ) → is_digit c ≡ true → c - 48 < 10
digit_less c h = grind (arith, nat_tests)

pub ruleset place_steps = (digit_at, few_digits, digit_more, few_digits_end, digit_less)

-- ---- numbers of a type

pub below_bits : (p : PType) (n : ℕ) → nat_le (n / 2 ^ (value_bits p - 1)) 1 ≡ nat_lt n (2 ^ value_bits p)
below_bits U8 n = grind (arith, nat_tests)
below_bits U16 n = grind (arith, nat_tests)
below_bits U32 n = grind (arith, nat_tests)
below_bits U64 n = grind (arith, nat_tests)
below_bits I8 n = grind (arith, nat_tests)
below_bits I16 n = grind (arith, nat_tests)
below_bits I32 n = grind (arith, nat_tests)
below_bits I64 n = grind (arith, nat_tests)

-- ---- integers that no type has

not-below : (p : PType) (n : ℕ) → 2 ^ 64 ≤ suc n → is_within p (negsuc n) ≡ false
not-below U8 n h = refl
not-below U16 n h = refl
not-below U32 n h = refl
not-below U64 n h = refl
not-below I8 n h = grind (arith, nat_tests)
not-below I16 n h = grind (arith, nat_tests)
not-below I32 n h = grind (arith, nat_tests)
not-below I64 n h = grind (arith, nat_tests)

not-above : (p : PType) (n : ℕ) → 2 ^ 64 ≤ n → is_within p (pos n) ≡ false
not-above U8 n h = grind (arith, nat_tests)
not-above U16 n h = grind (arith, nat_tests)
not-above U32 n h = grind (arith, nat_tests)
not-above U64 n h = grind (arith, nat_tests)
not-above I8 n h = grind (arith, nat_tests)
not-above I16 n h = grind (arith, nat_tests)
not-above I32 n h = grind (arith, nat_tests)
not-above I64 n h = grind (arith, nat_tests)

at-least : (n : ℕ) → nat_lt n (2 ^ 64) ≡ false → 2 ^ 64 ≤ n
at-least n h = grind (arith, nat_tests)

pub negative_narrowed : (p : PType) (o : Option (ℕ × List ℕ))
    → option_and_then (within_range p) (option_and_then below_zero (option_and_then narrowed o)) ≡ option_and_then (within_range p) (option_and_then below_zero o)
negative_narrowed p None = refl
negative_narrowed p (Some (zero, t)) = refl
negative_narrowed p (Some (suc n, t)) = step (nat_lt (suc n) (2 ^ 64)) refl
  where
    step : (b : Bool) → nat_lt (suc n) (2 ^ 64) ≡ b
        → option_and_then (within_range p) (option_and_then below_zero (cond b (Some (suc n, t)) None)) ≡ within_range p (negsuc n, t)
    step true h = refl
    step false h = sym (ap (λ b. cond b (Some (negsuc n, t)) None) (not-below p n (at-least (suc n) h)))

pub positive_narrowed : (p : PType) (o : Option (ℕ × List ℕ))
    → option_and_then (within_range p) (option_map (λ (x : ℕ × List ℕ). (pos x.0, x.1)) (option_and_then narrowed o)) ≡ option_and_then (within_range p) (option_map (λ (x : ℕ × List ℕ). (pos x.0, x.1)) o)
positive_narrowed p None = refl
positive_narrowed p (Some (n, t)) = step (nat_lt n (2 ^ 64)) refl
  where
    step : (b : Bool) → nat_lt n (2 ^ 64) ≡ b
        → option_and_then (within_range p) (option_map (λ (x : ℕ × List ℕ). (pos x.0, x.1)) (cond b (Some (n, t)) None)) ≡ within_range p (pos n, t)
    step true h = refl
    step false h = sym (ap (λ b. cond b (Some (pos n, t)) None) (not-above p n (at-least n h)))

-- the test of the range is made of the digits' number
pub negative_tested : (p : PType) (n : ℕ) (t : List ℕ) → 0 < n → option_and_then (within_range p) (below_zero (n, t)) ≡ cond (is_signed p && nat_lt (n - 1) (2 ^ value_bits p)) (Some (negsuc (n - 1), t)) None
negative_tested p zero t h = absurd (omega (arith, h))
negative_tested p (suc n) t h = let e : suc n - 1 ≡ n = omega arith in rw e refl

pub ruleset negative_steps = (negative_narrowed, negative_tested)
