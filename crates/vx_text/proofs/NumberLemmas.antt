-- The numbers that digits spell.
use Rattle.std.proofs.Common.{◌≡◌, ℕ, zero, suc, ◌+◌, ◌*◌, ◌-◌, ◌^◌, ◌<◌, ◌≤◌, Bool, true, false, cond, List, [], ◌∷◌, length, drop, drop-cons, get_or, Some, None, refl, ap, sym, ◌∙◌, arith}
use Rattle.std.specs.Prelude.{slice_index, ◌&&◌, ◌==◌, nat_lt}
use Rattle.std.specs.List.{list_all}
use Rattle.std.specs.Char.{is_ascii_digit}
use Rattle.std.proofs.lemmas.Bool.Decides.{nat_tests}
use Rattle.std.proofs.Math.Nat.{pow-suc, pow-le-pow_right}
use Rattle.std.proofs.lemmas.List.{drop_all}
use Rattle.std.proofs.lemmas.Grind.{common_steps}
use Rattle.vx_text.specs.Numbers.{value_after, number_of, is_plain}

-- digits only raise a number
pub value_after-least : (before : ℕ) (digits : List ℕ) → before ≤ value_after before digits
value_after-least before [] = omega arith
value_after-least before (digit ∷ digits) = omega (arith, value_after-least (10 * before + (digit - 48)) digits)

pub number_of-past : (text : List ℕ) → 2 ^ 64 ≤ value_after 0 text → number_of text ≡ None
unfolding number_of
number_of-past text h = grind (arith, common_steps)

pub number_of-is : (text : List ℕ) → is_plain text ≡ true → value_after 0 text < 2 ^ 64 → number_of text ≡ Some (value_after 0 text)
unfolding number_of
number_of-is text plain h = grind (arith, common_steps)

-- a number that grew past 64 bits is none
pub number_past_here : (text : List ℕ) (i value : ℕ) → i < length text → value_after value (drop i text) ≡ value_after 0 text → 2 ^ 64 ≤ 10 * value + (get_or text i 0 - 48) → number_of text ≡ None
number_past_here text i value h e past =
    let next = 10 * value + (get_or text i 0 - 48) in
    let split : drop i text ≡ get_or text i 0 ∷ drop (suc i) text = drop-cons text i 0 h in
    let grown : value_after next (drop (suc i) text) ≡ value_after 0 text = sym (ap (value_after value) split) ∙ e in
    number_of-past text (omega (arith, grown, value_after-least next (drop (suc i) text)))

-- with all digits read, the number is what they came to
pub number_whole : (text : List ℕ) (i value : ℕ) → is_plain text ≡ true → length text ≤ i → value_after value (drop i text) ≡ value_after 0 text → value < 2 ^ 64 → number_of text ≡ Some value
number_whole text i value plain all e h =
    let same : value ≡ value_after 0 text = rw (drop_all i text all) at e in
    number_of-is text plain (omega arith) ∙ ap Some (sym same)

pub digit_at : (t : List ℕ) (at n : ℕ) → at < length t → value_after n (drop at t) ≡ value_after (10 * n + (slice_index t at - 48)) (drop (at + 1) t)
digit_at [] at n l = absurd (omega (arith, l))
digit_at (c ∷ cs) zero n l = refl
digit_at (c ∷ cs) (suc at) n l =
    let e : suc at + 1 ≡ suc (at + 1) = omega arith in
    digit_at cs at n (omega (arith, l)) ∙ ap (λ k. value_after (10 * n + (slice_index cs at - 48)) (drop k (c ∷ cs))) (sym e)

pub test_at : (t : List ℕ) (at : ℕ) → at < length t → list_all is_ascii_digit (drop at t) ≡ (is_ascii_digit (slice_index t at) && list_all is_ascii_digit (drop (at + 1) t))
test_at [] at l = absurd (omega (arith, l))
test_at (c ∷ cs) zero l = refl
test_at (c ∷ cs) (suc at) l =
    let e : suc at + 1 ≡ suc (at + 1) = omega arith in
    test_at cs at (omega (arith, l)) ∙ ap (λ k. is_ascii_digit (slice_index cs at) && list_all is_ascii_digit (drop k (c ∷ cs))) (sym e)

pub digit_less : (c : ℕ) → is_ascii_digit c ≡ true → c - 48 < 10
digit_less c h = grind (arith, nat_tests)

pub few_value : (at n : ℕ) → at < 19 → n < 10 ^ at → n < 10 ^ 18
few_value at n l h =
    let most : 10 ^ at ≤ 10 ^ 18 = pow-le-pow_right {n = 10} (omega arith) {i = at} {j = 18} (omega (arith, l)) in
    omega (arith, h, most)

pub value_more : (at n d : ℕ) → n < 10 ^ at → d < 10 → 10 * n + d < 10 ^ (at + 1)
value_more at n d h l =
    let e : at + 1 ≡ suc at = omega arith in
    let power : 10 ^ suc at ≡ 10 ^ at * 10 = pow-suc 10 at in
    rw e (omega (arith, h, l, power))

all-below : (n : ℕ) (t : List ℕ) (i : ℕ) → list_all is_ascii_digit t ≡ true → n < 10 ^ i → value_after n t < 10 ^ (i + length t)
all-below n [] i h l = let z : i + 0 ≡ i = omega arith in rw z l
all-below n (c ∷ cs) i h l =
    let one : is_ascii_digit c ≡ true = and-left (is_ascii_digit c) (list_all is_ascii_digit cs) h in
    let rest : list_all is_ascii_digit cs ≡ true = and-right (is_ascii_digit c) (list_all is_ascii_digit cs) h in
    let e : i + 1 + length cs ≡ i + suc (length cs) = omega arith in
    rw (sym e) (all-below (10 * n + (c - 48)) cs (i + 1) rest (value_more i n (c - 48) l (digit_less c one)))
  where
    and-left : (a b : Bool) → (a && b) ≡ true → a ≡ true
    and-left true b h = refl
    and-left false b h = absurd cc

    and-right : (a b : Bool) → (a && b) ≡ true → b ≡ true
    and-right true b h = h
    and-right false b h = absurd cc

-- few bytes, of which the first is no zero, spell the value of their digits
pub few_spell : (text : List ℕ) → length text ≤ 19 → 0 < length text → (slice_index text 0 == 48) ≡ false
    → (cond (list_all is_ascii_digit text) (Some (value_after 0 text)) None) ≡ number_of text
unfolding number_of
few_spell [] few some first = absurd (omega (arith, some))
few_spell (c ∷ cs) few some first = by (list_all is_ascii_digit (c ∷ cs)) refl
  where
    by : (b : Bool) → list_all is_ascii_digit (c ∷ cs) ≡ b → cond b (Some (value_after 0 (c ∷ cs))) None ≡ number_of (c ∷ cs)
    by true h =
        let below = all-below 0 (c ∷ cs) 0 h (omega arith) in
        let most : 10 ^ (0 + length (c ∷ cs)) ≤ 10 ^ 19 = pow-le-pow_right {n = 10} (omega arith) {i = 0 + length (c ∷ cs)} {j = 19} (omega (arith, few)) in
        sym (number_of-is (c ∷ cs) (rw first h) (omega (arith, below, most)))
    by false h = rw (first, h) refl

pub zero_spells : (text : List ℕ) → length text ≡ 1 → (slice_index text 0 == 48) ≡ true → number_of text ≡ Some 0
unfolding number_of
zero_spells [] one first = absurd (omega (arith, one))
zero_spells (c ∷ []) one first =
    let is : c ≡ 48 = grind (arith, nat_tests) in
    rw is refl
zero_spells (c ∷ d ∷ cs) one first = absurd (omega (arith, one))

pub zero_behind : (text : List ℕ) → (length text == 1) ≡ false → 0 < length text → (slice_index text 0 == 48) ≡ true → number_of text ≡ None
unfolding number_of
zero_behind [] more some first = absurd (omega (arith, some))
zero_behind (c ∷ []) more some first = absurd cc
zero_behind (c ∷ d ∷ cs) more some first =
    let many : nat_lt (length (d ∷ cs)) 1 ≡ false = grind (arith, nat_tests) in
    rw (first, many) refl

pub nothing_spells : (text : List ℕ) → length text ≡ 0 → number_of text ≡ None
unfolding number_of
nothing_spells [] none = refl
nothing_spells (c ∷ cs) none = absurd (omega (arith, none))
