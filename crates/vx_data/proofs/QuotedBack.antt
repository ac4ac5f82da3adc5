-- Quoted text is read back, and what is read is spelled so.
use Rattle.std.proofs.Common.{◌≡◌, ℕ, zero, suc, ◌+◌, ◌-◌, ◌*◌, ◌/◌, ◌%◌, ◌<◌, ◌≤◌, Bool, true, false, cond, List, [], ◌∷◌, ◌++◌, length, take, drop, Option, Some, None, refl, sym, ap, subst, ◌∙◌, arith, append_assoc, length-append, inl, inr}
use Rattle.std.specs.Prelude.{◌==◌, ◌&&◌, ◌||◌, nat_lt, nat_le, if◌then◌else◌, codes}
use Rattle.std.specs.Option.{option_map, option_and_then}
use Rattle.std.specs.List.{flat_map}
use Rattle.std.specs.Str.{is_utf8, IsUtf8}
use Rattle.std.proofs.lemmas.Str.{IsUtf8-from_is_utf8, is_utf8-from_IsUtf8}
use Rattle.std.proofs.lemmas.Bool.Decides.{nat_tests}
use Rattle.std.proofs.lemmas.List.{take-append-drop}
use Rattle.std.proofs.lemmas.Option.{some_pair_parts}
use Rattle.std.proofs.Math.Seq.{take-append_seam, drop-append_seam}
use lib.Utf8.{encode, encodes, scalar, scalars, scalar_cases}
use Rattle.vx_data.specs.Texts.{is_quote_plain, upper_hex_digit, quoted_byte, quoted}
use Rattle.vx_data.specs.TextsRead.{digit_value, not_plain, escaped_byte, with_byte, unquoted_bytes, first_digit, second_digit, as_text, is_percent, unquoted, is_quote_byte, quote_length, quoted_in, after}

-- ---- the bytes of a text are below 256

abbrev Bytes : List ℕ → Type 0
Bytes [] = Unit {0}
Bytes (b ∷ bs) = (b < 256) × Bytes bs

cond_bytes : (b : Bool) (x y : List ℕ) → (b ≡ true → Bytes x) → (b ≡ false → Bytes y) → Bytes (cond b x y)
cond_bytes true x y f g = f refl
cond_bytes false x y f g = g refl

below : (c n : ℕ) → nat_lt c n ≡ true → c < n
below c n e = grind (arith, nat_tests)

tail_below : (n : ℕ) → 128 + n % 64 < 256
tail_below n = omega arith

encoded : (c : ℕ) → c < 1114112 → Bytes (encode c)
unfolding encode
encoded c lt =
    cond_bytes (nat_lt c 128) _ _ (λ e. let h : c < 128 = below c 128 e in (omega arith, tt)) (λ _.
    cond_bytes (nat_lt c 2048) _ _ (λ e. let h : c < 2048 = below c 2048 e in (omega arith, (tail_below c, tt))) (λ _.
    cond_bytes (nat_lt c 65536) _ _ (λ e. let h : c < 65536 = below c 65536 e in (omega arith, (tail_below (c / 64), (tail_below c, tt)))) (λ _.
    (omega arith, (tail_below (c / 4096), (tail_below (c / 64), (tail_below c, tt)))))))

joined : (x y : List ℕ) → Bytes x → Bytes y → Bytes (x ++ y)
joined [] y h k = k
joined (b ∷ bs) y h k = (h.0, joined bs y h.1 k)

both_true : (a b : Bool) → (a && b) ≡ true → (a ≡ true) × (b ≡ true)
both_true true b e = (refl, e)
both_true false b e = absurd cc

scalar_below : (c : ℕ) → scalar c ≡ true → c < 1114112
scalar_below c e = elim (scalar_cases c e) [ inl h ↦ omega arith | inr h ↦ h.1 ]

all_encoded : (cs : List ℕ) → scalars cs ≡ true → Bytes (encodes cs)
all_encoded [] e = tt
all_encoded (c ∷ cs) e =
    let parts : (scalar c ≡ true) × (scalars cs ≡ true) = both_true (scalar c) (scalars cs) e in
    joined (encode c) (encodes cs) (encoded c (scalar_below c parts.0)) (all_encoded cs parts.1)

text_bytes : (x : List ℕ) → is_utf8 x ≡ true → Bytes x
text_bytes x e =
    let u : IsUtf8 x = IsUtf8-from_is_utf8 x e in
    subst (λ (y : List ℕ). Bytes y) u.1.1 (all_encoded u.0 u.1.0)

-- ---- digits

digit_again : (n : ℕ) → n < 16 → digit_value (upper_hex_digit n) ≡ Some n
digit_again n lt = grind (arith, nat_tests)

digit_plain : (n : ℕ) → n < 16 → is_quote_plain (upper_hex_digit n) ≡ true
digit_plain n lt = grind (arith, nat_tests)

digit_spelled : (c n : ℕ) → digit_value c ≡ Some n → (upper_hex_digit n ≡ c) × (n < 16)
digit_spelled c n e = (grind (arith, nat_tests), grind (arith, nat_tests))

-- ---- bytes

byte_case : (plain : Bool) (b : ℕ) (t : List ℕ) → is_quote_plain b ≡ plain → b < 256
    → unquoted_bytes ((if plain then b ∷ [] else 37 ∷ upper_hex_digit (b / 16) ∷ upper_hex_digit (b % 16) ∷ []) ++ t) ≡ with_byte (Some b) (unquoted_bytes t)
unfolding unquoted_bytes first_digit second_digit
byte_case true b t e lt = rw e refl
byte_case false b t e lt =
    let high : digit_value (upper_hex_digit (b / 16)) ≡ Some (b / 16) = digit_again (b / 16) (omega arith) in
    let low : digit_value (upper_hex_digit (b % 16)) ≡ Some (b % 16) = digit_again (b % 16) (omega arith) in
    let again : 16 * (b / 16) + b % 16 ≡ b = omega arith in
    rw (high, low, again, e) refl

byte_again : (b : ℕ) (t : List ℕ) → b < 256 → unquoted_bytes (quoted_byte b ++ t) ≡ with_byte (Some b) (unquoted_bytes t)
byte_again b t lt = byte_case (is_quote_plain b) b t refl lt

nothing_again : unquoted_bytes [] ≡ Some []
unfolding unquoted_bytes
nothing_again = refl

bytes_again : (x : List ℕ) → Bytes x → unquoted_bytes (flat_map quoted_byte x) ≡ Some x
bytes_again [] h = nothing_again
bytes_again (b ∷ bs) h = byte_again b (flat_map quoted_byte bs) h.0 ∙ ap (λ (r : Option (List ℕ)). with_byte (Some b) r) (bytes_again bs h.1)

no_percent : (b : ℕ) → is_quote_plain b ≡ true → (b == 37) ≡ false
no_percent b e = grind (arith, nat_tests)

and_false : (a : Bool) → (a && false) ≡ false
and_false true = refl
and_false false = refl

not_one : (n : ℕ) → (suc (suc n) == 1) ≡ false
not_one n = grind (arith, nat_tests)

not_none : (n : ℕ) → (suc n == 0) ≡ false
not_none n = grind (arith, nat_tests)

percent_case : (plain : Bool) (b : ℕ) (t : List ℕ) → is_quote_plain b ≡ plain
    → is_percent ((if plain then b ∷ [] else 37 ∷ upper_hex_digit (b / 16) ∷ upper_hex_digit (b % 16) ∷ []) ++ t) ≡ false
percent_case true b t e = rw (no_percent b e, and_false) refl
percent_case false b t e = rw (not_one (suc (length t))) refl

length_case : (plain : Bool) (b : ℕ) (t : List ℕ)
    → (length ((if plain then b ∷ [] else 37 ∷ upper_hex_digit (b / 16) ∷ upper_hex_digit (b % 16) ∷ []) ++ t) == 0) ≡ false
length_case true b t = not_none (length t)
length_case false b t = not_none (suc (suc (length t)))

text_again : (x : List ℕ) → is_utf8 x ≡ true → as_text (Some x) ≡ Some x
text_again x e = rw e refl

pub quoted_again : (x : List ℕ) → is_utf8 x ≡ true → unquoted (quoted x) ≡ Some x
unfolding unquoted
quoted_again [] e = refl
quoted_again (b ∷ bs) e =
    let read : unquoted_bytes (flat_map quoted_byte (b ∷ bs)) ≡ Some (b ∷ bs) = bytes_again (b ∷ bs) (text_bytes (b ∷ bs) e) in
    let filled : (length (flat_map quoted_byte (b ∷ bs)) == 0) ≡ false = length_case (is_quote_plain b) b (flat_map quoted_byte bs) in
    let more : is_percent (flat_map quoted_byte (b ∷ bs)) ≡ false = percent_case (is_quote_plain b) b (flat_map quoted_byte bs) refl in
    rw (filled, more, read) (text_again (b ∷ bs) e)

-- ---- what is read is spelled so

record Withs (o : Option ℕ) (r : Option (List ℕ)) (x : List ℕ) : Type 0 where
  byte : ℕ
  rest : List ℕ
  first : o ≡ Some byte
  others : r ≡ Some rest
  whole : x ≡ byte ∷ rest

with_parts : (o : Option ℕ) (r : Option (List ℕ)) (x : List ℕ) → with_byte o r ≡ Some x → Withs o r x
with_parts None r x e = absurd cc
with_parts (Some b) None x e = absurd cc
with_parts (Some b) (Some bs) x e = let same : x ≡ b ∷ bs = cc in record { byte = b; rest = bs; first = refl; others = refl; whole = same }

record Escaped (ho lo : Option ℕ) (b : ℕ) : Type 0 where
  high : ℕ
  low : ℕ
  high_is : ho ≡ Some high
  low_is : lo ≡ Some low
  byte_is : not_plain (16 * high + low) ≡ Some b

escaped_parts : (ho lo : Option ℕ) (b : ℕ) → option_and_then (λ h. option_and_then (λ l. not_plain (16 * h + l)) lo) ho ≡ Some b → Escaped ho lo b
escaped_parts None lo b e = absurd cc
escaped_parts (Some h) None b e = absurd cc
escaped_parts (Some h) (Some l) b e = record { high = h; low = l; high_is = refl; low_is = refl; byte_is = e }

unless_parts : (p : Bool) (y b : ℕ) → (if p then None else Some y) ≡ Some b → (p ≡ false) × (y ≡ b)
unless_parts true y b e = absurd cc
unless_parts false y b e = (refl, cc)

quoted_escaped : (b h l : ℕ) → is_quote_plain b ≡ false → upper_hex_digit (b / 16) ≡ h → upper_hex_digit (b % 16) ≡ l → quoted_byte b ≡ 37 ∷ h ∷ l ∷ []
quoted_escaped b h l e high low = rw (e, high, low) refl

escaped_spelled : (h l b : ℕ) → escaped_byte h l ≡ Some b → quoted_byte b ≡ 37 ∷ h ∷ l ∷ []
escaped_spelled h l b e =
    let p : Escaped (digit_value h) (digit_value l) b = escaped_parts (digit_value h) (digit_value l) b e in
    let high : (upper_hex_digit p.high ≡ h) × (p.high < 16) = digit_spelled h p.high p.high_is in
    let low : (upper_hex_digit p.low ≡ l) × (p.low < 16) = digit_spelled l p.low p.low_is in
    let parts : (is_quote_plain (16 * p.high + p.low) ≡ false) × (16 * p.high + p.low ≡ b) = unless_parts (is_quote_plain (16 * p.high + p.low)) _ b p.byte_is in
    let sum : 16 * p.high + p.low ≡ b = parts.1 in
    let high_below : p.high < 16 = high.1 in
    let low_below : p.low < 16 = low.1 in
    let by : b / 16 ≡ p.high = omega arith in
    let rest : b % 16 ≡ p.low = omega arith in
    let plain : is_quote_plain b ≡ false = subst (λ (y : ℕ). is_quote_plain y ≡ false) sum parts.0 in
    quoted_escaped b h l plain (ap upper_hex_digit by ∙ high.0) (ap upper_hex_digit rest ∙ low.0)

quoted_plain : (b : ℕ) → is_quote_plain b ≡ true → quoted_byte b ≡ b ∷ []
quoted_plain b e = rw e refl

plain_spelled : (c : ℕ) (cs x : List ℕ) → is_quote_plain c ≡ true → ((y : List ℕ) → unquoted_bytes cs ≡ Some y → flat_map quoted_byte y ≡ cs)
    → with_byte (Some c) (unquoted_bytes cs) ≡ Some x → flat_map quoted_byte x ≡ c ∷ cs
plain_spelled c cs x plain more e =
    let p : Withs (Some c) (unquoted_bytes cs) x = with_parts (Some c) (unquoted_bytes cs) x e in
    let same : c ≡ p.byte = cc (p.first) in
    let rest : flat_map quoted_byte p.rest ≡ cs = more p.rest p.others in
    rw (p.whole, ← same, quoted_plain c plain, rest) refl

digits_spelled : (h l : ℕ) (cs x : List ℕ) → ((y : List ℕ) → unquoted_bytes cs ≡ Some y → flat_map quoted_byte y ≡ cs)
    → with_byte (escaped_byte h l) (unquoted_bytes cs) ≡ Some x → flat_map quoted_byte x ≡ 37 ∷ h ∷ l ∷ cs
digits_spelled h l cs x more e =
    let p : Withs (escaped_byte h l) (unquoted_bytes cs) x = with_parts (escaped_byte h l) (unquoted_bytes cs) x e in
    let rest : flat_map quoted_byte p.rest ≡ cs = more p.rest p.others in
    rw (p.whole, escaped_spelled h l p.byte p.first, rest) refl

percent_is : (c : ℕ) → (c == 37) ≡ true → c ≡ 37
percent_is c e = grind (arith, nat_tests)

head_spelled : (c : ℕ) (cs x : List ℕ) (plain percent : Bool) → is_quote_plain c ≡ plain → (c == 37) ≡ percent
    → ((y : List ℕ) → unquoted_bytes cs ≡ Some y → flat_map quoted_byte y ≡ cs)
    → ((y : List ℕ) → first_digit cs ≡ Some y → flat_map quoted_byte y ≡ 37 ∷ cs)
    → (if plain then with_byte (Some c) (unquoted_bytes cs) else if percent then first_digit cs else None) ≡ Some x → flat_map quoted_byte x ≡ c ∷ cs
head_spelled c cs x true percent is_plain is_percent more digits e = plain_spelled c cs x is_plain more e
head_spelled c cs x false true is_plain is_percent more digits e = rw (percent_is c is_percent) (digits x e)
head_spelled c cs x false false is_plain is_percent more digits e = absurd cc

mutual
  unfolding unquoted_bytes first_digit second_digit

  spelled : (t x : List ℕ) → unquoted_bytes t ≡ Some x → flat_map quoted_byte x ≡ t
  spelled [] x e = let nil : x ≡ [] = cc in rw nil refl
  spelled (c ∷ cs) x e = head_spelled c cs x (is_quote_plain c) (c == 37) refl refl (spelled cs) (after_percent cs) e

  after_percent : (t x : List ℕ) → first_digit t ≡ Some x → flat_map quoted_byte x ≡ 37 ∷ t
  after_percent [] x e = absurd cc
  after_percent (h ∷ cs) x e = after_digit h cs x e

  after_digit : (h : ℕ) (t x : List ℕ) → second_digit h t ≡ Some x → flat_map quoted_byte x ≡ 37 ∷ h ∷ t
  after_digit h [] x e = absurd cc
  after_digit h (l ∷ cs) x e = digits_spelled h l cs x (spelled cs) e

percent_alone : (t : List ℕ) → is_percent t ≡ true → t ≡ 37 ∷ []
percent_alone [] e = absurd cc
percent_alone (c ∷ []) e = rw (percent_is c e) refl
percent_alone (c ∷ d ∷ cs) e = let no : false ≡ true = rw (not_one (length cs)) at e in absurd cc

text_case : (b : Bool) (y x : List ℕ) → is_utf8 y ≡ b → (if b then Some y else None) ≡ Some x → (Some y ≡ Some x) × (is_utf8 x ≡ true)
text_case true y x sure e = let same : y ≡ x = cc in (e, subst (λ (z : List ℕ). is_utf8 z ≡ true) same sure)
text_case false y x sure e = absurd cc

text_parts : (o : Option (List ℕ)) (x : List ℕ) → as_text o ≡ Some x → (o ≡ Some x) × (is_utf8 x ≡ true)
text_parts None x e = absurd cc
text_parts (Some y) x e = text_case (is_utf8 y) y x refl e

nothing_is_text : is_utf8 [] ≡ true
nothing_is_text = is_utf8-from_IsUtf8 [] ([], (refl, refl))

-- quoted bytes of a text that are not empty are its quoted text
filled_spelled : (x t : List ℕ) → flat_map quoted_byte x ≡ t → (length t == 0) ≡ false → quoted x ≡ t
filled_spelled [] t e filled = let none : (length t == 0) ≡ true = rw (← e) refl in absurd cc
filled_spelled (b ∷ bs) t e filled = e

unquoted_case : (empty percent : Bool) (t x : List ℕ) → (length t == 0) ≡ empty → is_percent t ≡ percent
    → (if empty then None else if percent then Some [] else as_text (unquoted_bytes t)) ≡ Some x → (quoted x ≡ t) × (is_utf8 x ≡ true)
unquoted_case true percent t x is_empty is_alone e = absurd cc
unquoted_case false true t x is_empty is_alone e =
    let nil : [] ≡ x = cc in
    subst (λ (y : List ℕ). (quoted y ≡ t) × (is_utf8 y ≡ true)) nil (sym (percent_alone t is_alone), nothing_is_text)
unquoted_case false false t x is_empty is_alone e =
    let p : (unquoted_bytes t ≡ Some x) × (is_utf8 x ≡ true) = text_parts (unquoted_bytes t) x e in
    (filled_spelled x t (spelled t x p.0) is_empty, p.1)

pub quoted_only : (t x : List ℕ) → unquoted t ≡ Some x → (quoted x ≡ t) × (is_utf8 x ≡ true)
unfolding unquoted
quoted_only t x e = unquoted_case (length t == 0) (is_percent t) t x refl refl e

-- ---- quoted text in front of others

plain_length : (b : ℕ) (t : List ℕ) → is_quote_byte b ≡ true → quote_length (b ∷ t) ≡ suc (quote_length t)
unfolding quote_length
plain_length b t e = rw e refl

or_true : (a b : Bool) → a ≡ true → (a || b) ≡ true
or_true a b e = rw e refl

digit_length : (n : ℕ) (t : List ℕ) → n < 16 → quote_length (upper_hex_digit n ∷ t) ≡ suc (quote_length t)
digit_length n t lt = plain_length (upper_hex_digit n) t (or_true _ _ (digit_plain n lt))

length_again : (plain : Bool) (b : ℕ) (t : List ℕ) → is_quote_plain b ≡ plain → b < 256
    → quote_length ((if plain then b ∷ [] else 37 ∷ upper_hex_digit (b / 16) ∷ upper_hex_digit (b % 16) ∷ []) ++ t)
    ≡ length (if plain then b ∷ [] else 37 ∷ upper_hex_digit (b / 16) ∷ upper_hex_digit (b % 16) ∷ []) + quote_length t
length_again true b t e lt = omega (arith, plain_length b t (or_true _ _ e))
length_again false b t e lt =
    omega (
      arith,
      plain_length 37 (upper_hex_digit (b / 16) ∷ upper_hex_digit (b % 16) ∷ t) refl,
      digit_length (b / 16) (upper_hex_digit (b % 16) ∷ t) (omega arith),
      digit_length (b % 16) t (omega arith),
    )

lengths_again : (x t : List ℕ) → Bytes x → quote_length (flat_map quoted_byte x ++ t) ≡ length (flat_map quoted_byte x) + quote_length t
lengths_again [] t h = omega arith
lengths_again (b ∷ bs) t h =
    let rest : List ℕ = flat_map quoted_byte bs in
    let split : (quoted_byte b ++ rest) ++ t ≡ quoted_byte b ++ (rest ++ t) = append_assoc (quoted_byte b) rest t in
    rw split (omega (arith, length_again (is_quote_plain b) b (rest ++ t) refl h.0, lengths_again bs t h.1, length-append (quoted_byte b) rest))

quoted_length : (x t : List ℕ) → Bytes x → quote_length t ≡ 0 → quote_length (quoted x ++ t) ≡ length (quoted x)
quoted_length [] t h none = omega (arith, plain_length 37 t refl)
quoted_length (b ∷ bs) t h none = omega (arith, lengths_again (b ∷ bs) t h)

pub quoted_in_again : (x t : List ℕ) → is_utf8 x ≡ true → quote_length t ≡ 0 → quoted_in (quoted x ++ t) ≡ Some (x, t)
unfolding quoted_in
quoted_in_again x t e none =
    let long : quote_length (quoted x ++ t) ≡ length (quoted x) = quoted_length x t (text_bytes x e) none in
    rw (long, take-append_seam (quoted x) t, drop-append_seam (quoted x) t, quoted_again x e) refl

record InFront (n : ℕ) (t x r : List ℕ) : Type 0 where
  front : unquoted (take n t) ≡ Some x
  behind : drop n t ≡ r

in_front : (n : ℕ) (t x r : List ℕ) (o : Option (List ℕ)) → unquoted (take n t) ≡ o → option_map {U = List ℕ × List ℕ} (λ y. (y, drop n t)) o ≡ Some (x, r) → InFront n t x r
in_front n t x r None is e = absurd cc
in_front n t x r (Some y) is e =
    let parts : (y ≡ x) × (drop n t ≡ r) = some_pair_parts y x (drop n t) r e in
    record { front = is ∙ ap (λ (z : List ℕ). Some z) parts.0; behind = parts.1 }

pub quoted_in_only : (t x r : List ℕ) → quoted_in t ≡ Some (x, r) → (t ≡ quoted x ++ r) × (is_utf8 x ≡ true)
unfolding quoted_in
quoted_in_only t x r e =
    let p : InFront (quote_length t) t x r = in_front (quote_length t) t x r (unquoted (take (quote_length t) t)) refl e in
    let q : (quoted x ≡ take (quote_length t) t) × (is_utf8 x ≡ true) = quoted_only (take (quote_length t) t) x p.front in
    (sym (take-append-drop (quote_length t) t) ∙ (rw (q.0, p.behind) refl), q.1)
