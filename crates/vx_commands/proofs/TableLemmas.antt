-- Bytes of ASCII, and the lines of a table.
use Rattle.std.proofs.Common.{◌≡◌, ℕ, zero, suc, ◌+◌, ◌-◌, ◌<◌, ◌≤◌, Bool, true, false, List, [], ◌∷◌, length, take, drop, map, Option, Some, None, Err, refl, ap, sym, ◌∙◌, subst, arith}
use Rattle.std.specs.Prelude.{slice_index, ◌==◌, ◌&&◌, nat_lt}
use Rattle.std.specs.List.{list_all}
use Rattle.std.specs.Str.{IsAscii, IsUtf8}
use Rattle.std.proofs.lemmas.Bool.Decides.{nat_tests}
use Rattle.std.proofs.lemmas.List.{take_all, length-drop}
use Rattle.std.proofs.lemmas.Str.{IsUtf8-from_ascii}
use Rattle.vx_data.specs.Dtype.{Dtype}
use Rattle.vx_rows.specs.declared.rows_error.RowsError.TheVariants.{BadLine}
use Rattle.vx_rows.specs.ReadRows.{line_in, with_first, lines_of, rows_behind, rows_of}
use Rattle.vx_rows.specs.Rows.{Rows}
use Rattle.vx_rows.proofs.PlainTextLemmas.{first-of, second-of, taken_more}
use Rattle.vx_rows.proofs.ReadingLemmas.{is_other, other-test}
use Rattle.vx_commands.specs.Tables.{as_ascii, first_line, behind_line}

-- ---- bytes

abbrev pub is_low : ℕ → Bool
is_low b = nat_lt b 128

pub greater_second : (a b : ℕ) → a < b → is_low b ≡ (is_low a && is_low b)
greater_second a b h = grind (arith, nat_tests)

pub greater_first : (a b : ℕ) → b ≤ a → is_low a ≡ (is_low a && is_low b)
greater_first a b h = grind (arith, nat_tests)

and-true : (b : Bool) → (b && true) ≡ (true && b)
and-true true = refl
and-true false = refl

and-assoc : (a b c : Bool) → (a && (b && c)) ≡ ((a && b) && c)
and-assoc true b c = refl
and-assoc false b c = refl

-- one byte more
pub more_low : (t : List ℕ) (i : ℕ) → i < length t → list_all is_low (take (i + 1) t) ≡ (list_all is_low (take i t) && is_low (slice_index t i))
more_low [] i h = absurd (omega (arith, h))
more_low (c ∷ cs) zero h = and-true (is_low c)
more_low (c ∷ cs) (suc i) h =
    let e : suc i + 1 ≡ suc (i + 1) = omega arith in
    rw e (ap (λ b. is_low c && b) (more_low cs i (omega (arith, h))) ∙ and-assoc (is_low c) (list_all is_low (take i cs)) (is_low (slice_index cs i)))

low : (b : ℕ) → is_low b ≡ true → b < 128
low b h = grind (arith, nat_tests)

kept : (b : ℕ) → is_low b ≡ true → as_ascii b ≡ b
kept b h = rw h refl

ascii-byte : (b : ℕ) → as_ascii b < 128
ascii-byte b = (elim (nat_lt b 128) as (λ t. nat_lt b 128 ≡ t → as_ascii b < 128) [
  | true ↦ λ t. rw t (low b t)
  | false ↦ λ t. rw t (omega arith)
]) refl

pub all_low : (t : List ℕ) → list_all is_low t ≡ true → IsAscii t
all_low [] h i = omega arith
all_low (b ∷ t) h zero = low b (first-of (is_low b) _ h)
all_low (b ∷ t) h (suc i) = all_low t (second-of (is_low b) _ h) i

pub all_kept : (t : List ℕ) → list_all is_low t ≡ true → t ≡ map as_ascii t
all_kept [] h = refl
all_kept (b ∷ t) h = rw (kept b (first-of (is_low b) _ h), ← all_kept t (second-of (is_low b) _ h)) refl

pub all_ascii : (t : List ℕ) → IsAscii (map as_ascii t)
all_ascii [] i = omega arith
all_ascii (b ∷ t) zero = ascii-byte b
all_ascii (b ∷ t) (suc i) = all_ascii t i

pub ascii_text : (t : List ℕ) → IsAscii t → IsUtf8 t
ascii_text t h = IsUtf8-from_ascii t h

pub ruleset byte_steps = (all_low, all_kept, all_ascii)

-- ---- the first line

feed-test : (c : ℕ) → c ≡ 10 → (c == 10) ≡ true
feed-test c h = grind (arith, nat_tests)

pub first_fed : (t : List ℕ) (n : ℕ) → n < length t → slice_index t n ≡ 10 → list_all is_other (take n t) ≡ true → take n t ≡ first_line t
first_fed [] n l feed other = absurd (omega (arith, l))
first_fed (c ∷ cs) zero l feed other = rw (feed-test c feed) refl
first_fed (c ∷ cs) (suc n) l feed other =
    let rest = first_fed cs n (omega (arith, l)) feed (second-of (is_other c) _ other) in
    rw (other-test c (first-of (is_other c) _ other), rest) refl

behind-fed : (t : List ℕ) (n : ℕ) → n < length t → slice_index t n ≡ 10 → list_all is_other (take n t) ≡ true → drop (n + 1) t ≡ behind_line t
behind-fed [] n l feed other = absurd (omega (arith, l))
behind-fed (c ∷ cs) zero l feed other = rw (feed-test c feed) refl
behind-fed (c ∷ cs) (suc n) l feed other =
    let e : suc n + 1 ≡ suc (n + 1) = omega arith in
    let rest = behind-fed cs n (omega (arith, l)) feed (second-of (is_other c) _ other) in
    rw (other-test c (first-of (is_other c) _ other), e) rest

pub behind_cut : (t : List ℕ) (n : ℕ) → n < length t → slice_index t n ≡ 10 → list_all is_other (take n t) ≡ true → take (length t - (n + 1)) (drop (n + 1) t) ≡ behind_line t
behind_cut t n l feed other =
    let size = length-drop (n + 1) t in
    take_all (length t - (n + 1)) (drop (n + 1) t) (omega (arith, size)) ∙ behind-fed t n l feed other

first-all : (t : List ℕ) → list_all is_other t ≡ true → t ≡ first_line t
first-all [] other = refl
first-all (c ∷ cs) other =
    let rest = first-all cs (second-of (is_other c) _ other) in
    rw (other-test c (first-of (is_other c) _ other), ← rest) refl

behind-all : (t : List ℕ) → list_all is_other t ≡ true → [] ≡ behind_line t
behind-all [] other = refl
behind-all (c ∷ cs) other = rw (other-test c (first-of (is_other c) _ other)) (behind-all cs (second-of (is_other c) _ other))

other-all : (t : List ℕ) (n : ℕ) → length t ≤ n → list_all is_other (take n t) ≡ true → list_all is_other t ≡ true
other-all t n past other = ap (list_all is_other) (sym (take_all n t past)) ∙ other

pub first_unfed : (t : List ℕ) (n : ℕ) → length t ≤ n → list_all is_other (take n t) ≡ true → t ≡ first_line t
first_unfed t n past other = first-all t (other-all t n past other)

pub behind_unfed : (t : List ℕ) (n : ℕ) → length t ≤ n → list_all is_other (take n t) ≡ true → [] ≡ behind_line t
behind_unfed t n past other = behind-all t (other-all t n past other)

-- one byte more that is no line feed
pub other_more : (t : List ℕ) (n : ℕ) → n < length t → list_all is_other (take n t) ≡ true → (slice_index t n ≡ 10 → ⊥) → list_all is_other (take (n + 1) t) ≡ true
other_more t n l h ne = taken_more is_other t n l h (grind (arith, nat_tests))

pub ruleset line_steps = (other_more, first_fed, behind_cut, first_unfed, behind_unfed)

pub ascii_first : (t : List ℕ) → IsAscii t → IsAscii (first_line t)
ascii_first [] h = h
ascii_first (c ∷ cs) h = (elim (c == 10) as (λ b. (c == 10) ≡ b → IsAscii (first_line (c ∷ cs))) [
  | true ↦ λ b. subst IsAscii (sym (first-here c cs b)) (λ i. omega arith)
  | false ↦ λ b. subst IsAscii (sym (first-on c cs b)) (joined c (first_line cs) (h 0) (ascii_first cs (λ i. h (suc i))))
]) refl
  where
    first-here : (c : ℕ) (cs : List ℕ) → (c == 10) ≡ true → first_line (c ∷ cs) ≡ []
    first-here c cs b = rw b refl

    first-on : (c : ℕ) (cs : List ℕ) → (c == 10) ≡ false → first_line (c ∷ cs) ≡ c ∷ first_line cs
    first-on c cs b = rw b refl

    joined : (c : ℕ) (t : List ℕ) → c < 128 → IsAscii t → IsAscii (c ∷ t)
    joined c t l h zero = l
    joined c t l h (suc i) = h i

pub ascii_behind : (t : List ℕ) → IsAscii t → IsAscii (behind_line t)
ascii_behind [] h = h
ascii_behind (c ∷ cs) h = (elim (c == 10) as (λ b. (c == 10) ≡ b → IsAscii (behind_line (c ∷ cs))) [
  | true ↦ λ b. subst IsAscii (sym (behind-here c cs b)) (λ i. h (suc i))
  | false ↦ λ b. subst IsAscii (sym (behind-on c cs b)) (ascii_behind cs (λ i. h (suc i)))
]) refl
  where
    behind-here : (c : ℕ) (cs : List ℕ) → (c == 10) ≡ true → behind_line (c ∷ cs) ≡ cs
    behind-here c cs b = rw b refl

    behind-on : (c : ℕ) (cs : List ℕ) → (c == 10) ≡ false → behind_line (c ∷ cs) ≡ behind_line cs
    behind-on c cs b = rw b refl

-- ---- the numbers of lines

with-first-length : (c : ℕ) (ls : List (List ℕ)) (n : ℕ) → length ls ≤ n → length (with_first c ls) ≤ n + 1
with-first-length c [] n h = omega arith
with-first-length c (l ∷ ls) n h = omega (arith, h)

few-lines : (t : List ℕ) → length (lines_of t) ≤ length t
unfolding lines_of
few-lines [] = omega arith
few-lines (c ∷ cs) = (elim (c == 10) as (λ b. (c == 10) ≡ b → length (lines_of (c ∷ cs)) ≤ length (c ∷ cs)) [
  | true ↦ λ b. let rest = few-lines cs in rw b (omega (arith, rest))
  | false ↦ λ b. let rest = with-first-length c (lines_of cs) (length cs) (few-lines cs) in rw b (omega (arith, rest))
]) refl

bad-here : (o : Option Rows) (c : Rows) (number bad : ℕ) (l : List ℕ) (ls : List (List ℕ)) → ((d : Rows) → rows_behind d (number + 1) ls ≡ Err (BadLine bad) → bad < number + 1 + length ls)
    → line_in c l ≡ o → rows_behind c number (l ∷ ls) ≡ Err (BadLine bad) → bad < number + length (l ∷ ls)
unfolding rows_behind
bad-here None c number bad l ls on e h = let g = rw e at h in let same : number ≡ bad = cc in omega (arith, same)
bad-here (Some d) c number bad l ls on e h = let g = rw e at h in let rest = on d g in omega (arith, rest)

bad-below : (c : Rows) (number bad : ℕ) (ls : List (List ℕ)) → rows_behind c number ls ≡ Err (BadLine bad) → bad < number + length ls
unfolding rows_behind
bad-below c number bad [] h = cc
bad-below c number bad (l ∷ ls) h = bad-here (line_in c l) c number bad l ls (λ d. bad-below d (number + 1) bad ls) refl h

-- a line that is no row is not behind the last
pub bad_line : (d : Dtype) (t : List ℕ) (bad : ℕ) → rows_of d t ≡ Err (BadLine bad) → bad < length t
bad_line d t bad h = let few = few-lines t in let below = bad-below _ 0 bad (lines_of t) h in omega (arith, few, below)
