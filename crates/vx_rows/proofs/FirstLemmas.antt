-- The order of two texts, told by their first four bytes as one number.
use Rattle.std.proofs.Common.{◌≡◌, ℕ, suc, ◌+◌, ◌*◌, ◌<◌, true, false, List, [], ◌∷◌, drop, inl, inr, refl, ap, sym, ◌∙◌, arith}
use Rattle.std.specs.Prelude.{slice_index_or}
use Rattle.std.specs.declared.cmp.Ordering.TheVariants.{Less, Equal}
use Rattle.std.specs.Ordering.{is_lt, ordering_then, ordering_reverse}
use Rattle.std.specs.Cmp.{nat_cmp_is}
use Rattle.std.specs.Cmp.Lexicographic.{nat_list_cmp_total}
use Rattle.std.specs.Str.{IsUtf8, is_utf8}
use Rattle.std.proofs.lemmas.Str.{IsUtf8-from_is_utf8, is_utf8-from_IsUtf8}
use Rattle.std.proofs.Math.Nat.{mul-le-mul_left}
use Rattle.std.proofs.lemmas.Bool.{cases_order}
use Rattle.vx_rows.specs.RowStats.{text_cmp}
use Rattle.vx_rows.specs.FirstBytes.{first_four}

abbrev AreBytes : List ℕ → Type 0
AreBytes xs = (i : ℕ) → slice_index_or xs i 0 < 256

-- numbers below w of the first bytes of texts: where one is less, so is its text
record Tells (w : ℕ) (number : List ℕ → ℕ) : Type 0 where
  none : number [] ≡ 0
  few : (xs : List ℕ) → AreBytes xs → number xs < w
  less : (xs ys : List ℕ) → AreBytes xs → AreBytes ys → number xs < number ys → text_cmp xs ys ≡ Less

-- one byte before those
abbrev with_byte : ℕ → (List ℕ → ℕ) → List ℕ → ℕ
with_byte w number xs = w * slice_index_or xs 0 0 + number (drop 1 xs)

-- a greater byte is more than any bytes behind a lesser one
over : (w x y r s : ℕ) → x < y → r < w → w * x + r < w * y + s
over w x y r s l u = let m = mul-le-mul_left {m = suc x} {n = y} w l in omega (arith, m)

below : (w x r : ℕ) → x < 256 → r < w → w * x + r < 256 * w
below w x r l u = let m = mul-le-mul_left {m = suc x} {n = 256} w l in omega (arith, m)

tells_more : (w : ℕ) (number : List ℕ → ℕ) → Tells w number → Tells (256 * w) (with_byte w number)
tells_more w number t = record { none = lacking; few = few; less = less }
  where
    lacking : with_byte w number [] ≡ 0
    lacking = omega (arith, t.none)

    few : (xs : List ℕ) → AreBytes xs → with_byte w number xs < 256 * w
    few [] h = let l = t.few [] h in omega (arith, l, t.none)
    few (x ∷ xs) h = below w x (number xs) (h 0) (t.few xs (λ i. h (suc i)))

    less : (xs ys : List ℕ) → AreBytes xs → AreBytes ys → with_byte w number xs < with_byte w number ys → text_cmp xs ys ≡ Less
    less [] [] f g h = absurd (omega (arith, h))
    less [] (y ∷ ys) f g h = refl
    less (x ∷ xs) [] f g h = absurd (omega (arith, h, t.none))
    less (x ∷ xs) (y ∷ ys) f g h = elim (cases_order x y) [
      | inl same ↦ ap (λ o. ordering_then o (text_cmp xs ys)) (sym (nat_cmp_is x y Equal same))
          ∙ t.less xs ys (λ i. f (suc i)) (λ i. g (suc i)) (let e = ap (λ n. w * n) same in omega (arith, h, e))
      | inr (inl below) ↦ ap (λ o. ordering_then o (text_cmp xs ys)) (sym (nat_cmp_is x y Less below))
      | inr (inr above) ↦ absurd (let r = over w y x (number ys) (number xs) above (t.few ys (λ i. g (suc i))) in omega (arith, h, r))
    ]

abbrev no-bytes : List ℕ → ℕ
no-bytes xs = 0

tells-none : Tells 1 no-bytes
tells-none = record { none = refl; few = λ xs h. omega arith; less = λ xs ys f g h. absurd (omega (arith, h)) }

abbrev four-bytes : List ℕ → ℕ
four-bytes = with_byte 16777216 (with_byte 65536 (with_byte 256 (with_byte 1 no-bytes)))

tells-four : Tells 4294967296 four-bytes
tells-four = tells_more _ _ (tells_more _ _ (tells_more _ _ (tells_more _ _ tells-none)))

same-four : (xs : List ℕ) → first_four xs ≡ four-bytes xs
same-four [] = refl
same-four (a ∷ []) = omega arith
same-four (a ∷ b ∷ []) = omega arith
same-four (a ∷ b ∷ c ∷ []) = omega arith
same-four (a ∷ b ∷ c ∷ d ∷ xs) = omega arith

first-less : (a b : List ℕ) → AreBytes a → AreBytes b → first_four a < first_four b → text_cmp a b ≡ Less
first-less a b f g h = let x = same-four a in let y = same-four b in tells-four.less a b f g (omega (arith, h, x, y))

-- the first text comes before the second
pub first_before : (a b : List ℕ) (m n : ℕ) → m ≡ first_four a → n ≡ first_four b → AreBytes a → AreBytes b → m < n → is_lt (text_cmp a b) ≡ true
first_before a b m n x y f g h = ap is_lt (first-less a b f g (omega (arith, h, x, y)))

-- and the second not before the first
pub first_behind : (a b : List ℕ) (m n : ℕ) → m ≡ first_four a → n ≡ first_four b → AreBytes a → AreBytes b → m < n → is_lt (text_cmp b a) ≡ false
first_behind a b m n x y f g h = ap is_lt (nat_list_cmp_total.antisymm b a ∙ ap ordering_reverse (first-less a b f g (omega (arith, h, x, y))))

-- ---- that bytes are a text, as a test

pub utf8_told : (t : List ℕ) → IsUtf8 t → is_utf8 t ≡ true
utf8_told t h = is_utf8-from_IsUtf8 t h

pub utf8_known : (t : List ℕ) → is_utf8 t ≡ true → IsUtf8 t
utf8_known t h = IsUtf8-from_is_utf8 t h
