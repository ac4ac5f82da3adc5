-- Quoted text whose bytes all stand for themselves.
use Rattle.std.proofs.Common.{◌≡◌, ℕ, zero, suc, ◌+◌, ◌<◌, ◌≤◌, Bool, true, false, List, [], ◌∷◌, ◌++◌, length, take, drop, Some, refl, ap, sym, ◌∙◌, arith}
use Rattle.std.specs.Prelude.{slice_index, ◌&&◌, IsAscii}
use Rattle.std.specs.List.{list_all}
use Rattle.std.specs.Str.{IsUtf8}
use Rattle.std.proofs.lemmas.Str.{IsUtf8-from_ascii, is_utf8-from_IsUtf8}
use Rattle.std.proofs.lemmas.List.{take-append-drop}
use Rattle.std.proofs.lemmas.Bool.Decides.{nat_tests}
use Rattle.vx_data.specs.Texts.{is_quote_plain}
use Rattle.vx_data.specs.TextsRead.{is_quote_byte, quote_length, quoted_in}
use Rattle.vx_data.proofs.QuotedBack.{quoted_in_again}
use Rattle.vx_rows.proofs.PrintedLemmas.{quoted_plain}

pub first-of : (a b : Bool) → (a && b) ≡ true → a ≡ true
first-of true b h = refl
first-of false b h = h

pub second-of : (a b : Bool) → (a && b) ≡ true → b ≡ true
second-of true b h = h
second-of false b h = cc

both : (a b : Bool) → a ≡ true → b ≡ true → (a && b) ≡ true
both a b x y = rw (x, y) refl

-- one byte more that meets a test
pub taken_more : (f : ℕ → Bool) (t : List ℕ) (n : ℕ) → n < length t → list_all f (take n t) ≡ true → f (slice_index t n) ≡ true → list_all f (take (n + 1) t) ≡ true
taken_more f [] n l h p = absurd (omega (arith, l))
taken_more f (c ∷ cs) zero l h p = both (f c) true p refl
taken_more f (c ∷ cs) (suc n) l h p =
    let e : suc n + 1 ≡ suc (n + 1) = omega arith in
    let rest = taken_more f cs n (omega (arith, l)) (second-of (f c) _ h) p in
    ap (λ m. list_all f (take m (c ∷ cs))) e ∙ both (f c) _ (first-of (f c) _ h) rest

pub plain_more : (t : List ℕ) (n : ℕ) → n < length t → list_all is_quote_plain (take n t) ≡ true → is_quote_plain (slice_index t n) ≡ true → list_all is_quote_plain (take (n + 1) t) ≡ true
plain_more = taken_more is_quote_plain

ascii-byte : (c : ℕ) → is_quote_plain c ≡ true → c < 128
ascii-byte c h = grind (arith, nat_tests)

ascii-bytes : (t : List ℕ) → list_all is_quote_plain t ≡ true → IsAscii t
ascii-bytes [] h i = omega arith
ascii-bytes (c ∷ cs) h zero = ascii-byte c (first-of (is_quote_plain c) _ h)
ascii-bytes (c ∷ cs) h (suc i) = ascii-bytes cs (second-of (is_quote_plain c) _ h) i

pub plain_utf8 : (t : List ℕ) → list_all is_quote_plain t ≡ true → IsUtf8 t
plain_utf8 t h = IsUtf8-from_ascii t (ascii-bytes t h)

other-byte : (c : ℕ) → is_quote_plain c ≡ false → (c ≡ 37 → ⊥) → is_quote_byte c ≡ false
other-byte c h ne = grind (arith, nat_tests)

none-quoted : (t : List ℕ) (n : ℕ) → (n < length t → is_quote_plain (slice_index t n) ≡ false) → (n < length t → slice_index t n ≡ 37 → ⊥) → quote_length (drop n t) ≡ 0
unfolding quote_length
none-quoted [] zero h ne = refl
none-quoted [] (suc n) h ne = refl
none-quoted (c ∷ cs) zero h ne = let e = other-byte c (h (omega arith)) (ne (omega arith)) in rw e refl
none-quoted (c ∷ cs) (suc n) h ne = none-quoted cs n (λ l. h (omega (arith, l))) (λ l. ne (omega (arith, l)))

-- the bytes that stand for themselves, where no `%` follows them
pub plain_read : (t : List ℕ) (n : ℕ) → 0 < n → n ≤ length t → list_all is_quote_plain (take n t) ≡ true → (n < length t → is_quote_plain (slice_index t n) ≡ false)
    → (n < length t → slice_index t n ≡ 37 → ⊥) → quoted_in t ≡ Some (take n t, drop n t)
plain_read t n some inside all stop other =
    let size = length-taken t n inside in
    ap quoted_in (sym (take-append-drop n t) ∙ ap (λ x. x ++ drop n t) (sym (quoted_plain (take n t) (omega (arith, some, size)) all)))
    ∙ quoted_in_again (take n t) (drop n t) (is_utf8-from_IsUtf8 (take n t) (plain_utf8 (take n t) all)) (none-quoted t n stop other)
  where
    length-taken : (xs : List ℕ) (m : ℕ) → m ≤ length xs → length (take m xs) ≡ m
    length-taken xs zero h = refl
    length-taken [] (suc m) h = absurd (omega (arith, h))
    length-taken (x ∷ xs) (suc m) h = ap suc (length-taken xs m (omega (arith, h)))
