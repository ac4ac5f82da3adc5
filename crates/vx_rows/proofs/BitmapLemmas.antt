-- A bitmap that was written, read again.
use Rattle.std.proofs.Common.{◌≡◌, ℕ, zero, suc, ◌+◌, ◌*◌, ◌/◌, ◌%◌, ◌^◌, ◌<◌, ◌≤◌, ◌==◌, Bool, true, false, cond, List, [], ◌∷◌, length, refl, ap, ◌∙◌, arith}
use Rattle.std.specs.Prelude.{slice_index, slice_index_or}
use Rattle.std.specs.Int.{bit_at}
use Rattle.vx_rows.specs.Span.{span}
use Rattle.vx_rows.specs.Bits.{bit, bit_value, bitmap_byte, bitmap_size, bitmap}
use Rattle.vx_rows.proofs.SpanLemmas.{get_or_span, span_same}

-- a number of eight bits has each of them
bit-of-eight : (a b c d e f g h r : ℕ) → a ≤ 1 → b ≤ 1 → c ≤ 1 → d ≤ 1 → e ≤ 1 → f ≤ 1 → g ≤ 1 → h ≤ 1 → r < 8
    → bit_at (a + 2 * b + 4 * c + 8 * d + 16 * e + 32 * f + 64 * g + 128 * h) r ≡ slice_index (a ∷ b ∷ c ∷ d ∷ e ∷ f ∷ g ∷ h ∷ []) r
bit-of-eight a b c d e f g h zero p q s t u v w x l = omega arith
bit-of-eight a b c d e f g h (suc zero) p q s t u v w x l = omega arith
bit-of-eight a b c d e f g h (suc (suc zero)) p q s t u v w x l = omega arith
bit-of-eight a b c d e f g h (suc (suc (suc zero))) p q s t u v w x l = omega arith
bit-of-eight a b c d e f g h (suc (suc (suc (suc zero)))) p q s t u v w x l = omega arith
bit-of-eight a b c d e f g h (suc (suc (suc (suc (suc zero))))) p q s t u v w x l = omega arith
bit-of-eight a b c d e f g h (suc (suc (suc (suc (suc (suc zero)))))) p q s t u v w x l = omega arith
bit-of-eight a b c d e f g h (suc (suc (suc (suc (suc (suc (suc zero))))))) p q s t u v w x l = omega arith
bit-of-eight a b c d e f g h (suc (suc (suc (suc (suc (suc (suc (suc r)))))))) p q s t u v w x l = absurd (omega arith)

pub value-small : (rows : List Bool) (i : ℕ) → bit_value rows i ≤ 1
value-small rows i = at (slice_index_or rows i false)
  where
    at : (b : Bool) → cond b 1 0 ≤ 1
    at true = omega arith
    at false = omega arith

-- the bits of one byte, by place
eight-at : (f : ℕ → ℕ) (k r : ℕ) → r < 8 → slice_index (f (8 * k) ∷ f (8 * k + 1) ∷ f (8 * k + 2) ∷ f (8 * k + 3) ∷ f (8 * k + 4) ∷ f (8 * k + 5) ∷ f (8 * k + 6) ∷ f (8 * k + 7) ∷ []) r ≡ f (8 * k + r)
eight-at f k zero l = ap f (omega arith)
eight-at f k (suc zero) l = refl
eight-at f k (suc (suc zero)) l = refl
eight-at f k (suc (suc (suc zero))) l = refl
eight-at f k (suc (suc (suc (suc zero)))) l = refl
eight-at f k (suc (suc (suc (suc (suc zero))))) l = refl
eight-at f k (suc (suc (suc (suc (suc (suc zero)))))) l = refl
eight-at f k (suc (suc (suc (suc (suc (suc (suc zero))))))) l = refl
eight-at f k (suc (suc (suc (suc (suc (suc (suc (suc r)))))))) l = absurd (omega arith)

-- a row's bit in its byte
pub bit_of_byte : (rows : List Bool) (i : ℕ) → (bit_at (bitmap_byte rows (i / 8)) (i % 8) == 1) ≡ slice_index_or rows i false
bit_of_byte rows i =
    let low : i % 8 < 8 = omega arith in
    let here : bit_at (bitmap_byte rows (i / 8)) (i % 8) ≡ bit_value rows i =
    bit-of-eight _ _ _ _ _ _ _ _ (i % 8) (value-small rows _) (value-small rows _) (value-small rows _) (value-small rows _) (value-small rows _) (value-small rows _) (value-small rows _) (value-small rows _) low
    ∙ eight-at (bit_value rows) (i / 8) (i % 8) low ∙ ap (bit_value rows) (omega arith) in
    ap (λ x. x == 1) here ∙ at (slice_index_or rows i false)
  where
    at : (b : Bool) → (cond b 1 0 == 1) ≡ b
    at true = refl
    at false = refl

bit-read : (rows : List Bool) (i : ℕ) → i < length rows → bit (bitmap rows) 0 i ≡ slice_index_or rows i false
bit-read rows i l =
    let inside : i / 8 < bitmap_size (length rows) = omega arith in
    let byte : slice_index (bitmap rows) (0 + i / 8) ≡ bitmap_byte rows (i / 8) =
    ap (slice_index (bitmap rows)) (omega arith) ∙ get_or_span (bitmap_byte rows) 0 (bitmap_size (length rows)) (i / 8) 0 inside ∙ ap (bitmap_byte rows) (omega arith) in
    ap (λ x. bit_at x (i % 8) == 1) byte ∙ bit_of_byte rows i

-- a list by its places
pub span-index : (rows : List Bool) → span (λ i. slice_index_or rows i false) 0 (length rows) ≡ rows
span-index [] = refl
span-index (r ∷ rows) = ap (λ rs. r ∷ rs) (shifted 0 (length rows) ∙ span-index rows)
  where
    shifted : (k n : ℕ) → span (λ i. slice_index_or (r ∷ rows) i false) (k + 1) n ≡ span (λ i. slice_index_or rows i false) k n
    shifted k zero = refl
    shifted k (suc n) = let e : k + 1 ≡ suc k = omega arith in ap (λ b. b ∷ span (λ i. slice_index_or (r ∷ rows) i false) (k + 1 + 1) n) (ap (λ j. slice_index_or (r ∷ rows) j false) e) ∙ ap (λ bs. slice_index_or rows k false ∷ bs) (shifted (k + 1) n)

-- the bits of a bitmap are the rows that it was written of
pub bitmap_read : (rows : List Bool) → span (bit (bitmap rows) 0) 0 (length rows) ≡ rows
bitmap_read rows = span_same (bit (bitmap rows) 0) (λ i. slice_index_or rows i false) 0 (length rows) (λ i l u. bit-read rows i (omega arith)) ∙ span-index rows

-- ---- the bits behind the last row

past-zero : (rows : List Bool) (i : ℕ) → length rows ≤ i → bit_value rows i ≡ 0
past-zero rows i l = ap (λ b. cond b 1 0) (past rows i l)
  where
    past : (xs : List Bool) (i : ℕ) → length xs ≤ i → slice_index_or xs i false ≡ false
    past [] i l = refl
    past (x ∷ xs) zero l = absurd (omega arith)
    past (x ∷ xs) (suc i) l = past xs i (omega arith)

low-bits : (a b c d e f g h r : ℕ) → a ≤ 1 → b ≤ 1 → c ≤ 1 → d ≤ 1 → e ≤ 1 → f ≤ 1 → g ≤ 1 → h ≤ 1 → 0 < r → r < 8
    → (r ≤ 1 → b ≡ 0) → (r ≤ 2 → c ≡ 0) → (r ≤ 3 → d ≡ 0) → (r ≤ 4 → e ≡ 0) → (r ≤ 5 → f ≡ 0) → (r ≤ 6 → g ≡ 0) → (r ≤ 7 → h ≡ 0)
    → (a + 2 * b + 4 * c + 8 * d + 16 * e + 32 * f + 64 * g + 128 * h) / 2 ^ r ≡ 0
low-bits a b c d e f g h zero p q s t u v w x z l zb zc zd ze zf zg zh = absurd (omega (arith, z))
low-bits a b c d e f g h (suc zero) p q s t u v w x z l zb zc zd ze zf zg zh =
    let nb = zb (omega arith) in
    let nc = zc (omega arith) in
    let nd = zd (omega arith) in
    let ne = ze (omega arith) in
    let nf = zf (omega arith) in
    let ng = zg (omega arith) in
    let nh = zh (omega arith) in
    omega (arith, nb, nc, nd, ne, nf, ng, nh, p)
low-bits a b c d e f g h (suc (suc zero)) p q s t u v w x z l zb zc zd ze zf zg zh =
    let nc = zc (omega arith) in
    let nd = zd (omega arith) in
    let ne = ze (omega arith) in
    let nf = zf (omega arith) in
    let ng = zg (omega arith) in
    let nh = zh (omega arith) in
    omega (arith, nc, nd, ne, nf, ng, nh, p, q)
low-bits a b c d e f g h (suc (suc (suc zero))) p q s t u v w x z l zb zc zd ze zf zg zh =
    let nd = zd (omega arith) in
    let ne = ze (omega arith) in
    let nf = zf (omega arith) in
    let ng = zg (omega arith) in
    let nh = zh (omega arith) in
    omega (arith, nd, ne, nf, ng, nh, p, q, s)
low-bits a b c d e f g h (suc (suc (suc (suc zero)))) p q s t u v w x z l zb zc zd ze zf zg zh =
    let ne = ze (omega arith) in
    let nf = zf (omega arith) in
    let ng = zg (omega arith) in
    let nh = zh (omega arith) in
    omega (arith, ne, nf, ng, nh, p, q, s, t)
low-bits a b c d e f g h (suc (suc (suc (suc (suc zero))))) p q s t u v w x z l zb zc zd ze zf zg zh =
    let nf = zf (omega arith) in
    let ng = zg (omega arith) in
    let nh = zh (omega arith) in
    omega (arith, nf, ng, nh, p, q, s, t, u)
low-bits a b c d e f g h (suc (suc (suc (suc (suc (suc zero)))))) p q s t u v w x z l zb zc zd ze zf zg zh =
    let ng = zg (omega arith) in
    let nh = zh (omega arith) in
    omega (arith, ng, nh, p, q, s, t, u, v)
low-bits a b c d e f g h (suc (suc (suc (suc (suc (suc (suc zero))))))) p q s t u v w x z l zb zc zd ze zf zg zh =
    let nh = zh (omega arith) in
    omega (arith, nh, p, q, s, t, u, v, w)
low-bits a b c d e f g h (suc (suc (suc (suc (suc (suc (suc (suc r)))))))) p q s t u v w x z l zb zc zd ze zf zg zh = absurd (omega (arith, l))

-- are 0
pub high_zero : (rows : List Bool) (k r : ℕ) → 0 < r → r < 8 → length rows ≤ 8 * k + r → bitmap_byte rows k / 2 ^ r ≡ 0
high_zero rows k r some l h =
    low-bits _ _ _ _ _ _ _ _ r (value-small rows _) (value-small rows _) (value-small rows _) (value-small rows _) (value-small rows _) (value-small rows _) (value-small rows _) (value-small rows _) some l
    (λ p. past-zero rows _ (omega (arith, h, p))) (λ p. past-zero rows _ (omega (arith, h, p))) (λ p. past-zero rows _ (omega (arith, h, p))) (λ p. past-zero rows _ (omega (arith, h, p)))
    (λ p. past-zero rows _ (omega (arith, h, p))) (λ p. past-zero rows _ (omega (arith, h, p))) (λ p. past-zero rows _ (omega (arith, h, p)))
