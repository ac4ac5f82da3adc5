-- The bytes of a value, as the lowest of eight.
use Rattle.std.proofs.Common.{◌≡◌, ℕ, ℤ, zero, suc, ◌+◌, ◌*◌, ◌/◌, ◌%◌, ◌<◌, ◌^◌, true, List, [], ◌∷◌, ◌++◌, length, take, pos, negsuc, refl, ap, ◌∙◌, arith}
use Rattle.std.specs.Int.{w8, w16, w32, w64, w128, to_le_bytes, cast_unsigned}
use Rattle.std.proofs.lemmas.Bool.Decides.{nat_tests}
use Rattle.vx_data.specs.declared.ptype.PType.{PType}
use Rattle.vx_data.specs.declared.ptype.PType.TheVariants.{U8, U16, U32, U64, I8, I16, I32, I64}
use Rattle.vx_rows.specs.Columns.{value_size, width}
use Rattle.vx_rows.specs.Written.{value_bits, is_within, value_bytes}

low-1 : (m : ℕ) → take 1 (to_le_bytes w64 m) ≡ to_le_bytes w8 (m % 2 ^ 8)
low-1 m = let e : m % 256 ≡ m % 2 ^ 8 % 256 = omega arith in ap (λ b. b ∷ []) e

low-2 : (m : ℕ) → take 2 (to_le_bytes w64 m) ≡ to_le_bytes w16 (m % 2 ^ 16)
low-2 m =
    let a : m % 256 ≡ m % 2 ^ 16 % 256 = omega arith in
    let b : m / 256 ^ 1 % 256 ≡ m % 2 ^ 16 / 256 ^ 1 % 256 = omega arith in
    ap (λ x. x ∷ m / 256 ^ 1 % 256 ∷ []) a ∙ ap (λ x. m % 2 ^ 16 % 256 ∷ x ∷ []) b

low-4 : (m : ℕ) → take 4 (to_le_bytes w64 m) ≡ to_le_bytes w32 (m % 2 ^ 32)
low-4 m =
    let a : m % 256 ≡ m % 2 ^ 32 % 256 = omega arith in
    let b : m / 256 ^ 1 % 256 ≡ m % 2 ^ 32 / 256 ^ 1 % 256 = omega arith in
    let c : m / 256 ^ 2 % 256 ≡ m % 2 ^ 32 / 256 ^ 2 % 256 = omega arith in
    let d : m / 256 ^ 3 % 256 ≡ m % 2 ^ 32 / 256 ^ 3 % 256 = omega arith in
    rw (a, b, c, d) refl

in-word : (p : PType) (z : ℤ) → is_within p z ≡ true → cast_unsigned w128 z % 2 ^ 64 % 2 ^ (8 * value_size p) ≡ cast_unsigned (width p) z
in-word U8 (pos n) h = let less : n < 2 ^ value_bits U8 = grind (arith, nat_tests) in omega (arith, less)
in-word U8 (negsuc n) h = absurd cc
in-word U16 (pos n) h = let less : n < 2 ^ value_bits U16 = grind (arith, nat_tests) in omega (arith, less)
in-word U16 (negsuc n) h = absurd cc
in-word U32 (pos n) h = let less : n < 2 ^ value_bits U32 = grind (arith, nat_tests) in omega (arith, less)
in-word U32 (negsuc n) h = absurd cc
in-word U64 (pos n) h = let less : n < 2 ^ value_bits U64 = grind (arith, nat_tests) in omega (arith, less)
in-word U64 (negsuc n) h = absurd cc
in-word I8 (pos n) h = let less : n < 2 ^ value_bits I8 = grind (arith, nat_tests) in omega (arith, less)
in-word I8 (negsuc n) h = let less : n < 2 ^ value_bits I8 = grind (arith, nat_tests) in omega (arith, less)
in-word I16 (pos n) h = let less : n < 2 ^ value_bits I16 = grind (arith, nat_tests) in omega (arith, less)
in-word I16 (negsuc n) h = let less : n < 2 ^ value_bits I16 = grind (arith, nat_tests) in omega (arith, less)
in-word I32 (pos n) h = let less : n < 2 ^ value_bits I32 = grind (arith, nat_tests) in omega (arith, less)
in-word I32 (negsuc n) h = let less : n < 2 ^ value_bits I32 = grind (arith, nat_tests) in omega (arith, less)
in-word I64 (pos n) h = let less : n < 2 ^ value_bits I64 = grind (arith, nat_tests) in omega (arith, less)
in-word I64 (negsuc n) h = let less : n < 2 ^ value_bits I64 = grind (arith, nat_tests) in omega (arith, less)

low-8 : (m : ℕ) → take 8 (to_le_bytes w64 (m % 2 ^ 64)) ≡ to_le_bytes w64 (m % 2 ^ 64 % 2 ^ 64)
low-8 m = let e : m % 2 ^ 64 ≡ m % 2 ^ 64 % 2 ^ 64 = omega arith in ap (to_le_bytes w64) e

low-size : (p : PType) (m : ℕ) → take (value_size p) (to_le_bytes w64 (m % 2 ^ 64)) ≡ to_le_bytes (width p) (m % 2 ^ 64 % 2 ^ (8 * value_size p))
low-size U8 m = low-1 (m % 2 ^ 64)
low-size U16 m = low-2 (m % 2 ^ 64)
low-size U32 m = low-4 (m % 2 ^ 64)
low-size U64 m = low-8 m
low-size I8 m = low-1 (m % 2 ^ 64)
low-size I16 m = low-2 (m % 2 ^ 64)
low-size I32 m = low-4 (m % 2 ^ 64)
low-size I64 m = low-8 m

kept-front : (xs ys : List ℕ) (n k : ℕ) → length xs ≡ n → take (n + k) (xs ++ ys) ≡ xs ++ take k ys
kept-front [] ys n k e = let none : n + k ≡ k = omega (arith, e) in ap (λ j. take j ys) none
kept-front (x ∷ xs) ys zero k e = cc
kept-front (x ∷ xs) ys (suc n) k e = let more : suc n + k ≡ suc (n + k) = omega arith in rw more (ap (λ zs. x ∷ zs) (kept-front xs ys n k (omega (arith, e))))

pub low_bytes : (p : PType) (z : ℤ) (bytes : List ℕ) (n m : ℕ) → is_within p z ≡ true → n ≡ length bytes + value_size p → m ≡ cast_unsigned w128 z % 2 ^ 64
    → take n (bytes ++ to_le_bytes w64 m) ≡ bytes ++ value_bytes p z
low_bytes p z bytes n m h e f =
    rw (e, f) (kept-front bytes (to_le_bytes w64 (cast_unsigned w128 z % 2 ^ 64)) (length bytes) (value_size p) refl
    ∙ ap (λ xs. bytes ++ xs) (low-size p (cast_unsigned w128 z) ∙ ap (to_le_bytes (width p)) (in-word p z h)))
