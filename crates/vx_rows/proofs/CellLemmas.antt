-- Values of one size, one behind the other.
use Rattle.std.proofs.Common.{◌≡◌, ℕ, ℤ, zero, suc, ◌+◌, ◌*◌, ◌<◌, ◌^◌, true, List, [], ◌∷◌, ◌++◌, length, take, drop, pos, negsuc, nat_lt, refl, ap, sym, ◌∙◌, arith, append_assoc, length-append}
use Rattle.std.specs.Prelude.{slice_index_or}
use Rattle.std.specs.List.{flat_map}
use Rattle.std.specs.Int.{w8, w16, w32, w64, to_le_bytes, from_le_bytes, cast_signed, cast_unsigned}
use Rattle.std.proofs.lemmas.Nat.{from_le_bytes-to_le_bytes_2, from_le_bytes-to_le_bytes_4, from_le_bytes-to_le_bytes_8}
use Rattle.std.proofs.lemmas.Bool.Decides.{nat_tests}
use Rattle.std.proofs.lemmas.Int.{ints}
use Rattle.vx_data.specs.declared.ptype.PType.{PType}
use Rattle.vx_data.specs.declared.ptype.PType.TheVariants.{U8, U16, U32, U64, I8, I16, I32, I64}
use Rattle.vx_rows.specs.Columns.{value_size, width, value_of}
use Rattle.vx_rows.specs.Written.{is_within, value_bytes}

-- the front of a list that begins with another
pub take_front : {A : Type 0} → (xs ys : List A) (n : ℕ) → length xs ≡ n → take n (xs ++ ys) ≡ xs
take_front [] ys zero e = refl
take_front [] ys (suc n) e = cc
take_front (x ∷ xs) ys zero e = cc
take_front (x ∷ xs) ys (suc n) e = ap (λ zs. x ∷ zs) (take_front xs ys n (omega (arith, e)))

-- what comes behind a front
pub drop_front : {A : Type 0} → (xs ys : List A) (n : ℕ) → length xs ≡ n → drop n (xs ++ ys) ≡ ys
drop_front [] ys zero e = refl
drop_front [] ys (suc n) e = cc
drop_front (x ∷ xs) ys zero e = cc
drop_front (x ∷ xs) ys (suc n) e = drop_front xs ys n (omega (arith, e))

pub times_next : (s i : ℕ) → s * suc i ≡ s + s * i
times_next s i = grind arith

-- the bytes of a value among others of its size
pub value_found : {A : Type 0} → (g : A → List ℕ) (s : ℕ) → ((x : A) → length (g x) ≡ s) → (xs : List A) (d : A) (front rest : List ℕ) (i : ℕ) → i < length xs
    → take s (drop (length front + s * i) (front ++ (flat_map g xs ++ rest))) ≡ g (slice_index_or xs i d)
value_found g s long [] d front rest i l = absurd (omega arith)
value_found g s long (x ∷ xs) d front rest zero l =
    let e : length front ≡ length front + s * 0 = omega arith in
    ap (take s) (drop_front front (flat_map g (x ∷ xs) ++ rest) (length front + s * 0) e)
    ∙ ap (take s) (append_assoc (g x) (flat_map g xs) rest) ∙ take_front (g x) (flat_map g xs ++ rest) s (long x)
value_found g s long (x ∷ xs) d front rest (suc i) l =
    let step = times_next s i in
    let size = long x in
    let more : length (front ++ g x) ≡ length front + length (g x) = length-append front (g x) in
    let place : length front + s * suc i ≡ length (front ++ g x) + s * i = omega (arith, step, size, more) in
    let same : front ++ (flat_map g (x ∷ xs) ++ rest) ≡ (front ++ g x) ++ (flat_map g xs ++ rest) =
    ap (λ ys. front ++ ys) (append_assoc (g x) (flat_map g xs) rest) ∙ sym (append_assoc front (g x) (flat_map g xs ++ rest)) in
    ap (λ bs. take s (drop (length front + s * suc i) bs)) same
    ∙ ap (λ n. take s (drop n ((front ++ g x) ++ (flat_map g xs ++ rest)))) place
    ∙ value_found g s long xs d (front ++ g x) rest i (omega arith)

pub values_long : {A : Type 0} → (g : A → List ℕ) (s : ℕ) → ((x : A) → length (g x) ≡ s) → (xs : List A) → length (flat_map g xs) ≡ s * length xs
values_long g s long [] = omega arith
values_long g s long (x ∷ xs) =
    let size = long x in
    let more : length (g x ++ flat_map g xs) ≡ length (g x) + length (flat_map g xs) = length-append (g x) (flat_map g xs) in
    let rest = values_long g s long xs in
    let step = times_next s (length xs) in
    omega (arith, size, more, rest, step)

-- ---- integers

pub value_long : (p : PType) (n : ℤ) → length (value_bytes p n) ≡ value_size p
value_long U8 n = refl
value_long U16 n = refl
value_long U32 n = refl
value_long U64 n = refl
value_long I8 n = refl
value_long I16 n = refl
value_long I32 n = refl
value_long I64 n = refl

byte_again : (n : ℕ) → n < 2 ^ 8 → from_le_bytes w8 (to_le_bytes w8 n) ≡ n
byte_again n h = omega arith

below : (n k : ℕ) → nat_lt n k ≡ true → n < k
below n k h = grind (arith, nat_tests)

-- a value is read from its bytes
pub value_again : (p : PType) (n : ℤ) → is_within p n ≡ true → value_of p (from_le_bytes (width p) (value_bytes p n)) ≡ n
value_again U8 (pos n) h = ap pos (byte_again n (below n _ h))
value_again U8 (negsuc n) h = cc
value_again U16 (pos n) h = ap pos (from_le_bytes-to_le_bytes_2 n (below n _ h))
value_again U16 (negsuc n) h = cc
value_again U32 (pos n) h = ap pos (from_le_bytes-to_le_bytes_4 n (below n _ h))
value_again U32 (negsuc n) h = cc
value_again U64 (pos n) h = ap pos (from_le_bytes-to_le_bytes_8 n (below n _ h))
value_again U64 (negsuc n) h = cc
value_again I8 (pos n) h = let b = below n _ h in ap (cast_signed w8) (byte_again n (omega (arith, b))) ∙ omega (arith, ints, b)
value_again I8 (negsuc n) h = let b = below n _ h in ap (cast_signed w8) (byte_again (cast_unsigned w8 (negsuc n)) (omega (arith, ints, b))) ∙ omega (arith, ints, b)
value_again I16 (pos n) h = let b = below n _ h in ap (cast_signed w16) (from_le_bytes-to_le_bytes_2 n (omega (arith, b))) ∙ omega (arith, ints, b)
value_again I16 (negsuc n) h = let b = below n _ h in ap (cast_signed w16) (from_le_bytes-to_le_bytes_2 (cast_unsigned w16 (negsuc n)) (omega (arith, ints, b))) ∙ omega (arith, ints, b)
value_again I32 (pos n) h = let b = below n _ h in ap (cast_signed w32) (from_le_bytes-to_le_bytes_4 n (omega (arith, b))) ∙ omega (arith, ints, b)
value_again I32 (negsuc n) h = let b = below n _ h in ap (cast_signed w32) (from_le_bytes-to_le_bytes_4 (cast_unsigned w32 (negsuc n)) (omega (arith, ints, b))) ∙ omega (arith, ints, b)
value_again I64 (pos n) h = let b = below n _ h in ap (cast_signed w64) (from_le_bytes-to_le_bytes_8 n (omega (arith, b))) ∙ omega (arith, ints, b)
value_again I64 (negsuc n) h = let b = below n _ h in ap (cast_signed w64) (from_le_bytes-to_le_bytes_8 (cast_unsigned w64 (negsuc n)) (omega (arith, ints, b))) ∙ omega (arith, ints, b)
