-- The bytes of integers are those that were read.
use Rattle.std.proofs.Common.{◌≡◌, ℕ, zero, suc, ◌+◌, ◌-◌, ◌*◌, ◌<◌, ◌≤◌, ◌^◌, Bool, true, false, cond, List, [], ◌∷◌, ◌++◌, length, take, drop, get_or, Option, Some, None, refl, ap, sym, ◌∙◌, subst, arith}
use Rattle.std.specs.Prelude.{◌||◌, ◌==◌}
use Rattle.std.specs.List.{flat_map}
use Rattle.std.specs.Int.{w8, w16, w32, w64, to_le_bytes, from_le_bytes, cast_unsigned}
use Rattle.std.proofs.lemmas.Nat.{le_bytes_2, le_bytes_4, le_bytes_8}
use Rattle.std.proofs.lemmas.Int.{of_z-to_z}
use Rattle.std.proofs.lemmas.Bool.Decides.{nat_tests}
use Rattle.vx_data.specs.declared.ptype.PType.{PType}
use Rattle.vx_data.specs.declared.ptype.PType.TheVariants.{U8, U16, U32, U64, I8, I16, I32, I64}
use Rattle.vx_rows.specs.Span.{span, every}
use Rattle.vx_rows.specs.Bits.{present_at}
use Rattle.vx_rows.specs.Columns.{value_size, width, value_of, raw_at, value_place, is_clear, int_row}
use Rattle.vx_rows.specs.Written.{cell}
use Rattle.vx_rows.proofs.SpanLemmas.{every_all}
use Rattle.vx_rows.proofs.IntLemmas.{place_inside}
use Rattle.vx_rows.proofs.CellLemmas.{times_next}

abbrev pub AreBytes : List ℕ → Type 0
AreBytes b = (i : ℕ) → get_or b i 0 < 256

taken : (b : List ℕ) (n : ℕ) → AreBytes b → AreBytes (take n b)
taken [] zero h i = omega arith
taken [] (suc n) h i = omega arith
taken (x ∷ b) zero h i = omega arith
taken (x ∷ b) (suc n) h zero = h 0
taken (x ∷ b) (suc n) h (suc i) = taken b n (λ j. h (suc j)) i

dropped : (b : List ℕ) (n : ℕ) → AreBytes b → AreBytes (drop n b)
dropped [] zero h i = h i
dropped [] (suc n) h i = omega arith
dropped (x ∷ b) zero h i = h i
dropped (x ∷ b) (suc n) h i = dropped b n (λ j. h (suc j)) i

le_bytes_1 : (bs : List ℕ) (n : ℕ) → length bs ≡ 1 → AreBytes bs → n ≡ from_le_bytes w8 bs → to_le_bytes w8 n ≡ bs
le_bytes_1 [] n l h e = cc
le_bytes_1 (b ∷ []) n l h e = let x : b < 256 = h 0 in ap (λ y. y ∷ []) (omega (arith, e, x))
le_bytes_1 (b ∷ c ∷ bs) n l h e = absurd (omega (arith, l))

bytes-again : (p : PType) (bs : List ℕ) → length bs ≡ value_size p → AreBytes bs → to_le_bytes (width p) (from_le_bytes (width p) bs) ≡ bs
bytes-again U8 bs l h = le_bytes_1 bs _ l h refl
bytes-again U16 bs l h = le_bytes_2 bs _ l h refl
bytes-again U32 bs l h = le_bytes_4 bs _ l h refl
bytes-again U64 bs l h = le_bytes_8 bs _ l h refl
bytes-again I8 bs l h = le_bytes_1 bs _ l h refl
bytes-again I16 bs l h = le_bytes_2 bs _ l h refl
bytes-again I32 bs l h = le_bytes_4 bs _ l h refl
bytes-again I64 bs l h = le_bytes_8 bs _ l h refl

low-8 : (n : ℕ) → from_le_bytes w8 (to_le_bytes w8 n) < 2 ^ 8
low-8 n = omega arith

low-16 : (n : ℕ) → from_le_bytes w16 (to_le_bytes w16 n) < 2 ^ 16
low-16 n = omega arith

low-32 : (n : ℕ) → from_le_bytes w32 (to_le_bytes w32 n) < 2 ^ 32
low-32 n = omega arith

low-64 : (n : ℕ) → from_le_bytes w64 (to_le_bytes w64 n) < 2 ^ 64
low-64 n = omega arith

-- a number that stands in bytes is the value's
raw-again : (p : PType) (n : ℕ) → n ≡ from_le_bytes (width p) (to_le_bytes (width p) n) → cast_unsigned (width p) (value_of p n) ≡ n
raw-again U8 n e = refl
raw-again U16 n e = refl
raw-again U32 n e = refl
raw-again U64 n e = refl
raw-again I8 n e = of_z-to_z w8 n (subst (λ m. m < 2 ^ 8) (sym e) (low-8 n))
raw-again I16 n e = of_z-to_z w16 n (subst (λ m. m < 2 ^ 16) (sym e) (low-16 n))
raw-again I32 n e = of_z-to_z w32 n (subst (λ m. m < 2 ^ 32) (sym e) (low-32 n))
raw-again I64 n e = of_z-to_z w64 n (subst (λ m. m < 2 ^ 64) (sym e) (low-64 n))

zero-again : (p : PType) (n : ℕ) → (n == 0) ≡ true → cell p None ≡ to_le_bytes (width p) n
zero-again p n h = let e : 0 ≡ n = grind (arith, nat_tests) in zero-of p n e
  where
    zero-of : (p : PType) (n : ℕ) → 0 ≡ n → cell p None ≡ to_le_bytes (width p) n
    zero-of U8 n e = ap (to_le_bytes w8) e
    zero-of U16 n e = ap (to_le_bytes w16) e
    zero-of U32 n e = ap (to_le_bytes w32) e
    zero-of U64 n e = ap (to_le_bytes w64) e
    zero-of I8 n e = ap (to_le_bytes w8) e
    zero-of I16 n e = ap (to_le_bytes w16) e
    zero-of I32 n e = ap (to_le_bytes w32) e
    zero-of I64 n e = ap (to_le_bytes w64) e

row-again : (p : PType) (here : Bool) (n : ℕ) → n ≡ from_le_bytes (width p) (to_le_bytes (width p) n) → (here || (n == 0)) ≡ true → cell p (cond here (Some (value_of p n)) None) ≡ to_le_bytes (width p) n
row-again p true n e h = ap (to_le_bytes (width p)) (raw-again p n e)
row-again p false n e h = zero-again p n h

long-part : (b : List ℕ) (at n : ℕ) → at + n ≤ length b → length (take n (drop at b)) ≡ n
long-part b at zero h = refl
long-part [] zero (suc n) h = absurd (omega (arith, h))
long-part [] (suc at) (suc n) h = absurd (omega (arith, h))
long-part (x ∷ b) zero (suc n) h = ap suc (long-part b 0 n (omega (arith, h)))
long-part (x ∷ b) (suc at) (suc n) h = long-part b at (suc n) (omega (arith, h))

one-cell : (p : PType) (present : Option (List Bool)) (b : List ℕ) (at row : ℕ) → AreBytes b → value_place p at row + value_size p ≤ length b → is_clear p present b at row ≡ true
    → cell p (int_row p present b at row) ≡ take (value_size p) (drop (value_place p at row) b)
one-cell p present b at row bytes inside clear =
    let again = bytes-again p (take (value_size p) (drop (value_place p at row) b)) (long-part b (value_place p at row) (value_size p) inside)
    (taken (drop (value_place p at row) b) (value_size p) (dropped b (value_place p at row) bytes)) in
    row-again p (present_at present row) (raw_at p b (value_place p at row)) (ap (from_le_bytes (width p)) (sym again)) clear ∙ again

take-add : (b : List ℕ) (m n : ℕ) → take (m + n) b ≡ take m b ++ take n (drop m b)
take-add b zero n = ap (λ k. take k b) (omega arith)
take-add [] (suc m) n = let e : suc m + n ≡ suc (m + n) = omega arith in ap (λ k. take k []) e ∙ none n
  where
    none : (n : ℕ) → ◌≡◌ {A = List ℕ} [] (take n [])
    none zero = refl
    none (suc n) = refl
take-add (x ∷ b) (suc m) n = let e : suc m + n ≡ suc (m + n) = omega arith in ap (λ k. take k (x ∷ b)) e ∙ ap (λ ys. x ∷ ys) (take-add b m n)

drop-add : (b : List ℕ) (m n : ℕ) → drop n (drop m b) ≡ drop (m + n) b
drop-add b zero n = ap (λ k. drop k b) (omega arith)
drop-add [] (suc m) n = let e : suc m + n ≡ suc (m + n) = omega arith in none n ∙ ap (λ k. drop k []) (sym e)
  where
    none : (n : ℕ) → ◌≡◌ {A = List ℕ} (drop n []) []
    none zero = refl
    none (suc n) = refl
drop-add (x ∷ b) (suc m) n = let e : suc m + n ≡ suc (m + n) = omega arith in drop-add b m n ∙ ap (λ k. drop k (x ∷ b)) (sym e)

place-rises : (p : PType) (at k n : ℕ) → value_place p at k ≤ value_place p at (k + n)
place-rises U8 at k n = omega arith
place-rises U16 at k n = omega arith
place-rises U32 at k n = omega arith
place-rises U64 at k n = omega arith
place-rises I8 at k n = omega arith
place-rises I16 at k n = omega arith
place-rises I32 at k n = omega arith
place-rises I64 at k n = omega arith

cells-from : (p : PType) (present : Option (List Bool)) (b : List ℕ) (at k n : ℕ) → AreBytes b → value_place p at (k + n) ≤ length b → ((i : ℕ) → i < k + n → is_clear p present b at i ≡ true)
    → flat_map (cell p) (span (int_row p present b at) k n) ≡ take (value_size p * n) (drop (value_place p at k) b)
cells-from p present b at k zero bytes inside clear = let e : 0 ≡ value_size p * 0 = omega arith in ap (λ m. take m (drop (value_place p at k) b)) e
cells-from p present b at k (suc n) bytes inside clear =
    let count : k + suc n ≡ k + 1 + n = omega arith in
    let here : k + suc n ≡ suc (k + n) = omega arith in
    let step = times_next (value_size p) n in
    let placed = times_next (value_size p) k in
    let more : k + 1 ≡ suc k = omega arith in
    let next : value_place p at k + value_size p ≡ value_place p at (k + 1) = omega (arith, placed) ∙ ap (value_place p at) (sym more) in
    let fits : value_place p at (k + 1) ≤ value_place p at (k + suc n) = subst (λ m. value_place p at (k + 1) ≤ value_place p at m) (sym count) (place-rises p at (k + 1) n) in
    ap (λ xs. xs ++ flat_map (cell p) (span (int_row p present b at) (k + 1) n)) (one-cell p present b at k bytes (omega (arith, next, fits, inside)) (clear k (omega arith)))
    ∙ ap (λ xs. take (value_size p) (drop (value_place p at k) b) ++ xs) (cells-from p present b at (k + 1) n bytes (subst (λ m. value_place p at m ≤ length b) count inside) (λ i l. clear i (omega (arith, l, count)))
    ∙ ap (λ m. take (value_size p * n) (drop m b)) (sym next) ∙ ap (take (value_size p * n)) (sym (drop-add b (value_place p at k) (value_size p))))
    ∙ sym (take-add (drop (value_place p at k) b) (value_size p) (value_size p * n))
    ∙ ap (λ m. take m (drop (value_place p at k) b)) (sym step)

-- where null rows are 0, the bytes of the rows are those that they were read from
pub cells_again : (p : PType) (present : Option (List Bool)) (b : List ℕ) (at n : ℕ) → ((i : ℕ) → get_or b i 0 < 256) → value_place p at n ≤ length b → every (is_clear p present b at) 0 n ≡ true
    → flat_map (cell p) (span (int_row p present b at) 0 n) ≡ take (value_place p at n - at) (drop at b)
cells_again p present b at n bytes inside clear =
    let zeroth : 0 + n ≡ n = omega arith in
    let none = times-zero (value_size p) in
    let from : value_place p at 0 ≡ at = omega (arith, none) in
    let size : value_size p * n ≡ value_place p at n - at = omega arith in
    cells-from p present b at 0 n bytes (subst (λ m. value_place p at m ≤ length b) (sym zeroth) inside)
    (λ i l. ap (is_clear p present b at) (omega arith) ∙ every_all (is_clear p present b at) 0 n clear i (omega (arith, l)))
    ∙ ap (λ m. take (value_size p * n) (drop m b)) from ∙ ap (λ m. take m (drop at b)) size
  where
    times-zero : (s : ℕ) → s * 0 ≡ 0
    times-zero s = omega arith

-- the number that stands in so many bytes
pub raw_below : (p : PType) (b : List ℕ) (at row n : ℕ) → ((i : ℕ) → get_or b i 0 < 256) → row < n → value_size p * n ≤ length b - at → raw_at p b (value_place p at row) < 2 ^ (8 * value_size p)
raw_below p b at row n bytes less inside =
    let ends = place_inside p at row n (length b) less (room-for p at row n (length b) less inside) in
    let again = bytes-again p (take (value_size p) (drop (value_place p at row) b)) (long-part b (value_place p at row) (value_size p) ends)
    (taken (drop (value_place p at row) b) (value_size p) (dropped b (value_place p at row) bytes)) in
    subst (λ m. m < 2 ^ (8 * value_size p)) (ap (from_le_bytes (width p)) again) (low-of p (raw_at p b (value_place p at row)))
  where
    room-for : (p : PType) (at row n len : ℕ) → row < n → value_size p * n ≤ len - at → value_place p at n ≤ len
    room-for U8 at row n len l h = omega (arith, l, h)
    room-for U16 at row n len l h = omega (arith, l, h)
    room-for U32 at row n len l h = omega (arith, l, h)
    room-for U64 at row n len l h = omega (arith, l, h)
    room-for I8 at row n len l h = omega (arith, l, h)
    room-for I16 at row n len l h = omega (arith, l, h)
    room-for I32 at row n len l h = omega (arith, l, h)
    room-for I64 at row n len l h = omega (arith, l, h)

    low-of : (p : PType) (n : ℕ) → from_le_bytes (width p) (to_le_bytes (width p) n) < 2 ^ (8 * value_size p)
    low-of U8 n = low-8 n
    low-of U16 n = low-16 n
    low-of U32 n = low-32 n
    low-of U64 n = low-64 n
    low-of I8 n = low-8 n
    low-of I16 n = low-16 n
    low-of I32 n = low-32 n
    low-of I64 n = low-64 n
