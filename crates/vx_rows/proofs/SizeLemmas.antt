-- The sizes of parts of columns, and sums that stop at the greatest number.
use Rattle.std.proofs.Common.{◌≡◌, ℕ, suc, ◌+◌, ◌-◌, ◌^◌, ◌<◌, ◌≤◌, List, length, take, drop, get_or, min, sum_by, ap, sym, ◌∙◌, drop-cons, arith}
use Rattle.std.specs.Prelude.{slice_range, slice_index_or}
use Rattle.std.proofs.Math.Nat.{min-eq_left}
use Rattle.std.proofs.lemmas.List.{drop_all, length-take, length-drop}
use Rattle.std.proofs.lemmas.List.Sums.{sum_by-cons}

pub capped : (size s t : ℕ) → min (size + s) (2 ^ 64 - 1) ≡ t → s ≡ 0 → size < 2 ^ 64 → size ≡ t
capped size s t h z l =
    let e : size ≡ size + s = omega (arith, z) in
    let cap : min size (2 ^ 64 - 1) ≡ size = min-eq_left (omega (arith, l)) in
    sym cap ∙ ap (λ n. min n (2 ^ 64 - 1)) e ∙ h

pub sum_past : {A : Type 0} → (f : A → ℕ) (xs : List A) (i : ℕ) → length xs ≤ i → sum_by f (drop i xs) ≡ 0
sum_past f xs i l = ap (sum_by f) (drop_all i xs l)

-- ---- parts

pub slice_len : {A : Type 0} → (xs : List A) (from to : ℕ) → length (slice_range xs from to) ≡ min (to - from) (length xs - from)
slice_len xs from to = length-take (to - from) (drop from xs) ∙ ap (min (to - from)) (length-drop from xs)

-- a part is its first row and those behind it
pub sum_next : {A : Type 0} → (f : A → ℕ) (xs : List A) (d : A) (row to : ℕ) → row < min to (length xs)
    → sum_by f (slice_range xs row to) ≡ f (slice_index_or xs row d) + sum_by f (slice_range xs (row + 1) to)
sum_next f xs d row to l =
    let more : to - row ≡ suc (to - (row + 1)) = omega (arith, l) in
    let after : suc row ≡ row + 1 = omega arith in
    ap (λ n. sum_by f (take n (drop row xs))) more ∙ ap (λ ys. sum_by f (take (suc (to - (row + 1))) ys)) (drop-cons xs row d (omega (arith, l)))
    ∙ sum_by-cons f (get_or xs row d) (take (to - (row + 1)) (drop (suc row) xs))
    ∙ ap (λ k. f (get_or xs row d) + sum_by f (take (to - (row + 1)) (drop k xs))) after
