-- A list from one of its places on.
use Rattle.std.proofs.Common.{◌≡◌, ℕ, zero, suc, ◌+◌, ◌<◌, get_or, map, List, [], ◌∷◌, ◌++◌, length, take, drop, Some, refl, sym, ap, ◌∙◌, add-one, append_assoc, arith}
use Rattle.std.proofs.lemmas.List.{append-nil}
use Rattle.std.specs.Prelude.{slice_get, slice_index}
use Rattle.vx_print.specs.Lines.{numbered}

drop-get_suc : {A : Type 0} (xs : List A) (i : ℕ) (x : A) → slice_get xs i ≡ Some x → drop i xs ≡ x ∷ drop (suc i) xs
drop-get_suc [] i x h = absurd cc
drop-get_suc (y ∷ ys) zero x h = let same : y ≡ x = cc in ap (λ z. z ∷ ys) same
drop-get_suc (y ∷ ys) (suc i) x h = drop-get_suc ys i x h

pub drop-get : {A : Type 0} (xs : List A) (i : ℕ) (x : A) → slice_get xs i ≡ Some x → drop i xs ≡ x ∷ drop (i + 1) xs
drop-get xs i x h = drop-get_suc xs i x h ∙ ap (λ n. x ∷ drop n xs) (sym (add-one i))

numbered-append : {A : Type 0} (text : ℕ → A → List ℕ) (i : ℕ) (xs ys : List A) → numbered text i (xs ++ ys) ≡ numbered text i xs ++ numbered text (i + length xs) ys
numbered-append text i [] ys = ap (λ n. numbered text n ys) (omega arith)
numbered-append text i (x ∷ xs) ys =
    ap (λ t. text i x ++ t) (numbered-append text (i + 1) xs ys ∙ ap (λ n. numbered text (i + 1) xs ++ numbered text n ys) (omega arith))
    ∙ sym (append_assoc (text i x) (numbered text (i + 1) xs) (numbered text (i + length (x ∷ xs)) ys))

take-get_suc : {A : Type 0} (xs : List A) (i : ℕ) (x : A) → slice_get xs i ≡ Some x → take (suc i) xs ≡ take i xs ++ x ∷ []
take-get_suc [] i x h = absurd cc
take-get_suc (y ∷ ys) zero x h = let same : y ≡ x = cc in ap (λ z. z ∷ []) same
take-get_suc (y ∷ ys) (suc i) x h = ap (λ t. y ∷ t) (take-get_suc ys i x h)

length-of_take : {A : Type 0} (xs : List A) (i : ℕ) (x : A) → slice_get xs i ≡ Some x → length (take i xs) ≡ i
length-of_take [] i x h = absurd cc
length-of_take (y ∷ ys) zero x h = refl
length-of_take (y ∷ ys) (suc i) x h = ap suc (length-of_take ys i x h)

-- the texts of one element more
pub numbered-take : {A : Type 0} (text : ℕ → A → List ℕ) (xs : List A) (i : ℕ) (x : A) → slice_get xs i ≡ Some x → numbered text 0 (take i xs) ++ text i x ≡ numbered text 0 (take (i + 1) xs)
numbered-take text xs i x h =
    sym (ap (λ t. numbered text 0 (take i xs) ++ t) (append-nil (text i x)))
    ∙ sym (ap (λ n. numbered text 0 (take i xs) ++ numbered text n (x ∷ [])) (let e : 0 + length (take i xs) ≡ i = omega (arith, length-of_take xs i x h) in e))
    ∙ sym (numbered-append text 0 (take i xs) (x ∷ []))
    ∙ ap (λ t. numbered text 0 t) (sym (take-get_suc xs i x h) ∙ ap (λ n. take n xs) (sym (add-one i)))

-- what an element is mapped to, at its place
pub got-mapped : {A B : Type 0} (f : A → B) (xs : List A) (i : ℕ) (x : A) → i < length xs → x ≡ get_or xs i x → slice_get (map f xs) i ≡ Some (f x)
got-mapped f [] i x inside is = absurd (omega (arith, inside))
got-mapped f (y ∷ ys) zero x inside is = ap (λ z. Some (f z)) (sym is)
got-mapped f (y ∷ ys) (suc i) x inside is = got-mapped f ys i x (omega (arith, inside)) is

-- the element at a place of a list
pub got-here : {A : Type 0} (xs : List A) (i : ℕ) (x : A) → i < length xs → x ≡ get_or xs i x → slice_get xs i ≡ Some x
got-here [] i x inside is = absurd (omega (arith, inside))
got-here (y ∷ ys) zero x inside is = ap Some (sym is)
got-here (y ∷ ys) (suc i) x inside is = got-here ys i x (omega (arith, inside)) is

pub got-index : (xs : List ℕ) (i : ℕ) → i < length xs → slice_get xs i ≡ Some (slice_index xs i)
got-index [] i inside = absurd (omega (arith, inside))
got-index (y ∷ ys) zero inside = refl
got-index (y ∷ ys) (suc i) inside = got-index ys i (omega (arith, inside))
