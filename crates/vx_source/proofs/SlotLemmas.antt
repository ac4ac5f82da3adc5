-- Look-ups after an element is added or changed.
use Rattle.std.proofs.Common.{◌≡◌, ◌≢◌, ℕ, zero, suc, ◌<◌, List, [], ◌∷◌, ◌++◌, length, Option, Some, None, refl, sym, ap, ◌∙◌, arith, ◌==◌, true, false, ◌≤◌}
use Rattle.std.specs.Prelude.{slice_get, slice_set}
use Rattle.std.specs.Option.{option_map}
use Rattle.std.proofs.lemmas.Bool.Decides.{nat_tests}
use Rattle.std.proofs.lemmas.Option.{slice_get_past}
use Rattle.vx_source.specs.Kept.{change_found, update}

pub same-not : (n m : ℕ) → (n == m) ≡ false → n ≢ m
same-not n m e h = absurd (let t : (n == m) ≡ true = grind (arith, nat_tests) in let clash : true ≡ false = sym t ∙ e in cc)

pub same-is : (n m : ℕ) → (n == m) ≡ true → n ≡ m
same-is n m e = grind (arith, nat_tests)

pub get-push_last : {X : Type 0} (xs : List X) (x : X) → slice_get (xs ++ x ∷ []) (length xs) ≡ Some x
get-push_last [] x = refl
get-push_last (y ∷ ys) x = get-push_last ys x

pub get-push_other : {X : Type 0} (xs : List X) (x : X) (n : ℕ) → n ≢ length xs → slice_get (xs ++ x ∷ []) n ≡ slice_get xs n
get-push_other [] x zero ne = absurd (ne refl)
get-push_other [] x (suc n) ne = refl
get-push_other (y ∷ ys) x zero ne = refl
get-push_other (y ∷ ys) x (suc n) ne = get-push_other ys x n (λ e. ne (ap (λ k. suc k) e))

pub get-some : {X : Type 0} (xs : List X) (n : ℕ) (x : X) → slice_get xs n ≡ Some x → n < length xs
get-some [] n x e = cc
get-some (y ∷ ys) zero x e = omega arith
get-some (y ∷ ys) (suc n) x e = let h = get-some ys n x e in omega (arith, h)

get-changed_same : {X : Type 0} (f : X → X) (xs : List X) (i : ℕ) (o : Option X) → slice_get xs i ≡ o → slice_get (change_found f xs i o) i ≡ option_map f o
get-changed_same f xs i None e = e
get-changed_same f [] i (Some x) e = cc
get-changed_same f (y ∷ ys) zero (Some x) e = refl
get-changed_same f (y ∷ ys) (suc i) (Some x) e = get-changed_same f ys i (Some x) e

get-set_other : {X : Type 0} (xs : List X) (n m : ℕ) (x : X) → m ≢ n → slice_get (slice_set xs n x) m ≡ slice_get xs m
get-set_other [] n m x ne = refl
get-set_other (y ∷ ys) zero zero x ne = absurd (ne refl)
get-set_other (y ∷ ys) zero (suc m) x ne = refl
get-set_other (y ∷ ys) (suc n) zero x ne = refl
get-set_other (y ∷ ys) (suc n) (suc m) x ne = get-set_other ys n m x (λ e. ne (ap (λ k. suc k) e))

get-changed_other : {X : Type 0} (f : X → X) (xs : List X) (i n : ℕ) (o : Option X) → n ≢ i → slice_get (change_found f xs i o) n ≡ slice_get xs n
get-changed_other f xs i n None ne = refl
get-changed_other f xs i n (Some x) ne = get-set_other xs i n (f x) ne

-- the changed element
pub get-update_same : {X : Type 0} (f : X → X) (xs : List X) (i : ℕ) → slice_get (update f xs i) i ≡ option_map f (slice_get xs i)
get-update_same f xs i = get-changed_same f xs i (slice_get xs i) refl

-- the others
pub get-update_other : {X : Type 0} (f : X → X) (xs : List X) (i n : ℕ) → n ≢ i → slice_get (update f xs i) n ≡ slice_get xs n
get-update_other f xs i n ne = get-changed_other f xs i n (slice_get xs i) ne

length-set : {X : Type 0} (xs : List X) (n : ℕ) (x : X) → length (slice_set xs n x) ≡ length xs
length-set [] n x = refl
length-set (y ∷ ys) zero x = refl
length-set (y ∷ ys) (suc n) x = ap (λ k. suc k) (length-set ys n x)

length-changed : {X : Type 0} (f : X → X) (xs : List X) (i : ℕ) (o : Option X) → length (change_found f xs i o) ≡ length xs
length-changed f xs i None = refl
length-changed f xs i (Some x) = length-set xs i (f x)

-- no element more or less
pub length-update : {X : Type 0} (f : X → X) (xs : List X) (i : ℕ) → length (update f xs i) ≡ length xs
length-update f xs i = length-changed f xs i (slice_get xs i)

-- nothing stands at or past the end
pub get-past : {X : Type 0} (xs : List X) (n : ℕ) → length xs ≤ n → slice_get xs n ≡ None
get-past xs n h = slice_get_past xs n h

-- something stands before the end
pub get-within : {X : Type 0} (xs : List X) (n : ℕ) (o : Option X) → slice_get xs n ≡ o → n < length xs → (x : X) × (o ≡ Some x)
get-within xs n (Some x) e l = (x, refl)
get-within [] n None e l = absurd (omega arith)
get-within (y ∷ ys) zero None e l = cc
get-within (y ∷ ys) (suc n) None e l = get-within ys n None e (omega arith)
