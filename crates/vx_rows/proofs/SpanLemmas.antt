-- A run of values of a function.
use Rattle.std.proofs.Common.{◌≡◌, ℕ, zero, suc, ◌+◌, ◌-◌, ◌<◌, ◌≤◌, ◌&&◌, Bool, true, false, [], ◌∷◌, ◌++◌, length, List, refl, ap, sym, ◌∙◌, arith, append_assoc}
use Rattle.std.specs.Prelude.{slice_index_or}
use Rattle.vx_rows.specs.Span.{span, every}

pub length_span : {A : Type 0} → (f : ℕ → A) (k n : ℕ) → length (span f k n) ≡ n
length_span f k zero = refl
length_span f k (suc n) = ap suc (length_span f (k + 1) n)

pub get_or_span : {A : Type 0} → (f : ℕ → A) (k n i : ℕ) (d : A) → i < n → slice_index_or (span f k n) i d ≡ f (k + i)
get_or_span f k zero i d h = absurd (omega arith)
get_or_span f k (suc n) zero d h = ap f (omega arith)
get_or_span f k (suc n) (suc i) d h = get_or_span f (k + 1) n i d (omega arith) ∙ ap f (omega arith)

span_last : {A : Type 0} → (f : ℕ → A) (k n : ℕ) → span f k (suc n) ≡ span f k n ++ f (k + n) ∷ []
span_last f k zero = ap (λ i. f i ∷ []) (omega arith)
span_last f k (suc n) = ap (λ xs. f k ∷ xs) (span_last f (k + 1) n ∙ ap (λ i. span f (k + 1) n ++ f i ∷ []) (omega arith))

pub span_push : {A : Type 0} → (f : ℕ → A) (k n : ℕ) → span f k (n + 1) ≡ span f k n ++ f (k + n) ∷ []
span_push f k n = let e : n + 1 ≡ suc n = omega arith in rw e (span_last f k n)

pub span_same : {A : Type 0} → (f g : ℕ → A) (k n : ℕ) → ((i : ℕ) → k ≤ i → i < k + n → f i ≡ g i) → span f k n ≡ span g k n
span_same f g k zero h = refl
span_same f g k (suc n) h = ap (λ x. x ∷ span f (k + 1) n) (h k (omega arith) (omega arith)) ∙ ap (λ xs. g k ∷ xs) (span_same f g (k + 1) n (λ i l u. h i (omega arith) (omega arith)))

-- one step of a test at each place
pub every_step : (f : ℕ → Bool) (k n : ℕ) → k < n → every f k (n - k) ≡ (f k && every f (k + 1) (n - (k + 1)))
every_step f k n h = let e : n - k ≡ suc (n - (k + 1)) = omega arith in rw e refl

pub every_all : (f : ℕ → Bool) (k n : ℕ) → every f k n ≡ true → (i : ℕ) → i < n → f (k + i) ≡ true
every_all f k zero h i l = absurd (omega arith)
every_all f k (suc n) h i l = at (f k) (every f (k + 1) n) i h refl refl (λ y j u. every_all f (k + 1) n y j u) l
  where
    at : (a b : Bool) (i : ℕ) → (a && b) ≡ true → f k ≡ a → every f (k + 1) n ≡ b → (every f (k + 1) n ≡ true → (j : ℕ) → j < n → f (k + 1 + j) ≡ true) → i < suc n → f (k + i) ≡ true
    at true true zero e x y rest u = ap f (omega arith) ∙ x
    at true true (suc i) e x y rest u = ap f (omega arith) ∙ rest y i (omega arith)
    at true false i e x y rest u = cc
    at false b i e x y rest u = cc

-- one more behind a front
pub span_more : {A : Type 0} → (front : List A) (f : ℕ → A) (k : ℕ) → (front ++ span f 0 k) ++ f k ∷ [] ≡ front ++ span f 0 (k + 1)
span_more front f k =
    let e : 0 + k ≡ k = omega arith in
    append_assoc front (span f 0 k) (f k ∷ []) ∙ ap (λ xs. front ++ xs) (ap (λ i. span f 0 k ++ f i ∷ []) (sym e) ∙ sym (span_push f 0 k))

pub span_behind : {A : Type 0} → (front : List A) (f : ℕ → A) (first k : ℕ) → (front ++ span f first k) ++ f (first + k) ∷ [] ≡ front ++ span f first (k + 1)
span_behind front f first k = append_assoc front (span f first k) (f (first + k) ∷ []) ∙ ap (λ xs. front ++ xs) (sym (span_push f first k))

-- a test that holds at each place
pub every_holds : (f : ℕ → Bool) (k n : ℕ) → ((i : ℕ) → k ≤ i → i < k + n → f i ≡ true) → every f k n ≡ true
every_holds f k zero h = refl
every_holds f k (suc n) h = ap (λ b. b && every f (k + 1) n) (h k (omega arith) (omega arith)) ∙ every_holds f (k + 1) n (λ i l u. h i (omega arith) (omega arith))
