-- How many numbers pass a test.
use Rattle.std.proofs.Common.{◌≡◌, ◌≢◌, ℕ, zero, suc, ◌+◌, ◌<◌, ◌≤◌, Bool, true, false, cond, refl, ap, subst, arith, inl, inr, add-one}
use Rattle.std.proofs.lemmas.Bool.{cases_lt}
use Rattle.vx_source.specs.History.{count_below}

abbrev bit : Bool → ℕ
bit b = cond b 1 0

-- tests that agree below
pub count-same : (n : ℕ) (p q : ℕ → Bool) → ((i : ℕ) → i < n → p i ≡ q i) → count_below n p ≡ count_below n q
count-same zero p q same = refl
count-same (suc n) p q same =
    let rest = count-same n p q (λ i l. same i (omega arith)) in
    let last = ap bit (same n (omega arith)) in
    omega (arith, rest, last)

-- tests that agree but at one number, which the first passes and the second does not
pub count-more : (n a : ℕ) (p q : ℕ → Bool) → a < n → ((i : ℕ) → i ≢ a → p i ≡ q i) → p a ≡ true → q a ≡ false → count_below n p ≡ count_below n q + 1
count-more zero a p q l same yes_ no_ = absurd (omega arith)
count-more (suc n) a p q l same yes_ no_ = elim (cases_lt a n) [
  | inl less ↦
      let rest = count-more n a p q less same yes_ no_ in
      let last = ap bit (same n (λ e. omega arith)) in
      omega (arith, rest, last)
  | inr more ↦
      let is : a ≡ n = omega arith in
      let rest = count-same n p q (λ i h. same i (λ e. omega arith)) in
      let first : cond (p n) 1 0 ≡ 1 = ap bit (subst (λ m. p m ≡ true) is yes_) in
      let second : cond (q n) 1 0 ≡ 0 = ap bit (subst (λ m. q m ≡ false) is no_) in
      omega (arith, rest, first, second)
]

-- a number that passes
pub count-some : (n a : ℕ) (p : ℕ → Bool) → a < n → p a ≡ true → 1 ≤ count_below n p
count-some zero a p l yes_ = absurd (omega arith)
count-some (suc n) a p l yes_ = elim (cases_lt a n) [
  | inl less ↦ let rest = count-some n a p less yes_ in omega (arith, rest)
  | inr more ↦
      let is : a ≡ n = omega arith in
      let last : cond (p n) 1 0 ≡ 1 = ap bit (subst (λ m. p m ≡ true) is yes_) in
      omega (arith, last)
]

-- where one passes, there is such a number
pub count-found : (n : ℕ) (p : ℕ → Bool) → 1 ≤ count_below n p → (a : ℕ) × ((a < n) × (p a ≡ true))
count-found zero p h = absurd (omega arith)
count-found (suc n) p h = at (p n) refl (λ l. count-found n p l)
  where
    at : (b : Bool) → p n ≡ b → (1 ≤ count_below n p → (a : ℕ) × ((a < n) × (p a ≡ true))) → (a : ℕ) × ((a < suc n) × (p a ≡ true))
    at true e more = (n, (omega arith, e))
    at false e more =
        let last : cond (p n) 1 0 ≡ 0 = ap bit e in
        let rest = more (omega (arith, last)) in
        (rest.0, (let l = rest.1.0 in omega (arith, l), rest.1.1))

-- no more than there are
pub count-most : (n : ℕ) (p : ℕ → Bool) → count_below n p ≤ n
count-most zero p = omega arith
count-most (suc n) p = at (p n) (count-most n p)
  where
    at : (b : Bool) → count_below n p ≤ n → count_below n p + cond b 1 0 ≤ suc n
    at true h = omega arith
    at false h = omega arith

-- one number more
pub count-next : (n : ℕ) (p : ℕ → Bool) → count_below (n + 1) p ≡ count_below n p + cond (p n) 1 0
count-next n p = rw add-one refl
