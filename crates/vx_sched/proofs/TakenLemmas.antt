-- The numbers that are among others.
use Rattle.std.proofs.Common.{◌≡◌, ℕ, suc, zero, ◌-◌, ◌<◌, ◌≤◌, ◌==◌, ◌++◌, ◌||◌, Bool, true, false, List, [], ◌∷◌, length, get_or, nat_lt, refl, ap, sym, ◌∙◌, ⊎_elim, arith}
use Rattle.std.proofs.lemmas.Bool.{cases_lt}
use Rattle.std.proofs.lemmas.Bool.Decides.{nat_tests}
use Rattle.std.proofs.lemmas.List.{get_or_default}
use Rattle.std.proofs.lemmas.List.Sorted.{searched, IsNonDecreasingBy-push}
use Rattle.std.specs.List.{list_any}
use Rattle.std.specs.List.Sorted.{IsNonDecreasing, IsBinarySearchResult}
use Rattle.std.specs.BTreeMap.{is_at}
use Rattle.std.specs.Ordering.{nat_cmp}
use Rattle.std.specs.Prelude.{is_ok}
use Rattle.std.specs.declared.result.Result.{Result}
use Rattle.std.specs.declared.result.Result.TheVariants.{Ok, Err}
use Rattle.vx_sched.specs.Picks.{is_among}

among-at : (xs : List ℕ) (x i : ℕ) → i < length xs → get_or xs i 0 ≡ x → is_among xs x ≡ true
among-at [] x i l e = absurd (omega (arith, l))
among-at (y ∷ xs) x zero l e =
    let here : (y == x) ≡ true = grind (arith, nat_tests) in
    ap (λ b. b || is_among xs x) here
among-at (y ∷ xs) x (suc i) l e = or-second (y == x) (is_among xs x) (among-at xs x i (omega (arith, l)) e)
  where
    or-second : (a b : Bool) → b ≡ true → (a || b) ≡ true
    or-second true b h = refl
    or-second false b h = h

among-none : (xs : List ℕ) (x : ℕ) → ((i : ℕ) → i < length xs → (get_or xs i 0 == x) ≡ false) → is_among xs x ≡ false
among-none [] x h = refl
among-none (y ∷ xs) x h = ap (λ b. b || is_among xs x) (h 0 (omega arith)) ∙ among-none xs x (λ i l. h (suc i) (omega (arith, l)))

-- a binary search finds a number exactly where it is among those in order
pub search-tells : (xs : List ℕ) (x : ℕ) (r : Result ℕ ℕ) → IsNonDecreasing xs → IsBinarySearchResult (λ y. nat_cmp y x) xs r → is_ok r ≡ is_among xs x
search-tells xs x (Ok i) rise h =
    let found = searched xs x (Ok i) h (λ a b le lt. rise a b 0 le lt) in
    sym (among-at xs x i found.0 found.1)
search-tells xs x (Err i) rise h =
    let gap = searched xs x (Err i) h (λ a b le lt. rise a b 0 le lt) in
    sym (among-none xs x (λ k l. ⊎_elim (λ (b : k < i). let less = gap.1 k b in grind (arith, nat_tests))
    (λ (b : i ≤ k). let more = gap.2 k b l in grind (arith, nat_tests)) (cases_lt k i)))

-- a tree has the numbers that are among its keys
pub keys-among : (xs : List ℕ) (x : ℕ) → list_any (is_at (nat_cmp x)) xs ≡ is_among xs x
keys-among [] x = refl
keys-among (y ∷ xs) x =
    let same : is_at (nat_cmp x) y ≡ (y == x) = grind (arith, nat_tests) in
    ap (λ b. b || list_any (is_at (nat_cmp x)) xs) same ∙ ap (λ b. (y == x) || b) (keys-among xs x)

-- a number above the last of those in order is not among them, and may stand behind them
module _ (xs : List ℕ) (x : ℕ) (rise : IsNonDecreasing xs) (some : length xs ≡ 0 → ⊥) (above : nat_lt (get_or xs (length xs - 1) 0) x ≡ true) where
  long : 0 < length xs
  long = at (length xs) some
    where
      at : (n : ℕ) → (n ≡ 0 → ⊥) → 0 < n
      at zero h = absurd (h refl)
      at (suc n) h = omega arith

  less : get_or xs (length xs - 1) 0 < x
  less = grind (arith, nat_tests)

  pub above-absent : is_among xs x ≡ false
  above-absent = among-none xs x (λ i l.
      let before : get_or xs i 0 ≤ get_or xs (length xs - 1) 0 = rise i (length xs - 1) 0 (omega (arith, l)) (omega (arith, long)) in
      let under : get_or xs i 0 < x = omega (arith, before, less) in
      grind (arith, nat_tests))

  pub above-rise : IsNonDecreasing (xs ++ x ∷ [])
  above-rise = IsNonDecreasingBy-push (λ (n : ℕ). n) xs x rise (λ d l.
      let last : get_or xs (length xs - 1) d ≡ get_or xs (length xs - 1) 0 = get_or_default xs (length xs - 1) d 0 (omega (arith, l)) in
      omega (arith, last, less))
