-- Which rows are there, where those of columns without nulls are only counted.
use Rattle.std.proofs.Common.{◌≡◌, ℕ, zero, suc, ◌+◌, ◌-◌, ◌<◌, ◌≤◌, ◌⊎◌, inl, inr, Bool, true, false, List, [], ◌∷◌, ◌++◌, length, take, min, Option, Some, refl, ap, sym, ◌∙◌, arith}
use Rattle.std.specs.Prelude.{replicate, ◌||◌}
use Rattle.std.specs.List.{list_all}
use Rattle.std.proofs.lemmas.List.{take_all, length-replicate}
use Rattle.std.proofs.lemmas.Bool.{cases_lt}
use Rattle.std.proofs.Math.Nat.{min-eq_left, min-eq_right}
use Rattle.vx_rows.specs.Columns.{are_there, rows_there}
use Rattle.vx_rows.specs.Span.{span}
use Rattle.vx_rows.specs.Bits.{present_at}
use Rattle.vx_rows.proofs.SpanLemmas.{length_span}
use Rattle.vx_rows.proofs.MakingLemmas.{structs_made}

all-counted : (n : ℕ) → list_all (λ b. b) (replicate n true) ≡ true
all-counted zero = refl
all-counted (suc n) = all-counted n

pub there_counted : (nullable : Bool) (n : ℕ) (flags : List Bool) → are_there nullable (rows_there nullable n flags) ≡ true
there_counted true n flags = refl
there_counted false n flags = all-counted n

as-counted : (flags : List Bool) → list_all (λ b. b) flags ≡ true → flags ≡ replicate (length flags) true
as-counted [] h = refl
as-counted (true ∷ flags) h = ap (λ fs. true ∷ fs) (as-counted flags h)
as-counted (false ∷ flags) h = cc

two-counted : (n k : ℕ) → replicate (n + k) true ≡ replicate n true ++ replicate k true
two-counted zero k = let all : 0 + k ≡ k = omega arith in rw all refl
two-counted (suc n) k = let next : suc n + k ≡ suc (n + k) = omega arith in rw next (ap (λ fs. true ∷ fs) (two-counted n k))

-- more rows that are counted
pub more_counted : (nullable : Bool) (n k : ℕ) (flags : List Bool) → nullable ≡ false → rows_there nullable (n + k) flags ≡ rows_there nullable n flags ++ replicate k true
more_counted true n k flags e = cc
more_counted false n k flags e = two-counted n k

-- rows that are all there are counted
pub all_counted : (nullable : Bool) (f : ℕ → Bool) (k : ℕ) → nullable ≡ false → are_there nullable (span f 0 k) ≡ true → span f 0 k ≡ replicate k true
all_counted true f k e h = cc
all_counted false f k e h = as-counted (span f 0 k) h ∙ ap (λ n. replicate n true) (length_span f 0 k)

pub one_counted : (nullable b : Bool) → nullable ≡ false → (nullable || b) ≡ true → replicate 1 true ≡ b ∷ []
one_counted true b e h = cc
one_counted false true e h = refl
one_counted false false e h = cc

-- more rows of which some may be null
pub there_more : (nullable : Bool) (n : ℕ) (flags more : List Bool) → nullable ≡ true → rows_there nullable n (flags ++ more) ≡ rows_there nullable n flags ++ more
there_more true n flags more e = refl
there_more false n flags more e = cc

fewer-counted : (n k : ℕ) → k ≤ n → take k (replicate n true) ≡ replicate k true
fewer-counted zero zero l = refl
fewer-counted zero (suc k) l = absurd (omega (arith, l))
fewer-counted (suc n) zero l = refl
fewer-counted (suc n) (suc k) l = ap (λ fs. true ∷ fs) (fewer-counted n k (omega (arith, l)))

counted-less : (n k : ℕ) → replicate (min n k) true ≡ take k (replicate n true)
counted-less n k = by (cases_lt k n)
  where
    by : (k < n) ⊎ (n ≤ k) → replicate (min n k) true ≡ take k (replicate n true)
    by (inl l) = ap (λ m. replicate m true) (min-eq_right (omega (arith, l))) ∙ sym (fewer-counted n k (omega (arith, l)))
    by (inr g) = ap (λ m. replicate m true) (min-eq_left g) ∙ sym (take_all k (replicate n true) (let e = length-replicate n true in omega (arith, e, g)))

pub there_less : (nullable : Bool) (n k : ℕ) (flags : List Bool) → rows_there nullable (min n k) (take k flags) ≡ take k (rows_there nullable n flags)
there_less true n k flags = refl
there_less false n k flags = counted-less n k

-- ---- flags by bits

pub some_there : (present : Option (List Bool)) (bits : List Bool) (rows : ℕ) → present ≡ Some bits → length bits ≡ rows → span (present_at present) 0 rows ≡ bits
some_there present bits rows e l = ap (λ p. span (present_at p) 0 rows) e ∙ ap (λ n. span (present_at (Some bits)) 0 n) (sym l) ∙ structs_made true bits (Some bits) refl refl

pub filled_there : (n rows : ℕ) (old : List Bool) → n ≡ length old → take (n + rows) old ++ replicate (n + rows - n) true ≡ old ++ replicate rows true
filled_there n rows old e =
    let left : n + rows - n ≡ rows = omega arith in
    ap (λ k. take (n + rows) old ++ replicate k true) left ∙ ap (λ fs. fs ++ replicate rows true) (take_all (n + rows) old (omega (arith, e)))
