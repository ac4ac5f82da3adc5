-- How many children a layout is asked to have, and of which types.
use Rattle.std.proofs.Common.{◌≡◌, ℕ, zero, suc, ◌-◌, ◌<◌, ◌≤◌, Bool, true, false, List, [], ◌∷◌, ◌++◌, length, replicate, Option, Some, None, get_or, refl, sym, ap, ◌∙◌, arith}
use Rattle.std.specs.Prelude.{String, slice_get, ◌==◌}
use Rattle.std.specs.Global.{Global}
use Rattle.std.proofs.lemmas.Bool.Decides.{nat_tests}
use Rattle.std.proofs.lemmas.Option.{slice_get_past}
use Rattle.vx_data.specs.declared.dtype.DType.{DType}
use Rattle.vx_data.specs.Dtype.{Dtype, dtype_view, pairs_view}
use Rattle.vx_data.specs.Layout.{dtypes_of, validity}

pub length_fields : (fs : List (String Global × DType)) → length (dtypes_of (pairs_view fs)) ≡ length fs
length_fields [] = refl
length_fields (f ∷ fs) = ap suc (length_fields fs)

pub plain_count : (n : ℕ) (fs : List (String Global × DType)) (nullable : Bool) → nullable ≡ false → (n == length fs) ≡ (n == length (validity nullable ++ dtypes_of (pairs_view fs)))
plain_count n fs true is = cc
plain_count n fs false is = ap (λ m. n == m) (sym (length_fields fs))

one_behind : (n m : ℕ) → 0 < n → (n - 1 == m) ≡ (n == suc m)
one_behind n m some = grind (arith, nat_tests)

pub nullable_count : (n : ℕ) (fs : List (String Global × DType)) (nullable : Bool) → nullable ≡ true → 0 < n → (n - 1 == length fs) ≡ (n == length (validity nullable ++ dtypes_of (pairs_view fs)))
nullable_count n fs true is some = one_behind n (length fs) some ∙ ap (λ m. n == suc m) (sym (length_fields fs))
nullable_count n fs false is some = cc

pub length_same : (n : ℕ) (d : Dtype) → length (replicate n d) ≡ n
length_same zero d = refl
length_same (suc n) d = ap suc (length_same n d)

pub same_count : (n : ℕ) → (n == n) ≡ true
same_count n = grind (arith, nat_tests)

pub ruleset chunk_counts = (length_same, same_count)

pub field_within : (fs : List (String Global × DType)) (i : ℕ) (f : String Global × DType) → i < length fs → f ≡ get_or fs i f → slice_get (dtypes_of (pairs_view fs)) i ≡ Some (dtype_view f.1)
field_within [] i f lt is = absurd (omega arith)
field_within (x ∷ fs) zero f lt is = ap (λ g. Some (dtype_view g.1)) (sym is)
field_within (x ∷ fs) (suc i) f lt is = field_within fs i f (omega arith) is

pub field_past : (fs : List (String Global × DType)) (i : ℕ) → length fs ≤ i → let none : Option Dtype = None in slice_get (dtypes_of (pairs_view fs)) i ≡ none
field_past fs i le = slice_get_past (dtypes_of (pairs_view fs)) i (omega (arith, length_fields fs))

pub ruleset field_steps = (field_within, field_past)

pub behind_validity : (d : Dtype) (ds : List Dtype) (i : ℕ) → (i ≡ 0 → ⊥) → slice_get (d ∷ ds) i ≡ slice_get ds (i - 1)
behind_validity d ds zero more = absurd (more refl)
behind_validity d ds (suc i) more =
    let one_less : i ≡ suc i - 1 = omega arith in
    ap (slice_get ds) one_less

pub chunk_steps : (n i : ℕ) (d : Dtype) → i < n → slice_get (replicate n d) i ≡ Some d
chunk_steps zero i d lt = absurd (omega arith)
chunk_steps (suc n) zero d lt = refl
chunk_steps (suc n) (suc i) d lt = chunk_steps n i d (omega arith)
