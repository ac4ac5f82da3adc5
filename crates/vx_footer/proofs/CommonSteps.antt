-- Steps of counting the first names that two paths share.
use Rattle.std.proofs.Common.{◌≡◌, ℕ, suc, ◌+◌, ◌<◌, ◌≤◌, min, true, false, List, [], ◌∷◌, length, get_or, drop, map, refl, arith, add-one, drop-cons, inl, inr}
use Rattle.std.specs.Prelude.{String, string_bytes}
use Rattle.std.specs.Global.{Global}
use Rattle.std.specs.Str.{bytes_eq}
use Rattle.std.proofs.lemmas.Bool.{cases_lt}
use Rattle.std.proofs.lemmas.List.{drop_all}
use Rattle.vx_data.specs.Paths.{Path}
use Rattle.vx_footer.specs.CommonPaths.{common_length}

from_name : (p : List (String Global)) (i : ℕ) (a : String Global) → i < length p → a ≡ get_or p i a → drop i p ≡ a ∷ drop (i + 1) p
from_name p i a lt is = rw (add-one, drop-cons p i a, ← is) refl

abbrev shared : List (String Global) → List (String Global) → ℕ
shared p q = common_length (map string_bytes p) (map string_bytes q)

pub one_shared : (p q : List (String Global)) (i : ℕ) (a b : String Global) → i < length p → i < length q → a ≡ get_or p i a → b ≡ get_or q i b
    → bytes_eq (string_bytes a) (string_bytes b) ≡ true → shared (drop i p) (drop i q) ≡ suc (shared (drop (i + 1) p) (drop (i + 1) q))
one_shared p q i a b in_p in_q a_is b_is same = rw (from_name p i a in_p a_is, from_name q i b in_q b_is, same) refl

pub none_shared : (p q : List (String Global)) (i : ℕ) (a b : String Global) → i < length p → i < length q → a ≡ get_or p i a → b ≡ get_or q i b
    → bytes_eq (string_bytes a) (string_bytes b) ≡ false → shared (drop i p) (drop i q) ≡ 0
none_shared p q i a b in_p in_q a_is b_is other = rw (from_name p i a in_p a_is, from_name q i b in_q b_is, other) refl

nothing_shared : (p : Path) → common_length p [] ≡ 0
nothing_shared [] = refl
nothing_shared (a ∷ p) = refl

pub end_shared : (p q : List (String Global)) (i : ℕ) → min (length p) (length q) ≤ i → shared (drop i p) (drop i q) ≡ 0
end_shared p q i le = elim (cases_lt i (length p)) [
  | inl lt ↦ let past : length q ≤ i = omega arith in rw (drop_all i q past) (nothing_shared (map string_bytes (drop i p)))
  | inr past ↦ rw (drop_all i p past) refl
]

pub ruleset length_steps = (one_shared, none_shared, end_shared)
