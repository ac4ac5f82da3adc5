-- Names as texts and as their bytes are ordered alike.
use Rattle.std.proofs.Common.{◌≡◌, ℕ, List, [], ◌∷◌, map, take, refl, ap, sym}
use Rattle.std.specs.Prelude.{String, string_bytes, ◌&&◌}
use Rattle.std.specs.Global.{Global}
use Rattle.std.specs.Str.{bytes_eq}
use Rattle.std.specs.String.{string_eq, string_cmp}
use Rattle.std.proofs.lemmas.List.{length-map, take-map}
use Rattle.std.specs.Ordering.{nat_cmp, ordering_then}
use Rattle.std.specs.Cmp.Lexicographic.{pointwise, slice_cmp}

pub same_names : (p q : List (String Global)) → pointwise string_eq p q ≡ pointwise bytes_eq (map string_bytes p) (map string_bytes q)
same_names [] [] = refl
same_names [] (b ∷ q) = refl
same_names (a ∷ p) [] = refl
same_names (a ∷ p) (b ∷ q) = ap (λ rest. string_eq a b && rest) (same_names p q)

pub names_order : (p q : List (String Global)) → slice_cmp string_cmp p q ≡ slice_cmp (slice_cmp nat_cmp) (map string_bytes p) (map string_bytes q)
names_order [] [] = refl
names_order [] (b ∷ q) = refl
names_order (a ∷ p) [] = refl
names_order (a ∷ p) (b ∷ q) = ap (λ rest. ordering_then (string_cmp a b) rest) (names_order p q)

pub shorter : (p : List (String Global)) (n : ℕ) → map string_bytes (take n p) ≡ take n (map string_bytes p)
shorter p n = sym (take-map string_bytes n p)

pub ruleset pop_steps = (shorter, length-map)
