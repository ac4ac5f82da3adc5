-- Names that are equal one by one.
use Rattle.std.proofs.Common.{◌≡◌, ℕ, true, false, List, [], ◌∷◌, refl, sym, ap₂}
use Rattle.std.specs.Str.{bytes_eq}
use Rattle.std.specs.Cmp.Lexicographic.{pointwise, same_text}

pub same_names : (p q : List (List ℕ)) → pointwise bytes_eq p q ≡ true → p ≡ q
same_names [] [] e = refl
same_names [] (y ∷ ys) e = cc
same_names (x ∷ xs) [] e = cc
same_names (x ∷ xs) (y ∷ ys) e = (elim (bytes_eq x y) as (λ b. bytes_eq x y ≡ b → x ∷ xs ≡ y ∷ ys) [
  | true ↦ λ h. let rest = rw h at e in ap₂ (λ n ns. n ∷ ns) (same_text x y (sym h)) (same_names xs ys rest)
  | false ↦ λ h. let no = rw h at e in cc
]) refl
