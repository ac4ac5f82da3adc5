-- Values as lists of numbers, by which what is kept for one is told from what is kept for another.
use Rattle.std.specs.Prelude.{◌≡◌, ℕ, List, [], ◌∷◌, ◌++◌, refl}
use Rattle.std.proofs.Common.{zero, suc, ap, ap₂, sym, ◌∙◌, append_assoc}
use Rattle.std.specs.Coded.{Coded}
use base.Stored.{Gv, gnil, gnum, gcons}
use native.Mathlib.Nat.{suc-ne-zero}

-- a tree of numbers as a list: each node in front of its parts
abbrev pub numbers_of : Gv → List ℕ
numbers_of gnil = 0 ∷ []
numbers_of (gnum n) = 1 ∷ n ∷ []
numbers_of (gcons a b) = 2 ∷ numbers_of a ++ numbers_of b

-- a value as a list of numbers
abbrev pub tag_of : {X : Type 0} → Coded X → X → List ℕ
tag_of c x = numbers_of (c.code x)

-- ---- values of one tag are one

abbrev first : List ℕ → ℕ
first [] = 0
first (n ∷ ns) = n

abbrev rest : List ℕ → List ℕ
rest [] = []
rest (n ∷ ns) = ns

abbrev less : ℕ → ℕ
less zero = 0
less (suc n) = n

prefix : (a b : Gv) (s t : List ℕ) → numbers_of a ++ s ≡ numbers_of b ++ t → (a ≡ b) × (s ≡ t)
prefix gnil gnil s t e = (refl, ap rest e)
prefix gnil (gnum n) s t e = absurd (suc-ne-zero 0 (sym (ap first e)))
prefix gnil (gcons a b) s t e = absurd (suc-ne-zero 1 (sym (ap first e)))
prefix (gnum m) gnil s t e = absurd (suc-ne-zero 0 (ap first e))
prefix (gnum m) (gnum n) s t e = (ap gnum (ap (λ ns. first (rest ns)) e), ap (λ ns. rest (rest ns)) e)
prefix (gnum m) (gcons a b) s t e = absurd (suc-ne-zero 0 (ap less (sym (ap first e))))
prefix (gcons a b) gnil s t e = absurd (suc-ne-zero 1 (ap first e))
prefix (gcons a b) (gnum n) s t e = absurd (suc-ne-zero 0 (ap less (ap first e)))
prefix (gcons a b) (gcons c d) s t e =
    let outer = prefix a c (numbers_of b ++ s) (numbers_of d ++ t)
    (sym (append_assoc (numbers_of a) (numbers_of b) s) ∙ (ap rest e ∙ append_assoc (numbers_of c) (numbers_of d) t)) in
    let inner = prefix b d s t outer.1 in (ap₂ gcons outer.0 inner.0, inner.1)

pub tag_tells : {X : Type 0} (c : Coded X) (x y : X) → tag_of c x ≡ tag_of c y → x ≡ y
tag_tells c x y e = c.inj x y (prefix (c.code x) (c.code y) [] [] (ap (λ ns. ns ++ []) e)).0
