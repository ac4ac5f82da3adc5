-- Weights of kept footers.
use Rattle.std.proofs.Common.{◌≡◌, ℕ, suc, ◌+◌, ◌-◌, ◌≤◌, ◌<◌, Bool, true, false, List, [], ◌∷◌, length, take, Option, Some, None, refl, sym, ap, ◌∙◌, arith, nat_le, ◌/◌}
use Rattle.std.specs.Prelude.{slice_get}
use Rattle.std.specs.Option.{option_map, option_map_or}
use Rattle.std.specs.Map.{lookup, lookup_entry, remove_entry}
use Rattle.std.proofs.lemmas.Bool.{le-leb, leb-true}
use Rattle.std.proofs.Math.Nat.{le-max_left}
use Rattle.lru.specs.LruCache.{promoted, last_entry}
use Rattle.vx_footer.specs.Footers.{FooterValue}
use Rattle.vx_file.specs.KeptFooters.{KeptFooter, weight_of, weight, total_weight, fitting}

Kept : Type 0
Kept = List KeptFooter

add_front : (a b c d : ℕ) → c ≡ b + d → a + c ≡ b + (a + d)
add_front a b c d h = omega (arith, h)

least_weight : (size : Option ℕ) → 1 ≤ weight_of size
least_weight None = omega arith
least_weight (Some size) = le-max_left 1 (size / 1024)

module _ (test : List ℕ → Bool) where
  entry_weighs : (es : List KeptFooter) (e : KeptFooter) → lookup_entry test es ≡ Some e → total_weight es ≡ weight e.1 + total_weight (remove_entry test es)
  entry_weighs [] e h = cc
  entry_weighs (f ∷ es) e h = (elim (test f.0) as (λ b. test f.0 ≡ b → total_weight (f ∷ es) ≡ weight e.1 + total_weight (remove_entry test (f ∷ es))) [
    | true ↦ λ t. let g = rw t at h in let same : f ≡ e = cc in rw t (ap (λ (x : KeptFooter). weight x.1 + total_weight es) same)
    | false ↦ λ t. let on = entry_weighs es e (rw t at h) in rw t (add_front (weight f.1) (weight e.1) (total_weight es) (total_weight (remove_entry test es)) on)
  ]) refl

  value_entry : (es : List KeptFooter) (v : FooterValue) → lookup test es ≡ Some v → (e : KeptFooter) × (lookup_entry test es ≡ Some e) × (e.1 ≡ v)
  value_entry [] v h = cc
  value_entry (f ∷ es) v h = (elim (test f.0) as (λ b. test f.0 ≡ b → (e : KeptFooter) × (lookup_entry test (f ∷ es) ≡ Some e) × (e.1 ≡ v)) [
    | true ↦ λ t. let g = rw t at h in (f, rw t refl, cc)
    | false ↦ λ t. let on = value_entry es v (rw t at h) in (on.0, rw t on.1, on.2)
  ]) refl

  pub removed_weighs : (es : List KeptFooter) (v : FooterValue) → Some v ≡ lookup test es → total_weight es ≡ weight v + total_weight (remove_entry test es)
  removed_weighs es v h = let found = value_entry es v (sym h) in
      entry_weighs es found.0 found.1 ∙ ap (λ w. weight w + total_weight (remove_entry test es)) found.2

  pub nothing_removed : (es : List KeptFooter) → None ≡ lookup test es → remove_entry test es ≡ es
  nothing_removed [] h = refl
  nothing_removed (f ∷ es) h = (elim (test f.0) as (λ b. test f.0 ≡ b → remove_entry test (f ∷ es) ≡ f ∷ es) [
    | true ↦ λ t. let g = rw t at h in cc
    | false ↦ λ t. let g = rw t at h in rw t (ap (λ xs. f ∷ xs) (nothing_removed es g))
  ]) refl

  pub promoted_weighs : (es : List KeptFooter) → total_weight (promoted test es) ≡ total_weight es
  promoted_weighs es = by (lookup_entry test es) refl
    where
      by : (o : Option KeptFooter) → lookup_entry test es ≡ o → total_weight (option_map_or (λ e. e ∷ remove_entry test es) o es) ≡ total_weight es
      by None h = refl
      by (Some e) h = sym (entry_weighs es e h)

-- a list without its last
one_less : {A : Type 0} (e : A) → take (length (e ∷ []) - 1) (e ∷ []) ≡ []
one_less e = let n : length (e ∷ []) - 1 ≡ 0 = omega arith in ap (λ k. take k (e ∷ [])) n

more_less : {A : Type 0} (e f : A) (es : List A) → take (length (e ∷ f ∷ es) - 1) (e ∷ f ∷ es) ≡ e ∷ take (length (f ∷ es) - 1) (f ∷ es)
more_less e f es = let n : length (e ∷ f ∷ es) - 1 ≡ suc (length (f ∷ es) - 1) = omega arith in ap (λ k. take k (e ∷ f ∷ es)) n

last_one : (e : KeptFooter) → last_entry (e ∷ []) ≡ Some e
last_one e = let n : length (e ∷ []) - 1 ≡ 0 = omega arith in ap (λ k. slice_get (e ∷ []) k) n

last_more : (e f : KeptFooter) (es : List KeptFooter) → last_entry (e ∷ f ∷ es) ≡ last_entry (f ∷ es)
last_more e f es = let n : length (e ∷ f ∷ es) - 1 ≡ suc (length (f ∷ es) - 1) = omega arith in ap (λ k. slice_get (e ∷ f ∷ es) k) n

abbrev value : Option KeptFooter → Option FooterValue
value o = option_map (λ e. e.1) o

head_same : (e f : KeptFooter) → Some e ≡ Some f → e ≡ f
head_same e f h = cc

-- the last one is part of the weight
weighs_last : (es : List KeptFooter) (e : KeptFooter) → last_entry es ≡ Some e → total_weight es ≡ weight e.1 + total_weight (take (length es - 1) es)
weighs_last [] e h = cc
weighs_last (e ∷ []) f h = let same : e ≡ f = head_same e f (sym (last_one e) ∙ h) in
    ap (λ (x : KeptFooter). weight x.1 + 0) same ∙ ap (λ xs. weight f.1 + total_weight xs) (sym (one_less e))
weighs_last (e ∷ f ∷ es) g h = let on = weighs_last (f ∷ es) g (sym (last_more e f es) ∙ h) in
    add_front (weight e.1) (weight g.1) (total_weight (f ∷ es)) (total_weight (take (length (f ∷ es) - 1) (f ∷ es))) on
    ∙ ap (λ xs. weight g.1 + total_weight xs) (sym (more_less e f es))

pub last_weighs : (es : List KeptFooter) (v : FooterValue) → Some v ≡ option_map (λ (e : KeptFooter). e.1) (last_entry es)
    → total_weight es ≡ weight v + total_weight (take (length es - 1) es)
last_weighs es v h = by (last_entry es) refl h
  where
    by : (o : Option KeptFooter) → last_entry es ≡ o → Some v ≡ option_map (λ (e : KeptFooter). e.1) o
        → total_weight es ≡ weight v + total_weight (take (length es - 1) es)
    by None k g = cc
    by (Some e) k g = let same : v ≡ e.1 = cc in weighs_last es e k ∙ ap (λ w. weight w + total_weight (take (length es - 1) es)) (sym same)

-- there is a last one
pub some_last : (es : List KeptFooter) → 0 < total_weight es → None ≡ option_map (λ (e : KeptFooter). e.1) (last_entry es) → ⊥
some_last [] h g = omega (arith, h)
some_last (e ∷ []) h g = let k = g ∙ ap value (last_one e) in cc
some_last (e ∷ f ∷ es) h g = some_last (f ∷ es) (positive f es) (g ∙ ap value (last_more e f es))
  where
    positive : (x : KeptFooter) (xs : List KeptFooter) → 0 < total_weight (x ∷ xs)
    positive x xs = let one = least_weight x.1.approx_byte_size in omega (arith, one)

-- where all of it fits
pub fit_whole : (room : ℕ) (es : List KeptFooter) → total_weight es ≤ room → fitting room es ≡ es
fit_whole room [] h = refl
fit_whole room (e ∷ es) h = let t : nat_le (weight e.1) room ≡ true = le-leb (weight e.1) room (omega (arith, h)) in
    rw t (ap (λ xs. e ∷ xs) (fit_whole (room - weight e.1) es (omega (arith, h))))

-- where it does not, what fits is the same without the last one
pub thinned : (room : ℕ) (es : List KeptFooter) → room < total_weight es → fitting room (take (length es - 1) es) ≡ fitting room es
thinned room [] h = refl
thinned room (e ∷ []) h = rw (one_less e) (sym (none (nat_le (weight e.1) room) refl))
  where
    none : (b : Bool) → nat_le (weight e.1) room ≡ b → fitting room (e ∷ []) ≡ []
    none true t = let fits = leb-true (weight e.1) room t in absurd (omega (arith, h, fits))
    none false t = rw t refl
thinned room (e ∷ f ∷ es) h = rw (more_less e f es) ((elim (nat_le (weight e.1) room) as (λ b. nat_le (weight e.1) room ≡ b
    → fitting room (e ∷ take (length (f ∷ es) - 1) (f ∷ es)) ≡ fitting room (e ∷ f ∷ es)) [
      | true ↦ λ t. let fits = leb-true (weight e.1) room t in rw t (ap (λ xs. e ∷ xs) (thinned (room - weight e.1) (f ∷ es) (omega (arith, h, fits))))
      | false ↦ λ t. rw t refl
    ]) refl)
