-- Places in a tree.
use Rattle.std.proofs.Common.{◌≡◌, ℕ, ◌<◌, ◌≤◌, ◌||◌, Bool, true, false, cond, List, [], ◌∷◌, ◌++◌, refl, sym, ap, ◌∙◌, arith}
use Rattle.std.proofs.lemmas.Bool.Decides.{nat_tests}
use Rattle.std.proofs.lemmas.List.Folds.{list_any-append}
use Rattle.std.specs.BTreeMap.{is_at}
use Rattle.std.specs.BTreeMap.Range.{range_contains}
use Rattle.std.specs.declared.ops.Bound.TheVariants.{Included, Excluded, Unbounded}
use Rattle.vx_sched.specs.Places.{place_cmp, has_place}

cond-kept : (b c : Bool) → c ≡ true → cond b true c ≡ true
cond-kept true c h = refl
cond-kept false c h = h

same-place : (k x : ℕ × ℕ) → is_at (place_cmp k) x ≡ is_at (place_cmp x) k
same-place k x = grind (arith, nat_tests)

-- a tree that has one place more
module _ (key : ℕ × ℕ) (old new : List (ℕ × ℕ)) (one_more : (q : ℕ × ℕ) → has_place new q ≡ cond (is_at (place_cmp key) q) true (has_place old q)) where
  pub inserted-kept : (k : ℕ × ℕ) → has_place old k ≡ true → has_place new k ≡ true
  inserted-kept k h = one_more k ∙ cond-kept (is_at (place_cmp key) k) (has_place old k) h

  inserted-key : (k : ℕ × ℕ) → is_at (place_cmp k) key ≡ true → has_place new k ≡ true
  inserted-key k h = one_more k ∙ ap (λ b. cond b true (has_place old k)) (sym (same-place k key) ∙ h)

  pub inserted-front : (front : List (ℕ × ℕ)) → ((k : ℕ × ℕ) → has_place front k ≡ true → has_place old k ≡ true)
      → (k : ℕ × ℕ) → has_place (front ++ key ∷ []) k ≡ true → has_place new k ≡ true
  inserted-front front there k h = at (has_place front k) refl (is_at (place_cmp k) key) refl (sym (list_any-append (is_at (place_cmp k)) front (key ∷ [])) ∙ h)
    where
      at : (a : Bool) → has_place front k ≡ a → (b : Bool) → is_at (place_cmp k) key ≡ b → (has_place front k || (is_at (place_cmp k) key || false)) ≡ true → has_place new k ≡ true
      at true e b f g = inserted-kept k (there k e)
      at false e true f g = inserted-key k f
      at false e false f g = cc

-- places with offsets in bounds lie in a range of places
pub in-range : (left offset id end : ℕ) → left ≤ offset → offset < end → range_contains place_cmp (Included (left, 0)) (Excluded (end, 0)) (offset, id) ≡ true
in-range left offset id end l u = grind (arith, nat_tests)

pub in-rest : (left offset id : ℕ) → left ≤ offset → range_contains place_cmp (Included (left, 0)) Unbounded (offset, id) ≡ true
in-rest left offset id l = grind (arith, nat_tests)
