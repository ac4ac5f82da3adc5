-- Reads that stand under their offsets and numbers.
use Rattle.std.proofs.Common.{◌≡◌, ℕ, ◌==◌, ◌&&◌, ◌||◌, Bool, true, false, cond, Option, Some, List, [], ◌∷◌, refl, ap, sym, ◌∙◌, subst, arith}
use Rattle.std.proofs.lemmas.Bool.Decides.{nat_tests}
use Rattle.std.specs.Prelude.{is_some, unwrap_or}
use Rattle.std.specs.Option.{option_map}
use Rattle.std.specs.List.{AllByRecursion}
use Rattle.std.specs.Map.{lookup, values_of}
use Rattle.std.specs.BTreeMap.{insert_entry, is_at}
use Rattle.std.specs.Ordering.{match_ordering}
use Rattle.std.specs.declared.cmp.Ordering.TheVariants.{Less, Greater}
use Rattle.vx_sched.specs.Places.{place_cmp}
use Rattle.vx_sched.specs.Merging.{is_before, is_listed}
use Rattle.vx_sched.specs.Insert.{insert_read}
use Rattle.vx_sched.specs.Picks.{ArePlaced}
use Rattle.vx_sched.proofs.InsertLemmas.{or-false}
use Rattle.vx_sched.proofs.TableLemmas.{place-eq}
use Rattle.vx_sched.specs.declared.request.ReadRequest.{ReadRequest}

-- places of different numbers are in the order of their reads
place-before : (r s : ReadRequest) → (s.id == r.id) ≡ false → place_cmp (r.offset, r.id) (s.offset, s.id) ≡ cond (is_before r s) Less Greater
place-before r s h = grind (arith, nat_tests)

place-order : (r : ReadRequest) (e : (ℕ × ℕ) × ReadRequest) → e.0 ≡ (e.1.offset, e.1.id) → (e.1.id == r.id) ≡ false → place_cmp (r.offset, r.id) e.0 ≡ cond (is_before r e.1) Less Greater
place-order r e p h = ap (place_cmp (r.offset, r.id)) p ∙ place-before r e.1 h

-- a read of another number goes to its place
pub values-insert : (r : ReadRequest) (es : List ((ℕ × ℕ) × ReadRequest)) → ArePlaced es → is_listed (values_of es) r.id ≡ false
    → values_of (insert_entry place_cmp es (r.offset, r.id) r) ≡ insert_read r (values_of es)
values-insert r [] p l = refl
values-insert r (e ∷ es) p l =
    let apart = or-false (e.1.id == r.id) (is_listed (values_of es) r.id) l in
    ap (λ o. values_of (match_ordering o (((r.offset, r.id), r) ∷ e ∷ es) ((e.0, r) ∷ es) (e ∷ insert_entry place_cmp es (r.offset, r.id) r))) (place-order r e p.0 apart.0)
    ∙ at (is_before r e.1) (values-insert r es p.1 apart.1)
  where
    at : (b : Bool) → values_of (insert_entry place_cmp es (r.offset, r.id) r) ≡ insert_read r (values_of es)
        → values_of (match_ordering (cond b Less Greater) (((r.offset, r.id), r) ∷ e ∷ es) ((e.0, r) ∷ es) (e ∷ insert_entry place_cmp es (r.offset, r.id) r))
        ≡ cond b (r ∷ e.1 ∷ values_of es) (e.1 ∷ insert_read r (values_of es))
    at true h = refl
    at false h = ap (λ rs. e.1 ∷ rs) h

pub placed-insert : (r : ReadRequest) (es : List ((ℕ × ℕ) × ReadRequest)) → ArePlaced es → is_listed (values_of es) r.id ≡ false
    → ArePlaced (insert_entry place_cmp es (r.offset, r.id) r)
placed-insert r [] p l = (refl, tt)
placed-insert r (e ∷ es) p l =
    let apart = or-false (e.1.id == r.id) (is_listed (values_of es) r.id) l in
    subst (λ o. ArePlaced (match_ordering o (((r.offset, r.id), r) ∷ e ∷ es) ((e.0, r) ∷ es) (e ∷ insert_entry place_cmp es (r.offset, r.id) r))) (sym (place-order r e p.0 apart.0))
    (at (is_before r e.1) (placed-insert r es p.1 apart.1))
  where
    at : (b : Bool) → ArePlaced (insert_entry place_cmp es (r.offset, r.id) r)
        → ArePlaced (match_ordering (cond b Less Greater) (((r.offset, r.id), r) ∷ e ∷ es) ((e.0, r) ∷ es) (e ∷ insert_entry place_cmp es (r.offset, r.id) r))
    at true h = (refl, p)
    at false h = (p.0, h)

-- the read of a number stands under its place, where each is the one of its number
pub found-listed : (waiting : ℕ → Option ReadRequest) (r : ReadRequest) (es : List ((ℕ × ℕ) × ReadRequest)) → waiting r.id ≡ Some r → ArePlaced es
    → AllByRecursion (λ s. waiting s.id ≡ Some s) (values_of es) → is_some (lookup (is_at (place_cmp (r.offset, r.id))) es) ≡ is_listed (values_of es) r.id
found-listed waiting r [] w p f = refl
found-listed waiting r (e ∷ es) w p f =
    ap (λ b. is_some (cond b (Some e.1) (lookup (is_at (place_cmp (r.offset, r.id))) es))) (ap (is_at (place_cmp (r.offset, r.id))) p.0 ∙ place-eq r.offset r.id e.1.offset e.1.id)
    ∙ at (e.1.id == r.id) refl (found-listed waiting r es w p.1 f.1)
  where
    at : (b : Bool) → (e.1.id == r.id) ≡ b → is_some (lookup (is_at (place_cmp (r.offset, r.id))) es) ≡ is_listed (values_of es) r.id
        → is_some (cond ((r.offset == e.1.offset) && (r.id == e.1.id)) (Some e.1) (lookup (is_at (place_cmp (r.offset, r.id))) es)) ≡ (b || is_listed (values_of es) r.id)
    at true same h =
        let id : e.1.id ≡ r.id = grind (arith, nat_tests) in
        let one : Some e.1 ≡ Some r = sym f.0 ∙ ap waiting id ∙ w in
        let offset : e.1.offset ≡ r.offset = ap (λ (o : Option ReadRequest). unwrap_or (option_map (λ s. s.offset) o) 0) one in
        let here : ((r.offset == e.1.offset) && (r.id == e.1.id)) ≡ true = grind (arith, nat_tests) in
        ap (λ b. is_some (cond b (Some e.1) (lookup (is_at (place_cmp (r.offset, r.id))) es))) here
    at false other h =
        let here : ((r.offset == e.1.offset) && (r.id == e.1.id)) ≡ false = grind (arith, nat_tests) in
        ap (λ b. is_some (cond b (Some e.1) (lookup (is_at (place_cmp (r.offset, r.id))) es))) here ∙ h
