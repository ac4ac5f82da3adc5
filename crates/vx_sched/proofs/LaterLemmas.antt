-- Picks of which the later ones stand apart.
use Rattle.std.proofs.Common.{◌≡◌, ℕ, Bool, true, false, cond, Some, List, [], ◌∷◌, ◌++◌, map, append_assoc, refl, ap, sym, ◌∙◌, subst, arith}
use Rattle.std.proofs.lemmas.Bool.Decides.{nat_tests}
use Rattle.std.proofs.lemmas.List.{map-append}
use Rattle.std.specs.Prelude.{is_some}
use Rattle.std.specs.List.{AllByRecursion}
use Rattle.std.specs.Map.{lookup, values_of}
use Rattle.std.specs.BTreeMap.{insert_entry, is_at}
use Rattle.std.specs.Ordering.{match_ordering, is_eq}
use Rattle.std.specs.declared.cmp.Ordering.{Ordering}
use Rattle.std.specs.declared.cmp.Ordering.TheVariants.{Less, Equal, Greater}
use Rattle.vx_sched.specs.Merging.{is_before, is_in_order, is_in_order_after}
use Rattle.vx_sched.specs.Picks.{ArePlaced, AreUpTo, IsAhead, at_place}
use Rattle.vx_sched.specs.Places.{place_cmp}
use Rattle.vx_sched.proofs.InsertLemmas.{and-true}
use Rattle.vx_sched.specs.declared.request.ReadRequest.{ReadRequest}

abbrev Placed : Type 0
Placed = List ((ℕ × ℕ) × ReadRequest)

greater : (r s : ReadRequest) → is_before s r ≡ true → place_cmp (r.offset, r.id) (s.offset, s.id) ≡ Greater
greater r s h = grind (arith, nat_tests)

less : (r s : ReadRequest) → is_before r s ≡ true → place_cmp (r.offset, r.id) (s.offset, s.id) ≡ Less
less r s h = grind (arith, nat_tests)

before-past : (a b c : ReadRequest) → is_before a b ≡ true → is_before b c ≡ true → is_before a c ≡ true
before-past a b c h k = grind (arith, nat_tests)

-- a read that comes after all goes to the end
pub insert-behind : (r : ReadRequest) (es : Placed) → ArePlaced es → AllByRecursion (λ s. is_before s r ≡ true) (values_of es)
    → insert_entry place_cmp es (r.offset, r.id) r ≡ es ++ at_place r ∷ []
insert-behind r [] p b = refl
insert-behind r (e ∷ es) p b =
    ap (λ o. match_ordering o (((r.offset, r.id), r) ∷ e ∷ es) ((e.0, r) ∷ es) (e ∷ insert_entry place_cmp es (r.offset, r.id) r))
    (ap (place_cmp (r.offset, r.id)) p.0 ∙ greater r e.1 b.0)
    ∙ ap (λ rest. e ∷ rest) (insert-behind r es p.1 b.1)

-- a read that comes before those that stand apart goes to the others
pub insert-ahead : (r : ReadRequest) (es : Placed) (later : List ReadRequest) → IsAhead later r
    → insert_entry place_cmp (es ++ map at_place later) (r.offset, r.id) r ≡ insert_entry place_cmp es (r.offset, r.id) r ++ map at_place later
insert-ahead r [] [] a = refl
insert-ahead r [] (s ∷ later) a =
    ap (λ o. match_ordering o (((r.offset, r.id), r) ∷ at_place s ∷ map at_place later)
    (((s.offset, s.id), r) ∷ map at_place later) (at_place s ∷ insert_entry place_cmp (map at_place later) (r.offset, r.id) r)) (less r s a)
insert-ahead r (e ∷ es) later a = at (place_cmp (r.offset, r.id) e.0) (insert-ahead r es later a)
  where
    at : (o : Ordering) → insert_entry place_cmp (es ++ map at_place later) (r.offset, r.id) r ≡ insert_entry place_cmp es (r.offset, r.id) r ++ map at_place later
        → match_ordering o (((r.offset, r.id), r) ∷ e ∷ (es ++ map at_place later)) ((e.0, r) ∷ (es ++ map at_place later))
        (e ∷ insert_entry place_cmp (es ++ map at_place later) (r.offset, r.id) r)
        ≡ match_ordering o (((r.offset, r.id), r) ∷ e ∷ es) ((e.0, r) ∷ es) (e ∷ insert_entry place_cmp es (r.offset, r.id) r) ++ map at_place later
    at Less h = refl
    at Equal h = refl
    at Greater h = ap (λ rest. e ∷ rest) h

-- reads in order of which a read comes before the first
all-ahead : (r : ReadRequest) (later : List ReadRequest) → is_in_order later ≡ true → IsAhead later r → AllByRecursion (λ s. is_before r s ≡ true) later
all-ahead r [] o a = tt
all-ahead r (s ∷ []) o a = (a, tt)
all-ahead r (s ∷ t ∷ later) o a =
    let parts = and-true (is_before s t) (is_in_order_after t later) o in
    (a, all-ahead r (t ∷ later) parts.1 (before-past r s t a parts.0))

apart-none : (r : ReadRequest) (later : List ReadRequest) → AllByRecursion (λ s. is_before r s ≡ true) later
    → is_some (lookup (is_at (place_cmp (r.offset, r.id))) (map at_place later)) ≡ false
apart-none r [] a = refl
apart-none r (s ∷ later) a =
    let other : is_at (place_cmp (r.offset, r.id)) (s.offset, s.id) ≡ false = ap (λ o. is_eq o) (less r s a.0) in
    ap (λ b. is_some (cond b (Some s) (lookup (is_at (place_cmp (r.offset, r.id))) (map at_place later)))) other ∙ apart-none r later a.1

-- a read that comes before those that stand apart is found among the others
pub found-ahead : (r : ReadRequest) (es : Placed) (later : List ReadRequest) → is_in_order later ≡ true → IsAhead later r
    → is_some (lookup (is_at (place_cmp (r.offset, r.id))) (es ++ map at_place later)) ≡ is_some (lookup (is_at (place_cmp (r.offset, r.id))) es)
found-ahead r [] later o a = apart-none r later (all-ahead r later o a)
found-ahead r (e ∷ es) later o a = at (is_at (place_cmp (r.offset, r.id)) e.0) (found-ahead r es later o a)
  where
    at : (b : Bool) → is_some (lookup (is_at (place_cmp (r.offset, r.id))) (es ++ map at_place later)) ≡ is_some (lookup (is_at (place_cmp (r.offset, r.id))) es)
        → is_some (cond b (Some e.1) (lookup (is_at (place_cmp (r.offset, r.id))) (es ++ map at_place later)))
        ≡ is_some (cond b (Some e.1) (lookup (is_at (place_cmp (r.offset, r.id))) es))
    at true h = refl
    at false h = h

-- a read after the last comes after all
pub past-last : (last r : ReadRequest) (reads : List ReadRequest) → AreUpTo last reads → is_before last r ≡ true → AllByRecursion (λ s. is_before s r ≡ true) reads
past-last last r [] u h = tt
past-last last r (s ∷ reads) u h =
    let not-after = u.0 in
    (past last s r not-after h, past-last last r reads u.1 h)
  where
    past : (a s r : ReadRequest) → is_before a s ≡ false → is_before a r ≡ true → is_before s r ≡ true
    past a s r h k = grind (arith, nat_tests)

-- none of those before the last is the one after it
pub past-none : (r : ReadRequest) (es : Placed) → ArePlaced es → AllByRecursion (λ s. is_before s r ≡ true) (values_of es)
    → is_some (lookup (is_at (place_cmp (r.offset, r.id))) es) ≡ false
past-none r [] p b = refl
past-none r (e ∷ es) p b =
    let other : is_at (place_cmp (r.offset, r.id)) e.0 ≡ false = ap (λ o. is_eq o) (ap (place_cmp (r.offset, r.id)) p.0 ∙ greater r e.1 b.0) in
    ap (λ c. is_some (cond c (Some e.1) (lookup (is_at (place_cmp (r.offset, r.id))) es))) other ∙ past-none r es p.1 b.1

-- the reads at places, and then those that stand apart
pub values-apart : (es : Placed) (later : List ReadRequest) → values_of (es ++ map at_place later) ≡ values_of es ++ later
values-apart [] [] = refl
values-apart [] (s ∷ later) = ap (λ rest. s ∷ rest) (values-apart [] later)
values-apart (e ∷ es) later = ap (λ rest. e.1 ∷ rest) (values-apart es later)

placed-front : (es fs : Placed) → ArePlaced (es ++ fs) → ArePlaced es
placed-front [] fs p = tt
placed-front (e ∷ es) fs p = (p.0, placed-front es fs p.1)

after-past : (a x : ReadRequest) (front rest : List ReadRequest) → is_in_order_after a (front ++ x ∷ rest) ≡ true → is_before a x ≡ true
after-past a x [] rest o = (and-true (is_before a x) (is_in_order_after x rest) o).0
after-past a x (c ∷ front) rest o =
    let parts = and-true (is_before a c) (is_in_order_after c (front ++ x ∷ rest)) o in
    before-past a c x parts.0 (after-past c x front rest parts.1)

tail-order : (a : ReadRequest) (xs : List ReadRequest) → is_in_order_after a xs ≡ true → is_in_order xs ≡ true
tail-order a [] o = refl
tail-order a (c ∷ xs) o = (and-true (is_before a c) (is_in_order_after c xs) o).1

order-before : (x : ReadRequest) (front rest : List ReadRequest) → is_in_order (front ++ x ∷ rest) ≡ true → AllByRecursion (λ s. is_before s x ≡ true) front
order-before x [] rest o = tt
order-before x (a ∷ front) rest o = (after-past a x front rest o, order-before x front rest (tail-order a (front ++ x ∷ rest) o))

pub order-back : (front rest : List ReadRequest) → is_in_order (front ++ rest) ≡ true → is_in_order rest ≡ true
order-back [] rest o = o
order-back (a ∷ front) rest o = order-back front rest (tail-order a (front ++ rest) o)

-- one of those that stand apart goes to the others
pub gather-step : (es es' : Placed) (x : ReadRequest) (rest : List ReadRequest) (whole : Placed) → es ++ map at_place (x ∷ rest) ≡ whole → ArePlaced whole
    → is_in_order (values_of whole) ≡ true → es' ≡ insert_entry place_cmp es (x.offset, x.id) x → es' ++ map at_place rest ≡ whole
gather-step es es' x rest whole e p o h =
    let placed = placed-front es (map at_place (x ∷ rest)) (subst ArePlaced (sym e) p) in
    let order : is_in_order (values_of es ++ x ∷ rest) ≡ true = ap is_in_order (sym (values-apart es (x ∷ rest)) ∙ ap values_of e) ∙ o in
    ap (λ (fs : Placed). fs ++ map at_place rest) (h ∙ insert-behind x es placed (order-before x (values_of es) rest order))
    ∙ append_assoc es (at_place x ∷ []) (map at_place rest) ∙ e

-- a read that comes after all may stand apart
pub push-behind : (es : Placed) (later : List ReadRequest) (r : ReadRequest) → ArePlaced (es ++ map at_place later)
    → AllByRecursion (λ s. is_before s r ≡ true) (values_of (es ++ map at_place later))
    → es ++ map at_place (later ++ r ∷ []) ≡ insert_entry place_cmp (es ++ map at_place later) (r.offset, r.id) r
push-behind es later r p b =
    ap (λ fs. es ++ fs) (map-append at_place later (r ∷ [])) ∙ sym (append_assoc es (map at_place later) (at_place r ∷ [])) ∙ sym (insert-behind r (es ++ map at_place later) p b)

-- those that stand apart are in order
pub apart-order : (es whole : Placed) (later : List ReadRequest) → es ++ map at_place later ≡ whole → is_in_order (values_of whole) ≡ true → is_in_order later ≡ true
apart-order es whole later e o = order-back (values_of es) later (ap is_in_order (sym (values-apart es later) ∙ ap values_of e) ∙ o)
