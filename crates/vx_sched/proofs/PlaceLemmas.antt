-- Places in order, and the numbers that were found at them.
use Rattle.std.proofs.Common.{◌≡◌, ℕ, suc, ◌+◌, ◌<◌, ◌≤◌, ◌==◌, ◌&&◌, ◌||◌, Bool, true, false, cond, List, [], ◌∷◌, ◌++◌, length, get_or, Option, Some, None, refl, ap, sym, ◌∙◌, subst, ⊎_elim, arith}
use Rattle.std.proofs.lemmas.Bool.{cases_lt}
use Rattle.std.proofs.lemmas.Bool.Decides.{nat_tests}
use Rattle.std.proofs.lemmas.List.Folds.{list_any-append}
use Rattle.std.specs.List.{list_any, filter}
use Rattle.std.specs.List.Sorted.{IsNonDecreasingBy, IsSorted, IsSortedByKey}
use Rattle.std.specs.Ordering.{nat_cmp, is_lt}
use Rattle.std.specs.BTreeMap.{is_at}
use Rattle.vx_sched.specs.Entries.{waits_in}
use Rattle.vx_sched.specs.Places.{place_cmp, offset_of, has_place, if_waiting, waits_at}
use Rattle.vx_sched.specs.Stored.{Read}
use Rattle.vx_sched.proofs.TableLemmas.{place-eq}

-- a place that is among some stands somewhere
pub record Stands (places : List (ℕ × ℕ)) (offset id : ℕ) : Type 0 where
  pub at : ℕ
  pub inside : at < length places
  pub offset_is : (get_or places at (0, 0)).0 ≡ offset
  pub id_is : (get_or places at (0, 0)).1 ≡ id

pub stands-at : (places : List (ℕ × ℕ)) (offset id : ℕ) → has_place places (offset, id) ≡ true → Stands places offset id
stands-at [] offset id h = cc
stands-at (k ∷ rest) offset id h = at (stands-at rest offset id) (is_at (place_cmp (offset, id)) k) refl h
  where
    at : (has_place rest (offset, id) ≡ true → Stands rest offset id) → (b : Bool) → is_at (place_cmp (offset, id)) k ≡ b → (b || has_place rest (offset, id)) ≡ true
        → Stands (k ∷ rest) offset id
    at more true e h =
        let both : ((offset == k.0) && (id == k.1)) ≡ true = sym (place-eq offset id k.0 k.1) ∙ e in
        record {
          at = 0;
          inside = omega arith;
          offset_is = grind (arith, nat_tests);
          id_is = grind (arith, nat_tests);
        }
    at more false e h =
        let later = more h in
        record { at = suc later.at; inside = omega (arith, later.inside); offset_is = later.offset_is; id_is = later.id_is }

-- the numbers at the places up to one, but for those that lie before an offset
abbrev pub Found : List (ℕ × ℕ) → ℕ → List ℕ → ℕ → Type 0
Found places left ids at = (i : ℕ) → i < at → left ≤ (get_or places i (0, 0)).0 → list_any (λ n. n == (get_or places i (0, 0)).1) ids ≡ true

pub found-start : (places : List (ℕ × ℕ)) (left first : ℕ) (ids : List ℕ) → ((i : ℕ) (d : ℕ × ℕ) → i < first → (get_or places i d).0 < left) → Found places left ids first
found-start places left first ids below i l h = absurd (omega (arith, below i (0, 0) l, h))

or-first : (a b : Bool) → a ≡ true → (a || b) ≡ true
or-first true b h = refl
or-first false b h = cc

or-second : (a b : Bool) → b ≡ true → (a || b) ≡ true
or-second true b h = refl
or-second false b h = h

pub found-more : (places : List (ℕ × ℕ)) (left at : ℕ) (ids : List ℕ) (place : ℕ × ℕ) → place ≡ get_or places at (0, 0) → Found places left ids at
    → Found places left (ids ++ place.1 ∷ []) (at + 1)
found-more places left at ids place e found i l h =
    list_any-append (λ n. n == (get_or places i (0, 0)).1) ids (place.1 ∷ []) ∙
    ⊎_elim (λ (k : i < at). or-first _ _ (found i k h))
    (λ (k : at ≤ i).
    let same : at ≡ i = omega arith in
    let number : place.1 ≡ (get_or places i (0, 0)).1 = ap (λ (p : ℕ × ℕ). p.1) (e ∙ ap (λ n. get_or places n (0, 0)) same) in
    let here : (place.1 == (get_or places i (0, 0)).1) ≡ true = grind (arith, nat_tests) in
    or-second (list_any (λ n. n == (get_or places i (0, 0)).1) ids) _ (or-first _ false here)) (cases_lt i at)

-- all were found where none is left in bounds
pub found-all : (places : List (ℕ × ℕ)) (left right at : ℕ) (ids : List ℕ) → IsNonDecreasingBy offset_of places → Found places left ids at
    → (at < length places → right < (get_or places at (0, 0)).0)
    → (offset id : ℕ) → left ≤ offset → offset ≤ right → has_place places (offset, id) ≡ true → list_any (λ n. n == id) ids ≡ true
found-all places left right at ids rise found past offset id l u h =
    let s = stands-at places offset id h in
    ⊎_elim (λ (k : s.at < at). subst (λ q. list_any (λ n. n == q) ids ≡ true) s.id_is (found s.at k (omega (arith, l, s.offset_is))))
    (λ (k : at ≤ s.at).
    let beyond = past (omega (arith, k, s.inside)) in
    let up = rise at s.at (0, 0) k s.inside in
    absurd (omega (arith, beyond, up, s.offset_is, u))) (cases_lt s.at at)

-- a place that a test keeps stays
pub kept-place : (p : ℕ × ℕ → Bool) (places : List (ℕ × ℕ)) (offset id : ℕ) → p (offset, id) ≡ true → has_place places (offset, id) ≡ true
    → has_place (filter p places) (offset, id) ≡ true
kept-place p [] offset id k h = cc
kept-place p (x ∷ rest) offset id k h = at (kept-place p rest offset id k) (is_at (place_cmp (offset, id)) x) refl h
  where
    here : (b : Bool) → b ≡ true → is_at (place_cmp (offset, id)) x ≡ true → has_place (cond b (x ∷ filter p rest) (filter p rest)) (offset, id) ≡ true
    here true e one = or-first _ _ one
    here false e one = cc

    skip : (b : Bool) → has_place (filter p rest) (offset, id) ≡ true → has_place (cond b (x ∷ filter p rest) (filter p rest)) (offset, id) ≡ true
    skip true more = or-second (is_at (place_cmp (offset, id)) x) _ more
    skip false more = more

    at : (has_place rest (offset, id) ≡ true → has_place (filter p rest) (offset, id) ≡ true) → (b : Bool) → is_at (place_cmp (offset, id)) x ≡ b
        → (b || has_place rest (offset, id)) ≡ true → has_place (filter p (x ∷ rest)) (offset, id) ≡ true
    at more true e h =
        let both : ((offset == x.0) && (id == x.1)) ≡ true = sym (place-eq offset id x.0 x.1) ∙ e in
        let first : offset ≡ x.0 = grind (arith, nat_tests) in
        let second : id ≡ x.1 = grind (arith, nat_tests) in
        let kept : p (x.0, x.1) ≡ true = subst (λ n. p (x.0, n) ≡ true) second (subst (λ n. p (n, id) ≡ true) first k) in
        here (p x) kept e
    at more false e h = skip (p x) (more h)

-- a read that waits at an offset waits
pub waits-somewhere : (offset : ℕ) (x : Option Read) → waits_at offset x ≡ true → if_waiting x ≡ true
waits-somewhere offset None h = cc
waits-somewhere offset (Some x) h = and-first (waits_in x.stage) _ h
  where
    and-first : (a b : Bool) → (a && b) ≡ true → a ≡ true
    and-first true b h = refl
    and-first false b h = h

-- in the order of places offsets do not fall
pub offsets-sorted : (places : List (ℕ × ℕ)) → IsSorted place_cmp places → IsSortedByKey offset_of nat_cmp places
offsets-sorted places h k d l u = at (get_or places (k + 1) d) (get_or places k d) (h k d l u)
  where
    at : (a b : ℕ × ℕ) → is_lt (place_cmp a b) ≡ false → is_lt (nat_cmp a.0 b.0) ≡ false
    at a b h = grind (arith, nat_tests)
