-- The size of a field is that of the fields below and of the segments whose longest common path it is.
use Rattle.std.proofs.Common.{◌≡◌, ℕ, ◌+◌, Bool, true, false, List, [], ◌∷◌, ◌++◌, Option, Some, None, refl, ap, ap₂, sym, ◌∙◌, arith}
use Rattle.std.specs.Prelude.{◌==◌, ◌&&◌, ◌||◌, not, if◌then◌else◌, sum_by}
use Rattle.std.specs.Str.{bytes_eq}
use Rattle.std.specs.List.{list_any, list_all}
use Rattle.std.proofs.lemmas.List.Sums.{sum_by-cons}
use Rattle.std.proofs.lemmas.Slice.Eq.{bytes_eq-Decides}
use Rattle.vx_base.specs.declared.segment.SegmentSpec.{SegmentSpec}
use Rattle.vx_data.specs.Layout.{LayoutTree}
use Rattle.vx_data.specs.Paths.{Path}
use Rattle.vx_footer.specs.FieldSizes.{Reference, is_prefix, is_named, counts, size_from, named_segments, references_of, paths_of, size_of, next_name, with_name, names_below, is_own, own_from, own_length}

-- ---- truth values

both_true : (a b : Bool) → (a && b) ≡ true → (a ≡ true) × (b ≡ true)
both_true true b e = (refl, e)
both_true false b e = absurd cc

both : (a b : Bool) → a ≡ true → b ≡ true → (a && b) ≡ true
both a b e f = ap₂ (λ (x y : Bool). x && y) e f

same_name : (a b : List ℕ) → bytes_eq a b ≡ true → a ≡ b
same_name a b e = (bytes_eq-Decides a b).0 e

name_same : (a b : List ℕ) → a ≡ b → bytes_eq a b ≡ true
name_same a b e = (bytes_eq-Decides a b).1 e

-- ---- a path and one name more

prefix_one : (p q : Path) (n m : List ℕ) → is_prefix (p ++ n ∷ []) q ≡ true → is_prefix (p ++ m ∷ []) q ≡ true → n ≡ m
prefix_one [] [] n m e f = absurd cc
prefix_one [] (b ∷ q) n m e f =
    let first : (bytes_eq n b ≡ true) × (true ≡ true) = both_true (bytes_eq n b) true e in
    let second : (bytes_eq m b ≡ true) × (true ≡ true) = both_true (bytes_eq m b) true f in
    same_name n b first.0 ∙ sym (same_name m b second.0)
prefix_one (a ∷ p) [] n m e f = absurd cc
prefix_one (a ∷ p) (b ∷ q) n m e f =
    let first : (bytes_eq a b ≡ true) × (is_prefix (p ++ n ∷ []) q ≡ true) = both_true (bytes_eq a b) _ e in
    let second : (bytes_eq a b ≡ true) × (is_prefix (p ++ m ∷ []) q ≡ true) = both_true (bytes_eq a b) _ f in
    prefix_one p q n m first.1 second.1

prefix_less : (p q : Path) (n : List ℕ) → is_prefix (p ++ n ∷ []) q ≡ true → is_prefix p q ≡ true
prefix_less [] q n e = refl
prefix_less (a ∷ p) [] n e = absurd cc
prefix_less (a ∷ p) (b ∷ q) n e =
    let parts : (bytes_eq a b ≡ true) × (is_prefix (p ++ n ∷ []) q ≡ true) = both_true (bytes_eq a b) _ e in
    both (bytes_eq a b) (is_prefix p q) parts.0 (prefix_less p q n parts.1)

-- ---- what counts

abbrev all_on : List Reference → Path → ℕ → Bool
all_on refs path id = list_all (λ r. not (r.segment == id) || is_prefix path r.path) refs

one_case : (p : Path) (n m : List ℕ) (r : Reference) (here rest : Bool) → (rest ≡ true → n ≡ m) → (here || rest) ≡ true
    → (not here || is_prefix (p ++ n ∷ []) r.path) ≡ true → (not here || is_prefix (p ++ m ∷ []) r.path) ≡ true → n ≡ m
one_case p n m r true rest more named e f = prefix_one p r.path n m e f
one_case p n m r false rest more named e f = more named

one_name : (refs : List Reference) (p : Path) (n m : List ℕ) (id : ℕ) → is_named refs id ≡ true → all_on refs (p ++ n ∷ []) id ≡ true → all_on refs (p ++ m ∷ []) id ≡ true → n ≡ m
one_name [] p n m id named e f = absurd cc
one_name (r ∷ refs) p n m id named e f =
    let first : ((not (r.segment == id) || is_prefix (p ++ n ∷ []) r.path) ≡ true) × (all_on refs (p ++ n ∷ []) id ≡ true) = both_true _ _ e in
    let second : ((not (r.segment == id) || is_prefix (p ++ m ∷ []) r.path) ≡ true) × (all_on refs (p ++ m ∷ []) id ≡ true) = both_true _ _ f in
    one_case p n m r (r.segment == id) (is_named refs id) (λ rest. one_name refs p n m id rest first.1 second.1) named first.0 second.0

one_below : (refs : List Reference) (p : Path) (n m : List ℕ) (id : ℕ) → counts refs (p ++ n ∷ []) id ≡ true → counts refs (p ++ m ∷ []) id ≡ true → n ≡ m
one_below refs p n m id e f =
    let first : (is_named refs id ≡ true) × (all_on refs (p ++ n ∷ []) id ≡ true) = both_true _ _ e in
    let second : (is_named refs id ≡ true) × (all_on refs (p ++ m ∷ []) id ≡ true) = both_true _ _ f in
    one_name refs p n m id first.0 first.1 second.1

less_case : (p q : Path) (n : List ℕ) (here : Bool) → (not here || is_prefix (p ++ n ∷ []) q) ≡ true → (not here || is_prefix p q) ≡ true
less_case p q n true e = prefix_less p q n e
less_case p q n false e = refl

all_less : (refs : List Reference) (p : Path) (n : List ℕ) (id : ℕ) → all_on refs (p ++ n ∷ []) id ≡ true → all_on refs p id ≡ true
all_less [] p n id e = refl
all_less (r ∷ refs) p n id e =
    let parts : ((not (r.segment == id) || is_prefix (p ++ n ∷ []) r.path) ≡ true) × (all_on refs (p ++ n ∷ []) id ≡ true) = both_true _ _ e in
    both _ _ (less_case p r.path n (r.segment == id) parts.0) (all_less refs p n id parts.1)

counts_less : (refs : List Reference) (p : Path) (n : List ℕ) (id : ℕ) → counts refs (p ++ n ∷ []) id ≡ true → counts refs p id ≡ true
counts_less refs p n id e =
    let parts : (is_named refs id ≡ true) × (all_on refs (p ++ n ∷ []) id ≡ true) = both_true _ _ e in
    both (is_named refs id) (all_on refs p id) parts.0 (all_less refs p n id parts.1)

-- ---- names, each once

Distinct : List (List ℕ) → Type 0
Distinct [] = Unit {0}
Distinct (n ∷ ns) = (list_any (bytes_eq n) ns ≡ false) × Distinct ns

add_case : (n : List ℕ) (ns : List (List ℕ)) (here : Bool) → list_any (bytes_eq n) ns ≡ here → Distinct ns → Distinct (if here then ns else n ∷ ns)
unfolding Distinct
add_case n ns true is apart = apart
add_case n ns false is apart = (is, apart)

added : (o : Option (List ℕ)) (ns : List (List ℕ)) → Distinct ns → Distinct (with_name o ns)
added None ns apart = apart
added (Some n) ns apart = add_case n ns (list_any (bytes_eq n) ns) refl apart

names_apart : (p : Path) (qs : List Path) → Distinct (names_below p qs)
unfolding Distinct
names_apart p [] = tt
names_apart p (q ∷ qs) = added (next_name p q) (names_below p qs) (names_apart p qs)

-- ---- one segment

abbrev below : List Reference → Path → ℕ → List ℕ → Bool
below refs p id n = counts refs (p ++ n ∷ []) id

other_case : (refs : List Reference) (p : Path) (id : ℕ) (n m : List ℕ) (ns : List (List ℕ)) (here : Bool) → below refs p id n ≡ true → below refs p id m ≡ here
    → (bytes_eq n m || list_any (bytes_eq n) ns) ≡ false → list_any (below refs p id) ns ≡ false → (here || list_any (below refs p id) ns) ≡ false
other_case refs p id n m ns true on is apart rest =
    let one : bytes_eq n m ≡ true = name_same n m (one_below refs p n m id on is) in
    absurd (let clash : true ≡ false = sym (ap (λ (b : Bool). b || list_any (bytes_eq n) ns) one) ∙ apart in cc)
other_case refs p id n m ns false on is apart rest = rest

or_false : (a b : Bool) → (a || b) ≡ false → b ≡ false
or_false true b e = absurd cc
or_false false b e = e

no_other : (refs : List Reference) (p : Path) (id : ℕ) (n : List ℕ) (ns : List (List ℕ)) → below refs p id n ≡ true → list_any (bytes_eq n) ns ≡ false → list_any (below refs p id) ns ≡ false
no_other refs p id n [] on apart = refl
no_other refs p id n (m ∷ ns) on apart =
    other_case refs p id n m ns (below refs p id m) on refl apart (no_other refs p id n ns on (or_false (bytes_eq n m) (list_any (bytes_eq n) ns) apart))

one_sum_case : (refs : List Reference) (p : Path) (id bytes : ℕ) (n : List ℕ) (ns : List (List ℕ)) (here : Bool) (rest : ℕ) → below refs p id n ≡ here → list_any (bytes_eq n) ns ≡ false
    → rest ≡ (if list_any (below refs p id) ns then bytes else 0) → (if here then bytes else 0) + rest ≡ (if (here || list_any (below refs p id) ns) then bytes else 0)
one_sum_case refs p id bytes n ns true rest is apart more =
    let none : rest ≡ 0 = more ∙ ap (λ (b : Bool). if b then bytes else 0) (no_other refs p id n ns is apart) in omega arith
one_sum_case refs p id bytes n ns false rest is apart more = omega (arith, more)

one_sum : (refs : List Reference) (p : Path) (id bytes : ℕ) (ns : List (List ℕ)) → Distinct ns
    → sum_by (λ n. if counts refs (p ++ n ∷ []) id then bytes else 0) ns ≡ (if list_any (below refs p id) ns then bytes else 0)
unfolding Distinct
one_sum refs p id bytes [] apart = refl
one_sum refs p id bytes (n ∷ ns) apart =
    sum_by-cons (λ (m : List ℕ). if counts refs (p ++ m ∷ []) id then bytes else 0) n ns
    ∙ one_sum_case refs p id bytes n ns (below refs p id n) _ refl apart.0 (one_sum refs p id bytes ns apart.1)

any_case : (refs : List Reference) (p : Path) (id : ℕ) (n : List ℕ) (ns : List (List ℕ)) (here : Bool) → below refs p id n ≡ here
    → (list_any (below refs p id) ns ≡ true → counts refs p id ≡ true) → (here || list_any (below refs p id) ns) ≡ true → counts refs p id ≡ true
any_case refs p id n ns true is more e = counts_less refs p n id is
any_case refs p id n ns false is more e = more e

any_counts : (refs : List Reference) (p : Path) (id : ℕ) (ns : List (List ℕ)) → list_any (below refs p id) ns ≡ true → counts refs p id ≡ true
any_counts refs p id [] e = absurd cc
any_counts refs p id (n ∷ ns) e = any_case refs p id n ns (below refs p id n) refl (any_counts refs p id ns) e

and_true : (a : Bool) → (a && true) ≡ a
and_true true = refl
and_true false = refl

and_false : (a : Bool) → (a && false) ≡ false
and_false true = refl
and_false false = refl

split_case : (on any : Bool) (bytes : ℕ) → (any ≡ true → on ≡ true) → (if on then bytes else 0) ≡ (if (on && not any) then bytes else 0) + (if any then bytes else 0)
split_case true true bytes up = omega arith
split_case true false bytes up = omega arith
split_case false true bytes up = absurd (let clash : false ≡ true = up refl in cc)
split_case false false bytes up = refl

-- ---- all segments

both_sums : {A : Type 0} (f g : A → ℕ) (xs : List A) → sum_by (λ x. f x + g x) xs ≡ sum_by f xs + sum_by g xs
both_sums f g [] = refl
both_sums f g (x ∷ xs) = omega (arith, sum_by-cons (λ y. f y + g y) x xs, sum_by-cons f x xs, sum_by-cons g x xs, both_sums f g xs)

no_sum : {A : Type 0} (xs : List A) → sum_by (λ (x : A). 0) xs ≡ 0
no_sum [] = refl
no_sum {A} (x ∷ xs) = sum_by-cons (λ (y : A). 0) x xs ∙ ap (λ (n : ℕ). 0 + n) (no_sum xs)

sizes_split : (refs : List Reference) (p : Path) (ns : List (List ℕ)) (id : ℕ) (ss : List SegmentSpec) → Distinct ns
    → size_from refs p id ss ≡ own_from refs p ns id ss + sum_by (λ n. size_from refs (p ++ n ∷ []) id ss) ns
sizes_split refs p ns id [] apart = omega (arith, no_sum ns)
sizes_split refs p ns id (s ∷ ss) apart =
    let one : sum_by (λ n. if counts refs (p ++ n ∷ []) id then s.length else 0) ns ≡ (if list_any (below refs p id) ns then s.length else 0) = one_sum refs p id s.length ns apart in
    let first : (if counts refs p id then s.length else 0) ≡ (if is_own refs p ns id then s.length else 0) + (if list_any (below refs p id) ns then s.length else 0)
    = split_case (counts refs p id) (list_any (below refs p id) ns) s.length (any_counts refs p id ns) in
    let rest : size_from refs p (id + 1) ss ≡ own_from refs p ns (id + 1) ss + sum_by (λ n. size_from refs (p ++ n ∷ []) (id + 1) ss) ns = sizes_split refs p ns (id + 1) ss apart in
    let sums : sum_by (λ n. size_from refs (p ++ n ∷ []) id (s ∷ ss)) ns
    ≡ sum_by (λ n. if counts refs (p ++ n ∷ []) id then s.length else 0) ns + sum_by (λ n. size_from refs (p ++ n ∷ []) (id + 1) ss) ns
    = both_sums (λ (n : List ℕ). if counts refs (p ++ n ∷ []) id then s.length else 0) (λ (n : List ℕ). size_from refs (p ++ n ∷ []) (id + 1) ss) ns in
    omega arith

pub size_is_of_fields : (t : LayoutTree) (ss : List SegmentSpec) (path : Path)
    → size_of t ss path ≡ own_length t ss path + sum_by (λ n. size_of t ss (path ++ n ∷ [])) (names_below path (paths_of [] t))
unfolding size_of
size_is_of_fields t ss path =
    sizes_split (references_of [] t) path (names_below path (paths_of [] t)) 0 (named_segments ss) (names_apart path (paths_of [] t))
