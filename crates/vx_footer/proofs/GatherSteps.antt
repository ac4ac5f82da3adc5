-- Steps of gathering the paths of layouts and the common paths of segments.
use Rattle.std.proofs.Common.{◌≡◌, ℕ, zero, suc, ◌+◌, ◌<◌, ◌≤◌, Bool, true, false, List, [], ◌∷◌, ◌++◌, length, get_or, take, drop, map, Option, Some, None, refl, ap, ap₂, sym, ◌∙◌, arith, add-one, drop-cons}
use Rattle.std.specs.Prelude.{◌&&◌, ◌||◌, nat_lt, nat_le, slice_set, replicate, if◌then◌else◌}
use Rattle.std.specs.List.{list_all}
use Rattle.std.specs.Option.{option_map, option_or}
use Rattle.std.specs.BTreeMap.{is_at}
use Rattle.std.proofs.lemmas.Bool.Decides.{nat_tests}
use Rattle.std.proofs.lemmas.List.{drop_all}
use Rattle.std.proofs.lemmas.List.Folds.{list_any-append}
use Rattle.vx_base.specs.declared.segment.SegmentId.{SegmentId}
use Rattle.vx_data.specs.Paths.{Path, path_cmp}
use Rattle.vx_data.specs.Layout.{numbers_of}
use Rattle.vx_footer.specs.FieldSizes.{Reference, references_at}
use Rattle.vx_footer.specs.CommonPaths.{narrowed, commons_after}
use Rattle.vx_footer.specs.Gathering.{path_at, has_path, is_known, commons_in, first_missing, Gathering, Meets}

-- ---- paths that keep their numbers

taken_long : (n : ℕ) (xs : List Path) → length (take n xs) ≤ length xs
taken_long zero xs = omega arith
taken_long (suc n) [] = omega arith
taken_long (suc n) (x ∷ xs) = omega (arith, taken_long n xs)

pub kept_long : (old new : List Path) → take (length old) new ≡ old → length old ≤ length new
kept_long old new kept = omega (arith, ap length kept, taken_long (length old) new)

at_taken : (n k : ℕ) (xs : List Path) → k < n → get_or (take n xs) k [] ≡ get_or xs k []
at_taken zero k xs lt = absurd (omega (arith, lt))
at_taken (suc n) k [] lt = refl
at_taken (suc n) zero (x ∷ xs) lt = refl
at_taken (suc n) (suc k) (x ∷ xs) lt = at_taken n k xs (omega (arith, lt))

pub path_kept : (old new : List Path) (n : ℕ) → take (length old) new ≡ old → n < length old → path_at new n ≡ path_at old n
path_kept old new n kept lt = sym (at_taken (length old) n new lt) ∙ ap (λ (ps : List Path). get_or ps n []) kept

take_again : (m n : ℕ) (p : List Path) → m ≤ n → take m (take n p) ≡ take m p
take_again zero n p le = refl
take_again (suc m) zero p le = absurd (omega arith)
take_again (suc m) (suc n) [] le = refl
take_again (suc m) (suc n) (a ∷ p) le = ap (λ (xs : List Path). a ∷ xs) (take_again m n p (omega arith))

kept_twice : (a b c : List Path) → take (length a) b ≡ a → take (length b) c ≡ b → take (length a) c ≡ a
kept_twice a b c first second =
    sym (take_again (length a) (length b) c (kept_long a b first)) ∙ ap (λ (ps : List Path). take (length a) ps) second ∙ first

take_all : (xs : List Path) → take (length xs) xs ≡ xs
take_all [] = refl
take_all (x ∷ xs) = ap (λ (ys : List Path). x ∷ ys) (take_all xs)

-- ---- numbers of common paths

and_parts : (a b : Bool) → (a && b) ≡ true → (a ≡ true) × (b ≡ true)
and_parts true b e = (refl, e)
and_parts false b e = absurd cc

both : (a b : Bool) → a ≡ true → b ≡ true → (a && b) ≡ true
both true b e f = f
both false b e f = absurd cc

more_known : (m n : ℕ) (c : Option ℕ) → m ≤ n → is_known m c ≡ true → is_known n c ≡ true
more_known m n None le is = refl
more_known m n (Some k) le is = grind (arith, nat_tests)

pub known_kept : (cs : List (Option ℕ)) (m n : ℕ) → m ≤ n → list_all (is_known m) cs ≡ true → list_all (is_known n) cs ≡ true
known_kept [] m n le all = refl
known_kept (c ∷ cs) m n le all =
    let parts = and_parts (is_known m c) (list_all (is_known m) cs) all in
    both (is_known n c) (list_all (is_known n) cs) (more_known m n c le parts.0) (known_kept cs m n le parts.1)

one_kept : (c : Option ℕ) (old new : List Path) → take (length old) new ≡ old → is_known (length old) c ≡ true → option_map (path_at new) c ≡ option_map (path_at old) c
one_kept None old new kept is = refl
one_kept (Some k) old new kept is = let lt : k < length old = grind (arith, nat_tests) in ap (λ (p : Path). Some p) (path_kept old new k kept lt)

pub commons_kept : (cs : List (Option ℕ)) (old new : List Path) → take (length old) new ≡ old → list_all (is_known (length old)) cs ≡ true
    → commons_in new cs ≡ commons_in old cs
commons_kept [] old new kept all = refl
commons_kept (c ∷ cs) old new kept all =
    let parts = and_parts (is_known (length old) c) (list_all (is_known (length old)) cs) all in
    ap₂ (λ (o : Option Path) (os : List (Option Path)). o ∷ os) (one_kept c old new kept parts.0) (commons_kept cs old new kept parts.1)

pub commons_set : (ps : List Path) (cs : List (Option ℕ)) (i n : ℕ) → commons_in ps (slice_set cs i (Some n)) ≡ slice_set (commons_in ps cs) i (Some (path_at ps n))
commons_set ps [] i n = refl
commons_set ps (c ∷ cs) zero n = refl
commons_set ps (c ∷ cs) (suc i) n = ap (λ (os : List (Option Path)). option_map (path_at ps) c ∷ os) (commons_set ps cs i n)

pub known_set : (cs : List (Option ℕ)) (i n k : ℕ) → n < k → list_all (is_known k) cs ≡ true → list_all (is_known k) (slice_set cs i (Some n)) ≡ true
known_set [] i n k lt all = refl
known_set (c ∷ cs) zero n k lt all = both (nat_lt n k) (list_all (is_known k) cs) (grind (arith, nat_tests)) (and_parts (is_known k c) (list_all (is_known k) cs) all).1
known_set (c ∷ cs) (suc i) n k lt all =
    let parts = and_parts (is_known k c) (list_all (is_known k) cs) all in
    both (is_known k c) (list_all (is_known k) (slice_set cs i (Some n))) parts.0 (known_set cs i n k lt parts.1)

pub known_at : (cs : List (Option ℕ)) (i k : ℕ) (c : Option ℕ) → list_all (is_known k) cs ≡ true → i < length cs → c ≡ get_or cs i c → is_known k c ≡ true
known_at [] i k c all lt is = absurd (omega (arith, lt))
known_at (d ∷ cs) zero k c all lt is = ap (λ (o : Option ℕ). is_known k o) is ∙ (and_parts (is_known k d) (list_all (is_known k) cs) all).0
known_at (d ∷ cs) (suc i) k c all lt is = known_at cs i k c (and_parts (is_known k d) (list_all (is_known k) cs) all).1 (omega (arith, lt)) is

pub commons_at : (ps : List Path) (cs : List (Option ℕ)) (i : ℕ) (c : Option ℕ) → i < length cs → c ≡ get_or cs i c → get_or (commons_in ps cs) i None ≡ option_map (path_at ps) c
commons_at ps [] i c lt is = absurd (omega (arith, lt))
commons_at ps (d ∷ cs) zero c lt is = ap (λ (o : Option ℕ). option_map (path_at ps) o) (sym is)
commons_at ps (d ∷ cs) (suc i) c lt is = commons_at ps cs i c (omega (arith, lt)) is

pub commons_count : (ps : List Path) (cs : List (Option ℕ)) → length (commons_in ps cs) ≡ length cs
commons_count ps [] = refl
commons_count ps (c ∷ cs) = ap suc (commons_count ps cs)

pub no_commons : (ps : List Path) (n : ℕ) → commons_in ps (replicate n None) ≡ replicate n None
no_commons ps zero = refl
no_commons ps (suc n) = ap (λ (os : List (Option Path)). None ∷ os) (no_commons ps n)

pub none_known : (k n : ℕ) → list_all (is_known k) (replicate n None) ≡ true
none_known k zero = refl
none_known k (suc n) = none_known k n

abbrev start : List Path → List (Option Path) → ℕ → Gathering
start paths commons count = record { paths = paths; commons = commons; count = count; missing = None }

pub new_is : (table : List Path) (cs : List (Option ℕ)) (n count : ℕ) → table ≡ [] ∷ [] → cs ≡ replicate n None
    → start table (commons_in table cs) count ≡ start ([] ∷ []) (replicate n None) count
new_is table cs n count table_is cs_is =
    ap₂ (λ (t : List Path) (os : List (Option Path)). start t os count) table_is
    (ap (λ (xs : List (Option ℕ)). commons_in table xs) cs_is ∙ no_commons table n)

pub replicate_push : {A : Type 0} (n : ℕ) (x : A) → replicate n x ++ x ∷ [] ≡ replicate (n + 1) x
replicate_push zero x = refl
replicate_push (suc n) x = rw add-one (ap (λ xs. x ∷ xs) (replicate_push n x ∙ rw add-one refl))

-- ---- numbers that a layout names, one after the other

from_id : (ids : List SegmentId) (i : ℕ) (id : SegmentId) → i < length ids → id ≡ get_or ids i id → drop i ids ≡ id ∷ drop (i + 1) ids
from_id ids i id lt is = rw (add-one, drop-cons ids i id, ← is) refl

abbrev refs_from : Path → List SegmentId → ℕ → List Reference
refs_from p ids i = references_at p (numbers_of (drop i ids))

set_past : {A : Type 0} (xs : List A) (i : ℕ) (x : A) → length xs ≤ i → slice_set xs i x ≡ xs
set_past [] i x le = refl
set_past (y ∷ ys) zero x le = absurd (omega arith)
set_past (y ∷ ys) (suc i) x le = ap (λ zs. y ∷ zs) (set_past ys i x (omega arith))

pub set_here : (ps : List Path) (p : Path) (cs : List (Option ℕ)) (i common : ℕ) (c : Option ℕ)
    → i < length cs → c ≡ get_or cs i c → path_at ps common ≡ narrowed (option_map (path_at ps) c) p
    → commons_in ps (slice_set cs i (Some common)) ≡ slice_set (commons_in ps cs) i (Some (narrowed (get_or (commons_in ps cs) i None) p))
set_here ps p cs i common c within c_is common_is =
    let here : get_or (commons_in ps cs) i None ≡ option_map (path_at ps) c = commons_at ps cs i c within c_is in
    commons_set ps cs i common ∙ ap (λ (q : Path). slice_set (commons_in ps cs) i (Some q)) (common_is ∙ ap (λ (o : Option Path). narrowed o p) (sym here))

pub set_outside : (ps : List Path) (p : Path) (cs : List (Option ℕ)) (i : ℕ) → length cs ≤ i
    → commons_in ps cs ≡ slice_set (commons_in ps cs) i (Some (narrowed (get_or (commons_in ps cs) i None) p))
set_outside ps p cs i past = sym (set_past (commons_in ps cs) i (Some (narrowed (get_or (commons_in ps cs) i None) p)) (omega (arith, past, commons_count ps cs)))

pub ruleset set_steps = (set_outside, known_at)

pub next_narrowed : (ps : List Path) (p : Path) (cs fresh : List (Option ℕ)) (ids : List SegmentId) (i : ℕ) (id : SegmentId)
    → i < length ids → id ≡ get_or ids i id
    → commons_in ps fresh ≡ slice_set (commons_in ps cs) id.0 (Some (narrowed (get_or (commons_in ps cs) id.0 None) p))
    → commons_after (commons_in ps fresh) (refs_from p ids (i + 1)) ≡ commons_after (commons_in ps cs) (refs_from p ids i)
next_narrowed ps p cs fresh ids i id lt is fresh_is =
    ap (λ (os : List (Option Path)). commons_after os (refs_from p ids (i + 1))) fresh_is
    ∙ ap (λ (xs : List SegmentId). commons_after (commons_in ps cs) (references_at p (numbers_of xs))) (sym (from_id ids i id lt is))

pub end_narrowed : (ps : List Path) (p : Path) (cs : List (Option ℕ)) (ids : List SegmentId) (i : ℕ) → length ids ≤ i
    → commons_after (commons_in ps cs) (refs_from p ids i) ≡ commons_in ps cs
end_narrowed ps p cs ids i past = ap (λ (xs : List SegmentId). commons_after (commons_in ps cs) (references_at p (numbers_of xs))) (drop_all i ids past)

pub ruleset narrow_steps = (next_narrowed, end_narrowed)

-- ---- the first number past a count

pub next_past : (count : ℕ) (ids : List SegmentId) (i : ℕ) (id : SegmentId) → i < length ids → id ≡ get_or ids i id → id.0 < count
    → first_missing count (numbers_of (drop i ids)) ≡ first_missing count (numbers_of (drop (i + 1) ids))
next_past count ids i id lt is below =
    let no : nat_le count id.0 ≡ false = grind (arith, nat_tests) in
    rw (from_id ids i id lt is, no) refl

pub this_past : (count : ℕ) (ids : List SegmentId) (i : ℕ) (id : SegmentId) → i < length ids → id ≡ get_or ids i id → count ≤ id.0
    → first_missing count (numbers_of (drop i ids)) ≡ Some id.0
this_past count ids i id lt is past =
    let sure : nat_le count id.0 ≡ true = grind (arith, nat_tests) in
    rw (from_id ids i id lt is, sure) refl

pub end_past : (count : ℕ) (ids : List SegmentId) (i : ℕ) → length ids ≤ i → first_missing count (numbers_of (drop i ids)) ≡ None
end_past count ids i past = rw (drop_all i ids past) refl

pub ruleset find_steps = (next_past, this_past, end_past)

-- ---- what was met, and then more

or_again : (a b c : Bool) → ((a || b) || c) ≡ (a || (b || c))
or_again true b c = refl
or_again false b c = refl

or_false : (a : Bool) → (a || false) ≡ a
or_false true = refl
or_false false = refl

or_nothing : (o : Option ℕ) → o ≡ option_or o None
or_nothing None = refl
or_nothing (Some n) = refl

or_then : (a b c : Option ℕ) → option_or (option_or a b) c ≡ option_or a (option_or b c)
or_then None b c = refl
or_then (Some n) b c = refl

commons_append : (cs : List (Option Path)) (rs ss : List Reference) → commons_after (commons_after cs rs) ss ≡ commons_after cs (rs ++ ss)
commons_append cs [] ss = refl
commons_append cs (r ∷ rs) ss = commons_append (slice_set cs r.segment (Some (narrowed (get_or cs r.segment None) r.path))) rs ss

first_case : (past : Bool) (id : ℕ) (a b c : Option ℕ) → option_or a b ≡ c → option_or (if past then Some id else a) b ≡ (if past then Some id else c)
first_case true id a b c e = refl
first_case false id a b c e = e

first_append : (count : ℕ) (rs ss : List Reference) → option_or (first_missing count (map (λ r. r.segment) rs)) (first_missing count (map (λ r. r.segment) ss))
    ≡ first_missing count (map (λ r. r.segment) (rs ++ ss))
first_append count [] ss = refl
first_append count (r ∷ rs) ss = first_case (nat_le count r.segment) r.segment _ _ _ (first_append count rs ss)

pub meets_nothing : (a : Gathering) → Meets a a [] []
meets_nothing a = record {
  kept = take_all a.paths;
  also = λ q. sym (or_false (has_path a.paths q));
  commons = refl;
  count = refl;
  missing = or_nothing a.missing;
}

pub meets_both : (a b c : Gathering) (ps qs : List Path) (rs ss : List Reference) → Meets a b ps rs → Meets b c qs ss → Meets a c (ps ++ qs) (rs ++ ss)
meets_both a b c ps qs rs ss first second = record {
  kept = kept_twice a.paths b.paths c.paths first.kept second.kept;
  also = λ q. second.also q ∙ ap (λ (x : Bool). x || has_path qs q) (first.also q) ∙ or_again (has_path a.paths q) (has_path ps q) (has_path qs q)
      ∙ ap (λ (x : Bool). has_path a.paths q || x) (sym (list_any-append (is_at (path_cmp q)) ps qs));
  commons = second.commons ∙ ap (λ (os : List (Option Path)). commons_after os ss) first.commons ∙ commons_append a.commons rs ss;
  count = second.count ∙ first.count;
  missing = second.missing ∙ ap₂ (λ (o : Option ℕ) (n : ℕ). option_or o (first_missing n (map (λ r. r.segment) ss))) first.missing first.count
      ∙ or_then a.missing (first_missing a.count (map (λ r. r.segment) rs)) (first_missing a.count (map (λ r. r.segment) ss))
      ∙ ap (λ (o : Option ℕ). option_or a.missing o) (first_append a.count rs ss);
}

twice : (a x y : Bool) → (a || (x || (x || y))) ≡ (a || (x || y))
twice true x y = refl
twice false true y = refl
twice false false y = refl

-- a path that is met twice in a row
pub meets_again : (a b : Gathering) (p : Path) (ps : List Path) (rs : List Reference) → Meets a b (p ∷ (p ∷ ps)) rs → Meets a b (p ∷ ps) rs
meets_again a b p ps rs m = record {
  kept = m.kept;
  also = λ q. m.also q ∙ twice (has_path a.paths q) (is_at (path_cmp q) p) (has_path ps q);
  commons = m.commons;
  count = m.count;
  missing = m.missing;
}

-- ---- one layout, and one field

at_path : (ps : List Path) (n : ℕ) (q : Path) → n < length ps → is_at (path_cmp q) (path_at ps n) ≡ true → has_path ps q ≡ true
at_path [] n q lt is = absurd (omega (arith, lt))
at_path (p ∷ ps) zero q lt is = ap (λ (b : Bool). b || has_path ps q) is
at_path (p ∷ ps) (suc n) q lt is = ap (λ (b : Bool). is_at (path_cmp q) p || b) (at_path ps n q (omega (arith, lt)) is) ∙ or_true (is_at (path_cmp q) p)
  where
    or_true : (a : Bool) → (a || true) ≡ true
    or_true true = refl
    or_true false = refl

there_case : (has here : Bool) → (here ≡ true → has ≡ true) → has ≡ (has || (here || false))
there_case true here sure = refl
there_case false true sure = sure refl
there_case false false sure = refl

segments_are : (p : Path) (ids : List ℕ) → map (λ r. r.segment) (references_at p ids) ≡ ids
segments_are p [] = refl
segments_are p (id ∷ ids) = ap (λ (xs : List ℕ). id ∷ xs) (segments_are p ids)

pub meets_ids : (a b : Gathering) (n : ℕ) (ids : List ℕ) → n < length a.paths → b.paths ≡ a.paths
    → b.commons ≡ commons_after a.commons (references_at (path_at a.paths n) ids) → b.count ≡ a.count → b.missing ≡ option_or a.missing (first_missing a.count ids)
    → Meets a b (path_at a.paths n ∷ []) (references_at (path_at a.paths n) ids)
meets_ids a b n ids lt paths commons count missing = record {
  kept = ap (λ (ps : List Path). take (length a.paths) ps) paths ∙ take_all a.paths;
  also = λ q. ap (λ (ps : List Path). has_path ps q) paths ∙ there_case (has_path a.paths q) (is_at (path_cmp q) (path_at a.paths n)) (λ is. at_path a.paths n q lt is);
  commons = commons;
  count = count;
  missing = missing ∙ ap (λ (xs : List ℕ). option_or a.missing (first_missing a.count xs)) (sym (segments_are (path_at a.paths n) ids));
}

pub meets_child : (a b : Gathering) (cs : List (Option ℕ)) (p : Path) → a.commons ≡ commons_in a.paths cs → b.commons ≡ commons_in b.paths cs
    → list_all (is_known (length a.paths)) cs ≡ true → take (length a.paths) b.paths ≡ a.paths
    → ((q : Path) → has_path b.paths q ≡ (has_path a.paths q || has_path (p ∷ []) q)) → b.count ≡ a.count → b.missing ≡ a.missing → Meets a b (p ∷ []) []
meets_child a b cs p before after known kept also count missing = record {
  kept = kept;
  also = also;
  commons = after ∙ commons_kept cs a.paths b.paths kept known ∙ sym before;
  count = count;
  missing = missing ∙ or_nothing a.missing;
}
