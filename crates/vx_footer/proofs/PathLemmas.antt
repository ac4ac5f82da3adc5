-- Paths that are one, paths that go on from others, and sums of what counts for them.
use Rattle.std.proofs.Common.{◌≡◌, ℕ, zero, suc, ◌+◌, ◌-◌, ◌<◌, ◌≤◌, Bool, true, false, List, [], ◌∷◌, ◌++◌, length, get_or, take, drop, Option, Some, None, refl, ap, ap₂, sym, subst, ◌∙◌, arith, add-one, drop-cons}
use Rattle.std.specs.Prelude.{◌*◌, ◌^◌, ◌&&◌, ◌||◌, nat_lt, nat_le, if◌then◌else◌, IfSome, is_some, cond, IsSome}
use Rattle.std.specs.Str.{bytes_eq}
use Rattle.std.specs.List.{list_any}
use Rattle.std.specs.Option.{option_map, option_or}
use Rattle.std.specs.BTreeMap.{is_at}
use Rattle.std.proofs.lemmas.Bool.Decides.{nat_tests}
use Rattle.std.proofs.lemmas.List.{drop_all, take_more}
use Rattle.std.proofs.lemmas.List.Folds.{list_any-append}
use Rattle.std.proofs.lemmas.Slice.Eq.{bytes_eq-Decides}
use Rattle.vx_base.specs.declared.segment.SegmentSpec.{SegmentSpec}
use Rattle.vx_data.specs.Paths.{Path, same_path, path_cmp, path_ties}
use Rattle.vx_footer.specs.FieldSizes.{is_prefix, size_at}
use Rattle.vx_footer.specs.CommonPaths.{is_within, length_within}

-- ---- names and paths that are one

same_name : (a b : List ℕ) → bytes_eq a b ≡ true → a ≡ b
same_name a b e = (bytes_eq-Decides a b).0 e

name_itself : (a : List ℕ) → bytes_eq a a ≡ true
name_itself a = (bytes_eq-Decides a a).1 refl

both_true : (a b : Bool) → (a && b) ≡ true → (a ≡ true) × (b ≡ true)
both_true true b e = (refl, e)
both_true false b e = absurd cc

pub path_is : (p q : Path) → same_path p q ≡ true → p ≡ q
path_is [] [] e = refl
path_is [] (b ∷ q) e = absurd cc
path_is (a ∷ p) [] e = absurd cc
path_is (a ∷ p) (b ∷ q) e =
    let parts : (bytes_eq a b ≡ true) × (same_path p q ≡ true) = both_true (bytes_eq a b) (same_path p q) e in
    ap₂ (λ (x : List ℕ) (y : Path). x ∷ y) (same_name a b parts.0) (path_is p q parts.1)

path_itself : (p : Path) → same_path p p ≡ true
path_itself [] = refl
path_itself (a ∷ p) = rw (name_itself a) (path_itself p)

pub at_is : (p q : Path) → is_at (path_cmp p) q ≡ true → p ≡ q
at_is p q e = path_is p q (path_ties p q ∙ e)

pub at_itself : (p : Path) → is_at (path_cmp p) p ≡ true
at_itself p = sym (path_ties p p) ∙ path_itself p

-- ---- prefixes

prefix_itself : (p : Path) → is_prefix p p ≡ true
prefix_itself [] = refl
prefix_itself (a ∷ p) = rw (name_itself a) (prefix_itself p)

prefix_take : (n : ℕ) (p : Path) → is_prefix (take n p) p ≡ true
prefix_take zero p = refl
prefix_take (suc n) [] = refl
prefix_take (suc n) (a ∷ p) = rw (name_itself a) (prefix_take n p)

prefix_is : (p q : Path) → is_prefix p q ≡ true → p ≡ take (length p) q
prefix_is [] q e = refl
prefix_is (a ∷ p) [] e = absurd cc
prefix_is (a ∷ p) (b ∷ q) e =
    let parts : (bytes_eq a b ≡ true) × (is_prefix p q ≡ true) = both_true (bytes_eq a b) (is_prefix p q) e in
    ap₂ (λ (x : List ℕ) (y : Path). x ∷ y) (same_name a b parts.0) (prefix_is p q parts.1)

prefix_short : (p q : Path) → is_prefix p q ≡ true → length p ≤ length q
prefix_short [] q e = omega arith
prefix_short (a ∷ p) [] e = absurd cc
prefix_short (a ∷ p) (b ∷ q) e =
    let parts : (bytes_eq a b ≡ true) × (is_prefix p q ≡ true) = both_true (bytes_eq a b) (is_prefix p q) e in
    omega (arith, prefix_short p q parts.1)

-- ---- bytes added along a path

add_twice : (o : Option ℕ) (a b : ℕ) → option_map (λ s. s + b) (option_map (λ s. s + a) o) ≡ option_map (λ s. s + (a + b)) o
add_twice None a b = refl
add_twice (Some s) a b = let same : (s + a) + b ≡ s + (a + b) = omega arith in ap (λ (n : ℕ). Some n) same

add_none : (o : Option ℕ) → option_map (λ s. s + 0) o ≡ o
add_none None = refl
add_none (Some s) = let same : s + 0 ≡ s = omega arith in ap (λ (n : ℕ). Some n) same

not_below : (n : ℕ) → nat_lt n n ≡ false
not_below n = grind (arith, nat_tests)

at_most_itself : (n : ℕ) → nat_le n n ≡ true
at_most_itself n = grind (arith, nat_tests)

apart : (m n : ℕ) → ¬ (m ≡ n) → nat_lt m n ≡ nat_le m n
apart m n ne = grind (arith, nat_tests)

true_false : true ≡ false → ⊥
true_false e = cc

along_case : (path c q : Path) (bytes : ℕ) (on here : Bool) → c ≡ take (length c) path → is_prefix q path ≡ on → is_at (path_cmp c) q ≡ here
    → (if on && nat_lt (length c) (length q) then bytes else 0) + (if here then bytes else 0) ≡ (if on && nat_le (length c) (length q) then bytes else 0)
along_case path c q bytes true true front is_on is_here =
    let same : length c ≡ length q = ap length (at_is c q is_here) in
    rw (same, not_below (length q), at_most_itself (length q)) (omega arith)
along_case path c q bytes true false front is_on is_here =
    let ne : ¬ (length c ≡ length q) = λ same.
    let one : q ≡ c = prefix_is q path is_on ∙ ap (λ (n : ℕ). take n path) (sym same) ∙ sym front in
    true_false (sym (at_itself c) ∙ ap (λ (p : Path). is_at (path_cmp c) p) (sym one) ∙ is_here) in
    rw (apart (length c) (length q) ne) (omega arith)
along_case path c q bytes false true front is_on is_here =
    let one : c ≡ q = at_is c q is_here in
    let on : is_prefix c path ≡ true = ap (λ (p : Path). is_prefix p path) front ∙ prefix_take (length c) path in
    absurd (true_false (sym on ∙ ap (λ (p : Path). is_prefix p path) one ∙ is_on))
along_case path c q bytes false false front is_on is_here = refl

along : (path c q : Path) (bytes : ℕ) → c ≡ take (length c) path
    → (if is_prefix q path && nat_lt (length c) (length q) then bytes else 0) + (if is_at (path_cmp c) q then bytes else 0)
    ≡ (if is_prefix q path && nat_le (length c) (length q) then bytes else 0)
along path c q bytes front = along_case path c q bytes (is_prefix q path) (is_at (path_cmp c) q) front refl refl

abbrev pub above : Path → ℕ → Path → ℕ → ℕ
above path n q bytes = if is_prefix q path && nat_lt n (length q) then bytes else 0

abbrev pub at_place : Path → Path → ℕ → ℕ
at_place c q bytes = if is_at (path_cmp c) q then bytes else 0

one_shorter : (m n : ℕ) → 0 < m → nat_le m n ≡ nat_lt (m - 1) n
one_shorter m n some = grind (arith, nat_tests)

take_again : (m n : ℕ) (p : Path) → m ≤ n → take m (take n p) ≡ take m p
take_again zero n p le = refl
take_again (suc m) zero p le = absurd (omega arith)
take_again (suc m) (suc n) [] le = refl
take_again (suc m) (suc n) (a ∷ p) le = ap (λ (xs : Path). a ∷ xs) (take_again m n p (omega arith))

length_front : (n : ℕ) (p : Path) → n ≤ length p → length (take n p) ≡ n
length_front zero p le = refl
length_front (suc n) [] le = absurd (omega arith)
length_front (suc n) (a ∷ p) le = ap suc (length_front n p (omega arith))

pub next_front : (path c : Path) → c ≡ take (length c) path → take (length c - 1) c ≡ take (length (take (length c - 1) c)) path
next_front path c front =
    let n : length (take (length c - 1) c) ≡ length c - 1 = length_front (length c - 1) c (omega arith) in
    ap (λ (p : Path). take (length c - 1) p) front ∙ take_again (length c - 1) (length c) path (omega arith) ∙ ap (λ (k : ℕ). take k path) (sym n)

pub next_along : (path c q : Path) (bytes : ℕ) (old now new : Option ℕ) → c ≡ take (length c) path → 0 < length c
    → now ≡ option_map (λ size. size + above path (length c) q bytes) old → new ≡ option_map (λ size. size + at_place c q bytes) now
    → new ≡ option_map (λ size. size + above path (length (take (length c - 1) c)) q bytes) old
next_along path c q bytes old now new front some is_now is_new =
    let n : length (take (length c - 1) c) ≡ length c - 1 = length_front (length c - 1) c (omega arith) in
    let joined : above path (length c) q bytes + at_place c q bytes ≡ above path (length c - 1) q bytes
    = along path c q bytes front ∙ ap (λ (b : Bool). if is_prefix q path && b then bytes else 0) (one_shorter (length c) (length q) some) in
    is_new ∙ ap (λ (o : Option ℕ). option_map (λ size. size + at_place c q bytes) o) is_now ∙ add_twice old (above path (length c) q bytes) (at_place c q bytes)
    ∙ ap (λ (k : ℕ). option_map (λ size. size + k) old) joined ∙ ap (λ (k : ℕ). option_map (λ size. size + above path k q bytes) old) (sym n)

and_true : (a : Bool) → (a && true) ≡ a
and_true true = refl
and_true false = refl

and_false : (a : Bool) → (a && false) ≡ false
and_false true = refl
and_false false = refl

pub last_along : (path c q : Path) (bytes : ℕ) (old now new : Option ℕ) → c ≡ take (length c) path → length c ≡ 0
    → now ≡ option_map (λ size. size + above path (length c) q bytes) old → new ≡ option_map (λ size. size + at_place c q bytes) now
    → new ≡ option_map (λ size. size + (if is_prefix q path then bytes else 0)) old
last_along path c q bytes old now new front none is_now is_new =
    let low : nat_le (length c) (length q) ≡ true = grind (arith, nat_tests) in
    let joined : above path (length c) q bytes + at_place c q bytes ≡ (if is_prefix q path then bytes else 0)
    = along path c q bytes front ∙ ap (λ (b : Bool). if is_prefix q path && b then bytes else 0) low ∙ ap (λ (b : Bool). if b then bytes else 0) (and_true (is_prefix q path)) in
    is_new ∙ ap (λ (o : Option ℕ). option_map (λ size. size + at_place c q bytes) o) is_now ∙ add_twice old (above path (length c) q bytes) (at_place c q bytes)
    ∙ ap (λ (k : ℕ). option_map (λ size. size + k) old) joined

start_case : (path q : Path) (on : Bool) → is_prefix q path ≡ on → (on && nat_lt (length path) (length q)) ≡ false
start_case path q false is = refl
start_case path q true is =
    let short : length q ≤ length path = prefix_short q path is in
    grind (arith, nat_tests)

pub start_along : (path q : Path) (bytes : ℕ) (o : Option ℕ) → o ≡ option_map (λ size. size + above path (length path) q bytes) o
start_along path q bytes o =
    sym (ap (λ (b : Bool). option_map (λ size. size + (if b then bytes else 0)) o) (start_case path q (is_prefix q path) refl) ∙ add_none o)

take_all : (p : Path) → take (length p) p ≡ p
take_all [] = refl
take_all (a ∷ p) = ap (λ (xs : Path). a ∷ xs) (take_all p)

pub start_front : (p : Path) → p ≡ take (length p) p
start_front p = sym (take_all p)

room_case : (o : Option ℕ) (bytes most : ℕ) → most + bytes < 2 ^ 64 → IfSome o (λ size. size ≤ most) → IfSome (option_map (λ size. size + 0) o) (λ size. size + bytes < 2 ^ 64)
room_case None bytes most room low = low
room_case (Some s) bytes most room low = omega (arith, low)

pub room_along : (path c : Path) (bytes most : ℕ) (old now : Option ℕ) → most + bytes < 2 ^ 64 → IfSome old (λ size. size ≤ most)
    → now ≡ option_map (λ size. size + above path (length c) c bytes) old → IfSome now (λ size. size + bytes < 2 ^ 64)
room_along path c bytes most old now room low is_now =
    let none : above path (length c) c bytes ≡ 0 = ap (λ (b : Bool). if is_prefix c path && b then bytes else 0) (not_below (length c)) ∙ ap (λ (b : Bool). if b then bytes else 0) (and_false (is_prefix c path)) in
    let same : now ≡ option_map (λ size. size + 0) old = is_now ∙ ap (λ (k : ℕ). option_map (λ size. size + k) old) none in
    subst (λ (o : Option ℕ). IfSome o (λ size. size + bytes < 2 ^ 64)) (sym same) (room_case old bytes most room low)

no_segments : (q : Path) (cs : List (Option Path)) → length_within q cs [] ≡ 0
no_segments q [] = refl
no_segments q (c ∷ cs) = refl

take_past : {A : Type 0} (xs : List A) (n : ℕ) → length xs ≤ n → take n xs ≡ xs
take_past [] zero le = refl
take_past [] (suc n) le = refl
take_past (x ∷ xs) zero le = absurd (omega arith)
take_past (x ∷ xs) (suc n) le = ap (λ ys. x ∷ ys) (take_past xs n (omega arith))

-- ---- one segment after the other

from_common : (cs : List (Option Path)) (i : ℕ) (c : Option Path) → i < length cs → c ≡ get_or cs i c → drop i cs ≡ c ∷ drop (i + 1) cs
from_common cs i c lt is = rw (add-one, drop-cons cs i c, ← is) refl

from_segment : (ss : List SegmentSpec) (i : ℕ) (d : SegmentSpec) → i < length ss → drop i ss ≡ get_or ss i d ∷ drop (i + 1) ss
from_segment ss i d lt = rw (add-one, drop-cons ss i d) refl

within_here : (q : Path) (cs : List (Option Path)) (ss : List SegmentSpec) (i : ℕ) (c : Option Path) (d : SegmentSpec) → i < length cs → i < length ss → c ≡ get_or cs i c
    → length_within q (drop i cs) (drop i ss) ≡ (if is_within q c then (get_or ss i d).length else 0) + length_within q (drop (i + 1) cs) (drop (i + 1) ss)
within_here q cs ss i c d in_cs in_ss is = rw (from_common cs i c in_cs is, from_segment ss i d in_ss) refl

pub next_length : (q : Path) (cs : List (Option Path)) (ss : List SegmentSpec) (i : ℕ) (c : Option Path) (d : SegmentSpec) (now new all : Option ℕ)
    → i < length cs → i < length ss → c ≡ get_or cs i c
    → new ≡ option_map (λ size. size + (if is_within q c then (get_or ss i d).length else 0)) now
    → option_map (λ size. size + length_within q (drop i cs) (drop i ss)) now ≡ all
    → option_map (λ size. size + length_within q (drop (i + 1) cs) (drop (i + 1) ss)) new ≡ all
next_length q cs ss i c d now new all in_cs in_ss is is_new is_all =
    ap (λ (o : Option ℕ). option_map (λ size. size + length_within q (drop (i + 1) cs) (drop (i + 1) ss)) o) is_new
    ∙ add_twice now (if is_within q c then (get_or ss i d).length else 0) (length_within q (drop (i + 1) cs) (drop (i + 1) ss))
    ∙ ap (λ (k : ℕ). option_map (λ size. size + k) now) (sym (within_here q cs ss i c d in_cs in_ss is)) ∙ is_all

grown_case : (on : Bool) (o : Option ℕ) (bytes i : ℕ) → bytes < 2 ^ 32 → IfSome o (λ size. size ≤ i * 4294967295)
    → IfSome (option_map (λ size. size + (if on then bytes else 0)) o) (λ size. size ≤ (i + 1) * 4294967295)
grown_case on None bytes i small low = low
grown_case true (Some s) bytes i small low = omega (arith, low)
grown_case false (Some s) bytes i small low = omega (arith, low)

pub next_low : (q : Path) (c : Option Path) (now new : Option ℕ) (bytes i : ℕ) → bytes < 2 ^ 32 → IfSome now (λ size. size ≤ i * 4294967295)
    → new ≡ option_map (λ size. size + (if is_within q c then bytes else 0)) now → IfSome new (λ size. size ≤ (i + 1) * 4294967295)
next_low q c now new bytes i small low is_new =
    subst (λ (o : Option ℕ). IfSome o (λ size. size ≤ (i + 1) * 4294967295)) (sym is_new) (grown_case (is_within q c) now bytes i small low)

pub nothing_added : (o : Option ℕ) → o ≡ option_map (λ size. size + 0) o
nothing_added o = sym (add_none o)

pub start_length : (q : Path) (cs : List (Option Path)) (ss : List SegmentSpec) (i : ℕ) (o : Option ℕ) → length ss ≤ i → option_map (λ size. size + length_within q (drop i cs) (drop i ss)) o ≡ o
start_length q cs ss i o past =
    let none : length_within q (drop i cs) (drop i ss) ≡ 0 = rw (drop_all i ss past) (no_segments q (drop i cs)) in
    ap (λ (k : ℕ). option_map (λ size. size + k) o) none ∙ add_none o

-- ---- one path of a map

at_case : (entries : List (Path × ℕ)) (path q : Path) (bytes size : ℕ) (here : Bool) → is_at (path_cmp path) q ≡ here → size_at entries path ≡ Some size
    → cond here (Some (size + bytes)) (size_at entries q) ≡ option_map (λ s. s + (if here then bytes else 0)) (size_at entries q)
at_case entries path q bytes size true is found =
    let one : path ≡ q = at_is path q is in
    let there : size_at entries q ≡ Some size = subst (λ (p : Path). size_at entries p ≡ Some size) one found in
    sym (ap (λ (o : Option ℕ). option_map (λ s. s + bytes) o) there)
at_case entries path q bytes size false is found = sym (add_none (size_at entries q))

pub at_written : (entries fresh : List (Path × ℕ)) (path q : Path) (bytes size : ℕ) → size_at fresh q ≡ cond (is_at (path_cmp path) q) (Some (size + bytes)) (size_at entries q)
    → size_at entries path ≡ Some size → size_at fresh q ≡ option_map (λ s. s + (if is_at (path_cmp path) q then bytes else 0)) (size_at entries q)
at_written entries fresh path q bytes size is found = is ∙ at_case entries path q bytes size (is_at (path_cmp path) q) refl found

none_case : (entries : List (Path × ℕ)) (path q : Path) (bytes : ℕ) (here : Bool) → is_at (path_cmp path) q ≡ here → size_at entries path ≡ None
    → size_at entries q ≡ option_map (λ s. s + (if here then bytes else 0)) (size_at entries q)
none_case entries path q bytes true is none =
    let one : path ≡ q = at_is path q is in
    let there : size_at entries q ≡ None = subst (λ (p : Path). size_at entries p ≡ None) one none in
    there ∙ sym (ap (λ (o : Option ℕ). option_map (λ s. s + bytes) o) there)
none_case entries path q bytes false is none = sym (add_none (size_at entries q))

pub at_nothing : (entries : List (Path × ℕ)) (path q : Path) (bytes : ℕ) → size_at entries path ≡ None
    → size_at entries q ≡ option_map (λ s. s + (if is_at (path_cmp path) q then bytes else 0)) (size_at entries q)
at_nothing entries path q bytes none = none_case entries path q bytes (is_at (path_cmp path) q) refl none

or_none : (o : Option ℕ) → o ≡ option_or o None
or_none None = refl
or_none (Some s) = refl

or_some : (o p : Option ℕ) → is_some o ≡ true → o ≡ option_or o p
or_some None p e = absurd cc
or_some (Some s) p e = refl

kept_case : (entries : List (Path × ℕ)) (path q : Path) (here : Bool) → is_at (path_cmp path) q ≡ here → is_some (size_at entries path) ≡ true
    → size_at entries q ≡ option_or (size_at entries q) (if here then Some 0 else None)
kept_case entries path q true is there =
    or_some (size_at entries q) (Some 0) (subst (λ (p : Path). is_some (size_at entries p) ≡ true) (at_is path q is) there)
kept_case entries path q false is there = or_none (size_at entries q)

pub path_kept : (entries : List (Path × ℕ)) (path q : Path) → is_some (size_at entries path) ≡ true
    → size_at entries q ≡ option_or (size_at entries q) (if is_at (path_cmp path) q then Some 0 else None)
path_kept entries path q there = kept_case entries path q (is_at (path_cmp path) q) refl there

or_absent : (o p : Option ℕ) → is_some o ≡ false → p ≡ option_or o p
or_absent None p e = refl
or_absent (Some s) p e = absurd cc

put_case : (entries : List (Path × ℕ)) (path q : Path) (here : Bool) → is_at (path_cmp path) q ≡ here → is_some (size_at entries path) ≡ false
    → cond here (Some 0) (size_at entries q) ≡ option_or (size_at entries q) (if here then Some 0 else None)
put_case entries path q true is gone =
    or_absent (size_at entries q) (Some 0) (subst (λ (p : Path). is_some (size_at entries p) ≡ false) (at_is path q is) gone)
put_case entries path q false is gone = or_none (size_at entries q)

pub path_put : (entries fresh : List (Path × ℕ)) (path q : Path) → is_some (size_at entries path) ≡ false
    → size_at fresh q ≡ cond (is_at (path_cmp path) q) (Some 0) (size_at entries q)
    → size_at fresh q ≡ option_or (size_at entries q) (if is_at (path_cmp path) q then Some 0 else None)
path_put entries fresh path q gone is = is ∙ put_case entries path q (is_at (path_cmp path) q) refl gone

swap_case : (p q : Path) (a b : Bool) → is_at (path_cmp p) q ≡ a → is_at (path_cmp q) p ≡ b → a ≡ b
swap_case p q true true is_a is_b = refl
swap_case p q true false is_a is_b =
    let one : p ≡ q = at_is p q is_a in
    absurd (true_false (sym (at_itself q) ∙ ap (λ (r : Path). is_at (path_cmp q) r) (sym one) ∙ is_b))
swap_case p q false true is_a is_b =
    let one : q ≡ p = at_is q p is_b in
    absurd (true_false (sym (at_itself p) ∙ ap (λ (r : Path). is_at (path_cmp p) r) (sym one) ∙ is_a))
swap_case p q false false is_a is_b = refl

any_case : (any here : Bool) → option_or {T = ℕ} (if any then Some 0 else None) (if here then Some 0 else None) ≡ (if (any || (here || false)) then Some 0 else None)
any_case true here = refl
any_case false true = refl
any_case false false = refl

pub next_path : (paths : List Path) (i : ℕ) (path q : Path) (now new : Option ℕ) → i < length paths → path ≡ get_or paths i path
    → now ≡ (if list_any (is_at (path_cmp q)) (take i paths) then Some 0 else None)
    → new ≡ option_or now (if is_at (path_cmp path) q then Some 0 else None)
    → new ≡ (if list_any (is_at (path_cmp q)) (take (i + 1) paths) then Some 0 else None)
next_path paths i path q now new lt is is_now is_new =
    let more : take (i + 1) paths ≡ take i paths ++ path ∷ [] = take_more paths i path lt ∙ ap (λ (x : Path). take i paths ++ x ∷ []) (sym is) in
    let any : list_any (is_at (path_cmp q)) (take (i + 1) paths) ≡ (list_any (is_at (path_cmp q)) (take i paths) || (is_at (path_cmp q) path || false))
    = ap (λ (xs : List Path). list_any (is_at (path_cmp q)) xs) more ∙ list_any-append (is_at (path_cmp q)) (take i paths) (path ∷ []) in
    let swap : is_at (path_cmp path) q ≡ is_at (path_cmp q) path = swap_case path q (is_at (path_cmp path) q) (is_at (path_cmp q) path) refl refl in
    is_new ∙ ap₂ (λ (o : Option ℕ) (b : Bool). option_or o (if b then Some 0 else None)) is_now swap
    ∙ any_case (list_any (is_at (path_cmp q)) (take i paths)) (is_at (path_cmp q) path)
    ∙ ap (λ (b : Bool). if b then Some 0 else None) (sym any)

pub all_paths : (paths : List Path) (n : ℕ) (q : Path) (o : Option ℕ) → length paths ≤ n → o ≡ (if list_any (is_at (path_cmp q)) (take n paths) then Some 0 else None)
    → o ≡ (if list_any (is_at (path_cmp q)) paths then Some 0 else None)
all_paths paths n q o le is = is ∙ ap (λ (xs : List Path). if list_any (is_at (path_cmp q)) xs then Some 0 else None) (take_past paths n le)

pub is_there : (o : Option ℕ) (n : ℕ) → o ≡ Some n → IsSome o
is_there None n e = absurd cc
is_there (Some m) n e = refl
