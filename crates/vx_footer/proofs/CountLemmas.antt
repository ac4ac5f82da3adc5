-- Which segments count for a path, by their common paths.
use Rattle.std.proofs.Common.{◌≡◌, ℕ, zero, suc, ◌+◌, ◌<◌, min, Bool, true, false, List, [], ◌∷◌, length, get_or, take, Option, Some, None, refl, ap, ap₂, sym, ◌∙◌, arith}
use Rattle.std.specs.Prelude.{◌==◌, ◌^◌, ◌&&◌, ◌||◌, not, slice_set, if◌then◌else◌, unwrap_or, replicate}
use Rattle.std.specs.Str.{bytes_eq}
use Rattle.std.specs.List.{list_any, list_all}
use Rattle.std.specs.List.Sorted.{IsStrictlySortedBy}
use Rattle.std.specs.Map.{keys_of}
use Rattle.std.specs.Option.{option_map}
use Rattle.std.specs.BTreeMap.{is_at}
use Rattle.std.proofs.lemmas.Bool.Decides.{nat_tests}
use Rattle.std.proofs.lemmas.List.{get_or-set_same, get_or-set_other, length-set, length-replicate, get_or-replicate}
use Rattle.std.proofs.lemmas.Slice.Eq.{bytes_eq-Decides}
use Rattle.vx_base.specs.declared.segment.SegmentSpec.{SegmentSpec}
use Rattle.vx_data.specs.Layout.{LayoutTree, node}
use Rattle.vx_data.specs.Paths.{Path, path_cmp}
use Rattle.vx_footer.specs.FieldSizes.{Reference, is_prefix, counts, size_from, size_of, size_at, AreSizes, paths_of, references_of, named_segments}
use Rattle.vx_footer.specs.Gathering.{has_path}
use Rattle.vx_footer.specs.CommonPaths.{common_length, narrowed, commons_after, is_within, length_within}

-- ---- truth values

and_true : (a : Bool) → (a && true) ≡ a
and_true true = refl
and_true false = refl

and_false : (a : Bool) → (a && false) ≡ false
and_false true = refl
and_false false = refl

and_again : (a b c : Bool) → ((a && b) && c) ≡ (a && (b && c))
and_again true b c = refl
and_again false b c = refl

and_both : (a x y : Bool) → (a && (x && y)) ≡ ((a && x) && (a && y))
and_both true x y = refl
and_both false x y = refl

-- ---- common paths

same_name : (a b : List ℕ) → bytes_eq a b ≡ true → a ≡ b
same_name a b e = (bytes_eq-Decides a b).0 e

apart_case : (a b d : List ℕ) (x y on other : Bool) → bytes_eq b d ≡ false → bytes_eq a b ≡ on → bytes_eq a d ≡ other → false ≡ ((on && x) && (other && y))
apart_case a b d x y true true never is_on is_other =
    let one : b ≡ d = sym (same_name a b is_on) ∙ same_name a d is_other in
    let sure : bytes_eq b d ≡ true = (bytes_eq-Decides b d).1 one in
    absurd (let clash : true ≡ false = sym sure ∙ never in cc)
apart_case a b d x y true false never is_on is_other = sym (and_false x)
apart_case a b d x y false other never is_on is_other = refl

common_case : (a b d : List ℕ) (q c p : Path) (same : Bool) → bytes_eq b d ≡ same → is_prefix q (take (common_length c p) c) ≡ (is_prefix q c && is_prefix q p)
    → is_prefix (a ∷ q) (take (if same then suc (common_length c p) else 0) (b ∷ c)) ≡ ((bytes_eq a b && is_prefix q c) && (bytes_eq a d && is_prefix q p))
common_case a b d q c p true is more =
    let one : b ≡ d = same_name b d is in
    ap (λ (x : Bool). bytes_eq a b && x) more ∙ and_both (bytes_eq a b) (is_prefix q c) (is_prefix q p)
    ∙ ap (λ (n : List ℕ). (bytes_eq a b && is_prefix q c) && (bytes_eq a n && is_prefix q p)) one
common_case a b d q c p false is more = apart_case a b d (is_prefix q c) (is_prefix q p) (bytes_eq a b) (bytes_eq a d) is refl refl

prefix_common : (q c p : Path) → is_prefix q (take (common_length c p) c) ≡ (is_prefix q c && is_prefix q p)
prefix_common [] c p = refl
prefix_common (a ∷ q) [] p = refl
prefix_common (a ∷ q) (b ∷ c) [] = sym (and_false (bytes_eq a b && is_prefix q c))
prefix_common (a ∷ q) (b ∷ c) (d ∷ p) = common_case a b d q c p (bytes_eq b d) refl (prefix_common q c p)

-- ---- the references to one segment

meet : Option Path → List Reference → ℕ → Option Path
meet o [] id = o
meet o (r ∷ rs) id = meet (if r.segment == id then Some (narrowed o r.path) else o) rs id

same_number : (m n : ℕ) → (m == n) ≡ true → m ≡ n
same_number m n e = grind (arith, nat_tests)

other_number : (m n : ℕ) → (m == n) ≡ false → n ≡ m → ⊥
other_number m n e same = grind (arith, nat_tests)

set_case : (cs : List (Option Path)) (r : Reference) (id : ℕ) (here : Bool) → id < length cs → (r.segment == id) ≡ here
    → get_or (slice_set cs r.segment (Some (narrowed (get_or cs r.segment None) r.path))) id None ≡ (if here then Some (narrowed (get_or cs id None) r.path) else get_or cs id None)
set_case cs r id true lt is =
    let one : r.segment ≡ id = same_number r.segment id is in
    ap (λ (k : ℕ). get_or (slice_set cs k (Some (narrowed (get_or cs k None) r.path))) id None) one ∙ get_or-set_same cs id (Some (narrowed (get_or cs id None) r.path)) None lt
set_case cs r id false lt is = get_or-set_other cs r.segment id (Some (narrowed (get_or cs r.segment None) r.path)) None (other_number r.segment id is)

commons_meet : (cs : List (Option Path)) (rs : List Reference) (id : ℕ) → id < length cs → get_or (commons_after cs rs) id None ≡ meet (get_or cs id None) rs id
unfolding meet
commons_meet cs [] id lt = refl
commons_meet cs (r ∷ rs) id lt =
    let long : length (slice_set cs r.segment (Some (narrowed (get_or cs r.segment None) r.path))) ≡ length cs = length-set cs r.segment _ in
    commons_meet (slice_set cs r.segment (Some (narrowed (get_or cs r.segment None) r.path))) rs id (omega arith)
    ∙ ap (λ (o : Option Path). meet o rs id) (set_case cs r id (r.segment == id) lt refl)

abbrev all_on : Path → List Reference → ℕ → Bool
all_on q rs id = list_all (λ r. not (r.segment == id) || is_prefix q r.path) rs

abbrev any_of : List Reference → ℕ → Bool
any_of rs id = list_any (λ r. r.segment == id) rs

some_case : (q c : Path) (r : Reference) (rs : List Reference) (id : ℕ) (here : Bool)
    → is_within q (meet (Some c) rs id) ≡ (is_prefix q c && all_on q rs id)
    → is_within q (meet (Some (take (common_length c r.path) c)) rs id) ≡ (is_prefix q (take (common_length c r.path) c) && all_on q rs id)
    → is_within q (meet (if here then Some (take (common_length c r.path) c) else Some c) rs id) ≡ (is_prefix q c && ((not here || is_prefix q r.path) && all_on q rs id))
some_case q c r rs id true same more =
    more ∙ ap (λ (b : Bool). b && all_on q rs id) (prefix_common q c r.path) ∙ and_again (is_prefix q c) (is_prefix q r.path) (all_on q rs id)
some_case q c r rs id false same more = same

within_some : (q c : Path) (rs : List Reference) (id : ℕ) → is_within q (meet (Some c) rs id) ≡ (is_prefix q c && all_on q rs id)
unfolding meet
within_some q c [] id = sym (and_true (is_prefix q c))
within_some q c (r ∷ rs) id = some_case q c r rs id (r.segment == id) (within_some q c rs id) (within_some q (take (common_length c r.path) c) rs id)

none_case : (q : Path) (r : Reference) (rs : List Reference) (id : ℕ) (here : Bool) → is_within q (meet None rs id) ≡ counts rs q id
    → is_within q (meet (if here then Some r.path else None) rs id) ≡ ((here || any_of rs id) && ((not here || is_prefix q r.path) && all_on q rs id))
none_case q r rs id true same = within_some q r.path rs id
none_case q r rs id false same = same

within_none : (q : Path) (rs : List Reference) (id : ℕ) → is_within q (meet None rs id) ≡ counts rs q id
unfolding meet
within_none q [] id = refl
within_none q (r ∷ rs) id = none_case q r rs id (r.segment == id) (within_none q rs id)

-- ---- sums

sums_agree : (rs : List Reference) (q : Path) (i : ℕ) (cs : List (Option Path)) (ss : List SegmentSpec) → length cs ≡ length ss
    → ((k : ℕ) → k < length cs → is_within q (get_or cs k None) ≡ counts rs q (i + k)) → length_within q cs ss ≡ size_from rs q i ss
sums_agree rs q i [] [] long each = refl
sums_agree rs q i [] (s ∷ ss) long each = absurd (omega arith)
sums_agree rs q i (c ∷ cs) [] long each = absurd (omega arith)
sums_agree rs q i (c ∷ cs) (s ∷ ss) long each =
    let zeroth : i + 0 ≡ i = omega arith in
    let first : is_within q c ≡ counts rs q i = each 0 (omega arith) ∙ ap (λ (k : ℕ). counts rs q k) zeroth in
    let rest : length_within q cs ss ≡ size_from rs q (i + 1) ss = sums_agree rs q (i + 1) cs ss (omega arith)
    (λ k lt. let moved : i + suc k ≡ (i + 1) + k = omega arith in each (suc k) (omega arith) ∙ ap (λ (n : ℕ). counts rs q n) moved) in
    ap₂ (λ (b : Bool) (n : ℕ). (if b then s.length else 0) + n) first rest

commons_length : (cs : List (Option Path)) (rs : List Reference) → length (commons_after cs rs) ≡ length cs
commons_length cs [] = refl
commons_length cs (r ∷ rs) = commons_length (slice_set cs r.segment _) rs ∙ length-set cs r.segment _

pub commons_long : (n : ℕ) (rs : List Reference) → length (commons_after (replicate n None) rs) ≡ n
commons_long n rs = commons_length (replicate n None) rs ∙ length-replicate n None

length_is : (rs : List Reference) (q : Path) (ss : List SegmentSpec) → length_within q (commons_after (replicate (length ss) None) rs) ss ≡ size_from rs q 0 ss
length_is rs q ss =
    let none : List (Option Path) = replicate (length ss) None in
    let long : length (commons_after (replicate (length ss) None) rs) ≡ length ss = commons_long (length ss) rs in
    sums_agree rs q 0 (commons_after (replicate (length ss) None) rs) ss long
    (λ k lt. let below : k < length ss = omega arith in
    let in_list : k < length (replicate (length ss) None) = omega (arith, length-replicate {A = Option Path} (length ss) None) in
    let same : k ≡ 0 + k = omega arith in
    ap (λ (o : Option Path). is_within q o) (commons_meet (replicate (length ss) None) rs k in_list ∙ ap (λ (o : Option Path). meet o rs k) (get_or-replicate (length ss) k None None below))
    ∙ within_none q rs k ∙ ap (λ (n : ℕ). counts rs q n) same)

-- ---- all of it

nothing_taken : (n : ℕ) → take {A = SegmentSpec} n [] ≡ []
nothing_taken zero = refl
nothing_taken (suc n) = refl

take_min : (n : ℕ) (ss : List SegmentSpec) → take (min (length ss) n) ss ≡ take n ss
take_min n [] = nothing_taken (min 0 n) ∙ sym (nothing_taken n)
take_min zero (s ∷ ss) = let none : min (suc (length ss)) 0 ≡ 0 = omega arith in rw none refl
take_min (suc n) (s ∷ ss) =
    let one_more : min (suc (length ss)) (suc n) ≡ suc (min (length ss) n) = omega arith in
    rw one_more (ap (λ (xs : List SegmentSpec). s ∷ xs) (take_min n ss))

entry_case : (on : Bool) (k n : ℕ) → k ≡ n → option_map (λ size. size + k) (if on then Some 0 else None) ≡ (if on then Some n else None)
entry_case true k n same = let sum : 0 + k ≡ n = omega arith in ap (λ (m : ℕ). Some m) sum
entry_case false k n same = refl

root_there : (t : LayoutTree) → list_any (is_at (path_cmp [])) (paths_of [] t) ≡ true
root_there (node k d n s ts) = refl

pub sizes_are : (t : LayoutTree) (ss named : List SegmentSpec) (paths : List Path) (refs : List Reference) (commons : List (Option Path)) (start : Path → Option ℕ) (entries : List (Path × ℕ)) (total : ℕ)
    → ((q : Path) → has_path paths q ≡ has_path (paths_of [] t) q) → refs ≡ references_of [] t → named ≡ named_segments ss → commons ≡ commons_after (replicate (length named) None) refs
    → ((q : Path) → start q ≡ (if has_path paths q then Some 0 else None))
    → ((q : Path) → size_at entries q ≡ option_map (λ size. size + length_within q commons named) (start q))
    → IsStrictlySortedBy path_cmp (keys_of entries) → total ≡ unwrap_or (size_at entries []) 0
    → AreSizes t ss (record { entries = entries; total = total })
unfolding size_of
sizes_are t ss named paths refs commons start entries total paths_are refs_is same_named commons_is start_is entries_are ordered total_is =
    let size_is : (q : Path) → length_within q commons named ≡ size_of t ss q = λ q.
    ap (λ (cs : List (Option Path)). length_within q cs named) commons_is ∙ length_is refs q named
    ∙ ap₂ (λ (rs : List Reference) (xs : List SegmentSpec). size_from rs q 0 xs) refs_is same_named in
    let by : (q : Path) → size_at entries q ≡ (if has_path (paths_of [] t) q then Some (size_of t ss q) else None) = λ q.
    entries_are q ∙ ap (λ (o : Option ℕ). option_map (λ size. size + length_within q commons named) o) (start_is q)
    ∙ entry_case (has_path paths q) _ _ (size_is q)
    ∙ ap (λ (there : Bool). if there then Some (size_of t ss q) else None) (paths_are q) in
    record {
      by_path = by;
      ordered = ordered;
      whole = total_is ∙ ap (λ (o : Option ℕ). unwrap_or o 0) (by []) ∙ ap (λ (b : Bool). unwrap_or (if b then Some (size_of t ss []) else None) 0) (root_there t);
    }

pub named_are : (ss named : List SegmentSpec) (n : ℕ) → n ≡ min (length ss) (2 ^ 32) → named ≡ take n ss → named ≡ named_segments ss
named_are ss named n n_is is = is ∙ ap (λ (k : ℕ). take k ss) n_is ∙ take_min (2 ^ 32) ss
