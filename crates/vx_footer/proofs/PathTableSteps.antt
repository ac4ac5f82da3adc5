-- Paths by number: those that go on from others, and the numbers of those before.
use Rattle.std.proofs.Common.{◌≡◌, ℕ, zero, suc, ◌-◌, ◌<◌, ◌≤◌, Bool, true, false, List, [], ◌∷◌, ◌++◌, length, get_or, take, drop, map, refl, ap, ap₂, sym, ◌∙◌, arith, drop-cons, inl, inr}
use Rattle.std.specs.Prelude.{String, string_bytes, if◌then◌else◌}
use Rattle.std.specs.Global.{Global}
use Rattle.std.specs.Str.{bytes_eq}
use Rattle.std.proofs.lemmas.Bool.{cases_lt}
use Rattle.std.proofs.lemmas.List.{drop_all}
use Rattle.std.proofs.lemmas.Slice.Eq.{bytes_eq-Decides}
use Rattle.vx_data.specs.Paths.{Path}
use Rattle.vx_footer.specs.declared.path_table.Place.{Place}
use Rattle.vx_footer.specs.CommonPaths.{common_length}
use Rattle.vx_footer.specs.Gathering.{path_at}
use Rattle.vx_footer.specs.PathTables.{paths_in, parent_at, HasParents}

-- ---- one name more

same_name : (a b : List ℕ) → bytes_eq a b ≡ true → a ≡ b
same_name a b e = (bytes_eq-Decides a b).0 e

goes_case : (a b : List ℕ) (p q : Path) (same : Bool) → bytes_eq a b ≡ same → (if same then suc (common_length p q) else 0) ≡ suc (length q)
    → (common_length p q ≡ length q → p ≡ q ++ drop (length q) p) → a ∷ p ≡ b ∷ (q ++ drop (length q) p)
goes_case a b p q true is all rest = ap₂ (λ (x : List ℕ) (y : Path). x ∷ y) (same_name a b is) (rest (omega (arith, all)))
goes_case a b p q false is all rest = absurd (omega (arith, all))

-- a path that shares all names of another goes on from it
shares_all : (p q : Path) → common_length p q ≡ length q → p ≡ q ++ drop (length q) p
shares_all p [] all = refl
shares_all [] (b ∷ q) all = absurd (omega (arith, all))
shares_all (a ∷ p) (b ∷ q) all = goes_case a b p q (bytes_eq a b) refl all (shares_all p q)

one_left : (p : Path) (i : ℕ) (a : List ℕ) → i < length p → length p - i ≡ 1 → get_or p i [] ≡ a → drop i p ≡ a ∷ []
one_left p i a lt one is = drop-cons p i [] lt ∙ ap₂ (λ (x : List ℕ) (y : Path). x ∷ y) is (drop_all (suc i) p (omega (arith, one)))

name_at : (names : List (String Global)) (i : ℕ) (a : String Global) → i < length names → a ≡ get_or names i a → get_or (map string_bytes names) i [] ≡ string_bytes a
name_at [] i a lt is = absurd (omega arith)
name_at (n ∷ names) zero a lt is = ap string_bytes (sym is)
name_at (n ∷ names) (suc i) a lt is = name_at names i a (omega (arith, lt)) is

names_long : (names : List (String Global)) → length (map string_bytes names) ≡ length names
names_long [] = refl
names_long (n ∷ names) = ap suc (names_long names)

pub goes_on_by : (names front : List (String Global)) (a : String Global) (name : List ℕ) (path parent : Path) (shared : ℕ)
    → map string_bytes names ≡ path → map string_bytes front ≡ parent
    → length front < length names → length names - length front ≡ 1 → a ≡ get_or names (length front) a → bytes_eq (string_bytes a) name ≡ true
    → shared ≡ common_length (map string_bytes names) (map string_bytes front) → shared ≡ length front → path ≡ parent ++ name ∷ []
goes_on_by names front a name path parent shared path_is parent_is lt one a_is same shared_is all =
    let long : length (map string_bytes front) ≡ length front = names_long front in
    let more : length (map string_bytes names) ≡ length names = names_long names in
    let last : drop (length (map string_bytes front)) (map string_bytes names) ≡ name ∷ []
    = one_left (map string_bytes names) (length (map string_bytes front)) name (omega (arith, lt, long, more)) (omega (arith, one, long, more))
    (ap (λ (k : ℕ). get_or (map string_bytes names) k []) long ∙ name_at names (length front) a lt a_is ∙ same_name (string_bytes a) name same) in
    sym path_is ∙ shares_all (map string_bytes names) (map string_bytes front) (sym shared_is ∙ all ∙ sym long)
    ∙ ap₂ (λ (x y : Path). x ++ y) parent_is last

-- ---- the first names of a path

take_whole : (n : ℕ) (p : Path) → length p ≤ n → take n p ≡ p
take_whole zero [] le = refl
take_whole (suc n) [] le = refl
take_whole zero (a ∷ p) le = absurd (omega arith)
take_whole (suc n) (a ∷ p) le = ap (λ (xs : Path). a ∷ xs) (take_whole n p (omega arith))

itself : (p : Path) → common_length p p ≡ length p
itself [] = refl
itself (a ∷ p) = rw ((bytes_eq-Decides a a).1 refl) (ap suc (itself p))

pub common_itself : (ps : List Path) (l r : ℕ) → l ≡ r → path_at ps l ≡ take (common_length (path_at ps l) (path_at ps r)) (path_at ps l)
common_itself ps l r same =
    let p = path_at ps l in
    sym (ap (λ (k : ℕ). take (common_length p (path_at ps k)) p) (sym same) ∙ ap (λ (n : ℕ). take n p) (itself p) ∙ take_whole (length p) p (omega arith))

-- ---- places

pub places_long : (ps : List Place) → length (paths_in ps) ≡ length ps
places_long [] = refl
places_long (p ∷ ps) = ap suc (places_long ps)

push_long : (ps : List Place) (x : Place) → length (ps ++ x ∷ []) ≡ suc (length ps)
push_long [] x = refl
push_long (p ∷ ps) x = ap suc (push_long ps x)

parent_left : (ps : List Place) (x : Place) (n : ℕ) → n < length ps → parent_at (ps ++ x ∷ []) n ≡ parent_at ps n
parent_left [] x n lt = absurd (omega arith)
parent_left (p ∷ ps) x zero lt = refl
parent_left (p ∷ ps) x (suc n) lt = parent_left ps x n (omega (arith, lt))

parent_end : (ps : List Place) (x : Place) → parent_at (ps ++ x ∷ []) (length ps) ≡ x.parent
parent_end [] x = refl
parent_end (p ∷ ps) x = parent_end ps x

path_left : (ps : List Place) (x : Place) (n : ℕ) → n < length ps → path_at (paths_in (ps ++ x ∷ [])) n ≡ path_at (paths_in ps) n
path_left [] x n lt = absurd (omega arith)
path_left (p ∷ ps) x zero lt = refl
path_left (p ∷ ps) x (suc n) lt = path_left ps x n (omega (arith, lt))

path_end : (ps : List Place) (x : Place) → path_at (paths_in (ps ++ x ∷ [])) (length ps) ≡ x.path
path_end [] x = refl
path_end (p ∷ ps) x = path_end ps x

name_long : (p : Path) (a : List ℕ) → length (p ++ a ∷ []) ≡ suc (length p)
name_long [] a = refl
name_long (b ∷ p) a = ap suc (name_long p a)

take_left : (p : Path) (a : List ℕ) → take (length p) (p ++ a ∷ []) ≡ p
take_left [] a = refl
take_left (b ∷ p) a = ap (λ (xs : Path). b ∷ xs) (take_left p a)

before_last : (p : Path) (a : List ℕ) → take (length (p ++ a ∷ []) - 1) (p ++ a ∷ []) ≡ p
before_last p a =
    let same : length (p ++ a ∷ []) - 1 ≡ length p = omega (arith, name_long p a) in
    ap (λ (n : ℕ). take n (p ++ a ∷ [])) same ∙ take_left p a

pub parents_push : (ps : List Place) (x : Place) (name : List ℕ) → HasParents ps → x.parent < length ps → x.path ≡ path_at (paths_in ps) x.parent ++ name ∷ []
    → HasParents (ps ++ x ∷ [])
parents_push ps x name has lt is = record {
  inside = λ n within. elim (cases_lt n (length ps)) [
    | inl below ↦ let at : parent_at ps n < length ps = has.inside n below in omega (arith, at, parent_left ps x n below, push_long ps x)
    | inr past ↦
        let last : n ≡ length ps = omega (arith, within, past, push_long ps x) in
        let same : parent_at (ps ++ x ∷ []) n ≡ x.parent = ap (λ (k : ℕ). parent_at (ps ++ x ∷ []) k) last ∙ parent_end ps x in
        omega (arith, same, lt, push_long ps x)
  ];
  paths = λ n within. elim (cases_lt n (length ps)) [
    | inl below ↦
        ap (λ (k : ℕ). path_at (paths_in (ps ++ x ∷ [])) k) (parent_left ps x n below) ∙ path_left ps x (parent_at ps n) (has.inside n below) ∙ has.paths n below
        ∙ ap (λ (q : Path). take (length q - 1) q) (sym (path_left ps x n below))
    | inr past ↦
        let last : n ≡ length ps = omega (arith, within, past, push_long ps x) in
        let same : parent_at (ps ++ x ∷ []) n ≡ x.parent = ap (λ (k : ℕ). parent_at (ps ++ x ∷ []) k) last ∙ parent_end ps x in
        let own : path_at (paths_in (ps ++ x ∷ [])) n ≡ path_at (paths_in ps) x.parent ++ name ∷ [] = ap (λ (k : ℕ). path_at (paths_in (ps ++ x ∷ [])) k) last ∙ path_end ps x ∙ is in
        ap (λ (k : ℕ). path_at (paths_in (ps ++ x ∷ [])) k) same ∙ path_left ps x x.parent lt ∙ sym (before_last (path_at (paths_in ps) x.parent) name)
        ∙ ap (λ (q : Path). take (length q - 1) q) (sym own)
  ];
}
