-- Steps of reading the names of a path.
use Rattle.std.proofs.Common.{◌≡◌, ℕ, zero, suc, ◌+◌, ◌-◌, ◌<◌, ◌≤◌, List, [], ◌∷◌, ◌++◌, length, map, Option, Some, None, refl, ap, ◌∙◌, arith}
use Rattle.std.specs.Prelude.{String, string_bytes, codes, Ok, Err, ◌==◌, true, false}
use Rattle.std.specs.Global.{Global}
use Rattle.std.specs.Option.{option_map}
use Rattle.std.proofs.lemmas.List.{append-nil}
use Rattle.vx_base.specs.Checks.{◌lacking◌}
use Rattle.vx_data.specs.declared.text_error.TextError.TheVariants.{BadText}
use Rattle.vx_data.specs.TextsRead.{quoted_in, after}
use Rattle.vx_prune.specs.PredicateWords.{names_in}

-- names so far, before those still to come
abbrev pub names_before : List (String Global) → Option (List (List ℕ)) → Option (List (List ℕ))
names_before made rest = option_map (λ names. map string_bytes made ++ names) rest

some_of : {A : Type 0} (o : Option A) (x : A) → (BadText lacking o) ≡ Ok x → o ≡ Some x
some_of None x e = absurd cc
some_of (Some y) x e = let same : y ≡ x = cc in ap (λ v. Some v) same

none_of : {A : Type 0} (o : Option A) → (BadText lacking o) ≡ Err BadText → o ≡ None
none_of None e = refl
none_of (Some y) e = absurd cc

-- one name more may come
one_left : (n i : ℕ) → i < n → n - i ≡ suc (n - (i + 1))
one_left n i lt = omega arith

pushed : (made : List (String Global)) (name : String Global) (names : List (List ℕ))
    → map string_bytes made ++ (string_bytes name ∷ names) ≡ map string_bytes (made ++ name ∷ []) ++ names
pushed [] name names = refl
pushed (m ∷ made) name names = ap (λ rest. string_bytes m ∷ rest) (pushed made name names)

moved : (made : List (String Global)) (name : String Global) (r : Option (List (List ℕ)))
    → names_before made (option_map (λ names. string_bytes name ∷ names) r) ≡ names_before (made ++ name ∷ []) r
moved made name None = refl
moved made name (Some names) = ap (λ (ns : List (List ℕ)). Some ns) (pushed made name names)

pub next_name : (made : List (String Global)) (n i : ℕ) (t : List ℕ) (name : String Global) (behind more : List ℕ)
    → i < n → (BadText lacking quoted_in t) ≡ Ok (string_bytes name, behind) → (length behind == 0) ≡ false → Some more ≡ after (codes "/") behind
    → names_before made (names_in (n - i) t) ≡ names_before (made ++ name ∷ []) (names_in (n - (i + 1)) more)
unfolding names_in
next_name made n i t name behind more lt read some slash =
    let named : quoted_in t ≡ Some (string_bytes name, behind) = some_of (quoted_in t) _ read in
    rw (one_left n i lt, named, some, ← slash) (moved made name (names_in (n - (i + 1)) more))

pub last_name : (made : List (String Global)) (n i : ℕ) (t : List ℕ) (name : String Global) (behind : List ℕ)
    → i < n → (BadText lacking quoted_in t) ≡ Ok (string_bytes name, behind) → (length behind == 0) ≡ true
    → names_before made (names_in (n - i) t) ≡ Some (map string_bytes (made ++ name ∷ []))
unfolding names_in
last_name made n i t name behind lt read none =
    let named : quoted_in t ≡ Some (string_bytes name, behind) = some_of (quoted_in t) _ read in
    rw (one_left n i lt, named, none) (ap (λ (ns : List (List ℕ)). Some ns) (pushed made name [] ∙ append-nil (map string_bytes (made ++ name ∷ []))))

pub slash_fails : (made : List (String Global)) (n i : ℕ) (t : List ℕ) (name behind : List ℕ)
    → i < n → (BadText lacking quoted_in t) ≡ Ok (name, behind) → (length behind == 0) ≡ false → None ≡ after (codes "/") behind
    → names_before made (names_in (n - i) t) ≡ None
unfolding names_in
slash_fails made n i t name behind lt read some no_slash =
    let named : quoted_in t ≡ Some (name, behind) = some_of (quoted_in t) _ read in
    rw (one_left n i lt, named, some, ← no_slash) refl

pub name_fails : (made : List (String Global)) (n i : ℕ) (t : List ℕ)
    → i < n → (BadText lacking quoted_in t) ≡ Err BadText → names_before made (names_in (n - i) t) ≡ None
unfolding names_in
name_fails made n i t lt read =
    let none : quoted_in t ≡ None = none_of (quoted_in t) read in
    rw (one_left n i lt, none) refl

pub none_left : (made : List (String Global)) (n i : ℕ) (t : List ℕ) → n ≤ i → names_before made (names_in (n - i) t) ≡ None
unfolding names_in
none_left made n i t le =
    let none : n - i ≡ zero = omega arith in
    rw none refl

pub first_names : (n : ℕ) (t : List ℕ) → names_before [] (names_in (n - 0) t) ≡ names_in n t
first_names n t =
    let same : n - 0 ≡ n = omega arith in
    rw same (elim (names_in n t) as (λ r. names_before [] r ≡ r) [ None ↦ refl | Some x ↦ refl ])

pub ruleset name_steps = (next_name, last_name, slash_fails, name_fails, none_left, first_names)
