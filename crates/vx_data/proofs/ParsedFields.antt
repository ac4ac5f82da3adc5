-- Steps of reading the fields of a type's text.
use Rattle.std.proofs.Common.{◌≡◌, ℕ, zero, suc, ◌+◌, ◌-◌, ◌<◌, ◌≤◌, List, [], ◌∷◌, ◌++◌, Option, Some, None, refl, ap, sym, ◌∙◌, arith}
use Rattle.std.specs.Prelude.{String, string_bytes, codes, Ok, Err}
use Rattle.std.specs.Global.{Global}
use Rattle.std.specs.Option.{option_map}
use Rattle.vx_base.specs.Checks.{◌lacking◌}
use Rattle.vx_data.specs.declared.text_error.TextError.TheVariants.{BadText}
use Rattle.vx_data.specs.declared.dtype.DType.{DType}
use Rattle.vx_data.specs.Dtype.{Dtype, FieldList, no_fields, field, dtype_view, pairs_view}
use Rattle.vx_data.specs.TextsRead.{after, name_in, fields_in, with_field}

-- fields before others
abbrev pub joined : List (String Global × DType) → FieldList → FieldList
joined [] fs = fs
joined (f ∷ rest) fs = field (string_bytes f.0) (dtype_view f.1) (joined rest fs)

-- fields so far before those still to come
abbrev pub fields_before : List (String Global × DType) → Option (FieldList × List ℕ) → Option (FieldList × List ℕ)
fields_before made rest = option_map (λ x. (joined made x.0, x.1)) rest

joined_push : (made : List (String Global × DType)) (f : String Global × DType) (fs : FieldList)
    → joined (made ++ f ∷ []) fs ≡ joined made (field (string_bytes f.0) (dtype_view f.1) fs)
joined_push [] f fs = refl
joined_push (m ∷ made) f fs = ap (λ rest. field (string_bytes m.0) (dtype_view m.1) rest) (joined_push made f fs)

joined_all : (made : List (String Global × DType)) → joined made no_fields ≡ pairs_view made
joined_all [] = refl
joined_all (m ∷ made) = ap (λ rest. field (string_bytes m.0) (dtype_view m.1) rest) (joined_all made)

some_of : {A : Type 0} (o : Option A) (x : A) → (BadText lacking o) ≡ Ok x → o ≡ Some x
some_of None x e = absurd cc
some_of (Some y) x e = let same : y ≡ x = cc in ap (λ v. Some v) same

none_of : {A : Type 0} (o : Option A) → (BadText lacking o) ≡ Err BadText → o ≡ None
none_of None e = refl
none_of (Some y) e = absurd cc

-- one field more may come
one_left : (n i : ℕ) → i < n → n - i ≡ suc (n - (i + 1))
one_left n i lt = omega arith

abbrev Reader : Type 0
Reader = List ℕ → Option (Dtype × List ℕ)

moved : (made : List (String Global × DType)) (f : String Global × DType) (r : Option (FieldList × List ℕ))
    → fields_before made (option_map (with_field (string_bytes f.0) (dtype_view f.1)) r) ≡ fields_before (made ++ f ∷ []) r
moved made f None = refl
moved made f (Some x) = ap (λ (fs : FieldList). Some (fs, x.1)) (sym (joined_push made f x.0))

ended : (made : List (String Global × DType)) (f : String Global × DType) (end : List ℕ)
    → fields_before made (Some (field (string_bytes f.0) (dtype_view f.1) no_fields, end)) ≡ Some (pairs_view (made ++ f ∷ []), end)
ended made f end = ap (λ (fs : FieldList). Some (fs, end)) (sym (joined_push made f no_fields) ∙ joined_all (made ++ f ∷ []))

pub next_parsed : (read : Reader) (made : List (String Global × DType)) (n i : ℕ) (t : List ℕ) (f : String Global × DType) (typed behind next : List ℕ)
    → i < n → (BadText lacking name_in t) ≡ Ok (string_bytes f.0, typed) → (BadText lacking read typed) ≡ Ok (dtype_view f.1, behind)
    → None ≡ after (codes "}") behind → Some next ≡ after (codes ",") behind
    → fields_before made (fields_in read (n - i) t) ≡ fields_before (made ++ f ∷ []) (fields_in read (n - (i + 1)) next)
unfolding fields_in
next_parsed read made n i t f typed behind next lt name type no_end comma =
    let named : name_in t ≡ Some (string_bytes f.0, typed) = some_of (name_in t) _ name in
    let is_read : read typed ≡ Some (dtype_view f.1, behind) = some_of (read typed) _ type in
    rw (one_left n i lt, named, is_read, ← no_end, ← comma) (moved made f (fields_in read (n - (i + 1)) next))

pub last_parsed : (read : Reader) (made : List (String Global × DType)) (n i : ℕ) (t : List ℕ) (f : String Global × DType) (typed behind end : List ℕ)
    → i < n → (BadText lacking name_in t) ≡ Ok (string_bytes f.0, typed) → (BadText lacking read typed) ≡ Ok (dtype_view f.1, behind)
    → Some end ≡ after (codes "}") behind
    → fields_before made (fields_in read (n - i) t) ≡ Some (pairs_view (made ++ f ∷ []), end)
unfolding fields_in
last_parsed read made n i t f typed behind end lt name type is_end =
    let named : name_in t ≡ Some (string_bytes f.0, typed) = some_of (name_in t) _ name in
    let is_read : read typed ≡ Some (dtype_view f.1, behind) = some_of (read typed) _ type in
    rw (one_left n i lt, named, is_read, ← is_end) (ended made f end)

pub name_fails : (read : Reader) (made : List (String Global × DType)) (n i : ℕ) (t : List ℕ)
    → i < n → (BadText lacking name_in t) ≡ Err BadText → fields_before made (fields_in read (n - i) t) ≡ None
unfolding fields_in
name_fails read made n i t lt name =
    let none : name_in t ≡ None = none_of (name_in t) name in
    rw (one_left n i lt, none) refl

pub type_fails : (read : Reader) (made : List (String Global × DType)) (n i : ℕ) (t name typed : List ℕ)
    → i < n → (BadText lacking name_in t) ≡ Ok (name, typed) → (BadText lacking read typed) ≡ Err BadText → fields_before made (fields_in read (n - i) t) ≡ None
unfolding fields_in
type_fails read made n i t name typed lt is_name type =
    let named : name_in t ≡ Some (name, typed) = some_of (name_in t) _ is_name in
    let none : read typed ≡ None = none_of (read typed) type in
    rw (one_left n i lt, named, none) refl

pub comma_fails : (read : Reader) (made : List (String Global × DType)) (n i : ℕ) (t name typed behind : List ℕ) (d : Dtype)
    → i < n → (BadText lacking name_in t) ≡ Ok (name, typed) → (BadText lacking read typed) ≡ Ok (d, behind)
    → None ≡ after (codes "}") behind → None ≡ after (codes ",") behind
    → fields_before made (fields_in read (n - i) t) ≡ None
unfolding fields_in
comma_fails read made n i t name typed behind d lt is_name type no_end no_comma =
    let named : name_in t ≡ Some (name, typed) = some_of (name_in t) _ is_name in
    let is_read : read typed ≡ Some (d, behind) = some_of (read typed) _ type in
    rw (one_left n i lt, named, is_read, ← no_end, ← no_comma) refl

pub none_parsed : (read : Reader) (made : List (String Global × DType)) (n i : ℕ) (t : List ℕ) → n ≤ i → fields_before made (fields_in read (n - i) t) ≡ None
unfolding fields_in
none_parsed read made n i t le =
    let none : n - i ≡ zero = omega arith in
    rw none refl

pub first_parsed : (read : Reader) (n : ℕ) (t : List ℕ) → fields_before [] (fields_in read (n - 0) t) ≡ fields_in read n t
first_parsed read n t =
    let same : n - 0 ≡ n = omega arith in
    rw same (elim (fields_in read n t) as (λ r. fields_before [] r ≡ r) [ None ↦ refl | Some x ↦ refl ])

pub ruleset parsed_steps = (next_parsed, last_parsed, name_fails, type_fails, comma_fails, none_parsed, first_parsed)
