-- Steps of a walk over a layout's tree.
use Rattle.std.proofs.Common.{◌≡◌, ℕ, zero, suc, ◌+◌, ◌<◌, ◌≤◌, min, Bool, true, false, List, [], ◌∷◌, ◌++◌, length, get_or, take, drop, refl, ap, ap₂, subst, sym, ◌∙◌, arith, add-one, drop-cons, inl, inr}
use Rattle.std.specs.Prelude.{String, string_bytes, ◌||◌, Result, Ok, Err, OnOk}
use Rattle.std.specs.BTreeMap.{is_at}
use Rattle.std.specs.Global.{Global}
use Rattle.std.proofs.lemmas.Bool.{cases_lt}
use Rattle.std.proofs.lemmas.List.{append-nil, drop_all}
use Rattle.vx_data.specs.declared.layout_kind.LayoutKind.TheVariants.{Flat}
use Rattle.vx_data.specs.declared.dtype.DType.{DType}
use Rattle.vx_data.specs.Dtype.{pairs_view}
use Rattle.vx_data.specs.Layout.{LayoutTree, node, Layouts, no_layouts, a_layout, layouts_of, kind_of, dtype_of, segments_of, children_of, trees_size}
use Rattle.vx_data.specs.Paths.{Path, path_cmp}
use Rattle.vx_footer.specs.FieldSizes.{Reference, field_parts, chunk_parts, child_parts, paths_of, paths_below, references_at, references_of, references_below}
use Rattle.vx_footer.specs.Gathering.{path_at, has_path, Gathering, Meets, IsMetAt}
use Rattle.vx_footer.proofs.GatherSteps.{meets_both, meets_again, meets_nothing, path_kept, kept_long}
use Rattle.vx_data.proofs.LayoutTables.{next_size, size_is}

-- ---- a layout by its parts

paths_are : (p : Path) (t : LayoutTree) → paths_of p t ≡ p ∷ paths_below p (child_parts (kind_of t) (dtype_of t) (children_of t)) (children_of t)
paths_are p (node k d n s ts) = refl

references_are : (p : Path) (t : LayoutTree)
    → references_of p t ≡ references_at p (segments_of t) ++ references_below p (child_parts (kind_of t) (dtype_of t) (children_of t)) (children_of t)
references_are p (node k d n s ts) = refl

no_part_paths : (p : Path) (ts : Layouts) → paths_below p [] ts ≡ []
no_part_paths p no_layouts = refl
no_part_paths p (a_layout t ts) = refl

no_part_references : (p : Path) (ts : Layouts) → references_below p [] ts ≡ []
no_part_references p no_layouts = refl
no_part_references p (a_layout t ts) = refl

flat_paths : (p : Path) (t : LayoutTree) → kind_of t ≡ Flat → paths_of p t ≡ p ∷ []
flat_paths p (node k d n s ts) flat = rw flat (ap (λ (xs : List Path). p ∷ xs) (no_part_paths p ts))

flat_references : (p : Path) (t : LayoutTree) → kind_of t ≡ Flat → references_of p t ≡ references_at p (segments_of t)
flat_references p (node k d n s ts) flat = rw (flat, no_part_references p ts) (append-nil (references_at p s))

pub where_ok : {T E : Type 0} (r : Result T E) (P Q : Type 0) → (P → Q) → OnOk r P → OnOk r Q
where_ok (Ok x) P Q f h = f h
where_ok (Err e) P Q f h = tt

-- what was met, told otherwise
meets_same : (a b : Gathering) (ps qs : List Path) (rs ss : List Reference) → ps ≡ qs → rs ≡ ss → Meets a b ps rs → Meets a b qs ss
meets_same a b ps qs rs ss paths refs m = subst (λ (xs : List Path). Meets a b xs ss) paths (subst (λ (xs : List Reference). Meets a b ps xs) refs m)

pub flat_meets : (a b : Gathering) (p : Path) (t : LayoutTree) (ids : List ℕ) → kind_of t ≡ Flat → ids ≡ segments_of t → Meets a b (p ∷ []) (references_at p ids)
    → Meets a b (paths_of p t) (references_of p t)
flat_meets a b p t ids flat ids_are m =
    meets_same a b (p ∷ []) (paths_of p t) (references_at p ids) (references_of p t) (sym (flat_paths p t flat))
    (ap (λ (xs : List ℕ). references_at p xs) ids_are ∙ sym (flat_references p t flat)) m

pub node_meets : (a b c : Gathering) (n : ℕ) (t : LayoutTree) (ids : List ℕ) (parts : List Path) (ts : Layouts)
    → n < length a.paths → ids ≡ segments_of t → parts ≡ child_parts (kind_of t) (dtype_of t) (children_of t) → ts ≡ children_of t
    → Meets a b (path_at a.paths n ∷ []) (references_at (path_at a.paths n) ids)
    → Meets b c (paths_below (path_at b.paths n) parts ts) (references_below (path_at b.paths n) parts ts)
    → Meets a c (paths_of (path_at a.paths n) t) (references_of (path_at a.paths n) t)
node_meets a b c n t ids parts ts lt ids_are parts_are ts_are first second =
    let p = path_at a.paths n in
    let q = path_at b.paths n in
    let same : q ≡ p = path_kept a.paths b.paths n first.kept lt in
    let below : paths_below q parts ts ≡ paths_below p (child_parts (kind_of t) (dtype_of t) (children_of t)) (children_of t)
    = ap (λ (x : Path). paths_below x parts ts) same ∙ ap₂ (λ (xs : List Path) (us : Layouts). paths_below p xs us) parts_are ts_are in
    let refs : references_below q parts ts ≡ references_below p (child_parts (kind_of t) (dtype_of t) (children_of t)) (children_of t)
    = ap (λ (x : Path). references_below x parts ts) same ∙ ap₂ (λ (xs : List Path) (us : Layouts). references_below p xs us) parts_are ts_are in
    meets_same a c ((p ∷ []) ++ paths_below q parts ts) (paths_of p t) (references_at p ids ++ references_below q parts ts) (references_of p t)
    (ap (λ (xs : List Path). p ∷ xs) below ∙ sym (paths_are p t))
    (ap₂ (λ (xs : List ℕ) (rs : List Reference). references_at p xs ++ rs) ids_are refs ∙ sym (references_are p t))
    (meets_both a b c (p ∷ []) (paths_below q parts ts) (references_at p ids) (references_below q parts ts) first second)

pub ruleset node_steps = (size_is)

-- ---- layouts one after the other

from_here : (ts : List LayoutTree) (i : ℕ) (t : LayoutTree) → i < length ts → t ≡ get_or ts i t → drop i ts ≡ t ∷ drop (i + 1) ts
from_here ts i t lt is = rw (add-one, drop-cons ts i t, ← is) refl

from_field : (fs : List (String Global × DType)) (i : ℕ) (f : String Global × DType) → i < length fs → f ≡ get_or fs i f → drop i fs ≡ f ∷ drop (i + 1) fs
from_field fs i f lt is = rw (add-one, drop-cons fs i f, ← is) refl

abbrev chunk_paths : Path → List LayoutTree → List Path
chunk_paths p ts = paths_below p (chunk_parts (layouts_of ts)) (layouts_of ts)

abbrev chunk_references : Path → List LayoutTree → List Reference
chunk_references p ts = references_below p (chunk_parts (layouts_of ts)) (layouts_of ts)

next_chunk_paths : (p : Path) (ts : List LayoutTree) (i : ℕ) (t : LayoutTree) → i < length ts → t ≡ get_or ts i t
    → chunk_paths p (drop i ts) ≡ paths_of p t ++ chunk_paths p (drop (i + 1) ts)
next_chunk_paths p ts i t lt is =
    let same : paths_of (p ++ []) t ≡ paths_of p t = ap (λ (q : Path). paths_of q t) (append-nil p) in
    ap (λ (xs : List LayoutTree). chunk_paths p xs) (from_here ts i t lt is) ∙ ap (λ (xs : List Path). xs ++ chunk_paths p (drop (i + 1) ts)) same

next_chunk_references : (p : Path) (ts : List LayoutTree) (i : ℕ) (t : LayoutTree) → i < length ts → t ≡ get_or ts i t
    → chunk_references p (drop i ts) ≡ references_of p t ++ chunk_references p (drop (i + 1) ts)
next_chunk_references p ts i t lt is =
    let same : references_of (p ++ []) t ≡ references_of p t = ap (λ (q : Path). references_of q t) (append-nil p) in
    ap (λ (xs : List LayoutTree). chunk_references p xs) (from_here ts i t lt is) ∙ ap (λ (xs : List Reference). xs ++ chunk_references p (drop (i + 1) ts)) same

next_field_paths : (p : Path) (fs : List (String Global × DType)) (ts : List LayoutTree) (i : ℕ) (f : String Global × DType) (t : LayoutTree)
    → i < length fs → i < length ts → f ≡ get_or fs i f → t ≡ get_or ts i t
    → paths_below p (field_parts (pairs_view (drop i fs))) (layouts_of (drop i ts))
    ≡ paths_of (p ++ string_bytes f.0 ∷ []) t ++ paths_below p (field_parts (pairs_view (drop (i + 1) fs))) (layouts_of (drop (i + 1) ts))
next_field_paths p fs ts i f t in_fs in_ts f_is t_is = rw (from_field fs i f in_fs f_is, from_here ts i t in_ts t_is) refl

next_field_references : (p : Path) (fs : List (String Global × DType)) (ts : List LayoutTree) (i : ℕ) (f : String Global × DType) (t : LayoutTree)
    → i < length fs → i < length ts → f ≡ get_or fs i f → t ≡ get_or ts i t
    → references_below p (field_parts (pairs_view (drop i fs))) (layouts_of (drop i ts))
    ≡ references_of (p ++ string_bytes f.0 ∷ []) t ++ references_below p (field_parts (pairs_view (drop (i + 1) fs))) (layouts_of (drop (i + 1) ts))
next_field_references p fs ts i f t in_fs in_ts f_is t_is = rw (from_field fs i f in_fs f_is, from_here ts i t in_ts t_is) refl

end_paths : (p : Path) (fs : List (String Global × DType)) (ts : List LayoutTree) (i : ℕ) → min (length fs) (length ts) ≤ i
    → paths_below p (field_parts (pairs_view (drop i fs))) (layouts_of (drop i ts)) ≡ []
end_paths p fs ts i le = elim (cases_lt i (length fs)) [
  | inl lt ↦ let past : length ts ≤ i = omega arith in rw (drop_all i ts past) refl
  | inr past ↦ rw (drop_all i fs past) (no_part_paths p (layouts_of (drop i ts)))
]

end_references : (p : Path) (fs : List (String Global × DType)) (ts : List LayoutTree) (i : ℕ) → min (length fs) (length ts) ≤ i
    → references_below p (field_parts (pairs_view (drop i fs))) (layouts_of (drop i ts)) ≡ []
end_references p fs ts i le = elim (cases_lt i (length fs)) [
  | inl lt ↦ let past : length ts ≤ i = omega arith in rw (drop_all i ts past) refl
  | inr past ↦ rw (drop_all i fs past) (no_part_references p (layouts_of (drop i ts)))
]

end_chunk_paths : (p : Path) (ts : List LayoutTree) (i : ℕ) → length ts ≤ i → chunk_paths p (drop i ts) ≡ []
end_chunk_paths p ts i past = rw (drop_all i ts past) refl

end_chunk_references : (p : Path) (ts : List LayoutTree) (i : ℕ) → length ts ≤ i → chunk_references p (drop i ts) ≡ []
end_chunk_references p ts i past = rw (drop_all i ts past) refl

-- one more chunk, and then the rest
pub chunk_meets : (a b c : Gathering) (n : ℕ) (p : Path) (ts : List LayoutTree) (i : ℕ) (t : LayoutTree) → i < length ts → t ≡ get_or ts i t → path_at a.paths n ≡ p
    → Meets a b (paths_of (path_at a.paths n) t) (references_of (path_at a.paths n) t)
    → Meets b c (chunk_paths p (drop (i + 1) ts)) (chunk_references p (drop (i + 1) ts)) → Meets a c (chunk_paths p (drop i ts)) (chunk_references p (drop i ts))
chunk_meets a b c n p ts i t lt is at first second =
    let one : Meets a b (paths_of p t) (references_of p t) = subst (λ (q : Path). Meets a b (paths_of q t) (references_of q t)) at first in
    meets_same a c (paths_of p t ++ chunk_paths p (drop (i + 1) ts)) (chunk_paths p (drop i ts)) (references_of p t ++ chunk_references p (drop (i + 1) ts)) (chunk_references p (drop i ts))
    (sym (next_chunk_paths p ts i t lt is)) (sym (next_chunk_references p ts i t lt is))
    (meets_both a b c (paths_of p t) (chunk_paths p (drop (i + 1) ts)) (references_of p t) (chunk_references p (drop (i + 1) ts)) one second)

pub no_chunk_meets : (a : Gathering) (p : Path) (ts : List LayoutTree) (i : ℕ) → length ts ≤ i → Meets a a (chunk_paths p (drop i ts)) (chunk_references p (drop i ts))
no_chunk_meets a p ts i past =
    meets_same a a [] (chunk_paths p (drop i ts)) [] (chunk_references p (drop i ts)) (sym (end_chunk_paths p ts i past)) (sym (end_chunk_references p ts i past)) (meets_nothing a)

abbrev fields_from : Path → List (String Global × DType) → List LayoutTree → ℕ → List Path
fields_from p fs ts i = paths_below p (field_parts (pairs_view (drop i fs))) (layouts_of (drop i ts))

abbrev field_refs_from : Path → List (String Global × DType) → List LayoutTree → ℕ → List Reference
field_refs_from p fs ts i = references_below p (field_parts (pairs_view (drop i fs))) (layouts_of (drop i ts))

-- a field's layout, whose path was met
pub field_meets : (a b c : Gathering) (q : Path) (number : ℕ) (t : LayoutTree) → IsMetAt a b q number
    → Meets b c (paths_of (path_at b.paths number) t) (references_of (path_at b.paths number) t) → Meets a c (paths_of q t) (references_of q t)
field_meets a b c q number t child first =
    let one : Meets b c (paths_of q t) (references_of q t) = subst (λ (x : Path). Meets b c (paths_of x t) (references_of x t)) child.path first in
    let below = paths_below q (child_parts (kind_of t) (dtype_of t) (children_of t)) (children_of t) in
    let both : Meets a c (q ∷ paths_of q t) (references_of q t) = meets_both a b c (q ∷ []) (paths_of q t) [] (references_of q t) child.meets one in
    meets_same a c (q ∷ below) (paths_of q t) (references_of q t) (references_of q t) (sym (paths_are q t)) refl
    (meets_again a c q below (references_of q t)
    (meets_same a c (q ∷ paths_of q t) (q ∷ (q ∷ below)) (references_of q t) (references_of q t) (ap (λ (xs : List Path). q ∷ xs) (paths_are q t)) refl both))

-- one more field, and then the rest
pub next_field_meets : (a b c d : Gathering) (n number : ℕ) (p : Path) (fs : List (String Global × DType)) (ts : List LayoutTree) (i : ℕ) (f : String Global × DType) (t : LayoutTree)
    → i < length fs → i < length ts → f ≡ get_or fs i f → t ≡ get_or ts i t → path_at a.paths n ≡ p
    → IsMetAt a b (path_at a.paths n ++ string_bytes f.0 ∷ []) number
    → Meets b c (paths_of (path_at b.paths number) t) (references_of (path_at b.paths number) t)
    → Meets c d (fields_from p fs ts (i + 1)) (field_refs_from p fs ts (i + 1)) → Meets a d (fields_from p fs ts i) (field_refs_from p fs ts i)
next_field_meets a b c d n number p fs ts i f t in_fs in_ts f_is t_is at child first second =
    let q : Path = p ++ string_bytes f.0 ∷ [] in
    let met : IsMetAt a b q number = subst (λ (x : Path). IsMetAt a b (x ++ string_bytes f.0 ∷ []) number) at child in
    meets_same a d (paths_of q t ++ fields_from p fs ts (i + 1)) (fields_from p fs ts i) (references_of q t ++ field_refs_from p fs ts (i + 1)) (field_refs_from p fs ts i)
    (sym (next_field_paths p fs ts i f t in_fs in_ts f_is t_is)) (sym (next_field_references p fs ts i f t in_fs in_ts f_is t_is))
    (meets_both a c d (paths_of q t) (fields_from p fs ts (i + 1)) (references_of q t) (field_refs_from p fs ts (i + 1)) (field_meets a b c q number t met first) second)

pub no_field_meets : (a : Gathering) (p : Path) (fs : List (String Global × DType)) (ts : List LayoutTree) (i : ℕ) → min (length fs) (length ts) ≤ i
    → Meets a a (fields_from p fs ts i) (field_refs_from p fs ts i)
no_field_meets a p fs ts i past =
    meets_same a a [] (fields_from p fs ts i) [] (field_refs_from p fs ts i) (sym (end_paths p fs ts i past)) (sym (end_references p fs ts i past)) (meets_nothing a)

-- a number keeps its path
pub still_inside : (a b : Gathering) (n : ℕ) (ps : List Path) (rs : List Reference) → Meets a b ps rs → n < length a.paths → n < length b.paths
still_inside a b n ps rs m lt = omega (arith, lt, kept_long a.paths b.paths m.kept)

pub still_path : (a b : Gathering) (n : ℕ) (p : Path) (ps : List Path) (rs : List Reference) → Meets a b ps rs → n < length a.paths → path_at a.paths n ≡ p → path_at b.paths n ≡ p
still_path a b n p ps rs m lt at = path_kept a.paths b.paths n m.kept lt ∙ at

pub ruleset chunk_steps = (next_size, still_inside)

pub ruleset field_steps = (next_size, still_inside)

-- ---- the validity before the fields

one_first : (n : ℕ) → min (suc n) 1 ≡ 1
one_first n = omega arith

validity_paths : (p : Path) (parts : List Path) (ts : List LayoutTree)
    → paths_below p ([] ∷ parts) (layouts_of ts) ≡ chunk_paths p (take (min (length ts) 1) ts) ++ paths_below p parts (layouts_of (drop (min (length ts) 1) ts))
validity_paths p parts [] = refl
validity_paths p parts (t ∷ ts) = rw (one_first (length ts)) (ap (λ (xs : List Path). xs ++ paths_below p parts (layouts_of ts)) (sym (append-nil (paths_of (p ++ []) t))))

validity_references : (p : Path) (parts : List Path) (ts : List LayoutTree)
    → references_below p ([] ∷ parts) (layouts_of ts) ≡ chunk_references p (take (min (length ts) 1) ts) ++ references_below p parts (layouts_of (drop (min (length ts) 1) ts))
validity_references p parts [] = refl
validity_references p parts (t ∷ ts) = rw (one_first (length ts)) (ap (λ (xs : List Reference). xs ++ references_below p parts (layouts_of ts)) (sym (append-nil (references_of (p ++ []) t))))

pub size_front : (n : ℕ) (ts : List LayoutTree) → trees_size (layouts_of (take n ts)) ≤ trees_size (layouts_of ts)
size_front zero ts = omega arith
size_front (suc n) [] = omega arith
size_front (suc n) (t ∷ ts) = omega (arith, size_front n ts)

pub size_back : (n : ℕ) (ts : List LayoutTree) → trees_size (layouts_of (drop n ts)) ≤ trees_size (layouts_of ts)
size_back zero ts = omega arith
size_back (suc n) [] = omega arith
size_back (suc n) (t ∷ ts) = omega (arith, size_back n ts)

pub validity_meets : (a b c : Gathering) (number n : ℕ) (parts : List Path) (ts : List LayoutTree) → number < length a.paths → n ≡ min (length ts) 1
    → Meets a b (chunk_paths (path_at a.paths number) (take n ts)) (chunk_references (path_at a.paths number) (take n ts))
    → Meets b c (paths_below (path_at b.paths number) parts (layouts_of (drop n ts))) (references_below (path_at b.paths number) parts (layouts_of (drop n ts)))
    → Meets a c (paths_below (path_at a.paths number) ([] ∷ parts) (layouts_of ts)) (references_below (path_at a.paths number) ([] ∷ parts) (layouts_of ts))
validity_meets a b c number n parts ts lt n_is first second =
    let p = path_at a.paths number in
    let us = layouts_of (drop n ts) in
    let same : path_at b.paths number ≡ p = path_kept a.paths b.paths number first.kept lt in
    let rest : Meets b c (paths_below p parts us) (references_below p parts us) = subst (λ (q : Path). Meets b c (paths_below q parts us) (references_below q parts us)) same second in
    meets_same a c (chunk_paths p (take n ts) ++ paths_below p parts us) (paths_below p ([] ∷ parts) (layouts_of ts))
    (chunk_references p (take n ts) ++ references_below p parts us) (references_below p ([] ∷ parts) (layouts_of ts))
    (ap (λ (k : ℕ). chunk_paths p (take k ts) ++ paths_below p parts (layouts_of (drop k ts))) n_is ∙ sym (validity_paths p parts ts))
    (ap (λ (k : ℕ). chunk_references p (take k ts) ++ references_below p parts (layouts_of (drop k ts))) n_is ∙ sym (validity_references p parts ts))
    (meets_both a b c (chunk_paths p (take n ts)) (paths_below p parts us) (chunk_references p (take n ts)) (references_below p parts us) first rest)

pub ruleset validity_steps = (still_inside, size_front, size_back)

-- ---- the whole tree

root_case : (a b : Bool) → (((a || false) || (a || b)) ≡ (a || b))
root_case true b = refl
root_case false b = refl

pub root_paths : (g : Gathering) (a : Gathering) (t : LayoutTree) → a.paths ≡ [] ∷ [] → Meets a g (paths_of [] t) (references_of [] t)
    → (q : Path) → has_path g.paths q ≡ has_path (paths_of [] t) q
root_paths g a (node k d n s ts) is m = λ q.
    m.also q ∙ ap (λ (ps : List Path). has_path ps q || has_path (paths_of [] (node k d n s ts)) q) is
    ∙ root_case (is_at (path_cmp q) []) (has_path (paths_below [] (child_parts k d ts) ts) q)
