-- Fields of a struct, one after the other: their parts, sizes, types and lengths.
use Rattle.std.proofs.Common.{◌≡◌, ℕ, ◌+◌, ◌<◌, ◌≤◌, List, [], ◌∷◌, ◌++◌, length, get_or, drop, refl, ap, sym, ◌∙◌, subst, arith}
use Rattle.std.specs.Prelude.{String, string_bytes}
use Rattle.std.specs.Global.{Global}
use Rattle.std.proofs.lemmas.List.{drop_all}
use Rattle.vx_data.specs.declared.dtype.DType.{DType}
use Rattle.vx_data.specs.Dtype.{Dtype, FieldList, field, dtype_view, pairs_view as types_view}
use Rattle.vx_rows.specs.declared.column.Column.{Column}
use Rattle.vx_rows.specs.Rows.{Rows, column, column_view, viewed, pairs_view, dtype_of, types_of, IsColumn, AreColumns}
use Rattle.vx_rows.specs.Trees.{before}
use Rattle.vx_rows.specs.Parts.{part, field_parts, plain_size, fields_plain_size}
use Rattle.vx_rows.proofs.TreeLemmas.{added, before-none, next as next-type}
use Rattle.vx_rows.proofs.EncodedLemmas.{next}

abbrev pub Field : Type 0
Field = String Global × Column

-- ---- parts

pub cut_more : (cs : List Field) (i : ℕ) (c : Field) (from to : ℕ) (made made' : List Field) (name : String Global) (d : Column) → i < length cs → c ≡ get_or cs i c
    → made' ≡ made ++ (name, d) ∷ [] → string_bytes name ≡ string_bytes c.0 → column_view d ≡ part from to (column_view c.1)
    → before (viewed made') (field_parts from to (pairs_view (drop (i + 1) cs))) ≡ before (viewed made) (field_parts from to (pairs_view (drop i cs)))
cut_more cs i c from to made made' name d lt is more same cut =
    added made made' c.0 name d more same (field_parts from to (pairs_view (drop (i + 1) cs)))
    ∙ ap (λ (x : Rows). before (viewed made) (column (string_bytes c.0) x (field_parts from to (pairs_view (drop (i + 1) cs))))) cut
    ∙ sym (ap (λ (xs : List Field). before (viewed made) (field_parts from to (pairs_view xs))) (next cs i c lt is))

pub cut_end : (cs : List Field) (i from to : ℕ) (made : List Field) → length cs ≤ i → before (viewed made) (field_parts from to (pairs_view (drop i cs))) ≡ pairs_view made
cut_end cs i from to made l =
    ap (λ (xs : List Field). before (viewed made) (field_parts from to (pairs_view xs))) (drop_all i cs l) ∙ before-none (viewed made)

-- ---- sizes

pub next_size : (cs : List Field) (i : ℕ) (c : Field) → i < length cs → c ≡ get_or cs i c
    → fields_plain_size (pairs_view (drop i cs)) ≡ plain_size (column_view c.1) + fields_plain_size (pairs_view (drop (i + 1) cs))
next_size cs i c lt is = ap (λ xs. fields_plain_size (pairs_view xs)) (next cs i c lt is)

pub past_size : (cs : List Field) (i : ℕ) → length cs ≤ i → fields_plain_size (pairs_view (drop i cs)) ≡ 0
past_size cs i l = ap (λ xs. fields_plain_size (pairs_view xs)) (drop_all i cs l)

pub ruleset field_sizes = (next_size, past_size)

-- ---- types

-- the fields from one on are of the types from there on
abbrev pub AreTyped : List Field → List (String Global × DType) → ℕ → Type 0
AreTyped cs ts i = types_of (pairs_view (drop i cs)) ≡ types_view (drop i ts)

first-name : (a b : List ℕ) (c d : Dtype) (cs ds : FieldList) → field a c cs ≡ field b d ds → a ≡ b
first-name a b c d cs ds e = cc

first-type : (a b : List ℕ) (c d : Dtype) (cs ds : FieldList) → field a c cs ≡ field b d ds → c ≡ d
first-type a b c d cs ds e = cc

rest-types : (a b : List ℕ) (c d : Dtype) (cs ds : FieldList) → field a c cs ≡ field b d ds → cs ≡ ds
rest-types a b c d cs ds e = cc

module _ (cs : List Field) (ts : List (String Global × DType)) (i : ℕ) (c : Field) (t : String Global × DType) (lc : i < length cs) (ic : c ≡ get_or cs i c) (lt : i < length ts) (it : t ≡ get_or ts i t) where
  whole : AreTyped cs ts i ≡ (field (string_bytes c.0) (dtype_of (column_view c.1)) (types_of (pairs_view (drop (i + 1) cs))) ≡ field (string_bytes t.0) (dtype_view t.1) (types_view (drop (i + 1) ts)))
  whole =
      ap (λ (xs : List Field). types_of (pairs_view xs) ≡ types_view (drop i ts)) (next cs i c lc ic)
      ∙ ap (λ (ys : List (String Global × DType)). types_of (pairs_view (c ∷ drop (i + 1) cs)) ≡ types_view ys) (next-type ts i t lt it)

  pub typed_name : AreTyped cs ts i → string_bytes c.0 ≡ string_bytes t.0
  typed_name h = first-name _ _ _ _ _ _ (subst (λ (P : Type 0). P) whole h)

  pub typed_type : AreTyped cs ts i → dtype_of (column_view c.1) ≡ dtype_view t.1
  typed_type h = first-type _ _ _ _ _ _ (subst (λ (P : Type 0). P) whole h)

  pub typed_rest : AreTyped cs ts i → AreTyped cs ts (i + 1)
  typed_rest h = rest-types _ _ _ _ _ _ (subst (λ (P : Type 0). P) whole h)

  pub typed_more : string_bytes c.0 ≡ string_bytes t.0 → dtype_of (column_view c.1) ≡ dtype_view t.1 → AreTyped cs ts (i + 1) → AreTyped cs ts i
  typed_more n d r = subst (λ (P : Type 0). P) (sym whole)
      (ap (λ b. field b (dtype_of (column_view c.1)) (types_of (pairs_view (drop (i + 1) cs)))) n
      ∙ ap (λ x. field (string_bytes t.0) x (types_of (pairs_view (drop (i + 1) cs)))) d
      ∙ ap (field (string_bytes t.0) (dtype_view t.1)) r)

pub typed_end : (cs : List Field) (ts : List (String Global × DType)) (i : ℕ) → length cs ≤ i → length ts ≤ i → AreTyped cs ts i
typed_end cs ts i l m = ap (λ (xs : List Field). types_of (pairs_view xs)) (drop_all i cs l) ∙ sym (ap (λ (ys : List (String Global × DType)). types_view ys) (drop_all i ts m))

-- as many types as columns
pub as_many : (cs : List Field) (ts : List (String Global × DType)) → types_of (pairs_view cs) ≡ types_view ts → length cs ≡ length ts
as_many [] [] e = refl
as_many [] (t ∷ ts) e = cc
as_many (c ∷ cs) [] e = cc
as_many (c ∷ cs) (t ∷ ts) e =
    let h = as_many cs ts (rest-types _ _ _ _ _ _ e) in
    omega (arith, h)

-- ---- lengths

module _ (n : ℕ) (cs : List Field) (i : ℕ) (c : Field) (l : i < length cs) (is : c ≡ get_or cs i c) where
  pub even_split : AreColumns n (pairs_view (drop i cs)) ≡ (IsColumn n (column_view c.1) × AreColumns n (pairs_view (drop (i + 1) cs)))
  even_split = ap (λ (xs : List Field). AreColumns n (pairs_view xs)) (next cs i c l is)

  pub even_here : AreColumns n (pairs_view (drop i cs)) → IsColumn n (column_view c.1)
  even_here h = (subst (λ (P : Type 0). P) even_split h).0

  pub even_rest : AreColumns n (pairs_view (drop i cs)) → AreColumns n (pairs_view (drop (i + 1) cs))
  even_rest h = (subst (λ (P : Type 0). P) even_split h).1

  pub even_more : IsColumn n (column_view c.1) → AreColumns n (pairs_view (drop (i + 1) cs)) → AreColumns n (pairs_view (drop i cs))
  even_more x h = subst (λ (P : Type 0). P) (sym even_split) (x, h)

pub even_end : (n : ℕ) (cs : List Field) (i : ℕ) → length cs ≤ i → AreColumns n (pairs_view (drop i cs))
even_end n cs i l = subst (λ (xs : List Field). AreColumns n (pairs_view xs)) (sym (drop_all i cs l)) tt
