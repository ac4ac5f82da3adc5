-- Rows that are kept while others are put behind them.
use Rattle.std.proofs.Common.{◌≡◌, ℕ, ℤ, ◌+◌, ◌-◌, ◌<◌, ◌≤◌, Bool, true, false, List, ◌++◌, length, get_or, set, take, Option, refl, ap, sym, ◌∙◌, subst, arith, inl, inr}
use Rattle.std.specs.Prelude.{slice_range, ◌||◌}
use Rattle.std.proofs.lemmas.List.{take_all}
use Rattle.std.proofs.lemmas.Bool.{cases_lt}
use Rattle.vx_rows.specs.declared.builder.Builder.{Builder}
use Rattle.vx_rows.specs.Columns.{Bools, Ints, Texts, Structs}
use Rattle.vx_rows.specs.Rows.{Rows, FieldRows, bools, ints, texts, structs, no_columns, column, HasRows, AllHaveRows, IsColumn, AreColumns, rows_len, dtype_of, types_of}
use Rattle.vx_data.specs.Dtype.{Dtype, FieldList, bool, int, text, struct, no_fields, field}
use Rattle.vx_rows.specs.ReadRows.{no_rows, no_rows_each}
use Rattle.vx_rows.specs.Builders.{builder_view, pairs_view}
use Rattle.vx_rows.specs.Parts.{part, field_parts, appended, Keeps, FieldsKeep}
use Rattle.vx_rows.proofs.BuildingLemmas.{Field}
use Rattle.vx_rows.proofs.ColumnLaws.{all-kept, all-kept-fields, front-kept, column_rows, rows_are, appended_is_column, part_is_column, part_type, appended_type}
use Rattle.vx_rows.proofs.JoinLemmas.{bools_upto}
use Rattle.vx_rows.proofs.FieldGrowLemmas.{kept_set, rows_at}

pub keep_same : (c d : Rows) → d ≡ c → Keeps c d
keep_same c d e = record { front = λ n h. ap (part 0 n) e ∙ all-kept c n h }

pub ints_same : (c d : Ints) → d ≡ c → Keeps (ints c) (ints d)
ints_same c d e = keep_same (ints c) (ints d) (ap ints e)

pub fields_same : (c d : FieldRows) → d ≡ c → FieldsKeep c d
fields_same c d e = record { front = λ n h. ap (field_parts 0 n) e ∙ all-kept-fields c n h }

pub bools_keep : (c : Bools) (rows : List (Option Bool)) (k : ℕ) (d : Bools) → d ≡ bools_upto c rows k → Keeps (bools c) (bools d)
bools_keep c rows k d e = record {
  front = λ n h. ap (λ (x : Bools). part 0 n (bools x)) e ∙ ap (λ (xs : List (Option Bool)). bools (record { nullable = c.nullable; rows = xs })) (front-kept c.rows (take k rows) n h);
}

pub texts_same : (c d : Texts) → d ≡ c → Keeps (texts c) (texts d)
texts_same c d e = keep_same (texts c) (texts d) (ap texts e)

pub texts_keep : (c : Texts) (rows : List (Option (List ℕ))) (d : Texts) → d ≡ record { nullable = c.nullable; rows = c.rows ++ rows } → Keeps (texts c) (texts d)
texts_keep c rows d e = record {
  front = λ n h. ap (λ (x : Texts). part 0 n (texts x)) e ∙ ap (λ (xs : List (Option (List ℕ))). texts (record { nullable = c.nullable; rows = xs })) (front-kept c.rows rows n h);
}

pub ints_keep : (c : Ints) (rows : List (Option ℤ)) (d : Ints) → d ≡ record { ptype = c.ptype; nullable = c.nullable; rows = c.rows ++ rows } → Keeps (ints c) (ints d)
ints_keep c rows d e = record {
  front = λ n h. ap (λ (x : Ints). part 0 n (ints x)) e ∙ ap (λ (xs : List (Option ℤ)). ints (record { ptype = c.ptype; nullable = c.nullable; rows = xs })) (front-kept c.rows rows n h);
}

pub structs_keep : (c d : Structs) (more : List Bool) (cs ds : FieldRows) → d ≡ record { nullable = c.nullable; present = c.present ++ more } → FieldsKeep cs ds → Keeps (structs c cs) (structs d ds)
structs_keep c d more cs ds e k = record {
  front = λ n h.
      ap (λ (x : Structs). part 0 n (structs x ds)) e
      ∙ ap (λ (xs : List Bool). structs (record { nullable = c.nullable; present = xs }) (field_parts 0 n ds)) (front-kept c.present more n h.0)
      ∙ ap (structs c) (k.front n h.1);
}

pub structs_same : (c d : Structs) (cs ds : FieldRows) → d ≡ c → ds ≡ cs → Keeps (structs c cs) (structs d ds)
structs_same c d cs ds e f = keep_same (structs c cs) (structs d ds) (ap (λ (x : Structs). structs x ds) e ∙ ap (structs c) f)

-- ---- a field that has grown

pub fields_keep_set : (bs starts : List Field) (i : ℕ) (b : Field) (b' : Builder) → i < length bs → b ≡ get_or bs i b → i < length starts → b ≡ get_or starts i b → Keeps (builder_view b.1) (builder_view b')
    → FieldsKeep (pairs_view starts) (pairs_view bs) → FieldsKeep (pairs_view starts) (pairs_view (set bs i (b.0, b')))
fields_keep_set bs starts i b b' l is m same k all = record {
  front = λ n h.
      let here = rows_at n starts i b h m same in
      kept_set bs i b b' n l is here (k.front n here) ∙ all.front n h;
}

-- ---- whole columns

or-true : (b : Bool) → (b || true) ≡ true
or-true true = refl
or-true false = refl

mutual
  none-is-column : (d : Dtype) → IsColumn 0 (no_rows d)
  none-is-column (bool nullable) = (refl, or-true nullable)
  none-is-column (int p nullable) = (refl, or-true nullable, λ i d l. absurd (omega (arith, l)))
  none-is-column (text nullable) = (refl, or-true nullable, λ i d l. absurd (omega (arith, l)))
  none-is-column (struct fs nullable) = (refl, or-true nullable, none-are-columns fs)

  none-are-columns : (fs : FieldList) → AreColumns 0 (no_rows_each fs)
  none-are-columns no_fields = tt
  none-are-columns (field name d fs) = (none-is-column d, none-are-columns fs)

even-is : (n : ℕ) (c : Rows) → IsColumn n c → IsColumn (rows_len c) c
even-is n c h = subst (λ k. IsColumn k c) (sym (rows_are n c (column_rows n c h))) h

pub new_even : (d : Dtype) (c : Rows) → c ≡ no_rows d → IsColumn (rows_len c) c
new_even d c e = subst (λ (x : Rows). IsColumn (rows_len x) x) (sym e) (even-is 0 (no_rows d) (none-is-column d))

pub appended_even : (c d e : Rows) → dtype_of d ≡ dtype_of c → IsColumn (rows_len c) c → (m : ℕ) × IsColumn m d → e ≡ appended c d → IsColumn (rows_len e) e
appended_even c d e t h g same =
    subst (λ (x : Rows). IsColumn (rows_len x) x) (sym same) (even-is (rows_len c + g.0) (appended c d) (appended_is_column (rows_len c) g.0 c d (sym t) h g.1))

-- what is cut back to the rows before
pub cut_back : (c d e : Rows) (n : ℕ) → Keeps c d → e ≡ part 0 n d → n ≡ rows_len c → IsColumn (rows_len c) c → e ≡ c
cut_back c d e n k same size h = same ∙ ap (λ m. part 0 m d) size ∙ k.front (rows_len c) (column_rows (rows_len c) c h)

pub same_even : (c e : Rows) → IsColumn (rows_len c) c → e ≡ c → IsColumn (rows_len e) e
same_even c e h same = subst (λ (x : Rows). IsColumn (rows_len x) x) (sym same) h

pub part_even : (c p : Rows) (from to : ℕ) → from ≤ to → to ≤ rows_len c → IsColumn (rows_len c) c → p ≡ part from to c → (m : ℕ) × IsColumn m p
part_even c p from to o l h e = (to - from, subst (IsColumn (to - from)) (sym e) (part_is_column (rows_len c) from to c o l h))

pub part_typed : (c p d : Rows) (from to : ℕ) → p ≡ part from to c → dtype_of c ≡ dtype_of d → dtype_of p ≡ dtype_of d
part_typed c p d from to e t = ap dtype_of e ∙ part_type from to c ∙ t

-- ---- the first rows

range-all : {A : Type 0} (xs : List A) (k : ℕ) → length xs ≤ k → slice_range xs 0 k ≡ xs
range-all xs k l = take_all (k - 0) xs (omega (arith, l))

mutual
  -- all rows, where there are no more
  part-all : (n k : ℕ) (c : Rows) → n ≤ k → HasRows n c → part 0 k c ≡ c
  part-all n k (bools c) l e = ap (λ rows. bools (record { nullable = c.nullable; rows = rows })) (range-all c.rows k (omega (arith, l, e)))
  part-all n k (ints c) l e = ap (λ rows. ints (record { ptype = c.ptype; nullable = c.nullable; rows = rows })) (range-all c.rows k (omega (arith, l, e)))
  part-all n k (texts c) l e = ap (λ rows. texts (record { nullable = c.nullable; rows = rows })) (range-all c.rows k (omega (arith, l, e)))
  part-all n k (structs c cs) l e =
      ap (λ present. structs (record { nullable = c.nullable; present = present }) (field_parts 0 k cs)) (range-all c.present k (omega (arith, l, e.0))) ∙ ap (structs c) (parts-all n k cs l e.1)

  parts-all : (n k : ℕ) (cs : FieldRows) → n ≤ k → AllHaveRows n cs → field_parts 0 k cs ≡ cs
  parts-all n k no_columns l e = refl
  parts-all n k (column name c cs) l e = ap (λ x. column name x (field_parts 0 k cs)) (part-all n k c l e.0) ∙ ap (column name c) (parts-all n k cs l e.1)

pub front_even : (c e : Rows) (k : ℕ) → IsColumn (rows_len c) c → e ≡ part 0 k c → IsColumn (rows_len e) e
front_even c e k h same = elim (cases_lt k (rows_len c)) [
  | inl less ↦ subst (λ (x : Rows). IsColumn (rows_len x) x) (sym same) (even-is (k - 0) (part 0 k c) (part_is_column (rows_len c) 0 k c (omega arith) (omega (arith, less)) h))
  | inr more ↦ subst (λ (x : Rows). IsColumn (rows_len x) x) (sym (same ∙ part-all (rows_len c) k c more (column_rows (rows_len c) c h))) h
]

mutual
  none-type : (d : Dtype) → dtype_of (no_rows d) ≡ d
  none-type (bool nullable) = refl
  none-type (int p nullable) = refl
  none-type (text nullable) = refl
  none-type (struct fs nullable) = ap (λ gs. struct gs nullable) (none-types fs)

  none-types : (fs : FieldList) → types_of (no_rows_each fs) ≡ fs
  none-types no_fields = refl
  none-types (field name d fs) = ap (λ t. field name t (types_of (no_rows_each fs))) (none-type d) ∙ ap (field name d) (none-types fs)

pub new_type : (d : Dtype) (c : Rows) → c ≡ no_rows d → dtype_of c ≡ d
new_type d c e = ap dtype_of e ∙ none-type d

pub appended_same : (c d e : Rows) → e ≡ appended c d → dtype_of e ≡ dtype_of c
appended_same c d e same = ap dtype_of same ∙ appended_type c d
