-- Fields that grow, are cut back, copied and measured, one after the other.
use Rattle.std.proofs.Common.{◌≡◌, ℕ, zero, suc, ◌+◌, ◌<◌, ◌≤◌, List, [], ◌∷◌, ◌++◌, length, get_or, set, take, drop, refl, ap, sym, ◌∙◌, subst, add-one, drop-cons, arith}
use Rattle.std.specs.Prelude.{String, string_bytes}
use Rattle.std.specs.Global.{Global}
use Rattle.std.proofs.lemmas.List.{take_more_set, take_all, drop-set-lt, drop_all}
use Rattle.vx_rows.specs.declared.builder.Builder.{Builder}
use Rattle.vx_rows.specs.declared.column.Column.{Column}
use Rattle.vx_rows.specs.Rows.{Rows, FieldRows, no_columns, column, column_view, viewed, pairs_view as columns_in, types_of, HasRows, AllHaveRows, AreColumns, IsColumn, dtype_of}
use Rattle.vx_rows.specs.Trees.{before, type_size, fields_size}
use Rattle.vx_rows.specs.Builders.{builder_view, built, pairs_view}
use Rattle.vx_rows.specs.Parts.{part, field_parts, appended, fields_appended, plain_size, fields_plain_size}
use Rattle.vx_rows.proofs.TreeLemmas.{added, before-none}
use Rattle.vx_rows.proofs.EncodedLemmas.{next}
use Rattle.vx_rows.proofs.BuildingLemmas.{Field, before_built, built_end}
use Rattle.vx_rows.proofs.ColumnLaws.{first-type, rest-types, all-kept}

pub next_builder : (bs : List Field) (i : ℕ) (b : Field) → i < length bs → b ≡ get_or bs i b → drop i bs ≡ b ∷ drop (i + 1) bs
next_builder bs i b lt is = rw (add-one, drop-cons bs i b, ← is) refl

-- ---- rows behind those of each field

nothing-more : (cs : FieldRows) → fields_appended no_columns cs ≡ no_columns
nothing-more no_columns = refl
nothing-more (column name c cs) = refl

pub append_more : (bs : List Field) (cs : List (String Global × Column)) (i : ℕ) (b : Field) (b' : Builder) (c : String Global × Column)
    → i < length bs → b ≡ get_or bs i b → i < length cs → c ≡ get_or cs i c → builder_view b' ≡ appended (builder_view b.1) (column_view c.1)
    → before (built (take (i + 1) (set bs i (b.0, b')))) (fields_appended (pairs_view (drop (i + 1) (set bs i (b.0, b')))) (columns_in (drop (i + 1) cs)))
    ≡ before (built (take i bs)) (fields_appended (pairs_view (drop i bs)) (columns_in (drop i cs)))
append_more bs cs i b b' c lt is lc ic row =
    ap (λ (xs : List Field). before (built xs) (fields_appended (pairs_view (drop (i + 1) (set bs i (b.0, b')))) (columns_in (drop (i + 1) cs)))) (take_more_set bs i (b.0, b') lt)
    ∙ before_built (take i bs) (b.0, b') (fields_appended (pairs_view (drop (i + 1) (set bs i (b.0, b')))) (columns_in (drop (i + 1) cs)))
    ∙ ap (λ (xs : List Field). before (built (take i bs)) (column (string_bytes b.0) (builder_view b') (fields_appended (pairs_view xs) (columns_in (drop (i + 1) cs)))))
    (drop-set-lt (i + 1) bs i (b.0, b') (omega arith))
    ∙ ap (λ (x : Rows). before (built (take i bs)) (column (string_bytes b.0) x (fields_appended (pairs_view (drop (i + 1) bs)) (columns_in (drop (i + 1) cs))))) row
    ∙ sym (ap (λ (xs : List Field). before (built (take i bs)) (fields_appended (pairs_view xs) (columns_in (drop i cs)))) (next_builder bs i b lt is)
    ∙ ap (λ (ys : List (String Global × Column)). before (built (take i bs)) (fields_appended (pairs_view (b ∷ drop (i + 1) bs)) (columns_in ys))) (next cs i c lc ic))

pub append_end : (bs : List Field) (cs : FieldRows) (i : ℕ) → length bs ≤ i → before (built (take i bs)) (fields_appended (pairs_view (drop i bs)) cs) ≡ pairs_view bs
append_end bs cs i l =
    ap (λ (xs : List Field). before (built xs) (fields_appended (pairs_view (drop i bs)) cs)) (take_all i bs l)
    ∙ ap (λ (xs : List Field). before (built bs) (fields_appended (pairs_view xs) cs)) (drop_all i bs l)
    ∙ ap (before (built bs)) (nothing-more cs) ∙ built_end bs

-- as many columns as builders
pub as_many_builders : (bs : List Field) (cs : List (String Global × Column)) → types_of (columns_in cs) ≡ types_of (pairs_view bs) → length cs ≡ length bs
as_many_builders [] [] e = refl
as_many_builders [] (c ∷ cs) e = cc
as_many_builders (b ∷ bs) [] e = cc
as_many_builders (b ∷ bs) (c ∷ cs) e = let h = as_many_builders bs cs (rest-types _ _ _ _ _ _ e) in omega (arith, h)

-- each column is of the type of its builder
pub builder_type : (bs : List Field) (cs : List (String Global × Column)) (i : ℕ) (b : Field) (c : String Global × Column) → types_of (columns_in cs) ≡ types_of (pairs_view bs)
    → i < length bs → b ≡ get_or bs i b → i < length cs → c ≡ get_or cs i c → dtype_of (column_view c.1) ≡ dtype_of (builder_view b.1)
builder_type [] cs i b c e lb ib lc ic = absurd (omega (arith, lb))
builder_type (x ∷ bs) [] i b c e lb ib lc ic = absurd (omega (arith, lc))
builder_type (x ∷ bs) (y ∷ cs) zero b c e lb ib lc ic =
    ap (λ (z : String Global × Column). dtype_of (column_view z.1)) ic ∙ first-type _ _ _ _ _ _ e ∙ sym (ap (λ (z : Field). dtype_of (builder_view z.1)) ib)
builder_type (x ∷ bs) (y ∷ cs) (suc i) b c e lb ib lc ic = builder_type bs cs i b c (rest-types _ _ _ _ _ _ e) (omega (arith, lb)) ib (omega (arith, lc)) ic

-- a column is no larger than all of them
pub column_size : (cs : List (String Global × Column)) (i : ℕ) (c : String Global × Column) → i < length cs → c ≡ get_or cs i c → type_size (dtype_of (column_view c.1)) ≤ fields_size (types_of (columns_in cs))
column_size [] i c l is = absurd (omega (arith, l))
column_size (x ∷ cs) zero c l is =
    let e : type_size (dtype_of (column_view c.1)) ≡ type_size (dtype_of (column_view x.1)) = ap (λ (y : String Global × Column). type_size (dtype_of (column_view y.1))) is in
    omega (arith, e)
column_size (x ∷ cs) (suc i) c l is =
    let h = column_size cs i c (omega (arith, l)) is in
    omega (arith, h)

pub column_at : (n : ℕ) (cs : List (String Global × Column)) (i : ℕ) (c : String Global × Column) → AreColumns n (columns_in cs) → i < length cs → c ≡ get_or cs i c → IsColumn n (column_view c.1)
column_at n [] i c h l is = absurd (omega (arith, l))
column_at n (y ∷ cs) zero c h l is = subst (λ (z : String Global × Column). IsColumn n (column_view z.1)) (sym is) h.0
column_at n (y ∷ cs) (suc i) c h l is = column_at n cs i c h.1 (omega (arith, l)) is

-- the front of all fields, where one of them has grown
pub kept_set : (bs : List Field) (i : ℕ) (b : Field) (b' : Builder) (n : ℕ) → i < length bs → b ≡ get_or bs i b → HasRows n (builder_view b.1) → part 0 n (builder_view b') ≡ builder_view b.1
    → field_parts 0 n (pairs_view (set bs i (b.0, b'))) ≡ field_parts 0 n (pairs_view bs)
kept_set [] i b b' n l is h k = absurd (omega (arith, l))
kept_set (x ∷ bs) zero b b' n l is h k =
    ap (λ (y : Rows). column (string_bytes b.0) y (field_parts 0 n (pairs_view bs))) (k ∙ sym (all-kept (builder_view b.1) n h))
    ∙ ap (λ (y : Field). column (string_bytes y.0) (part 0 n (builder_view y.1)) (field_parts 0 n (pairs_view bs))) is
kept_set (x ∷ bs) (suc i) b b' n l is h k = ap (column (string_bytes x.0) (part 0 n (builder_view x.1))) (kept_set bs i b b' n (omega (arith, l)) is h k)

pub rows_at : (n : ℕ) (bs : List Field) (i : ℕ) (b : Field) → AllHaveRows n (pairs_view bs) → i < length bs → b ≡ get_or bs i b → HasRows n (builder_view b.1)
rows_at n [] i b h l is = absurd (omega (arith, l))
rows_at n (x ∷ bs) zero b h l is = subst (λ (y : Field). HasRows n (builder_view y.1)) (sym is) h.0
rows_at n (x ∷ bs) (suc i) b h l is = rows_at n bs i b h.1 (omega (arith, l)) is

-- ---- rows that are cut off

pub truncate_more : (bs : List Field) (i n : ℕ) (b : Field) (b' : Builder) → i < length bs → b ≡ get_or bs i b → builder_view b' ≡ part 0 n (builder_view b.1)
    → before (built (take (i + 1) (set bs i (b.0, b')))) (field_parts 0 n (pairs_view (drop (i + 1) (set bs i (b.0, b'))))) ≡ before (built (take i bs)) (field_parts 0 n (pairs_view (drop i bs)))
truncate_more bs i n b b' lt is row =
    ap (λ (xs : List Field). before (built xs) (field_parts 0 n (pairs_view (drop (i + 1) (set bs i (b.0, b')))))) (take_more_set bs i (b.0, b') lt)
    ∙ before_built (take i bs) (b.0, b') (field_parts 0 n (pairs_view (drop (i + 1) (set bs i (b.0, b')))))
    ∙ ap (λ (xs : List Field). before (built (take i bs)) (column (string_bytes b.0) (builder_view b') (field_parts 0 n (pairs_view xs)))) (drop-set-lt (i + 1) bs i (b.0, b') (omega arith))
    ∙ ap (λ (x : Rows). before (built (take i bs)) (column (string_bytes b.0) x (field_parts 0 n (pairs_view (drop (i + 1) bs))))) row
    ∙ sym (ap (λ (xs : List Field). before (built (take i bs)) (field_parts 0 n (pairs_view xs))) (next_builder bs i b lt is))

pub truncate_end : (bs : List Field) (i n : ℕ) → length bs ≤ i → before (built (take i bs)) (field_parts 0 n (pairs_view (drop i bs))) ≡ pairs_view bs
truncate_end bs i n l =
    ap (λ (xs : List Field). before (built xs) (field_parts 0 n (pairs_view (drop i bs)))) (take_all i bs l)
    ∙ ap (λ (xs : List Field). before (built bs) (field_parts 0 n (pairs_view xs))) (drop_all i bs l) ∙ built_end bs

-- ---- copies

pub copy_more : (bs : List Field) (i : ℕ) (b : Field) (made made' : List (String Global × Column)) (name : String Global) (d : Column) → i < length bs → b ≡ get_or bs i b
    → made' ≡ made ++ (name, d) ∷ [] → string_bytes name ≡ string_bytes b.0 → column_view d ≡ builder_view b.1
    → before (viewed made') (pairs_view (drop (i + 1) bs)) ≡ before (viewed made) (pairs_view (drop i bs))
copy_more bs i b made made' name d lt is more same copied =
    added made made' b.0 name d more same (pairs_view (drop (i + 1) bs))
    ∙ ap (λ (x : Rows). before (viewed made) (column (string_bytes b.0) x (pairs_view (drop (i + 1) bs)))) copied
    ∙ sym (ap (λ (xs : List Field). before (viewed made) (pairs_view xs)) (next_builder bs i b lt is))

pub copy_end : (bs : List Field) (i : ℕ) (made : List (String Global × Column)) → length bs ≤ i → before (viewed made) (pairs_view (drop i bs)) ≡ columns_in made
copy_end bs i made l = ap (λ (xs : List Field). before (viewed made) (pairs_view xs)) (drop_all i bs l) ∙ before-none (viewed made)

-- ---- sizes

pub next_builder_size : (bs : List Field) (i from to : ℕ) (b : Field) → i < length bs → b ≡ get_or bs i b
    → fields_plain_size (field_parts from to (pairs_view (drop i bs))) ≡ plain_size (part from to (builder_view b.1)) + fields_plain_size (field_parts from to (pairs_view (drop (i + 1) bs)))
next_builder_size bs i from to b lt is = ap (λ (xs : List Field). fields_plain_size (field_parts from to (pairs_view xs))) (next_builder bs i b lt is)

pub past_builder_size : (bs : List Field) (i from to : ℕ) → length bs ≤ i → fields_plain_size (field_parts from to (pairs_view (drop i bs))) ≡ 0
past_builder_size bs i from to l = ap (λ (xs : List Field). fields_plain_size (field_parts from to (pairs_view xs))) (drop_all i bs l)

pub ruleset builder_sizes = (next_builder_size, past_builder_size)
