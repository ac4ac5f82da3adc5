-- Columns behind one another: what comes behind both, and columns without rows.
use Rattle.std.proofs.Common.{◌≡◌, suc, ◌+◌, false, List, [], ◌∷◌, ◌++◌, length, Some, None, refl, sym, ap, ap₂, ◌∙◌, arith, append_assoc, length-append}
use Rattle.std.proofs.lemmas.List.{append-nil, map-append, nil_from_length}
use Rattle.vx_rows.specs.Columns.{Structs}
use Rattle.vx_rows.specs.Rows.{Rows, FieldRows, bools, ints, texts, structs, no_columns, column, dtype_of, types_of, HasRows, AllHaveRows}
use Rattle.vx_rows.specs.Parts.{appended, fields_appended, presence}
use Rattle.vx_rows.specs.ReadRows.{no_rows, no_rows_each}
use Rattle.vx_rows.proofs.ColumnLaws.{first-type, rest-types, fields-same}
use Rattle.vx_write.specs.Plans.{PlanTree, PlanList, a_leaf, a_struct, no_plans, a_plan, IsFor, AreFor, columns_of, columns_in}

-- ---- what comes behind both

mutual
  pub appended_behind : (a b c : Rows) → dtype_of a ≡ dtype_of b → dtype_of b ≡ dtype_of c → appended a (appended b c) ≡ appended (appended a b) c
  appended_behind (bools x) (bools y) (bools z) s t = ap (λ rows. bools (record { nullable = x.nullable; rows = rows })) (sym (append_assoc x.rows y.rows z.rows))
  appended_behind (bools x) (bools y) (ints z) s t = cc
  appended_behind (bools x) (bools y) (texts z) s t = cc
  appended_behind (bools x) (bools y) (structs z zs) s t = cc
  appended_behind (bools x) (ints y) z s t = cc
  appended_behind (bools x) (texts y) z s t = cc
  appended_behind (bools x) (structs y ys) z s t = cc
  appended_behind (ints x) (bools y) z s t = cc
  appended_behind (ints x) (ints y) (bools z) s t = cc
  appended_behind (ints x) (ints y) (ints z) s t = ap (λ rows. ints (record { ptype = x.ptype; nullable = x.nullable; rows = rows })) (sym (append_assoc x.rows y.rows z.rows))
  appended_behind (ints x) (ints y) (texts z) s t = cc
  appended_behind (ints x) (ints y) (structs z zs) s t = cc
  appended_behind (ints x) (texts y) z s t = cc
  appended_behind (ints x) (structs y ys) z s t = cc
  appended_behind (texts x) (bools y) z s t = cc
  appended_behind (texts x) (ints y) z s t = cc
  appended_behind (texts x) (texts y) (bools z) s t = cc
  appended_behind (texts x) (texts y) (ints z) s t = cc
  appended_behind (texts x) (texts y) (texts z) s t = ap (λ rows. texts (record { nullable = x.nullable; rows = rows })) (sym (append_assoc x.rows y.rows z.rows))
  appended_behind (texts x) (texts y) (structs z zs) s t = cc
  appended_behind (texts x) (structs y ys) z s t = cc
  appended_behind (structs x xs) (bools y) z s t = cc
  appended_behind (structs x xs) (ints y) z s t = cc
  appended_behind (structs x xs) (texts y) z s t = cc
  appended_behind (structs x xs) (structs y ys) (bools z) s t = cc
  appended_behind (structs x xs) (structs y ys) (ints z) s t = cc
  appended_behind (structs x xs) (structs y ys) (texts z) s t = cc
  appended_behind (structs x xs) (structs y ys) (structs z zs) s t =
      ap₂ (λ present cs. structs (record { nullable = x.nullable; present = present }) cs) (sym (append_assoc x.present y.present z.present))
      (fields_behind xs ys zs (fields-same (types_of xs) (types_of ys) x.nullable y.nullable s) (fields-same (types_of ys) (types_of zs) y.nullable z.nullable t))

  fields_behind : (a b c : FieldRows) → types_of a ≡ types_of b → types_of b ≡ types_of c → fields_appended a (fields_appended b c) ≡ fields_appended (fields_appended a b) c
  fields_behind no_columns b c s t = refl
  fields_behind (column n x xs) no_columns c s t = cc
  fields_behind (column n x xs) (column m y ys) no_columns s t = cc
  fields_behind (column n x xs) (column m y ys) (column l z zs) s t =
      ap₂ (column n)
      (appended_behind x y z (first-type n m (dtype_of x) (dtype_of y) (types_of xs) (types_of ys) s) (first-type m l (dtype_of y) (dtype_of z) (types_of ys) (types_of zs) t))
      (fields_behind xs ys zs (rest-types n m (dtype_of x) (dtype_of y) (types_of xs) (types_of ys) s) (rest-types m l (dtype_of y) (dtype_of z) (types_of ys) (types_of zs) t))

-- ---- no rows behind

mutual
  pub none_behind : (c : Rows) → appended c (no_rows (dtype_of c)) ≡ c
  none_behind (bools c) = ap (λ rows. bools (record { nullable = c.nullable; rows = rows })) (append-nil c.rows)
  none_behind (ints c) = ap (λ rows. ints (record { ptype = c.ptype; nullable = c.nullable; rows = rows })) (append-nil c.rows)
  none_behind (texts c) = ap (λ rows. texts (record { nullable = c.nullable; rows = rows })) (append-nil c.rows)
  none_behind (structs c cs) = ap₂ (λ present ds. structs (record { nullable = c.nullable; present = present }) ds) (append-nil c.present) (none_behind_each cs)

  none_behind_each : (cs : FieldRows) → fields_appended cs (no_rows_each (types_of cs)) ≡ cs
  none_behind_each no_columns = refl
  none_behind_each (column name c cs) = ap₂ (column name) (none_behind c) (none_behind_each cs)

mutual
  pub has_none : (c : Rows) → HasRows 0 c → no_rows (dtype_of c) ≡ c
  has_none (bools c) h = ap (λ rows. bools (record { nullable = c.nullable; rows = rows })) (sym (nil_from_length c.rows h))
  has_none (ints c) h = ap (λ rows. ints (record { ptype = c.ptype; nullable = c.nullable; rows = rows })) (sym (nil_from_length c.rows h))
  has_none (texts c) h = ap (λ rows. texts (record { nullable = c.nullable; rows = rows })) (sym (nil_from_length c.rows h))
  has_none (structs c cs) h = ap₂ (λ present ds. structs (record { nullable = c.nullable; present = present }) ds) (sym (nil_from_length c.present h.0)) (all_have_none cs h.1)

  all_have_none : (cs : FieldRows) → AllHaveRows 0 cs → no_rows_each (types_of cs) ≡ cs
  all_have_none no_columns h = refl
  all_have_none (column name c cs) h = ap₂ (column name) (has_none c h.0) (all_have_none cs h.1)

-- ---- the columns of leaves

-- columns, and others behind them
abbrev pub zipped : List Rows → List Rows → List Rows
zipped [] bs = []
zipped (a ∷ as_) [] = []
zipped (a ∷ as_) (b ∷ bs) = appended a b ∷ zipped as_ bs

zipped_both : (xs us ys vs : List Rows) → length xs ≡ length us → zipped (xs ++ ys) (us ++ vs) ≡ zipped xs us ++ zipped ys vs
zipped_both [] [] ys vs e = refl
zipped_both [] (u ∷ us) ys vs e = absurd (omega (arith, e))
zipped_both (x ∷ xs) [] ys vs e = absurd (omega (arith, e))
zipped_both (x ∷ xs) (u ∷ us) ys vs e = ap (λ cs. appended x u ∷ cs) (zipped_both xs us ys vs (omega (arith, e)))

presence_both : (c d : Structs) → presence (record { nullable = c.nullable; present = c.present ++ d.present }) ≡ appended (presence c) (presence d)
presence_both c d = ap (λ rows. bools (record { nullable = false; rows = rows })) (map-append Some c.present d.present)

mutual
  -- a type has as many columns of leaves
  same_many : (p : PlanTree) (a b : Rows) → IsFor p (dtype_of a) → dtype_of a ≡ dtype_of b → length (columns_of p a) ≡ length (columns_of p b)
  same_many (a_leaf s) a b fit t = refl
  same_many (a_struct v ps) (bools a) b fit t = absurd fit
  same_many (a_struct v ps) (ints a) b fit t = absurd fit
  same_many (a_struct v ps) (texts a) b fit t = absurd fit
  same_many (a_struct v ps) (structs a as_) (bools b) fit t = cc
  same_many (a_struct v ps) (structs a as_) (ints b) fit t = cc
  same_many (a_struct v ps) (structs a as_) (texts b) fit t = cc
  same_many (a_struct None ps) (structs a as_) (structs b bs) fit t = all_many ps as_ bs fit.2 (fields-same (types_of as_) (types_of bs) a.nullable b.nullable t)
  same_many (a_struct (Some s) ps) (structs a as_) (structs b bs) fit t = ap suc (all_many ps as_ bs fit.2 (fields-same (types_of as_) (types_of bs) a.nullable b.nullable t))

  all_many : (ps : PlanList) (as_ bs : FieldRows) → AreFor ps (types_of as_) → types_of as_ ≡ types_of bs → length (columns_in ps as_) ≡ length (columns_in ps bs)
  all_many no_plans as_ bs fit t = refl
  all_many (a_plan p ps) no_columns no_columns fit t = refl
  all_many (a_plan p ps) no_columns (column m b bs) fit t = cc
  all_many (a_plan p ps) (column n a as_) no_columns fit t = cc
  all_many (a_plan p ps) (column n a as_) (column m b bs) fit t =
      let first = same_many p a b fit.0 (first-type n m (dtype_of a) (dtype_of b) (types_of as_) (types_of bs) t) in
      let rest = all_many ps as_ bs fit.1 (rest-types n m (dtype_of a) (dtype_of b) (types_of as_) (types_of bs) t) in
      omega (arith, first, rest, length-append (columns_of p a) (columns_in ps as_), length-append (columns_of p b) (columns_in ps bs))

mutual
  pub columns_both : (p : PlanTree) (a b : Rows) → IsFor p (dtype_of a) → dtype_of a ≡ dtype_of b → columns_of p (appended a b) ≡ zipped (columns_of p a) (columns_of p b)
  columns_both (a_leaf s) a b fit t = refl
  columns_both (a_struct v ps) (bools a) b fit t = absurd fit
  columns_both (a_struct v ps) (ints a) b fit t = absurd fit
  columns_both (a_struct v ps) (texts a) b fit t = absurd fit
  columns_both (a_struct v ps) (structs a as_) (bools b) fit t = cc
  columns_both (a_struct v ps) (structs a as_) (ints b) fit t = cc
  columns_both (a_struct v ps) (structs a as_) (texts b) fit t = cc
  columns_both (a_struct None ps) (structs a as_) (structs b bs) fit t = all_both ps as_ bs fit.2 (fields-same (types_of as_) (types_of bs) a.nullable b.nullable t)
  columns_both (a_struct (Some s) ps) (structs a as_) (structs b bs) fit t =
      ap₂ (λ x xs. x ∷ xs) (presence_both a b) (all_both ps as_ bs fit.2 (fields-same (types_of as_) (types_of bs) a.nullable b.nullable t))

  all_both : (ps : PlanList) (as_ bs : FieldRows) → AreFor ps (types_of as_) → types_of as_ ≡ types_of bs → columns_in ps (fields_appended as_ bs) ≡ zipped (columns_in ps as_) (columns_in ps bs)
  all_both no_plans as_ bs fit t = refl
  all_both (a_plan p ps) no_columns no_columns fit t = refl
  all_both (a_plan p ps) no_columns (column m b bs) fit t = cc
  all_both (a_plan p ps) (column n a as_) no_columns fit t = cc
  all_both (a_plan p ps) (column n a as_) (column m b bs) fit t =
      let same = first-type n m (dtype_of a) (dtype_of b) (types_of as_) (types_of bs) t in
      let first = columns_both p a b fit.0 same in
      let rest = all_both ps as_ bs fit.1 (rest-types n m (dtype_of a) (dtype_of b) (types_of as_) (types_of bs) t) in
      ap₂ (λ x y. x ++ y) first rest ∙ sym (zipped_both (columns_of p a) (columns_of p b) (columns_in ps as_) (columns_in ps bs) (same_many p a b fit.0 same))
