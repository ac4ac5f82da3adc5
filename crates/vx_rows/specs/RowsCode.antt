-- Columns as trees of numbers, by which a proof tells them apart.
use Rattle.std.specs.Prelude.{◌≡◌, ℕ, ℤ, Bool, List, Option, refl}
use Rattle.std.proofs.Common.{ap, ap₂}
use Rattle.std.specs.Coded.{Coded, code_by, coded×, coded_ℕ, coded_ℤ, coded_bool, coded_list, coded_option}
use base.Stored.{Gv, gnil, gnum, gcons}
use Rattle.vx_data.specs.contracts.ptype.PType as ptype
use Rattle.vx_data.specs.declared.ptype.PType.{PType}
use Rattle.vx_rows.specs.Columns.{Bools, Ints, Texts, Structs}
use Rattle.vx_rows.specs.Rows.{Rows, FieldRows, bools, ints, texts, structs, no_columns, column}

abbrev pub bools_code : Coded Bools
bools_code =
    code_by (Bool × List (Option Bool)) (coded× coded_bool (coded_list (coded_option coded_bool))) (λ c. (c.nullable, c.rows))
    (λ p. record { nullable = p.0; rows = p.1 }) (λ _. refl)

abbrev pub ints_code : Coded Ints
ints_code =
    code_by (PType × (Bool × List (Option ℤ))) (coded× (ptype.the_row).coded (coded× coded_bool (coded_list (coded_option coded_ℤ))))
    (λ c. (c.ptype, (c.nullable, c.rows)))
    (λ p. record { ptype = p.0; nullable = p.1.0; rows = p.1.1 }) (λ _. refl)

abbrev pub texts_code : Coded Texts
texts_code =
    code_by (Bool × List (Option (List ℕ))) (coded× coded_bool (coded_list (coded_option (coded_list coded_ℕ))))
    (λ c. (c.nullable, c.rows)) (λ p. record { nullable = p.0; rows = p.1 }) (λ _. refl)

abbrev pub structs_code : Coded Structs
structs_code =
    code_by (Bool × List Bool) (coded× coded_bool (coded_list coded_bool)) (λ c. (c.nullable, c.present))
    (λ p. record { nullable = p.0; present = p.1 }) (λ _. refl)

abbrev pub name_code : Coded (List ℕ)
name_code = coded_list coded_ℕ

abbrev mutual
  pub rows_to : Rows → Gv
  rows_to (bools c) = gcons (gnum 0) (bools_code.code c)
  rows_to (ints c) = gcons (gnum 1) (ints_code.code c)
  rows_to (texts c) = gcons (gnum 2) (texts_code.code c)
  rows_to (structs c cs) = gcons (gnum 3) (gcons (structs_code.code c) (fields_to cs))

  pub fields_to : FieldRows → Gv
  fields_to no_columns = gnil
  fields_to (column name c cs) = gcons (name_code.code name) (gcons (rows_to c) (fields_to cs))

abbrev head : Gv → Gv
head gnil = gnil
head (gnum n) = gnil
head (gcons a b) = a

abbrev tail : Gv → Gv
tail gnil = gnil
tail (gnum n) = gnil
tail (gcons a b) = b

mutual
  pub rows_back : (x y : Rows) → rows_to x ≡ rows_to y → x ≡ y
  rows_back (bools c) (bools d) e = ap bools (bools_code.inj c d (ap tail e))
  rows_back (bools c) (ints d) e = cc
  rows_back (bools c) (texts d) e = cc
  rows_back (bools c) (structs d ds) e = cc
  rows_back (ints c) (bools d) e = cc
  rows_back (ints c) (ints d) e = ap ints (ints_code.inj c d (ap tail e))
  rows_back (ints c) (texts d) e = cc
  rows_back (ints c) (structs d ds) e = cc
  rows_back (texts c) (bools d) e = cc
  rows_back (texts c) (ints d) e = cc
  rows_back (texts c) (texts d) e = ap texts (texts_code.inj c d (ap tail e))
  rows_back (texts c) (structs d ds) e = cc
  rows_back (structs c cs) (bools d) e = cc
  rows_back (structs c cs) (ints d) e = cc
  rows_back (structs c cs) (texts d) e = cc
  rows_back (structs c cs) (structs d ds) e = ap₂ structs (structs_code.inj c d (ap (λ g. head (tail g)) e)) (fields_back cs ds (ap (λ g. tail (tail g)) e))

  pub fields_back : (xs ys : FieldRows) → fields_to xs ≡ fields_to ys → xs ≡ ys
  fields_back no_columns no_columns e = refl
  fields_back no_columns (column name c cs) e = cc
  fields_back (column name c cs) no_columns e = cc
  fields_back (column m c cs) (column n d ds) e =
      let name = name_code.inj m n (ap head e) in
      let first = rows_back c d (ap (λ g. head (tail g)) e) in
      let rest = fields_back cs ds (ap (λ g. tail (tail g)) e) in
      λ i. column (name i) (first i) (rest i)

abbrev pub rows_code : Coded Rows
rows_code = record { code = rows_to; inj = rows_back }
