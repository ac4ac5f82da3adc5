-- Rows that come behind others.
use Rattle.std.proofs.Common.{◌≡◌, ℕ, zero, suc, ◌-◌, ◌≤◌, List, [], ◌∷◌, length, take, refl, ap, ap₂, sym, ◌∙◌, subst, arith}
use Rattle.std.specs.Prelude.{slice_range}
use Rattle.vx_data.specs.Dtype.{Dtype}
use Rattle.vx_rows.specs.Rows.{Rows, FieldRows, bools, ints, texts, structs, no_columns, column, rows_len, dtype_of, types_of, IsColumn}
use Rattle.vx_rows.specs.Parts.{part, appended, fields_appended}
use Rattle.vx_rows.specs.ReadRows.{no_rows, no_rows_each}
use Rattle.vx_rows.proofs.ColumnLaws.{column_rows, part_type, part_of_part, front_again, all-kept}

-- ---- no rows before others

mutual
  pub none_first : (c : Rows) → appended (no_rows (dtype_of c)) c ≡ c
  none_first (bools c) = refl
  none_first (ints c) = refl
  none_first (texts c) = refl
  none_first (structs c cs) = ap (structs c) (none_each cs)

  pub none_each : (cs : FieldRows) → fields_appended (no_rows_each (types_of cs)) cs ≡ cs
  none_each no_columns = refl
  none_each (column name c cs) = ap₂ (column name) (none_first c) (none_each cs)

pub copied : (d : Dtype) (c copy start : Rows) (from to : ℕ) → copy ≡ appended start (part from to c) → start ≡ no_rows d → d ≡ dtype_of c → copy ≡ part from to c
copied d c copy start from to more none typed =
    more ∙ ap (λ (x : Rows). appended x (part from to c)) (none ∙ ap no_rows (typed ∙ sym (part_type from to c))) ∙ none_first (part from to c)

-- ---- numbers of rows

front-most : {A : Type 0} → (xs : List A) (n : ℕ) → length (slice_range xs 0 n) ≤ length xs
front-most xs n = let e : n - 0 ≡ n = omega arith in subst (λ (k : ℕ). length (take k xs) ≤ length xs) (sym e) (take-most n xs)
  where
    take-most : {A : Type 0} → (k : ℕ) (xs : List A) → length (take k xs) ≤ length xs
    take-most zero xs = omega arith
    take-most (suc k) [] = omega arith
    take-most (suc k) (x ∷ xs) = let h = take-most k xs in omega (arith, h)

pub part_most : (c : Rows) (n : ℕ) → rows_len (part 0 n c) ≤ rows_len c
part_most (bools c) n = front-most c.rows n
part_most (ints c) n = front-most c.rows n
part_most (texts c) n = front-most c.rows n
part_most (structs c cs) n = front-most c.present n

-- ---- rows behind others

-- the rows that were there are there
pub still_same : (c e : Rows) → IsColumn (rows_len c) c → e ≡ c → part 0 (rows_len c) e ≡ c
still_same c e h same = ap (part 0 (rows_len c)) same ∙ all-kept c (rows_len c) (column_rows (rows_len c) c h)

pub still_more : (c d e : Rows) → IsColumn (rows_len c) c → e ≡ appended c d → part 0 (rows_len c) e ≡ c
still_more c d e h more = ap (part 0 (rows_len c)) more ∙ front_again (rows_len c) c d (column_rows (rows_len c) c h)

-- and where more came twice
pub still_twice : (c d e : Rows) → part 0 (rows_len c) d ≡ c → part 0 (rows_len d) e ≡ d → part 0 (rows_len c) e ≡ c
still_twice c d e first second =
    let long = ap rows_len first in
    let most = part_most d (rows_len c) in
    let here : part 0 (rows_len c) (part 0 (rows_len d) e) ≡ part 0 (rows_len c) e =
    part_of_part 0 (rows_len d) 0 (rows_len c) e (omega arith) (omega (arith, long, most)) ∙ ap₂ (λ a b. part a b e) (omega arith) (omega arith) in
    sym here ∙ ap (part 0 (rows_len c)) second ∙ first

-- all rows of a column
pub whole_part : (c : Rows) (n : ℕ) → n ≡ rows_len c → IsColumn (rows_len c) c → part 0 n c ≡ c
whole_part c n e h = ap (λ k. part 0 k c) e ∙ all-kept c (rows_len c) (column_rows (rows_len c) c h)
