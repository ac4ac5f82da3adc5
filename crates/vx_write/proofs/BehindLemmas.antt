-- The rows that were put behind others, and parts that meet.
use Rattle.std.proofs.Common.{◌≡◌, ℕ, ◌+◌, ◌-◌, ◌≤◌, List, ◌++◌, length, take, drop, refl, ap, ap₂, sym, ◌∙◌, arith}
use Rattle.std.specs.Prelude.{slice_range}
use Rattle.std.proofs.lemmas.List.{take_all, drop_at}
use Rattle.vx_rows.specs.Rows.{Rows, FieldRows, bools, ints, texts, structs, no_columns, column, dtype_of, types_of, HasRows, AllHaveRows}
use Rattle.vx_rows.specs.Parts.{part, field_parts, appended, fields_appended}
use Rattle.vx_data.specs.Dtype.{Dtype, FieldList, field}
use Rattle.vx_rows.proofs.ColumnLaws.{first-type, rest-types, fields-same, struct-null, bool-null, text-null, int-null, int-type, parts_again, part_of_part, part_rows, front_again, appended_rows}
use Rattle.vx_write.proofs.CutLemmas.{SameRows}

back-kept : {A : Type 0} → (xs ys : List A) (n m : ℕ) → length xs ≡ n → length ys ≡ m → slice_range (xs ++ ys) n (n + m) ≡ ys
back-kept xs ys n m e f =
    let k : n + m - n ≡ m = omega arith in
    ap (λ j. take j (drop n (xs ++ ys))) k ∙ ap (take m) (drop_at xs ys n e) ∙ take_all m ys (omega (arith, f))

pub first-name : (a b : List ℕ) (c d : Dtype) (cs ds : FieldList) → field a c cs ≡ field b d ds → a ≡ b
first-name a b c d cs ds e = cc

mutual
  -- the rows that were put behind others
  pub back_again : (n m : ℕ) (c d : Rows) → dtype_of c ≡ dtype_of d → HasRows n c → HasRows m d → part n (n + m) (appended c d) ≡ d
  back_again n m (bools c) (bools d) t e f =
      let null = bool-null c.nullable d.nullable t in
      let rows = back-kept c.rows d.rows n m e f in
      λ i. bools (record { nullable = null i; rows = rows i })
  back_again n m (bools c) (ints d) t e f = cc
  back_again n m (bools c) (texts d) t e f = cc
  back_again n m (bools c) (structs d ds) t e f = cc
  back_again n m (ints c) (bools d) t e f = cc
  back_again n m (ints c) (ints d) t e f =
      let kind = int-type c.ptype d.ptype c.nullable d.nullable t in
      let null = int-null c.ptype d.ptype c.nullable d.nullable t in
      let rows = back-kept c.rows d.rows n m e f in
      λ i. ints (record { ptype = kind i; nullable = null i; rows = rows i })
  back_again n m (ints c) (texts d) t e f = cc
  back_again n m (ints c) (structs d ds) t e f = cc
  back_again n m (texts c) (bools d) t e f = cc
  back_again n m (texts c) (ints d) t e f = cc
  back_again n m (texts c) (texts d) t e f =
      let null = text-null c.nullable d.nullable t in
      let rows = back-kept c.rows d.rows n m e f in
      λ i. texts (record { nullable = null i; rows = rows i })
  back_again n m (texts c) (structs d ds) t e f = cc
  back_again n m (structs c cs) (bools d) t e f = cc
  back_again n m (structs c cs) (ints d) t e f = cc
  back_again n m (structs c cs) (texts d) t e f = cc
  back_again n m (structs c cs) (structs d ds) t e f =
      let null = struct-null (types_of cs) (types_of ds) c.nullable d.nullable t in
      let rows = back-kept c.present d.present n m e.0 f.0 in
      let rest = backs_again n m cs ds (fields-same (types_of cs) (types_of ds) c.nullable d.nullable t) e.1 f.1 in
      λ i. structs (record { nullable = null i; present = rows i }) (rest i)

  pub backs_again : (n m : ℕ) (cs ds : FieldRows) → types_of cs ≡ types_of ds → AllHaveRows n cs → AllHaveRows m ds → field_parts n (n + m) (fields_appended cs ds) ≡ ds
  backs_again n m no_columns no_columns t e f = refl
  backs_again n m no_columns (column name d ds) t e f = cc
  backs_again n m (column name c cs) no_columns t e f = cc
  backs_again n m (column name c cs) (column other d ds) t e f =
      let same = first-name name other (dtype_of c) (dtype_of d) (types_of cs) (types_of ds) t in
      let here = back_again n m c d (first-type name other (dtype_of c) (dtype_of d) (types_of cs) (types_of ds) t) e.0 f.0 in
      let rest = backs_again n m cs ds (rest-types name other (dtype_of c) (dtype_of d) (types_of cs) (types_of ds) t) e.1 f.1 in
      λ i. column (same i) (here i) (rest i)

-- ---- the same rows in another column

pub front_same : (n : ℕ) (c d : Rows) → HasRows n c → SameRows 0 n (appended c d) c
front_same n c d h = record {
  same = λ a b o l. sym (ap (part a b) (sym (front_again n c d h)) ∙ part_of_part 0 n a b (appended c d) o (omega (arith, l)));
}

pub back_same : (n m : ℕ) (c d : Rows) → dtype_of c ≡ dtype_of d → HasRows n c → HasRows m d → SameRows n m (appended c d) d
back_same n m c d t h k = record {
  same = λ a b o l. sym (ap (part a b) (sym (back_again n m c d t h k)) ∙ part_of_part n (n + m) a b (appended c d) o (omega (arith, l)));
}

pub part_same : (from to : ℕ) (c : Rows) → SameRows from (to - from) c (part from to c)
part_same from to c = record { same = λ a b o l. sym (part_of_part from to a b c o l) }

-- ---- parts that meet

pub parts_meet : (n from at to : ℕ) (c : Rows) → HasRows n c → from ≤ at → at ≤ to → to ≤ n → appended (part from at c) (part at to c) ≡ part from to c
parts_meet n from at to c h o p l =
    let whole = part_rows n from to c (omega (arith, o, p)) l h in
    let a : from + 0 ≡ from = omega arith in
    let b : from + (at - from) ≡ at = omega (arith, o) in
    let e : from + (to - from) ≡ to = omega (arith, o, p) in
    let front : part 0 (at - from) (part from to c) ≡ part from at c = part_of_part from to 0 (at - from) c (omega arith) (omega (arith, p)) ∙ ap₂ (λ x y. part x y c) a b in
    let back : part (at - from) (to - from) (part from to c) ≡ part at to c = part_of_part from to (at - from) (to - from) c (omega (arith, p)) (omega arith) ∙ ap₂ (λ x y. part x y c) b e in
    ap₂ appended (sym front) (sym back) ∙ parts_again (to - from) (at - from) (part from to c) (omega (arith, p)) whole

-- a part that goes on in the rows behind
pub part_goes_on : (n m from to : ℕ) (c d : Rows) → dtype_of c ≡ dtype_of d → HasRows n c → HasRows m d → from ≤ n → to ≤ m
    → appended (part from n c) (part 0 to d) ≡ part from (n + to) (appended c d)
part_goes_on n m from to c d t h k o l =
    let both = appended_rows n m c d t h k in
    let a : n + 0 ≡ n = omega arith in
    let x : 0 + from ≡ from = omega arith in
    let y : 0 + n ≡ n = omega arith in
    let front : part from n c ≡ part from n (appended c d) = sym ((front_same n c d h).same from n o (omega arith)) ∙ ap₂ (λ i j. part i j (appended c d)) x y in
    let back : part 0 to d ≡ part n (n + to) (appended c d) = sym ((back_same n m c d t h k).same 0 to (omega arith) l) ∙ ap (λ x. part x (n + to) (appended c d)) a in
    ap₂ appended front back ∙ parts_meet (n + m) from n (n + to) (appended c d) both o (omega arith) (omega (arith, l))
