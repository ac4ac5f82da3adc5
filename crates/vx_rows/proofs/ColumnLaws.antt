-- What holds of parts of columns, and of columns behind one another.
use Rattle.std.proofs.Common.{◌≡◌, ℕ, ℤ, zero, suc, ◌+◌, ◌-◌, ◌≤◌, Bool, true, false, List, [], ◌∷◌, ◌++◌, length, take, drop, Option, is_some, refl, ap, sym, ◌∙◌, subst, arith, length-append}
use Rattle.std.specs.Prelude.{slice_range, ◌||◌, ◌&&◌, IfSome}
use Rattle.std.specs.List.{list_all}
use Rattle.std.specs.Str.{IsUtf8}
use Rattle.std.proofs.lemmas.List.{length-drop, length-take-le, take_all, drop_all, drop-take, take-append-drop}
use Rattle.std.proofs.Math.Seq.{take-append_seam}
use Rattle.std.proofs.lemmas.Bool.{false≢true}
use Rattle.std.proofs.lemmas.List.Elements.{All-take, All-drop, All-append}
use Rattle.vx_data.specs.declared.ptype.PType.{PType}
use Rattle.vx_data.specs.Dtype.{Dtype, FieldList, bool, int, text, struct, field}
use Rattle.vx_rows.specs.Written.{is_within}
use Rattle.vx_rows.specs.Rows.{Rows, FieldRows, bools, ints, texts, structs, no_columns, column, rows_len, dtype_of, types_of, HasRows, AllHaveRows, IsColumn, AreColumns, AreWithin}
use Rattle.vx_rows.specs.Parts.{part, field_parts, appended, fields_appended}

-- ---- parts of equal types

pub first-type : (a b : List ℕ) (c d : Dtype) (cs ds : FieldList) → field a c cs ≡ field b d ds → c ≡ d
first-type a b c d cs ds e = cc

pub rest-types : (a b : List ℕ) (c d : Dtype) (cs ds : FieldList) → field a c cs ≡ field b d ds → cs ≡ ds
rest-types a b c d cs ds e = cc

pub fields-same : (cs ds : FieldList) (a b : Bool) → struct cs a ≡ struct ds b → cs ≡ ds
fields-same cs ds a b e = cc

pub struct-null : (cs ds : FieldList) (a b : Bool) → struct cs a ≡ struct ds b → a ≡ b
struct-null cs ds a b e = cc

pub bool-null : (a b : Bool) → bool a ≡ bool b → a ≡ b
bool-null a b e = cc

pub text-null : (a b : Bool) → text a ≡ text b → a ≡ b
text-null a b e = cc

pub int-null : (p q : PType) (a b : Bool) → int p a ≡ int q b → a ≡ b
int-null p q a b e = cc

pub int-type : (p q : PType) (a b : Bool) → int p a ≡ int q b → p ≡ q
int-type p q a b e = cc

-- ---- types

mutual
  pub part_type : (from to : ℕ) (c : Rows) → dtype_of (part from to c) ≡ dtype_of c
  part_type from to (bools c) = refl
  part_type from to (ints c) = refl
  part_type from to (texts c) = refl
  part_type from to (structs c cs) = ap (λ fs. struct fs c.nullable) (part_types from to cs)

  pub part_types : (from to : ℕ) (cs : FieldRows) → types_of (field_parts from to cs) ≡ types_of cs
  part_types from to no_columns = refl
  part_types from to (column name c cs) = ap (λ d. field name d (types_of (field_parts from to cs))) (part_type from to c) ∙ ap (field name (dtype_of c)) (part_types from to cs)

mutual
  pub appended_type : (c d : Rows) → dtype_of (appended c d) ≡ dtype_of c
  appended_type (bools c) (bools d) = refl
  appended_type (bools c) (ints d) = refl
  appended_type (bools c) (texts d) = refl
  appended_type (bools c) (structs d ds) = refl
  appended_type (ints c) (bools d) = refl
  appended_type (ints c) (ints d) = refl
  appended_type (ints c) (texts d) = refl
  appended_type (ints c) (structs d ds) = refl
  appended_type (texts c) (bools d) = refl
  appended_type (texts c) (ints d) = refl
  appended_type (texts c) (texts d) = refl
  appended_type (texts c) (structs d ds) = refl
  appended_type (structs c cs) (bools d) = refl
  appended_type (structs c cs) (ints d) = refl
  appended_type (structs c cs) (texts d) = refl
  appended_type (structs c cs) (structs d ds) = ap (λ fs. struct fs c.nullable) (appended_types cs ds)

  pub appended_types : (cs ds : FieldRows) → types_of (fields_appended cs ds) ≡ types_of cs
  appended_types no_columns no_columns = refl
  appended_types no_columns (column name d ds) = refl
  appended_types (column name c cs) no_columns = refl
  appended_types (column name c cs) (column other d ds) =
      ap (λ t. field name t (types_of (fields_appended cs ds))) (appended_type c d) ∙ ap (field name (dtype_of c)) (appended_types cs ds)

-- ---- numbers of rows

slice-long : {A : Type 0} → (xs : List A) (n from to : ℕ) → from ≤ to → to ≤ n → length xs ≡ n → length (slice_range xs from to) ≡ to - from
slice-long xs n from to o h e = let size = length-drop from xs in length-take-le (to - from) (drop from xs) (omega (arith, size, e, h))

mutual
  pub part_rows : (n from to : ℕ) (c : Rows) → from ≤ to → to ≤ n → HasRows n c → HasRows (to - from) (part from to c)
  part_rows n from to (bools c) o h e = slice-long c.rows n from to o h e
  part_rows n from to (ints c) o h e = slice-long c.rows n from to o h e
  part_rows n from to (texts c) o h e = slice-long c.rows n from to o h e
  part_rows n from to (structs c cs) o h e = (slice-long c.present n from to o h e.0, parts_rows n from to cs o h e.1)

  pub parts_rows : (n from to : ℕ) (cs : FieldRows) → from ≤ to → to ≤ n → AllHaveRows n cs → AllHaveRows (to - from) (field_parts from to cs)
  parts_rows n from to no_columns o h e = tt
  parts_rows n from to (column name c cs) o h e = (part_rows n from to c o h e.0, parts_rows n from to cs o h e.1)

both-long : {A : Type 0} → (xs ys : List A) (n m : ℕ) → length xs ≡ n → length ys ≡ m → length (xs ++ ys) ≡ n + m
both-long xs ys n m e f = let size = length-append xs ys in omega (arith, size, e, f)

mutual
  pub appended_rows : (n m : ℕ) (c d : Rows) → dtype_of c ≡ dtype_of d → HasRows n c → HasRows m d → HasRows (n + m) (appended c d)
  appended_rows n m (bools c) (bools d) t e f = both-long c.rows d.rows n m e f
  appended_rows n m (bools c) (ints d) t e f = cc
  appended_rows n m (bools c) (texts d) t e f = cc
  appended_rows n m (bools c) (structs d ds) t e f = cc
  appended_rows n m (ints c) (bools d) t e f = cc
  appended_rows n m (ints c) (ints d) t e f = both-long c.rows d.rows n m e f
  appended_rows n m (ints c) (texts d) t e f = cc
  appended_rows n m (ints c) (structs d ds) t e f = cc
  appended_rows n m (texts c) (bools d) t e f = cc
  appended_rows n m (texts c) (ints d) t e f = cc
  appended_rows n m (texts c) (texts d) t e f = both-long c.rows d.rows n m e f
  appended_rows n m (texts c) (structs d ds) t e f = cc
  appended_rows n m (structs c cs) (bools d) t e f = cc
  appended_rows n m (structs c cs) (ints d) t e f = cc
  appended_rows n m (structs c cs) (texts d) t e f = cc
  appended_rows n m (structs c cs) (structs d ds) t e f = (both-long c.present d.present n m e.0 f.0, all_appended_rows n m cs ds (fields-same _ _ _ _ t) e.1 f.1)

  pub all_appended_rows : (n m : ℕ) (cs ds : FieldRows) → types_of cs ≡ types_of ds → AllHaveRows n cs → AllHaveRows m ds → AllHaveRows (n + m) (fields_appended cs ds)
  all_appended_rows n m no_columns no_columns t e f = tt
  all_appended_rows n m no_columns (column name d ds) t e f = cc
  all_appended_rows n m (column name c cs) no_columns t e f = cc
  all_appended_rows n m (column name c cs) (column other d ds) t e f =
      (appended_rows n m c d (first-type _ _ _ _ _ _ t) e.0 f.0, all_appended_rows n m cs ds (rest-types _ _ _ _ _ _ t) e.1 f.1)

-- ---- columns

mutual
  -- a column has its rows
  pub column_rows : (n : ℕ) (c : Rows) → IsColumn n c → HasRows n c
  column_rows n (bools c) h = h.0
  column_rows n (ints c) h = h.0
  column_rows n (texts c) h = h.0
  column_rows n (structs c cs) h = (h.0, columns_rows n cs h.2)

  pub columns_rows : (n : ℕ) (cs : FieldRows) → AreColumns n cs → AllHaveRows n cs
  columns_rows n no_columns h = tt
  columns_rows n (column name c cs) h = (column_rows n c h.0, columns_rows n cs h.1)

pub rows_are : (n : ℕ) (c : Rows) → HasRows n c → rows_len c ≡ n
rows_are n (bools c) h = h
rows_are n (ints c) h = h
rows_are n (texts c) h = h
rows_are n (structs c cs) h = h.0

-- each row passes a test, in a part too
all-cut : {A : Type 0} → (f : A → Bool) (xs : List A) (n : ℕ) → list_all f xs ≡ true → (list_all f (take n xs) ≡ true) × (list_all f (drop n xs) ≡ true)
all-cut f [] zero h = (refl, refl)
all-cut f [] (suc n) h = (refl, refl)
all-cut f (x ∷ xs) zero h = (refl, h)
all-cut f (x ∷ xs) (suc n) h = by (f x) refl h (all-cut f xs n)
  where
    by : (b : Bool) → f x ≡ b → (b && list_all f xs) ≡ true → (list_all f xs ≡ true → (list_all f (take n xs) ≡ true) × (list_all f (drop n xs) ≡ true))
        → ((f x && list_all f (take n xs)) ≡ true) × (list_all f (drop n xs) ≡ true)
    by true e g rest = (ap (λ b. b && list_all f (take n xs)) e ∙ (rest g).0, (rest g).1)
    by false e g rest = absurd (false≢true g)

all-both : {A : Type 0} → (f : A → Bool) (xs ys : List A) → list_all f xs ≡ true → list_all f ys ≡ true → list_all f (xs ++ ys) ≡ true
all-both f [] ys h g = g
all-both f (x ∷ xs) ys h g = by (f x) refl h (λ k. all-both f xs ys k g)
  where
    by : (b : Bool) → f x ≡ b → (b && list_all f xs) ≡ true → (list_all f xs ≡ true → list_all f (xs ++ ys) ≡ true) → (f x && list_all f (xs ++ ys)) ≡ true
    by true e k rest = ap (λ b. b && list_all f (xs ++ ys)) e ∙ rest k
    by false e k rest = absurd (false≢true k)

-- where none may be null, none is
held-part : {A : Type 0} → (f : A → Bool) (nullable : Bool) (xs : List A) (from to : ℕ) → (nullable || list_all f xs) ≡ true → (nullable || list_all f (slice_range xs from to)) ≡ true
held-part f true xs from to h = refl
held-part f false xs from to h = (all-cut f (drop from xs) (to - from) (all-cut f xs from h).1).0

held-both : {A : Type 0} → (f : A → Bool) (nullable : Bool) (xs ys : List A) → (nullable || list_all f xs) ≡ true → (nullable || list_all f ys) ≡ true → (nullable || list_all f (xs ++ ys)) ≡ true
held-both f true xs ys h g = refl
held-both f false xs ys h g = all-both f xs ys h g

abbrev pub is-fit : PType → Option ℤ → Type 0
is-fit p row = IfSome row (λ value. is_within p value ≡ true)

abbrev pub is-utf8 : Option (List ℕ) → Type 0
is-utf8 row = IfSome row IsUtf8

mutual
  -- a part of a column is one
  pub part_is_column : (n from to : ℕ) (c : Rows) → from ≤ to → to ≤ n → IsColumn n c → IsColumn (to - from) (part from to c)
  part_is_column n from to (bools c) o h e = (slice-long c.rows n from to o h e.0, held-part is_some c.nullable c.rows from to e.1)
  part_is_column n from to (ints c) o h e = (
    slice-long c.rows n from to o h e.0,
    held-part is_some c.nullable c.rows from to e.1,
    All-take (is-fit c.ptype) (to - from) (drop from c.rows) (All-drop (is-fit c.ptype) from c.rows e.2),
  )
  part_is_column n from to (texts c) o h e = (
    slice-long c.rows n from to o h e.0,
    held-part is_some c.nullable c.rows from to e.1,
    All-take is-utf8 (to - from) (drop from c.rows) (All-drop is-utf8 from c.rows e.2),
  )
  part_is_column n from to (structs c cs) o h e = (
    slice-long c.present n from to o h e.0,
    held-part (λ b. b) c.nullable c.present from to e.1,
    parts_are_columns n from to cs o h e.2,
  )

  pub parts_are_columns : (n from to : ℕ) (cs : FieldRows) → from ≤ to → to ≤ n → AreColumns n cs → AreColumns (to - from) (field_parts from to cs)
  parts_are_columns n from to no_columns o h e = tt
  parts_are_columns n from to (column name c cs) o h e = (part_is_column n from to c o h e.0, parts_are_columns n from to cs o h e.1)

mutual
  -- columns of one type behind one another are one
  pub appended_is_column : (n m : ℕ) (c d : Rows) → dtype_of c ≡ dtype_of d → IsColumn n c → IsColumn m d → IsColumn (n + m) (appended c d)
  appended_is_column n m (bools c) (bools d) t e f = (
    both-long c.rows d.rows n m e.0 f.0,
    held-both is_some c.nullable c.rows d.rows e.1 (subst (λ b. (b || list_all is_some d.rows) ≡ true) (sym (bool-null _ _ t)) f.1),
  )
  appended_is_column n m (bools c) (ints d) t e f = cc
  appended_is_column n m (bools c) (texts d) t e f = cc
  appended_is_column n m (bools c) (structs d ds) t e f = cc
  appended_is_column n m (ints c) (bools d) t e f = cc
  appended_is_column n m (ints c) (ints d) t e f = (
    both-long c.rows d.rows n m e.0 f.0,
    held-both is_some c.nullable c.rows d.rows e.1 (subst (λ b. (b || list_all is_some d.rows) ≡ true) (sym (int-null _ _ _ _ t)) f.1),
    All-append (is-fit c.ptype) c.rows d.rows e.2 (subst (λ p. AreWithin p d.rows) (sym (int-type _ _ _ _ t)) f.2),
  )
  appended_is_column n m (ints c) (texts d) t e f = cc
  appended_is_column n m (ints c) (structs d ds) t e f = cc
  appended_is_column n m (texts c) (bools d) t e f = cc
  appended_is_column n m (texts c) (ints d) t e f = cc
  appended_is_column n m (texts c) (texts d) t e f = (
    both-long c.rows d.rows n m e.0 f.0,
    held-both is_some c.nullable c.rows d.rows e.1 (subst (λ b. (b || list_all is_some d.rows) ≡ true) (sym (text-null _ _ t)) f.1),
    All-append is-utf8 c.rows d.rows e.2 f.2,
  )
  appended_is_column n m (texts c) (structs d ds) t e f = cc
  appended_is_column n m (structs c cs) (bools d) t e f = cc
  appended_is_column n m (structs c cs) (ints d) t e f = cc
  appended_is_column n m (structs c cs) (texts d) t e f = cc
  appended_is_column n m (structs c cs) (structs d ds) t e f = (
    both-long c.present d.present n m e.0 f.0,
    held-both (λ b. b) c.nullable c.present d.present e.1 (subst (λ b. (b || list_all (λ x. x) d.present) ≡ true) (sym (struct-null _ _ _ _ t)) f.1),
    appended_are_columns n m cs ds (fields-same _ _ _ _ t) e.2 f.2,
  )

  pub appended_are_columns : (n m : ℕ) (cs ds : FieldRows) → types_of cs ≡ types_of ds → AreColumns n cs → AreColumns m ds → AreColumns (n + m) (fields_appended cs ds)
  appended_are_columns n m no_columns no_columns t e f = tt
  appended_are_columns n m no_columns (column name d ds) t e f = cc
  appended_are_columns n m (column name c cs) no_columns t e f = cc
  appended_are_columns n m (column name c cs) (column other d ds) t e f =
      (appended_is_column n m c d (first-type _ _ _ _ _ _ t) e.0 f.0, appended_are_columns n m cs ds (rest-types _ _ _ _ _ _ t) e.1 f.1)

-- ---- a column and its parts

from-start : {A : Type 0} → (xs : List A) (n : ℕ) → slice_range xs 0 n ≡ take n xs
from-start xs n = let e : n - 0 ≡ n = omega arith in ap (λ k. take k xs) e

cut-again : {A : Type 0} → (xs : List A) (k n : ℕ) → k ≤ n → length xs ≡ n → slice_range xs 0 k ++ slice_range xs k n ≡ xs
cut-again xs k n h e =
    let size = length-drop k xs in
    ap (λ ys. ys ++ slice_range xs k n) (from-start xs k) ∙ ap (λ ys. take k xs ++ ys) (take_all (n - k) (drop k xs) (omega (arith, size, e))) ∙ take-append-drop k xs

mutual
  -- the rows up to one, and behind them those from there on
  pub parts_again : (n k : ℕ) (c : Rows) → k ≤ n → HasRows n c → appended (part 0 k c) (part k n c) ≡ c
  parts_again n k (bools c) h e = ap (λ rows. bools (record { nullable = c.nullable; rows = rows })) (cut-again c.rows k n h e)
  parts_again n k (ints c) h e = ap (λ rows. ints (record { ptype = c.ptype; nullable = c.nullable; rows = rows })) (cut-again c.rows k n h e)
  parts_again n k (texts c) h e = ap (λ rows. texts (record { nullable = c.nullable; rows = rows })) (cut-again c.rows k n h e)
  parts_again n k (structs c cs) h e =
      ap (λ rows. structs (record { nullable = c.nullable; present = rows }) (fields_appended (field_parts 0 k cs) (field_parts k n cs))) (cut-again c.present k n h e.0)
      ∙ ap (structs c) (all_parts_again n k cs h e.1)

  pub all_parts_again : (n k : ℕ) (cs : FieldRows) → k ≤ n → AllHaveRows n cs → fields_appended (field_parts 0 k cs) (field_parts k n cs) ≡ cs
  all_parts_again n k no_columns h e = refl
  all_parts_again n k (column name c cs) h e =
      ap (λ (x : Rows). column name x (fields_appended (field_parts 0 k cs) (field_parts k n cs))) (parts_again n k c h e.0) ∙ ap (column name c) (all_parts_again n k cs h e.1)

pub drop-twice : {A : Type 0} → (a b : ℕ) (xs : List A) → drop b (drop a xs) ≡ drop (a + b) xs
drop-twice zero b xs = let e : b ≡ zero + b = omega arith in ap (λ n. drop n xs) e
drop-twice {A} (suc a) b [] = drop_all {X = A} b [] (omega arith) ∙ sym (drop_all {X = A} (suc a + b) [] (omega arith))
drop-twice (suc a) b (x ∷ xs) = let e : suc (a + b) ≡ suc a + b = omega arith in drop-twice a b xs ∙ ap (λ n. drop n (x ∷ xs)) e

pub take-twice : {A : Type 0} → (m k : ℕ) (xs : List A) → m ≤ k → take m (take k xs) ≡ take m xs
take-twice zero k xs h = refl
take-twice (suc m) zero xs h = absurd (omega (arith, h))
take-twice (suc m) (suc k) [] h = refl
take-twice (suc m) (suc k) (x ∷ xs) h = ap (λ ys. x ∷ ys) (take-twice m k xs (omega (arith, h)))

pub part-of-part : {A : Type 0} → (xs : List A) (a b from to : ℕ) → from ≤ to → to ≤ b - a → slice_range (slice_range xs a b) from to ≡ slice_range xs (a + from) (a + to)
part-of-part xs a b from to o h =
    let e : to - from ≡ a + to - (a + from) = omega (arith, o) in
    let size : b - a ≡ from + (b - a - from) = omega (arith, o, h) in
    ap (λ k. take (to - from) (drop from (take k (drop a xs)))) size
    ∙ ap (take (to - from)) (drop-take from (b - a - from) (drop a xs) ∙ ap (take (b - a - from)) (drop-twice a from xs))
    ∙ take-twice (to - from) (b - a - from) (drop (a + from) xs) (omega (arith, o, h))
    ∙ ap (λ k. take k (drop (a + from) xs)) e

mutual
  -- a part of a part is one of the whole
  pub part_of_part : (a b from to : ℕ) (c : Rows) → from ≤ to → to ≤ b - a → part from to (part a b c) ≡ part (a + from) (a + to) c
  part_of_part a b from to (bools c) o h = ap (λ rows. bools (record { nullable = c.nullable; rows = rows })) (part-of-part c.rows a b from to o h)
  part_of_part a b from to (ints c) o h = ap (λ rows. ints (record { ptype = c.ptype; nullable = c.nullable; rows = rows })) (part-of-part c.rows a b from to o h)
  part_of_part a b from to (texts c) o h = ap (λ rows. texts (record { nullable = c.nullable; rows = rows })) (part-of-part c.rows a b from to o h)
  part_of_part a b from to (structs c cs) o h =
      ap (λ rows. structs (record { nullable = c.nullable; present = rows }) (field_parts from to (field_parts a b cs))) (part-of-part c.present a b from to o h)
      ∙ ap (structs (record { nullable = c.nullable; present = slice_range c.present (a + from) (a + to) })) (parts_of_parts a b from to cs o h)

  pub parts_of_parts : (a b from to : ℕ) (cs : FieldRows) → from ≤ to → to ≤ b - a → field_parts from to (field_parts a b cs) ≡ field_parts (a + from) (a + to) cs
  parts_of_parts a b from to no_columns o h = refl
  parts_of_parts a b from to (column name c cs) o h =
      ap (λ (x : Rows). column name x (field_parts from to (field_parts a b cs))) (part_of_part a b from to c o h)
      ∙ ap (column name (part (a + from) (a + to) c)) (parts_of_parts a b from to cs o h)

-- ---- all rows of a column

whole : {A : Type 0} → (xs : List A) (n : ℕ) → length xs ≤ n → slice_range xs 0 n ≡ xs
whole xs n l = from-start xs n ∙ take_all n xs l

mutual
  pub all-kept : (c : Rows) (n : ℕ) → HasRows n c → part 0 n c ≡ c
  all-kept (bools c) n e = ap (λ rows. bools (record { nullable = c.nullable; rows = rows })) (whole c.rows n (omega (arith, e)))
  all-kept (ints c) n e = ap (λ rows. ints (record { ptype = c.ptype; nullable = c.nullable; rows = rows })) (whole c.rows n (omega (arith, e)))
  all-kept (texts c) n e = ap (λ rows. texts (record { nullable = c.nullable; rows = rows })) (whole c.rows n (omega (arith, e)))
  all-kept (structs c cs) n e =
      ap (λ rows. structs (record { nullable = c.nullable; present = rows }) (field_parts 0 n cs)) (whole c.present n (let h = e.0 in omega (arith, h)))
      ∙ ap (structs c) (all-kept-fields cs n e.1)

  pub all-kept-fields : (cs : FieldRows) (n : ℕ) → AllHaveRows n cs → field_parts 0 n cs ≡ cs
  all-kept-fields no_columns n e = refl
  all-kept-fields (column name c cs) n e = ap (λ (x : Rows). column name x (field_parts 0 n cs)) (all-kept c n e.0) ∙ ap (column name c) (all-kept-fields cs n e.1)

pub front-kept : {A : Type 0} → (xs ys : List A) (n : ℕ) → length xs ≡ n → slice_range (xs ++ ys) 0 n ≡ xs
front-kept xs ys n e = from-start (xs ++ ys) n ∙ ap (λ k. take k (xs ++ ys)) (sym e) ∙ take-append_seam xs ys

mutual
  -- the rows before those that were put behind them
  pub front_again : (n : ℕ) (c d : Rows) → HasRows n c → part 0 n (appended c d) ≡ c
  front_again n (bools c) (bools d) e = ap (λ rows. bools (record { nullable = c.nullable; rows = rows })) (front-kept c.rows d.rows n e)
  front_again n (bools c) (ints d) e = all-kept (bools c) n e
  front_again n (bools c) (texts d) e = all-kept (bools c) n e
  front_again n (bools c) (structs d ds) e = all-kept (bools c) n e
  front_again n (ints c) (bools d) e = all-kept (ints c) n e
  front_again n (ints c) (ints d) e = ap (λ rows. ints (record { ptype = c.ptype; nullable = c.nullable; rows = rows })) (front-kept c.rows d.rows n e)
  front_again n (ints c) (texts d) e = all-kept (ints c) n e
  front_again n (ints c) (structs d ds) e = all-kept (ints c) n e
  front_again n (texts c) (bools d) e = all-kept (texts c) n e
  front_again n (texts c) (ints d) e = all-kept (texts c) n e
  front_again n (texts c) (texts d) e = ap (λ rows. texts (record { nullable = c.nullable; rows = rows })) (front-kept c.rows d.rows n e)
  front_again n (texts c) (structs d ds) e = all-kept (texts c) n e
  front_again n (structs c cs) (bools d) e = all-kept (structs c cs) n e
  front_again n (structs c cs) (ints d) e = all-kept (structs c cs) n e
  front_again n (structs c cs) (texts d) e = all-kept (structs c cs) n e
  front_again n (structs c cs) (structs d ds) e =
      ap (λ rows. structs (record { nullable = c.nullable; present = rows }) (field_parts 0 n (fields_appended cs ds))) (front-kept c.present d.present n e.0)
      ∙ ap (structs c) (fronts_again n cs ds e.1)

  pub fronts_again : (n : ℕ) (cs ds : FieldRows) → AllHaveRows n cs → field_parts 0 n (fields_appended cs ds) ≡ cs
  fronts_again n no_columns no_columns e = refl
  fronts_again n no_columns (column name d ds) e = refl
  fronts_again n (column name c cs) no_columns e = all-kept-fields (column name c cs) n e
  fronts_again n (column name c cs) (column other d ds) e =
      ap (λ (x : Rows). column name x (field_parts 0 n (fields_appended cs ds))) (front_again n c d e.0) ∙ ap (column name c) (fronts_again n cs ds e.1)

pub ruleset part_laws = (parts_again, front_again, part_of_part, part_type, appended_type, part_is_column, appended_is_column)
