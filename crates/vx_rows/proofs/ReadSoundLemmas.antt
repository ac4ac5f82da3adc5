-- What is read is a column of its type.
use Rattle.std.proofs.Common.{◌≡◌, ℕ, ℤ, suc, pos, ◌+◌, Bool, true, false, cond, List, [], ◌∷◌, ◌++◌, length, Option, Some, None, is_some, Result, Ok, Err, refl, ap, ◌∙◌, subst, arith}
use Rattle.std.specs.Prelude.{◌||◌, ◌==◌, not, IfSome, IfOk}
use Rattle.std.specs.List.{list_all}
use Rattle.std.specs.Str.{IsUtf8}
use Rattle.std.specs.Option.{option_map, option_and_then}
use Rattle.std.proofs.lemmas.Str.{IsUtf8-from_is_utf8, IsUtf8-nil}
use Rattle.std.proofs.lemmas.List.Elements.{All-nil, All-push}
use Rattle.vx_base.specs.Checks.{◌>>=◌, ◌lacking◌}
use Rattle.vx_data.specs.declared.ptype.PType.{PType}
use Rattle.vx_data.specs.declared.ptype.PType.TheVariants.{U8, U16, U32, U64, I8, I16, I32, I64}
use Rattle.vx_data.specs.Dtype.{Dtype, FieldList, bool, int, text, struct, no_fields, field}
use Rattle.vx_data.specs.Texts.{comma}
use Rattle.vx_data.specs.TextsRead.{after, quoted_in}
use Rattle.vx_data.proofs.QuotedBack.{quoted_in_only}
use Rattle.vx_rows.specs.declared.rows_error.RowsError.{RowsError}
use Rattle.vx_rows.specs.declared.rows_error.RowsError.TheVariants.{BadLine}
use Rattle.vx_rows.specs.Columns.{Structs, may_hold, are_there}
use Rattle.vx_rows.specs.Written.{is_within}
use Rattle.vx_rows.specs.Rows.{Rows, FieldRows, bools, ints, texts, structs, no_columns, column, dtype_of, types_of, IsColumn, AreColumns}
use Rattle.vx_rows.specs.ReadValues.{null_in, unless_null, optional_in, truth_in, integer_in, within_range, number_in}
use Rattle.vx_rows.specs.ReadRows.{null_or, absent, all_absent, more_structs, null_struct, closed, struct_unless, before_fields, value_in, values_in, alone, line_in, lines_of, rows_behind, no_rows, no_rows_each, rows_of}
use Rattle.vx_rows.proofs.GrowingLemmas.{one-longer, one_more_there}

-- ---- what holds of a value that is read

pub if-map : {A B : Type 0} (f : A → B) (P : A → Type 0) (Q : B → Type 0) (o : Option A) → IfSome o P → ((x : A) → P x → Q (f x)) → IfSome (option_map f o) Q
if-map f P Q None h k = tt
if-map f P Q (Some x) h k = k x h

pub if-then : {A B : Type 0} (f : A → Option B) (P : A → Type 0) (Q : B → Type 0) (o : Option A) → IfSome o P → ((x : A) → P x → IfSome (f x) Q) → IfSome (option_and_then f o) Q
if-then f P Q None h k = tt
if-then f P Q (Some x) h k = k x h

if-any : {A : Type 0} (o : Option A) → IfSome o (λ _. Unit {0})
if-any None = tt
if-any (Some x) = tt

-- a row that may stand in a column
abbrev Allowed : {A : Type 0} → Bool → (A → Type 0) → Option A → Type 0
Allowed nullable Q row = ((nullable || is_some row) ≡ true) × IfSome row Q

or-true : (b : Bool) → (b || true) ≡ true
or-true true = refl
or-true false = refl

unless-allowed : {A : Type 0} (nullable : Bool) (Q : A → Type 0) (null : Option (List ℕ)) (value : Option (A × List ℕ)) → (is_some null ≡ true → nullable ≡ true) → IfSome value (λ x. Q x.0)
    → IfSome (unless_null null value) (λ x. Allowed nullable Q x.0)
unless-allowed nullable Q (Some rest) value may h = (ap (λ b. b || false) (may refl), tt)
unless-allowed nullable Q None None may h = tt
unless-allowed nullable Q None (Some x) may h = (or-true nullable, h)

null-allowed : (nullable : Bool) (t : List ℕ) → is_some (null_in nullable t) ≡ true → nullable ≡ true
null-allowed true t h = refl
null-allowed false t h = cc

within-read : (p : PType) (x : ℤ × List ℕ) → IfSome (within_range p x) (λ y. is_within p y.0 ≡ true)
within-read p x = step (is_within p x.0) refl
  where
    step : (b : Bool) → is_within p x.0 ≡ b → IfSome (cond b (Some x) None) (λ y. is_within p y.0 ≡ true)
    step true h = h
    step false h = tt

number-within : (p : PType) (t : List ℕ) → IfSome (number_in p t) (λ x. is_within p x.0 ≡ true)
number-within p t = if-then (within_range p) (λ _. Unit {0}) (λ x. is_within p x.0 ≡ true) (integer_in t) (if-any (integer_in t)) (λ x u. within-read p x)

quoted-utf8 : (t : List ℕ) → IfSome (quoted_in t) (λ x. IsUtf8 x.0)
quoted-utf8 t = step (quoted_in t) refl
  where
    step : (o : Option (List ℕ × List ℕ)) → quoted_in t ≡ o → IfSome o (λ x. IsUtf8 x.0)
    step None h = tt
    step (Some x) h = IsUtf8-from_is_utf8 x.0 (quoted_in_only t x.0 x.1 h).1

-- ---- a row more

all-some : {A : Type 0} (rows : List (Option A)) (row : Option A) → list_all is_some rows ≡ true → is_some row ≡ true → list_all is_some (rows ++ row ∷ []) ≡ true
all-some [] row h k = rw k refl
all-some (None ∷ rows) row h k = cc
all-some (Some x ∷ rows) row h k = all-some rows row h k

more-held : {A : Type 0} (nullable : Bool) (rows : List (Option A)) (row : Option A) → may_hold nullable rows ≡ true → (nullable || is_some row) ≡ true → may_hold nullable (rows ++ row ∷ []) ≡ true
more-held true rows row h k = refl
more-held false rows row h k = all-some rows row h k

longer : {A : Type 0} (n : ℕ) (xs : List A) (x : A) → length xs ≡ n → length (xs ++ x ∷ []) ≡ n + 1
longer n xs x h = one-longer xs x ∙ ap (λ m. m + 1) h

-- a column of a type with so many rows
abbrev pub IsTyped : ℕ → Dtype → Rows → Type 0
IsTyped n d c = IsColumn n c × (dtype_of c ≡ d)

abbrev pub AreTyped : ℕ → FieldList → FieldRows → Type 0
AreTyped n fs cs = AreColumns n cs × (types_of cs ≡ fs)

zero-within : (p : PType) → is_within p (pos 0) ≡ true
zero-within U8 = refl
zero-within U16 = refl
zero-within U32 = refl
zero-within U64 = refl
zero-within I8 = refl
zero-within I16 = refl
zero-within I32 = refl
zero-within I64 = refl

null-or-allowed : {A : Type 0} (nullable : Bool) (Q : A → Type 0) (x : A) → Q x → Allowed nullable Q (null_or nullable x)
null-or-allowed true Q x h = (refl, tt)
null-or-allowed false Q x h = (refl, h)

not-allowed : (nullable : Bool) → (nullable || not nullable) ≡ true
not-allowed true = refl
not-allowed false = refl

mutual
  absent-typed : (n : ℕ) (c : Rows) → IsColumn n c → IsTyped (n + 1) (dtype_of c) (absent c)
  absent-typed n (bools c) h =
      let row : Allowed c.nullable (λ (b : Bool). Unit {0}) (null_or c.nullable false) = null-or-allowed c.nullable (λ _. Unit {0}) false tt in
      ((longer n c.rows (null_or c.nullable false) h.0, more-held c.nullable c.rows (null_or c.nullable false) h.1 row.0), refl)
  absent-typed n (ints c) h =
      let row : Allowed c.nullable (λ (z : ℤ). is_within c.ptype z ≡ true) (null_or c.nullable (pos 0)) = null-or-allowed c.nullable (λ z. is_within c.ptype z ≡ true) (pos 0) (zero-within c.ptype) in
      ((longer n c.rows (null_or c.nullable (pos 0)) h.0, more-held c.nullable c.rows (null_or c.nullable (pos 0)) h.1 row.0, All-push (λ (row : Option ℤ). IfSome row (λ value. is_within c.ptype value ≡ true)) c.rows (null_or c.nullable (pos 0)) h.2 row.1), refl)
  absent-typed n (texts c) h =
      let row : Allowed c.nullable IsUtf8 (null_or c.nullable []) = null-or-allowed c.nullable IsUtf8 [] IsUtf8-nil in
      ((longer n c.rows (null_or c.nullable []) h.0, more-held c.nullable c.rows (null_or c.nullable []) h.1 row.0, All-push (λ (row : Option (List ℕ)). IfSome row IsUtf8) c.rows (null_or c.nullable []) h.2 row.1), refl)
  absent-typed n (structs c cs) h =
      let inner = all-absent-typed n cs h.2 in
      ((longer n c.present (not c.nullable) h.0, one_more_there c.nullable c.present (not c.nullable) h.1 (not-allowed c.nullable), inner.0), ap (λ fs. struct fs c.nullable) inner.1)

  all-absent-typed : (n : ℕ) (cs : FieldRows) → AreColumns n cs → AreTyped (n + 1) (types_of cs) (all_absent cs)
  all-absent-typed n no_columns h = (tt, refl)
  all-absent-typed n (column name c cs) h =
      let here = absent-typed n c h.0 in
      let rest = all-absent-typed n cs h.1 in
      ((here.0, rest.0), ap (λ d. field name d (types_of (all_absent cs))) here.1 ∙ ap (field name (dtype_of c)) rest.1)

-- ---- values

closed-typed : (n : ℕ) (c : Structs) (cs : FieldRows) (x : FieldRows × List ℕ) → length c.present ≡ n → are_there c.nullable c.present ≡ true → AreTyped (n + 1) (types_of cs) x.0
    → IfSome (closed c x) (λ y. IsTyped (n + 1) (struct (types_of cs) c.nullable) y.0)
closed-typed n c cs x l t h =
    if-map (λ rest. (structs (more_structs c true) x.0, rest)) (λ _. Unit {0}) (λ (y : Rows × List ℕ). IsTyped (n + 1) (struct (types_of cs) c.nullable) y.0) (after (41 ∷ []) x.1) (if-any (after (41 ∷ []) x.1))
    (λ rest u. ((longer n c.present true l, one_more_there c.nullable c.present true t (or-true c.nullable), h.0), ap (λ fs. struct fs c.nullable) h.1))

null-typed : (n : ℕ) (c : Structs) (cs : FieldRows) (null : Option (List ℕ)) → (is_some null ≡ true → c.nullable ≡ true) → IsColumn n (structs c cs)
    → IfSome (option_map (null_struct c cs) null) (λ y. IsTyped (n + 1) (struct (types_of cs) c.nullable) y.0)
null-typed n c cs None may h = tt
null-typed n c cs (Some rest) may h =
    let inner = all-absent-typed n cs h.2 in
    ((longer n c.present false h.0, one_more_there c.nullable c.present false h.1 (ap (λ b. b || false) (may refl)), inner.0), ap (λ fs. struct fs c.nullable) inner.1)

unless-typed : (Q : Rows × List ℕ → Type 0) (null value : Option (Rows × List ℕ)) → IfSome null Q → IfSome value Q → IfSome (struct_unless null value) Q
unless-typed Q (Some x) value h k = h
unless-typed Q None value h k = k

mutual
  value-typed : (n : ℕ) (c : Rows) (t : List ℕ) → IsColumn n c → IfSome (value_in c t) (λ x. IsTyped (n + 1) (dtype_of c) x.0)
  value-typed n (bools c) t h =
      if-map _ (λ (x : Option Bool × List ℕ). Allowed c.nullable (λ (b : Bool). Unit {0}) x.0) _ (optional_in truth_in c.nullable t)
      (unless-allowed c.nullable (λ (b : Bool). Unit {0}) (null_in c.nullable t) (truth_in t) (null-allowed c.nullable t) (if-any (truth_in t)))
      (λ x row. ((longer n c.rows x.0 h.0, more-held c.nullable c.rows x.0 h.1 row.0), refl))
  value-typed n (ints c) t h =
      if-map _ (λ (x : Option ℤ × List ℕ). Allowed c.nullable (λ (z : ℤ). is_within c.ptype z ≡ true) x.0) _ (optional_in (number_in c.ptype) c.nullable t)
      (unless-allowed c.nullable (λ (z : ℤ). is_within c.ptype z ≡ true) (null_in c.nullable t) (number_in c.ptype t) (null-allowed c.nullable t) (number-within c.ptype t))
      (λ x row. ((longer n c.rows x.0 h.0, more-held c.nullable c.rows x.0 h.1 row.0, All-push (λ (row : Option ℤ). IfSome row (λ value. is_within c.ptype value ≡ true)) c.rows x.0 h.2 row.1), refl))
  value-typed n (texts c) t h =
      if-map _ (λ (x : Option (List ℕ) × List ℕ). Allowed c.nullable IsUtf8 x.0) _ (optional_in quoted_in c.nullable t)
      (unless-allowed c.nullable IsUtf8 (null_in c.nullable t) (quoted_in t) (null-allowed c.nullable t) (quoted-utf8 t))
      (λ x row. ((longer n c.rows x.0 h.0, more-held c.nullable c.rows x.0 h.1 row.0, All-push (λ (row : Option (List ℕ)). IfSome row IsUtf8) c.rows x.0 h.2 row.1), refl))
  value-typed n (structs c cs) t h =
      unless-typed _ (option_map (null_struct c cs) (null_in c.nullable t)) _ (null-typed n c cs (null_in c.nullable t) (null-allowed c.nullable t) h)
      (if-then _ (λ _. Unit {0}) _ (after (40 ∷ []) t) (if-any (after (40 ∷ []) t))
      (λ inside u. if-then (closed c) (λ (x : FieldRows × List ℕ). AreTyped (n + 1) (types_of cs) x.0) _ (values_in true cs inside) (values-typed true n cs inside h.2) (λ x k. closed-typed n c cs x h.0 h.1 k)))

  values-typed : (first : Bool) (n : ℕ) (cs : FieldRows) (t : List ℕ) → AreColumns n cs → IfSome (values_in first cs t) (λ x. AreTyped (n + 1) (types_of cs) x.0)
  values-typed first n no_columns t h = (tt, refl)
  values-typed first n (column name c cs) t h =
      if-then _ (λ (x : Rows × List ℕ). IsTyped (n + 1) (dtype_of c) x.0) _ (option_and_then (λ u. value_in c u) (after (comma first) t))
      (if-then _ (λ _. Unit {0}) _ (after (comma first) t) (if-any (after (comma first) t)) (λ u k. value-typed n c u h.0))
      (λ x here. if-map (before_fields name x.0) (λ (y : FieldRows × List ℕ). AreTyped (n + 1) (types_of cs) y.0) _ (values_in false cs x.1) (values-typed false n cs x.1 h.1)
      (λ y rest. ((here.0, rest.0), ap (λ d. field name d (types_of y.0)) here.1 ∙ ap (field name (dtype_of c)) rest.1)))

-- ---- lines

alone-typed : (x : Rows × List ℕ) (Q : Rows → Type 0) → Q x.0 → IfSome (alone x) Q
alone-typed x Q h = step (length x.1 == 0)
  where
    step : (b : Bool) → IfSome (cond b (Some x.0) None) Q
    step true = h
    step false = tt

pub line-typed : (n : ℕ) (c : Rows) (line : List ℕ) → IsColumn n c → IfSome (line_in c line) (λ d. IsTyped (n + 1) (dtype_of c) d)
line-typed n c line h =
    if-then alone (λ (x : Rows × List ℕ). IsTyped (n + 1) (dtype_of c) x.0) _ (value_in c line) (value-typed n c line h) (λ x k. alone-typed x (IsTyped (n + 1) (dtype_of c)) k)

more-typed : (n m : ℕ) (d e : Dtype) (k : ℕ) (r : Result Rows RowsError) → n + 1 + m ≡ k → d ≡ e → IfOk r (λ c. IsTyped (n + 1 + m) d c) → IfOk r (λ c. IsTyped k e c)
more-typed n m d e k (Ok c) size same h = (subst (λ i. IsColumn i c) size h.0, h.1 ∙ same)
more-typed n m d e k (Err f) size same h = tt

next-typed : (n number : ℕ) (c : Rows) (lines : List (List ℕ)) (o : Option Rows) → IfSome o (λ d. IsTyped (n + 1) (dtype_of c) d)
    → ((d : Rows) → IsColumn (n + 1) d → IfOk (rows_behind d (number + 1) lines) (λ e. IsTyped (n + 1 + length lines) (dtype_of d) e))
    → IfOk ((BadLine number lacking o) >>= λ more. rows_behind more (number + 1) lines) (λ d. IsTyped (n + suc (length lines)) (dtype_of c) d)
next-typed n number c lines None h more = tt
next-typed n number c lines (Some d) h more =
    more-typed n (length lines) (dtype_of d) (dtype_of c) (n + suc (length lines)) (rows_behind d (number + 1) lines) (omega arith) h.1 (more d h.0)

lines-typed : (n number : ℕ) (c : Rows) (lines : List (List ℕ)) → IsColumn n c → IfOk (rows_behind c number lines) (λ d. IsTyped (n + length lines) (dtype_of c) d)
unfolding rows_behind
lines-typed n number c [] h = let same : n ≡ n + 0 = omega arith in subst (λ m. IsTyped m (dtype_of c) c) same (h, refl)
lines-typed n number c (line ∷ lines) h =
    next-typed n number c lines (line_in c line) (line-typed n c line h) (λ d k. lines-typed (n + 1) (number + 1) d lines k)

mutual
  pub empty-typed : (d : Dtype) → IsTyped 0 d (no_rows d)
  empty-typed (bool nullable) = ((refl, or-true nullable), refl)
  empty-typed (int ptype nullable) = ((refl, or-true nullable, All-nil (λ (row : Option ℤ). IfSome row (λ value. is_within ptype value ≡ true))), refl)
  empty-typed (text nullable) = ((refl, or-true nullable, All-nil (λ (row : Option (List ℕ)). IfSome row IsUtf8)), refl)
  empty-typed (struct fs nullable) = let inner = all-empty-typed fs in ((refl, or-true nullable, inner.0), ap (λ gs. struct gs nullable) inner.1)

  all-empty-typed : (fs : FieldList) → AreTyped 0 fs (no_rows_each fs)
  all-empty-typed no_fields = (tt, refl)
  all-empty-typed (field name d fs) =
      let here = empty-typed d in
      let rest = all-empty-typed fs in
      ((here.0, rest.0), ap (λ e. field name e (types_of (no_rows_each fs))) here.1 ∙ ap (field name d) rest.1)

-- the column of a type that a text spells
pub read_typed : (d : Dtype) (t : List ℕ) → IfOk (rows_of d t) (λ c. IsTyped (length (lines_of t)) d c)
read_typed d t =
    let empty = empty-typed d in
    typed (rows_of d t) (lines-typed 0 0 (no_rows d) (lines_of t) empty.0)
  where
    typed : (r : Result Rows RowsError) → IfOk r (λ c. IsTyped (0 + length (lines_of t)) (dtype_of (no_rows d)) c) → IfOk r (λ c. IsTyped (length (lines_of t)) d c)
    typed (Ok c) h = (subst (λ m. IsColumn m c) (omega arith) h.0, h.1 ∙ (empty-typed d).1)
    typed (Err e) h = tt

pub read_is_typed : (d : Dtype) (t : List ℕ) (c : Rows) → rows_of d t ≡ Ok c → dtype_of c ≡ d
read_is_typed d t c e = (subst (λ r. IfOk r (λ x. IsTyped (length (lines_of t)) d x)) e (read_typed d t)).1

pub read_is_column : (d : Dtype) (t : List ℕ) (c : Rows) → rows_of d t ≡ Ok c → IsColumn (length (lines_of t)) c
read_is_column d t c e = (subst (λ r. IfOk r (λ x. IsTyped (length (lines_of t)) d x)) e (read_typed d t)).0

pub ruleset read_sound = (read_is_typed, read_is_column)
