-- Printed rows are read again.
use Rattle.std.proofs.Common.{◌≡◌, ℕ, ℤ, zero, suc, pos, ◌+◌, ◌/◌, ◌%◌, ◌<◌, Bool, true, false, cond, List, [], ◌∷◌, ◌++◌, length, take, Option, Some, None, is_some, Ok, refl, ap, sym, ◌∙◌, subst, arith, append_assoc}
use Rattle.std.specs.Prelude.{◌==◌, ◌&&◌, ◌||◌, not, slice_index_or, codes, IfSome}
use Rattle.std.specs.List.{flat_map, list_all}
use Rattle.std.specs.Str.{IsUtf8}
use Rattle.std.specs.Fmt.{signed_decimal}
use Rattle.std.specs.Option.{option_map, option_and_then}
use Rattle.std.proofs.lemmas.Str.{is_utf8-from_IsUtf8}
use Rattle.std.proofs.lemmas.List.{take_more, take_all}
use Rattle.std.proofs.lemmas.Bool.Decides.{nat_tests}
use Rattle.vx_data.specs.Texts.{is_quote_plain, upper_hex_digit, quoted_byte, quoted, comma}
use Rattle.vx_data.specs.TextsRead.{after, is_quote_byte, quote_length, quoted_in}
use Rattle.vx_data.proofs.QuotedBack.{quoted_in_again}
use Rattle.vx_rows.specs.Columns.{Bools, Ints, Texts, Structs, may_hold, are_there}
use Rattle.vx_rows.specs.Written.{is_within}
use Rattle.vx_rows.specs.Rows.{Rows, FieldRows, bools, ints, texts, structs, no_columns, column, rows_len, dtype_of, types_of, IsColumn, AreColumns}
use Rattle.vx_rows.specs.ValueTexts.{optional, bool_text, value_text, fields_text, lines_from, lines_text}
use Rattle.vx_rows.specs.ReadValues.{null_in, optional_in, truth_in, is_digit, number_in}
use Rattle.vx_rows.specs.ReadRows.{null_or, absent, all_absent, more_structs, null_struct, closed, struct_unless, before_fields, value_in, values_in, alone, line_in, lines_of, rows_behind, no_rows, no_rows_each, rows_of}
use Rattle.vx_rows.specs.PrintedRows.{IsAbsent, AreAbsent, HidesNothing, HideNothing}
use Rattle.vx_rows.proofs.DigitLemmas.{past_digits, no_digits}
use Rattle.vx_rows.proofs.PlainTextLemmas.{first-of, second-of}
use Rattle.vx_rows.proofs.ReadingLemmas.{is_other, other-test}
use Rattle.vx_rows.proofs.DecimalLemmas.{EndsDigits, number_again, number_there, signed_line}

-- ---- what follows a value

-- no byte that a number or quoted text could go on with
abbrev pub EndsValue : List ℕ → Type 0
EndsValue t = quote_length t ≡ 0

digit-quotes : (c : ℕ) → is_quote_byte c ≡ false → is_digit c ≡ false
digit-quotes c h = grind (arith, nat_tests)

quote-first : (b : Bool) (n : ℕ) → cond b (suc n) 0 ≡ 0 → b ≡ false
quote-first true n h = cc
quote-first false n h = refl

ends-digits : (t : List ℕ) → EndsValue t → EndsDigits t
unfolding quote_length
ends-digits [] h n = no_digits n
ends-digits (c ∷ cs) h n = past_digits n c cs (digit-quotes c (quote-first (is_quote_byte c) (quote_length cs) h))

-- ---- a value, or null

null-or-not : {A : Type 0} (nullable : Bool) (row : Option A) (text : A → List ℕ) (read : List ℕ → Option (A × List ℕ)) (t : List ℕ) → (nullable || is_some row) ≡ true
    → ((x : A) → row ≡ Some x → read (text x ++ t) ≡ Some (x, t)) → ((x : A) → after (codes "~") (text x ++ t) ≡ None)
    → optional_in read nullable (optional text row ++ t) ≡ Some (row, t)
null-or-not true None text read t allowed value there = refl
null-or-not false None text read t allowed value there = cc
null-or-not true (Some x) text read t allowed value there = rw (there x, value x refl) refl
null-or-not false (Some x) text read t allowed value there = rw (value x refl) refl

truth-again : (b : Bool) (t : List ℕ) → truth_in (bool_text b ++ t) ≡ Some (b, t)
truth-again true t = refl
truth-again false t = refl

truth-there : (b : Bool) (t : List ℕ) → after (codes "~") (bool_text b ++ t) ≡ None
truth-there true t = refl
truth-there false t = refl

quoted-first : (plain : Bool) (b : ℕ) (t : List ℕ) → is_quote_plain b ≡ plain
    → after (codes "~") ((cond plain (b ∷ []) (37 ∷ upper_hex_digit (b / 16) ∷ upper_hex_digit (b % 16) ∷ [])) ++ t) ≡ None
quoted-first true b t h = let other : (b == 126) ≡ false = grind (arith, nat_tests) in rw other refl
quoted-first false b t h = refl

quoted-there : (x t : List ℕ) → after (codes "~") (quoted x ++ t) ≡ None
quoted-there [] t = refl
quoted-there (b ∷ bs) t =
    ap (after (codes "~")) (append_assoc (quoted_byte b) (flat_map quoted_byte bs) t) ∙ quoted-first (is_quote_plain b) b (flat_map quoted_byte bs ++ t) refl

-- ---- no line feed

both : (a b : Bool) → a ≡ true → b ≡ true → (a && b) ≡ true
both a b x y = rw (x, y) refl

lines-joined : (x y : List ℕ) → list_all is_other x ≡ true → list_all is_other y ≡ true → list_all is_other (x ++ y) ≡ true
lines-joined [] y h k = k
lines-joined (b ∷ x) y h k = split (is_other b) (list_all is_other x) h (lines-joined x y)
  where
    split : (a c : Bool) → (a && c) ≡ true → (c ≡ true → list_all is_other y ≡ true → list_all is_other (x ++ y) ≡ true) → (a && list_all is_other (x ++ y)) ≡ true
    split true c e f = f e k
    split false c e f = cc

hex-line : (n : ℕ) → is_other (upper_hex_digit n) ≡ true
hex-line n = grind (arith, nat_tests)

plain-line : (b : ℕ) → is_quote_plain b ≡ true → is_other b ≡ true
plain-line b h = grind (arith, nat_tests)

byte-line : (plain : Bool) (b : ℕ) → is_quote_plain b ≡ plain → list_all is_other (cond plain (b ∷ []) (37 ∷ upper_hex_digit (b / 16) ∷ upper_hex_digit (b % 16) ∷ [])) ≡ true
byte-line true b h = both (is_other b) true (plain-line b h) refl
byte-line false b h = both (is_other (upper_hex_digit (b / 16))) _ (hex-line (b / 16)) (both (is_other (upper_hex_digit (b % 16))) true (hex-line (b % 16)) refl)

bytes-line : (x : List ℕ) → list_all is_other (flat_map quoted_byte x) ≡ true
bytes-line [] = refl
bytes-line (b ∷ bs) = lines-joined (quoted_byte b) (flat_map quoted_byte bs) (byte-line (is_quote_plain b) b refl) (bytes-line bs)

quoted-line : (x : List ℕ) → list_all is_other (quoted x) ≡ true
quoted-line [] = refl
quoted-line (b ∷ bs) = bytes-line (b ∷ bs)

optional-line : {A : Type 0} (text : A → List ℕ) (row : Option A) → ((x : A) → list_all is_other (text x) ≡ true) → list_all is_other (optional text row) ≡ true
optional-line text None h = refl
optional-line text (Some x) h = h x

truth-line : (b : Bool) → list_all is_other (bool_text b) ≡ true
truth-line true = refl
truth-line false = refl

comma-line : (first : Bool) → list_all is_other (comma first) ≡ true
comma-line true = refl
comma-line false = refl

struct-line : (b : Bool) (x : List ℕ) → list_all is_other x ≡ true → list_all is_other (cond b (codes "(" ++ x ++ codes ")") (codes "~")) ≡ true
struct-line true x h = lines-joined x (codes ")") h refl
struct-line false x h = refl

mutual
  value-line : (c : Rows) (row : ℕ) → list_all is_other (value_text c row) ≡ true
  value-line (bools c) row = optional-line bool_text (slice_index_or c.rows row None) truth-line
  value-line (ints c) row = optional-line signed_decimal (slice_index_or c.rows row None) signed_line
  value-line (texts c) row = optional-line quoted (slice_index_or c.rows row None) quoted-line
  value-line (structs c cs) row = struct-line (slice_index_or c.present row true) (fields_text true cs row) (fields-line true cs row)

  fields-line : (first : Bool) (cs : FieldRows) (row : ℕ) → list_all is_other (fields_text first cs row) ≡ true
  fields-line first no_columns row = refl
  fields-line first (column name c cs) row =
      lines-joined (comma first ++ value_text c row) (fields_text false cs row) (lines-joined (comma first) (value_text c row) (comma-line first) (value-line c row)) (fields-line false cs row)

-- ---- the first rows of a column

abbrev mutual
  pub first_rows : ℕ → Rows → Rows
  first_rows k (bools c) = bools (record { nullable = c.nullable; rows = take k c.rows })
  first_rows k (ints c) = ints (record { ptype = c.ptype; nullable = c.nullable; rows = take k c.rows })
  first_rows k (texts c) = texts (record { nullable = c.nullable; rows = take k c.rows })
  first_rows k (structs c cs) = structs (record { nullable = c.nullable; present = take k c.present }) (first_of_each k cs)

  pub first_of_each : ℕ → FieldRows → FieldRows
  first_of_each k no_columns = no_columns
  first_of_each k (column name c cs) = column name (first_rows k c) (first_of_each k cs)

mutual
  none-first : (c : Rows) → first_rows 0 c ≡ no_rows (dtype_of c)
  none-first (bools c) = refl
  none-first (ints c) = refl
  none-first (texts c) = refl
  none-first (structs c cs) = ap (structs (record { nullable = c.nullable; present = [] })) (none-first-each cs)

  none-first-each : (cs : FieldRows) → first_of_each 0 cs ≡ no_rows_each (types_of cs)
  none-first-each no_columns = refl
  none-first-each (column name c cs) = ap (λ x. column name x (first_of_each 0 cs)) (none-first c) ∙ ap (column name (no_rows (dtype_of c))) (none-first-each cs)

mutual
  all-first : (n : ℕ) (c : Rows) → IsColumn n c → first_rows n c ≡ c
  all-first n (bools c) h = ap (λ (rows : List (Option Bool)). bools (record { nullable = c.nullable; rows = rows })) (take_all n c.rows (omega (arith, h.0)))
  all-first n (ints c) h = ap (λ (rows : List (Option ℤ)). ints (record { ptype = c.ptype; nullable = c.nullable; rows = rows })) (take_all n c.rows (omega (arith, h.0)))
  all-first n (texts c) h = ap (λ (rows : List (Option (List ℕ))). texts (record { nullable = c.nullable; rows = rows })) (take_all n c.rows (omega (arith, h.0)))
  all-first n (structs c cs) h =
      ap (λ (rows : List Bool). structs (record { nullable = c.nullable; present = rows }) (first_of_each n cs)) (take_all n c.present (omega (arith, h.0)))
      ∙ ap (structs c) (all-first-each n cs h.2)

  all-first-each : (n : ℕ) (cs : FieldRows) → AreColumns n cs → first_of_each n cs ≡ cs
  all-first-each n no_columns h = refl
  all-first-each n (column name c cs) h = ap (λ x. column name x (first_of_each n cs)) (all-first n c h.0) ∙ ap (column name c) (all-first-each n cs h.1)

-- ---- a row more

more-bools : (c : Bools) (k : ℕ) (row : Option Bool) → k < length c.rows → slice_index_or c.rows k None ≡ row
    → bools (record { nullable = c.nullable; rows = take k c.rows ++ row ∷ [] }) ≡ first_rows (k + 1) (bools c)
more-bools c k row l e =
    ap (λ (rows : List (Option Bool)). bools (record { nullable = c.nullable; rows = rows })) (ap (λ (x : Option Bool). take k c.rows ++ x ∷ []) (sym e) ∙ sym (take_more c.rows k None l))

more-ints : (c : Ints) (k : ℕ) (row : Option ℤ) → k < length c.rows → slice_index_or c.rows k None ≡ row
    → ints (record { ptype = c.ptype; nullable = c.nullable; rows = take k c.rows ++ row ∷ [] }) ≡ first_rows (k + 1) (ints c)
more-ints c k row l e =
    ap (λ (rows : List (Option ℤ)). ints (record { ptype = c.ptype; nullable = c.nullable; rows = rows })) (ap (λ (x : Option ℤ). take k c.rows ++ x ∷ []) (sym e) ∙ sym (take_more c.rows k None l))

more-texts : (c : Texts) (k : ℕ) (row : Option (List ℕ)) → k < length c.rows → slice_index_or c.rows k None ≡ row
    → texts (record { nullable = c.nullable; rows = take k c.rows ++ row ∷ [] }) ≡ first_rows (k + 1) (texts c)
more-texts c k row l e =
    ap (λ (rows : List (Option (List ℕ))). texts (record { nullable = c.nullable; rows = rows })) (ap (λ (x : Option (List ℕ)). take k c.rows ++ x ∷ []) (sym e) ∙ sym (take_more c.rows k None l))

more-present : (c : Structs) (k : ℕ) (there : Bool) → k < length c.present → slice_index_or c.present k true ≡ there
    → more_structs (record { nullable = c.nullable; present = take k c.present }) there ≡ record { nullable = c.nullable; present = take (k + 1) c.present }
more-present c k there l e =
    ap (λ (rows : List Bool). record { nullable = c.nullable; present = rows }) (ap (λ (x : Bool). take k c.present ++ x ∷ []) (sym e) ∙ sym (take_more c.present k true l))

-- the rows of fields in a struct that is null
mutual
  more-absent : (n k : ℕ) (c : Rows) → k < n → IsColumn n c → IsAbsent c k → absent (first_rows k c) ≡ first_rows (k + 1) c
  more-absent n k (bools c) l h is = more-bools c k (null_or c.nullable false) (omega (arith, l, h.0)) is
  more-absent n k (ints c) l h is = more-ints c k (null_or c.nullable (pos 0)) (omega (arith, l, h.0)) is
  more-absent n k (texts c) l h is = more-texts c k (null_or c.nullable []) (omega (arith, l, h.0)) is
  more-absent n k (structs c cs) l h is =
      ap (λ (x : Structs). structs x (all_absent (first_of_each k cs))) (more-present c k (not c.nullable) (omega (arith, l, h.0)) is.0)
      ∙ ap (structs (record { nullable = c.nullable; present = take (k + 1) c.present })) (all-more-absent n k cs l h.2 is.1)

  all-more-absent : (n k : ℕ) (cs : FieldRows) → k < n → AreColumns n cs → AreAbsent cs k → all_absent (first_of_each k cs) ≡ first_of_each (k + 1) cs
  all-more-absent n k no_columns l h is = refl
  all-more-absent n k (column name c cs) l h is =
      ap (λ x. column name x (all_absent (first_of_each k cs))) (more-absent n k c l h.0 is.0) ∙ ap (column name (first_rows (k + 1) c)) (all-more-absent n k cs l h.1 is.1)

-- ---- values

all-held : {A : Type 0} (xs : List (Option A)) (i : ℕ) → i < length xs → list_all is_some xs ≡ true → is_some (slice_index_or xs i None) ≡ true
all-held [] i u e = absurd (omega (arith, u))
all-held (None ∷ xs) i u e = cc
all-held (Some x ∷ xs) zero u e = refl
all-held (Some x ∷ xs) (suc i) u e = all-held xs i (omega (arith, u)) e

row-held : {A : Type 0} (nullable : Bool) (rows : List (Option A)) (k : ℕ) → k < length rows → may_hold nullable rows ≡ true → (nullable || is_some (slice_index_or rows k None)) ≡ true
row-held true rows k l h = refl
row-held false rows k l h = all-held rows k l h

struct-held : (nullable : Bool) (present : List Bool) (k : ℕ) → k < length present → are_there nullable present ≡ true → slice_index_or present k true ≡ false → nullable ≡ true
struct-held true present k l h e = refl
struct-held false present k l h e = held present k l h e
  where
    held : (xs : List Bool) (i : ℕ) → i < length xs → list_all (λ b. b) xs ≡ true → slice_index_or xs i true ≡ false → false ≡ true
    held [] i u a f = absurd (omega (arith, u))
    held (true ∷ xs) zero u a f = cc
    held (true ∷ xs) (suc i) u a f = held xs i (omega (arith, u)) a f
    held (false ∷ xs) i u a f = cc

comma-first : (first : Bool) (t : List ℕ) → after (comma first) (comma first ++ t) ≡ Some t
comma-first true t = refl
comma-first false t = refl

-- what follows the value of a field
field-ends : (cs : FieldRows) (k : ℕ) (t : List ℕ) → EndsValue t → EndsValue (fields_text false cs k ++ t)
unfolding quote_length
field-ends no_columns k t h = h
field-ends (column name c cs) k t h = refl

closing-ends : (t : List ℕ) → EndsValue (codes ")" ++ t)
unfolding quote_length
closing-ends t = refl

feed-ends : EndsValue []
unfolding quote_length
feed-ends = refl

-- the parts of a struct's text
opened : (x t : List ℕ) → (codes "(" ++ x ++ codes ")") ++ t ≡ codes "(" ++ (x ++ (codes ")" ++ t))
opened x t = ap (λ y. codes "(" ++ y) (append_assoc x (codes ")") t)

struct-value : (c : Structs) (cs next gone : FieldRows) (x t : List ℕ) → values_in true cs (x ++ (codes ")" ++ t)) ≡ Some (next, codes ")" ++ t)
    → struct_unless (option_map (null_struct c cs) (null_in c.nullable (codes "(" ++ (x ++ (codes ")" ++ t))))) (option_and_then (λ inside. option_and_then (closed c) (values_in true cs inside)) (after (codes "(") (codes "(" ++ (x ++ (codes ")" ++ t)))))
    ≡ Some (structs (more_structs c true) next, t)
struct-value c cs next gone x t e = no-null c.nullable
  where
    value : option_and_then (closed c) (values_in true cs (x ++ (codes ")" ++ t))) ≡ Some (structs (more_structs c true) next, t)
    value = ap (option_and_then (closed c)) e

    no-null : (nullable : Bool) → struct_unless (option_map (null_struct c cs) (null_in nullable (codes "(" ++ (x ++ (codes ")" ++ t))))) (option_and_then (closed c) (values_in true cs (x ++ (codes ")" ++ t))))
        ≡ Some (structs (more_structs c true) next, t)
    no-null true = value
    no-null false = value

struct-again : (n k : ℕ) (c : Structs) (cs : FieldRows) (t : List ℕ) → k < n → IsColumn n (structs c cs) → HidesNothing (structs c cs) → (there : Bool) → slice_index_or c.present k true ≡ there
    → values_in true (first_of_each k cs) (fields_text true cs k ++ (codes ")" ++ t)) ≡ Some (first_of_each (k + 1) cs, codes ")" ++ t)
    → value_in (first_rows k (structs c cs)) (cond there (codes "(" ++ fields_text true cs k ++ codes ")") (codes "~") ++ t) ≡ Some (first_rows (k + 1) (structs c cs), t)
struct-again n k c cs t l h hidden true e inner =
    let less : k < length c.present = omega (arith, l, h.0) in
    ap (value_in (first_rows k (structs c cs))) (opened (fields_text true cs k) t)
    ∙ struct-value (record { nullable = c.nullable; present = take k c.present }) (first_of_each k cs) (first_of_each (k + 1) cs) no_columns (fields_text true cs k) t inner
    ∙ ap (λ (x : Structs). Some (structs x (first_of_each (k + 1) cs), t)) (more-present c k true less e)
struct-again n k c cs t l h hidden false e inner =
    let less : k < length c.present = omega (arith, l, h.0) in
    let nullable : c.nullable ≡ true = struct-held c.nullable c.present k less h.1 e in
    let null : null_in c.nullable (codes "~" ++ t) ≡ Some t = ap (λ b. null_in b (codes "~" ++ t)) nullable in
    ap (λ (o : Option (List ℕ)). struct_unless (option_map (null_struct (record { nullable = c.nullable; present = take k c.present }) (first_of_each k cs)) o)
    (option_and_then (λ inside. option_and_then (closed (record { nullable = c.nullable; present = take k c.present })) (values_in true (first_of_each k cs) inside)) (after (codes "(") (codes "~" ++ t)))) null
    ∙ ap (λ (x : Structs). Some (structs x (all_absent (first_of_each k cs)), t)) (more-present c k false less e)
    ∙ ap (λ (x : FieldRows). Some (structs (record { nullable = c.nullable; present = take (k + 1) c.present }) x, t)) (all-more-absent n k cs l h.2 (hidden.0 k less e))

mutual
  value-again : (n k : ℕ) (c : Rows) (t : List ℕ) → k < n → IsColumn n c → HidesNothing c → EndsValue t → value_in (first_rows k c) (value_text c k ++ t) ≡ Some (first_rows (k + 1) c, t)
  value-again n k (bools c) t l h hidden ends =
      let less : k < length c.rows = omega (arith, l, h.0) in
      ap (option_map (λ x. (bools (record { nullable = c.nullable; rows = take k c.rows ++ x.0 ∷ [] }), x.1)))
      (null-or-not c.nullable (slice_index_or c.rows k None) bool_text truth_in t (row-held c.nullable c.rows k less h.1) (λ b e. truth-again b t) (λ b. truth-there b t))
      ∙ ap (λ (x : Rows). Some (x, t)) (more-bools c k (slice_index_or c.rows k None) less refl)
  value-again n k (ints c) t l h hidden ends =
      let less : k < length c.rows = omega (arith, l, h.0) in
      ap (option_map (λ x. (ints (record { ptype = c.ptype; nullable = c.nullable; rows = take k c.rows ++ x.0 ∷ [] }), x.1)))
      (null-or-not c.nullable (slice_index_or c.rows k None) signed_decimal (number_in c.ptype) t (row-held c.nullable c.rows k less h.1)
      (λ z e. number_again c.ptype z t (subst (λ (row : Option ℤ). IfSome row (λ v. is_within c.ptype v ≡ true)) e (h.2 k None less)) (ends-digits t ends)) (λ z. number_there z t))
      ∙ ap (λ (x : Rows). Some (x, t)) (more-ints c k (slice_index_or c.rows k None) less refl)
  value-again n k (texts c) t l h hidden ends =
      let less : k < length c.rows = omega (arith, l, h.0) in
      ap (option_map (λ x. (texts (record { nullable = c.nullable; rows = take k c.rows ++ x.0 ∷ [] }), x.1)))
      (null-or-not c.nullable (slice_index_or c.rows k None) quoted quoted_in t (row-held c.nullable c.rows k less h.1)
      (λ x e. quoted_in_again x t (is_utf8-from_IsUtf8 x (subst (λ (row : Option (List ℕ)). IfSome row IsUtf8) e (h.2 k None less))) ends) (λ x. quoted-there x t))
      ∙ ap (λ (x : Rows). Some (x, t)) (more-texts c k (slice_index_or c.rows k None) less refl)
  value-again n k (structs c cs) t l h hidden ends =
      struct-again n k c cs t l h hidden (slice_index_or c.present k true) refl (values-again true n k cs (codes ")" ++ t) l h.2 hidden.1 (closing-ends t))

  values-again : (first : Bool) (n k : ℕ) (cs : FieldRows) (t : List ℕ) → k < n → AreColumns n cs → HideNothing cs → EndsValue t
      → values_in first (first_of_each k cs) (fields_text first cs k ++ t) ≡ Some (first_of_each (k + 1) cs, t)
  values-again first n k no_columns t l h hidden ends = refl
  values-again first n k (column name c cs) t l h hidden ends =
      ap (values_in first (first_of_each k (column name c cs)))
      (append_assoc (comma first ++ value_text c k) (fields_text false cs k) t ∙ append_assoc (comma first) (value_text c k) (fields_text false cs k ++ t))
      ∙ ap (λ (o : Option (List ℕ)). option_and_then (λ x. option_map (before_fields name x.0) (values_in false (first_of_each k cs) x.1)) (option_and_then (λ u. value_in (first_rows k c) u) o))
      (comma-first first (value_text c k ++ (fields_text false cs k ++ t)))
      ∙ ap (option_and_then (λ x. option_map (before_fields name x.0) (values_in false (first_of_each k cs) x.1)))
      (value-again n k c (fields_text false cs k ++ t) l h.0 hidden.0 (field-ends cs k t ends))
      ∙ ap (option_map (before_fields name (first_rows (k + 1) c))) (values-again false n k cs t l h.1 hidden.1 ends)

-- ---- lines

line-again : (n k : ℕ) (c : Rows) → k < n → IsColumn n c → HidesNothing c → line_in (first_rows k c) (value_text c k) ≡ Some (first_rows (k + 1) c)
line-again n k c l h hidden =
    ap (λ t. option_and_then alone (value_in (first_rows k c) t)) (sym (append-nothing (value_text c k)))
    ∙ ap (option_and_then alone) (value-again n k c [] l h hidden feed-ends)
  where
    append-nothing : (xs : List ℕ) → xs ++ [] ≡ xs
    append-nothing [] = refl
    append-nothing (x ∷ xs) = ap (λ ys. x ∷ ys) (append-nothing xs)

-- a line without a line feed, and what follows
line-split : (x t : List ℕ) → list_all is_other x ≡ true → lines_of ((x ++ codes "\n") ++ t) ≡ x ∷ lines_of t
unfolding lines_of
line-split [] t h = refl
line-split (b ∷ x) t h =
    rw (other-test b (first-of (is_other b) _ h), line-split x t (second-of (is_other b) _ h)) refl

rows-again : (n k m : ℕ) (c : Rows) → k + m ≡ n → IsColumn n c → HidesNothing c → rows_behind (first_rows k c) k (lines_of (lines_from c k m)) ≡ Ok (first_rows n c)
unfolding rows_behind lines_of
rows-again n k zero c e h hidden = let same : k ≡ n = omega (arith, e) in ap (λ i. Ok (first_rows i c)) same
rows-again n k (suc m) c e h hidden =
    let less : k < n = omega (arith, e) in
    rw (line-split (value_text c k) (lines_from c (k + 1) m) (value-line c k), line-again n k c less h hidden) (rows-again n (k + 1) m c (omega (arith, e)) h hidden)

mutual
  pub length-of : (n : ℕ) (c : Rows) → IsColumn n c → rows_len c ≡ n
  length-of n (bools c) h = h.0
  length-of n (ints c) h = h.0
  length-of n (texts c) h = h.0
  length-of n (structs c cs) h = h.0

pub printed_again : (c : Rows) (n : ℕ) → IsColumn n c → HidesNothing c → rows_of (dtype_of c) (lines_text c) ≡ Ok c
printed_again c n h hidden =
    ap (λ (x : Rows). rows_behind x 0 (lines_of (lines_text c))) (sym (none-first c))
    ∙ ap (λ m. rows_behind (first_rows 0 c) 0 (lines_of (lines_from c 0 m))) (length-of n c h)
    ∙ rows-again n 0 n c (omega arith) h hidden
    ∙ ap Ok (all-first n c h)
