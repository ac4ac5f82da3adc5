-- What is read prints the lines that it was read from.
use Rattle.std.proofs.Common.{◌≡◌, ℕ, ℤ, zero, suc, pos, ◌+◌, ◌*◌, ◌-◌, ◌/◌, ◌%◌, ◌^◌, ◌<◌, Bool, true, false, cond, List, [], ◌∷◌, ◌++◌, length, Option, Some, None, Result, Ok, Err, refl, ap, sym, ◌∙◌, subst, arith, append_assoc}
use Rattle.std.specs.Prelude.{◌==◌, not, slice_index_or, codes, IfSome, IfOk}
use Rattle.std.specs.List.{flat_map}
use Rattle.std.specs.Fmt.{digits, digits_onto, digit_glyph, decimal, signed_decimal}
use Rattle.std.specs.Option.{option_map, option_and_then, option_or}
use Rattle.std.proofs.lemmas.Fmt.{decimal_digit}
use Rattle.std.proofs.lemmas.List.{get_or_append_left, get_or_push}
use Rattle.std.proofs.lemmas.Bool.Decides.{nat_tests}
use Rattle.vx_base.specs.Checks.{◌>>=◌, ◌lacking◌}
use Rattle.vx_data.specs.declared.ptype.PType.{PType}
use Rattle.vx_data.specs.Dtype.{Dtype}
use Rattle.vx_data.specs.Texts.{quoted, comma}
use Rattle.vx_data.specs.TextsRead.{after, quoted_in}
use Rattle.vx_data.proofs.QuotedBack.{quoted_in_only}
use Rattle.vx_rows.specs.declared.rows_error.RowsError.{RowsError}
use Rattle.vx_rows.specs.declared.rows_error.RowsError.TheVariants.{BadLine}
use Rattle.vx_rows.specs.Columns.{Structs}
use Rattle.vx_rows.specs.Written.{is_within}
use Rattle.vx_rows.specs.Rows.{Rows, FieldRows, bools, ints, texts, structs, no_columns, column, dtype_of, IsColumn, AreColumns}
use Rattle.vx_rows.specs.ValueTexts.{optional, bool_text, value_text, fields_text, line_text, lines_from, lines_text}
use Rattle.vx_rows.specs.ReadValues.{null_in, unless_null, optional_in, truth_in, is_digit, digits_in, natural_in, below_zero, signed_in, integer_in, within_range, number_in}
use Rattle.vx_rows.specs.ReadRows.{null_or, absent, all_absent, more_structs, null_struct, closed, struct_unless, before_fields, value_in, values_in, alone, line_in, lines_of, rows_behind, no_rows, rows_of}
use Rattle.vx_rows.proofs.DigitLemmas.{next_digit, past_digits, no_digits, grown}
use Rattle.vx_rows.proofs.DecimalLemmas.{tens, onto-append, glyph, small-above, small-below}
use Rattle.vx_rows.specs.PrintedRows.{fed}
use Rattle.vx_rows.proofs.PrintedBackLemmas.{length-of}
use Rattle.vx_rows.proofs.ReadSoundLemmas.{if-map, if-then, IsTyped, line-typed, empty-typed, read_is_column}

if-held : {A : Type 0} (o : Option A) (P Q : A → Type 0) → IfSome o P → ((x : A) → P x → Q x) → IfSome o Q
if-held None P Q h k = tt
if-held (Some x) P Q h k = k x h

-- ---- fronts

equal : (b c : ℕ) → (b == c) ≡ true → b ≡ c
equal b c h = grind (arith, nat_tests)

after-step : (c b : ℕ) (cs t : List ℕ) (v : Bool) → (b == c) ≡ v → IfSome (after cs t) (λ r. t ≡ cs ++ r) → IfSome (cond v (after cs t) None) (λ r. b ∷ t ≡ (c ∷ cs) ++ r)
after-step c b cs t true e h = if-same (after cs t) h
  where
    if-same : (o : Option (List ℕ)) → IfSome o (λ r. t ≡ cs ++ r) → IfSome o (λ r. b ∷ t ≡ (c ∷ cs) ++ r)
    if-same None k = tt
    if-same (Some r) k = ap (λ x. x ∷ t) (equal b c e) ∙ ap (λ xs. c ∷ xs) k
after-step c b cs t false e h = tt

after-only : (front t : List ℕ) → IfSome (after front t) (λ r. t ≡ front ++ r)
after-only [] t = refl
after-only (c ∷ cs) [] = tt
after-only (c ∷ cs) (b ∷ t) = after-step c b cs t (b == c) refl (after-only cs t)

null-only : (nullable : Bool) (t : List ℕ) → IfSome (null_in nullable t) (λ r. t ≡ codes "~" ++ r)
null-only true t = after-only (codes "~") t
null-only false t = tt

unless-only : {A : Type 0} (text : A → List ℕ) (t : List ℕ) (null : Option (List ℕ)) (value : Option (A × List ℕ)) → IfSome null (λ r. t ≡ codes "~" ++ r) → IfSome value (λ x. t ≡ text x.0 ++ x.1)
    → IfSome (unless_null null value) (λ x. t ≡ optional text x.0 ++ x.1)
unless-only text t (Some r) value h k = h
unless-only text t None None h k = tt
unless-only text t None (Some x) h k = k

or-only : {A : Type 0} (Q : A → Type 0) (a b : Option A) → IfSome a Q → IfSome b Q → IfSome (option_or a b) Q
or-only Q None b h k = k
or-only Q (Some x) b h k = h

truth-only : (t : List ℕ) → IfSome (truth_in t) (λ x. t ≡ bool_text x.0 ++ x.1)
truth-only t =
    or-only (λ (x : Bool × List ℕ). t ≡ bool_text x.0 ++ x.1) (option_map (λ rest. (true, rest)) (after (codes "true") t)) (option_map (λ rest. (false, rest)) (after (codes "false") t))
    (if-map (λ rest. (true, rest)) (λ r. t ≡ codes "true" ++ r) (λ (x : Bool × List ℕ). t ≡ bool_text x.0 ++ x.1) (after (codes "true") t) (after-only (codes "true") t) (λ r h. h))
    (if-map (λ rest. (false, rest)) (λ r. t ≡ codes "false" ++ r) (λ (x : Bool × List ℕ). t ≡ bool_text x.0 ++ x.1) (after (codes "false") t) (after-only (codes "false") t) (λ r h. h))

quoted-only : (t : List ℕ) → IfSome (quoted_in t) (λ x. t ≡ quoted x.0 ++ x.1)
quoted-only t = step (quoted_in t) refl
  where
    step : (o : Option (List ℕ × List ℕ)) → quoted_in t ≡ o → IfSome o (λ x. t ≡ quoted x.0 ++ x.1)
    step None h = tt
    step (Some x) h = (quoted_in_only t x.0 x.1 h).0

-- ---- numbers

cond-same : {A : Type 0} (b : Bool) (x y z : A) → y ≡ z → cond b x y ≡ cond b x z
cond-same true x y z e = refl
cond-same false x y z e = e

-- a place more than are needed changes nothing
more-places : (k n : ℕ) (acc : List ℕ) → n < tens (suc k) → digits_onto (suc k) 10 false n acc ≡ digits_onto (suc (suc k)) 10 false n acc
unfolding tens
more-places zero n acc less =
    let none : n / 10 ≡ 0 = omega (arith, less) in
    rw none refl
more-places (suc k) n acc less =
    cond-same (n / 10 == 0) (digit_glyph false (n % 10) ∷ acc) (digits_onto (suc k) 10 false (n / 10) (digit_glyph false (n % 10) ∷ acc))
    (digits_onto (suc (suc k)) 10 false (n / 10) (digit_glyph false (n % 10) ∷ acc)) (more-places k (n / 10) (digit_glyph false (n % 10) ∷ acc) (omega (arith, less)))

not-none : (q : ℕ) → 0 < q → (q == 0) ≡ false
not-none q h = grind (arith, nat_tests)

last-place : (n q r : ℕ) → n / 10 ≡ q → n % 10 ≡ r → 0 < q → digits_onto 64 10 false n [] ≡ digits_onto 63 10 false q (digit_glyph false r ∷ [])
last-place n q r e f some = rw (e, f, not-none q some) refl

decimal-more : (x d : ℕ) → 0 < x → d < 10 → x < tens 63 → decimal x ++ (48 + d) ∷ [] ≡ decimal (10 * x + d)
unfolding digits
decimal-more x d some less room =
    onto-append 64 x [] ((48 + d) ∷ []) ∙ sym (more-places 62 x ((48 + d) ∷ []) room)
    ∙ ap (λ c. digits_onto 63 10 false x (c ∷ [])) (sym (glyph d less)) ∙ sym (last-place (10 * x + d) x d (omega (arith, less)) (omega (arith, less)) some)

places : (n : ℕ) → n < 2 ^ 64 → n < tens 63
unfolding tens
places n h = omega (arith, h)

digit-value : (c : ℕ) → is_digit c ≡ true → (c - 48 < 10) × (48 + (c - 48) ≡ c)
digit-value c h = (grind (arith, nat_tests), grind (arith, nat_tests))

digits-step : (x c : ℕ) (cs : List ℕ) (b : Bool) → is_digit c ≡ b → 0 < x → (digits_in x (c ∷ cs)).0 < 2 ^ 64
    → ((m : ℕ) → 0 < m → (digits_in m cs).0 < 2 ^ 64 → decimal m ++ cs ≡ decimal (digits_in m cs).0 ++ (digits_in m cs).1)
    → decimal x ++ c ∷ cs ≡ decimal (digits_in x (c ∷ cs)).0 ++ (digits_in x (c ∷ cs)).1
digits-step x c cs true e some less more =
    let next = next_digit x c cs e in
    let least = grown (10 * x + (c - 48)) cs in
    let below : (digits_in (10 * x + (c - 48)) cs).0 < 2 ^ 64 = subst (λ (p : ℕ × List ℕ). p.0 < 2 ^ 64) next less in
    let digit = digit-value c e in
    sym (append_assoc (decimal x) (c ∷ []) cs)
    ∙ ap (λ d. (decimal x ++ d ∷ []) ++ cs) (sym digit.1)
    ∙ ap (λ xs. xs ++ cs) (decimal-more x (c - 48) some digit.0 (places x (omega (arith, least, below))))
    ∙ more (10 * x + (c - 48)) (omega (arith, some)) below
    ∙ ap (λ (p : ℕ × List ℕ). decimal p.0 ++ p.1) (sym next)
digits-step x c cs false e some less more = ap (λ (p : ℕ × List ℕ). decimal p.0 ++ p.1) (sym (past_digits x c cs e))

digits-only : (x : ℕ) (t : List ℕ) → 0 < x → (digits_in x t).0 < 2 ^ 64 → decimal x ++ t ≡ decimal (digits_in x t).0 ++ (digits_in x t).1
digits-only x [] some less = ap (λ (p : ℕ × List ℕ). decimal p.0 ++ p.1) (sym (no_digits x))
digits-only x (c ∷ cs) some less = digits-step x c cs (is_digit c) refl some less (λ m k l. digits-only m cs k l)

zero-text : decimal 0 ≡ 48 ∷ []
unfolding digits
zero-text = refl

not-zero-digit : (c : ℕ) → (c == 48) ≡ false → is_digit c ≡ true → 0 < c - 48
not-zero-digit c h k = grind (arith, nat_tests)

-- a number is read from its text
abbrev IsNatural : List ℕ → ℕ × List ℕ → Type 0
IsNatural t x = x.0 < 2 ^ 64 → t ≡ decimal x.0 ++ x.1

natural-step : (c : ℕ) (cs : List ℕ) (z d : Bool) → (c == 48) ≡ z → is_digit c ≡ d → IfSome (cond z (Some (0, cs)) (cond d (Some (digits_in (c - 48) cs)) None)) (IsNatural (c ∷ cs))
natural-step c cs true d e f = λ less. ap (λ x. x ∷ cs) (equal c 48 e) ∙ ap (λ xs. xs ++ cs) (sym zero-text)
natural-step c cs false true e f = λ less.
    let digit = digit-value c f in
    ap (λ x. x ∷ cs) (sym digit.1) ∙ ap (λ xs. xs ++ cs) (sym (decimal_digit (c - 48) digit.0)) ∙ digits-only (c - 48) cs (not-zero-digit c e f) less
natural-step c cs false false e f = tt

natural-only : (t : List ℕ) → IfSome (natural_in t) (IsNatural t)
unfolding natural_in
natural-only [] = tt
natural-only (c ∷ cs) = natural-step c cs (c == 48) (is_digit c) refl refl

abbrev IsInteger : PType → List ℕ → ℤ × List ℕ → Type 0
IsInteger p t x = is_within p x.0 ≡ true → t ≡ signed_decimal x.0 ++ x.1

below-only : (p : PType) (t rest : List ℕ) (x : ℕ × List ℕ) → t ≡ codes "-" ++ rest → IsNatural rest x → IfSome (below_zero x) (IsInteger p t)
below-only p t rest (zero, r) e h = tt
below-only p t rest (suc n, r) e h = λ within. e ∙ ap (λ xs. codes "-" ++ xs) (h (small-below p n within))

signed-only : (p : PType) (t : List ℕ) (sign : Option (List ℕ)) → IfSome sign (λ r. t ≡ codes "-" ++ r) → IfSome (signed_in t sign) (IsInteger p t)
signed-only p t (Some rest) h = if-then below_zero (IsNatural rest) (IsInteger p t) (natural_in rest) (natural-only rest) (λ x k. below-only p t rest x h k)
signed-only p t None h = if-map (λ (x : ℕ × List ℕ). (pos x.0, x.1)) (IsNatural t) (IsInteger p t) (natural_in t) (natural-only t) (λ x k within. k (small-above p x.0 within))

range-only : (p : PType) (t : List ℕ) (x : ℤ × List ℕ) → IsInteger p t x → IfSome (within_range p x) (λ y. t ≡ signed_decimal y.0 ++ y.1)
range-only p t x h = step (is_within p x.0) refl
  where
    step : (b : Bool) → is_within p x.0 ≡ b → IfSome (cond b (Some x) None) (λ y. t ≡ signed_decimal y.0 ++ y.1)
    step true e = h e
    step false e = tt

number-only : (p : PType) (t : List ℕ) → IfSome (number_in p t) (λ x. t ≡ signed_decimal x.0 ++ x.1)
number-only p t =
    if-then (within_range p) (IsInteger p t) (λ x. t ≡ signed_decimal x.0 ++ x.1) (integer_in t) (signed-only p t (after (codes "-") t) (after-only (codes "-") t)) (λ x h. range-only p t x h)

-- ---- values

-- the text of the last row was read, and those of the rows before it stand as they did
abbrev Reads : ℕ → Rows → List ℕ → Rows × List ℕ → Type 0
Reads n c t x = (t ≡ value_text x.0 n ++ x.1) × ((i : ℕ) → i < n → value_text x.0 i ≡ value_text c i)

abbrev ReadsAll : Bool → ℕ → FieldRows → List ℕ → FieldRows × List ℕ → Type 0
ReadsAll first n cs t x = (t ≡ fields_text first x.0 n ++ x.1) × ((b : Bool) (i : ℕ) → i < n → fields_text b x.0 i ≡ fields_text b cs i)

row-last : {A : Type 0} (n : ℕ) (rows : List (Option A)) (row : Option A) (text : A → List ℕ) (t r : List ℕ) → length rows ≡ n → t ≡ optional text row ++ r
    → t ≡ optional text (slice_index_or (rows ++ row ∷ []) n None) ++ r
row-last n rows row text t r l e = e ∙ ap (λ (x : Option _). optional text x ++ r) (sym (get_or_push rows row None n l))

row-old : {A : Type 0} (n : ℕ) (rows : List (Option A)) (row : Option A) (text : A → List ℕ) → length rows ≡ n → (i : ℕ) → i < n
    → optional text (slice_index_or (rows ++ row ∷ []) i None) ≡ optional text (slice_index_or rows i None)
row-old n rows row text l i less = ap (optional text) (get_or_append_left rows (row ∷ []) None i (omega (arith, l, less)))

struct-old : (n : ℕ) (present : List Bool) (b : Bool) (xs ys : List ℕ) → length present ≡ n → (i : ℕ) → i < n → xs ≡ ys
    → cond (slice_index_or (present ++ b ∷ []) i true) (codes "(" ++ xs ++ codes ")") (codes "~") ≡ cond (slice_index_or present i true) (codes "(" ++ ys ++ codes ")") (codes "~")
struct-old n present b xs ys l i less e =
    ap (λ h. cond h (codes "(" ++ xs ++ codes ")") (codes "~")) (get_or_append_left present (b ∷ []) true i (omega (arith, l, less)))
    ∙ ap (λ zs. cond (slice_index_or present i true) (codes "(" ++ zs ++ codes ")") (codes "~")) e

struct-last : (n : ℕ) (present : List Bool) (b : Bool) (xs : List ℕ) → length present ≡ n
    → cond (slice_index_or (present ++ b ∷ []) n true) (codes "(" ++ xs ++ codes ")") (codes "~") ≡ cond b (codes "(" ++ xs ++ codes ")") (codes "~")
struct-last n present b xs l = ap (λ h. cond h (codes "(" ++ xs ++ codes ")") (codes "~")) (get_or_push present b true n l)

mutual
  absent-old : (n : ℕ) (c : Rows) → IsColumn n c → (i : ℕ) → i < n → value_text (absent c) i ≡ value_text c i
  absent-old n (bools c) h i less = row-old n c.rows (null_or c.nullable false) bool_text h.0 i less
  absent-old n (ints c) h i less = row-old n c.rows (null_or c.nullable (pos 0)) signed_decimal h.0 i less
  absent-old n (texts c) h i less = row-old n c.rows (null_or c.nullable []) quoted h.0 i less
  absent-old n (structs c cs) h i less =
      struct-old n c.present (not c.nullable) (fields_text true (all_absent cs) i) (fields_text true cs i) h.0 i less (all-absent-old true n cs h.2 i less)

  all-absent-old : (first : Bool) (n : ℕ) (cs : FieldRows) → AreColumns n cs → (i : ℕ) → i < n → fields_text first (all_absent cs) i ≡ fields_text first cs i
  all-absent-old first n no_columns h i less = refl
  all-absent-old first n (column name c cs) h i less =
      ap (λ xs. comma first ++ xs ++ fields_text false (all_absent cs) i) (absent-old n c h.0 i less)
      ∙ ap (λ xs. comma first ++ value_text c i ++ xs) (all-absent-old false n cs h.1 i less)

null-reads : (n : ℕ) (c : Structs) (cs : FieldRows) (t : List ℕ) (null : Option (List ℕ)) → IsColumn n (structs c cs) → IfSome null (λ r. t ≡ codes "~" ++ r)
    → IfSome (option_map (null_struct c cs) null) (Reads n (structs c cs) t)
null-reads n c cs t None h e = tt
null-reads n c cs t (Some r) h e = (
  e ∙ ap (λ xs. xs ++ r) (sym (struct-last n c.present false (fields_text true (all_absent cs) n) h.0)),
  λ i less. struct-old n c.present false (fields_text true (all_absent cs) i) (fields_text true cs i) h.0 i less (all-absent-old true n cs h.2 i less),
)

closed-text : (t inside behind x rest : List ℕ) → t ≡ codes "(" ++ inside → inside ≡ x ++ behind → behind ≡ codes ")" ++ rest → t ≡ (codes "(" ++ x ++ codes ")") ++ rest
closed-text t inside behind x rest e f g =
    e ∙ ap (λ xs. codes "(" ++ xs) (f ∙ ap (λ xs. x ++ xs) g ∙ sym (append_assoc x (codes ")") rest))

closed-reads : (n : ℕ) (c : Structs) (cs : FieldRows) (t inside : List ℕ) (x : FieldRows × List ℕ) → length c.present ≡ n → t ≡ codes "(" ++ inside → ReadsAll true n cs inside x
    → IfSome (closed c x) (Reads n (structs c cs) t)
closed-reads n c cs t inside x l e h =
    if-map (λ rest. (structs (more_structs c true) x.0, rest)) (λ r. x.1 ≡ codes ")" ++ r) (Reads n (structs c cs) t) (after (codes ")") x.1) (after-only (codes ")") x.1) (λ rest g. (
      closed-text t inside x.1 (fields_text true x.0 n) rest e h.0 g ∙ ap (λ xs. xs ++ rest) (sym (struct-last n c.present true (fields_text true x.0 n) l)),
      λ i less. struct-old n c.present true (fields_text true x.0 i) (fields_text true cs i) l i less (h.1 true i less),
    ))

unless-reads : (Q : Rows × List ℕ → Type 0) (null value : Option (Rows × List ℕ)) → IfSome null Q → IfSome value Q → IfSome (struct_unless null value) Q
unless-reads Q (Some x) value h k = h
unless-reads Q None value h k = k

fields-text : (first : Bool) (n : ℕ) (c : Rows) (cs : FieldRows) (t u v r : List ℕ) → t ≡ comma first ++ u → u ≡ value_text c n ++ v → v ≡ fields_text false cs n ++ r
    → t ≡ (comma first ++ value_text c n ++ fields_text false cs n) ++ r
fields-text first n c cs t u v r e f g =
    e ∙ ap (λ xs. comma first ++ xs) (f ∙ ap (λ xs. value_text c n ++ xs) g)
    ∙ sym (append_assoc (comma first) (value_text c n) (fields_text false cs n ++ r)) ∙ sym (append_assoc (comma first ++ value_text c n) (fields_text false cs n) r)

mutual
  value-reads : (n : ℕ) (c : Rows) (t : List ℕ) → IsColumn n c → IfSome (value_in c t) (Reads n c t)
  value-reads n (bools c) t h =
      if-map _ (λ (x : Option Bool × List ℕ). t ≡ optional bool_text x.0 ++ x.1) (Reads n (bools c) t) (optional_in truth_in c.nullable t)
      (unless-only bool_text t (null_in c.nullable t) (truth_in t) (null-only c.nullable t) (truth-only t))
      (λ x e. (row-last n c.rows x.0 bool_text t x.1 h.0 e, row-old n c.rows x.0 bool_text h.0))
  value-reads n (ints c) t h =
      if-map _ (λ (x : Option ℤ × List ℕ). t ≡ optional signed_decimal x.0 ++ x.1) (Reads n (ints c) t) (optional_in (number_in c.ptype) c.nullable t)
      (unless-only signed_decimal t (null_in c.nullable t) (number_in c.ptype t) (null-only c.nullable t) (number-only c.ptype t))
      (λ x e. (row-last n c.rows x.0 signed_decimal t x.1 h.0 e, row-old n c.rows x.0 signed_decimal h.0))
  value-reads n (texts c) t h =
      if-map _ (λ (x : Option (List ℕ) × List ℕ). t ≡ optional quoted x.0 ++ x.1) (Reads n (texts c) t) (optional_in quoted_in c.nullable t)
      (unless-only quoted t (null_in c.nullable t) (quoted_in t) (null-only c.nullable t) (quoted-only t))
      (λ x e. (row-last n c.rows x.0 quoted t x.1 h.0 e, row-old n c.rows x.0 quoted h.0))
  value-reads n (structs c cs) t h =
      unless-reads (Reads n (structs c cs) t) (option_map (null_struct c cs) (null_in c.nullable t)) _ (null-reads n c cs t (null_in c.nullable t) h (null-only c.nullable t))
      (if-then _ (λ inside. t ≡ codes "(" ++ inside) (Reads n (structs c cs) t) (after (codes "(") t) (after-only (codes "(") t)
      (λ inside e. if-then (closed c) (ReadsAll true n cs inside) (Reads n (structs c cs) t) (values_in true cs inside) (values-read true n cs inside h.2) (λ x k. closed-reads n c cs t inside x h.0 e k)))

  values-read : (first : Bool) (n : ℕ) (cs : FieldRows) (t : List ℕ) → AreColumns n cs → IfSome (values_in first cs t) (ReadsAll first n cs t)
  values-read first n no_columns t h = (refl, λ b i less. refl)
  values-read first n (column name c cs) t h =
      if-then _ (λ (x : Rows × List ℕ). (u : List ℕ) × (t ≡ comma first ++ u) × Reads n c u x) (ReadsAll first n (column name c cs) t) (option_and_then (λ u. value_in c u) (after (comma first) t))
      (if-then (λ u. value_in c u) (λ u. t ≡ comma first ++ u) (λ (x : Rows × List ℕ). (u : List ℕ) × (t ≡ comma first ++ u) × Reads n c u x) (after (comma first) t) (after-only (comma first) t)
      (λ u e. if-held (value_in c u) (Reads n c u) (λ x. (w : List ℕ) × (t ≡ comma first ++ w) × Reads n c w x) (value-reads n c u h.0) (λ x k. (u, e, k))))
      (λ x here. if-map (before_fields name x.0) (ReadsAll false n cs x.1) (ReadsAll first n (column name c cs) t) (values_in false cs x.1) (values-read false n cs x.1 h.1) (λ y rest. (
        fields-text first n x.0 y.0 t here.0 x.1 y.1 here.1 here.2.0 rest.0,
        λ b i less. ap (λ xs. comma b ++ xs ++ fields_text false y.0 i) (here.2.1 i less) ∙ ap (λ xs. comma b ++ value_text c i ++ xs) (rest.1 false i less),
      )))

-- ---- lines

-- a line and its line feed
fed-only : (n : ℕ) (c : Rows) (line : List ℕ) → IsColumn n c → IfSome (line_in c line) (λ d. (line ≡ value_text d n) × ((i : ℕ) → i < n → value_text d i ≡ value_text c i))
fed-only n c line h =
    if-then alone (Reads n c line) (λ d. (line ≡ value_text d n) × ((i : ℕ) → i < n → value_text d i ≡ value_text c i)) (value_in c line) (value-reads n c line h) (λ x k. ended x k)
  where
    nothing : (xs ys : List ℕ) → length ys ≡ 0 → xs ++ ys ≡ xs
    nothing [] [] e = refl
    nothing [] (y ∷ ys) e = cc
    nothing (x ∷ xs) ys e = ap (λ zs. x ∷ zs) (nothing xs ys e)

    is-empty : (m : ℕ) → (m == 0) ≡ true → m ≡ 0
    is-empty m e = grind (arith, nat_tests)

    step : (x : Rows × List ℕ) (b : Bool) → (length x.1 == 0) ≡ b → Reads n c line x → IfSome (cond b (Some x.0) None) (λ d. (line ≡ value_text d n) × ((i : ℕ) → i < n → value_text d i ≡ value_text c i))
    step x true e k = (k.0 ∙ nothing (value_text x.0 n) x.1 (is-empty (length x.1) e), k.1)
    step x false e k = tt

    ended : (x : Rows × List ℕ) → Reads n c line x → IfSome (alone x) (λ d. (line ≡ value_text d n) × ((i : ℕ) → i < n → value_text d i ≡ value_text c i))
    ended x k = step x (length x.1 == 0) refl k

lines-same : (c d : Rows) (k m : ℕ) → ((i : ℕ) → i < k + m → value_text d i ≡ value_text c i) → lines_from d k m ≡ lines_from c k m
lines-same c d k zero h = refl
lines-same c d k (suc m) h =
    ap (λ xs. (xs ++ codes "\n") ++ lines_from d (k + 1) m) (h k (omega arith)) ∙ ap (λ xs. line_text c k ++ xs) (lines-same c d (k + 1) m (λ i l. h i (omega (arith, l))))

append-none : (xs : List ℕ) → xs ++ [] ≡ xs
append-none [] = refl
append-none (x ∷ xs) = ap (λ ys. x ∷ ys) (append-none xs)

lines-last : (d : Rows) (k m : ℕ) → lines_from d k (suc m) ≡ lines_from d k m ++ line_text d (k + m)
lines-last d k zero = append-none (line_text d k) ∙ ap (line_text d) (omega arith)
lines-last d k (suc m) =
    ap (λ xs. line_text d k ++ xs) (lines-last d (k + 1) m ∙ ap (λ i. lines_from d (k + 1) m ++ line_text d i) (omega arith))
    ∙ sym (append_assoc (line_text d k) (lines_from d (k + 1) m) (line_text d (k + suc m)))

-- a row more is a line more
line-more : (n : ℕ) (c d : Rows) (line : List ℕ) → line ≡ value_text d n → ((i : ℕ) → i < n → value_text d i ≡ value_text c i) → lines_from d 0 (n + 1) ≡ lines_from c 0 n ++ fed line
line-more n c d line e old =
    let count : n + 1 ≡ suc n = omega arith in
    let place : 0 + n ≡ n = omega arith in
    ap (lines_from d 0) count ∙ lines-last d 0 n ∙ ap (λ i. lines_from d 0 n ++ line_text d i) place
    ∙ ap (λ xs. xs ++ line_text d n) (lines-same c d 0 n (λ i l. old i (omega (arith, l)))) ∙ ap (λ xs. lines_from c 0 n ++ (xs ++ codes "\n")) (sym e)

abbrev Printed : ℕ → Rows → List (List ℕ) → Rows → Type 0
Printed n c lines d = lines_from d 0 (n + length lines) ≡ lines_from c 0 n ++ flat_map fed lines

ok-held : (r : Result Rows RowsError) (P Q : Rows → Type 0) → IfOk r P → ((c : Rows) → P c → Q c) → IfOk r Q
ok-held (Ok c) P Q h k = k c h
ok-held (Err e) P Q h k = tt

next-printed : (n number : ℕ) (c : Rows) (line : List ℕ) (lines : List (List ℕ)) (o : Option Rows) → IfSome o (IsColumn (n + 1))
    → IfSome o (λ d. (line ≡ value_text d n) × ((i : ℕ) → i < n → value_text d i ≡ value_text c i))
    → ((d : Rows) → IsColumn (n + 1) d → IfOk (rows_behind d (number + 1) lines) (Printed (n + 1) d lines))
    → IfOk ((BadLine number lacking o) >>= λ more. rows_behind more (number + 1) lines) (Printed n c (line ∷ lines))
next-printed n number c line lines None h g more = tt
next-printed n number c line lines (Some d) h g more =
    ok-held (rows_behind d (number + 1) lines) (Printed (n + 1) d lines) (Printed n c (line ∷ lines)) (more d h) (λ e k.
    let count : n + suc (length lines) ≡ n + 1 + length lines = omega arith in
    ap (lines_from e 0) count ∙ k ∙ ap (λ xs. xs ++ flat_map fed lines) (line-more n c d line g.0 g.1) ∙ append_assoc (lines_from c 0 n) (fed line) (flat_map fed lines))

lines-printed : (n number : ℕ) (c : Rows) (lines : List (List ℕ)) → IsColumn n c → IfOk (rows_behind c number lines) (Printed n c lines)
unfolding rows_behind
lines-printed n number c [] h = let count : n + 0 ≡ n = omega arith in ap (lines_from c 0) count ∙ sym (append-none (lines_from c 0 n))
lines-printed n number c (line ∷ lines) h =
    next-printed n number c line lines (line_in c line) (if-held (line_in c line) (IsTyped (n + 1) (dtype_of c)) (IsColumn (n + 1)) (line-typed n c line h) (λ d k. k.0)) (fed-only n c line h)
    (λ d k. lines-printed (n + 1) (number + 1) d lines k)

pub read_only : (d : Dtype) (t : List ℕ) (c : Rows) → rows_of d t ≡ Ok c → lines_text c ≡ flat_map fed (lines_of t)
read_only d t c e =
    let count = length-of (length (lines_of t)) c (read_is_column d t c e) in
    let printed : IfOk (rows_of d t) (Printed 0 (no_rows d) (lines_of t)) = lines-printed 0 0 (no_rows d) (lines_of t) (empty-typed d).0 in
    ap (lines_from c 0) (count ∙ omega arith) ∙ subst (λ (r : Result Rows RowsError). IfOk r (Printed 0 (no_rows d) (lines_of t))) e printed
