-- The text of a type is read back, and what is read is spelled so.
use Rattle.std.proofs.Common.{◌≡◌, ℕ, zero, suc, ◌+◌, ◌-◌, ◌<◌, ◌≤◌, Bool, true, false, List, [], ◌∷◌, ◌++◌, length, Option, Some, None, refl, sym, ap, subst, ◌∙◌, arith, append_assoc, length-append, ◌⊎◌, inl, inr, ◌/◌, ◌%◌}
use Rattle.std.specs.Prelude.{◌==◌, max, if◌then◌else◌, codes}
use Rattle.std.specs.Option.{option_map, option_and_then, option_or}
use Rattle.std.specs.List.{flat_map}
use Rattle.std.specs.Str.{is_utf8}
use Rattle.std.proofs.lemmas.Bool.Decides.{nat_tests}
use Rattle.std.proofs.lemmas.List.{append-nil}
use Rattle.vx_tables.specs.Field.{◌>>=◌}
use Rattle.vx_data.specs.declared.ptype.PType.{PType}
use Rattle.vx_data.specs.declared.ptype.PType.TheVariants.{U8, U16, U32, U64, I8, I16, I32, I64}
use Rattle.vx_data.specs.Dtype.{Dtype, bool, int, text, struct, FieldList, no_fields, field}
use Rattle.vx_data.specs.DtypeWritten.{levels_of, most_levels, HasTexts, HaveTexts}
use Rattle.vx_data.specs.Texts.{is_quote_plain, upper_hex_digit, quoted_byte, quoted, ptype_name, mark, comma, name_text, dtype_text, fields_text}
use Rattle.vx_data.specs.TextsRead.{quote_length, quoted_in, after, marked_by, mark_in, marked, ptype_among, ptypes, plain_in, name_in, with_field, behind_field, fields_in, struct_in, as_struct, type_in, dtype_in, alone, dtype_of_text}
use Rattle.vx_data.proofs.QuotedBack.{quoted_in_again, quoted_in_only}

-- ---- fronts

same_test : (n : ℕ) → (n == n) ≡ true
same_test n = grind (arith, nat_tests)

test_same : (m n : ℕ) → (m == n) ≡ true → m ≡ n
test_same m n e = grind (arith, nat_tests)

after_again : (front t : List ℕ) → after front (front ++ t) ≡ Some t
after_again [] t = refl
after_again (c ∷ cs) t = rw (same_test c) (after_again cs t)

after_case : (same : Bool) (c b : ℕ) (cs t r : List ℕ) → (b == c) ≡ same → (after cs t ≡ Some r → t ≡ cs ++ r)
    → (if same then after cs t else None) ≡ Some r → b ∷ t ≡ c ∷ (cs ++ r)
after_case true c b cs t r is more e = rw (test_same b c is, more e) refl
after_case false c b cs t r is more e = absurd cc

after_only : (front t r : List ℕ) → after front t ≡ Some r → t ≡ front ++ r
after_only [] t r e = cc
after_only (c ∷ cs) [] r e = absurd cc
after_only (c ∷ cs) (b ∷ t) r e = after_case (b == c) c b cs t r refl (after_only cs t r) e

-- ---- marks

NoMark : List ℕ → Type 0
NoMark r = after (codes "?") r ≡ None

mark_again : (n : Bool) (r : List ℕ) → NoMark r → mark_in (mark n ++ r) ≡ (n, r)
unfolding NoMark
mark_again true r none = refl
mark_again false r none = rw none refl

mark_case : (o : Option (List ℕ)) (t : List ℕ) → after (codes "?") t ≡ o → t ≡ mark (marked_by t o).0 ++ (marked_by t o).1
mark_case None t e = refl
mark_case (Some r) t e = after_only (codes "?") t r e

mark_only : (t : List ℕ) → t ≡ mark (mark_in t).0 ++ (mark_in t).1
mark_only t = mark_case (after (codes "?") t) t refl

-- ---- types that are no structs

ints_again : (p : PType) (n : Bool) (r : List ℕ) → NoMark r → plain_in (ptype_name p ++ mark n ++ r) ≡ Some (int p n, r)
unfolding plain_in
ints_again U8 n r none = ap (λ (m : Bool × List ℕ). Some (int U8 m.0, m.1)) (mark_again n r none)
ints_again U16 n r none = ap (λ (m : Bool × List ℕ). Some (int U16 m.0, m.1)) (mark_again n r none)
ints_again U32 n r none = ap (λ (m : Bool × List ℕ). Some (int U32 m.0, m.1)) (mark_again n r none)
ints_again U64 n r none = ap (λ (m : Bool × List ℕ). Some (int U64 m.0, m.1)) (mark_again n r none)
ints_again I8 n r none = ap (λ (m : Bool × List ℕ). Some (int I8 m.0, m.1)) (mark_again n r none)
ints_again I16 n r none = ap (λ (m : Bool × List ℕ). Some (int I16 m.0, m.1)) (mark_again n r none)
ints_again I32 n r none = ap (λ (m : Bool × List ℕ). Some (int I32 m.0, m.1)) (mark_again n r none)
ints_again I64 n r none = ap (λ (m : Bool × List ℕ). Some (int I64 m.0, m.1)) (mark_again n r none)

bools_again : (n : Bool) (r : List ℕ) → NoMark r → plain_in (codes "bool" ++ mark n ++ r) ≡ Some (bool n, r)
unfolding plain_in
bools_again n r none = ap (λ (m : Bool × List ℕ). Some (bool m.0, m.1)) (mark_again n r none)

texts_again : (n : Bool) (r : List ℕ) → NoMark r → plain_in (codes "text" ++ mark n ++ r) ≡ Some (text n, r)
unfolding plain_in
texts_again n r none = ap (λ (m : Bool × List ℕ). Some (text m.0, m.1)) (mark_again n r none)

no_brace : (p : PType) (m r : List ℕ) → after (codes "{") ((ptype_name p ++ m) ++ r) ≡ None
no_brace U8 m r = refl
no_brace U16 m r = refl
no_brace U32 m r = refl
no_brace U64 m r = refl
no_brace I8 m r = refl
no_brace I16 m r = refl
no_brace I32 m r = refl
no_brace I64 m r = refl

-- ---- fields

colon_stops : (t : List ℕ) → quote_length (58 ∷ t) ≡ 0
unfolding quote_length
colon_stops t = refl

name_again : (n t : List ℕ) → is_utf8 n ≡ true → name_in (name_text n ++ t) ≡ Some (n, t)
unfolding name_in
name_again n t e = rw (append_assoc (quoted n) (58 ∷ []) t, quoted_in_again n (58 ∷ t) e (colon_stops t)) refl

-- what stands behind a field
abbrev rest_text : FieldList → List ℕ → List ℕ
rest_text fs s = fields_text false fs ++ 125 ∷ s

no_mark_behind : (fs : FieldList) (s : List ℕ) → NoMark (rest_text fs s)
unfolding NoMark
no_mark_behind no_fields s = refl
no_mark_behind (field n d fs) s = refl

count : FieldList → ℕ
count no_fields = 0
count (field n d fs) = suc (count fs)

count_le : (fs : FieldList) (first : Bool) → count fs ≤ length (fields_text first fs)
unfolding count
count_le no_fields first = omega arith
count_le (field n d fs) first =
    omega (
      arith,
      length-append (comma first ++ name_text n ++ dtype_text d) (fields_text false fs),
      length-append (comma first ++ name_text n) (dtype_text d),
      length-append (comma first) (name_text n),
      length-append (quoted n) (codes ":"),
      count_le fs false,
    )

levels_some : (d : Dtype) → 1 ≤ levels_of d
levels_some (bool n) = omega arith
levels_some (int p n) = omega arith
levels_some (text n) = omega arith
levels_some (struct fs n) = omega arith

count_more : (n : List ℕ) (d : Dtype) (fs : FieldList) → suc (count fs) ≤ length (fields_text true (field n d fs))
unfolding count
count_more n d fs = count_le (field n d fs) true

none_more : (n : List ℕ) (d : Dtype) (fs : FieldList) → count (field n d fs) ≤ 0 → ⊥
unfolding count
none_more n d fs le = omega arith

one_less : (n : List ℕ) (d : Dtype) (fs : FieldList) (m : ℕ) → count (field n d fs) ≤ suc m → count fs ≤ m
unfolding count
one_less n d fs m le = omega arith

no_mark_end : NoMark []
unfolding NoMark
no_mark_end = refl

-- one field, and what comes behind it
field_again : (read : List ℕ → Option (Dtype × List ℕ)) (n : List ℕ) (d : Dtype) (fs : FieldList) (m : ℕ) (s : List ℕ)
    → is_utf8 n ≡ true → read (dtype_text d ++ rest_text fs s) ≡ Some (d, rest_text fs s)
    → behind_field n d (fields_in read m) (rest_text fs s) (after (codes "}") (rest_text fs s)) ≡ Some (field n d fs, s)
    → fields_in read (suc m) (fields_text true (field n d fs) ++ 125 ∷ s) ≡ Some (field n d fs, s)
unfolding fields_in
field_again read n d fs m s e type more =
    let split : fields_text true (field n d fs) ++ 125 ∷ s ≡ name_text n ++ (dtype_text d ++ rest_text fs s) = simp append_assoc in
    rw (split, name_again n (dtype_text d ++ rest_text fs s) e, type) more

not_brace : (b : ℕ) → is_quote_plain b ≡ true → (b == 125) ≡ false
not_brace b e = grind (arith, nat_tests)

head_case : (plain : Bool) (b : ℕ) (t : List ℕ) → is_quote_plain b ≡ plain
    → after (codes "}") ((if plain then b ∷ [] else 37 ∷ upper_hex_digit (b / 16) ∷ upper_hex_digit (b % 16) ∷ []) ++ t) ≡ None
head_case true b t e = rw (not_brace b e) refl
head_case false b t e = refl

name_head : (n t : List ℕ) → after (codes "}") (quoted n ++ t) ≡ None
name_head [] t = refl
name_head (b ∷ bs) t =
    let split : (quoted_byte b ++ flat_map quoted_byte bs) ++ t ≡ quoted_byte b ++ (flat_map quoted_byte bs ++ t) = append_assoc (quoted_byte b) (flat_map quoted_byte bs) t in
    rw split (head_case (is_quote_plain b) b (flat_map quoted_byte bs ++ t) refl)

fields_head : (n : List ℕ) (d : Dtype) (fs : FieldList) (t : List ℕ) → after (codes "}") (fields_text true (field n d fs) ++ t) ≡ None
fields_head n d fs t =
    let split : fields_text true (field n d fs) ++ t ≡ quoted n ++ (codes ":" ++ (dtype_text d ++ (fields_text false fs ++ t))) = simp append_assoc in
    rw split (name_head n _)

struct_split : (f m r : List ℕ) → ((f ++ 125 ∷ []) ++ m) ++ r ≡ f ++ 125 ∷ (m ++ r)
struct_split f m r = simp append_assoc

mutual
  unfolding dtype_in

  again : (l : ℕ) (d : Dtype) (r : List ℕ) → levels_of d ≤ l → HasTexts d → NoMark r → dtype_in l (dtype_text d ++ r) ≡ Some (d, r)
  again zero (bool n) r le ts none = absurd (omega arith)
  again zero (int p n) r le ts none = absurd (omega arith)
  again zero (text n) r le ts none = absurd (omega arith)
  again zero (struct fs n) r le ts none = absurd (omega arith)
  again (suc l) (bool n) r le ts none = bools_again n r none
  again (suc l) (int p n) r le ts none = rw (no_brace p (mark n) r) (ints_again p n r none)
  again (suc l) (text n) r le ts none = texts_again n r none
  again (suc l) (struct fs n) r le ts none =
      let fields : struct_in (dtype_in l) (fields_text true fs ++ 125 ∷ (mark n ++ r)) (after (codes "}") (fields_text true fs ++ 125 ∷ (mark n ++ r))) ≡ Some (fs, mark n ++ r)
      = struct_again l fs (mark n ++ r) (omega arith) ts in
      rw (struct_split (fields_text true fs) (mark n) r, fields) (ap (λ (m : Bool × List ℕ). Some (struct fs m.0, m.1)) (mark_again n r none))

  struct_again : (l : ℕ) (fs : FieldList) (s : List ℕ) → most_levels fs ≤ l → HaveTexts fs
      → struct_in (dtype_in l) (fields_text true fs ++ 125 ∷ s) (after (codes "}") (fields_text true fs ++ 125 ∷ s)) ≡ Some (fs, s)
  struct_again l no_fields s le ts = refl
  struct_again l (field n d fs) s le ts =
      let t : List ℕ = fields_text true (field n d fs) ++ 125 ∷ s in
      let long : length (fields_text true (field n d fs) ++ 125 ∷ s) ≡ suc (length (fields_text true (field n d fs)) + length s)
      = omega (arith, length-append (fields_text true (field n d fs)) (125 ∷ s)) in
      rw (fields_head n d fs (125 ∷ s), long)
      (field_again (dtype_in l) n d fs (length (fields_text true (field n d fs)) + length s) s ts.0
      (again l d (rest_text fs s) (omega arith) ts.1 (no_mark_behind fs s))
      (more_again l fs (length (fields_text true (field n d fs)) + length s) n d s (omega arith) ts.2 (omega (arith, count_more n d fs))))

  more_again : (l : ℕ) (fs : FieldList) (m : ℕ) (name : List ℕ) (dtype : Dtype) (s : List ℕ) → most_levels fs ≤ l → HaveTexts fs → count fs ≤ m
      → behind_field name dtype (fields_in (dtype_in l) m) (rest_text fs s) (after (codes "}") (rest_text fs s)) ≡ Some (field name dtype fs, s)
  more_again l no_fields m name dtype s le ts enough = refl
  more_again l (field n d fs) zero name dtype s le ts enough = absurd (none_more n d fs enough)
  more_again l (field n d fs) (suc m) name dtype s le ts enough =
      rw (field_again (dtype_in l) n d fs m s ts.0
      (again l d (rest_text fs s) (omega arith) ts.1 (no_mark_behind fs s))
      (more_again l fs m n d s (omega arith) ts.2 (one_less n d fs m enough))) refl

pub dtype_again : (d : Dtype) → HasTexts d → levels_of d ≤ 64 → dtype_of_text (dtype_text d) ≡ Some d
unfolding dtype_of_text
dtype_again d ts le =
    let read : dtype_in 64 (dtype_text d) ≡ Some (d, []) = subst (λ (t : List ℕ). dtype_in 64 t ≡ Some (d, [])) (append-nil (dtype_text d)) (again 64 d [] le ts no_mark_end) in
    rw read refl

-- ---- what is read is spelled so

record Mapped {A B : Type 0} (f : A → B) (o : Option A) (y : B) : Type 0 where
  from : A
  is : o ≡ Some from
  gives : f from ≡ y

map_parts : {A B : Type 0} (f : A → B) (o : Option A) (y : B) → option_map f o ≡ Some y → Mapped f o y
map_parts f None y e = absurd cc
map_parts f (Some x) y e = record { from = x; is = refl; gives = cc }

record Bound {A B : Type 0} (f : A → Option B) (o : Option A) (y : B) : Type 0 where
  from : A
  is : o ≡ Some from
  gives : f from ≡ Some y

and_parts : {A B : Type 0} (f : A → Option B) (o : Option A) (y : B) → option_and_then f o ≡ Some y → Bound f o y
and_parts f None y e = absurd cc
and_parts f (Some x) y e = record { from = x; is = refl; gives = e }

bind_parts : {A B : Type 0} (o : Option A) (f : A → Option B) (y : B) → (o >>= f) ≡ Some y → Bound f o y
bind_parts None f y e = absurd cc
bind_parts (Some x) f y e = record { from = x; is = refl; gives = e }

or_parts : {A : Type 0} (o p : Option A) (y : A) → option_or o p ≡ Some y → (o ≡ Some y) ⊎ (p ≡ Some y)
or_parts None p y e = inr e
or_parts (Some x) p y e = inl e

-- what a type that was read says of the text
record Spelled (l : ℕ) (t : List ℕ) (x : Dtype × List ℕ) : Type 0 where
  spelling : t ≡ dtype_text x.0 ++ x.1
  texts : HasTexts x.0
  levels : levels_of x.0 ≤ l

bools_only : (l : ℕ) (t : List ℕ) (x : Dtype × List ℕ) → option_map (marked bool) (after (codes "bool") t) ≡ Some x → Spelled (suc l) t x
bools_only l t x e =
    let p : Mapped (marked bool) (after (codes "bool") t) x = map_parts (marked bool) _ x e in
    let front : t ≡ codes "bool" ++ p.from = after_only (codes "bool") t p.from p.is in
    subst (λ (y : Dtype × List ℕ). Spelled (suc l) t y) p.gives
    (record { spelling = front ∙ ap (λ (z : List ℕ). codes "bool" ++ z) (mark_only p.from); texts = tt; levels = omega arith })

texts_only : (l : ℕ) (t : List ℕ) (x : Dtype × List ℕ) → option_map (marked text) (after (codes "text") t) ≡ Some x → Spelled (suc l) t x
texts_only l t x e =
    let p : Mapped (marked text) (after (codes "text") t) x = map_parts (marked text) _ x e in
    let front : t ≡ codes "text" ++ p.from = after_only (codes "text") t p.from p.is in
    subst (λ (y : Dtype × List ℕ). Spelled (suc l) t y) p.gives
    (record { spelling = front ∙ ap (λ (z : List ℕ). codes "text" ++ z) (mark_only p.from); texts = tt; levels = omega arith })

ptype_only : (ps : List PType) (t : List ℕ) (x : PType × List ℕ) → ptype_among ps t ≡ Some x → t ≡ ptype_name x.0 ++ x.1
ptype_only [] t x e = absurd cc
ptype_only (p ∷ ps) t x e =
    elim (or_parts (option_map (λ rest. (p, rest)) (after (ptype_name p) t)) (ptype_among ps t) x e) [
      | inl one ↦ let q : Mapped (λ rest. (p, rest)) (after (ptype_name p) t) x = map_parts (λ rest. (p, rest)) _ x one in
          subst (λ (y : PType × List ℕ). t ≡ ptype_name y.0 ++ y.1) q.gives (after_only (ptype_name p) t q.from q.is)
      | inr more ↦ ptype_only ps t x more
    ]

ints_only : (l : ℕ) (t : List ℕ) (x : Dtype × List ℕ) → option_map (λ y. marked (int y.0) y.1) (ptype_among ptypes t) ≡ Some x → Spelled (suc l) t x
ints_only l t x e =
    let p : Mapped (λ y. marked (int y.0) y.1) (ptype_among ptypes t) x = map_parts (λ y. marked (int y.0) y.1) _ x e in
    let front : t ≡ ptype_name p.from.0 ++ p.from.1 = ptype_only ptypes t p.from p.is in
    let rest : p.from.1 ≡ mark (mark_in p.from.1).0 ++ (mark_in p.from.1).1 = mark_only p.from.1 in
    subst (λ (y : Dtype × List ℕ). Spelled (suc l) t y) p.gives
    (record { spelling = front ∙ ap (λ (z : List ℕ). ptype_name p.from.0 ++ z) rest ∙ sym (append_assoc (ptype_name p.from.0) (mark (mark_in p.from.1).0) (mark_in p.from.1).1); texts = tt; levels = omega arith })

plain_only : (l : ℕ) (t : List ℕ) (x : Dtype × List ℕ) → plain_in t ≡ Some x → Spelled (suc l) t x
unfolding plain_in
plain_only l t x e =
    elim (or_parts (option_map (marked bool) (after (codes "bool") t)) _ x e) [
      | inl one ↦ bools_only l t x one
      | inr more ↦ elim (or_parts (option_map (marked text) (after (codes "text") t)) _ x more) [
        | inl two ↦ texts_only l t x two
        | inr last ↦ ints_only l t x last
      ]
    ]

name_only : (t : List ℕ) (x : List ℕ × List ℕ) → name_in t ≡ Some x → (t ≡ name_text x.0 ++ x.1) × (is_utf8 x.0 ≡ true)
unfolding name_in
name_only t x e =
    let f : List ℕ × List ℕ → Option (List ℕ × List ℕ) = λ name. option_map (λ rest. (name.0, rest)) (after (codes ":") name.1) in
    let p : Bound f (quoted_in t) x = and_parts f (quoted_in t) x e in
    let q : Mapped (λ rest. (p.from.0, rest)) (after (codes ":") p.from.1) x = map_parts (λ rest. (p.from.0, rest)) _ x p.gives in
    let parts : (t ≡ quoted p.from.0 ++ p.from.1) × (is_utf8 p.from.0 ≡ true) = quoted_in_only t p.from.0 p.from.1 p.is in
    let colon : p.from.1 ≡ codes ":" ++ q.from = after_only (codes ":") p.from.1 q.from q.is in
    subst (λ (y : List ℕ × List ℕ). (t ≡ name_text y.0 ++ y.1) × (is_utf8 y.0 ≡ true)) q.gives
    (parts.0 ∙ ap (λ (z : List ℕ). quoted p.from.0 ++ z) colon ∙ sym (append_assoc (quoted p.from.0) (codes ":") q.from), parts.1)

record FieldsSpelled (l : ℕ) (t : List ℕ) (x : FieldList × List ℕ) : Type 0 where
  spelling : t ≡ fields_text true x.0 ++ 125 ∷ x.1
  texts : HaveTexts x.0
  levels : most_levels x.0 ≤ l
  behind_comma : 44 ∷ (fields_text true x.0) ≡ fields_text false x.0

Law : ℕ → (List ℕ → Option (Dtype × List ℕ)) → Type 0
Law l read = (t : List ℕ) (x : Dtype × List ℕ) → read t ≡ Some x → Spelled l t x

end_split : (a b c : List ℕ) → a ++ (b ++ c) ≡ ((a ++ b) ++ []) ++ c
end_split a b c = rw (append-nil (a ++ b), append_assoc a b c) refl

last_field : (l : ℕ) (n s t : List ℕ) (d : Dtype) (rest r : List ℕ) → t ≡ name_text n ++ s → is_utf8 n ≡ true → Spelled l s (d, rest) → rest ≡ 125 ∷ r
    → FieldsSpelled l t (field n d no_fields, r)
last_field l n s t d rest r named utf8 typed ended = record {
  spelling = named ∙ ap (λ (z : List ℕ). name_text n ++ z) (typed.spelling ∙ ap (λ (z : List ℕ). dtype_text d ++ z) ended) ∙ end_split (name_text n) (dtype_text d) (125 ∷ r);
  texts = (utf8, typed.texts, tt);
  levels = omega (arith, typed.levels);
  behind_comma = refl;
}

next_field : (l : ℕ) (n s t : List ℕ) (d : Dtype) (rest next : List ℕ) (x : FieldList × List ℕ) → t ≡ name_text n ++ s → is_utf8 n ≡ true → Spelled l s (d, rest) → rest ≡ 44 ∷ next
    → FieldsSpelled l next x → FieldsSpelled l t (with_field n d x)
next_field l n s t d rest next x named utf8 typed comma more =
    let tail : rest ≡ fields_text false x.0 ++ 125 ∷ x.1 = comma ∙ ap (λ (z : List ℕ). 44 ∷ z) more.spelling ∙ ap (λ (z : List ℕ). z ++ 125 ∷ x.1) more.behind_comma in
    record {
      spelling = named ∙ ap (λ (z : List ℕ). name_text n ++ z) (typed.spelling ∙ ap (λ (z : List ℕ). dtype_text d ++ z) tail) ∙ simp append_assoc;
      texts = (utf8, typed.texts, more.texts);
      levels = omega (arith, typed.levels, more.levels);
      behind_comma = refl;
    }

behind_only : (l m : ℕ) (read : List ℕ → Option (Dtype × List ℕ)) (n s t : List ℕ) (d : Dtype) (rest : List ℕ) (x : FieldList × List ℕ) (o : Option (List ℕ))
    → t ≡ name_text n ++ s → is_utf8 n ≡ true → Spelled l s (d, rest) → after (codes "}") rest ≡ o
    → ((u : List ℕ) (y : FieldList × List ℕ) → fields_in read m u ≡ Some y → FieldsSpelled l u y)
    → behind_field n d (fields_in read m) rest o ≡ Some x → FieldsSpelled l t x
behind_only l m read n s t d rest x (Some r) named utf8 typed is more e =
    let same : (field n d no_fields, r) ≡ x = cc in
    subst (λ (y : FieldList × List ℕ). FieldsSpelled l t y) same (last_field l n s t d rest r named utf8 typed (after_only (codes "}") rest r is))
behind_only l m read n s t d rest x None named utf8 typed is more e =
    let p : Mapped (with_field n d) (option_and_then (fields_in read m) (after (codes ",") rest)) x = map_parts (with_field n d) _ x e in
    let q : Bound (fields_in read m) (after (codes ",") rest) p.from = and_parts (fields_in read m) _ p.from p.is in
    subst (λ (y : FieldList × List ℕ). FieldsSpelled l t y) p.gives
    (next_field l n s t d rest q.from p.from named utf8 typed (after_only (codes ",") rest q.from q.is) (more q.from p.from q.gives))

fields_only : (l : ℕ) (read : List ℕ → Option (Dtype × List ℕ)) → Law l read → (m : ℕ) (t : List ℕ) (x : FieldList × List ℕ) → fields_in read m t ≡ Some x → FieldsSpelled l t x
unfolding fields_in Law
fields_only l read law zero t x e = absurd cc
fields_only l read law (suc m) t x e =
    let f : List ℕ × List ℕ → Option (FieldList × List ℕ) = λ name. read name.1 >>= λ typed. behind_field name.0 typed.0 (fields_in read m) typed.1 (after (codes "}") typed.1) in
    let p : Bound f (name_in t) x = bind_parts (name_in t) f x e in
    let g : Dtype × List ℕ → Option (FieldList × List ℕ) = λ typed. behind_field p.from.0 typed.0 (fields_in read m) typed.1 (after (codes "}") typed.1) in
    let q : Bound g (read p.from.1) x = bind_parts (read p.from.1) g x p.gives in
    let named : (t ≡ name_text p.from.0 ++ p.from.1) × (is_utf8 p.from.0 ≡ true) = name_only t p.from p.is in
    behind_only l m read p.from.0 p.from.1 t q.from.0 q.from.1 x _ named.0 named.1 (law p.from.1 q.from q.is) refl (fields_only l read law m) q.gives

struct_only : (l : ℕ) (t s : List ℕ) (x : FieldList × List ℕ) → t ≡ 123 ∷ s → s ≡ fields_text true x.0 ++ 125 ∷ x.1 → HaveTexts x.0 → most_levels x.0 ≤ l → Spelled (suc l) t (as_struct x)
struct_only l t s x brace is ts le =
    let rest : x.1 ≡ mark (mark_in x.1).0 ++ (mark_in x.1).1 = mark_only x.1 in
    record {
      spelling = brace ∙ ap (λ (z : List ℕ). 123 ∷ z) (is ∙ ap (λ (z : List ℕ). fields_text true x.0 ++ 125 ∷ z) rest ∙ sym (struct_split (fields_text true x.0) (mark (mark_in x.1).0) (mark_in x.1).1));
      texts = ts;
      levels = omega arith;
    }

fields_case : (l : ℕ) (read : List ℕ → Option (Dtype × List ℕ)) (t s : List ℕ) (x : FieldList × List ℕ) (o : Option (List ℕ)) → Law l read → t ≡ 123 ∷ s → after (codes "}") s ≡ o
    → struct_in read s o ≡ Some x → Spelled (suc l) t (as_struct x)
fields_case l read t s x (Some r) law brace is e =
    let same : (no_fields, r) ≡ x = cc in
    subst (λ (y : FieldList × List ℕ). Spelled (suc l) t (as_struct y)) same (struct_only l t s (no_fields, r) brace (after_only (codes "}") s r is) tt (omega arith))
fields_case l read t s x None law brace is e =
    let p : FieldsSpelled l s x = fields_only l read law (length s) s x e in
    struct_only l t s x brace p.spelling p.texts p.levels

type_case : (l : ℕ) (read : List ℕ → Option (Dtype × List ℕ)) (t : List ℕ) (x : Dtype × List ℕ) (o : Option (List ℕ)) → Law l read → after (codes "{") t ≡ o → type_in read t o ≡ Some x → Spelled (suc l) t x
type_case l read t x None law is e = plain_only l t x e
type_case l read t x (Some s) law is e =
    let p : Mapped as_struct (struct_in read s (after (codes "}") s)) x = map_parts as_struct _ x e in
    subst (λ (y : Dtype × List ℕ). Spelled (suc l) t y) p.gives (fields_case l read t s p.from _ law (after_only (codes "{") t s is) refl p.is)

dtype_law : (l : ℕ) → Law l (dtype_in l)
unfolding dtype_in Law
dtype_law zero t x e = absurd cc
dtype_law (suc l) t x e = type_case l (dtype_in l) t x (after (codes "{") t) (dtype_law l) refl e

alone_case : (o : Option (Dtype × List ℕ)) (d : Dtype) → alone o ≡ Some d → o ≡ Some (d, [])
alone_case None d e = absurd cc
alone_case (Some (c, [])) d e = let same : c ≡ d = cc in ap (λ (x : Dtype). Some (x, [])) same
alone_case (Some (c, b ∷ bs)) d e =
    let no : (suc (length bs) == 0) ≡ false = grind (arith, nat_tests) in
    let none : None ≡ Some d = rw no at e in absurd cc

pub dtype_only : (t : List ℕ) (d : Dtype) → dtype_of_text t ≡ Some d → (dtype_text d ≡ t) × HasTexts d × (levels_of d ≤ 64)
unfolding dtype_of_text Law
dtype_only t d e =
    let p : Spelled 64 t (d, []) = dtype_law 64 t (d, []) (alone_case (dtype_in 64 t) d e) in
    (sym (p.spelling ∙ append-nil (dtype_text d)), p.texts, p.levels)
