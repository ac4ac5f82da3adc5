-- The bytes of columns without fields.
use Rattle.std.proofs.Common.{◌≡◌, ℕ, zero, suc, ◌+◌, ◌<◌, ◌≤◌, Bool, true, false, cond, List, [], ◌∷◌, ◌++◌, map, length, drop, Option, Some, None, is_some, unwrap_or, refl, ap, sym, ◌∙◌, arith, append_assoc, ◌&&◌}
use Rattle.std.specs.Prelude.{slice_index_or, ◌||◌, not}
use Rattle.std.specs.List.{flat_map, list_all}
use Rattle.vx_data.specs.declared.ptype.PType.{PType}
use Rattle.vx_rows.specs.Span.{span, every}
use Rattle.vx_rows.specs.Bits.{present_at, bit_value, bitmap}
use Rattle.vx_rows.specs.Columns.{Bools, Ints, Texts, bool_row, is_false_row, int_row, text_row, value_of, raw_at, value_place}
use Rattle.vx_rows.specs.Written.{cell, length_bytes, text_bytes, flags_bytes, presence_bytes, bools_bytes, ints_bytes, texts_bytes}
use Rattle.vx_rows.proofs.SpanLemmas.{span_same, every_all}
use Rattle.vx_rows.proofs.MakingLemmas.{span_list}

-- ---- a list by its places

pub next_of : {A : Type 0} → (xs : List A) (i : ℕ) (d : A) → i < length xs → drop i xs ≡ slice_index_or xs i d ∷ drop (i + 1) xs
next_of [] i d l = absurd (omega arith)
next_of (x ∷ xs) zero d l = refl
next_of (x ∷ xs) (suc i) d l = let e : suc i + 1 ≡ suc (i + 1) = omega arith in next_of xs i d (omega arith) ∙ ap (λ j. slice_index_or xs i d ∷ drop j (x ∷ xs)) (sym e)

pub next_flag : (xs : List Bool) (i : ℕ) → i < length xs → list_all (λ b. b) (drop i xs) ≡ (slice_index_or xs i true && list_all (λ b. b) (drop (i + 1) xs))
next_flag xs i l = ap (list_all (λ b. b)) (next_of xs i true l)

pub next_row : {A : Type 0} → (g : Option A → List ℕ) (xs : List (Option A)) (i : ℕ) → i < length xs → flat_map g (drop i xs) ≡ g (slice_index_or xs i None) ++ flat_map g (drop (i + 1) xs)
next_row g xs i l = ap (flat_map g) (next_of xs i None l)

pub past : {A : Type 0} → (xs : List A) (i : ℕ) (d : A) → length xs ≤ i → slice_index_or xs i d ≡ d
past [] i d l = refl
past (x ∷ xs) zero d l = absurd (omega arith)
past (x ∷ xs) (suc i) d l = past xs i d (omega arith)

pub same_at : {A : Type 0} → (xs : List A) (i : ℕ) (d e : A) → i < length xs → slice_index_or xs i d ≡ slice_index_or xs i e
same_at [] i d e l = absurd (omega arith)
same_at (x ∷ xs) zero d e l = refl
same_at (x ∷ xs) (suc i) d e l = same_at xs i d e (omega arith)

pub bit_there : (xs : List Bool) (i : ℕ) → i < length xs → bit_value xs i ≡ cond (slice_index_or xs i true) 1 0
bit_there xs i l = ap (λ b. cond b 1 0) (same_at xs i false true l)

pub bit_past : (xs : List Bool) (i : ℕ) → length xs ≤ i → bit_value xs i ≡ 0
bit_past xs i l = ap (λ b. cond b 1 0) (past xs i false l)

pub ruleset bit_values = (bit_there, bit_past)

-- ---- which rows are not null

all-true : (k n : ℕ) → list_all (λ b. b) (span (present_at None) k n) ≡ true
all-true k zero = refl
all-true k (suc n) = all-true (k + 1) n

pub presence_none : (n : ℕ) → presence_bytes true (span (present_at None) 0 n) ≡ 0 ∷ []
presence_none n = ap (λ b. cond b (0 ∷ []) (1 ∷ bitmap (span (present_at None) 0 n))) (all-true 0 n)

pub presence_some : (bits : List Bool) (n : ℕ) → length bits ≡ n → presence_bytes true (span (present_at (Some bits)) 0 n) ≡ flags_bytes bits
presence_some bits n e = ap (λ m. flags_bytes (span (present_at (Some bits)) 0 m)) (sym e) ∙ ap flags_bytes (span_list true bits)

pub ruleset presence = (presence_none, presence_some)

pub map_span : {A B : Type 0} → (g : A → B) (f : ℕ → A) (k n : ℕ) → map g (span f k n) ≡ span (λ i. g (f i)) k n
map_span g f k zero = refl
map_span g f k (suc n) = ap (λ ys. g (f k) ∷ ys) (map_span g f (k + 1) n)

is-there : {A : Type 0} → (b : Bool) (x : A) → is_some (cond b (Some x) None) ≡ b
is-there true x = refl
is-there false x = refl

pub bools_present : (present : Option (List Bool)) (values : List Bool) (n : ℕ) → map is_some (span (bool_row present values) 0 n) ≡ span (present_at present) 0 n
bools_present present values n =
    map_span is_some (bool_row present values) 0 n ∙ span_same _ (present_at present) 0 n (λ i l u. is-there (present_at present i) (slice_index_or values i true))

pub ints_present : (p : PType) (present : Option (List Bool)) (bytes : List ℕ) (at n : ℕ) → map is_some (span (int_row p present bytes at) 0 n) ≡ span (present_at present) 0 n
ints_present p present bytes at n =
    map_span is_some (int_row p present bytes at) 0 n
    ∙ span_same _ (present_at present) 0 n (λ i l u. is-there (present_at present i) (value_of p (raw_at p bytes (value_place p at i))))

pub texts_present : (present : Option (List Bool)) (bytes places : List ℕ) (n : ℕ) → map is_some (span (text_row present bytes places) 0 n) ≡ span (present_at present) 0 n
texts_present present bytes places n =
    map_span is_some (text_row present bytes places) 0 n ∙ span_same _ (present_at present) 0 n (λ i l u. is-there (present_at present i) _)

-- ---- truth values

or-false : (b v : Bool) → (b || not v) ≡ true → unwrap_or (cond b (Some v) None) false ≡ v
or-false true v h = refl
or-false false true h = cc
or-false false false h = refl

-- where null rows are false, the values are those of the rows
pub bools_values : (present : Option (List Bool)) (values : List Bool) → every (is_false_row present values) 0 (length values) ≡ true
    → map (λ row. unwrap_or row false) (span (bool_row present values) 0 (length values)) ≡ values
bools_values present values h =
    map_span (λ row. unwrap_or row false) (bool_row present values) 0 (length values)
    ∙ span_same _ (λ i. slice_index_or values i true) 0 (length values) (λ i l u.
    or-false (present_at present i) (slice_index_or values i true) (ap (is_false_row present values) (omega arith) ∙ every_all (is_false_row present values) 0 (length values) h i (omega arith)))
    ∙ span_list true values

-- ---- columns, from what was added

joined : (old mid new x y : List ℕ) → mid ≡ old ++ x → new ≡ mid ++ y → new ≡ old ++ (x ++ y)
joined old mid new x y m n = n ∙ ap (λ xs. xs ++ y) m ∙ append_assoc old x y

pub bools_written : (nullable : Bool) (present : Option (List Bool)) (values : List Bool) (v : Bools) (old mid new : List ℕ) → record { nullable = nullable; rows = span (bool_row present values) 0 (length values) } ≡ v
    → every (is_false_row present values) 0 (length values) ≡ true → mid ≡ old ++ presence_bytes nullable (span (present_at present) 0 (length values)) → new ≡ mid ++ bitmap values → new ≡ old ++ bools_bytes v
bools_written nullable present values v old mid new e h m n =
    joined old mid new (presence_bytes nullable (span (present_at present) 0 (length values))) (bitmap values) m n
    ∙ ap (λ (xs : List Bool). old ++ (presence_bytes nullable xs ++ bitmap values)) (sym (bools_present present values (length values)))
    ∙ ap (λ (xs : List Bool). old ++ (presence_bytes nullable (map is_some (span (bool_row present values) 0 (length values))) ++ bitmap xs)) (sym (bools_values present values h))
    ∙ ap (λ (c : Bools). old ++ bools_bytes c) e

pub ints_written : (p : PType) (nullable : Bool) (present : Option (List Bool)) (bytes : List ℕ) (at count : ℕ) (v : Ints) (old mid new : List ℕ)
    → record { ptype = p; nullable = nullable; rows = span (int_row p present bytes at) 0 count } ≡ v → mid ≡ old ++ presence_bytes nullable (span (present_at present) 0 count)
    → new ≡ mid ++ flat_map (cell p) (span (int_row p present bytes at) 0 count) → new ≡ old ++ ints_bytes v
ints_written p nullable present bytes at count v old mid new e m n =
    joined old mid new (presence_bytes nullable (span (present_at present) 0 count)) (flat_map (cell p) (span (int_row p present bytes at) 0 count)) m n
    ∙ ap (λ (xs : List Bool). old ++ (presence_bytes nullable xs ++ flat_map (cell p) (span (int_row p present bytes at) 0 count))) (sym (ints_present p present bytes at count))
    ∙ ap (λ (c : Ints). old ++ ints_bytes c) e

pub texts_written : (nullable : Bool) (present : Option (List Bool)) (bytes places : List ℕ) (count : ℕ) (v : Texts) (old mid next new : List ℕ)
    → record { nullable = nullable; rows = span (text_row present bytes places) 0 count } ≡ v → mid ≡ old ++ presence_bytes nullable (span (present_at present) 0 count)
    → next ≡ mid ++ flat_map length_bytes v.rows → new ≡ next ++ flat_map text_bytes v.rows → new ≡ old ++ texts_bytes v
texts_written nullable present bytes places count v old mid next new e m l n =
    joined old next new (presence_bytes nullable (span (present_at present) 0 count) ++ flat_map length_bytes v.rows) (flat_map text_bytes v.rows)
    (joined old mid next (presence_bytes nullable (span (present_at present) 0 count)) (flat_map length_bytes v.rows) m l) n
    ∙ ap (λ (xs : List Bool). old ++ (presence_bytes nullable xs ++ flat_map length_bytes v.rows ++ flat_map text_bytes v.rows)) (sym (texts_present present bytes places count))
    ∙ ap (λ (c : Texts). old ++ (presence_bytes c.nullable (map is_some c.rows) ++ flat_map length_bytes v.rows ++ flat_map text_bytes v.rows)) e

-- ---- a row, if there is one

pub none_there : {A : Type 0} → (row : Option A) → is_some row ≡ false → row ≡ None
none_there None h = refl
none_there (Some x) h = cc

pub ruleset row_values = (past, none_there)
