-- The bytes of generated rows, and that the rows are a column.
use Rattle.std.proofs.Common.{◌≡◌, ℕ, ℤ, pos, zero, suc, ◌+◌, ◌-◌, ◌*◌, ◌/◌, ◌%◌, ◌<◌, ◌≤◌, ◌^◌, Bool, true, false, cond, List, [], ◌∷◌, ◌++◌, map, length, take, min, Option, Some, None, Result, Ok, is_some, refl, sym, ap, subst, ◌∙◌, arith, append_assoc, length-append, ◌⊎◌, inl, inr}
use Rattle.std.specs.Prelude.{◌&&◌, slice_index_or, replicate, codes, decimal, IfSome, String, string_bytes}
use Rattle.std.specs.Global.{Global}
use Rattle.std.specs.Int.{w16, to_le_bytes}
use Rattle.std.specs.List.{AllByRecursion, flat_map, list_all}
use Rattle.std.specs.Str.{IsUtf8}
use Rattle.std.proofs.lemmas.Bool.{lt-ltb, cases_lt}
use Rattle.std.proofs.lemmas.Grind.{flat_map-append}
use Rattle.itoa.proofs.Decimal.{length_one, length_two, length_step_wide}
use Rattle.std.proofs.lemmas.Fmt.{IsAscii-decimal, length-decimal-le}
use Rattle.std.proofs.lemmas.List.Elements.{All-from_recursion}
use Rattle.std.proofs.lemmas.Slice.{take-put_mid}
use Rattle.std.proofs.lemmas.Str.{IsUtf8-from_ascii}
use Rattle.std.proofs.lemmas.Str.Ascii.{IsAscii-cons}
use borrow.Rule.Slice.PartMut.{put_mid}
use Rattle.vx_data.specs.declared.dtype.DType.{DType}
use Rattle.vx_data.specs.declared.ptype.PType.TheVariants.{U32, I64}
use Rattle.vx_data.specs.Dtype.{int, text, struct, dtype_view, pairs_view}
use Rattle.vx_rows.specs.declared.column.Column.{Column}
use Rattle.vx_rows.specs.declared.array_error.ArrayError.{ArrayError}
use Rattle.vx_rows.specs.Bits.{bit_value, bitmap_byte, bitmap_size, bitmap}
use Rattle.vx_rows.specs.Encoded.{array_bytes}
use Rattle.vx_rows.specs.Parts.{part, appended}
use Rattle.vx_rows.specs.Rows.{Rows, FieldRows, texts, structs, column_view, pairs_view as rows_view, AllHaveRows, IsColumn, AreWithin, AreUtf8, rows_len}
use Rattle.vx_rows.specs.Span.{span, every}
use Rattle.vx_rows.specs.Trees.{array}
use Rattle.vx_rows.specs.Written.{is_within, cell, flags_bytes, length_bytes, text_bytes}
use Rattle.vx_rows.proofs.CutLemmas.{slice_span}
use Rattle.vx_rows.proofs.SpanLemmas.{length_span, get_or_span}
use Rattle.vx_rows.proofs.TreeBackLemmas.{array_back}
use Rattle.vx_generate.specs.Generated.{is_there, id_of, has_score, score_of, name_of, ids, scores, names, generated, generated_columns, generated_dtype, generated_arrays}
use Rattle.vx_generate.specs.Tables.{IsTable}

-- ---- the type

pub fields_are : (a b c : String Global × DType) → string_bytes a.0 ≡ codes "id" → dtype_view a.1 ≡ int U32 false → string_bytes b.0 ≡ codes "score" → dtype_view b.1 ≡ int I64 true → string_bytes c.0 ≡ codes "name" → dtype_view c.1 ≡ text false
    → struct (pairs_view (a ∷ b ∷ c ∷ [])) false ≡ generated_dtype
fields_are a b c a-name a-type b-name b-type c-name c-type = rw (a-name, a-type, b-name, b-type, c-name, c-type) refl

-- ---- rows still to come

flat-step : {A : Type 0} → (g : A → List ℕ) (f : ℕ → A) (k n : ℕ) → k < n → flat_map g (span f k (n - k)) ≡ g (f k) ++ flat_map g (span f (k + 1) (n - (k + 1)))
flat-step g f k n h = let e : n - k ≡ suc (n - (k + 1)) = omega (arith, h) in rw e refl

-- with one row more
pub one_more : {A : Type 0} → (g : A → List ℕ) (f : ℕ → A) (k n : ℕ) (old now all : List ℕ) → k < n → now ≡ old ++ g (f k) → old ++ flat_map g (span f k (n - k)) ≡ all
    → now ++ flat_map g (span f (k + 1) (n - (k + 1))) ≡ all
one_more g f k n old now all h is so_far =
    let rest = flat_map g (span f (k + 1) (n - (k + 1))) in
    ap (λ xs. xs ++ rest) is ∙ append_assoc old (g (f k)) rest ∙ ap (λ xs. old ++ xs) (sym (flat-step g f k n h)) ∙ so_far

pub flat_none : {A : Type 0} → (g : A → List ℕ) (f : ℕ → A) (k n : ℕ) → n ≤ k → flat_map g (span f k (n - k)) ≡ []
flat_none g f k n h = let e : n - k ≡ 0 = omega (arith, h) in rw e refl

-- ---- cells of rows

ends : (xs : List ℕ) → xs ++ [] ≡ xs
ends [] = refl
ends (x ∷ xs) = ap (λ ys. x ∷ ys) (ends xs)

-- a run in two
pub span_two : {A : Type 0} → (f : ℕ → A) (first a b : ℕ) → span f first a ++ span f (first + a) b ≡ span f first (a + b)
span_two f first zero b =
    let none : first + 0 ≡ first = omega arith in
    let all : 0 + b ≡ b = omega arith in
    rw (none, all) refl
span_two f first (suc a) b =
    let next : first + suc a ≡ first + 1 + a = omega arith in
    let more : suc a + b ≡ suc (a + b) = omega arith in
    rw (next, more) (ap (λ xs. f first ∷ xs) (span_two f (first + 1) a b))

flat-two : {A : Type 0} → (g : A → List ℕ) (f : ℕ → A) (first a b : ℕ) → flat_map g (span f first a) ++ flat_map g (span f (first + a) b) ≡ flat_map g (span f first (a + b))
flat-two g f first a b = sym (flat_map-append g (span f first a) (span f (first + a) b)) ∙ ap (flat_map g) (span_two f first a b)

-- room with one cell more
pub filled_more : {A : Type 0} → (g : A → List ℕ) (f : ℕ → A) (at next m k first : ℕ) (room cell : List ℕ) → next ≡ at + length cell → at ≤ length room → cell ≡ g (f (first + k))
    → take at room ≡ flat_map g (span f first k) → take next (put_mid at m room cell) ≡ flat_map g (span f first (k + 1))
filled_more g f at next m k first room cell long inside is filled =
    take-put_mid at m room cell next long inside ∙ ap (λ xs. xs ++ cell) filled ∙ ap (λ c. flat_map g (span f first k) ++ c) (is ∙ sym (ends (g (f (first + k)))))
    ∙ flat-two g f first k 1

-- cells of more rows behind those of the first ones
pub pushed_more : {A : Type 0} → (g : A → List ℕ) (f : ℕ → A) (old before now : List ℕ) (first count : ℕ) → before ≡ old ++ flat_map g (span f 0 first) → now ≡ before ++ flat_map g (span f first count)
    → now ≡ old ++ flat_map g (span f 0 (first + count))
pushed_more g f old before now first count front behind =
    let start : 0 + first ≡ first = omega arith in
    let two = ap (λ k. flat_map g (span f 0 first) ++ flat_map g (span f k count)) (sym start) ∙ flat-two g f 0 first count in
    behind ∙ ap (λ xs. xs ++ flat_map g (span f first count)) front ∙ append_assoc old (flat_map g (span f 0 first)) (flat_map g (span f first count)) ∙ ap (λ xs. old ++ xs) two

-- ---- names

pub number_short : (n : ℕ) → n < 1000 → length (decimal n) ≤ 3
number_short n h = length-decimal-le 3 n (omega arith) (omega (arith, h)) (omega (arith, h))

pub digits_one : (n : ℕ) → n < 10 → 1 ≡ length (decimal n)
digits_one n h = sym (length_one n h)

pub digits_two : (n : ℕ) → 10 ≤ n → n < 100 → 2 ≡ length (decimal n)
digits_two n l h = sym (length_two n l h)

pub digits_three : (n : ℕ) → 100 ≤ n → n < 1000 → 3 ≡ length (decimal n)
digits_three n l h =
    let two = length_two (n / 10) (omega (arith, l)) (omega (arith, h)) in
    let step = length_step_wide n (omega (arith, l)) (omega (arith, h)) in
    omega (arith, two, step)

pub ruleset digits_many = (digits_one, digits_two, digits_three)

-- ---- which rows have a score

flags-each : (seed row : ℕ) → is_some (score_of seed row) ≡ has_score seed row
flags-each seed row = by (has_score seed row)
  where
    by : (b : Bool) → is_some (cond b (Some (pos (3 * row + seed))) None) ≡ b
    by true = refl
    by false = refl

pub flags_are : (seed k n : ℕ) → map is_some (span (score_of seed) k n) ≡ span (has_score seed) k n
flags_are seed k zero = refl
flags_are seed k (suc n) = ap (λ b. b ∷ map is_some (span (score_of seed) (k + 1) n)) (flags-each seed k) ∙ ap (λ bs. has_score seed k ∷ bs) (flags_are seed (k + 1) n)

pub every_flag : (f : ℕ → Bool) (k n : ℕ) → list_all (λ b. b) (span f k n) ≡ every f k n
every_flag f k zero = refl
every_flag f k (suc n) = ap (λ b. f k && b) (every_flag f (k + 1) n)

-- some row has none
pub flags_some : (bs : List Bool) (old a b : List ℕ) → list_all (λ t. t) bs ≡ false → a ≡ old ++ 1 ∷ [] → b ≡ a ++ bitmap bs → b ≡ old ++ flags_bytes bs
flags_some bs old a b e first second =
    second ∙ ap (λ xs. xs ++ bitmap bs) first ∙ append_assoc old (1 ∷ []) (bitmap bs) ∙ ap (λ t. old ++ cond t (0 ∷ []) (1 ∷ bitmap bs)) (sym e)

past-span : (f : ℕ → Bool) (k n i : ℕ) (d : Bool) → n ≤ i → slice_index_or (span f k n) i d ≡ d
past-span f k zero i d h = refl
past-span f k (suc n) zero d h = absurd (omega (arith, h))
past-span f k (suc n) (suc i) d h = past-span f (k + 1) n i d (omega (arith, h))

pub bit_past : (f : ℕ → Bool) (n row : ℕ) → n ≤ row → bit_value (span f 0 n) row ≡ 0
bit_past f n row h = ap (λ b. cond b 1 0) (past-span f 0 n row false h)

pub bit_here : (f : ℕ → Bool) (n row : ℕ) → row < n → bit_value (span f 0 n) row ≡ cond (f row) 1 0
bit_here f n row h = ap (λ b. cond b 1 0) (get_or_span f 0 n row false h ∙ ap f (omega arith))

-- ---- a column

all-span : {A : Type 0} → (P : A → Type 0) (f : ℕ → A) (k n : ℕ) → ((i : ℕ) → i < k + n → P (f i)) → AllByRecursion P (span f k n)
all-span P f k zero h = tt
all-span P f k (suc n) h = (h k (omega arith), all-span P f (k + 1) n (λ i l. h i (omega (arith, l))))

tests-span : {A : Type 0} → (t : A → Bool) (f : ℕ → A) (k n : ℕ) → ((i : ℕ) → t (f i) ≡ true) → list_all t (span f k n) ≡ true
tests-span t f k zero h = refl
tests-span t f k (suc n) h = rw (h k) (tests-span t f (k + 1) n h)

ids-within : (n : ℕ) → n ≤ 1000000 → AreWithin U32 (span id_of 0 n)
ids-within n few =
    All-from_recursion (λ (row : Option ℤ). IfSome row (λ value. is_within U32 value ≡ true)) (span id_of 0 n)
    (all-span (λ (row : Option ℤ). IfSome row (λ value. is_within U32 value ≡ true)) id_of 0 n (λ i l. lt-ltb i (2 ^ 32) (omega (arith, l, few))))

score-within : (seed row : ℕ) → seed < 2 ^ 32 → row < 1000000 → IfSome (score_of seed row) (λ value. is_within I64 value ≡ true)
score-within seed row low few = by (has_score seed row)
  where
    by : (b : Bool) → IfSome (cond b (Some (pos (3 * row + seed))) None) (λ value. is_within I64 value ≡ true)
    by true = lt-ltb (3 * row + seed) (2 ^ 63) (omega (arith, low, few))
    by false = tt

scores-within : (seed n : ℕ) → seed < 2 ^ 32 → n ≤ 1000000 → AreWithin I64 (span (score_of seed) 0 n)
scores-within seed n low few =
    All-from_recursion (λ (row : Option ℤ). IfSome row (λ value. is_within I64 value ≡ true)) (span (score_of seed) 0 n)
    (all-span (λ (row : Option ℤ). IfSome row (λ value. is_within I64 value ≡ true)) (score_of seed) 0 n (λ i l. score-within seed i low (omega (arith, l, few))))

name-text : (seed row : ℕ) → IsUtf8 (codes "n" ++ decimal ((row + seed) % 1000))
name-text seed row =
    let digits = decimal ((row + seed) % 1000) in
    IsUtf8-from_ascii (110 ∷ digits) (IsAscii-cons 110 digits (omega arith) (IsAscii-decimal ((row + seed) % 1000) (omega arith)))

names-texts : (seed n : ℕ) → AreUtf8 (span (name_of seed) 0 n)
names-texts seed n =
    All-from_recursion (λ (row : Option (List ℕ)). IfSome row IsUtf8) (span (name_of seed) 0 n)
    (all-span (λ (row : Option (List ℕ)). IfSome row IsUtf8) (name_of seed) 0 n (λ i l. name-text seed i))

pub ids-column : (n : ℕ) → n ≤ 1000000 → IsColumn n (ids n)
ids-column n few = (length_span id_of 0 n, tests-span is_some id_of 0 n (λ i. refl), ids-within n few)

pub scores-column : (seed n : ℕ) → seed < 2 ^ 32 → n ≤ 1000000 → IsColumn n (scores seed n)
scores-column seed n low few = (length_span (score_of seed) 0 n, refl, scores-within seed n low few)

pub names-column : (seed n : ℕ) → IsColumn n (names seed n)
names-column seed n = (length_span (name_of seed) 0 n, tests-span is_some (name_of seed) 0 n (λ i. refl), names-texts seed n)

generated-column : (seed n : ℕ) → seed < 2 ^ 32 → n ≤ 1000000 → IsColumn n (generated seed n)
generated-column seed n low few = (
  length_span is_there 0 n,
  tests-span (λ b. b) is_there 0 n (λ i. refl),
  (ids-column n few, (scores-column seed n low few, (names-column seed n, tt))),
)

pub generated_table : (seed n : ℕ) → seed < 2 ^ 32 → n ≤ 1000000 → IsTable generated_dtype (generated seed n)
generated_table seed n low few =
    let long = length_span is_there 0 n in
    record { typed = refl; even = subst (λ m. IsColumn m (generated seed n)) (sym long) (generated-column seed n low few); few = omega (arith, long, few) }

-- ---- the bytes of arrays

pub ids_made : (a b : List ℕ) (rows : ℕ) → a ≡ [] ++ to_le_bytes w16 0 → b ≡ a ++ flat_map (cell U32) (span id_of 0 rows) → b ≡ array_bytes generated_arrays (ids rows)
ids_made a b rows first second = second ∙ ap (λ xs. xs ++ flat_map (cell U32) (span id_of 0 rows)) first

pub scores_made : (a b c : List ℕ) (seed rows : ℕ) → a ≡ [] ++ to_le_bytes w16 0 → b ≡ a ++ flags_bytes (span (has_score seed) 0 rows) → c ≡ b ++ flat_map (cell I64) (span (score_of seed) 0 rows)
    → c ≡ array_bytes generated_arrays (scores seed rows)
scores_made a b c seed rows first second third =
    let flags = flags_bytes (span (has_score seed) 0 rows) in
    let values = flat_map (cell I64) (span (score_of seed) 0 rows) in
    third ∙ ap (λ xs. xs ++ values) second ∙ append_assoc a flags values ∙ ap (λ xs. xs ++ (flags ++ values)) first
    ∙ ap (λ bs. to_le_bytes w16 0 ++ (flags_bytes bs ++ values)) (sym (flags_are seed 0 rows))

pub names_made : (a b c : List ℕ) (seed rows : ℕ) → a ≡ [] ++ to_le_bytes w16 2 → b ≡ a ++ flat_map length_bytes (span (name_of seed) 0 rows) → c ≡ b ++ flat_map text_bytes (span (name_of seed) 0 rows)
    → c ≡ array_bytes generated_arrays (names seed rows)
names_made a b c seed rows first second third =
    let lengths = flat_map length_bytes (span (name_of seed) 0 rows) in
    let values = flat_map text_bytes (span (name_of seed) 0 rows) in
    third ∙ ap (λ xs. xs ++ values) second ∙ append_assoc a lengths values ∙ ap (λ xs. xs ++ (lengths ++ values)) first

-- ---- they are short

flat-short : {A : Type 0} → (g : A → List ℕ) (f : ℕ → A) (k n : ℕ) → ((i : ℕ) → length (g (f i)) ≤ 8) → length (flat_map g (span f k n)) ≤ 8 * n
flat-short g f k zero h = omega arith
flat-short g f k (suc n) h =
    let both = length-append (g (f k)) (flat_map g (span f (k + 1) n)) in
    omega (arith, both, h k, flat-short g f (k + 1) n h)

flags-short : (bs : List Bool) → length (flags_bytes bs) ≤ length bs + 9
flags-short bs = by (list_all (λ b. b) bs)
  where
    by : (t : Bool) → length (cond t (0 ∷ []) (1 ∷ bitmap bs)) ≤ length bs + 9
    by true = omega arith
    by false = let long = length_span (bitmap_byte bs) 0 (bitmap_size (length bs)) in omega (arith, long)

name-short : (seed row : ℕ) → length (text_bytes (name_of seed row)) ≤ 8
name-short seed row = omega (arith, number_short ((row + seed) % 1000) (omega arith))

score-short : (seed row : ℕ) → length (cell I64 (score_of seed row)) ≤ 8
score-short seed row = by (has_score seed row)
  where
    by : (b : Bool) → length (cell I64 (cond b (Some (pos (3 * row + seed))) None)) ≤ 8
    by true = omega arith
    by false = omega arith

ids-short : (n : ℕ) → n ≤ 1000000 → length (array_bytes generated_arrays (ids n)) < 2 ^ 32
ids-short n few =
    let values = flat_map (cell U32) (span id_of 0 n) in
    omega (arith, flat-short (cell U32) id_of 0 n (λ i. omega arith), length-append (to_le_bytes w16 0) values, few)

scores-short : (seed n : ℕ) → n ≤ 1000000 → length (array_bytes generated_arrays (scores seed n)) < 2 ^ 32
scores-short seed n few =
    let flags = flags_bytes (map is_some (span (score_of seed) 0 n)) in
    let values = flat_map (cell I64) (span (score_of seed) 0 n) in
    let flags-long = flags-short (map is_some (span (score_of seed) 0 n)) in
    let flags-count = ap length (flags_are seed 0 n) ∙ length_span (has_score seed) 0 n in
    omega (arith, flags-long, flags-count, flat-short (cell I64) (score_of seed) 0 n (score-short seed), length-append flags values, length-append (to_le_bytes w16 0) (flags ++ values), few)

names-short : (seed n : ℕ) → n ≤ 1000000 → length (array_bytes generated_arrays (names seed n)) < 2 ^ 32
names-short seed n few =
    let lengths = flat_map length_bytes (span (name_of seed) 0 n) in
    let values = flat_map text_bytes (span (name_of seed) 0 n) in
    let lengths-long = flat-short length_bytes (name_of seed) 0 n (λ i. omega arith) in
    let values-long = flat-short text_bytes (name_of seed) 0 n (name-short seed) in
    omega (arith, lengths-long, values-long, length-append lengths values, length-append (to_le_bytes w16 2) (lengths ++ values), few)

ok-same : (a b : Rows) → ◌≡◌ {A = Result Rows ArrayError} (Ok a) (Ok b) → a ≡ b
ok-same a b e = cc

-- bytes spell one column
pub same_rows : (o : Result Rows ArrayError) (a b : Rows) → o ≡ Ok a → o ≡ Ok b → a ≡ b
same_rows o a b e f = ok-same a b (sym e ∙ f)

-- what the bytes spell are the rows

pub ids_read : (n : ℕ) (b : List ℕ) → n ≤ 1000000 → b ≡ array_bytes generated_arrays (ids n) → array generated_arrays (int U32 false) n b ≡ Ok (ids n)
ids_read n b few is = array_back generated_arrays (ids n) n b (omega arith) refl (ids-short n few) is (ids-column n few)

pub scores_read : (seed n : ℕ) (b : List ℕ) → seed < 2 ^ 32 → n ≤ 1000000 → b ≡ array_bytes generated_arrays (scores seed n) → array generated_arrays (int I64 true) n b ≡ Ok (scores seed n)
scores_read seed n b low few is = array_back generated_arrays (scores seed n) n b (omega arith) refl (scores-short seed n few) is (scores-column seed n low few)

pub names_read : (seed n : ℕ) (b : List ℕ) → n ≤ 1000000 → b ≡ array_bytes generated_arrays (names seed n) → array generated_arrays (text false) n b ≡ Ok (names seed n)
names_read seed n b few is = array_back generated_arrays (names seed n) n b (omega arith) refl (names-short seed n few) is (names-column seed n)

-- ---- names that come again

shifted : {A : Type 0} → (f : ℕ → A) (size k n : ℕ) → ((row : ℕ) → f (row + size) ≡ f row) → span f (k + size) n ≡ span f k n
shifted f size k zero again = refl
shifted f size k (suc n) again =
    let next : k + size + 1 ≡ k + 1 + size = omega arith in
    ap (λ x. x ∷ span f (k + size + 1) n) (again k) ∙ ap (λ xs. f k ∷ xs) (ap (λ i. span f i n) next ∙ shifted f size (k + 1) n again)

-- the rows from one on, up to an end, are those from the beginning on
abbrev pub Again : {A : Type 0} → (ℕ → A) → ℕ → ℕ → Type 0
Again f first rows = (n : ℕ) → first + n ≤ rows → span f first n ≡ span f 0 n

pub again_next : {A : Type 0} → (f : ℕ → A) (size first count rows : ℕ) → ((row : ℕ) → f (row + size) ≡ f row) → first < rows → count ≡ min (rows - first) size → Again f first rows → Again f (first + count) rows
again_next f size first count rows again before is same = λ n inside. by n inside (cases_lt (rows - first) size)
  where
    by : (n : ℕ) → first + count + n ≤ rows → (rows - first < size) ⊎ (size ≤ rows - first) → span f (first + count) n ≡ span f 0 n
    by n inside (inr whole) =
        let all : count ≡ size = omega (arith, is, whole) in
        ap (λ k. span f (first + k) n) all ∙ shifted f size first n again ∙ same n (omega (arith, inside, all))
    by n inside (inl last) =
        let none : n ≡ 0 = omega (arith, is, last, inside, before) in
        ap (span f (first + count)) none ∙ ap (span f 0) (sym none)

-- names behind those of the first rows
names-more : (seed size first count rows : ℕ) → count ≤ size → first + count ≤ rows → Again (name_of seed) first rows → appended (names seed first) (part 0 count (names seed size)) ≡ names seed (first + count)
names-more seed size first count rows small inside same =
    let f = name_of seed in
    let start : 0 + first ≡ first = omega arith in
    let zero-place : 0 + 0 ≡ 0 = omega arith in
    let all : count - 0 ≡ count = omega arith in
    let taken = slice_span f 0 size 0 count (omega arith) small ∙ ap (λ k. span f k (count - 0)) zero-place ∙ ap (span f 0) all in
    let here = taken ∙ sym (same count inside) ∙ ap (λ k. span f k count) (sym start) in
    ap (λ xs. texts (record { nullable = false; rows = xs })) (ap (λ xs. span f 0 first ++ xs) here ∙ span_two f 0 first count)

pub names_grown : (seed size first count rows : ℕ) (old block now : Rows) → old ≡ names seed first → block ≡ names seed size → now ≡ appended old (part 0 count block) → count ≤ size → first + count ≤ rows
    → Again (name_of seed) first rows → now ≡ names seed (first + count)
names_grown seed size first count rows old block now front blocks is small inside same =
    is ∙ ap (λ (x : Rows). appended x (part 0 count block)) front ∙ ap (λ (x : Rows). appended (names seed first) (part 0 count x)) blocks ∙ names-more seed size first count rows small inside same

pub names_long : (seed n : ℕ) (c : Rows) → c ≡ names seed n → rows_len c ≡ n
names_long seed n c is = ap rows_len is ∙ length_span (name_of seed) 0 n

pub names_even : (seed n : ℕ) (c : Rows) → c ≡ names seed n → IsColumn (rows_len c) c
names_even seed n c is = subst (λ (x : Rows). IsColumn (rows_len x) x) (sym is) (subst (λ k. IsColumn k (names seed n)) (sym (length_span (name_of seed) 0 n)) (names-column seed n))

pub names_again : (seed row : ℕ) → name_of seed (row + 1000) ≡ name_of seed row
names_again seed row =
    let same : (row + 1000 + seed) % 1000 ≡ (row + seed) % 1000 = omega arith in
    rw same refl

-- ---- the rows

all-there : (k n : ℕ) → span is_there k n ≡ replicate n true
all-there k zero = refl
all-there k (suc n) = ap (λ bs. true ∷ bs) (all-there (k + 1) n)

pub are_all_there : (n : ℕ) → replicate n true ≡ span is_there 0 n
are_all_there n = sym (all-there 0 n)

columns_are : (seed n : ℕ) (a b c : String Global × Column) → string_bytes a.0 ≡ codes "id" → column_view a.1 ≡ ids n → string_bytes b.0 ≡ codes "score" → column_view b.1 ≡ scores seed n → string_bytes c.0 ≡ codes "name"
    → column_view c.1 ≡ names seed n → rows_view (a ∷ b ∷ c ∷ []) ≡ generated_columns seed n
columns_are seed n a b c a-name a-rows b-name b-rows c-name c-rows = rw (a-name, a-rows, b-name, b-rows, c-name, c-rows) refl

pub there_true : (n : ℕ) → list_all (λ b. b) (replicate n true) ≡ true
there_true zero = refl
there_true (suc n) = there_true n

pub columns_long : (seed n m : ℕ) (cs : FieldRows) → cs ≡ generated_columns seed n → m ≡ n → AllHaveRows m cs
columns_long seed n m cs is same =
    subst (λ (xs : FieldRows). AllHaveRows m xs) (sym is)
    (subst (λ k. AllHaveRows k (generated_columns seed n)) (sym same) (length_span id_of 0 n, (length_span (score_of seed) 0 n, (length_span (name_of seed) 0 n, tt))))

pub rows_are : (seed n : ℕ) (c : Rows) (present : List Bool) (cs : FieldRows) → present ≡ replicate n true → cs ≡ generated_columns seed n → c ≡ structs (record { nullable = false; present = present }) cs → c ≡ generated seed n
rows_are seed n c present cs there is whole =
    whole ∙ ap (λ (xs : List Bool). structs (record { nullable = false; present = xs }) cs) (there ∙ are_all_there n) ∙ ap (structs (record { nullable = false; present = span is_there 0 n })) is

-- columns that are added one behind the other
pub columns_grown : (seed n : ℕ) (start one two all : List (String Global × Column)) (a b c : Column) → start ≡ []
    → ((f : String Global × Column) × (one ≡ start ++ f ∷ []) × (string_bytes f.0 ≡ codes "id") × (column_view f.1 ≡ column_view a))
    → ((f : String Global × Column) × (two ≡ one ++ f ∷ []) × (string_bytes f.0 ≡ codes "score") × (column_view f.1 ≡ column_view b))
    → ((f : String Global × Column) × (all ≡ two ++ f ∷ []) × (string_bytes f.0 ≡ codes "name") × (column_view f.1 ≡ column_view c))
    → column_view a ≡ ids n → column_view b ≡ scores seed n → column_view c ≡ names seed n → rows_view all ≡ generated_columns seed n
columns_grown seed n start one two all a b c none x y z ids-are scores-are names-are =
    let fields = z.1 ∙ ap (λ xs. xs ++ z.0 ∷ []) (y.1 ∙ ap (λ xs. xs ++ y.0 ∷ []) (x.1 ∙ ap (λ xs. xs ++ x.0 ∷ []) none)) in
    ap rows_view fields ∙ columns_are seed n x.0 y.0 z.0 x.2 (x.3 ∙ ids-are) y.2 (y.3 ∙ scores-are) z.2 (z.3 ∙ names-are)
