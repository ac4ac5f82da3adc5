-- The statistics of rows are values of the type.
use Rattle.std.proofs.Common.{◌≡◌, ℕ, ◌<◌, ◌^◌, Bool, true, false, List, [], ◌∷◌, length, map, Option, Some, None, refl, ap, subst, arith}
use Rattle.std.specs.Prelude.{ℤ, pos, negsuc, nat_lt, nat_le, replicate, if◌then◌else◌, IfSome}
use Rattle.std.specs.Int.{w8, to_le_bytes, from_le_bytes}
use Rattle.std.specs.List.{AllByRecursion}
use Rattle.std.specs.Option.{option_map}
use Rattle.std.proofs.lemmas.List.{length-replicate}
use Rattle.std.specs.Str.{IsUtf8}
use Rattle.std.specs.declared.cmp.Ordering.{Ordering}
use Rattle.std.specs.Ordering.{bool_cmp, int_cmp, is_lt, flip_args}
use Rattle.std.proofs.lemmas.Bool.Decides.{nat_tests}
use Rattle.std.proofs.lemmas.List.Elements.{recursion_from_All}
use Rattle.std.proofs.lemmas.Nat.{from_le_bytes-to_le_bytes_2, from_le_bytes-to_le_bytes_4, from_le_bytes-to_le_bytes_8}
use Rattle.std.proofs.lemmas.Str.{is_utf8-from_IsUtf8}
use Rattle.vx_data.specs.declared.ptype.PType.{PType}
use Rattle.vx_data.specs.declared.ptype.PType.TheVariants.{U8, U16, U32, U64, I8, I16, I32, I64}
use Rattle.vx_data.specs.declared.stats_set.Precision.{Precision}
use Rattle.vx_data.specs.declared.stats_set.Precision.TheVariants.{Exact}
use Rattle.vx_data.specs.declared.stats_set.Stat.{Stat}
use Rattle.vx_data.specs.declared.stats_set.Stat.TheVariants.{Min, Max, NullCount}
use Rattle.vx_data.specs.Dtype.{Dtype, bool, int, text, struct}
use Rattle.vx_data.specs.Layout.{dtypes_of}
use Rattle.vx_data.specs.Scalar.{Value, flag, number, words}
use Rattle.vx_data.specs.Stats.{Stats}
use Rattle.vx_data.specs.StatsTable.{columns_of, int_of, bound_of, count_stat, stats_of}
use Rattle.vx_data.specs.StatsWritten.{is_number_of, number_bytes, bound_bytes, count_number, is_sure, entry_of}
use Rattle.vx_footer.specs.ReadAgain.{IsSet, AreSets, AreStats}
use Rattle.vx_rows.specs.Rows.{Rows, FieldRows, bools, ints as whole_numbers, texts, structs, no_columns, column, rows_len, dtype_of, types_of, IsColumn, AreColumns}
use Rattle.vx_rows.specs.RowStats.{lesser_of, least, greatest, masked, text_cmp, summary, wants, bound, row_stats}
use Rattle.vx_rows.specs.Written.{is_within}
use Rattle.vx_rows.proofs.CellLemmas.{value_again}
use Rattle.vx_rows.proofs.ColumnLaws.{rows_are, column_rows}
use Rattle.vx_rows.proofs.ExtentLemmas.{summary_few}
use Rattle.vx_write.specs.Gathered.{counted_fields, set_of, sets_of, file_stats}

-- ---- the least of values of a kind

abbrev Each : {A : Type 0} → (A → Type 0) → List (Option A) → Type 0
Each P rows = AllByRecursion (λ row. IfSome row P) rows

lesser_holds : {A : Type 0} (P : A → Type 0) (cmp : A → A → Ordering) (a b : Option A) → IfSome a P → IfSome b P → IfSome (lesser_of cmp a b) P
lesser_holds P cmp None b h k = k
lesser_holds P cmp (Some a) None h k = h
lesser_holds P cmp (Some a) (Some b) h k = by (is_lt (cmp b a))
  where
    by : (t : Bool) → P (if t then b else a)
    by true = k
    by false = h

least_holds : {A : Type 0} (P : A → Type 0) (cmp : A → A → Ordering) (rows : List (Option A)) → Each P rows → IfSome (least cmp rows) P
least_holds P cmp [] h = tt
least_holds P cmp (row ∷ rows) h = lesser_holds P cmp row (least cmp rows) h.0 (least_holds P cmp rows h.1)

masked_holds : {A : Type 0} (P : A → Type 0) (present : List Bool) (rows : List (Option A)) → Each P rows → Each P (masked present rows)
masked_holds P [] rows h = tt
masked_holds P (here ∷ present) [] h = tt
masked_holds P (true ∷ present) (row ∷ rows) h = (h.0, masked_holds P present rows h.1)
masked_holds P (false ∷ present) (row ∷ rows) h = (tt, masked_holds P present rows h.1)

-- ---- a minimum or maximum is read again

abbrev Bound : Type 0
Bound = Option (Value × Precision)

IsAgain : Dtype → Bound → Type 0
IsAgain d m = bound_of d (bound_bytes d m) (is_sure m) ≡ Some m

again_none : (d : Dtype) → IsAgain d None
unfolding IsAgain
again_none (bool nullable) = refl
again_none (int ptype nullable) = refl
again_none (text nullable) = refl
again_none (struct fs nullable) = refl

again_if : (d : Dtype) (wanted : Bool) (m : Bound) → IsAgain d m → IsAgain d (if wanted then m else None)
again_if d true m h = h
again_if d false m h = again_none d

again_flag : (nullable : Bool) (v : Option Bool) → IsAgain (bool nullable) (bound (option_map flag v))
unfolding IsAgain
again_flag nullable None = refl
again_flag nullable (Some true) = refl
again_flag nullable (Some false) = refl

below : (n k : ℕ) → nat_lt n k ≡ true → n < k
below n k h = grind (arith, nat_tests)

byte_again : (n : ℕ) → n < 2 ^ 8 → from_le_bytes w8 (to_le_bytes w8 n) ≡ n
byte_again n h = omega arith

-- a number is read from its bytes
number_again : (p : PType) (n : ℤ) → is_within p n ≡ true → int_of p (number_bytes p n) ≡ Some n
number_again U8 (pos n) h = ap (λ m. Some (pos m)) (byte_again n (below n _ h))
number_again U8 (negsuc n) h = cc
number_again U16 (pos n) h = ap (λ m. Some (pos m)) (from_le_bytes-to_le_bytes_2 n (below n _ h))
number_again U16 (negsuc n) h = cc
number_again U32 (pos n) h = ap (λ m. Some (pos m)) (from_le_bytes-to_le_bytes_4 n (below n _ h))
number_again U32 (negsuc n) h = cc
number_again U64 (pos n) h = ap (λ m. Some (pos m)) (from_le_bytes-to_le_bytes_8 n (below n _ h))
number_again U64 (negsuc n) h = cc
number_again I8 n h = ap Some (value_again I8 n h)
number_again I16 n h = ap Some (value_again I16 n h)
number_again I32 n h = ap Some (value_again I32 n h)
number_again I64 n h = ap Some (value_again I64 n h)

-- the two ranges are one
in_range : (p : PType) (n : ℤ) → is_within p n ≡ true → is_number_of p n ≡ true
in_range U8 (pos n) h = let b = below n _ h in grind (arith, nat_tests)
in_range U8 (negsuc n) h = cc
in_range U16 (pos n) h = let b = below n _ h in grind (arith, nat_tests)
in_range U16 (negsuc n) h = cc
in_range U32 (pos n) h = let b = below n _ h in grind (arith, nat_tests)
in_range U32 (negsuc n) h = cc
in_range U64 (pos n) h = let b = below n _ h in grind (arith, nat_tests)
in_range U64 (negsuc n) h = cc
in_range I8 (pos n) h = let b = below n _ h in grind (arith, nat_tests)
in_range I8 (negsuc n) h = let b = below n _ h in grind (arith, nat_tests)
in_range I16 (pos n) h = let b = below n _ h in grind (arith, nat_tests)
in_range I16 (negsuc n) h = let b = below n _ h in grind (arith, nat_tests)
in_range I32 (pos n) h = let b = below n _ h in grind (arith, nat_tests)
in_range I32 (negsuc n) h = let b = below n _ h in grind (arith, nat_tests)
in_range I64 (pos n) h = let b = below n _ h in grind (arith, nat_tests)
in_range I64 (negsuc n) h = let b = below n _ h in grind (arith, nat_tests)

again_number : (p : PType) (nullable : Bool) (v : Option ℤ) → IfSome v (λ n. is_within p n ≡ true) → IsAgain (int p nullable) (bound (option_map number v))
unfolding IsAgain
again_number p nullable None h = refl
again_number p nullable (Some n) h = rw (in_range p n h, number_again p n h) refl

again_words : (nullable : Bool) (v : Option (List ℕ)) → IfSome v IsUtf8 → IsAgain (text nullable) (bound (option_map words v))
unfolding IsAgain
again_words nullable None h = refl
again_words nullable (Some t) h = by (nat_le (length t) 64)
  where
    by : (b : Bool) → IsAgain (text nullable) (if b then Some (words t, Exact) else None)
    by true = rw (is_utf8-from_IsUtf8 t h) refl
    by false = refl

-- ---- how many rows are null

IsCount : Bound → Type 0
IsCount m = count_stat (count_number m) (is_sure m) ≡ m

count_again : (wanted : Bool) (n : ℕ) → n < 2 ^ 64 → IsCount (if wanted then Some (number (pos n), Exact) else None)
unfolding IsCount
count_again true n low = rw (in_range U64 (pos n) (above n (2 ^ 64) low)) refl
  where
    above : (m k : ℕ) → m < k → nat_lt m k ≡ true
    above m k h = grind (arith, nat_tests)
count_again false n low = refl

count_low : (wanted : Bool) (n : ℕ) → n < 2 ^ 64 → IfSome (count_number (if wanted then Some (number (pos n), Exact) else None)) (λ m. m < 2 ^ 64)
count_low true n low = rw (in_range U64 (pos n) (above n (2 ^ 64) low)) low
  where
    above : (m k : ℕ) → m < k → nat_lt m k ≡ true
    above m k h = grind (arith, nat_tests)
count_low false n low = tt

-- ---- a set

set_again : (d : Dtype) (s : Stats) → IsAgain d s.min → IsAgain d s.max → IsCount s.null_count → stats_of d (entry_of d s) ≡ Some s
unfolding IsAgain IsCount
set_again d s min max count = rw (min, max, count) refl

abbrev Present : List Bool → Rows → Type 0
Present present c = length present ≡ rows_len c

is_set : (w : List Stat) (present : List Bool) (c : Rows) → IsAgain (dtype_of c) (bound (summary present c).min) → IsAgain (dtype_of c) (bound (summary present c).max) → Present present c → rows_len c < 2 ^ 64
    → IsSet (dtype_of c) (row_stats w present c)
is_set w present c min max long few =
    let nulls = summary_few present c long in
    let low : (summary present c).nulls < 2 ^ 64 = omega (arith, nulls, few) in
    let d = dtype_of c in
    record {
      again = set_again d (row_stats w present c) (again_if d (wants w Min) (bound (summary present c).min) min) (again_if d (wants w Max) (bound (summary present c).max) max) (count_again (wants w NullCount) (summary present c).nulls low);
      count = count_low (wants w NullCount) (summary present c).nulls low;
    }

set_is : (w : List Stat) (present : List Bool) (n : ℕ) (c : Rows) → IsColumn n c → Present present c → rows_len c < 2 ^ 64 → IsSet (dtype_of c) (row_stats w present c)
set_is w present n (bools c) h long few =
    is_set w present (bools c) (again_flag c.nullable (least bool_cmp (masked present c.rows))) (again_flag c.nullable (greatest bool_cmp (masked present c.rows))) long few
set_is w present n (whole_numbers c) h long few =
    let P : ℤ → Type 0 = λ z. is_within c.ptype z ≡ true in
    let rows = masked_holds P present c.rows (recursion_from_All (λ (row : Option ℤ). IfSome row P) c.rows h.2) in
    is_set w present (whole_numbers c)
    (again_number c.ptype c.nullable (least int_cmp (masked present c.rows)) (least_holds P int_cmp (masked present c.rows) rows))
    (again_number c.ptype c.nullable (greatest int_cmp (masked present c.rows)) (least_holds P (flip_args int_cmp) (masked present c.rows) rows)) long few
set_is w present n (texts c) h long few =
    let rows = masked_holds IsUtf8 present c.rows (recursion_from_All (λ (row : Option (List ℕ)). IfSome row IsUtf8) c.rows h.2) in
    is_set w present (texts c)
    (again_words c.nullable (least text_cmp (masked present c.rows)) (least_holds IsUtf8 text_cmp (masked present c.rows) rows))
    (again_words c.nullable (greatest text_cmp (masked present c.rows)) (least_holds IsUtf8 (flip_args text_cmp) (masked present c.rows) rows)) long few
set_is w present n (structs c cs) h long few = is_set w present (structs c cs) (again_none (struct (types_of cs) c.nullable)) (again_none (struct (types_of cs) c.nullable)) long few

-- ---- all sets

fields_sets : (w : List Stat) (present : List Bool) (n : ℕ) (cs : FieldRows) → AreColumns n cs → length present ≡ n → n < 2 ^ 64 → AreSets (map (set_of w) (counted_fields present cs)) (dtypes_of (types_of cs))
fields_sets w present n no_columns h long few = tt
fields_sets w present n (column name c cs) h long few =
    let own = rows_are n c (column_rows n c h.0) in
    (set_is w present n c h.0 (omega (arith, long, own)) (omega (arith, own, few)), fields_sets w present n cs h.1 long few)

whole_set : (w : List Stat) (n : ℕ) (c : Rows) → IsColumn n c → n < 2 ^ 64 → IsSet (dtype_of c) (row_stats w (replicate (rows_len c) true) c)
whole_set w n c h few =
    let own = rows_are n c (column_rows n c h) in
    set_is w (replicate (rows_len c) true) n c h (length-replicate (rows_len c) true) (omega (arith, own, few))

sets_are : (w : List Stat) (n : ℕ) (c : Rows) → IsColumn n c → n < 2 ^ 64 → AreSets (sets_of w c) (columns_of (dtype_of c))
sets_are w n (bools c) h few = (whole_set w n (bools c) h few, tt)
sets_are w n (whole_numbers c) h few = (whole_set w n (whole_numbers c) h few, tt)
sets_are w n (texts c) h few = (whole_set w n (texts c) h few, tt)
sets_are w n (structs c cs) h few = fields_sets w c.present n cs h.2 h.0 few

pub stats_are : (w : List Stat) (d : Dtype) (n : ℕ) (c : Rows) → dtype_of c ≡ d → IsColumn n c → n < 2 ^ 64 → IfSome (file_stats w d c) (AreStats d)
stats_are [] d n c typed h few = tt
stats_are (stat ∷ more) d n c typed h few = record {
  dtypes = refl;
  sets = subst (λ (e : Dtype). AreSets (sets_of (stat ∷ more) c) (columns_of e)) typed (sets_are (stat ∷ more) n c h few);
}
