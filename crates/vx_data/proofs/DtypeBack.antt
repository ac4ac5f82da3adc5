-- A type that was written is read back.
use Rattle.std.proofs.Common.{◌≡◌, ℕ, zero, suc, ◌+◌, ◌<◌, ◌≤◌, ◌^◌, Bool, true, false, List, [], ◌∷◌, length, map, Option, Some, None, refl, sym, ap, subst, ◌∙◌, arith, add-zero, zero-add}
use Rattle.std.specs.Prelude.{not, ◌==◌, nat_le, nat_lt, sum_by, slice_get, Ok}
use Rattle.std.specs.Int.{w8}
use Rattle.std.specs.Str.{is_utf8}
use Rattle.std.specs.Option.{option_map}
use Rattle.std.proofs.lemmas.Bool.Decides.{nat_tests}
use Rattle.std.proofs.lemmas.List.Sums.{sum_by-cons}
use Rattle.vx_tables.specs.declared.elements.Elements.TheVariants.{Offsets}
use Rattle.vx_tables.specs.Block.{Piece, in_order, root_bytes}
use Rattle.vx_tables.specs.Field.{Table, Vector, root, field, vector_field, text_of_vector, table_of_vector}
use Rattle.vx_tables.specs.Counted.{Counted, ◌>>=◌, free, counted, pure, present, enter, each_from, each_text, each_table, or_empty, or_zero, vector_of, text_cost, allowed}
use Rattle.vx_tables.specs.Standing.{Stands, ReadsBack, AreTexts, IsTableAt, AreUtf8}
use Rattle.vx_tables.proofs.ReadAll.{reads_back, root_read, no_vector}
use Rattle.vx_tables.proofs.Walked.{Gets, then_gets, gets-pure, gets-free, gets-counted, gets-enter, gets-present, gets-each_costs, gets-allowed, gets-bind}
use Rattle.vx_data.specs.declared.ptype.PType.{PType}
use Rattle.vx_data.specs.declared.ptype.PType.TheVariants.{U8, U16, U32, U64, I8, I16, I32, I64}
use Rattle.vx_data.specs.Dtype.{Dtype, bool, int, text, struct, FieldList, no_fields, field as with}
use Rattle.vx_data.specs.Layout.{dtypes_of}
use Rattle.vx_data.specs.declared.table_write_error.TableWriteError.TheVariants.{TooDeep, TooManyTables, TableTooLong}
use Rattle.vx_base.specs.Checks.{◌>>=◌ as ◌passes◌, ◌unless◌}
use Rattle.vx_data.specs.Written.{written}
use Rattle.vx_data.specs.DtypeTable.{dtype_checks, ptype_of_number, known_fields, dtype_with, paired, ptype_field, names_in, fields_in, dtype_at, dtype_table}
use Rattle.vx_data.specs.DtypeWritten.{ptype_number, flag_number, head_pieces, names_of, pieces_of, all_pieces, levels_of, most_levels, visits_of, fields_visits, HasTexts, HaveTexts, dtype_written}

-- ---- parts

flag_again : (n : Bool) → not (flag_number n == 0) ≡ n
flag_again true = refl
flag_again false = refl

flag_below : (n : Bool) → flag_number n < 256
flag_below true = omega arith
flag_below false = omega arith

ptype_again : (p : PType) → ptype_of_number (ptype_number p) ≡ Some p
ptype_again U8 = refl
ptype_again U16 = refl
ptype_again U32 = refl
ptype_again U64 = refl
ptype_again I8 = refl
ptype_again I16 = refl
ptype_again I32 = refl
ptype_again I64 = refl

ptype_below : (p : PType) → ptype_number p < 256
ptype_below U8 = omega arith
ptype_below U16 = omega arith
ptype_below U32 = omega arith
ptype_below U64 = omega arith
ptype_below I8 = omega arith
ptype_below I16 = omega arith
ptype_below I32 = omega arith
ptype_below I64 = omega arith

pieces_ordered : (d : Dtype) → in_order 0 (pieces_of d) ≡ true
pieces_ordered (bool n) = refl
pieces_ordered (int p n) = refl
pieces_ordered (text n) = refl
pieces_ordered (struct fs n) = refl

known_again : (fs : FieldList) → known_fields (names_of fs) (map (λ d. Some d) (dtypes_of fs)) ≡ Some fs
known_again no_fields = refl
known_again (with n d fs) = rw (known_again fs) refl

as_many : (fs : FieldList) → length (names_of fs) ≡ length (map (λ d. Some d) (dtypes_of fs))
as_many no_fields = refl
as_many (with n d fs) = ap suc (as_many fs)

-- the visits of the fields' tables
tables_visits : FieldList → ℕ
tables_visits no_fields = 0
tables_visits (with n d fs) = visits_of d + tables_visits fs

-- the visits inside a type's table
inner_of : Dtype → ℕ
inner_of (bool n) = 0
inner_of (int p n) = 0
inner_of (text n) = 0
inner_of (struct fs n) = 2 + fields_visits fs

inner_visits : (d : Dtype) → inner_of d + 1 ≡ visits_of d
unfolding inner_of
inner_visits (bool n) = refl
inner_visits (int p n) = refl
inner_visits (text n) = refl
inner_visits (struct fs n) = omega arith

split_visits : (fs : FieldList) → fields_visits fs ≡ sum_by text_cost (names_of fs) + tables_visits fs
unfolding tables_visits
split_visits no_fields = refl
split_visits (with n d fs) = omega (arith, split_visits fs, sum_by-cons text_cost n (names_of fs))

levels_some : (d : Dtype) → 1 ≤ levels_of d
levels_some (bool n) = omega arith
levels_some (int p n) = omega arith
levels_some (text n) = omega arith
levels_some (struct fs n) = omega arith

texts_are : (fs : FieldList) → HaveTexts fs → AreUtf8 (names_of fs)
texts_are no_fields h i s got = absurd cc
texts_are (with n d fs) h zero s got = let same : n ≡ s = cc in subst (λ (x : List ℕ). is_utf8 x ≡ true) same h.0
texts_are (with n d fs) h (suc i) s got = texts_are fs h.2 i s got

same_count : (a b : ℕ) → a ≡ b → (a == b) ≡ true
same_count a b e = grind (arith, nat_tests)

-- ---- a type that is no struct

plain_gets : (b : List ℕ) (t : Table) (l kind ptype : ℕ) (n : Bool) (p : Option ℕ) (d : Dtype) → ReadsBack b t (head_pieces kind n ptype) → kind < 256
    → ptype_field b t kind ≡ Some p → dtype_with kind n (or_zero p) (Some no_fields) ≡ Some d → Gets (dtype_at (suc l) b t) (Some d) 0 l
unfolding dtype_at names_in fields_in or_empty
plain_gets b t l kind ptype n p d reads low is_ptype is =
    let kind_read : Gets (free (field w8 b t 0)) (Some kind) 0 l = gets-free (field w8 b t 0) (Some kind) 0 l (reads.number w8 0 kind refl low) in
    let null_read : Gets (free (field w8 b t 1)) (Some (flag_number n)) 0 l = gets-free (field w8 b t 1) (Some (flag_number n)) 0 l (reads.number w8 1 (flag_number n) refl (flag_below n)) in
    let ptype_read : Gets (free (ptype_field b t kind)) p 0 l = gets-free (ptype_field b t kind) p 0 l is_ptype in
    let no_names = no_vector b t 3 Offsets (reads.absent 3 refl) in
    let no_types = no_vector b t 4 Offsets (reads.absent 4 refl) in
    let names_read : Gets (names_in b t) [] 0 l = then_gets (vector_of b t 3 Offsets) (or_empty (each_text b)) None [] 0 (gets-counted _ (vector_field b t 3 Offsets) None 0 l no_names (omega arith)) (gets-pure [] 0 l) (omega arith) in
    let types_read : Gets (fields_in (dtype_at l b) b t) [] 0 l = then_gets (vector_of b t 4 Offsets) (or_empty (each_table b (dtype_at l b))) None [] 0 (gets-counted _ (vector_field b t 4 Offsets) None 0 l no_types (omega arith)) (gets-pure [] 0 l) (omega arith) in
    let flag : dtype_with kind (not (flag_number n == 0)) (or_zero p) (Some no_fields) ≡ Some d = ap (λ m. dtype_with kind m (or_zero p) (Some no_fields)) (flag_again n) ∙ is in
    let whole : paired kind (not (flag_number n == 0)) (or_zero p) [] [] ≡ Some (Some d) = ap (λ x. Some x) flag in
    let last : Gets (present (paired kind (not (flag_number n == 0)) (or_zero p) [] [])) (Some d) 0 l = subst (λ (x : Option (Option Dtype)). Gets (present x) (Some d) 0 l) (sym whole) (gets-present (Some d) 0 l) in
    then_gets _ _ (Some kind) (Some d) 0 kind_read (
    then_gets _ _ (Some (flag_number n)) (Some d) 0 null_read (
    then_gets _ _ p (Some d) 0 ptype_read (
    then_gets _ _ [] (Some d) 0 names_read (
    then_gets _ _ [] (Some d) 0 types_read last (omega arith)) (omega arith)) (omega arith)) (omega arith)) (omega arith)

-- ---- a struct

names_gets : (b : List ℕ) (t : Table) (l : ℕ) (names : List (List ℕ)) → AreTexts b (vector_field b t 3 Offsets) names → AreUtf8 names → Gets (names_in b t) names (1 + sum_by text_cost names) l
unfolding names_in or_empty each_text
names_gets b t l names v utf8 =
    let read : ℕ → Option (Counted (List ℕ)) = λ q. counted text_cost (text_of_vector b v.vector q) in
    let vector : Gets (vector_of b t 3 Offsets) (Some v.vector) 1 l = gets-counted _ (vector_field b t 3 Offsets) (Some v.vector) 1 l v.found (omega arith) in
    let each : (j : ℕ) (s : List ℕ) → slice_get names j ≡ Some s → Gets (read (0 + j)) s (text_cost s) l =
    λ j s got. gets-counted text_cost (text_of_vector b v.vector (0 + j)) s (text_cost s) l (ap (text_of_vector b v.vector) (zero-add j) ∙ v.each j s got (utf8 j s got)) (omega arith) in
    let all : Gets (each_from read (length names) 0) names (sum_by text_cost names) l = gets-each_costs read text_cost names 0 l each in
    let texts : Gets (each_from read v.vector.count 0) names (sum_by text_cost names) l = subst (λ (c : ℕ). Gets (each_from read c 0) names (sum_by text_cost names) l) (sym v.as_many) all in
    then_gets (vector_of b t 3 Offsets) (or_empty (each_text b)) (Some v.vector) names (1 + sum_by text_cost names) vector texts (omega arith)

struct_gets : (b : List ℕ) (t : Table) (l : ℕ) (fs : FieldList) (n : Bool) (names : List (List ℕ)) (types : List (Option Dtype)) (x y : ℕ)
    → field w8 b t 0 ≡ Some (Some 4) → field w8 b t 1 ≡ Some (Some (flag_number n)) → Gets (names_in b t) names x l → Gets (fields_in (dtype_at l b) b t) types y l
    → length names ≡ length types → known_fields names types ≡ Some fs → Gets (dtype_at (suc l) b t) (Some (struct fs n)) (x + y) l
unfolding dtype_at
struct_gets b t l fs n names types x y is_kind is_flag names_read types_read same known =
    let d : Dtype = struct fs n in
    let kind_read : Gets (free (field w8 b t 0)) (Some 4) 0 l = gets-free (field w8 b t 0) (Some 4) 0 l is_kind in
    let null_read : Gets (free (field w8 b t 1)) (Some (flag_number n)) 0 l = gets-free (field w8 b t 1) (Some (flag_number n)) 0 l is_flag in
    let ptype_read : Gets (free (ptype_field b t 4)) None 0 l = gets-free (ptype_field b t 4) None 0 l refl in
    let count = same_count (length names) (length types) same in
    let whole : paired 4 (not (flag_number n == 0)) 0 names types ≡ Some (Some d) = rw (count, known, flag_again n) refl in
    let last : Gets (present (paired 4 (not (flag_number n == 0)) 0 names types)) (Some d) 0 l = subst (λ (z : Option (Option Dtype)). Gets (present z) (Some d) 0 l) (sym whole) (gets-present (Some d) 0 l) in
    then_gets _ _ (Some 4) (Some d) (x + y) kind_read (
    then_gets _ _ (Some (flag_number n)) (Some d) (x + y) null_read (
    then_gets _ _ None (Some d) (x + y) ptype_read (
    then_gets _ _ names (Some d) (x + y) names_read (
    then_gets _ _ types (Some d) y types_read last (omega arith)) (omega arith)) (omega arith)) (omega arith)) (omega arith)

-- ---- all types

mutual
  unfolding inner_of tables_visits each_from each_table fields_in or_empty

  dtype_gets : (b : List ℕ) (t : Table) (l : ℕ) (d : Dtype) → Stands b t (pieces_of d) → HasTexts d → levels_of d ≤ suc l → Gets (dtype_at (suc l) b t) (Some d) (inner_of d) l
  dtype_gets b t l (bool n) stands h low = plain_gets b t l 1 0 n None (bool n) (reads_back b t (head_pieces 1 n 0) stands) (omega arith) refl refl
  dtype_gets b t l (int p n) stands h low =
      let reads = reads_back b t (head_pieces 2 n (ptype_number p)) stands in
      plain_gets b t l 2 (ptype_number p) n (Some (ptype_number p)) (int p n) reads (omega arith) (reads.number w8 2 (ptype_number p) refl (ptype_below p)) (ap (option_map (λ q. int q n)) (ptype_again p))
  dtype_gets b t l (text n) stands h low = plain_gets b t l 3 0 n None (text n) (reads_back b t (head_pieces 3 n 0) stands) (omega arith) refl refl
  dtype_gets b t l (struct fs n) stands h low =
      let reads = reads_back b t (pieces_of (struct fs n)) stands in
      let tables = reads.tables 4 (all_pieces fs) refl in
      let read : ℕ → Option (Counted (Option Dtype)) = λ q. enter (table_of_vector b tables.vector q) (dtype_at l b) in
      let types : List (Option Dtype) = map (λ d. Some d) (dtypes_of fs) in
      let names = names_gets b t l (names_of fs) (reads.texts 3 (names_of fs) refl) (texts_are fs h) in
      let each : (j : ℕ) (ps : List Piece) → slice_get (all_pieces fs) j ≡ Some ps → in_order 0 ps ≡ true → IsTableAt b (table_of_vector b tables.vector (0 + j)) ps =
      λ j ps got order. subst (λ (q : ℕ). IsTableAt b (table_of_vector b tables.vector q) ps) (sym (zero-add j)) (tables.each j ps got order) in
      let all = fields_gets b tables.vector l fs 0 each h (omega (arith, low)) in
      let inside : Gets (each_from read tables.vector.count 0) types (tables_visits fs) l = subst (λ (c : ℕ). Gets (each_from read c 0) types (tables_visits fs) l) (sym tables.as_many) all in
      let vector : Gets (vector_of b t 4 Offsets) (Some tables.vector) 1 l = gets-counted _ (vector_field b t 4 Offsets) (Some tables.vector) 1 l tables.found (omega arith) in
      let fields : Gets (fields_in (dtype_at l b) b t) types (1 + tables_visits fs) l = then_gets (vector_of b t 4 Offsets) (or_empty (each_table b (dtype_at l b))) (Some tables.vector) types (1 + tables_visits fs) vector inside (omega arith) in
      let as_long : length (names_of fs) ≡ length types = as_many fs in
      let whole = struct_gets b t l fs n (names_of fs) types (1 + sum_by text_cost (names_of fs)) (1 + tables_visits fs) (reads.number w8 0 4 refl (omega arith)) (reads.number w8 1 (flag_number n) refl (flag_below n)) names fields as_long (known_again fs) in
      record { all = whole.all; found = whole.found; value = whole.value; few = omega (arith, whole.few, split_visits fs); flat = whole.flat }

  fields_gets : (b : List ℕ) (v : Vector) (l : ℕ) (fs : FieldList) (i : ℕ) → ((j : ℕ) (ps : List Piece) → slice_get (all_pieces fs) j ≡ Some ps → in_order 0 ps ≡ true → IsTableAt b (table_of_vector b v (i + j)) ps)
      → HaveTexts fs → most_levels fs ≤ l → Gets (each_from (λ q. enter (table_of_vector b v q) (dtype_at l b)) (length (all_pieces fs)) i) (map (λ d. Some d) (dtypes_of fs)) (tables_visits fs) l
  fields_gets b v l no_fields i each h low = gets-pure [] 0 l
  fields_gets b v zero (with n d fs) i each h low = absurd (omega (arith, low, levels_some d))
  fields_gets b v (suc k) (with n d fs) i each h low =
      let read : ℕ → Option (Counted (Option Dtype)) = λ q. enter (table_of_vector b v q) (dtype_at (suc k) b) in
      let types : List (Option Dtype) = map (λ e. Some e) (dtypes_of fs) in
      let found = each 0 (pieces_of d) refl (pieces_ordered d) in
      let here : table_of_vector b v i ≡ Some found.table = ap (table_of_vector b v) (sym (add-zero i)) ∙ found.found in
      let inner = dtype_gets b found.table k d found.stands h.1 (omega (arith, low)) in
      let first = gets-enter (table_of_vector b v i) found.table (dtype_at (suc k) b) (Some d) (inner_of d) k here inner in
      let one : Gets (read i) (Some d) (visits_of d) (suc k) = record { all = first.all; found = first.found; value = first.value; few = omega (arith, first.few, inner_visits d); flat = omega (arith, first.flat) } in
      let others : (j : ℕ) (ps : List Piece) → slice_get (all_pieces fs) j ≡ Some ps → in_order 0 ps ≡ true → IsTableAt b (table_of_vector b v (i + 1 + j)) ps =
      λ j ps got order. subst (λ (q : ℕ). IsTableAt b (table_of_vector b v q) ps) (omega arith) (each (suc j) ps got order) in
      let rest = fields_gets b v (suc k) fs (i + 1) others h.2 (omega (arith, low)) in
      let both_of : Gets (each_from read (length (all_pieces fs)) (i + 1) >>= (λ ys. pure (Some d ∷ ys))) (Some d ∷ types) (tables_visits fs + 0) (suc k) =
      gets-bind (each_from read (length (all_pieces fs)) (i + 1)) (λ ys. pure (Some d ∷ ys)) types (Some d ∷ types) (tables_visits fs) 0 (suc k) rest (gets-pure (Some d ∷ types) 0 (suc k)) in
      let whole = gets-bind (read i) (λ z. each_from read (length (all_pieces fs)) (i + 1) >>= (λ ys. pure (z ∷ ys))) (Some d) (Some d ∷ types) (visits_of d) (tables_visits fs + 0) (suc k) one both_of in
      record { all = whole.all; found = whole.found; value = whole.value; few = omega (arith, whole.few); flat = whole.flat }

pub dtype_back : (d : Dtype) → HasTexts d → length (root_bytes (pieces_of d)) < 2 ^ 32 → levels_of d ≤ 64 → visits_of d ≤ 1000000 → allowed (dtype_table (root_bytes (pieces_of d))) ≡ Some (Some d)
unfolding dtype_table
dtype_back d h short deep few =
    let b = root_bytes (pieces_of d) in
    let r = root_read (pieces_of d) (pieces_ordered d) short in
    let inner = dtype_gets b r.table 63 d r.stands h deep in
    gets-allowed _ (Some d) (inner_of d + 1) 64 (gets-enter (root b) r.table (dtype_at 64 b) (Some d) (inner_of d) 63 r.found inner) (omega (arith, few, inner_visits d)) (omega arith)

-- ---- what writing gives

record IsWritten (levels visits : ℕ) (ps : List Piece) (bytes : List ℕ) : Type 0 where
  deep : levels ≤ 64
  few : visits ≤ 1000000
  short : length (root_bytes ps) < 2 ^ 32
  same : root_bytes ps ≡ bytes

at_most : (n m : ℕ) → nat_le n m ≡ true → n ≤ m
at_most n m h = grind (arith, nat_tests)

less : (n m : ℕ) → nat_lt n m ≡ true → n < m
less n m h = grind (arith, nat_tests)

opened : (a b c : Bool) (x bytes : List ℕ) → (TooDeep unless a passes λ _. TooManyTables unless b passes λ _. TableTooLong unless c passes λ _. Ok x) ≡ Ok bytes → (a ≡ true) × (b ≡ true) × (c ≡ true) × (x ≡ bytes)
opened true true true x bytes h = (refl, refl, refl, cc)
opened true true false x bytes h = absurd cc
opened true false c x bytes h = absurd cc
opened false b c x bytes h = absurd cc

was_written : (levels visits : ℕ) (ps : List Piece) (bytes : List ℕ) → written levels visits ps ≡ Ok bytes → IsWritten levels visits ps bytes
was_written levels visits ps bytes h =
    let o = opened (nat_le levels 64) (nat_le visits 1000000) (nat_lt (length (root_bytes ps)) (2 ^ 32)) (root_bytes ps) bytes h in
    record { deep = at_most _ _ o.0; few = at_most _ _ o.1; short = less _ _ o.2; same = o.3 }

pub written_back : (d : Dtype) (bytes : List ℕ) → HasTexts d → dtype_written d ≡ Ok bytes → dtype_checks bytes ≡ Ok d
unfolding dtype_written dtype_checks
written_back d bytes h is =
    let w = was_written (levels_of d) (visits_of d) (pieces_of d) bytes is in
    let read = ap (λ b. allowed (dtype_table b)) (sym w.same) ∙ dtype_back d h w.short w.deep w.few in
    rw read refl
