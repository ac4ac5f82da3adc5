-- A table of statistics that was written is read.
use Rattle.std.proofs.Common.{◌≡◌, ℕ, suc, ◌+◌, ◌*◌, ◌/◌, ◌<◌, ◌≤◌, ◌^◌, Bool, true, false, List, [], ◌∷◌, ◌++◌, length, map, Option, Some, None, Ok, refl, sym, ap, ap₂, subst, ◌∙◌, arith, add-zero, zero-add}
use Rattle.std.specs.Prelude.{◌==◌, slice_get, sum_by, IfSome}
use Rattle.std.specs.Int.{w8, w64}
use Rattle.std.specs.List.{AllByRecursion}
use Rattle.std.proofs.lemmas.Bool.Decides.{nat_tests}
use Rattle.std.proofs.lemmas.List.Sums.{sum_by-cons}
use Rattle.vx_tables.specs.declared.elements.Elements.TheVariants.{Numbers, Offsets}
use Rattle.vx_tables.specs.Block.{Piece, number as a_number, bytes, in_order, root_bytes}
use Rattle.vx_tables.specs.Field.{Table, Vector, root, field, vector_field, table_of_vector, element_bytes}
use Rattle.vx_tables.specs.Counted.{Counted, ◌>>=◌, free, pure, enter, each_from, each_table, or_empty, vector_of, allowed}
use Rattle.vx_tables.specs.Standing.{piece_at, ReadsBack, IsTableAt}
use Rattle.vx_tables.proofs.ReadAll.{reads_back, root_read, no_vector, no_number}
use Rattle.vx_tables.proofs.Walked.{Gets, then_gets, gets-pure, gets-free, gets-counted, gets-enter, gets-bind, gets-allowed}
use Rattle.vx_data.specs.Dtype.{Dtype}
use Rattle.vx_data.specs.DtypeWritten.{flag_number}
use Rattle.vx_data.specs.Stats.{Stats}
use Rattle.vx_data.specs.StatsEntry.{Entry}
use Rattle.vx_data.specs.StatsTable.{is_exact, bytes_in, entry_in, entries_in, stats_table, columns_of, bound_of, count_stat, stats_of, set_before, all_stats, stats_checks}
use Rattle.vx_data.specs.StatsWritten.{entry_of, entries_of, bound_pieces, count_pieces, entry_pieces, stats_pieces, bound_visits, entry_visits, stats_visits}
use Rattle.vx_footer.specs.FileStats.{FileStats}
use Rattle.vx_footer.specs.Serializing.{stats_root}
use Rattle.vx_footer.specs.ReadAgain.{AreSets, AreStats}

-- ---- an entry as it is read: a precision is one where its scalar is there

sure_if : {A : Type 0} → Option A → Bool → Bool
sure_if None exact = false
sure_if (Some x) exact = exact

abbrev entry_by : Option (List ℕ) → Bool → Option (List ℕ) → Bool → Option ℕ → Bool → Entry
entry_by min a max b count c = record { min = min; is_min_exact = a; max = max; is_max_exact = b; null_count = count; is_null_count_exact = c }

abbrev entry_read : Entry → Entry
entry_read e = entry_by e.min (sure_if e.min e.is_min_exact) e.max (sure_if e.max e.is_max_exact) e.null_count (sure_if e.null_count e.is_null_count_exact)

bound_same : (d : Dtype) (o : Option (List ℕ)) (b : Bool) → bound_of d o (sure_if o b) ≡ bound_of d o b
unfolding sure_if
bound_same d None b = refl
bound_same d (Some xs) b = refl

count_same : (o : Option ℕ) (b : Bool) → count_stat o (sure_if o b) ≡ count_stat o b
unfolding sure_if
count_same None b = refl
count_same (Some n) b = refl

stats_same : (d : Dtype) (e : Entry) → stats_of d (entry_read e) ≡ stats_of d e
stats_same d e = rw (bound_same d e.min e.is_min_exact, bound_same d e.max e.is_max_exact, count_same e.null_count e.is_null_count_exact) refl

-- ---- pieces

bytes_piece : ℕ → Option (List ℕ) → Option Piece
bytes_piece k None = None
bytes_piece k (Some xs) = Some (bytes k xs)

count_piece : Option ℕ → Option Piece
count_piece None = None
count_piece (Some n) = Some (a_number w64 4 n)

flag_piece : {A : Type 0} → ℕ → Option A → Bool → Option Piece
flag_piece k None exact = None
flag_piece k (Some x) exact = Some (a_number w8 k (flag_number exact))

abbrev pieces_by : Option (List ℕ) → Bool → Option (List ℕ) → Bool → Option ℕ → Bool → List Piece
pieces_by min a max b count c = (bound_pieces 0 min a ++ bound_pieces 2 max b) ++ count_pieces count c

abbrev Has : List Piece → Option (List ℕ) → Bool → Option (List ℕ) → Bool → Option ℕ → Bool → Type 0
Has ps min a max b count c =
    (piece_at 0 ps ≡ bytes_piece 0 min) × (piece_at 1 ps ≡ flag_piece 1 min a) × (piece_at 2 ps ≡ bytes_piece 2 max)
    × (piece_at 3 ps ≡ flag_piece 3 max b) × (piece_at 4 ps ≡ count_piece count) × (piece_at 5 ps ≡ flag_piece 5 count c)

has : (min : Option (List ℕ)) (a : Bool) (max : Option (List ℕ)) (b : Bool) (count : Option ℕ) (c : Bool) → Has (pieces_by min a max b count c) min a max b count c
unfolding bytes_piece count_piece flag_piece
has None a None b None c = (refl, refl, refl, refl, refl, refl)
has None a None b (Some n) c = (refl, refl, refl, refl, refl, refl)
has None a (Some ys) b None c = (refl, refl, refl, refl, refl, refl)
has None a (Some ys) b (Some n) c = (refl, refl, refl, refl, refl, refl)
has (Some xs) a None b None c = (refl, refl, refl, refl, refl, refl)
has (Some xs) a None b (Some n) c = (refl, refl, refl, refl, refl, refl)
has (Some xs) a (Some ys) b None c = (refl, refl, refl, refl, refl, refl)
has (Some xs) a (Some ys) b (Some n) c = (refl, refl, refl, refl, refl, refl)

order_by : (min : Option (List ℕ)) (a : Bool) (max : Option (List ℕ)) (b : Bool) (count : Option ℕ) (c : Bool) → in_order 0 (pieces_by min a max b count c) ≡ true
order_by None a None b None c = refl
order_by None a None b (Some n) c = refl
order_by None a (Some ys) b None c = refl
order_by None a (Some ys) b (Some n) c = refl
order_by (Some xs) a None b None c = refl
order_by (Some xs) a None b (Some n) c = refl
order_by (Some xs) a (Some ys) b None c = refl
order_by (Some xs) a (Some ys) b (Some n) c = refl

-- ---- fields

bytes_gets : (b : List ℕ) (t : Table) (ps : List Piece) (k : ℕ) (o : Option (List ℕ)) (l : ℕ) → ReadsBack b t ps → piece_at k ps ≡ bytes_piece k o → Gets (bytes_in b t k) o (bound_visits o) l
unfolding bytes_in bytes_piece
bytes_gets b t ps k None l reads e =
    let vector : Gets (vector_of b t k (Numbers 1)) None 0 l = gets-counted _ (vector_field b t k (Numbers 1)) None 0 l (no_vector b t k (Numbers 1) (reads.absent k e)) (omega arith) in
    then_gets _ _ None None 0 vector (gets-pure None 0 l) (omega arith)
bytes_gets b t ps k (Some xs) l reads e =
    let v = reads.bytes k xs e in
    let size = bound_visits (Some xs) in
    let cost : 1 + v.vector.count * 1 / 64 ≤ size = omega (arith, v.as_many) in
    let vector : Gets (vector_of b t k (Numbers 1)) (Some v.vector) size l = gets-counted _ (vector_field b t k (Numbers 1)) (Some v.vector) size l v.found cost in
    let cells = element_bytes b v.vector (Numbers 1) in
    let read = then_gets _ _ (Some v.vector) (Some cells) size vector (gets-pure (Some cells) 0 l) (omega arith) in
    subst (λ (ys : List ℕ). Gets (bytes_in b t k) (Some ys) size l) v.bytes read

precision : {A : Type 0} → Option A → Bool → Option ℕ
precision None exact = None
precision (Some x) exact = Some (flag_number exact)

exact_is : {A : Type 0} (o : Option A) (exact : Bool) → is_exact (precision o exact) ≡ sure_if o exact
unfolding precision sure_if
exact_is None exact = refl
exact_is (Some x) true = refl
exact_is (Some x) false = refl

flag_low : (b : Bool) → flag_number b < 256
flag_low true = omega arith
flag_low false = omega arith

flag_gets : {A : Type 0} (b : List ℕ) (t : Table) (ps : List Piece) (k : ℕ) (o : Option A) (exact : Bool) (l : ℕ) → ReadsBack b t ps → piece_at k ps ≡ flag_piece k o exact
    → Gets (free (field w8 b t k)) (precision o exact) 0 l
unfolding flag_piece precision
flag_gets b t ps k None exact l reads e = gets-free (field w8 b t k) None 0 l (no_number w8 b t k (reads.absent k e))
flag_gets b t ps k (Some x) exact l reads e = gets-free (field w8 b t k) (Some (flag_number exact)) 0 l (reads.number w8 k (flag_number exact) e (flag_low exact))

count_gets : (b : List ℕ) (t : Table) (ps : List Piece) (o : Option ℕ) (l : ℕ) → IfSome o (λ n. n < 2 ^ 64) → ReadsBack b t ps → piece_at 4 ps ≡ count_piece o → Gets (free (field w64 b t 4)) o 0 l
unfolding count_piece
count_gets b t ps None l low reads e = gets-free (field w64 b t 4) None 0 l (no_number w64 b t 4 (reads.absent 4 e))
count_gets b t ps (Some n) l low reads e = gets-free (field w64 b t 4) (Some n) 0 l (reads.number w64 4 n e low)

-- ---- an entry

abbrev raw_entry : Option (List ℕ) → Option ℕ → Option (List ℕ) → Option ℕ → Option ℕ → Option ℕ → Entry
raw_entry min p max q count r = entry_by min (is_exact p) max (is_exact q) count (is_exact r)

entry_gets : (b : List ℕ) (t : Table) (e : Entry) (l : ℕ) → IfSome e.null_count (λ n. n < 2 ^ 64) → ReadsBack b t (entry_pieces e) → Gets (entry_in b t) (entry_read e) (bound_visits e.min + bound_visits e.max) l
unfolding entry_in
entry_gets b t e l low reads =
    let ps = entry_pieces e in
    let h : Has ps e.min e.is_min_exact e.max e.is_max_exact e.null_count e.is_null_count_exact = has e.min e.is_min_exact e.max e.is_max_exact e.null_count e.is_null_count_exact in
    let p = precision e.min e.is_min_exact in
    let q = precision e.max e.is_max_exact in
    let r = precision e.null_count e.is_null_count_exact in
    let x = bound_visits e.min in
    let y = bound_visits e.max in
    let raw = raw_entry e.min p e.max q e.null_count r in
    let same : raw ≡ entry_read e = λ i. record {
      min = e.min;
      is_min_exact = exact_is e.min e.is_min_exact i;
      max = e.max;
      is_max_exact = exact_is e.max e.is_max_exact i;
      null_count = e.null_count;
      is_null_count_exact = exact_is e.null_count e.is_null_count_exact i;
    } in
    let read : Gets (entry_in b t) raw (x + y) l =
    then_gets _ _ e.min raw (x + y) (bytes_gets b t ps 0 e.min l reads h.0) (
    then_gets _ _ p raw y (flag_gets b t ps 1 e.min e.is_min_exact l reads h.1) (
    then_gets _ _ e.max raw y (bytes_gets b t ps 2 e.max l reads h.2) (
    then_gets _ _ q raw 0 (flag_gets b t ps 3 e.max e.is_max_exact l reads h.3) (
    then_gets _ _ e.null_count raw 0 (count_gets b t ps e.null_count l low reads h.4) (
    then_gets _ _ r raw 0 (flag_gets b t ps 5 e.null_count e.is_null_count_exact l reads h.5) (
    gets-pure raw 0 l) (omega arith)) (omega arith)) (omega arith)) (omega arith)) (omega arith)) (omega arith) in
    subst (λ (z : Entry). Gets (entry_in b t) z (x + y) l) same read

-- ---- all entries

abbrev AreLow : List Entry → Type 0
AreLow es = AllByRecursion (λ (e : Entry). IfSome e.null_count (λ n. n < 2 ^ 64)) es

entries_gets : (b : List ℕ) (v : Vector) (es : List Entry) (i : ℕ)
    → ((j : ℕ) (ps : List Piece) → slice_get (map entry_pieces es) j ≡ Some ps → in_order 0 ps ≡ true → IsTableAt b (table_of_vector b v (i + j)) ps)
    → AreLow es → Gets (each_from (λ q. enter (table_of_vector b v q) (entry_in b)) (length (map entry_pieces es)) i) (map entry_read es) (sum_by entry_visits es) 1
unfolding each_from
entries_gets b v [] i each low = gets-pure [] 0 1
entries_gets b v (e ∷ es) i each low =
    let read : ℕ → Option (Counted Entry) = λ q. enter (table_of_vector b v q) (entry_in b) in
    let n = length (map entry_pieces es) in
    let rows = map entry_read es in
    let x = entry_read e in
    let size = bound_visits e.min + bound_visits e.max in
    let found = each 0 (entry_pieces e) refl (order_by e.min e.is_min_exact e.max e.is_max_exact e.null_count e.is_null_count_exact) in
    let here : table_of_vector b v i ≡ Some found.table = ap (table_of_vector b v) (sym (add-zero i)) ∙ found.found in
    let inner = entry_gets b found.table e 0 low.0 (reads_back b found.table (entry_pieces e) found.stands) in
    let entered = gets-enter (table_of_vector b v i) found.table (entry_in b) x size 0 here inner in
    let first : Gets (read i) x (entry_visits e) 1 = record { all = entered.all; found = entered.found; value = entered.value; few = omega (arith, entered.few); flat = omega (arith, entered.flat) } in
    let others : (j : ℕ) (ps : List Piece) → slice_get (map entry_pieces es) j ≡ Some ps → in_order 0 ps ≡ true → IsTableAt b (table_of_vector b v (i + 1 + j)) ps =
    λ j ps got order. subst (λ (q : ℕ). IsTableAt b (table_of_vector b v q) ps) (omega arith) (each (suc j) ps got order) in
    let rest = entries_gets b v es (i + 1) others low.1 in
    let cost = sum_by entry_visits es in
    let both_of : Gets (each_from read n (i + 1) >>= (λ ys. pure (x ∷ ys))) (x ∷ rows) (cost + 0) 1 = gets-bind (each_from read n (i + 1)) (λ ys. pure (x ∷ ys)) rows (x ∷ rows) cost 0 1 rest (gets-pure (x ∷ rows) 0 1) in
    let whole = gets-bind (read i) (λ z. each_from read n (i + 1) >>= (λ ys. pure (z ∷ ys))) x (x ∷ rows) (entry_visits e) (cost + 0) 1 first both_of in
    record { all = whole.all; found = whole.found; value = whole.value; few = omega (arith, whole.few, sum_by-cons entry_visits e es); flat = whole.flat }

table_back : (es : List Entry) → AreLow es → length (root_bytes (stats_pieces es)) < 2 ^ 32 → stats_visits es ≤ 1000000 → allowed (stats_table (root_bytes (stats_pieces es))) ≡ Some (map entry_read es)
unfolding stats_table entries_in or_empty each_table
table_back es low short few =
    let ps = stats_pieces es in
    let b = root_bytes ps in
    let r = root_read ps refl short in
    let t = r.table in
    let xs = map entry_read es in
    let cost = sum_by entry_visits es in
    let v = r.reads.tables 0 (map entry_pieces es) refl in
    let read : ℕ → Option (Counted Entry) = λ q. enter (table_of_vector b v.vector q) (entry_in b) in
    let each : (j : ℕ) (qs : List Piece) → slice_get (map entry_pieces es) j ≡ Some qs → in_order 0 qs ≡ true → IsTableAt b (table_of_vector b v.vector (0 + j)) qs =
    λ j qs got order. subst (λ (q : ℕ). IsTableAt b (table_of_vector b v.vector q) qs) (sym (zero-add j)) (v.each j qs got order) in
    let all = entries_gets b v.vector es 0 each low in
    let inside : Gets (each_from read v.vector.count 0) xs cost 1 = subst (λ (c : ℕ). Gets (each_from read c 0) xs cost 1) (sym v.as_many) all in
    let vector : Gets (vector_of b t 0 Offsets) (Some v.vector) 1 1 = gets-counted _ (vector_field b t 0 Offsets) (Some v.vector) 1 1 v.found (omega arith) in
    let entries : Gets (entries_in b t) xs (1 + cost) 1 = then_gets (vector_of b t 0 Offsets) (or_empty (each_table b (entry_in b))) (Some v.vector) xs (1 + cost) vector inside (omega arith) in
    gets-allowed _ xs (1 + cost + 1) 2 (gets-enter (root b) t (entries_in b) xs (1 + cost) 1 r.found entries) (omega (arith, few)) (omega arith)

-- ---- sets

are_low : (ss : List Stats) (ds : List Dtype) → AreSets ss ds → AreLow (entries_of ss ds)
are_low [] ds h = tt
are_low (s ∷ ss) [] h = absurd h
are_low (s ∷ ss) (d ∷ ds) h = (h.0.count, are_low ss ds h.1)

as_many : (ss : List Stats) (ds : List Dtype) → AreSets ss ds → length (map entry_read (entries_of ss ds)) ≡ length ds
as_many [] [] h = refl
as_many [] (d ∷ ds) h = absurd h
as_many (s ∷ ss) [] h = absurd h
as_many (s ∷ ss) (d ∷ ds) h = ap suc (as_many ss ds h.1)

sets_again : (ss : List Stats) (ds : List Dtype) → AreSets ss ds → all_stats (map entry_read (entries_of ss ds)) ds ≡ Some ss
sets_again [] [] h = refl
sets_again [] (d ∷ ds) h = absurd h
sets_again (s ∷ ss) [] h = absurd h
sets_again (s ∷ ss) (d ∷ ds) h = ap₂ set_before (stats_same d (entry_of d s) ∙ h.0.again) (sets_again ss ds h.1)

equal : (n m : ℕ) → n ≡ m → (n == m) ≡ true
equal n m e = grind (arith, nat_tests)

checked : (d : Dtype) (ss : List Stats) → AreSets ss (columns_of d) → length (root_bytes (stats_pieces (entries_of ss (columns_of d)))) < 2 ^ 32 → stats_visits (entries_of ss (columns_of d)) ≤ 1000000
    → stats_checks d (root_bytes (stats_pieces (entries_of ss (columns_of d)))) ≡ Ok ss
unfolding stats_checks
checked d ss h short few =
    let ds = columns_of d in
    let es = entries_of ss ds in
    rw (table_back es (are_low ss ds h) short few, equal (length (map entry_read es)) (length ds) (as_many ss ds h), sets_again ss ds h) refl

pub stats_again : (d : Dtype) (stats : FileStats) → AreStats d stats → length (stats_root (Some stats)) < 2 ^ 32 → stats_visits (entries_of stats.sets stats.dtypes) ≤ 1000000
    → stats_checks d (stats_root (Some stats)) ≡ Ok stats.sets
stats_again d stats h short few =
    let is = h.dtypes in
    ap (λ ds. stats_checks d (root_bytes (stats_pieces (entries_of stats.sets ds)))) is
    ∙ checked d stats.sets h.sets (subst (λ (ds : List Dtype). length (root_bytes (stats_pieces (entries_of stats.sets ds))) < 2 ^ 32) is short) (subst (λ (ds : List Dtype). stats_visits (entries_of stats.sets ds) ≤ 1000000) is few)
