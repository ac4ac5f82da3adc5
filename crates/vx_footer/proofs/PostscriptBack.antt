-- A postscript that was written is read back, with its metadata.
use Rattle.std.proofs.Common.{◌≡◌, ℕ, suc, ◌+◌, ◌*◌, ◌≤◌, Bool, true, false, List, [], ◌∷◌, ◌++◌, length, map, Option, Some, None, Ok, Err, refl, sym, ap, subst, ◌∙◌, arith, zero-add, add-zero, append_assoc}
use Rattle.std.specs.Prelude.{not, ◌==◌, nat_le, slice_get, IfSome, Result}
use Rattle.std.specs.List.{AllByRecursion, list_all}
use Rattle.std.specs.Option.{option_map}
use Rattle.std.proofs.lemmas.Bool.{le-leb}
use Rattle.std.proofs.lemmas.Bool.Decides.{nat_tests}
use Rattle.std.proofs.lemmas.List.{length-map, append-nil}
use Rattle.std.proofs.lemmas.List.Sums.{sum_by-cons}
use Rattle.vx_base.specs.Checks.{◌>>=◌ as ◌passes_to◌, ◌unless◌}
use Rattle.vx_tables.specs.declared.elements.Elements.TheVariants.{Offsets}
use Rattle.vx_tables.specs.Block.{Piece, table, tables, in_order, root_bytes}
use Rattle.vx_tables.specs.Field.{Table, Vector, root, text_field, vector_field, table_of_vector}
use Rattle.vx_tables.specs.Counted.{Counted, ◌>>=◌, pure, enter, each_from, each_table, vector_of, text_cost, optional_cost, allowed}
use Rattle.vx_tables.specs.Standing.{piece_at, ReadsBack, IsTableAt}
use Rattle.vx_tables.proofs.ReadAll.{reads_back, root_read}
use Rattle.vx_tables.proofs.Walked.{Gets, then_gets, gets-pure, gets-present, gets-counted, gets-enter, gets-or_empty, gets-bind, gets-allowed}
use Rattle.vx_footer.specs.declared.version.FileVersion.{FileVersion}
use Rattle.vx_footer.specs.declared.version.FileVersion.TheVariants.{V1, V2}
use Rattle.vx_footer.specs.declared.postscript.Postscript.{Postscript}
use Rattle.vx_footer.specs.declared.postscript.PostscriptSegment.{PostscriptSegment}
use Rattle.vx_footer.specs.declared.postscript.PostscriptMetadata.{PostscriptMetadata}
use Rattle.vx_footer.specs.declared.rows.MetadataRow.{MetadataRow}
use Rattle.vx_footer.specs.declared.rows.PostscriptRow.{PostscriptRow}
use Rattle.vx_footer.specs.declared.write_error.WriteError.{WriteError}
use Rattle.vx_footer.specs.declared.write_error.WriteError.TheVariants.{TooManyMetadata, EmptyKey, LongKey, DuplicateKey}
use Rattle.vx_footer.specs.Footers.{entries_size}
use Rattle.vx_footer.specs.Tables.{locator_field, text_required, entry_in, entries_of, metadata_in, postscript_in, postscript_table}
use Rattle.vx_footer.specs.Opening.{is_plain, all_plain, most_entries, longest_key, has_key, aligned, aligned_if_any, entry_checks, entries_checks, places_checks, postscript_checks}
use Rattle.vx_footer.specs.Serialized.{place_pieces}
use Rattle.vx_footer.specs.PostscriptWritten.{entry_pieces, postscript_root, key_checks, keys_checks, postscript_written, IsNarrow, IsEntry, IsSpelled}
use Rattle.vx_footer.proofs.TablesBack.{raw, locator_gets, absent_gets, required_gets, no_metadata}
use Rattle.vx_footer.proofs.TablesBack as back
use Rattle.vx_footer.proofs.PostscriptSize.{pieces_by, order_by, root_is_short}

-- ---- what stands in the table

abbrev raw_entry : PostscriptMetadata → MetadataRow
raw_entry m = record { key = m.key; segment = raw m.segment }

abbrev row_by : Option PostscriptSegment → PostscriptSegment → Option PostscriptSegment → PostscriptSegment → List PostscriptMetadata → PostscriptRow
row_by d l s f ms = record { dtype = option_map raw d; layout = raw l; statistics = option_map raw s; footer = raw f; metadata = map raw_entry ms }

abbrev locator_piece : ℕ → Option PostscriptSegment → Option Piece
locator_piece k None = None
locator_piece k (Some s) = Some (table k (place_pieces s))

abbrev metadata_piece : List PostscriptMetadata → Option Piece
metadata_piece [] = None
metadata_piece (m ∷ ms) = Some (tables 4 (map entry_pieces (m ∷ ms)))

-- each slot has its piece
abbrev Has : List Piece → Option PostscriptSegment → PostscriptSegment → Option PostscriptSegment → PostscriptSegment → List PostscriptMetadata → Type 0
Has ps d l s f ms =
    (piece_at 0 ps ≡ locator_piece 0 d) × (piece_at 1 ps ≡ Some (table 1 (place_pieces l))) × (piece_at 2 ps ≡ locator_piece 2 s)
    × (piece_at 3 ps ≡ Some (table 3 (place_pieces f))) × (piece_at 4 ps ≡ metadata_piece ms)

has : (d : Option PostscriptSegment) (l : PostscriptSegment) (s : Option PostscriptSegment) (f : PostscriptSegment) (ms : List PostscriptMetadata) → Has (pieces_by d l s f ms) d l s f ms
has None l None f [] = (refl, refl, refl, refl, refl)
has None l None f (m ∷ ms) = (refl, refl, refl, refl, refl)
has None l (Some s) f [] = (refl, refl, refl, refl, refl)
has None l (Some s) f (m ∷ ms) = (refl, refl, refl, refl, refl)
has (Some d) l None f [] = (refl, refl, refl, refl, refl)
has (Some d) l None f (m ∷ ms) = (refl, refl, refl, refl, refl)
has (Some d) l (Some s) f [] = (refl, refl, refl, refl, refl)
has (Some d) l (Some s) f (m ∷ ms) = (refl, refl, refl, refl, refl)

-- ---- the parts are read

raised : {A : Type 0} (r : Option (Counted A)) (x : A) (n k l m : ℕ) → Gets r x n l → n ≤ k → l ≤ m → Gets r x k m
raised r x n k l m g few flat = record { all = g.all; found = g.found; value = g.value; few = omega (arith, g.few, few); flat = omega (arith, g.flat, flat) }

narrow : (s : PostscriptSegment) → IsNarrow s → back.IsNarrow s
narrow s h = record { offset = h.offset; size = h.size; exponent = omega (arith, h.exponent) }

locator_back : (b : List ℕ) (t : Table) (ps : List Piece) (k : ℕ) (s : Option PostscriptSegment) → IfSome s IsNarrow → ReadsBack b t ps → piece_at k ps ≡ locator_piece k s
    → Gets (locator_field b t k) (option_map raw s) 1 2
locator_back b t ps k None h reads e = raised _ _ 0 1 1 2 (absent_gets b t k (reads.absent k e)) (omega arith) (omega arith)
locator_back b t ps k (Some s) h reads e = raised _ _ 1 1 1 2 (locator_gets b t ps k s (narrow s h) reads e) (omega arith) (omega arith)

entry_gets : (b : List ℕ) (t : Table) (m : PostscriptMetadata) → IsEntry m → ReadsBack b t (entry_pieces m) → Gets (entry_in b t) (raw_entry m) (2 + length m.key) 1
unfolding entry_in text_required entry_pieces
entry_gets b t m h reads =
    let cost : text_cost m.key ≤ 1 + length m.key = omega arith in
    let text_read = gets-counted (optional_cost text_cost) (text_field b t 0) (Some m.key) (1 + length m.key) 1 (reads.text 0 m.key refl h.text) cost in
    let key : Gets (text_required b t 0) m.key (1 + length m.key) 1 = then_gets _ _ (Some m.key) m.key (1 + length m.key) text_read (gets-present m.key 0 1) (omega arith) in
    let segment = required_gets b t (entry_pieces m) 1 m.segment (narrow m.segment h.segment) reads refl in
    then_gets _ _ m.key (raw_entry m) (2 + length m.key) key (
    then_gets _ _ (raw m.segment) (raw_entry m) 1 segment (
    gets-pure (raw_entry m) 0 1) (omega arith)) (omega arith)

entries_gets : (b : List ℕ) (v : Vector) (ms : List PostscriptMetadata) (i : ℕ)
    → ((j : ℕ) (ps : List Piece) → slice_get (map entry_pieces ms) j ≡ Some ps → in_order 0 ps ≡ true → IsTableAt b (table_of_vector b v (i + j)) ps)
    → AllByRecursion IsEntry ms → Gets (each_from (λ q. enter (table_of_vector b v q) (entry_in b)) (length (map entry_pieces ms)) i) (map raw_entry ms) (entries_size ms) 2
unfolding each_from entry_pieces
entries_gets b v [] i each h = gets-pure [] 0 2
entries_gets b v (m ∷ ms) i each h =
    let read : ℕ → Option (Counted MetadataRow) = λ q. enter (table_of_vector b v q) (entry_in b) in
    let n = length (map entry_pieces ms) in
    let rows = map raw_entry ms in
    let found = each 0 (entry_pieces m) refl refl in
    let here : table_of_vector b v i ≡ Some found.table = ap (table_of_vector b v) (sym (add-zero i)) ∙ found.found in
    let inner = entry_gets b found.table m h.0 (reads_back b found.table (entry_pieces m) found.stands) in
    let entered = gets-enter (table_of_vector b v i) found.table (entry_in b) (raw_entry m) (2 + length m.key) 1 here inner in
    let first : Gets (read i) (raw_entry m) (16 + length m.key) 2 = raised _ _ (2 + length m.key + 1) (16 + length m.key) 2 2 entered (omega arith) (omega arith) in
    let others : (j : ℕ) (ps : List Piece) → slice_get (map entry_pieces ms) j ≡ Some ps → in_order 0 ps ≡ true → IsTableAt b (table_of_vector b v (i + 1 + j)) ps =
    λ j ps got order. subst (λ (q : ℕ). IsTableAt b (table_of_vector b v q) ps) (omega arith) (each (suc j) ps got order) in
    let rest = entries_gets b v ms (i + 1) others h.1 in
    let both_of : Gets (each_from read n (i + 1) >>= (λ ys. pure (raw_entry m ∷ ys))) (raw_entry m ∷ rows) (entries_size ms + 0) 2 =
    gets-bind (each_from read n (i + 1)) (λ ys. pure (raw_entry m ∷ ys)) rows (raw_entry m ∷ rows) (entries_size ms) 0 2 rest (gets-pure (raw_entry m ∷ rows) 0 2) in
    let whole = gets-bind (read i) (λ z. each_from read n (i + 1) >>= (λ ys. pure (z ∷ ys))) (raw_entry m) (raw_entry m ∷ rows) (16 + length m.key) (entries_size ms + 0) 2 first both_of in
    record { all = whole.all; found = whole.found; value = whole.value; few = omega (arith, whole.few, sum_by-cons (λ (e : PostscriptMetadata). 16 + length e.key) m ms); flat = whole.flat }

metadata_back : (b : List ℕ) (t : Table) (ps : List Piece) (ms : List PostscriptMetadata) → AllByRecursion IsEntry ms → ReadsBack b t ps → piece_at 4 ps ≡ metadata_piece ms
    → Gets (metadata_in b t) (map raw_entry ms) (1 + entries_size ms) 2
unfolding metadata_in entries_of each_table
metadata_back b t ps [] h reads e = raised _ _ 0 1 1 2 (no_metadata b t (reads.absent 4 e)) (omega arith) (omega arith)
metadata_back b t ps (m ∷ ms) h reads e =
    let all = m ∷ ms in
    let rows = map raw_entry all in
    let v = reads.tables 4 (map entry_pieces all) e in
    let read : ℕ → Option (Counted MetadataRow) = λ q. enter (table_of_vector b v.vector q) (entry_in b) in
    let each : (j : ℕ) (qs : List Piece) → slice_get (map entry_pieces all) j ≡ Some qs → in_order 0 qs ≡ true → IsTableAt b (table_of_vector b v.vector (0 + j)) qs =
    λ j qs got order. subst (λ (q : ℕ). IsTableAt b (table_of_vector b v.vector q) qs) (sym (zero-add j)) (v.each j qs got order) in
    let entries = entries_gets b v.vector all 0 each h in
    let inside : Gets (each_from read v.vector.count 0) rows (entries_size all) 2 = subst (λ (c : ℕ). Gets (each_from read c 0) rows (entries_size all) 2) (sym v.as_many) entries in
    let vector : Gets (vector_of b t 4 Offsets) (Some v.vector) 1 2 = gets-counted _ (vector_field b t 4 Offsets) (Some v.vector) 1 2 v.found (omega arith) in
    then_gets _ _ (Some v.vector) rows (1 + entries_size all) vector (gets-or_empty (entries_of b) v.vector rows (entries_size all) 2 inside) (omega arith)

row_gets : (b : List ℕ) (t : Table) (d : Option PostscriptSegment) (l : PostscriptSegment) (s : Option PostscriptSegment) (f : PostscriptSegment) (ms : List PostscriptMetadata)
    → IfSome d IsNarrow → IsNarrow l → IfSome s IsNarrow → IsNarrow f → AllByRecursion IsEntry ms → ReadsBack b t (pieces_by d l s f ms) → Gets (postscript_in b t) (row_by d l s f ms) (5 + entries_size ms) 2
unfolding postscript_in
row_gets b t d l s f ms hd hl hs hf hm reads =
    let ps = pieces_by d l s f ms in
    let row = row_by d l s f ms in
    let h = has d l s f ms in
    let dtype = locator_back b t ps 0 d hd reads h.0 in
    let layout = raised _ _ 1 1 1 2 (required_gets b t ps 1 l (narrow l hl) reads h.1) (omega arith) (omega arith) in
    let statistics = locator_back b t ps 2 s hs reads h.2 in
    let footer = raised _ _ 1 1 1 2 (required_gets b t ps 3 f (narrow f hf) reads h.3) (omega arith) (omega arith) in
    let metadata = metadata_back b t ps ms hm reads h.4 in
    then_gets _ _ (option_map raw d) row (5 + entries_size ms) dtype (
    then_gets _ _ (raw l) row (4 + entries_size ms) layout (
    then_gets _ _ (option_map raw s) row (3 + entries_size ms) statistics (
    then_gets _ _ (raw f) row (2 + entries_size ms) footer (
    then_gets _ _ (map raw_entry ms) row (1 + entries_size ms) metadata (
    gets-pure row 0 2) (omega arith)) (omega arith)) (omega arith)) (omega arith)) (omega arith)

abbrev row_of : Postscript → PostscriptRow
row_of p = row_by p.dtype p.layout p.statistics p.footer p.metadata

table_back : (p : Postscript) → IsSpelled p → length p.metadata ≤ 64 → entries_size p.metadata ≤ 17408 → allowed (postscript_table (postscript_root p)) ≡ Some (row_of p)
unfolding postscript_table postscript_root
table_back p h few small =
    let ps = pieces_by p.dtype p.layout p.statistics p.footer p.metadata in
    let b = root_bytes ps in
    let r = root_read ps (order_by p.dtype p.layout p.statistics p.footer p.metadata) (omega (arith, root_is_short p few small)) in
    let read = row_gets b r.table p.dtype p.layout p.statistics p.footer p.metadata h.dtype h.layout h.statistics h.footer h.metadata r.reads in
    gets-allowed _ (row_of p) (5 + entries_size p.metadata + 1) 3 (gets-enter (root b) r.table (postscript_in b) (row_of p) (5 + entries_size p.metadata) 2 r.found read) (omega (arith, small)) (omega arith)

-- ---- the checks pass

first_passes : (r rest : Result (Unit {0}) WriteError) → (r passes_to λ _. rest) ≡ Ok tt → (r ≡ Ok tt) × (rest ≡ Ok tt)
first_passes (Ok tt) rest h = (refl, h)
first_passes (Err e) rest h = absurd cc

opened : (a b c : Bool) → (EmptyKey unless a passes_to λ _. LongKey unless b passes_to λ _. DuplicateKey unless c) ≡ Ok tt → (a ≡ true) × (b ≡ true) × (c ≡ true)
opened true true true h = (refl, refl, refl)
opened true true false h = absurd cc
opened true false c h = absurd cc
opened false b c h = absurd cc

-- what checks on a key tell
record IsKey (version : FileVersion) (earlier : List PostscriptMetadata) (key : List ℕ) : Type 0 where
  some : not (length key == 0) ≡ true
  short : nat_le (length key) (longest_key version) ≡ true
  new : not (has_key earlier key) ≡ true

key_is : (version : FileVersion) (earlier : List PostscriptMetadata) (key : List ℕ) → key_checks version earlier key ≡ Ok tt → IsKey version earlier key
unfolding key_checks
key_is version earlier key h =
    let o = opened (not (length key == 0)) (nat_le (length key) (longest_key version)) (not (has_key earlier key)) h in
    record { some = o.0; short = o.1; new = o.2 }

aligned_back : (s : PostscriptSegment) → IsNarrow s → aligned (raw s) ≡ Some s
aligned_back s h = let low : nat_le s.alignment 16 ≡ true = le-leb _ _ h.exponent in rw low refl

aligned_any_back : (s : Option PostscriptSegment) → IfSome s IsNarrow → aligned_if_any (option_map raw s) ≡ Some s
aligned_any_back None h = refl
aligned_any_back (Some s) h = ap (option_map (λ t. Some t)) (aligned_back s h)

entry_back : (version : FileVersion) (earlier : List PostscriptMetadata) (m : PostscriptMetadata) → IsEntry m → key_checks version earlier m.key ≡ Ok tt → entry_checks version earlier (raw_entry m) ≡ Ok m
unfolding entry_checks
entry_back version earlier m h passed =
    let k = key_is version earlier m.key passed in
    rw (aligned_back m.segment h.segment, k.some, k.short, k.new) refl

entries_back : (version : FileVersion) (earlier ms : List PostscriptMetadata) → AllByRecursion IsEntry ms → keys_checks version earlier ms ≡ Ok tt → entries_checks version earlier (map raw_entry ms) ≡ Ok (earlier ++ ms)
unfolding entries_checks keys_checks
entries_back version earlier [] h passed = ap (λ es. Ok es) (sym (append-nil earlier))
entries_back version earlier (m ∷ ms) h passed =
    let p = first_passes (key_checks version earlier m.key) (keys_checks version (earlier ++ m ∷ []) ms) passed in
    rw (entry_back version earlier m h.0 p.0) (entries_back version (earlier ++ m ∷ []) ms h.1 p.1 ∙ ap (λ es. Ok es) (append_assoc earlier (m ∷ []) ms))

plain_entries : (ms : List PostscriptMetadata) → list_all (λ e. is_plain e.segment) (map raw_entry ms) ≡ true
plain_entries [] = refl
plain_entries (m ∷ ms) = plain_entries ms

plain_by : (d : Option PostscriptSegment) (l : PostscriptSegment) (s : Option PostscriptSegment) (f : PostscriptSegment) (ms : List PostscriptMetadata) → all_plain (row_by d l s f ms) ≡ true
plain_by None l None f ms = plain_entries ms
plain_by None l (Some s) f ms = plain_entries ms
plain_by (Some d) l None f ms = plain_entries ms
plain_by (Some d) l (Some s) f ms = plain_entries ms

places_back : (p : Postscript) → IsSpelled p → places_checks (option_map raw p.dtype) (raw p.layout) (option_map raw p.statistics) (raw p.footer) p.metadata ≡ Ok p
unfolding places_checks
places_back p h = rw (aligned_any_back p.dtype h.dtype, aligned_back p.layout h.layout, aligned_any_back p.statistics h.statistics, aligned_back p.footer h.footer) refl

-- ---- keys are short

longest : (version : FileVersion) → longest_key version ≤ 256
longest V1 = omega arith
longest V2 = omega arith

most : (version : FileVersion) → most_entries version ≤ 64
most V1 = omega arith
most V2 = omega arith

key_short : (version : FileVersion) (earlier : List PostscriptMetadata) (key : List ℕ) → IsKey version earlier key → length key ≤ 256
key_short version earlier key k = let bound = longest version in let short = k.short in grind (arith, nat_tests)

keys_short : (version : FileVersion) (earlier ms : List PostscriptMetadata) → keys_checks version earlier ms ≡ Ok tt → entries_size ms ≤ 272 * length ms
unfolding keys_checks
keys_short version earlier [] passed = omega arith
keys_short version earlier (m ∷ ms) passed =
    let p = first_passes (key_checks version earlier m.key) (keys_checks version (earlier ++ m ∷ []) ms) passed in
    let short = key_short version earlier m.key (key_is version earlier m.key p.0) in
    omega (arith, short, keys_short version (earlier ++ m ∷ []) ms p.1, sum_by-cons (λ (e : PostscriptMetadata). 16 + length e.key) m ms)

-- ---- the whole

passed : (few : Bool) (keys : Result (Unit {0}) WriteError) (x bytes : List ℕ) → (TooManyMetadata unless few passes_to λ _. keys passes_to λ _. Ok x) ≡ Ok bytes → (few ≡ true) × (keys ≡ Ok tt) × (x ≡ bytes)
passed true (Ok tt) x bytes h = (refl, refl, cc)
passed true (Err e) x bytes h = absurd cc
passed false keys x bytes h = absurd cc

is_few : (version : FileVersion) (n : ℕ) → nat_le n (most_entries version) ≡ true → n ≤ 64
is_few version n h = let bound = most version in grind (arith, nat_tests)

pub written_back : (version : FileVersion) (p : Postscript) (bytes : List ℕ) → IsSpelled p → postscript_written version p ≡ Ok bytes → postscript_checks version bytes ≡ Ok p
unfolding postscript_checks postscript_written
written_back version p bytes h written =
    let w = passed (nat_le (length p.metadata) (most_entries version)) (keys_checks version [] p.metadata) (postscript_root p) bytes written in
    let few = is_few version (length p.metadata) w.0 in
    let small : entries_size p.metadata ≤ 17408 = omega (arith, few, keys_short version [] p.metadata w.1) in
    let same : postscript_checks version bytes ≡ postscript_checks version (postscript_root p) = ap (postscript_checks version) (sym w.2) in
    let count : nat_le (length (map raw_entry p.metadata)) (most_entries version) ≡ true = ap (λ n. nat_le n (most_entries version)) (length-map p.metadata raw_entry) ∙ w.0 in
    let plain = plain_by p.dtype p.layout p.statistics p.footer p.metadata in
    let entries : entries_checks version [] (map raw_entry p.metadata) ≡ Ok p.metadata = entries_back version [] p.metadata h.metadata w.1 in
    same ∙ rw (table_back p h few small, plain, count, entries) (places_back p h)
