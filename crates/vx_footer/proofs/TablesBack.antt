-- The tables of types and layouts, and the postscript, are read from what was written.
use Rattle.std.proofs.Common.{◌≡◌, ℕ, suc, ◌+◌, ◌*◌, ◌/◌, ◌<◌, subst, ◌≤◌, ◌^◌, false, List, [], ◌∷◌, length, Some, None, Ok, refl, ap, ◌∙◌, arith, Option}
use Rattle.std.specs.Int.{w8, w16, w32, w64, to_le_bytes}
use Rattle.std.specs.List.{flat_map}
use Rattle.std.proofs.lemmas.Nat.{from_le_bytes-to_le_bytes_4}
use Rattle.vx_tables.specs.declared.elements.Elements.TheVariants.{Numbers, Offsets}
use Rattle.vx_tables.specs.Block.{Piece, number, numbers, table, root_bytes}
use Rattle.vx_tables.specs.Field.{Table, root, slot, field, table_field, vector_field, element_bytes, numbers_in, numbers_of_vector}
use Rattle.vx_tables.specs.Counted.{Counted, free, vector_of, or_empty, allowed}
use Rattle.vx_tables.specs.Standing.{piece_at, ReadsBack}
use Rattle.vx_tables.proofs.ReadAll.{reads_back, root_read, no_number, no_table, no_vector}
use Rattle.vx_tables.proofs.Walked.{Gets, then_gets, gets-pure, gets-free, gets-counted, gets-enter, gets-enter_optional, gets-no_table, gets-present, gets-allowed}
use Rattle.vx_data.specs.declared.layout_kind.LayoutKind.TheVariants.{Flat}
use Rattle.vx_data.specs.Dtype.{Dtype}
use Rattle.vx_data.specs.DtypeTable.{dtype_checks}
use Rattle.vx_data.specs.DtypeWritten.{pieces_of, levels_of, visits_of, HasTexts}
use Rattle.vx_data.specs.Layout.{node, no_layouts}
use Rattle.vx_data.specs.LayoutTable.{Row, row, no_rows, row_at, children_in, segments_in, layout_table, layout_checks}
use Rattle.vx_data.proofs.DtypeBack.{dtype_back}
use Rattle.vx_footer.specs.declared.postscript.Postscript.{Postscript}
use Rattle.vx_footer.specs.declared.postscript.PostscriptSegment.{PostscriptSegment}
use Rattle.vx_footer.specs.declared.rows.Locator.{Locator}
use Rattle.vx_footer.specs.declared.rows.PostscriptRow.{PostscriptRow}
use Rattle.vx_footer.specs.declared.serializing.Places.{Places}
use Rattle.vx_footer.specs.declared.version.FileVersion.TheVariants.{V1}
use Rattle.vx_footer.specs.Tables.{locator, locator_field, locator_required, metadata_in, postscript_in, postscript_table}
use Rattle.vx_footer.specs.Opening.{entries_checks, places_checks, postscript_checks}
use Rattle.vx_footer.specs.Serialized.{flat_id, place_pieces, postscript_pieces, places_bytes, places}

-- ---- the dtype

pub dtype_checked : (d : Dtype) → HasTexts d → length (root_bytes (pieces_of d)) < 2 ^ 32 → levels_of d ≤ 64 → visits_of d ≤ 1000000 → dtype_checks (root_bytes (pieces_of d)) ≡ Ok d
unfolding dtype_checks
dtype_checked d texts short shallow few = rw (dtype_back d texts short shallow few) refl

-- ---- the layout

-- the first of the layout specs, the rows, and one segment
abbrev pub flat_pieces : ℕ → ℕ → List Piece
flat_pieces rows segment = number w16 0 0 ∷ number w64 1 rows ∷ numbers 4 (segment ∷ []) ∷ []

one_number : (n : ℕ) → n < 2 ^ 32 → numbers_in 1 (flat_map (to_le_bytes w32) (n ∷ [])) ≡ n ∷ []
one_number n lt = ap (λ (m : ℕ). m ∷ []) (from_le_bytes-to_le_bytes_4 n lt)

segments_gets : (b : List ℕ) (t : Table) (rows segment : ℕ) → segment < 2 ^ 32 → ReadsBack b t (flat_pieces rows segment) → Gets (segments_in b t) (segment ∷ []) 1 0
unfolding segments_in
segments_gets b t rows segment low reads =
    let v = reads.numbers 4 (segment ∷ []) refl in
    let cost : 1 + v.vector.count * 4 / 64 ≤ 1 = rw v.as_many (omega arith) in
    let vector : Gets (vector_of b t 4 (Numbers 4)) (Some v.vector) 1 0 = gets-counted _ (vector_field b t 4 (Numbers 4)) (Some v.vector) 1 0 v.found cost in
    let same : numbers_of_vector b v.vector ≡ segment ∷ [] = ap (λ n. numbers_in n (element_bytes b v.vector (Numbers 4))) v.as_many ∙ ap (numbers_in 1) v.bytes ∙ one_number segment low in
    let read = then_gets _ _ (Some v.vector) (numbers_of_vector b v.vector) 1 vector (gets-pure (numbers_of_vector b v.vector) 0 0) (omega arith) in
    subst (λ (xs : List ℕ). Gets (segments_in b t) xs 1 0) same read

no_children : (b : List ℕ) (t : Table) (read : Table → Option (Counted Row)) → slot b t 3 ≡ Some None → Gets (children_in read b t) [] 0 0
unfolding children_in or_empty
no_children b t read absent =
    let vector : Gets (vector_of b t 3 Offsets) None 0 0 = gets-counted _ (vector_field b t 3 Offsets) None 0 0 (no_vector b t 3 Offsets absent) (omega arith) in
    then_gets _ _ None [] 0 vector (gets-pure [] 0 0) (omega arith)

abbrev flat_row : ℕ → ℕ → Row
flat_row rows segment = row 0 rows (segment ∷ []) no_rows

row_gets : (b : List ℕ) (t : Table) (l rows segment : ℕ) → rows < 2 ^ 64 → segment < 2 ^ 32 → ReadsBack b t (flat_pieces rows segment) → Gets (row_at 1 (suc l) b t) (flat_row rows segment) 1 0
unfolding row_at
row_gets b t l rows segment few low reads =
    let encoding : Gets (free (field w16 b t 0)) (Some 0) 0 0 = gets-free (field w16 b t 0) (Some 0) 0 0 (reads.number w16 0 0 refl (omega arith)) in
    let row_count : Gets (free (field w64 b t 1)) (Some rows) 0 0 = gets-free (field w64 b t 1) (Some rows) 0 0 (reads.number w64 1 rows refl few) in
    let children = no_children b t (row_at 1 l b) (reads.absent 3 refl) in
    let segments = segments_gets b t rows segment low reads in
    then_gets _ _ (Some 0) (flat_row rows segment) 1 encoding (
    then_gets _ _ (Some rows) (flat_row rows segment) 1 row_count (
    then_gets _ _ [] (flat_row rows segment) 1 children (
    then_gets _ _ (segment ∷ []) (flat_row rows segment) 1 segments (
    gets-present (flat_row rows segment) 0 0) (omega arith)) (omega arith)) (omega arith)) (omega arith)

layout_back : (rows segment : ℕ) → rows < 2 ^ 64 → segment < 2 ^ 32 → allowed (layout_table 1 (root_bytes (flat_pieces rows segment))) ≡ Some (flat_row rows segment)
unfolding layout_table
layout_back rows segment few low =
    let size : length (root_bytes (flat_pieces rows segment)) ≡ 44 = refl in
    let r = root_read (flat_pieces rows segment) refl (omega (arith, size)) in
    let b = root_bytes (flat_pieces rows segment) in
    gets-allowed _ (flat_row rows segment) 2 1 (gets-enter (root b) r.table (row_at 1 64 b) (flat_row rows segment) 1 0 r.found (row_gets b r.table 63 rows segment few low r.reads)) (omega arith) (omega arith)

pub layout_checked : (d : Dtype) (rows segment : ℕ) → rows < 2 ^ 64 → segment < 2 ^ 32
    → layout_checks (flat_id ∷ []) d (root_bytes (flat_pieces rows segment)) ≡ Ok (node Flat d rows (segment ∷ []) no_layouts)
unfolding layout_checks
layout_checked d rows segment few low = rw (layout_back rows segment few low) refl

-- ---- the postscript

-- a place as it stands
abbrev pub raw : PostscriptSegment → Locator
raw s = record { offset = s.offset; length = s.length; exponent = s.alignment; is_coded = false }

-- the numbers fit their widths
pub record IsNarrow (s : PostscriptSegment) : Type 0 where
  pub offset : s.offset < 2 ^ 64
  pub size : s.length < 2 ^ 32
  pub exponent : s.alignment < 256

locator_back : (b : List ℕ) (t : Table) (s : PostscriptSegment) → IsNarrow s → ReadsBack b t (place_pieces s) → locator b t ≡ Some (raw s)
unfolding locator
locator_back b t s narrow reads =
    let offset : field w64 b t 0 ≡ Some (Some s.offset) = reads.number w64 0 s.offset refl narrow.offset in
    let size : field w32 b t 1 ≡ Some (Some s.length) = reads.number w32 1 s.length refl narrow.size in
    let exponent : field w8 b t 2 ≡ Some (Some s.alignment) = reads.number w8 2 s.alignment refl narrow.exponent in
    let compression : field w8 b t 3 ≡ Some None = no_number w8 b t 3 (reads.absent 3 refl) in
    let encryption : field w8 b t 4 ≡ Some None = no_number w8 b t 4 (reads.absent 4 refl) in
    rw (offset, size, exponent, compression, encryption) refl

pub locator_gets : (b : List ℕ) (t : Table) (ps : List Piece) (k : ℕ) (s : PostscriptSegment) → IsNarrow s → ReadsBack b t ps → piece_at k ps ≡ Some (table k (place_pieces s)) → Gets (locator_field b t k) (Some (raw s)) 1 1
unfolding locator_field
locator_gets b t ps k s narrow reads found =
    let f = reads.table k (place_pieces s) found refl in
    gets-enter_optional (table_field b t k) f.table (λ inner. free (locator b inner)) (raw s) 0 0 f.found
    (gets-free (locator b f.table) (raw s) 0 0 (locator_back b f.table s narrow (reads_back b f.table (place_pieces s) f.stands)))

pub absent_gets : (b : List ℕ) (t : Table) (k : ℕ) → slot b t k ≡ Some None → Gets (locator_field b t k) None 0 1
unfolding locator_field
absent_gets b t k e = gets-no_table (table_field b t k) (λ inner. free (locator b inner)) 0 1 (no_table b t k e)

pub required_gets : (b : List ℕ) (t : Table) (ps : List Piece) (k : ℕ) (s : PostscriptSegment) → IsNarrow s → ReadsBack b t ps → piece_at k ps ≡ Some (table k (place_pieces s)) → Gets (locator_required b t k) (raw s) 1 1
unfolding locator_required
required_gets b t ps k s narrow reads found = then_gets _ _ (Some (raw s)) (raw s) 1 (locator_gets b t ps k s narrow reads found) (gets-present (raw s) 0 1) (omega arith)

pub no_metadata : (b : List ℕ) (t : Table) → slot b t 4 ≡ Some None → Gets (metadata_in b t) [] 0 1
unfolding metadata_in or_empty
no_metadata b t absent =
    let vector : Gets (vector_of b t 4 Offsets) None 0 1 = gets-counted _ (vector_field b t 4 Offsets) None 0 1 (no_vector b t 4 Offsets absent) (omega arith) in
    then_gets _ _ None [] 0 vector (gets-pure [] 0 1) (omega arith)

abbrev postscript_row : Places → PostscriptRow
postscript_row p = record { dtype = Some (raw p.dtype); layout = raw p.layout; statistics = None; footer = raw p.footer; metadata = [] }

postscript_gets : (b : List ℕ) (t : Table) (p : Places) → IsNarrow p.dtype → IsNarrow p.layout → IsNarrow p.footer → ReadsBack b t (postscript_pieces p) → Gets (postscript_in b t) (postscript_row p) 3 1
unfolding postscript_in
postscript_gets b t p dtype_narrow layout_narrow footer_narrow reads =
    let row = postscript_row p in
    let dtype = locator_gets b t (postscript_pieces p) 0 p.dtype dtype_narrow reads refl in
    let layout = required_gets b t (postscript_pieces p) 1 p.layout layout_narrow reads refl in
    let statistics : Gets (locator_field b t 2) None 0 1 = absent_gets b t 2 (reads.absent 2 refl) in
    let footer = required_gets b t (postscript_pieces p) 3 p.footer footer_narrow reads refl in
    let metadata = no_metadata b t (reads.absent 4 refl) in
    then_gets _ _ (Some (raw p.dtype)) row 3 dtype (
    then_gets _ _ (raw p.layout) row 2 layout (
    then_gets _ _ None row 1 statistics (
    then_gets _ _ (raw p.footer) row 1 footer (
    then_gets _ _ [] row 0 metadata (
    gets-pure row 0 1) (omega arith)) (omega arith)) (omega arith)) (omega arith)) (omega arith)

pub length-postscript : (p : Places) → length (places_bytes p) ≡ 113
unfolding places_bytes
length-postscript p = refl

postscript_back : (p : Places) → IsNarrow p.dtype → IsNarrow p.layout → IsNarrow p.footer → allowed (postscript_table (places_bytes p)) ≡ Some (postscript_row p)
unfolding postscript_table places_bytes
postscript_back p dtype layout footer =
    let size : length (root_bytes (postscript_pieces p)) ≡ 113 = refl in
    let r = root_read (postscript_pieces p) refl (omega (arith, size)) in
    let b = root_bytes (postscript_pieces p) in
    gets-allowed _ (postscript_row p) 4 2 (gets-enter (root b) r.table (postscript_in b) (postscript_row p) 3 1 r.found (postscript_gets b r.table p dtype layout footer r.reads)) (omega arith) (omega arith)

-- the postscript of these places
abbrev pub postscript_with : Places → Postscript
postscript_with p = record { dtype = Some p.dtype; layout = p.layout; statistics = None; footer = p.footer; metadata = [] }

-- the places of written tables
pub postscript_checked : (at : ℕ) (dtype layout footer : List ℕ) → length dtype < 2 ^ 32 → length layout < 2 ^ 32 → length footer < 2 ^ 32 → at + length dtype + length layout < 2 ^ 64
    → postscript_checks V1 (places_bytes (places at dtype layout footer)) ≡ Ok (postscript_with (places at dtype layout footer))
unfolding postscript_checks entries_checks places_checks
postscript_checked at dtype layout footer short_dtype short_layout short_footer fits =
    rw (postscript_back (places at dtype layout footer)
    (record { offset = omega (arith, fits); size = short_dtype; exponent = omega arith })
    (record { offset = omega (arith, fits); size = short_layout; exponent = omega arith })
    (record { offset = fits; size = short_footer; exponent = omega arith })) refl
