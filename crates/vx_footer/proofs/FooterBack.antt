-- The table of a footer that was written is read.
use Rattle.std.proofs.Common.{◌≡◌, ℕ, zero, suc, ◌+◌, ◌*◌, ◌<◌, ◌≤◌, ◌^◌, true, false, List, [], ◌∷◌, ◌++◌, length, map, Option, Some, refl, sym, ap, subst, ◌∙◌, arith, zero-add, length-append}
use Rattle.std.specs.Prelude.{slice_get}
use Rattle.std.specs.Int.{w32, w64, to_le_bytes, from_le_bytes}
use Rattle.std.specs.List.{flat_map}
use Rattle.std.specs.Str.{is_utf8}
use Rattle.std.specs.Option.{option_map}
use Rattle.std.proofs.lemmas.Nat.{from_le_bytes-to_le_bytes_4, from_le_bytes-to_le_bytes_8}
use Rattle.std.proofs.lemmas.Option.{slice_get-map}
use Rattle.std.proofs.lemmas.List.{length-map}
use Rattle.std.proofs.lemmas.Str.{IsUtf8-from_ascii, is_utf8-from_IsUtf8}
use Rattle.std.proofs.Common.{rules}
use Rattle.vx_base.specs.declared.segment.SegmentSpec.{SegmentSpec}
use Rattle.vx_tables.specs.declared.elements.Elements.TheVariants.{Offsets, Segments}
use Rattle.vx_tables.specs.Block.{Piece, in_order, tables, segment, block, root_bytes}
use Rattle.vx_tables.specs.Field.{Table, Vector, root, table_of_vector, vector_field, text_field, element_bytes}
use Rattle.vx_tables.specs.Counted.{Counted, vector_of, each_from, enter, allowed, text_cost, optional_cost, each_table}
use Rattle.vx_tables.specs.Standing.{piece_at, Stands, ReadsBack, AreUtf8, IsTableAt}
use Rattle.vx_tables.proofs.Places.{at_inside}
use Rattle.vx_tables.proofs.ReadAll.{reads_back, root_read}
use Rattle.vx_footer.specs.FooterTable.{FooterTable}
use Rattle.vx_footer.specs.declared.rows.Locator.{Locator}
use Rattle.vx_footer.specs.Tables.{text_required, spec_in, specs_of, specs_in, segments_in, segment_structs, footer_in, footer_table}
use Rattle.vx_footer.specs.Serialized.{id_pieces, flat_id, footer_pieces, ids_bytes}
use Rattle.vx_tables.proofs.Walked.{Gets, then_gets, gets-pure, gets-present, gets-counted, gets-enter, gets-or_empty, gets-each, gets-allowed}

-- ---- the ids

id_inside : (b : List ℕ) (t : Table) (id : List ℕ) → Stands b t (id_pieces id) → length id ≤ length b
id_inside b t id h =
    let inside = at_inside b t.vtable (block (id_pieces id)) h.block in
    omega (arith, inside, length-append (id ++ 0 ∷ []) [], length-append id (0 ∷ []))

spec_gets : (b : List ℕ) (t : Table) (id : List ℕ) → Stands b t (id_pieces id) → is_utf8 id ≡ true → length b ≤ 65535 → Gets (spec_in b t) id 1024 0
unfolding spec_in text_required
spec_gets b t id h utf8 short =
    let reads = reads_back b t (id_pieces id) h in
    let cost : text_cost id ≤ 1024 = omega (arith, id_inside b t id h, short) in
    let read = gets-counted (optional_cost text_cost) (text_field b t 0) (Some id) 1024 0 (reads.text 0 id refl utf8) cost in
    then_gets _ _ (Some id) id 1024 read (gets-present id 0 0) (omega arith)

element_gets : (b : List ℕ) (v : Vector) (ids : List (List ℕ)) (i : ℕ) (id : List ℕ)
    → ((j : ℕ) (ps : List Piece) → slice_get (map id_pieces ids) j ≡ Some ps → in_order 0 ps ≡ true → IsTableAt b (table_of_vector b v j) ps)
    → slice_get ids i ≡ Some id → is_utf8 id ≡ true → length b ≤ 65535 → Gets (enter (table_of_vector b v i) (spec_in b)) id 1025 1
element_gets b v ids i id each got utf8 short =
    let found : slice_get (map id_pieces ids) i ≡ Some (id_pieces id) = slice_get-map id_pieces ids i ∙ ap (option_map id_pieces) got in
    let e = each i (id_pieces id) found refl in
    gets-enter (table_of_vector b v i) e.table (spec_in b) id 1024 0 e.found (spec_gets b e.table id e.stands utf8 short)

specs_gets : (b : List ℕ) (v : Vector) (ids : List (List ℕ)) → v.count ≡ length ids
    → ((j : ℕ) (ps : List Piece) → slice_get (map id_pieces ids) j ≡ Some ps → in_order 0 ps ≡ true → IsTableAt b (table_of_vector b v j) ps)
    → AreUtf8 ids → length b ≤ 65535 → Gets (specs_of b v) ids (length ids * 1025) 1
unfolding specs_of each_table
specs_gets b v ids count each utf8 short =
    let read : ℕ → Option (Counted (List ℕ)) = λ i. enter (table_of_vector b v i) (spec_in b) in
    subst (λ (n : ℕ). Gets (each_from read n 0) ids (length ids * 1025) 1) (sym count)
    (gets-each read ids 0 1025 1 (λ j id got. subst (λ (i : ℕ). Gets (read i) id 1025 1) (sym (zero-add j)) (element_gets b v ids j id each got (utf8 j id got) short)))

ids_gets : (b : List ℕ) (t : Table) (ps : List Piece) (k : ℕ) (ids : List (List ℕ)) → ReadsBack b t ps → piece_at k ps ≡ Some (tables k (map id_pieces ids)) → AreUtf8 ids → length b ≤ 65535
    → Gets (specs_in b t k) ids (1 + length ids * 1025) 1
unfolding specs_in
ids_gets b t ps k ids reads found utf8 short =
    let v = reads.tables k (map id_pieces ids) found in
    let count : v.vector.count ≡ length ids = v.as_many ∙ length-map ids id_pieces in
    let vector : Gets (vector_of b t k Offsets) (Some v.vector) 1 1 = gets-counted _ (vector_field b t k Offsets) (Some v.vector) 1 1 v.found (omega arith) in
    then_gets _ _ (Some v.vector) ids (1 + length ids * 1025) vector (gets-or_empty (specs_of b) v.vector ids (length ids * 1025) 1 (specs_gets b v.vector ids count v.each utf8 short)) (omega arith)

-- ---- the segments

abbrev pub segment_row : SegmentSpec → Locator
segment_row s = record { offset = s.offset; length = s.length; exponent = s.alignment; is_coded = false }

abbrev found : ℕ → ℕ → ℕ → List Locator
found offset size exponent = record { offset = offset; length = size; exponent = exponent; is_coded = false } ∷ []

one_segment : (s : SegmentSpec) → s.offset < 2 ^ 64 → s.length < 2 ^ 32 → segment_structs 1 (flat_map segment (s ∷ [])) ≡ segment_row s ∷ []
unfolding segment
one_segment s offset size =
    let offset_is : from_le_bytes w64 (to_le_bytes w64 s.offset) ≡ s.offset = from_le_bytes-to_le_bytes_8 s.offset offset in
    let size_is : from_le_bytes w32 (to_le_bytes w32 s.length) ≡ s.length = from_le_bytes-to_le_bytes_4 s.length size in
    ap (λ n. found n (from_le_bytes w32 (to_le_bytes w32 s.length)) s.alignment) offset_is ∙ ap (λ n. found s.offset n s.alignment) size_is

abbrev row_of : List (List ℕ) → List Locator → FooterTable
row_of ids segments = record { arrays = ids; layouts = flat_id ∷ []; segments = segments }

abbrev pub footer_row : List (List ℕ) → SegmentSpec → FooterTable
footer_row ids s = row_of ids (segment_row s ∷ [])

segments_gets : (b : List ℕ) (t : Table) (v : Vector) → vector_field b t 2 Segments ≡ Some (Some v) → Gets (segments_in b t) v 1 1
unfolding segments_in
segments_gets b t v found =
    let vector : Gets (vector_of b t 2 Segments) (Some v) 1 1 = gets-counted _ (vector_field b t 2 Segments) (Some v) 1 1 found (omega arith) in
    then_gets _ _ (Some v) v 1 vector (gets-present v 0 1) (omega arith)

flat_is_text : is_utf8 flat_id ≡ true
flat_is_text = is_utf8-from_IsUtf8 flat_id (IsUtf8-from_ascii flat_id (search rules))

flat_is_utf8 : AreUtf8 (flat_id ∷ [])
flat_is_utf8 zero s got = let same : flat_id ≡ s = cc in subst (λ (id : List ℕ). is_utf8 id ≡ true) same flat_is_text
flat_is_utf8 (suc i) s got = absurd cc

footer_gets : (b : List ℕ) (t : Table) (ids : List (List ℕ)) (s : SegmentSpec) → s.offset < 2 ^ 64 → s.length < 2 ^ 32 → AreUtf8 ids → length b ≤ 65535 → ReadsBack b t (footer_pieces ids (s ∷ []))
    → Gets (footer_in b t) (footer_row ids s) (1028 + length ids * 1025) 1
unfolding footer_in
footer_gets b t ids s offset size utf8 short reads =
    let arrays = ids_gets b t (footer_pieces ids (s ∷ [])) 0 ids reads refl utf8 short in
    let layouts : Gets (specs_in b t 1) (flat_id ∷ []) 1026 1 = ids_gets b t (footer_pieces ids (s ∷ [])) 1 (flat_id ∷ []) reads refl flat_is_utf8 short in
    let v = reads.segments 2 (s ∷ []) refl in
    let segments = segments_gets b t v.vector v.found in
    let read_segments = segment_structs v.vector.count (element_bytes b v.vector Segments) in
    let first : read_segments ≡ segment_row s ∷ [] = ap (λ n. segment_structs n (element_bytes b v.vector Segments)) v.as_many ∙ ap (segment_structs 1) v.bytes ∙ one_segment s offset size in
    let row = row_of ids read_segments in
    let same : row ≡ footer_row ids s = ap (row_of ids) first in
    let read : Gets (footer_in b t) row (1028 + length ids * 1025) 1 =
    then_gets _ _ ids row (1028 + length ids * 1025) arrays (
    then_gets _ _ (flat_id ∷ []) row 1027 layouts (
    then_gets _ _ v.vector row 1 segments (
    gets-pure row 0 1) (omega arith)) (omega arith)) (omega arith) in
    subst (λ (x : FooterTable). Gets (footer_in b t) x (1028 + length ids * 1025) 1) same read

footer_order : (ids : List (List ℕ)) (s : SegmentSpec) → in_order 0 (footer_pieces ids (s ∷ [])) ≡ true
footer_order ids s = refl

-- the footer's table of written ids and a segment
pub footer_back : (ids : List (List ℕ)) (s : SegmentSpec) → length ids ≤ 16 → AreUtf8 ids → s.offset < 2 ^ 64 → s.length < 2 ^ 32 → length (ids_bytes ids (s ∷ [])) ≤ 65535
    → allowed (footer_table (ids_bytes ids (s ∷ []))) ≡ Some (footer_row ids s)
unfolding footer_table ids_bytes
footer_back ids s few utf8 offset size short =
    let b = root_bytes (footer_pieces ids (s ∷ [])) in
    let r = root_read (footer_pieces ids (s ∷ [])) (footer_order ids s) (omega (arith, short)) in
    gets-allowed _ (footer_row ids s) (1028 + length ids * 1025 + 1) 2
    (gets-enter (root b) r.table (footer_in b) (footer_row ids s) (1028 + length ids * 1025) 1 r.found (footer_gets b r.table ids s offset size utf8 short r.reads))
    (omega (arith, few)) (omega arith)
