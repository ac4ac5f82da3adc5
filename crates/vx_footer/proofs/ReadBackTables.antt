-- The footer's table, the end of a file, and the tables where they lie in it.
use Rattle.std.proofs.Common.{◌≡◌, ℕ, zero, suc, ◌+◌, ◌-◌, ◌<◌, ◌≤◌, ◌^◌, Bool, true, false, List, [], ◌∷◌, ◌++◌, length, take, drop, map, Option, Some, Ok, refl, sym, ap, subst, ◌∙◌, arith, zero-add, append_assoc, length-append, IsAscii}
use Rattle.std.specs.Prelude.{◌&&◌, nat_le, nat_lt, slice_get, sum_by, codes, cond}
use Rattle.std.specs.Int.{w16, w32, w64, to_le_bytes, from_le_bytes}
use Rattle.std.specs.List.{AllByRecursion, flat_map, list_all}
use Rattle.std.specs.Option.{option_map}
use Rattle.std.specs.Str.{is_utf8, bytes_eq}
use Rattle.std.proofs.lemmas.Bool.{le-leb}
use Rattle.std.proofs.lemmas.Bool.Decides.{nat_tests}
use Rattle.std.proofs.lemmas.Str.Ascii.{IsAscii-nil}
use Rattle.std.proofs.lemmas.Nat.{from_le_bytes-to_le_bytes_2, from_le_bytes-to_le_bytes_4, from_le_bytes-to_le_bytes_8}
use Rattle.std.proofs.lemmas.Option.{slice_get-map}
use Rattle.std.proofs.lemmas.List.{length-map, drop_at, take_at}
use Rattle.std.proofs.lemmas.Str.{IsUtf8-from_ascii, is_utf8-from_IsUtf8}
use Rattle.vx_base.specs.Buffer.{bytes_at}
use Rattle.vx_base.specs.declared.segment.SegmentSpec.{SegmentSpec}
use Rattle.vx_tables.specs.declared.elements.Elements.TheVariants.{Offsets, Segments}
use Rattle.vx_tables.specs.Block.{Piece, in_order, tables, segment, root_bytes}
use Rattle.vx_tables.specs.Field.{Table, Vector, root, table_of_vector, vector_field, text_field, element_bytes}
use Rattle.vx_tables.specs.Counted.{Counted, vector_of, each_from, enter, allowed, text_cost, optional_cost, each_table}
use Rattle.vx_tables.specs.Standing.{piece_at, ReadsBack, AreUtf8, IsTableAt}
use Rattle.vx_tables.proofs.ReadAll.{reads_back, root_read}
use Rattle.vx_tables.proofs.Walked.{Gets, then_gets, gets-pure, gets-present, gets-counted, gets-enter, gets-or_empty, gets-each_costs, gets-allowed}
use Rattle.vx_data.specs.declared.layout_kind.LayoutKind.{LayoutKind}
use Rattle.vx_data.specs.declared.layout_kind.LayoutKind.TheVariants.{Flat, Chunked, Struct}
use Rattle.vx_data.specs.Layout.{LayoutTree, node, Layouts, no_layouts, a_layout}
use Rattle.vx_data.specs.LayoutWritten.{kind_id, has_id}
use Rattle.vx_data.specs.LayoutIds.{with_id, ids_behind, all_behind, used_ids}
use Rattle.vx_footer.specs.declared.version.FileVersion.{FileVersion}
use Rattle.vx_footer.specs.declared.version.FileVersion.TheVariants.{V1, V2}
use Rattle.vx_footer.specs.declared.rows.Locator.{Locator}
use Rattle.vx_footer.specs.FooterTable.{FooterTable}
use Rattle.vx_footer.specs.Tables.{text_required, spec_in, specs_of, specs_in, segments_in, segment_struct, segment_structs, footer_in, footer_table}
use Rattle.vx_footer.specs.Opening.{marker_of, version_of, version_number, postscript_length, ends_with_magic, postscript_bytes, marker_checks, end_checks, is_plain, aligned_specs, segments_checks, are_ordered, ends_within}
use Rattle.vx_footer.specs.Serialized.{id_pieces}
use Rattle.vx_footer.specs.Serializing.{footer_pieces, ids_visits, marker}
use Rattle.vx_footer.specs.ReadAgain.{IsSegment}

-- ---- the ids

spec_gets : (b : List ℕ) (t : Table) (id : List ℕ) → ReadsBack b t (id_pieces id) → is_utf8 id ≡ true → Gets (spec_in b t) id (text_cost id) 0
unfolding spec_in text_required
spec_gets b t id reads utf8 =
    let read = gets-counted (optional_cost text_cost) (text_field b t 0) (Some id) (text_cost id) 0 (reads.text 0 id refl utf8) (omega arith) in
    then_gets _ _ (Some id) id (text_cost id) read (gets-present id 0 0) (omega arith)

id_cost : List ℕ → ℕ
id_cost id = 1 + text_cost id

abbrev Each : List ℕ → Vector → List (List ℕ) → Type 0
Each b v ids = (j : ℕ) (ps : List Piece) → slice_get (map id_pieces ids) j ≡ Some ps → in_order 0 ps ≡ true → IsTableAt b (table_of_vector b v j) ps

element_gets : (b : List ℕ) (v : Vector) (ids : List (List ℕ)) (i : ℕ) (id : List ℕ) → Each b v ids → slice_get ids i ≡ Some id → is_utf8 id ≡ true → Gets (enter (table_of_vector b v i) (spec_in b)) id (id_cost id) 1
unfolding id_cost
element_gets b v ids i id each got utf8 =
    let found : slice_get (map id_pieces ids) i ≡ Some (id_pieces id) = slice_get-map id_pieces ids i ∙ ap (option_map id_pieces) got in
    let e = each i (id_pieces id) found refl in
    let g = gets-enter (table_of_vector b v i) e.table (spec_in b) id (text_cost id) 0 e.found (spec_gets b e.table id (reads_back b e.table (id_pieces id) e.stands) utf8) in
    record { all = g.all; found = g.found; value = g.value; few = omega (arith, g.few); flat = g.flat }

costs_are : (ids : List (List ℕ)) → sum_by id_cost ids ≡ ids_visits ids
unfolding id_cost
costs_are ids = refl

specs_gets : (b : List ℕ) (v : Vector) (ids : List (List ℕ)) → v.count ≡ length ids → Each b v ids → AreUtf8 ids → Gets (specs_of b v) ids (ids_visits ids) 1
unfolding specs_of each_table
specs_gets b v ids count each utf8 =
    let read : ℕ → Option (Counted (List ℕ)) = λ i. enter (table_of_vector b v i) (spec_in b) in
    let all : Gets (each_from read (length ids) 0) ids (sum_by id_cost ids) 1 =
    gets-each_costs read id_cost ids 0 1 (λ j id got. subst (λ (i : ℕ). Gets (read i) id (id_cost id) 1) (sym (zero-add j)) (element_gets b v ids j id each got (utf8 j id got))) in
    let counted : Gets (each_from read v.count 0) ids (sum_by id_cost ids) 1 = subst (λ (n : ℕ). Gets (each_from read n 0) ids (sum_by id_cost ids) 1) (sym count) all in
    subst (λ (n : ℕ). Gets (each_from read v.count 0) ids n 1) (costs_are ids) counted

ids_gets : (b : List ℕ) (t : Table) (ps : List Piece) (k : ℕ) (ids : List (List ℕ)) → ReadsBack b t ps → piece_at k ps ≡ Some (tables k (map id_pieces ids)) → AreUtf8 ids → Gets (specs_in b t k) ids (1 + ids_visits ids) 1
unfolding specs_in
ids_gets b t ps k ids reads found utf8 =
    let v = reads.tables k (map id_pieces ids) found in
    let count : v.vector.count ≡ length ids = v.as_many ∙ length-map ids id_pieces in
    let vector : Gets (vector_of b t k Offsets) (Some v.vector) 1 1 = gets-counted _ (vector_field b t k Offsets) (Some v.vector) 1 1 v.found (omega arith) in
    then_gets _ _ (Some v.vector) ids (1 + ids_visits ids) vector (gets-or_empty (specs_of b) v.vector ids (ids_visits ids) 1 (specs_gets b v.vector ids count v.each utf8)) (omega arith)

-- the ids of layouts are texts
are_ascii : List ℕ → Bool
are_ascii [] = true
are_ascii (b ∷ bs) = nat_lt b 128 && are_ascii bs

and_parts : (a b : Bool) → (a && b) ≡ true → (a ≡ true) × (b ≡ true)
and_parts true true h = (refl, refl)
and_parts true false h = absurd cc
and_parts false b h = absurd cc

below_128 : (b : ℕ) → nat_lt b 128 ≡ true → b < 128
below_128 b h = grind (arith, nat_tests)

ascii_is : (bs : List ℕ) → are_ascii bs ≡ true → IsAscii bs
unfolding are_ascii
ascii_is [] h i = IsAscii-nil i
ascii_is (b ∷ bs) h zero = below_128 b (and_parts _ _ h).0
ascii_is (b ∷ bs) h (suc i) = ascii_is bs (and_parts _ _ h).1 i

ascii_text : (id : List ℕ) → are_ascii id ≡ true → is_utf8 id ≡ true
ascii_text id h = is_utf8-from_IsUtf8 id (IsUtf8-from_ascii id (ascii_is id h))

kind_text : (k : LayoutKind) → is_utf8 (kind_id k) ≡ true
unfolding are_ascii
kind_text Flat = ascii_text (kind_id Flat) refl
kind_text Chunked = ascii_text (kind_id Chunked) refl
kind_text Struct = ascii_text (kind_id Struct) refl

abbrev AllTexts : List (List ℕ) → Type 0
AllTexts ids = AllByRecursion (λ (id : List ℕ). is_utf8 id ≡ true) ids

texts_push : (ids : List (List ℕ)) (id : List ℕ) → AllTexts ids → is_utf8 id ≡ true → AllTexts (ids ++ id ∷ [])
texts_push [] id h e = (e, tt)
texts_push (x ∷ ids) id h e = (h.0, texts_push ids id h.1 e)

texts_with : (ids : List (List ℕ)) (k : LayoutKind) → AllTexts ids → AllTexts (with_id ids (kind_id k))
texts_with ids k h = by (has_id ids (kind_id k))
  where
    by : (b : Bool) → AllTexts (cond b ids (ids ++ kind_id k ∷ []))
    by true = h
    by false = texts_push ids (kind_id k) h (kind_text k)

mutual
  tree_texts : (ids : List (List ℕ)) (t : LayoutTree) → AllTexts ids → AllTexts (ids_behind ids t)
  tree_texts ids (node k d n s ts) h = all_texts (with_id ids (kind_id k)) ts (texts_with ids k h)

  all_texts : (ids : List (List ℕ)) (ts : Layouts) → AllTexts ids → AllTexts (all_behind ids ts)
  all_texts ids no_layouts h = h
  all_texts ids (a_layout t ts) h = all_texts (ids_behind ids t) ts (tree_texts ids t h)

as_utf8 : (ids : List (List ℕ)) → AllTexts ids → AreUtf8 ids
as_utf8 [] h i s got = absurd cc
as_utf8 (x ∷ ids) h zero s got = let same : x ≡ s = cc in subst (λ (y : List ℕ). is_utf8 y ≡ true) same h.0
as_utf8 (x ∷ ids) h (suc i) s got = as_utf8 ids h.1 i s got

pub used_texts : (t : LayoutTree) → AreUtf8 (used_ids t)
used_texts t = as_utf8 (used_ids t) (tree_texts [] t tt)

-- ---- the segments

abbrev segment_row : SegmentSpec → Locator
segment_row s = record { offset = s.offset; length = s.length; exponent = s.alignment; is_coded = false }

abbrev row_with : ℕ → ℕ → ℕ → Locator
row_with offset size exponent = record { offset = offset; length = size; exponent = exponent; is_coded = false }

one_segment : (s : SegmentSpec) (rest : List ℕ) → s.offset < 2 ^ 64 → s.length < 2 ^ 32 → segment_struct (segment s ++ rest) ≡ segment_row s
unfolding segment
one_segment s rest offset size =
    let offset_is : from_le_bytes w64 (to_le_bytes w64 s.offset) ≡ s.offset = from_le_bytes-to_le_bytes_8 s.offset offset in
    let size_is : from_le_bytes w32 (to_le_bytes w32 s.length) ≡ s.length = from_le_bytes-to_le_bytes_4 s.length size in
    ap (λ n. row_with n (from_le_bytes w32 (to_le_bytes w32 s.length)) s.alignment) offset_is ∙ ap (λ n. row_with s.offset n s.alignment) size_is

behind_segment : (s : SegmentSpec) (rest : List ℕ) → drop 16 (segment s ++ rest) ≡ rest
unfolding segment
behind_segment s rest = refl

structs_again : (size : ℕ) (ss : List SegmentSpec) → AllByRecursion (IsSegment size) ss → segment_structs (length ss) (flat_map segment ss) ≡ map segment_row ss
structs_again size [] h = refl
structs_again size (s ∷ ss) h =
    let rest = flat_map segment ss in
    ap (λ (l : Locator). l ∷ segment_structs (length ss) (drop 16 (segment s ++ rest))) (one_segment s rest h.0.offset h.0.short)
    ∙ ap (λ (cells : List ℕ). segment_row s ∷ segment_structs (length ss) cells) (behind_segment s rest)
    ∙ ap (λ (ls : List Locator). segment_row s ∷ ls) (structs_again size ss h.1)

segments_gets : (b : List ℕ) (t : Table) (v : Vector) → vector_field b t 2 Segments ≡ Some (Some v) → Gets (segments_in b t) v 1 1
unfolding segments_in
segments_gets b t v found =
    let vector : Gets (vector_of b t 2 Segments) (Some v) 1 1 = gets-counted _ (vector_field b t 2 Segments) (Some v) 1 1 found (omega arith) in
    then_gets _ _ (Some v) v 1 vector (gets-present v 0 1) (omega arith)

-- ---- the footer's table

abbrev row_of : List (List ℕ) → List (List ℕ) → List Locator → FooterTable
row_of arrays layouts segments = record { arrays = arrays; layouts = layouts; segments = segments }

abbrev pub footer_row : List (List ℕ) → List (List ℕ) → List SegmentSpec → FooterTable
footer_row arrays layouts ss = row_of arrays layouts (map segment_row ss)

abbrev footer_cost : List (List ℕ) → List (List ℕ) → ℕ
footer_cost arrays layouts = 3 + (ids_visits arrays + ids_visits layouts)

footer_gets : (b : List ℕ) (t : Table) (size : ℕ) (arrays layouts : List (List ℕ)) (ss : List SegmentSpec) → AllByRecursion (IsSegment size) ss → AreUtf8 arrays → AreUtf8 layouts
    → ReadsBack b t (footer_pieces arrays layouts ss) → Gets (footer_in b t) (footer_row arrays layouts ss) (footer_cost arrays layouts) 1
unfolding footer_in
footer_gets b t size arrays layouts ss h utf8 texts reads =
    let ps = footer_pieces arrays layouts ss in
    let cost = footer_cost arrays layouts in
    let a = ids_gets b t ps 0 arrays reads refl utf8 in
    let l = ids_gets b t ps 1 layouts reads refl texts in
    let v = reads.segments 2 ss refl in
    let segments = segments_gets b t v.vector v.found in
    let read_segments = segment_structs v.vector.count (element_bytes b v.vector Segments) in
    let same : read_segments ≡ map segment_row ss = ap (λ n. segment_structs n (element_bytes b v.vector Segments)) v.as_many ∙ ap (segment_structs (length ss)) v.bytes ∙ structs_again size ss h in
    let whole = row_of arrays layouts read_segments in
    let read : Gets (footer_in b t) whole cost 1 =
    then_gets _ _ arrays whole cost a (
    then_gets _ _ layouts whole (2 + ids_visits layouts) l (
    then_gets _ _ v.vector whole 1 segments (
    gets-pure whole 0 1) (omega arith)) (omega arith)) (omega arith) in
    subst (λ (x : FooterTable). Gets (footer_in b t) x cost 1) (ap (row_of arrays layouts) same) read

pub footer_again : (size : ℕ) (arrays layouts : List (List ℕ)) (ss : List SegmentSpec) → AllByRecursion (IsSegment size) ss → AreUtf8 arrays → AreUtf8 layouts
    → length (root_bytes (footer_pieces arrays layouts ss)) < 2 ^ 32 → 4 + (ids_visits arrays + ids_visits layouts) ≤ 1000000 → allowed (footer_table (root_bytes (footer_pieces arrays layouts ss))) ≡ Some (footer_row arrays layouts ss)
unfolding footer_table
footer_again size arrays layouts ss h utf8 texts short few =
    let ps = footer_pieces arrays layouts ss in
    let b = root_bytes ps in
    let row = footer_row arrays layouts ss in
    let cost = footer_cost arrays layouts in
    let r = root_read ps refl short in
    gets-allowed _ row (cost + 1) 2 (gets-enter (root b) r.table (footer_in b) row cost 1 r.found (footer_gets b r.table size arrays layouts ss h utf8 texts r.reads)) (omega (arith, few)) (omega arith)

-- ---- checks on segments

and_true : (a b : Bool) → a ≡ true → b ≡ true → (a && b) ≡ true
and_true a b h k = ap (λ x. x && b) h ∙ k

pub rows_plain : (ss : List SegmentSpec) → list_all is_plain (map segment_row ss) ≡ true
rows_plain [] = refl
rows_plain (s ∷ ss) = rows_plain ss

rows_aligned : (size : ℕ) (ss : List SegmentSpec) → AllByRecursion (IsSegment size) ss → aligned_specs (map segment_row ss) ≡ Some ss
rows_aligned size [] h = refl
rows_aligned size (s ∷ ss) h =
    let first : nat_le s.alignment 16 ≡ true = le-leb _ _ h.0.aligned in
    rw (first, rows_aligned size ss h.1) refl

pub segments_pass : (size : ℕ) (ss : List SegmentSpec) → AllByRecursion (IsSegment size) ss → are_ordered ss ≡ true → segments_checks (map segment_row ss) ≡ Ok ss
unfolding segments_checks
segments_pass size ss h ordered = rw (rows_aligned size ss h, ordered) refl

pub segments_within : (size : ℕ) (ss : List SegmentSpec) → AllByRecursion (IsSegment size) ss → list_all (ends_within size) ss ≡ true
segments_within size [] h = refl
segments_within size (s ∷ ss) h = and_true (nat_le (s.offset + s.length) size) (list_all (ends_within size) ss) (le-leb _ _ h.0.inside) (segments_within size ss h.1)

-- ---- the end of a file

size_back : (version : FileVersion) (n : ℕ) → n < 2 ^ 16 → from_le_bytes w16 (take 2 (drop 2 (marker version n))) ≡ n
size_back V1 n lt = from_le_bytes-to_le_bytes_2 n lt
size_back V2 n lt = from_le_bytes-to_le_bytes_2 n lt

version_back : (version : FileVersion) (n : ℕ) → version_of (from_le_bytes w16 (take 2 (marker version n))) ≡ Some version
version_back V1 n = refl
version_back V2 n = refl

magic_back : (version : FileVersion) (n : ℕ) → bytes_eq (drop 4 (marker version n)) (codes "VTXF") ≡ true
magic_back V1 n = refl
magic_back V2 n = refl

pub length_marker : (version : FileVersion) (n : ℕ) → length (marker version n) ≡ 8
length_marker V1 n = refl
length_marker V2 n = refl

-- the postscript and the end marker behind other bytes
pub end_again : (version : FileVersion) (front postscript : List ℕ) → length postscript ≤ 65527 → end_checks (front ++ (postscript ++ marker version (length postscript))) ≡ Ok (version, postscript)
unfolding end_checks marker_checks
end_again version front postscript size =
    let n = length postscript in
    let m = marker version n in
    let rest = postscript ++ m in
    let file = front ++ rest in
    let eight = length_marker version n in
    let long : length file ≡ length front + (n + 8) = omega (arith, length-append front rest, length-append postscript m, eight) in
    let marked : marker_of file ≡ m = ap (drop (length file - 8)) (sym (append_assoc front postscript m)) ∙ drop_at (front ++ postscript) m (length file - 8) (length-append front postscript ∙ omega (arith, long)) in
    let whole : nat_le 8 (length file) ≡ true = le-leb _ _ (omega (arith, long)) in
    let magic : ends_with_magic file ≡ true = ap (λ x. bytes_eq (drop 4 x) (codes "VTXF")) marked ∙ magic_back version n in
    let number : version_of (version_number file) ≡ Some version = ap (λ x. version_of (from_le_bytes w16 (take 2 x))) marked ∙ version_back version n in
    let size_is : postscript_length file ≡ n = ap (λ x. from_le_bytes w16 (take 2 (drop 2 x))) marked ∙ size_back version n (omega (arith, size)) in
    let short : nat_le (postscript_length file) 65527 ≡ true = le-leb _ _ (omega (arith, size_is, size)) in
    let fits : nat_le (postscript_length file + 8) (length file) ≡ true = le-leb _ _ (omega (arith, size_is, long)) in
    let bytes : postscript_bytes file ≡ postscript =
    ap (λ x. bytes_at file (length file - 8 - x) x) size_is
    ∙ ap (take n) (drop_at front rest (length file - 8 - n) (omega (arith, long)))
    ∙ take_at postscript m n refl in
    rw (whole, magic, number, short, fits) (ap (λ b. Ok (version, b)) bytes)
