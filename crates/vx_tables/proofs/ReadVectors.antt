-- Vectors of numbers, bytes and segment structs, and the elements of vectors of texts and tables.
use Rattle.std.proofs.Common.{◌≡◌, ℕ, zero, suc, ◌+◌, ◌-◌, ◌*◌, ◌≤◌, ◌<◌, ◌^◌, true, List, [], ◌∷◌, ◌++◌, length, map, take, drop, sum_by, Option, Some, refl, sym, ap, subst, ◌∙◌, arith, length-append}
use Rattle.std.specs.Prelude.{slice_get}
use Rattle.std.specs.Int.{w32, to_le_bytes}
use Rattle.std.specs.List.{flat_map}
use Rattle.std.specs.Str.{is_utf8}
use Rattle.std.proofs.lemmas.Grind.{flat_map-append}
use Rattle.std.proofs.lemmas.List.{map-append, length-map, take_at, drop_at}
use Rattle.std.proofs.lemmas.List.Sums.{sum_by-cons, sum_by-append}
use Rattle.vx_base.specs.declared.segment.SegmentSpec.{SegmentSpec}
use Rattle.vx_tables.specs.declared.elements.Elements.{Elements}
use Rattle.vx_tables.specs.declared.elements.Elements.TheVariants.{Numbers, Offsets, Segments}
use Rattle.vx_tables.specs.Block.{Piece, u32_bytes, fixed_size, tail, cell, cells, fixed_len, body, vtable_size, block, in_order, counted_block, segment}
use Rattle.vx_tables.specs.Block as written
use Rattle.vx_tables.specs.Field.{Table, Vector, forward, num, target, text, element_size, vector_field, element_target, text_of_vector, table_of_vector}
use Rattle.vx_tables.specs.Standing.{IsAt, Stands, piece_at, IsTableAt, IsPlainVector, AreTexts, AreTables}
use Rattle.vx_tables.proofs.Parts.{tail_size, length-cells}
use Rattle.vx_tables.proofs.Places.{at_left, at_right, at_move, at_inside, at_drop}
use Rattle.vx_tables.proofs.ReadBack.{num_low, forward_is, cut}
use Rattle.vx_tables.proofs.ReadTexts.{IsVectorField, vector_back, block_stands, text_block, text_stands, length-block}

-- ---- vectors without offsets

pub length-flat : {A : Type 0} (f : A → List ℕ) (n : ℕ) → ((x : A) → length (f x) ≡ n) → (xs : List A) → length (flat_map f xs) ≡ length xs * n
length-flat f n each [] = omega arith
length-flat f n each (x ∷ xs) = length-append (f x) (flat_map f xs) ∙ grind (arith, each, length-flat f n each xs)

pub plain_back : (b : List ℕ) (t : Table) (ps : List Piece) (k count : ℕ) (content : List ℕ) (elements : Elements) → Stands b t ps
    → (let p : Piece = record { slot = k; lead = Some 0; bytes = counted_block count content } in piece_at k ps ≡ Some p) → count ≤ length content → count * element_size elements ≡ length content
    → IsPlainVector b (vector_field b t k elements) elements count content
plain_back b t ps k count content elements h found few size =
    let v = vector_back b t ps k count content elements h found few (omega (arith, size)) in
    let as_long : v.vector.count * element_size elements ≡ length content = ap (λ n. n * element_size elements) v.as_many ∙ size in
    record { vector = v.vector; found = v.found; as_many = v.as_many; bytes = at_drop b v.vector.first content (at_move b (v.start + 4) v.vector.first content (sym v.first) v.stands) (v.vector.count * element_size elements) as_long }

pub bytes_back : (b : List ℕ) (t : Table) (ps : List Piece) (k : ℕ) (xs : List ℕ) → Stands b t ps → piece_at k ps ≡ Some (written.bytes k xs)
    → IsPlainVector b (vector_field b t k (Numbers 1)) (Numbers 1) (length xs) xs
bytes_back b t ps k xs h found = plain_back b t ps k (length xs) xs (Numbers 1) h found (omega arith) (omega arith)

pub numbers_back : (b : List ℕ) (t : Table) (ps : List Piece) (k : ℕ) (ns : List ℕ) → Stands b t ps → piece_at k ps ≡ Some (written.numbers k ns)
    → IsPlainVector b (vector_field b t k (Numbers 4)) (Numbers 4) (length ns) (flat_map (to_le_bytes w32) ns)
numbers_back b t ps k ns h found =
    let size = length-flat (to_le_bytes w32) 4 (λ n. refl) ns in
    plain_back b t ps k (length ns) (flat_map (to_le_bytes w32) ns) (Numbers 4) h found (omega (arith, size)) (sym size)

pub length-segment : (s : SegmentSpec) → length (segment s) ≡ 16
unfolding segment
length-segment s = refl

pub segments_back : (b : List ℕ) (t : Table) (ps : List Piece) (k : ℕ) (ss : List SegmentSpec) → Stands b t ps → piece_at k ps ≡ Some (written.segments k ss)
    → IsPlainVector b (vector_field b t k Segments) Segments (length ss) (flat_map segment ss)
segments_back b t ps k ss h found =
    let size = length-flat segment 16 length-segment ss in
    plain_back b t ps k (length ss) (flat_map segment ss) Segments h found (omega (arith, size)) (sym size)

-- ---- vectors of offsets

-- an element, with those before and behind it
pub record IsNth {X : Type 0} (xs : List X) (i : ℕ) (x : X) : Type 0 where
  pub front : List X
  pub rest : List X
  pub parts : xs ≡ front ++ x ∷ rest
  pub place : length front ≡ i

pub nth : {X : Type 0} (xs : List X) (i : ℕ) (x : X) → slice_get xs i ≡ Some x → IsNth xs i x
nth [] i x h = absurd cc
nth (y ∷ xs) zero x h = record { front = []; rest = xs; parts = ap (λ z. z ∷ xs) (let same : y ≡ x = cc in same); place = refl }
nth (y ∷ xs) (suc i) x h = let n = nth xs i x h in record { front = y ∷ n.front; rest = n.rest; parts = ap (λ zs. y ∷ zs) n.parts; place = ap suc n.place }

-- pieces with a block each
abbrev block_piece : {X : Type 0} → (X → ℕ) → (X → List ℕ) → X → Piece
block_piece lead content x = record { slot = 0; lead = Some (lead x); bytes = content x }

abbrev blocks : {X : Type 0} → (X → ℕ) → (X → List ℕ) → List X → List Piece
blocks lead content xs = map (block_piece lead content) xs

fixed-blocks : {X : Type 0} (lead : X → ℕ) (content : X → List ℕ) (xs : List X) → sum_by fixed_size (blocks lead content xs) ≡ 4 * length xs
fixed-blocks lead content [] = refl
fixed-blocks lead content (x ∷ xs) = sum_by-cons fixed_size (record { slot = 0; lead = Some (lead x); bytes = content x }) (blocks lead content xs) ∙ omega (arith, fixed-blocks lead content xs)

-- where the offset of an element leads
pub record IsElement (b : List ℕ) (v : Vector) (i lead : ℕ) (content : List ℕ) : Type 0 where
  pub start : ℕ
  pub found : element_target b v i ≡ Some (start + lead)
  pub stands : IsAt b start content

pub element_back : {X : Type 0} (b : List ℕ) (v : Vector) (base : ℕ) (lead : X → ℕ) (content : X → List ℕ) (xs : List X) (i : ℕ) (x : X)
    → v.first ≡ base + 4 → IsAt b (base + 4) (body (blocks lead content xs)) → length b < 2 ^ 32 → slice_get xs i ≡ Some x → lead x ≤ length (content x)
    → IsElement b v i (lead x) (content x)
unfolding target
element_back b v base lead content xs i x first h short got le =
    let n = nth xs i x got in
    let ps = blocks lead content xs in
    let front = blocks lead content n.front in
    let p : Piece = record { slot = 0; lead = Some (lead x); bytes = content x } in
    let rest = blocks lead content n.rest in
    let apart : ps ≡ front ++ p ∷ rest = ap (blocks lead content) n.parts ∙ map-append (block_piece lead content) n.front (x ∷ n.rest) in
    let stands = subst (λ (qs : List Piece). IsAt b (base + 4) (body qs)) apart h in
    let qs = front ++ p ∷ rest in
    let the_cells = at_left b (base + 4) (cells 4 (fixed_len qs) qs) (flat_map tail qs) stands in
    let the_tails = at_move b (base + 4 + length (cells 4 (fixed_len qs) qs)) (base + fixed_len qs) (flat_map tail qs) (omega (arith, length-cells 4 (fixed_len qs) qs)) (at_right b (base + 4) (cells 4 (fixed_len qs) qs) (flat_map tail qs) stands) in
    let c = cut b base (fixed_len qs) front p rest the_cells the_tails in
    let at = 4 + sum_by fixed_size front in
    let behind = fixed_len qs + sum_by tail_size front in
    let before : at ≤ behind = omega (arith, sum_by-append fixed_size front (p ∷ rest)) in
    let place : base + at ≡ v.first + 4 * i = omega (arith, first, fixed-blocks lead content n.front, n.place) in
    let inside = at_inside b (base + behind) (content x) c.tail in
    let away = behind + lead x - at in
    let offset : num w32 b (v.first + 4 * i) ≡ Some away = ap (num w32 b) (sym place) ∙ num_low b (base + at) away (omega (arith, inside, le, short, before)) c.cell in
    let there : forward b (v.first + 4 * i) away ≡ Some (base + behind + lead x) = ap (λ a. forward b a away) (sym place) ∙ forward_is b (base + at) away (omega (arith, inside, le, before)) ∙ ap (λ m. Some m) (omega (arith, before)) in
    record { start = base + behind; found = rw (offset, there) refl; stands = c.tail }

pub text_element_back : (b : List ℕ) (v : Vector) (base : ℕ) (ts : List (List ℕ)) (i : ℕ) (s : List ℕ)
    → v.first ≡ base + 4 → IsAt b (base + 4) (body (map (written.text 0) ts)) → length b < 2 ^ 32 → slice_get ts i ≡ Some s → is_utf8 s ≡ true → text_of_vector b v i ≡ Some s
unfolding text_of_vector
text_element_back b v base ts i s first h short got utf8 =
    let e = element_back b v base (λ _. 0) text_block ts i s first h short got (omega arith) in
    let at : e.start + 0 ≡ e.start = omega arith in
    let read : text b (e.start + 0) ≡ Some s = ap (text b) at ∙ text_stands b e.start s e.stands short utf8 in
    rw (e.found, read) refl

pub table_element_back : (b : List ℕ) (v : Vector) (base : ℕ) (ws : List (List Piece)) (i : ℕ) (qs : List Piece)
    → v.first ≡ base + 4 → IsAt b (base + 4) (body (map (written.table 0) ws)) → length b < 2 ^ 32 → slice_get ws i ≡ Some qs → in_order 0 qs ≡ true
    → IsTableAt b (table_of_vector b v i) qs
unfolding table_of_vector
table_element_back b v base ws i qs first h short got order =
    let e = element_back b v base vtable_size block ws i qs first h short got (length-block qs order) in
    let t = block_stands b e.start qs e.stands short order in
    record { table = t.table; found = rw e.found t.found; stands = t.stands }

-- a vector of blocks
blocks_back : {X : Type 0} (b : List ℕ) (t : Table) (ps : List Piece) (k : ℕ) (lead : X → ℕ) (content : X → List ℕ) (xs : List X) → Stands b t ps
    → piece_at k ps ≡ Some (written.vector k (blocks lead content xs)) → IsVectorField b (vector_field b t k Offsets) (length xs) (body (blocks lead content xs))
blocks_back b t ps k lead content xs h found =
    let qs = blocks lead content xs in
    let as_many : length qs ≡ length xs = length-map xs (block_piece lead content) in
    let size = length-append (cells 4 (fixed_len qs) qs) (flat_map tail qs) in
    let long = length-cells 4 (fixed_len qs) qs in
    let fixed = fixed-blocks lead content xs in
    let counted : piece_at k ps ≡ Some (record { slot = k; lead = Some 0; bytes = counted_block (length xs) (body qs) }) = found ∙ ap (λ n. let p : Option Piece = Some (record { slot = k; lead = Some 0; bytes = counted_block n (body qs) }) in p) as_many in
    vector_back b t ps k (length xs) (body qs) Offsets h counted (omega (arith, size, long, fixed)) (omega (arith, size, long, fixed))

pub texts_back : (b : List ℕ) (t : Table) (ps : List Piece) (k : ℕ) (ts : List (List ℕ)) → Stands b t ps → piece_at k ps ≡ Some (written.texts k ts) → AreTexts b (vector_field b t k Offsets) ts
texts_back b t ps k ts h found =
    let v = blocks_back b t ps k (λ _. 0) text_block ts h found in
    record { vector = v.vector; found = v.found; as_many = v.as_many; each = λ i s got utf8. text_element_back b v.vector v.start ts i s v.first v.stands h.short got utf8 }

pub tables_back : (b : List ℕ) (t : Table) (ps : List Piece) (k : ℕ) (ws : List (List Piece)) → Stands b t ps → piece_at k ps ≡ Some (written.tables k ws) → AreTables b (vector_field b t k Offsets) ws
tables_back b t ps k ws h found =
    let v = blocks_back b t ps k vtable_size block ws h found in
    record { vector = v.vector; found = v.found; as_many = v.as_many; each = λ i qs got order. table_element_back b v.vector v.start ws i qs v.first v.stands h.short got order }

-- ---- elements of a vector without offsets

-- the bytes of an element among those of all
pub flat_at : {X : Type 0} (f : X → List ℕ) (n : ℕ) → ((x : X) → length (f x) ≡ n) → (xs : List X) (i : ℕ) (x : X) → slice_get xs i ≡ Some x
    → take n (drop (i * n) (flat_map f xs)) ≡ f x
flat_at f n each xs i x got =
    let a = nth xs i x got in
    let front = flat_map f a.front in
    let apart : flat_map f xs ≡ front ++ (f x ++ flat_map f a.rest) = ap (flat_map f) a.parts ∙ flat_map-append f a.front (x ∷ a.rest) in
    let place : length front ≡ i * n = length-flat f n each a.front ∙ ap (λ m. m * n) a.place in
    ap (λ z. take n (drop (i * n) z)) apart ∙ ap (take n) (drop_at front (f x ++ flat_map f a.rest) (i * n) place) ∙ take_at (f x) (flat_map f a.rest) n (each x)
