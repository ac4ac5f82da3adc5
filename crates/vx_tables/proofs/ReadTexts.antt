-- Texts, tables and vectors are read back.
use Rattle.std.proofs.Common.{◌≡◌, ℕ, ◌+◌, ◌-◌, ◌*◌, ◌≤◌, ◌<◌, ◌^◌, true, List, [], ◌∷◌, ◌++◌, length, Option, Some, None, refl, sym, ap, ◌∙◌, arith, length-append, zero-add}
use Rattle.std.specs.Prelude.{nat_le}
use Rattle.std.specs.Int.{w32}
use Rattle.std.specs.Str.{is_utf8}
use Rattle.std.proofs.lemmas.Bool.{le-leb}
use Rattle.std.proofs.lemmas.List.{append-nil}
use Rattle.vx_tables.specs.declared.elements.Elements.{Elements}
use Rattle.vx_tables.specs.Block.{Piece, low, u32_bytes, fixed_size, tail, cell, cells, fixed_len, body, vtable_size, block, vtable, root_bytes, in_order, counted_block, segment}
use Rattle.vx_tables.specs.Block as written
use Rattle.vx_tables.specs.Field.{Table, Vector, forward, num, target, table_at, root, text, vector, element_size, text_field, table_field, vector_field, bytes}
use Rattle.vx_tables.specs.Standing.{IsAt, Stands, piece_at, IsTableAt, IsTableField}
use Rattle.vx_tables.proofs.Places.{at_left, at_right, at_move, at_inside, bytes_back}
use Rattle.vx_tables.proofs.ReadBack.{num_low, forward_is, target_back, target_absent, table_back, length-vtable, vtable_fits}

-- ---- texts

abbrev pub text_block : List ℕ → List ℕ
text_block s = counted_block (length s) (s ++ 0 ∷ [])

-- how long what stands in a short root is
pub short_inside : (b : List ℕ) (at : ℕ) (x : List ℕ) → IsAt b at x → length b < 2 ^ 32 → length x < 2 ^ 32
short_inside b at x h short = omega (arith, at_inside b at x h)

-- the count at the front of a block
pub count_back : (b : List ℕ) (at count : ℕ) (elements : List ℕ) → count < 2 ^ 32 → IsAt b at (counted_block count elements) → num w32 b at ≡ Some count
count_back b at count elements lt h = num_low b at count lt (at_left b at (u32_bytes count) elements h)

pub elements_at : (b : List ℕ) (at count : ℕ) (elements : List ℕ) → IsAt b at (counted_block count elements) → IsAt b (at + 4) elements
elements_at b at count elements h = at_right b at (u32_bytes count) elements h

pub text_stands : (b : List ℕ) (at : ℕ) (s : List ℕ) → IsAt b at (text_block s) → length b < 2 ^ 32 → is_utf8 s ≡ true → text b at ≡ Some s
unfolding text
text_stands b at s h short utf8 =
    let content = elements_at b at (length s) (s ++ 0 ∷ []) h in
    let own = at_left b (at + 4) s (0 ∷ []) content in
    let count : num w32 b at ≡ Some (length s) = count_back b at (length s) (s ++ 0 ∷ []) (short_inside b (at + 4) s own short) h in
    let cells_are : bytes b (at + 4) (length s) ≡ Some s = bytes_back b (at + 4) s own (length s) refl in
    rw (count, cells_are, utf8) refl

pub text_back : (b : List ℕ) (t : Table) (ps : List Piece) (k : ℕ) (s : List ℕ) → Stands b t ps → piece_at k ps ≡ Some (written.text k s) → is_utf8 s ≡ true
    → text_field b t k ≡ Some (Some s)
unfolding text_field
text_back b t ps k s h found utf8 =
    let g = target_back b t ps k 0 (text_block s) h found (omega arith) in
    let at : g.start + 0 ≡ g.start = omega arith in
    let read : text b (g.start + 0) ≡ Some s = ap (text b) at ∙ text_stands b g.start s g.stands h.short utf8 in
    rw (g.target, read) refl

pub text_absent : (b : List ℕ) (t : Table) (ps : List Piece) (k : ℕ) → Stands b t ps → piece_at k ps ≡ None → text_field b t k ≡ Some None
unfolding text_field
text_absent b t ps k h none = rw (target_absent b t ps k h none) refl

-- ---- tables

pub block_stands : (b : List ℕ) (at : ℕ) (ps : List Piece) → IsAt b at (block ps) → length b < 2 ^ 32 → in_order 0 ps ≡ true → IsTableAt b (table_at b (at + vtable_size ps)) ps
block_stands b at ps h short order =
    let t : Table = record { place = at + vtable_size ps; vtable = at; size = vtable_size ps } in
    let s : Stands b t ps = record { block = h; place = refl; size = refl; order = order; short = short } in
    record { table = t; found = table_back b t ps s; stands = s }

pub length-block : (ps : List Piece) → in_order 0 ps ≡ true → vtable_size ps ≤ length (block ps)
length-block ps order = omega (arith, length-append (vtable ps ++ u32_bytes (vtable_size ps)) (body ps), length-append (vtable ps) (u32_bytes (vtable_size ps)), length-vtable ps order)

pub table_field_back : (b : List ℕ) (t : Table) (ps : List Piece) (k : ℕ) (qs : List Piece) → Stands b t ps → piece_at k ps ≡ Some (written.table k qs) → in_order 0 qs ≡ true
    → IsTableField b (table_field b t k) qs
unfolding table_field
table_field_back b t ps k qs h found order =
    let g = target_back b t ps k (vtable_size qs) (block qs) h found (length-block qs order) in
    let i = block_stands b g.start qs g.stands h.short order in
    record { table = i.table; found = rw (g.target, i.found) refl; stands = i.stands }

pub table_field_absent : (b : List ℕ) (t : Table) (ps : List Piece) (k : ℕ) → Stands b t ps → piece_at k ps ≡ None → table_field b t k ≡ Some None
unfolding table_field
table_field_absent b t ps k h none = rw (target_absent b t ps k h none) refl

-- the root
pub root_back : (ps : List Piece) → in_order 0 ps ≡ true → length (root_bytes ps) < 2 ^ 32 → IsTableAt (root_bytes ps) (root (root_bytes ps)) ps
unfolding root target
root_back ps order short =
    let b = root_bytes ps in
    let vs = vtable_size ps in
    let whole : IsAt b 0 b = record { front = []; rest = []; parts = sym (append-nil b); place = refl } in
    let fits = vtable_fits ps order in
    let offset : num w32 b 0 ≡ Some (4 + vs) = num_low b 0 (4 + vs) (omega arith) (at_left b 0 (u32_bytes (4 + vs)) (block ps) whole) in
    let stands = at_move b (0 + 4) 4 (block ps) refl (at_right b 0 (u32_bytes (4 + vs)) (block ps) whole) in
    let inside = at_inside b 4 (block ps) stands in
    let there : forward b 0 (4 + vs) ≡ Some (4 + vs) = forward_is b 0 (4 + vs) (omega (arith, inside, length-block ps order)) ∙ ap (λ n. Some n) (zero-add (4 + vs)) in
    let i = block_stands b 4 ps stands short order in
    record { table = i.table; found = rw (offset, there) i.found; stands = i.stands }

-- ---- vectors

-- a vector that is found, and its elements' bytes
pub record IsVectorField (b : List ℕ) (read : Option (Option Vector)) (count : ℕ) (elements : List ℕ) : Type 0 where
  pub vector : Vector
  pub found : read ≡ Some (Some vector)
  pub as_many : vector.count ≡ count
  pub start : ℕ
  pub first : vector.first ≡ start + 4
  pub stands : IsAt b (start + 4) elements

vector_stands : (b : List ℕ) (at count : ℕ) (content : List ℕ) (elements : Elements) → IsAt b at (counted_block count content) → count < 2 ^ 32 → count * element_size elements ≤ length content
    → (let v : Vector = record { first = at + 4; count = count } in vector b at elements ≡ Some v)
unfolding vector
vector_stands b at count content elements h lt le =
    let read : num w32 b at ≡ Some count = count_back b at count content lt h in
    let fits : nat_le (count * element_size elements) (length b - (at + 4)) ≡ true = le-leb _ _ (omega (arith, at_inside b (at + 4) content (elements_at b at count content h))) in
    rw (read, fits) refl

pub vector_back : (b : List ℕ) (t : Table) (ps : List Piece) (k count : ℕ) (content : List ℕ) (elements : Elements) → Stands b t ps
    → (let p : Piece = record { slot = k; lead = Some 0; bytes = counted_block count content } in piece_at k ps ≡ Some p) → count ≤ length content → count * element_size elements ≤ length content
    → IsVectorField b (vector_field b t k elements) count content
unfolding vector_field
vector_back b t ps k count content elements h found few le =
    let g = target_back b t ps k 0 (counted_block count content) h found (omega arith) in
    let lt : count < 2 ^ 32 = omega (arith, few, short_inside b (g.start + 4) content (elements_at b g.start count content g.stands) h.short) in
    let at : g.start + 0 ≡ g.start = omega arith in
    let read = ap (λ n. vector b n elements) at ∙ vector_stands b g.start count content elements g.stands lt le in
    record { vector = record { first = g.start + 4; count = count }; found = rw (g.target, read) refl; as_many = refl; start = g.start; first = refl; stands = elements_at b g.start count content g.stands }
