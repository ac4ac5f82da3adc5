-- What is written stands in the bytes of a root, and is read back.
use Rattle.std.specs.Prelude.{◌≡◌, ℕ, ◌+◌, ◌<◌, ◌^◌, ◌==◌, true, if◌then◌else◌, List, [], ◌∷◌, ◌++◌, length, slice_get, Option, Some, None}
use Rattle.std.specs.Int.{Width, w8, w16, w32, w64, w128, to_le_bytes}
use Rattle.std.specs.List.{flat_map}
use Rattle.std.specs.Str.{is_utf8}
use Rattle.vx_base.specs.declared.segment.SegmentSpec.{SegmentSpec}
use Rattle.vx_tables.specs.declared.elements.Elements.{Elements}
use Rattle.vx_tables.specs.declared.elements.Elements.TheVariants.{Numbers, Offsets, Segments}
use Rattle.vx_tables.specs.Block.{Piece, block, vtable_size, in_order, segment}
use Rattle.vx_tables.specs.Block as written
use Rattle.vx_tables.specs.Field.{Table, Vector, slot, field, text_field, table_field, vector_field, text_of_vector, table_of_vector, element_bytes}

-- x stands at a place of b
pub record IsAt (b : List ℕ) (at : ℕ) (x : List ℕ) : Type 0 where
  pub front : List ℕ
  pub rest : List ℕ
  pub parts : b ≡ front ++ (x ++ rest)
  pub place : length front ≡ at

-- the table of these pieces stands in b, where a reader sees t
pub record Stands (b : List ℕ) (t : Table) (ps : List Piece) : Type 0 where
  pub block : IsAt b t.vtable (block ps)
  pub place : t.place ≡ t.vtable + vtable_size ps
  pub size : t.size ≡ vtable_size ps
  pub order : in_order 0 ps ≡ true
  pub short : length b < 2 ^ 32

-- the piece of a slot
abbrev pub piece_at : ℕ → List Piece → Option Piece
piece_at k [] = None
piece_at k (p ∷ ps) = if p.slot == k then Some p else piece_at k ps

-- all of these are texts
abbrev pub AreUtf8 : List (List ℕ) → Type 0
AreUtf8 ts = (i : ℕ) (s : List ℕ) → slice_get ts i ≡ Some s → is_utf8 s ≡ true

-- ---- what is found

-- a table, where these pieces stand
pub record IsTableAt (b : List ℕ) (read : Option Table) (ps : List Piece) : Type 0 where
  pub table : Table
  pub found : read ≡ Some table
  pub stands : Stands b table ps

pub record IsTableField (b : List ℕ) (read : Option (Option Table)) (ps : List Piece) : Type 0 where
  pub table : Table
  pub found : read ≡ Some (Some table)
  pub stands : Stands b table ps

-- a vector whose elements are these bytes
pub record IsPlainVector (b : List ℕ) (read : Option (Option Vector)) (elements : Elements) (count : ℕ) (content : List ℕ) : Type 0 where
  pub vector : Vector
  pub found : read ≡ Some (Some vector)
  pub as_many : vector.count ≡ count
  pub bytes : element_bytes b vector elements ≡ content

-- a vector of these texts
pub record AreTexts (b : List ℕ) (read : Option (Option Vector)) (ts : List (List ℕ)) : Type 0 where
  pub vector : Vector
  pub found : read ≡ Some (Some vector)
  pub as_many : vector.count ≡ length ts
  pub each : (i : ℕ) (s : List ℕ) → slice_get ts i ≡ Some s → is_utf8 s ≡ true → text_of_vector b vector i ≡ Some s

-- a vector of tables where these pieces stand
pub record AreTables (b : List ℕ) (read : Option (Option Vector)) (ws : List (List Piece)) : Type 0 where
  pub vector : Vector
  pub found : read ≡ Some (Some vector)
  pub as_many : vector.count ≡ length ws
  pub each : (i : ℕ) (ps : List Piece) → slice_get ws i ≡ Some ps → in_order 0 ps ≡ true → IsTableAt b (table_of_vector b vector i) ps

-- what a number of a width is below
abbrev pub limit : Width → ℕ
limit w8 = 2 ^ 8
limit w16 = 2 ^ 16
limit w32 = 2 ^ 32
limit w64 = 2 ^ 64
limit w128 = 0

-- each field of a table that was written is read back, and no other is there
pub record ReadsBack (b : List ℕ) (t : Table) (ps : List Piece) : Type 0 where
  pub absent : (k : ℕ) → piece_at k ps ≡ None → slot b t k ≡ Some None
  pub number : (w : Width) (k n : ℕ) → piece_at k ps ≡ Some (written.number w k n) → n < limit w → field w b t k ≡ Some (Some n)
  pub text : (k : ℕ) (s : List ℕ) → piece_at k ps ≡ Some (written.text k s) → is_utf8 s ≡ true → text_field b t k ≡ Some (Some s)
  pub bytes : (k : ℕ) (xs : List ℕ) → piece_at k ps ≡ Some (written.bytes k xs) → IsPlainVector b (vector_field b t k (Numbers 1)) (Numbers 1) (length xs) xs
  pub numbers : (k : ℕ) (ns : List ℕ) → piece_at k ps ≡ Some (written.numbers k ns)
      → IsPlainVector b (vector_field b t k (Numbers 4)) (Numbers 4) (length ns) (flat_map (to_le_bytes w32) ns)
  pub segments : (k : ℕ) (ss : List SegmentSpec) → piece_at k ps ≡ Some (written.segments k ss)
      → IsPlainVector b (vector_field b t k Segments) Segments (length ss) (flat_map segment ss)
  pub texts : (k : ℕ) (ts : List (List ℕ)) → piece_at k ps ≡ Some (written.texts k ts) → AreTexts b (vector_field b t k Offsets) ts
  pub table : (k : ℕ) (qs : List Piece) → piece_at k ps ≡ Some (written.table k qs) → in_order 0 qs ≡ true → IsTableField b (table_field b t k) qs
  pub tables : (k : ℕ) (ws : List (List Piece)) → piece_at k ps ≡ Some (written.tables k ws) → AreTables b (vector_field b t k Offsets) ws
