-- Each field of a written table is read back.
use Rattle.std.proofs.Common.{◌≡◌, ℕ, ◌<◌, ◌^◌, true, List, length, Some, None, refl, arith}
use Rattle.std.specs.Int.{Width, w8, w16, w32, w64, w128}
use Rattle.vx_tables.specs.declared.elements.Elements.{Elements}
use Rattle.vx_tables.specs.Block.{Piece, in_order, root_bytes}
use Rattle.vx_tables.specs.Field.{Table, root, slot, field, target_field, table_field, vector_field}
use Rattle.vx_tables.specs.Standing.{Stands, limit, ReadsBack}
use Rattle.vx_tables.proofs.Places.{Holds, holds_8, holds_16, holds_32, holds_64}
use Rattle.vx_tables.proofs.ReadBack.{slot_absent, number_back}
use Rattle.vx_tables.proofs.ReadTexts.{root_back, text_back, table_field_back}
use Rattle.vx_tables.proofs.ReadVectors.{bytes_back, numbers_back, segments_back, texts_back, tables_back}

holds_below : (w : Width) (n : ℕ) → n < limit w → Holds w n
holds_below w8 n lt = holds_8 n lt
holds_below w16 n lt = holds_16 n lt
holds_below w32 n lt = holds_32 n lt
holds_below w64 n lt = holds_64 n lt
holds_below w128 n lt = absurd (omega arith)

pub reads_back : (b : List ℕ) (t : Table) (ps : List Piece) → Stands b t ps → ReadsBack b t ps
reads_back b t ps h = record {
  absent = λ k none. slot_absent b t ps k h none;
  number = λ w k n found lt. number_back w b t ps k n h found (holds_below w n lt);
  text = λ k s found utf8. text_back b t ps k s h found utf8;
  bytes = λ k xs found. bytes_back b t ps k xs h found;
  numbers = λ k ns found. numbers_back b t ps k ns h found;
  segments = λ k ss found. segments_back b t ps k ss h found;
  texts = λ k ts found. texts_back b t ps k ts h found;
  table = λ k qs found order. table_field_back b t ps k qs h found order;
  tables = λ k ws found. tables_back b t ps k ws h found;
}

-- a table that was written, found in the bytes of its root
pub record IsRoot (b : List ℕ) (ps : List Piece) : Type 0 where
  pub table : Table
  pub found : root b ≡ Some table
  pub stands : Stands b table ps
  pub reads : ReadsBack b table ps

pub root_read : (ps : List Piece) → in_order 0 ps ≡ true → length (root_bytes ps) < 2 ^ 32 → IsRoot (root_bytes ps) ps
root_read ps order short = let i = root_back ps order short in record { table = i.table; found = i.found; stands = i.stands; reads = reads_back (root_bytes ps) i.table ps i.stands }

-- ---- fields that are absent

pub no_number : (w : Width) (b : List ℕ) (t : Table) (k : ℕ) → slot b t k ≡ Some None → field w b t k ≡ Some None
unfolding field
no_number w b t k e = rw e refl

pub no_table : (b : List ℕ) (t : Table) (k : ℕ) → slot b t k ≡ Some None → table_field b t k ≡ Some None
unfolding table_field target_field
no_table b t k e = rw e refl

pub no_vector : (b : List ℕ) (t : Table) (k : ℕ) (elements : Elements) → slot b t k ≡ Some None → vector_field b t k elements ≡ Some None
unfolding vector_field target_field
no_vector b t k elements e = rw e refl
