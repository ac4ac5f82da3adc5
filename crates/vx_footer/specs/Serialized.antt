-- What is written of a footer: its tables, the postscript that says where they lie, and the end marker. So far this is
-- said of footers of the first version whose layout is one flat layout, without statistics and metadata.
use Rattle.std.specs.Prelude.{ℕ, ◌≡◌, ◌+◌, ◌^◌, nat_lt, if◌then◌else◌, List, [], ◌∷◌, ◌++◌, length, map, codes, None, Result, Ok, Err}
use Rattle.std.specs.Int.{w8, w16, w32, w64, to_le_bytes}
use Rattle.std.specs.List.{flat_map}
use Rattle.vx_base.specs.declared.segment.SegmentSpec.{SegmentSpec}
use Rattle.vx_base.specs.Buffer.{Buffer}
use Rattle.vx_base.specs.Checks.{◌>>=◌}
use Rattle.vx_tables.specs.Block.{Piece, number, text, table, tables, segments, root_bytes}
use Rattle.vx_tables.specs.declared.table_error.TableError.{TableError}
use Rattle.vx_tables.specs.declared.table_error.TableError.TheVariants as refused
use Rattle.vx_data.specs.declared.layout_kind.LayoutKind.TheVariants.{Flat}
use Rattle.vx_data.specs.declared.table_write_error.TableWriteError.{TableWriteError}
use Rattle.vx_data.specs.declared.table_write_error.TableWriteError.TheVariants as unwritten
use Rattle.vx_data.specs.Dtype.{Dtype}
use Rattle.vx_data.specs.DtypeWritten.{pieces_of, dtype_written}
use Rattle.vx_data.specs.Layout.{node, no_layouts, dtype_of}
use Rattle.vx_data.specs.LayoutWritten.{tree_pieces, layout_written}
use Rattle.vx_footer.specs.declared.serialize_error.SerializeError.{SerializeError}
use Rattle.vx_footer.specs.declared.serialize_error.SerializeError.TheVariants.{TooDeep, TooManyTables, SegmentTooLong, OffsetOverflow, OutOfMemory}
use Rattle.vx_footer.specs.declared.version.FileVersion.TheVariants.{V1}
use Rattle.vx_footer.specs.declared.postscript.PostscriptSegment.{PostscriptSegment}
use Rattle.vx_footer.specs.declared.serializing.Places.{Places}
use Rattle.vx_footer.specs.Footers.{FooterContent}

-- a footer of the first version with one flat layout, without statistics and metadata
pub record IsFlat (f : FooterContent) : Type 0 where
  pub rows_dtype : Dtype
  pub rows : ℕ
  pub segment : ℕ
  pub layout : f.layout ≡ node Flat rows_dtype rows (segment ∷ []) no_layouts
  pub version : f.version ≡ V1
  pub statistics : f.statistics ≡ None
  pub metadata : f.metadata ≡ []

-- ---- the pieces of each table, in order of slot

abbrev pub id_pieces : List ℕ → List Piece
id_pieces id = text 0 id ∷ []

abbrev pub flat_id : List ℕ
flat_id = codes "vortex.flat"

-- the array specs, the one layout spec, and the segments
abbrev pub footer_pieces : List (List ℕ) → List SegmentSpec → List Piece
footer_pieces ids specs = tables 0 (map id_pieces ids) ∷ tables 1 (id_pieces flat_id ∷ []) ∷ segments 2 specs ∷ []

abbrev pub place_pieces : PostscriptSegment → List Piece
place_pieces s = number w64 0 s.offset ∷ number w32 1 s.length ∷ number w8 2 s.alignment ∷ []

abbrev pub postscript_pieces : Places → List Piece
postscript_pieces t = table 0 (place_pieces t.dtype) ∷ table 1 (place_pieces t.layout) ∷ table 3 (place_pieces t.footer) ∷ []

-- ---- the bytes of each table

abbrev pub dtype_bytes : FooterContent → List ℕ
dtype_bytes f = root_bytes (pieces_of (dtype_of f.layout))

abbrev pub layout_bytes : FooterContent → List ℕ
layout_bytes f = root_bytes (tree_pieces (flat_id ∷ []) f.layout)

unfoldable pub ids_bytes : List (List ℕ) → List SegmentSpec → List ℕ
ids_bytes ids specs = root_bytes (footer_pieces ids specs)

unfoldable pub places_bytes : Places → List ℕ
places_bytes t = root_bytes (postscript_pieces t)

abbrev pub footer_bytes : FooterContent → List ℕ
footer_bytes f = ids_bytes f.array_ids f.segments

-- ---- where the tables lie, one behind the other

-- a table's place; each claims an alignment of 2^3 bytes, wherever it lies
abbrev pub place : ℕ → List ℕ → PostscriptSegment
place at bytes = record { offset = at; length = length bytes; alignment = 3 }

-- the tables of these bytes, the first of which begins at an offset
abbrev pub places : ℕ → List ℕ → List ℕ → List ℕ → Places
places at dtype layout footer = record {
  dtype = place at dtype;
  layout = place (at + length dtype) layout;
  footer = place (at + length dtype + length layout) footer;
}

abbrev pub tables_end : ℕ → List ℕ → List ℕ → List ℕ → ℕ
tables_end at dtype layout footer = at + length dtype + length layout + length footer

-- ---- what follows the segments

-- the version, the postscript's length, and the magic
abbrev pub end_marker : ℕ → List ℕ
end_marker size = to_le_bytes w16 1 ++ to_le_bytes w16 size ++ codes "VTXF"

-- the parts that follow the segments, where the first begins at an offset
abbrev pub parts_of : ℕ → List ℕ → List ℕ → List ℕ → List (List ℕ)
parts_of at dtype layout footer =
    let postscript = places_bytes (places at dtype layout footer) in
    dtype ∷ layout ∷ footer ∷ postscript ∷ end_marker (length postscript) ∷ []

abbrev pub postscript_bytes : ℕ → FooterContent → List ℕ
postscript_bytes at f = places_bytes (places at (dtype_bytes f) (layout_bytes f) (footer_bytes f))

-- all bytes that follow the segments
abbrev pub serialized : ℕ → FooterContent → List ℕ
serialized at f = dtype_bytes f ++ layout_bytes f ++ footer_bytes f ++ postscript_bytes at f ++ end_marker (length (postscript_bytes at f))

-- ---- refusals

-- which refusal of a footer a refusal of a table is
abbrev pub of_write : TableWriteError → SerializeError
of_write unwritten.TooDeep = TooDeep
of_write unwritten.TooManyTables = TooManyTables
of_write unwritten.TableTooLong = SegmentTooLong
of_write unwritten.OutOfMemory = OutOfMemory

abbrev pub of_written : Result (List ℕ) TableWriteError → Result (List ℕ) SerializeError
of_written (Ok bytes) = Ok bytes
of_written (Err e) = Err (of_write e)

abbrev pub of_table : TableError → SerializeError
of_table refused.TableTooLong = SegmentTooLong
of_table refused.OutOfMemory = OutOfMemory

-- a table whose length a locator can hold
abbrev pub segment_of : List ℕ → Result (List ℕ) SerializeError
segment_of bytes = if nat_lt (length bytes) (2 ^ 32) then Ok bytes else Err SegmentTooLong

-- the parts, unless the tables end past the last offset
abbrev pub placed : ℕ → List ℕ → List ℕ → List ℕ → Result Places SerializeError
placed at dtype layout footer = if nat_lt (tables_end at dtype layout footer) (2 ^ 64) then Ok (places at dtype layout footer) else Err OffsetOverflow

-- the parts, unless a table is too deep, too large or too long, or the tables end past the last offset
unfoldable pub serialize_checks : ℕ → FooterContent → Result (List (List ℕ)) SerializeError
serialize_checks at f = do
  dtype ← of_written (dtype_written (dtype_of f.layout))
  layout ← of_written (layout_written (flat_id ∷ []) f.layout)
  footer ← segment_of (footer_bytes f)
  _ ← placed at dtype layout footer
  Ok (parts_of at dtype layout footer)

-- ---- what a function answers

-- what an error tells: it is what the definition gives, unless memory ran out
abbrev pub Fails : {A : Type 0} → SerializeError → Result A SerializeError → Type 0
Fails OutOfMemory answer = Unit {0}
Fails e answer = answer ≡ Err e

-- the bytes of one buffer after the other
abbrev pub joined : List Buffer → List ℕ
joined buffers = flat_map (λ b. b.bytes) buffers
