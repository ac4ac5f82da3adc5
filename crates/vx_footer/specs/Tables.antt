-- The postscript and the footer's table as they stand: the grammar of each, with the visits and levels that it takes.
use Rattle.std.specs.Prelude.{ℕ, zero, suc, ◌||◌, not, ◌==◌, List, [], ◌∷◌, take, drop, Option, Some, is_some}
use Rattle.std.specs.Int.{w8, w16, w32, w64, from_le_bytes}
use Rattle.vx_tables.specs.declared.elements.Elements.TheVariants.{Offsets, Segments}
use Rattle.vx_tables.specs.Field.{◌>>=◌ as ◌then◌, Table, Vector, root, field, text_field, table_field, element_bytes}
use Rattle.vx_tables.specs.Counted.{Counted, ◌>>=◌, pure, counted, free, enter, enter_optional, present, each_table, or_empty, optional_cost, text_cost, or_zero, vector_of}
use Rattle.vx_footer.specs.declared.rows.Locator.{Locator}
use Rattle.vx_footer.specs.declared.rows.MetadataRow.{MetadataRow}
use Rattle.vx_footer.specs.declared.rows.PostscriptRow.{PostscriptRow}
use Rattle.vx_footer.specs.FooterTable.{FooterTable}

-- ---- the postscript

-- where a table or a value lies (offset, length, alignment exponent), and whether compression or encryption is named
unfoldable pub locator : List ℕ → Table → Option Locator
locator b t =
    field w64 b t 0 then λ offset.
    field w32 b t 1 then λ size.
    field w8 b t 2 then λ exponent.
    field w8 b t 3 then λ compression.
    field w8 b t 4 then λ encryption.
    Some (record { offset = or_zero offset; length = or_zero size; exponent = or_zero exponent; is_coded = is_some compression || is_some encryption })

unfoldable pub locator_field : List ℕ → Table → ℕ → Option (Counted (Option Locator))
locator_field b t k = enter_optional (table_field b t k) (λ inner. free (locator b inner))

-- a locator that must be there
unfoldable pub locator_required : List ℕ → Table → ℕ → Option (Counted Locator)
locator_required b t k = do
  l ← locator_field b t k
  present l

-- a text that must be there
unfoldable pub text_required : List ℕ → Table → ℕ → Option (Counted (List ℕ))
text_required b t k = do
  text ← counted (optional_cost text_cost) (text_field b t k)
  present text

-- a metadata entry: its key, and where its value lies
unfoldable pub entry_in : List ℕ → Table → Option (Counted MetadataRow)
entry_in b t = do
  key ← text_required b t 0
  segment ← locator_required b t 1
  pure (record { key = key; segment = segment })

unfoldable pub entries_of : List ℕ → Vector → Option (Counted (List MetadataRow))
entries_of b v = each_table b (entry_in b) v

unfoldable pub metadata_in : List ℕ → Table → Option (Counted (List MetadataRow))
metadata_in b t = do
  v ← vector_of b t 4 Offsets
  or_empty (entries_of b) v

-- the places of dtype, layout, statistics and footer, and the metadata
unfoldable pub postscript_in : List ℕ → Table → Option (Counted PostscriptRow)
postscript_in b t = do
  dtype ← locator_field b t 0
  layout ← locator_required b t 1
  statistics ← locator_field b t 2
  footer ← locator_required b t 3
  metadata ← metadata_in b t
  pure (record { dtype = dtype; layout = layout; statistics = statistics; footer = footer; metadata = metadata })

unfoldable pub postscript_table : List ℕ → Option (Counted PostscriptRow)
postscript_table b = enter (root b) (postscript_in b)

-- ---- the footer's table

-- the id of an encoding
unfoldable pub spec_in : List ℕ → Table → Option (Counted (List ℕ))
spec_in b t = text_required b t 0

unfoldable pub specs_of : List ℕ → Vector → Option (Counted (List (List ℕ)))
specs_of b v = each_table b (spec_in b) v

unfoldable pub specs_in : List ℕ → Table → ℕ → Option (Counted (List (List ℕ)))
specs_in b t k = do
  v ← vector_of b t k Offsets
  or_empty (specs_of b) v

-- a segment's 16 bytes: offset, length, alignment exponent, compression, encryption
abbrev pub segment_struct : List ℕ → Locator
segment_struct cells = record {
  offset = from_le_bytes w64 (take 8 cells);
  length = from_le_bytes w32 (take 4 (drop 8 cells));
  exponent = from_le_bytes w8 (take 1 (drop 12 cells));
  is_coded = not (from_le_bytes w8 (take 1 (drop 13 cells)) == 0) || not (from_le_bytes w16 (take 2 (drop 14 cells)) == 0);
}

-- so many segments, one behind the other
abbrev pub segment_structs : ℕ → List ℕ → List Locator
segment_structs zero cells = []
segment_structs (suc n) cells = segment_struct cells ∷ segment_structs n (drop 16 cells)

-- the segments, which must be there
unfoldable pub segments_in : List ℕ → Table → Option (Counted Vector)
segments_in b t = do
  v ← vector_of b t 2 Segments
  present v

-- the ids of arrays, the ids of layouts, and the segments
unfoldable pub footer_in : List ℕ → Table → Option (Counted FooterTable)
footer_in b t = do
  arrays ← specs_in b t 0
  layouts ← specs_in b t 1
  v ← segments_in b t
  pure (record { arrays = arrays; layouts = layouts; segments = segment_structs v.count (element_bytes b v Segments) })

unfoldable pub footer_table : List ℕ → Option (Counted FooterTable)
footer_table b = enter (root b) (footer_in b)
