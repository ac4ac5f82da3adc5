-- What a serializer writes of a footer at an offset: metadata values, the tables, the postscript that says where they
-- lie, and the end marker. Or why it writes nothing.
use Rattle.std.specs.Prelude.{ℕ, ◌<◌, ◌+◌, ◌^◌, Bool, true, false, ◌&&◌, ◌||◌, not, ◌==◌, nat_le, nat_lt, if◌then◌else◌, List, [], ◌∷◌, ◌++◌, length, map, replicate, sum_by, codes, Option, Some, None, Result, Ok, String, string_bytes}
use Rattle.std.specs.Int.{w16, to_le_bytes}
use Rattle.std.specs.List.{list_all, list_any}
use Rattle.std.specs.Option.{option_map}
use Rattle.std.specs.Str.{bytes_eq}
use Rattle.std.specs.Ordering.{nat_cmp, is_lt}
use Rattle.std.specs.Cmp.Lexicographic.{slice_cmp}
use Rattle.std.specs.Global.{Global}
use Rattle.vx_base.specs.Buffer.{Buffer}
use Rattle.vx_base.specs.Checks.{◌>>=◌, ◌unless◌}
use Rattle.vx_base.specs.declared.segment.SegmentSpec.{SegmentSpec}
use Rattle.vx_tables.specs.Block.{Piece, tables, segments, root_bytes}
use Rattle.vx_tables.specs.Counted.{text_cost}
use Rattle.vx_data.specs.DtypeWritten.{pieces_of, levels_of, visits_of}
use Rattle.vx_data.specs.Layout.{dtype_of}
use Rattle.vx_data.specs.LayoutWritten.{has_id, tree_pieces, tree_levels, tree_visits}
use Rattle.vx_data.specs.LayoutIds.{used_ids}
use Rattle.vx_data.specs.StatsWritten.{entries_of, stats_pieces, stats_visits}
use Rattle.vx_footer.specs.declared.version.FileVersion.{FileVersion}
use Rattle.vx_footer.specs.declared.version.FileVersion.TheVariants.{V1, V2}
use Rattle.vx_footer.specs.declared.postscript.Postscript.{Postscript}
use Rattle.vx_footer.specs.declared.postscript.PostscriptMetadata.{PostscriptMetadata}
use Rattle.vx_footer.specs.declared.write_error.WriteError.{WriteError}
use Rattle.vx_footer.specs.declared.write_error.WriteError.TheVariants.{TooManyMetadata, EmptyKey, LongKey, NotPermitted, TooDeep, TooManyTables, SegmentTooLong, OffsetOverflow}
use Rattle.vx_footer.specs.FileStats.{FileStats}
use Rattle.vx_footer.specs.Footers.{FooterContent}
use Rattle.vx_footer.specs.Opening.{most_entries, longest_key}
use Rattle.vx_footer.specs.Placing.{padding}
use Rattle.vx_footer.specs.PostscriptWritten.{postscript_root}
use Rattle.vx_footer.specs.Serialized.{id_pieces, place}

-- a footer, and what a serializer is told of it
pub record Serializing : Type 0 where
  pub content : FooterContent
  pub permitted : Option (List (List ℕ))
  pub offset : ℕ
  pub excludes_dtype : Bool
  pub values : List (List ℕ × Buffer)
  pub version : FileVersion

-- ---- metadata values, sorted by key and placed

abbrev pub values_view : List (String Global × Buffer) → List (List ℕ × Buffer)
values_view values = map (λ v. (string_bytes v.0, v.1)) values

-- in the order of their bytes
abbrev pub is_before : List ℕ → List ℕ → Bool
is_before a b = is_lt (slice_cmp nat_cmp a b)

-- a value before the first whose key is greater
abbrev pub put_value : (List ℕ × Buffer) → List (List ℕ × Buffer) → List (List ℕ × Buffer)
put_value v [] = v ∷ []
put_value v (x ∷ xs) = if is_before v.0 x.0 then v ∷ x ∷ xs else x ∷ put_value v xs

abbrev pub put_values : List (List ℕ × Buffer) → List (List ℕ × Buffer) → List (List ℕ × Buffer)
put_values sorted [] = sorted
put_values sorted (v ∷ vs) = put_values (put_value v sorted) vs

abbrev pub sorted_values : Serializing → List (List ℕ × Buffer)
sorted_values s = put_values [] s.values

abbrev pub value_start : ℕ → Buffer → ℕ
value_start at b = at + padding b.alignment at

abbrev pub value_end : ℕ → Buffer → ℕ
value_end at b = value_start at b + length b.bytes

abbrev pub entry_at : ℕ → (List ℕ × Buffer) → PostscriptMetadata
entry_at at v = record { key = v.0; segment = record { offset = value_start at v.1; length = length v.1.bytes; alignment = v.1.alignment } }

-- where values lie, one behind the other
abbrev pub placed_entries : ℕ → List (List ℕ × Buffer) → List PostscriptMetadata
placed_entries at [] = []
placed_entries at (v ∷ vs) = entry_at at v ∷ placed_entries (value_end at v.1) vs

abbrev pub values_end : ℕ → List (List ℕ × Buffer) → ℕ
values_end at [] = at
values_end at (v ∷ vs) = values_end (value_end at v.1) vs

-- zeros up to a value's alignment, and the value
abbrev pub value_parts : ℕ → List (List ℕ × Buffer) → List (List ℕ)
value_parts at [] = []
value_parts at (v ∷ vs) = replicate (padding v.1.alignment at) 0 ∷ v.1.bytes ∷ value_parts (value_end at v.1) vs

-- without new values the footer keeps its own entries
abbrev pub entries_by : List PostscriptMetadata → ℕ → List (List ℕ × Buffer) → List PostscriptMetadata
entries_by own at [] = own
entries_by own at (v ∷ vs) = placed_entries at (v ∷ vs)

abbrev pub keys_by : List PostscriptMetadata → List (List ℕ × Buffer) → List (List ℕ)
keys_by own [] = map (λ m. m.key) own
keys_by own (v ∷ vs) = map (λ w. w.0) (v ∷ vs)

-- ---- roots of tables

abbrev pub footer_pieces : List (List ℕ) → List (List ℕ) → List SegmentSpec → List Piece
footer_pieces arrays layouts specs = tables 0 (map id_pieces arrays) ∷ tables 1 (map id_pieces layouts) ∷ segments 2 specs ∷ []

-- statistics without sets are not written
abbrev pub has_sets : Option FileStats → Bool
has_sets None = false
has_sets (Some stats) = not (length stats.sets == 0)

abbrev pub stats_root : Option FileStats → List ℕ
stats_root None = []
stats_root (Some stats) = root_bytes (stats_pieces (entries_of stats.sets stats.dtypes))

abbrev pub dtype_root : FooterContent → List ℕ
dtype_root f = root_bytes (pieces_of (dtype_of f.layout))

abbrev pub layout_root : FooterContent → List ℕ
layout_root f = root_bytes (tree_pieces (used_ids f.layout) f.layout)

abbrev pub footer_root : FooterContent → List ℕ
footer_root f = root_bytes (footer_pieces f.array_ids (used_ids f.layout) f.segments)

-- the visits that a reader makes of the footer's table
abbrev pub ids_visits : List (List ℕ) → ℕ
ids_visits ids = sum_by (λ id. 1 + text_cost id) ids

abbrev pub footer_visits : FooterContent → ℕ
footer_visits f = 4 + (ids_visits f.array_ids + ids_visits (used_ids f.layout))

abbrev pub some_stats_visits : Option FileStats → ℕ
some_stats_visits None = 0
some_stats_visits (Some stats) = stats_visits (entries_of stats.sets stats.dtypes)

-- keys of which no two are equal
abbrev pub are_distinct : List (List ℕ) → Bool
are_distinct [] = true
are_distinct (k ∷ ks) = not (list_any (bytes_eq k) ks) && are_distinct ks

-- ---- checks, in order

abbrev pub lengths_checks : FileVersion → List (List ℕ) → Result (Unit {0}) WriteError
lengths_checks version [] = Ok tt
lengths_checks version (k ∷ ks) =
    EmptyKey unless not (length k == 0) >>= λ _.
    LongKey unless nat_le (length k) (longest_key version) >>= λ _.
    lengths_checks version ks

abbrev pub metadata_checks : FileVersion → List (List ℕ) → Result (Unit {0}) WriteError
metadata_checks version ks = TooManyMetadata unless nat_le (length ks) (most_entries version) >>= λ _. lengths_checks version ks

abbrev pub permits : Option (List (List ℕ)) → List (List ℕ) → Bool
permits None ids = true
permits (Some permitted) ids = list_all (has_id permitted) ids

-- whether all tables are flat enough; the dtype's is not written where it is excluded
abbrev pub is_shallow : Bool → FooterContent → Bool
is_shallow excluded f = (excluded || nat_le (levels_of (dtype_of f.layout)) 64) && nat_le (tree_levels f.layout) 64

abbrev pub has_few_visits : Bool → FooterContent → Bool
has_few_visits excluded f =
    (excluded || nat_le (visits_of (dtype_of f.layout)) 1000000) && nat_le (tree_visits f.layout) 1000000
    && nat_le (some_stats_visits f.statistics) 1000000 && nat_le (footer_visits f) 1000000

abbrev pub is_short : List ℕ → Bool
is_short bytes = nat_lt (length bytes) (2 ^ 32)

-- ---- what is written

-- the tables, one behind the other
pub record Roots : Type 0 where
  pub dtype : Option (List ℕ)
  pub layout : List ℕ
  pub statistics : Option (List ℕ)
  pub footer : List ℕ

abbrev pub some_length : Option (List ℕ) → ℕ
some_length None = 0
some_length (Some bytes) = length bytes

-- a root whose length a locator can hold
abbrev pub short_root : List ℕ → Result (List ℕ) WriteError
short_root bytes = SegmentTooLong unless is_short bytes >>= λ _. Ok bytes

abbrev pub short_if : Bool → List ℕ → Result (Option (List ℕ)) WriteError
short_if true bytes = short_root bytes >>= λ b. Ok (Some b)
short_if false bytes = Ok None

-- the roots, unless one is too long
unfoldable pub roots_checks : Bool → FooterContent → Result Roots WriteError
roots_checks excluded f = do
  dtype ← short_if (not excluded) (dtype_root f)
  layout ← short_root (layout_root f)
  statistics ← short_if (has_sets f.statistics) (stats_root f.statistics)
  footer ← short_root (footer_root f)
  Ok (record { dtype = dtype; layout = layout; statistics = statistics; footer = footer })

-- the tables, unless an id is not permitted, or a table is too deep, too large or too long
unfoldable pub tables_checks : Option (List (List ℕ)) → Bool → FooterContent → Result Roots WriteError
tables_checks permitted excluded f = do
  _ ← NotPermitted unless permits permitted (used_ids f.layout)
  _ ← TooDeep unless is_shallow excluded f
  _ ← TooManyTables unless has_few_visits excluded f
  roots_checks excluded f

-- lengths that a locator can hold
pub record AreShort (r : Roots) : Type 0 where
  pub dtype : some_length r.dtype < 2 ^ 32
  pub layout : length r.layout < 2 ^ 32
  pub statistics : some_length r.statistics < 2 ^ 32
  pub footer : length r.footer < 2 ^ 32

abbrev pub roots_end : ℕ → Roots → ℕ
roots_end at r = at + some_length r.dtype + length r.layout + some_length r.statistics + length r.footer

-- where the tables lie, with the metadata
abbrev pub postscript_at : ℕ → Roots → List PostscriptMetadata → Postscript
postscript_at at r metadata = record {
  dtype = option_map (place at) r.dtype;
  layout = place (at + some_length r.dtype) r.layout;
  statistics = option_map (place (at + some_length r.dtype + length r.layout)) r.statistics;
  footer = place (at + some_length r.dtype + length r.layout + some_length r.statistics) r.footer;
  metadata = metadata;
}

abbrev pub some_part : Option (List ℕ) → List (List ℕ)
some_part None = []
some_part (Some bytes) = bytes ∷ []

abbrev pub version_number : FileVersion → ℕ
version_number V1 = 1
version_number V2 = 2

-- the version, the postscript's length, and the magic
abbrev pub marker : FileVersion → ℕ → List ℕ
marker version size = to_le_bytes w16 (version_number version) ++ to_le_bytes w16 size ++ codes "VTXF"

abbrev pub end_parts : FileVersion → List ℕ → List (List ℕ)
end_parts version postscript = postscript ∷ marker version (length postscript) ∷ []

-- what stands behind the metadata values
abbrev pub tail_parts : FileVersion → Roots → List ℕ → List (List ℕ)
tail_parts version r postscript = some_part r.dtype ++ (r.layout ∷ []) ++ some_part r.statistics ++ (r.footer ∷ []) ++ end_parts version postscript

abbrev pub tail_size : Roots → List ℕ → ℕ
tail_size r postscript = some_length r.dtype + length r.layout + some_length r.statistics + length r.footer + (length postscript + 8)

abbrev pub bytes_of : List Buffer → List (List ℕ)
bytes_of buffers = map (λ b. b.bytes) buffers

-- what is written: the parts, how many bytes stand behind the metadata values, and the footer
pub record Parts : Type 0 where
  pub parts : List (List ℕ)
  pub size : ℕ
  pub content : FooterContent

-- a footer of which the metadata and the tables were checked, with sorted values, from an offset on
abbrev pub parts_from : FooterContent → ℕ → FileVersion → List (List ℕ × Buffer) → Roots → List ℕ → Parts
parts_from f at version values r postscript = record {
  parts = value_parts at values ++ tail_parts version r postscript;
  size = tail_size r postscript;
  content = record f { version = version; metadata = entries_by f.metadata at values };
}

abbrev pub root_from : FooterContent → ℕ → List (List ℕ × Buffer) → Roots → List ℕ
root_from f at values r = postscript_root (postscript_at (values_end at values) r (entries_by f.metadata at values))

unfoldable pub assembling_checks : FooterContent → ℕ → FileVersion → List (List ℕ × Buffer) → Roots → Result Parts WriteError
assembling_checks f at version values r = do
  _ ← SegmentTooLong unless list_all (λ v. is_short v.1.bytes) values
  _ ← OffsetOverflow unless nat_lt (roots_end (values_end at values) r) (2 ^ 64)
  Ok (parts_from f at version values r (root_from f at values r))

unfoldable pub serializing_checks : Serializing → Result Parts WriteError
serializing_checks s = do
  _ ← metadata_checks s.version (keys_by s.content.metadata (sorted_values s))
  r ← tables_checks s.permitted s.excludes_dtype s.content
  assembling_checks s.content s.offset s.version (sorted_values s) r
