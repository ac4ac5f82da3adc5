-- The file that a writer makes of its options, the type of the rows, and the chunks that were pushed, newest first.
use Rattle.std.specs.Prelude.{◌≡◌, ℕ, ◌+◌, ◌<◌, ◌≤◌, ◌^◌, Bool, true, false, ◌&&◌, ◌||◌, nat_lt, nat_le, List, [], ◌∷◌, ◌++◌, length, codes, Option, Some, None, Result, Ok, Err}
use Rattle.std.specs.List.{flat_map}
use Rattle.vx_base.specs.Checks.{◌>>=◌, ◌unless◌}
use Rattle.vx_data.specs.Dtype.{Dtype, FieldList, bool, int, text, struct, no_fields, field}
use Rattle.vx_data.specs.DtypeWritten.{levels_of}
use Rattle.vx_data.specs.LayoutWritten.{has_id}
use Rattle.vx_footer.specs.declared.version.FileVersion.TheVariants.{V1}
use Rattle.vx_footer.specs.declared.write_error.WriteError.{WriteError}
use Rattle.vx_footer.specs.declared.write_error.WriteError.TheVariants.{NotPermitted, TooDeep, OffsetOverflow}
use Rattle.vx_footer.specs.Footers.{FooterContent}
use Rattle.vx_footer.specs.Serializing.{Serializing, Parts, serializing_checks}
use Rattle.vx_rows.specs.Parts.{appended}
use Rattle.vx_rows.specs.ReadRows.{no_rows}
use Rattle.vx_rows.specs.Rows.{Rows, rows_len, dtype_of, IsColumn}
use Rattle.vx_write.specs.declared.strategy.LeafStrategy.{LeafStrategy}
use Rattle.vx_write.specs.Gathered.{file_stats}
use Rattle.vx_write.specs.Laying.{grouped, laid_out, leaf_count, least_levels}
use Rattle.vx_write.specs.Leaves.{Leaf, ChunkRows, filled, grown, rests}
use Rattle.vx_write.specs.Options.{Options, values_checks, keys_of, array_ids, layout_ids}
use Rattle.vx_write.specs.Placed.{Place, first_place, lead, pieces, with_chunks, specs_in}
use Rattle.vx_write.specs.Plans.{PlanTree, PlanList, a_leaf, a_struct, no_plans, a_plan, planned, leaves_of, columns_of}
use Rattle.vx_write.specs.Sending.{Coding, encoded_chunks, chunks_checks}

-- ---- what is refused before any chunk

-- the id of the array of a column of a type
abbrev pub array_id : Dtype → List ℕ
array_id (bool nullable) = codes "vortex.bool"
array_id (int ptype nullable) = codes "vortex.primitive"
array_id (text nullable) = codes "vortex.varbin"
array_id (struct fs nullable) = codes "vortex.struct"

abbrev mutual
  -- the arrays of a column of a type are among these ids
  pub may_encode : List (List ℕ) → Dtype → Bool
  may_encode ids (bool nullable) = has_id ids (array_id (bool nullable))
  may_encode ids (int ptype nullable) = has_id ids (array_id (int ptype nullable))
  may_encode ids (text nullable) = has_id ids (array_id (text nullable))
  may_encode ids (struct fs nullable) = has_id ids (array_id (struct fs nullable)) && may_encode_all ids fs

  pub may_encode_all : List (List ℕ) → FieldList → Bool
  may_encode_all ids no_fields = true
  may_encode_all ids (field name d fs) = may_encode ids d && may_encode_all ids fs

abbrev pub may_write_validity : List (List ℕ) → Option LeafStrategy → Bool
may_write_validity ids None = true
may_write_validity ids (Some s) = has_id ids (array_id (bool false))

abbrev mutual
  -- and so are those of all leaves of a plan
  pub may_write : List (List ℕ) → PlanTree → Dtype → Bool
  may_write ids (a_leaf s) d = may_encode ids d
  may_write ids (a_struct validity ps) (struct fs nullable) = may_write_validity ids validity && may_write_all ids ps fs
  may_write ids (a_struct validity ps) (bool nullable) = true
  may_write ids (a_struct validity ps) (int ptype nullable) = true
  may_write ids (a_struct validity ps) (text nullable) = true

  pub may_write_all : List (List ℕ) → PlanList → FieldList → Bool
  may_write_all ids no_plans fs = true
  may_write_all ids (a_plan p ps) no_fields = true
  may_write_all ids (a_plan p ps) (field name d fs) = may_write ids p d && may_write_all ids ps fs

abbrev pub plan_for : Options → Dtype → PlanTree
plan_for o d = planned o.strategy d

-- the type, where it is written, and the least layout that comes have few levels
abbrev pub is_shallow : Options → Dtype → Bool
is_shallow o d = (o.excludes_dtype || nat_le (levels_of d) 64) && nat_le (least_levels (plan_for o d)) 64

unfoldable pub begin_checks : Options → Dtype → Result (Unit {0}) WriteError
begin_checks o d = do
  _ ← values_checks o.version (keys_of o.metadata)
  _ ← NotPermitted unless may_write (array_ids o) (plan_for o d) d
  TooDeep unless is_shallow o d

-- ---- chunks

abbrev pub coding_of : Options → Coding
coding_of o = record { ids = array_ids o; alignment = o.strategy.alignment }

-- a chunk that may be pushed
pub record IsChunk (d : Dtype) (c : Rows) : Type 0 where
  pub typed : dtype_of c ≡ d
  pub even : IsColumn (rows_len c) c

-- the leaves, with the rows that are held back
abbrev pub leaves_after : Options → Dtype → List Rows → List Leaf
leaves_after o d [] = leaves_of (plan_for o d) d
leaves_after o d (push ∷ past) = grown (leaves_after o d past) (columns_of (plan_for o d) push)

-- the chunks of leaves that a push fills
abbrev pub filled_by : Options → Dtype → List Rows → Rows → List ChunkRows
filled_by o d past push = filled (leaves_after o d past) (columns_of (plan_for o d) push)

abbrev pub place_after : Options → Dtype → List Rows → Place
place_after o d [] = first_place
place_after o d (push ∷ past) = with_chunks (place_after o d past) (encoded_chunks (coding_of o) (filled_by o d past push))

-- the bytes that went out: the magic and the chunks
abbrev pub sent : Options → Dtype → List Rows → List ℕ
sent o d [] = []
sent o d (push ∷ past) = sent o d past ++ pieces (place_after o d past) (encoded_chunks (coding_of o) (filled_by o d past push))

-- all rows
abbrev pub rows_after : Dtype → List Rows → Rows
rows_after d [] = no_rows d
rows_after d (push ∷ past) = appended (rows_after d past) push

abbrev pub count_after : List Rows → ℕ
count_after [] = 0
count_after (push ∷ past) = count_after past + rows_len push

abbrev pub push_checks : Options → Dtype → List Rows → Rows → Result (Unit {0}) WriteError
push_checks o d past push = chunks_checks (coding_of o) (place_after o d past) (filled_by o d past push)

-- ---- the end of the file

-- the chunks of the rows that are held back
abbrev pub last_chunks : Options → Dtype → List Rows → List ChunkRows
last_chunks o d past = rests (leaves_after o d past)

abbrev pub place_behind : Options → Dtype → List Rows → Place
place_behind o d past = with_chunks (place_after o d past) (encoded_chunks (coding_of o) (last_chunks o d past))

-- the bytes of all chunks, behind the magic
abbrev pub chunks_sent : Options → Dtype → List Rows → List ℕ
chunks_sent o d past = sent o d past ++ pieces (place_after o d past) (encoded_chunks (coding_of o) (last_chunks o d past))

-- the footer, of all rows: where their chunks lie, and their statistics
abbrev pub content_at : Options → Dtype → Place → Rows → ℕ → FooterContent
content_at o d p c n = record {
  version = V1;
  layout = laid_out (plan_for o d) d n (grouped (leaf_count (plan_for o d)) p.laid);
  segments = specs_in p;
  statistics = file_stats o.statistics d c;
  metadata = [];
  array_ids = array_ids o;
}

abbrev pub serializing : Options → Place → FooterContent → Serializing
serializing o p content = record {
  content = content;
  permitted = layout_ids o;
  offset = p.offset;
  excludes_dtype = o.excludes_dtype;
  values = o.metadata;
  version = o.version;
}

-- the parts behind the chunks, one behind the other
abbrev pub tail_bytes : Parts → List ℕ
tail_bytes parts = flat_map (λ part. part) parts.parts

-- what follows the chunks, unless it would end past the last offset
unfoldable pub tail_checks : Options → Place → FooterContent → Result Parts WriteError
tail_checks o p content = do
  parts ← serializing_checks (serializing o p content)
  _ ← OffsetOverflow unless nat_lt (p.offset + length (tail_bytes parts)) (2 ^ 64)
  Ok parts

abbrev pub content_of : Options → Dtype → List Rows → FooterContent
content_of o d past = content_at o d (place_behind o d past) (rows_after d past) (count_after past)

-- what follows the chunks, unless a chunk or it is refused
abbrev pub end_checks : Options → Dtype → List Rows → Result Parts WriteError
end_checks o d past =
    chunks_checks (coding_of o) (place_after o d past) (last_chunks o d past) >>= λ _.
    tail_checks o (place_behind o d past) (content_of o d past)

-- a file: the chunks behind the magic, and what follows them; where that is refused, the chunks alone
abbrev pub whole : Options → Dtype → List Rows → Result Parts WriteError → List ℕ
whole o d past (Ok parts) = chunks_sent o d past ++ (lead (place_behind o d past).taken ++ tail_bytes parts)
whole o d past (Err e) = chunks_sent o d past

abbrev pub written : Options → Dtype → List Rows → List ℕ
written o d past = whole o d past (end_checks o d past)
