-- How the rows of a leaf are cut into chunks.
use Rattle.std.specs.Prelude.{◌≡◌, ℕ, zero, suc, ◌+◌, ◌/◌, ◌==◌, nat_le, if◌then◌else◌, List, [], ◌∷◌, ◌++◌, unwrap_or}
use Rattle.vx_data.specs.Dtype.{Dtype}
use Rattle.vx_rows.specs.Rows.{Rows, rows_len, dtype_of, HasRows}
use Rattle.vx_rows.specs.Parts.{part, appended, plain_size}
use Rattle.vx_write.specs.declared.strategy.LeafStrategy.{LeafStrategy}
use Rattle.vx_write.specs.declared.strategy.LeafStrategy.TheVariants.{Whole, Blocks}

-- full chunks, the row that the next one begins with, and the sum of the sizes of the whole blocks from that row on
pub record Cut : Type 0 where
  pub chunks : List Rows
  pub start : ℕ
  pub gathered : ℕ

abbrev pub nothing_full : ℕ → ℕ → Cut
nothing_full start gathered = record { chunks = []; start = start; gathered = gathered }

-- a full chunk before others
abbrev pub with_chunk : Rows → Cut → Cut
with_chunk c cut = record { chunks = c ∷ cut.chunks; start = cut.start; gathered = cut.gathered }

-- Blocks of so many rows are gathered until the sum of their sizes is at least the target: a chunk is then full, and gathering begins anew.
-- The chunk begins with the row `start` and has so many bytes, and the next block begins with the row `at`; so many blocks come.
unfoldable pub cut_blocks : ℕ → ℕ → Rows → ℕ → ℕ → ℕ → ℕ → Cut
cut_blocks rows target c start gathered at zero = nothing_full start gathered
cut_blocks rows target c start gathered at (suc blocks) =
    if nat_le target (gathered + plain_size (part at (at + rows) c))
    then with_chunk (part start (at + rows) c) (cut_blocks rows target c (at + rows) 0 (at + rows) blocks)
    else cut_blocks rows target c start (gathered + plain_size (part at (at + rows) c)) (at + rows) blocks

-- the whole blocks of a column
abbrev pub cut : LeafStrategy → Rows → Cut
cut Whole c = nothing_full 0 0
cut (Blocks rows target) c = cut_blocks rows (unwrap_or target 0) c 0 0 0 (rows_len c / rows)

-- the chunks of a leaf that are full
abbrev pub full_chunks : LeafStrategy → Rows → List Rows
full_chunks s c = (cut s c).chunks

-- the rows that fill no chunk
abbrev pub rest : LeafStrategy → Rows → Rows
rest s c = part (cut s c).start (rows_len c) c

-- the last chunk, of the rows that filled none: of blocks there is one only where there are rows
abbrev pub last_chunk : LeafStrategy → Rows → List Rows
last_chunk Whole c = c ∷ []
last_chunk (Blocks rows target) c = if rows_len c == 0 then [] else c ∷ []

-- rows behind chunks
abbrev pub joined : List Rows → Rows → Rows
joined [] behind = behind
joined (c ∷ cs) behind = appended c (joined cs behind)

-- chunks before those of a cut
abbrev pub with_chunks : List Rows → Cut → Cut
with_chunks [] x = x
with_chunks (c ∷ cs) x = with_chunk c (with_chunks cs x)

-- ---- the rows of pushes

abbrev pub all_pushed : Rows → List Rows → Rows
all_pushed c [] = c
all_pushed c (d ∷ ds) = all_pushed (appended c d) ds

-- the chunks that pushes fill, one after the other, where rows are kept before them
abbrev pub chunks_over : LeafStrategy → Rows → List Rows → List Rows
chunks_over s kept [] = []
chunks_over s kept (d ∷ ds) = full_chunks s (appended kept d) ++ chunks_over s (rest s (appended kept d)) ds

-- the rows that they leave
abbrev pub rest_over : LeafStrategy → Rows → List Rows → Rows
rest_over s kept [] = kept
rest_over s kept (d ∷ ds) = rest_over s (rest s (appended kept d)) ds

-- pushes of one type
pub record IsPush (d : Dtype) (c : Rows) : Type 0 where
  pub typed : d ≡ dtype_of c
  pub even : HasRows (rows_len c) c
