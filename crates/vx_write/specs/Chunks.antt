-- Chunks of leaves, as plain data.
use Rattle.std.specs.Prelude.{ℕ, List, [], ◌∷◌, ◌++◌, map, Option, None, Some}
use Rattle.std.specs.List.{All, flat_map}
use Rattle.vx_rows.specs.Rows.{Rows, column_view, IsColumn}
use Rattle.vx_rows.specs.declared.column.Column.{Column}
use Rattle.vx_write.specs.declared.chunks.Chunks.{Chunks}
use Rattle.vx_write.specs.declared.held_leaves.LeafChunks.{LeafChunks}
use Rattle.vx_write.specs.Leaves.{ChunkRows, chunks_at}

-- the columns in a list
abbrev pub columns_seen : List Column → List Rows
columns_seen columns = map column_view columns

-- columns of so many rows
abbrev pub AllHaveLength : ℕ → List Rows → Type 0
AllHaveLength n columns = All (IsColumn n) columns

-- the last chunk, if there is one
abbrev pub last_seen : Option Column → List Rows
last_seen None = []
last_seen (Some c) = column_view c ∷ []

-- parts of a column, if there are any
abbrev pub parts_seen : Option (List Rows) → List Rows
parts_seen None = []
parts_seen (Some parts) = parts

-- full chunks of a leaf: one that is made, and parts of a column
abbrev pub chunks_seen : Chunks → List Rows
chunks_seen c = last_seen c.first ++ parts_seen c.others

abbrev pub leaf_view : LeafChunks → List ChunkRows
leaf_view c = chunks_at c.leaf (chunks_seen c.chunks)

-- those of leaves, leaf after leaf
abbrev pub chunks_view : List LeafChunks → List ChunkRows
chunks_view chunks = flat_map leaf_view chunks
