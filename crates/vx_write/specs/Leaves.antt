-- The leaves of a file: their full chunks, and the rows that are held back.
use Rattle.std.specs.Prelude.{◌≡◌, ℕ, ◌+◌, List, [], ◌∷◌, ◌++◌, map, sum_by, slice_get, Some}
use Rattle.std.specs.List.{All}
use Rattle.vx_data.specs.Dtype.{Dtype}
use Rattle.vx_rows.specs.Rows.{Rows, rows_len, dtype_of, IsColumn}
use Rattle.vx_rows.specs.Parts.{appended, plain_size}
use Rattle.vx_write.specs.declared.strategy.LeafStrategy.{LeafStrategy}
use Rattle.vx_write.specs.Cutting.{full_chunks, rest, last_chunk}

-- a leaf, and its rows that filled no chunk
pub record Leaf : Type 0 where
  pub strategy : LeafStrategy
  pub kept : Rows

-- a chunk of a leaf, which is named by its place
pub record ChunkRows : Type 0 where
  pub leaf : ℕ
  pub rows : Rows

abbrev pub leaf_type : Leaf → Dtype
leaf_type leaf = dtype_of leaf.kept

abbrev pub leaf_types : List Leaf → List Dtype
leaf_types leaves = map leaf_type leaves

abbrev pub column_types : List Rows → List Dtype
column_types columns = map dtype_of columns

abbrev pub AreSound : List Rows → Type 0
AreSound columns = All (λ (c : Rows). IsColumn (rows_len c) c) columns

-- ---- a push of a column for each leaf

-- the chunks of the leaf at a place
abbrev pub chunk_at : ℕ → Rows → ChunkRows
chunk_at place c = record { leaf = place; rows = c }

abbrev pub chunks_at : ℕ → List Rows → List ChunkRows
chunks_at place chunks = map (chunk_at place) chunks

-- the chunks that are full then, leaf after leaf, of which the first is at a place
abbrev pub filled_from : ℕ → List Leaf → List Rows → List ChunkRows
filled_from place [] columns = []
filled_from place (leaf ∷ leaves) [] = []
filled_from place (leaf ∷ leaves) (c ∷ cs) = chunks_at place (full_chunks leaf.strategy (appended leaf.kept c)) ++ filled_from (place + 1) leaves cs

abbrev pub filled : List Leaf → List Rows → List ChunkRows
filled leaves columns = filled_from 0 leaves columns

-- the leaves behind it, which keep the rows that fill no chunk
abbrev pub grown_leaf : Leaf → Rows → Leaf
grown_leaf leaf c = record { strategy = leaf.strategy; kept = rest leaf.strategy (appended leaf.kept c) }

abbrev pub grown : List Leaf → List Rows → List Leaf
grown [] columns = []
grown (leaf ∷ leaves) [] = []
grown (leaf ∷ leaves) (c ∷ cs) = grown_leaf leaf c ∷ grown leaves cs

-- ---- the end

-- the last chunks, leaf after leaf, of which the first is at a place
abbrev pub rests_from : ℕ → List Leaf → List ChunkRows
rests_from place [] = []
rests_from place (leaf ∷ leaves) = chunks_at place (last_chunk leaf.strategy leaf.kept) ++ rests_from (place + 1) leaves

abbrev pub rests : List Leaf → List ChunkRows
rests leaves = rests_from 0 leaves

-- the size of the rows that are held back
abbrev pub held_size : List Leaf → ℕ
held_size leaves = sum_by (λ leaf. plain_size leaf.kept) leaves

-- ---- leaves as they are, and as they are to be once a push is done

pub record LeafState : Type 0 where
  pub now : Leaf
  pub next : Leaf

pub record LeafStates : Type 0 where
  pub now : List Leaf
  pub next : List Leaf

abbrev pub nows : List LeafState → List Leaf
nows leaves = map (λ l. l.now) leaves

abbrev pub nexts : List LeafState → List Leaf
nexts leaves = map (λ l. l.next) leaves

abbrev pub states_of : List LeafState → LeafStates
states_of leaves = record { now = nows leaves; next = nexts leaves }

-- a chunk is a column of its leaf's type
pub record IsChunk (types : List Dtype) (chunk : ChunkRows) : Type 0 where
  pub sound : IsColumn (rows_len chunk.rows) chunk.rows
  pub typed : slice_get types chunk.leaf ≡ Some (dtype_of chunk.rows)

abbrev pub AreChunks : List Dtype → List ChunkRows → Type 0
AreChunks types chunks = All (IsChunk types) chunks

-- columns of a type
pub record IsOfType (d : Dtype) (c : Rows) : Type 0 where
  pub sound : IsColumn (rows_len c) c
  pub typed : dtype_of c ≡ d

abbrev pub AllOfType : Dtype → List Rows → Type 0
AllOfType d columns = All (IsOfType d) columns
