-- The table of a layout as it is written, with the levels and visits that a reader makes of it.
use Rattle.std.specs.Prelude.{ℕ, ◌+◌, ◌/◌, max, Bool, true, false, ◌&&◌, ◌||◌, if◌then◌else◌, List, [], ◌∷◌, ◌++◌, length, codes, Result}
use Rattle.std.specs.Int.{w16, w64}
use Rattle.std.specs.Str.{bytes_eq}
use Rattle.vx_tables.specs.Block.{Piece, number, numbers, tables}
use Rattle.vx_data.specs.declared.layout_kind.LayoutKind.{LayoutKind}
use Rattle.vx_data.specs.declared.layout_kind.LayoutKind.TheVariants.{Flat, Chunked, Struct}
use Rattle.vx_data.specs.declared.table_write_error.TableWriteError.{TableWriteError}
use Rattle.vx_data.specs.Layout.{LayoutTree, node, Layouts, no_layouts, a_layout}
use Rattle.vx_data.specs.Written.{written}

-- ---- ids

abbrev pub kind_id : LayoutKind → List ℕ
kind_id Flat = codes "vortex.flat"
kind_id Chunked = codes "vortex.chunked"
kind_id Struct = codes "vortex.struct"

-- the first place of an id
abbrev pub place_in : List (List ℕ) → List ℕ → ℕ
place_in [] id = 0
place_in (x ∷ xs) id = if bytes_eq x id then 0 else 1 + place_in xs id

abbrev pub has_id : List (List ℕ) → List ℕ → Bool
has_id [] id = false
has_id (x ∷ xs) id = bytes_eq x id || has_id xs id

-- the ids of a tree are among these
abbrev mutual
  pub uses_ids : List (List ℕ) → LayoutTree → Bool
  uses_ids ids (node k d n s ts) = has_id ids (kind_id k) && all_use ids ts

  pub all_use : List (List ℕ) → Layouts → Bool
  all_use ids no_layouts = true
  all_use ids (a_layout t ts) = uses_ids ids t && all_use ids ts

-- ---- pieces

-- vectors are written where they are not empty
abbrev pub children_pieces : List (List Piece) → List Piece
children_pieces [] = []
children_pieces (w ∷ ws) = tables 3 (w ∷ ws) ∷ []

abbrev pub segments_pieces : List ℕ → List Piece
segments_pieces [] = []
segments_pieces (s ∷ ss) = numbers 4 (s ∷ ss) ∷ []

abbrev pub node_pieces : ℕ → ℕ → List (List Piece) → List ℕ → List Piece
node_pieces encoding rows children segments = ((number w16 0 encoding ∷ number w64 1 rows ∷ []) ++ children_pieces children) ++ segments_pieces segments

abbrev mutual
  pub tree_pieces : List (List ℕ) → LayoutTree → List Piece
  tree_pieces ids (node k d n s ts) = node_pieces (place_in ids (kind_id k)) n (trees_pieces ids ts) s

  pub trees_pieces : List (List ℕ) → Layouts → List (List Piece)
  trees_pieces ids no_layouts = []
  trees_pieces ids (a_layout t ts) = tree_pieces ids t ∷ trees_pieces ids ts

-- ---- levels and visits

abbrev mutual
  pub tree_levels : LayoutTree → ℕ
  tree_levels (node k d n s ts) = most_tree_levels ts + 1

  pub most_tree_levels : Layouts → ℕ
  most_tree_levels no_layouts = 0
  most_tree_levels (a_layout t ts) = max (tree_levels t) (most_tree_levels ts)

abbrev pub vector_visit : Layouts → ℕ
vector_visit no_layouts = 0
vector_visit (a_layout t ts) = 1

-- 16 numbers have 64 bytes
abbrev pub segments_visits : List ℕ → ℕ
segments_visits [] = 0
segments_visits (s ∷ ss) = 1 + length (s ∷ ss) / 16

abbrev mutual
  pub tree_visits : LayoutTree → ℕ
  tree_visits (node k d n s ts) = 1 + (vector_visit ts + segments_visits s) + trees_visits ts

  pub trees_visits : Layouts → ℕ
  trees_visits no_layouts = 0
  trees_visits (a_layout t ts) = tree_visits t + trees_visits ts

unfoldable pub layout_written : List (List ℕ) → LayoutTree → Result (List ℕ) TableWriteError
layout_written ids t = written (tree_levels t) (tree_visits t) (tree_pieces ids t)
