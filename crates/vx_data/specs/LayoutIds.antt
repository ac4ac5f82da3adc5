-- The layout ids of a tree, in order of first use: a node comes before its children.
use Rattle.std.specs.Prelude.{ℕ, if◌then◌else◌, List, [], ◌∷◌, ◌++◌}
use Rattle.vx_data.specs.Layout.{LayoutTree, node, Layouts, no_layouts, a_layout}
use Rattle.vx_data.specs.LayoutWritten.{kind_id, has_id}

abbrev pub with_id : List (List ℕ) → List ℕ → List (List ℕ)
with_id ids id = if has_id ids id then ids else ids ++ id ∷ []

-- the ids of a tree behind others
abbrev mutual
  pub ids_behind : List (List ℕ) → LayoutTree → List (List ℕ)
  ids_behind ids (node k d n s ts) = all_behind (with_id ids (kind_id k)) ts

  pub all_behind : List (List ℕ) → Layouts → List (List ℕ)
  all_behind ids no_layouts = ids
  all_behind ids (a_layout t ts) = all_behind (ids_behind ids t) ts

abbrev pub used_ids : LayoutTree → List (List ℕ)
used_ids t = ids_behind [] t
