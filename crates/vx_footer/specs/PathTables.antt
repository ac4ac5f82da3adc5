-- The paths of a tree's layouts, by number.
use Rattle.std.specs.Prelude.{◌≡◌, ℕ, ◌-◌, ◌<◌, List, length, map, take, slice_index_or}
use Rattle.vx_data.specs.Paths.{Path}
use Rattle.vx_footer.specs.Gathering.{path_at}
use Rattle.vx_footer.specs.declared.path_table.Place.{Place}

abbrev pub paths_in : List Place → List Path
paths_in ps = map (λ p. p.path) ps

abbrev pub parent_at : List Place → ℕ → ℕ
parent_at ps n = slice_index_or (map (λ p. p.parent) ps) n 0

-- the path with one name less has the number that stands beside a path
pub record HasParents (ps : List Place) : Type 0 where
  pub inside : (n : ℕ) → n < length ps → parent_at ps n < length ps
  pub paths : (n : ℕ) → n < length ps → path_at (paths_in ps) (parent_at ps n) ≡ take (length (path_at (paths_in ps) n) - 1) (path_at (paths_in ps) n)
