-- Where the rows of a file are split.
use Rattle.std.specs.Prelude.{◌≡◌, ℕ, ◌+◌, List, [], ◌∷◌, ◌++◌}
use Rattle.std.specs.List.{Contains}
use Rattle.std.specs.List.Sorted.{IsStrictlyIncreasing}
use Rattle.vx_data.specs.declared.layout_kind.LayoutKind.TheVariants.{Flat, Chunked, Struct}
use Rattle.vx_data.specs.Layout.{LayoutTree, Layouts, node, no_layouts, a_layout, rows_of}

abbrev mutual
  -- where the flat layouts of a layout end, whose first row this is
  pub ends_of : ℕ → LayoutTree → List ℕ
  ends_of first (node Flat d n segments ts) = (first + n) ∷ []
  ends_of first (node Chunked d n segments ts) = chunk_ends first ts
  ends_of first (node Struct d n segments ts) = field_ends first ts

  -- chunks are behind one another
  pub chunk_ends : ℕ → Layouts → List ℕ
  chunk_ends first no_layouts = []
  chunk_ends first (a_layout t ts) = ends_of first t ++ chunk_ends (first + rows_of t) ts

  -- fields are beside one another
  pub field_ends : ℕ → Layouts → List ℕ
  field_ends first no_layouts = []
  field_ends first (a_layout t ts) = ends_of first t ++ field_ends first ts

-- each number and the next
abbrev pub neighbours : List ℕ → List (ℕ × ℕ)
neighbours [] = []
neighbours (x ∷ []) = []
neighbours (x ∷ y ∷ ys) = (x, y) ∷ neighbours (y ∷ ys)

-- the numbers of a list, each once and in order
pub record AreDistinct (numbers all : List ℕ) : Type 0 where
  pub rising : IsStrictlyIncreasing numbers
  pub each : (x : ℕ) → Contains all x → Contains numbers x
  pub only : (x : ℕ) → Contains numbers x → Contains all x

-- ranges between neighbours of the first row and the ends of the flat layouts, each once and in order
pub record AreSplits (t : LayoutTree) (ranges : List (ℕ × ℕ)) : Type 0 where
  pub points : List ℕ
  pub distinct : AreDistinct points (0 ∷ ends_of 0 t)
  pub between : ranges ≡ neighbours points
