-- What a layout is made of, as it is kept.
use Rattle.std.specs.Prelude.{ℕ, List, [], ◌∷◌}
use Rattle.std.specs.Arc.{arc_value}
use Rattle.vx_data.specs.declared.layout.Parts.{Parts}
use Rattle.vx_data.specs.declared.layout.Parts.TheVariants as made
use Rattle.vx_data.specs.declared.layout_kind.LayoutKind.{LayoutKind}
use Rattle.vx_data.specs.declared.layout_kind.LayoutKind.TheVariants.{Flat, Chunked, Struct}
use Rattle.vx_data.specs.Layout.{LayoutTree}

abbrev pub kind_in : Parts → LayoutKind
kind_in (made.Flat segment) = Flat
kind_in (made.Chunked layouts) = Chunked
kind_in (made.Struct layouts) = Struct

abbrev pub segments_in : Parts → List ℕ
segments_in (made.Flat segment) = segment.0 ∷ []
segments_in (made.Chunked layouts) = []
segments_in (made.Struct layouts) = []

abbrev pub below_in : Parts → List LayoutTree
below_in (made.Flat segment) = []
below_in (made.Chunked layouts) = (arc_value layouts).items
below_in (made.Struct layouts) = (arc_value layouts).items
