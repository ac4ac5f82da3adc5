-- Each layout is smaller than the tree that it is in.
use Rattle.std.specs.Prelude.{suc, ◌+◌, ◌≤◌, max, List, [], ◌∷◌}
use Rattle.std.specs.Arc.{arc_value}
use Rattle.std.proofs.Common.{arith}
use denote.Param.Weighed.{most}
use Rattle.vx_data.specs.declared.layout.Parts.{Parts}
use Rattle.vx_data.specs.declared.layout.Parts.TheVariants.{Flat, Chunked, Struct}
use Rattle.vx_data.specs.declared.layout.Layout.TheDeep.{deep-Parts}
use Rattle.vx_data.specs.Layout.{LayoutTree, layouts_of, tree_size, trees_size}
use Rattle.vx_data.specs.LayoutParts.{below_in}

most_le-sizes : (ts : List LayoutTree) → most (λ t. tree_size t + 1) ts ≤ trees_size (layouts_of ts) + 1
most_le-sizes [] = omega arith
most_le-sizes (t ∷ ts) = omega (arith, most_le-sizes ts)

pub depth_le-sizes : (parts : Parts) → max (deep-Parts parts) 0 ≤ suc (trees_size (layouts_of (below_in parts)))
depth_le-sizes (Flat segment) = omega arith
depth_le-sizes (Chunked layouts) = omega (arith, most_le-sizes (arc_value layouts).items)
depth_le-sizes (Struct layouts) = omega (arith, most_le-sizes (arc_value layouts).items)
