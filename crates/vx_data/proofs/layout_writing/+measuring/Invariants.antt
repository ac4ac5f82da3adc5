use Rattle.std.proofs.Common.{◌≡◌, ◌*◌, ◌+◌, drop}
use Rattle.std.specs.Prelude.{nat_le}
use Rattle.vx_data.specs.Layout.{layouts_of}
use Rattle.vx_data.specs.LayoutWritten.{most_tree_levels}
use Rattle.vx_data.proofs.layout_writing.+measuring.Given as goal

abbrev pub decreases-is_shallow : goal.decreases-is_shallow
decreases-is_shallow l = 2 * l.levels

abbrev pub decreases-are_shallow : goal.decreases-are_shallow
decreases-are_shallow l = 2 * l.levels + 1

-- all are shallow where those still to come are
abbrev pub invariant-are_shallow-loop-at : goal.invariant-are_shallow-loop-at
invariant-are_shallow-loop-at l = nat_le (most_tree_levels (layouts_of (drop l.at l.layouts))) l.levels ≡ nat_le (most_tree_levels (layouts_of l.layouts)) l.levels
