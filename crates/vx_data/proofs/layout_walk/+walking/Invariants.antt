use Rattle.std.proofs.Common.{◌*◌, ◌+◌}
use Rattle.std.specs.Option.{option_map}
use Rattle.vx_data.specs.LayoutFound.{owned_dtype}
use Rattle.vx_data.proofs.Fitting.{SoFar}
use Rattle.vx_data.proofs.layout_walk.+walking.Given as goal

abbrev pub decreases-read_in : goal.decreases-read_in
decreases-read_in l = 4 * l.table.now.levels + 2

abbrev pub decreases-read_children : goal.decreases-read_children
decreases-read_children l = 4 * l.table.now.levels + 1

abbrev pub decreases-read_elements : goal.decreases-read_elements
decreases-read_elements l = 4 * l.vector.now.levels

-- the rows so far and those still to come are those of the vector, and the layouts are of those so far
abbrev pub invariant-read_elements-loop-at : goal.invariant-read_elements-loop-at
invariant-read_elements-loop-at l =
    SoFar l.kinds l.kind (owned_dtype l.dtype) l.vector.bytes l.vector.vector l.vector.levels l.fn.visits l.visits l.at l.fn.known l.known (option_map (λ v. v.items) l.layouts)
