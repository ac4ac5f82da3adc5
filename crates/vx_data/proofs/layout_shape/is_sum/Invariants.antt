use Rattle.std.proofs.Common.{◌≡◌, ◌+◌, drop}
use Rattle.vx_data.specs.Layout.{rows_sum}
use Rattle.vx_data.proofs.layout_shape.is_sum.Given as goal

-- what was taken away are the rows so far
abbrev pub invariant-loop-child : goal.invariant-loop-child
invariant-loop-child l = l.row_count + rows_sum (drop l.child-index l.children) ≡ l.left + rows_sum l.children
