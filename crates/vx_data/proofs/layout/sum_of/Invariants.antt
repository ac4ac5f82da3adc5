use Rattle.std.proofs.Common.{◌≡◌, ◌+◌, drop}
use Rattle.vx_data.specs.Layout.{rows_sum}
use Rattle.vx_data.proofs.layout.sum_of.Given as goal

-- the rows so far and those still to come
abbrev pub invariant-loop-child : goal.invariant-loop-child
invariant-loop-child l = l.rows + rows_sum (drop l.child-index l.children) ≡ rows_sum l.children
