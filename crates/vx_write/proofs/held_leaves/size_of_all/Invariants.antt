use Rattle.std.proofs.Common.{◌≡◌, ◌+◌, ◌-◌, ◌^◌, ◌<◌, min, drop}
use Rattle.vx_write.specs.Leaves.{nows, held_size}
use Rattle.vx_write.proofs.held_leaves.size_of_all.Given as goal

-- the sizes so far and those still to come
abbrev pub invariant-loop-at : goal.invariant-loop-at
invariant-loop-at l = (min (l.size + held_size (nows (drop l.at l.leaves))) (2 ^ 64 - 1) ≡ min (held_size (nows l.leaves)) (2 ^ 64 - 1)) × (l.size < 2 ^ 64)
