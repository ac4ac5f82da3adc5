use Rattle.std.proofs.Common.{◌≡◌, ◌++◌, ◌+◌, ◌≤◌, ◌<◌, ◌^◌, [], map, drop, take, length}
use Rattle.std.specs.Prelude.{replicate}
use Rattle.vx_write.proofs.laying.no_groups.Given as goal

abbrev pub invariant-loop-at : goal.invariant-loop-at
invariant-loop-at l = l.groups.items ≡ replicate l._at []
