use Rattle.std.proofs.Common.{◌≡◌, ◌++◌, ◌+◌, ◌≤◌, ◌<◌, ◌^◌, [], map, drop, take, length}
use Rattle.std.specs.Prelude.{replicate}
use Rattle.vx_write.specs.Laying.{put_from}
use Rattle.vx_write.proofs.laying.group.Given as goal

-- with the chunks still to come it is all of them
abbrev pub invariant-loop-number : goal.invariant-loop-number
invariant-loop-number l = put_from l.number (drop l.number l.laid) l.groups.items ≡ put_from 0 l.laid (replicate l.leaves [])
