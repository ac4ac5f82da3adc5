use Rattle.std.proofs.Common.{◌≡◌, ◌+◌, ◌≤◌, drop}
use Rattle.vx_sched.specs.Counting.{count_of}
use Rattle.vx_sched.specs.Numbered.{held}
use Rattle.vx_sched.specs.Told.{told}
use Rattle.vx_sched.proofs.read_map.count_told.Given as goal

abbrev pub invariant-loop-slot : goal.invariant-loop-slot
invariant-loop-slot l = (l.count + count_of l.kind (told l.waits l.polls (held (drop l.slot-index l.slots))) ≡ count_of l.kind (told l.waits l.polls (held l.slots))) × (l.count ≤ l.slot-index)
