use Rattle.std.proofs.Common.{◌≡◌, ◌++◌, drop}
use Rattle.std.specs.Map.{keys_of}
use Rattle.vx_sched.specs.Numbered.{held}
use Rattle.vx_sched.proofs.numbered.Numbered.numbers.Given as goal

abbrev pub invariant-loop-slot : goal.invariant-loop-slot
invariant-loop-slot g l = l.numbers.items ++ keys_of (held (drop l.slot-index l.slots)) ≡ keys_of (held l.slots)
