use Rattle.std.proofs.Common.{◌≡◌}
use Rattle.vx_sched.proofs.gather.values_with_room.Given as goal

abbrev pub invariant-loop-read : goal.invariant-loop-read
invariant-loop-read l = l.reads.items ≡ l.yielded
