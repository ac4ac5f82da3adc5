use Rattle.std.proofs.Common.{◌≤◌, take}
use Rattle.vx_sched.specs.Places.{AreUpTo}
use Rattle.vx_sched.proofs.places.newest_of.Given as goal

-- the greatest so far is not below the first, nor below the numbers in front
abbrev pub invariant-loop-read : goal.invariant-loop-read
invariant-loop-read l = record {
  least : l.fn.newest ≤ l.greatest;
  front : AreUpTo l.greatest (take l.read-index l.reads);
}
