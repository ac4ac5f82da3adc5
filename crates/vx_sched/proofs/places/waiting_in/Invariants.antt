use Rattle.std.specs.List.{All}
use Rattle.vx_sched.specs.Places.{IsWaitingRead}
use Rattle.vx_sched.proofs.NearLemmas.{Passed, IsFound}
use Rattle.vx_sched.proofs.places.waiting_in.Given as goal

-- the waiting reads so far were found, and no others
abbrev pub invariant-loop-at : goal.invariant-loop-at
invariant-loop-at l = record {
  passed : Passed (IsFound l.reads l.found.items) l.sorted l.left l.at;
  wait : All (IsWaitingRead l.reads) l.found.items;
}
