use Rattle.vx_sched.proofs.NearLemmas.{Passed, IsNoted}
use Rattle.vx_sched.proofs.places.places_in.Given as goal

abbrev pub invariant-loop-at : goal.invariant-loop-at
invariant-loop-at l = Passed (IsNoted l.near.items) l.sorted l.left l.at
