use Rattle.vx_sched.proofs.PlaceLemmas.{Found}
use Rattle.vx_sched.proofs.places.numbers_in.Given as goal

abbrev pub invariant-loop-at : goal.invariant-loop-at
invariant-loop-at l = Found l.places l.left l.ids.items l.at
