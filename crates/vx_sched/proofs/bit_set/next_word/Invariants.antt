use Rattle.vx_sched.proofs.NumberedLemmas.{Skipped}
use Rattle.vx_sched.proofs.bit_set.next_word.Given as goal

abbrev pub invariant-loop-at : goal.invariant-loop-at
invariant-loop-at l = Skipped l.slots l.from l.at
