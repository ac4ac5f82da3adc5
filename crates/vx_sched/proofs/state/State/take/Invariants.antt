use Rattle.std.proofs.Common.{◌≡◌, drop}
use Rattle.vx_sched.specs.Scheduling.{all_taken, MergesInTurn}
use Rattle.vx_sched.proofs.state.State.take.Given as goal

abbrev pub invariant-loop-span : goal.invariant-loop-span
invariant-loop-span l = (all_taken l.self (drop l.span-index l.batch) ≡ all_taken l.initial.self l.batch) × MergesInTurn l.self (drop l.span-index l.batch)
