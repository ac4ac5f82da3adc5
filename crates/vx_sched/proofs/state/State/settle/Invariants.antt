use Rattle.std.proofs.Common.{◌≡◌, drop}
use Rattle.vx_sched.specs.Scheduling.{settled, MergesInTurn}
use Rattle.vx_sched.proofs.state.State.settle.Given as goal

abbrev pub invariant-loop-span : goal.invariant-loop-span
invariant-loop-span l = (settled l.self (drop l.span-index l.batch) ≡ settled l.initial.self l.batch) × MergesInTurn l.self (drop l.span-index l.batch)
