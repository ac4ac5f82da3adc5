use Rattle.std.proofs.Common.{◌≡◌, length}
use Rattle.vx_sched.proofs.BatchLemmas.{SoFar}
use Rattle.vx_sched.proofs.state.State.batch.Given as goal

abbrev pub invariant-loop : goal.invariant-loop
invariant-loop l = SoFar l.self l.spans.items l.before l.from × (length l.spans.items ≡ l.counter)
