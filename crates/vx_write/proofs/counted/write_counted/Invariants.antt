use Rattle.std.proofs.Common.{length}
use Rattle.vx_write.specs.Taken.{Sent}
use Rattle.vx_write.proofs.TakenLemmas.{IsCalm}
use Rattle.vx_write.proofs.counted.write_counted.Given as goal

abbrev pub invariant-loop-rest : goal.invariant-loop-rest
invariant-loop-rest g l =
    let state = g.S.Sink.state in
    record {
      sent : Sent l.fn.bytes l.rest (state l.fn.sink).gained (state l.sink).gained l.fn.taken l.taken;
      calm : IsCalm (state l.fn.sink) (state l.sink);
    }

abbrev pub decreases-loop-rest : goal.decreases-loop-rest
decreases-loop-rest g l = length l.rest
