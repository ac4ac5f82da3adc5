use Rattle.std.proofs.Common.{drop}
use Rattle.std.specs.List.{flat_map}
use Rattle.vx_write.specs.Taken.{Sent}
use Rattle.vx_write.proofs.TakenLemmas.{IsCalm}
use Rattle.vx_write.proofs.counted.write_parts.Given as goal

abbrev pub invariant-loop-at : goal.invariant-loop-at
invariant-loop-at g l =
    let state = g.S.Sink.state in
    record {
      sent : Sent (flat_map (λ part. part.now) l.fn.parts) (flat_map (λ part. part.now) (drop l.at l.fn.parts)) (state l.fn.sink).gained (state l.sink).gained l.fn.taken l.taken;
      calm : IsCalm (state l.fn.sink) (state l.sink);
    }
