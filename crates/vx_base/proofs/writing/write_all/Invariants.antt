use Rattle.std.proofs.Common.{◌≡◌, ◌≤◌, ◌-◌, length, take, drop}
use Rattle.vx_base.specs.Streams.{Took, SameSink}
use Rattle.vx_base.proofs.TakingLemmas.{Faultless}
use Rattle.vx_base.proofs.writing.write_all.Given as goal

abbrev pub invariant-loop-rest : goal.invariant-loop-rest
invariant-loop-rest g l =
    let state = g.S.Sink.state in
    record {
      rest : l.rest ≡ drop (length l.fn.bytes - length l.rest) l.fn.bytes;
      fewer : length l.rest ≤ length l.fn.bytes;
      took : Took (take (length l.fn.bytes - length l.rest) l.fn.bytes) (state l.fn.sink).gained (state l.sink).gained;
      same : SameSink (state l.fn.sink) (state l.sink);
      faultless : Faultless (state l.fn.sink) (state l.sink);
    }

abbrev pub decreases-loop-rest : goal.decreases-loop-rest
decreases-loop-rest g l = length l.rest
