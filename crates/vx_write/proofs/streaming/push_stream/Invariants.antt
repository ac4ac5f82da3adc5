use Rattle.std.proofs.Common.{OnOk, IfErr, ◌≡◌, ℕ, ◌+◌, ◌-◌, ◌*◌, ◌<◌, ◌≤◌, length}
use Rattle.vx_data.specs.Dtype.{dtype_view}
use Rattle.vx_write.specs.Standing.{IsSound}
use Rattle.vx_write.specs.Streamed.{Streams, StreamPushed, StreamCut}
use Rattle.vx_write.specs.Taken.{SinkCause}
use Rattle.vx_write.proofs.StreamLemmas.{SoFar}
use Rattle.vx_write.proofs.TakenLemmas.{IsCalm}
use Rattle.vx_write.proofs.streaming.push_stream.Given as goal

abbrev pub invariant-loop : goal.invariant-loop
invariant-loop g l = record {
  sound : IsSound l.writer;
  so_far : SoFar (g.I.ChunkSource.state l.fn.chunks) (g.I.ChunkSource.state l.chunks) l.fn.writer l.writer (g.S.Sink.state l.fn.out).gained (g.S.Sink.state l.out).gained;
  calm : IsCalm (g.S.Sink.state l.fn.out) (g.S.Sink.state l.out);
}
