use Rattle.std.proofs.Common.{◌≡◌, false}
use Rattle.vx_write.specs.ChunkSources.{SameChunks}
use Rattle.vx_write.proofs.TakenLemmas.{IsCalm}
use Rattle.vx_write.proofs.WriterStreams.{SoFar}
use Rattle.vx_write.proofs.writer.Writer.push_stream.Given as goal

abbrev pub invariant-loop : goal.invariant-loop
invariant-loop g l = record {
  so_far : SoFar (g.I.ChunkSource.state l.fn.chunks) (g.I.ChunkSource.state l.chunks) l.fn.self.state l.self.state (g.O.Sink.state l.fn.self.out).gained (g.O.Sink.state l.self.out).gained;
  calm : IsCalm (g.O.Sink.state l.fn.self.out) (g.O.Sink.state l.self.out);
}
