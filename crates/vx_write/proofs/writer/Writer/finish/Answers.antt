use Rattle.vx_write.proofs.WriterLemmas.{closes_by}
use Rattle.vx_write.proofs.writer.Writer.finish.Goals as goal

pub returns-clause-closes : goal.returns-clause-closes
returns-clause-closes g c o d past start h =
    closes_by o d past start c.args.self.state (g.O.Sink.state c.args.self.out).gained (g.O.Sink.state c.finish-finished.new.out) c.finish-finished.result h
    (c.finish-finished.ensures.finished o d past start h.stands)
