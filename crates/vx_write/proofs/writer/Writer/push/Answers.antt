use Rattle.vx_rows.specs.Rows.{column_view}
use Rattle.vx_write.proofs.WriterLemmas.{pushes_by}
use Rattle.vx_write.proofs.writer.Writer.push.Goals as goal

pub returns-clause-pushes : goal.returns-clause-pushes
returns-clause-pushes g c o d past start h =
    pushes_by o d past (column_view c.args.chunk.now) start c.args.self.now.state c.push-pushed.new.self (g.O.Sink.state c.args.self.now.out).gained
    (g.O.Sink.state c.push-pushed.new.out).gained c.push-pushed.result h (c.push-pushed.ensures.pushed o d past start h.stands)
