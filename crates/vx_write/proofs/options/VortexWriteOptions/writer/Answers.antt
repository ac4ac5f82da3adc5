use Rattle.vx_write.proofs.options.VortexWriteOptions.writer.Goals as goal

pub returns-in-Ok-clause-begun : goal.returns-in-Ok-clause-begun
returns-in-Ok-clause-begun g c = c.in-Ok.ensures.begun (g.O.Sink.state c.args.out).gained
