use Rattle.vx_commands.specs.Outputs.{text_of}
use Rattle.vx_text.proofs.TextLemmas.{writes, adds_here}
use Rattle.vx_commands.proofs.answer.Answer.write.Goals as goal

pub returns : goal.returns
returns g c = writes (text_of c.args.self.now) c.put.new.text (g.S.Sink.state c.args.out.now) (g.S.Sink.state c.put.new.out) (g.S.Sink.state c.finish.new.out) c.finish.result
    (adds_here c.new-text.ensures c.put.ensures) c.finish.ensures
