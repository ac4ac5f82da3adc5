use Rattle.vx_commands.specs.Failures.{message_of}
use Rattle.vx_text.proofs.TextLemmas.{adds_then, adds_here, writes}
use Rattle.vx_commands.proofs.failure.Failure.print.Goals as goal

pub returns : goal.returns
returns g c = writes (message_of c.args.self.now) c.end_line.new.self (g.S.Sink.state c.args.err.now) (g.S.Sink.state c.end_line.new.out) (g.S.Sink.state c.finish.new.out) c.finish.result
    (adds_here c.new-text.ensures (adds_then c.word.ensures (adds_then c.put_words.ensures c.end_line.ensures))) c.finish.ensures
