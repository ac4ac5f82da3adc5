use Rattle.std.proofs.Common.{subst, sym}
use Rattle.vx_commands.specs.Performs.{Shows}
use Rattle.vx_commands.proofs.PerformingLemmas.{shown-text}
use Rattle.vx_commands.proofs.answer.Answer.print_text.Goals as goal

pub returns-clause-shows : goal.returns-clause-shows
returns-clause-shows g c =
    subst (Shows c.args.self.now (g.S.Sink.state c.args.out.now) (g.S.Sink.state c.write.new.out)) (sym c.shown.ensures)
    (shown-text c.args.self.now (g.S.Sink.state c.args.out.now) (g.S.Sink.state c.write.new.out) c.write.result c.requires c.write.ensures)

pub returns-clause-steady : goal.returns-clause-steady
returns-clause-steady g c = λ never. (c.write.ensures.written.refused.sound never).1
