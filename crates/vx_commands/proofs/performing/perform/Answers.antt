use Rattle.std.proofs.Common.{map}
use Rattle.std.specs.Prelude.{string_bytes}
use Rattle.vx_commands.specs.Command.{command_of}
use Rattle.vx_commands.proofs.PerformingLemmas.{performed, keeps-steady}
use Rattle.vx_commands.proofs.performing.perform.Goals as goal

pub returns-clause-performs : goal.returns-clause-performs
returns-clause-performs g c = performed (command_of (map string_bytes c.args.words.now)) c.in_ok-command.command (g.I.Source.state c.args.input.now) (g.I.Source.state c.answer.new.input)
    (g.F.Opener.state c.args.files.now) (g.F.Opener.state c.answer.new.files) (g.O.Sink.state c.args.out.now) (g.O.Sink.state c.print.new.out) c.in_ok-answer.answer c.print.result
    c.in_ok-command.ensures c.in_ok-answer.ensures.gathers c.print.ensures.shows

pub returns-clause-steady : goal.returns-clause-steady
returns-clause-steady g c = keeps-steady (command_of (map string_bytes c.args.words.now)) c.in_ok-command.command (g.I.Source.state c.args.input.now) (g.I.Source.state c.answer.new.input)
    (g.F.Opener.state c.args.files.now) (g.F.Opener.state c.answer.new.files) (g.O.Sink.state c.args.out.now) (g.O.Sink.state c.print.new.out) c.in_ok-command.ensures c.in_ok-answer.ensures.keeps c.print.ensures.steady
