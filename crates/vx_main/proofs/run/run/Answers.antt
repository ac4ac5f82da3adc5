use Rattle.std.proofs.Common.{Ok, Err, map, refl}
use Rattle.std.specs.Prelude.{string_bytes}
use Rattle.vx_commands.specs.Command.{command_of}
use Rattle.vx_commands.specs.Outside.{outside}
use Rattle.vx_main.proofs.StatusRows.{statuses-of}
use Rattle.vx_main.proofs.run.run.Goals as goal

pub returns-in-Ok-clause-runs : goal.returns-in-Ok-clause-runs
returns-in-Ok-clause-runs g c = record { result = Ok c.in-Ok.field-0; performs = c.in-Ok.ensures.performs; concludes = (refl, refl) }

pub returns-in-Ok-clause-statuses : goal.returns-in-Ok-clause-statuses
returns-in-Ok-clause-statuses g c = statuses-of (command_of (map string_bytes c.args.words.now))
    (outside (g.I.Source.state c.args.input.now) (g.F.Opener.state c.args.files.now) (g.O.Sink.state c.args.out.now))
    (outside (g.I.Source.state c.perform.new.input) (g.F.Opener.state c.perform.new.files) (g.O.Sink.state c.perform.new.out))
    (g.E.Sink.state c.args.err.now) (g.E.Sink.state c.args.err.now) 0 (record { result = Ok c.in-Ok.field-0; performs = c.in-Ok.ensures.performs; concludes = (refl, refl) })

pub returns-in-Err-clause-runs : goal.returns-in-Err-clause-runs
returns-in-Err-clause-runs g c = record { result = Err c.in-Err.failure; performs = c.in-Err.ensures.performs; concludes = c.fail.ensures.fails }

pub returns-in-Err-clause-statuses : goal.returns-in-Err-clause-statuses
returns-in-Err-clause-statuses g c = statuses-of (command_of (map string_bytes c.args.words.now))
    (outside (g.I.Source.state c.args.input.now) (g.F.Opener.state c.args.files.now) (g.O.Sink.state c.args.out.now))
    (outside (g.I.Source.state c.perform.new.input) (g.F.Opener.state c.perform.new.files) (g.O.Sink.state c.perform.new.out))
    (g.E.Sink.state c.args.err.now) (g.E.Sink.state c.fail.new.err) c.fail.result (record { result = Err c.in-Err.failure; performs = c.in-Err.ensures.performs; concludes = c.fail.ensures.fails })
