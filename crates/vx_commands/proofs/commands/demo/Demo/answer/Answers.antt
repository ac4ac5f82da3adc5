use Rattle.std.proofs.Common.{rules, ◌≡◌, Ok, Err, subst, sym}
use Rattle.vx_commands.specs.declared.answer.Answer.TheVariants as answers
use Rattle.vx_commands.specs.declared.command.Command.TheVariants as commands
use Rattle.vx_commands.specs.Demo.{Demonstrates, DemoCause}
use Rattle.vx_commands.specs.Performs.{Gathers}
use Rattle.vx_commands.proofs.Arms.{demo-answers, demo-fails}
use Rattle.vx_commands.proofs.commands.demo.Demo.answer.Goals as goal

pub returns-clause-gathers : goal.returns-clause-gathers
returns-clause-gathers g c = λ files.
    let source = g.I.Source.state c.args.input.now in
    let source_now = g.I.Source.state c.load_script.new.input in
    let valued = subst (λ vs. Demonstrates vs c.in_ok-script.script c.in_ok-served.served) c.as_slice.ensures c.in_ok-served.ensures in
    subst (λ p. Gathers (commands.Demo c.args.self.now) source source_now files files (Ok (answers.Served p))) (sym c.in_ok-new.ensures)
    (demo-answers c.args.self.now c.in_ok-script.script source source_now files c.in_ok-served.served c.in_ok-script.ensures.cause valued)

pub returns-in_err-served-clause-gathers : goal.returns-in_err-served-clause-gathers
returns-in_err-served-clause-gathers g c = λ files.
    let source = g.I.Source.state c.args.input.now in
    let source_now = g.I.Source.state c.load_script.new.input in
    let d = c.args.self.now in
    let e = c.in_err-served.field-0.0 in
    let is : c.from_residual-in_err-served.result ≡ Err e = search rules in
    let valued = subst (λ vs. DemoCause vs c.in_ok-script.script (Err e)) c.as_slice.ensures c.in_err-served.ensures in
    rw is (demo-fails d c.in_ok-script.script source source_now files e c.in_ok-script.ensures.cause valued)
