use Rattle.std.proofs.Common.{rules, ◌≡◌, Ok, Err, subst, sym}
use Rattle.vx_commands.specs.declared.answer.Answer.TheVariants as answers
use Rattle.vx_commands.specs.declared.command.Command.TheVariants as commands
use Rattle.vx_commands.specs.Performs.{Gathers}
use Rattle.vx_commands.proofs.Arms.{serve-answers, serve-fails}
use Rattle.vx_commands.proofs.commands.serve.Serve.answer.Goals as goal

pub returns-clause-gathers : goal.returns-clause-gathers
returns-clause-gathers g c =
    let source = g.I.Source.state c.args.input.now in
    let source_now = g.I.Source.state c.load_script.new.input in
    let files = g.F.Opener.state c.args.files.now in
    let files_now = g.F.Opener.state c.serve.new.files in
    let s = c.args.self.now in
    subst (λ p. Gathers (commands.Serve s) source source_now files files_now (Ok (answers.Served p))) (sym c.in_ok-new.ensures)
    (serve-answers s c.in_ok-script.script source source_now files files_now c.in_ok-served.served c.in_ok-script.ensures.cause c.in_ok-served.ensures.cause)

pub returns-in_err-served-clause-gathers : goal.returns-in_err-served-clause-gathers
returns-in_err-served-clause-gathers g c =
    let source = g.I.Source.state c.args.input.now in
    let source_now = g.I.Source.state c.load_script.new.input in
    let files = g.F.Opener.state c.args.files.now in
    let files_now = g.F.Opener.state c.serve.new.files in
    let s = c.args.self.now in
    let e = c.in_err-served.field-0.0 in
    let is : c.from_residual-in_err-served.result ≡ Err e = search rules in
    rw is (serve-fails s c.in_ok-script.script source source_now files files_now e c.in_ok-script.ensures.cause c.in_err-served.ensures.cause)
