use Rattle.std.proofs.Common.{rules, ◌≡◌, Err}
use Rattle.vx_commands.proofs.ScanArms.{scan-fails}
use Rattle.vx_commands.proofs.commands.scan.Scan.answer.Goals as goal

pub returns-in_err-rows-clause-gathers : goal.returns-in_err-rows-clause-gathers
returns-in_err-rows-clause-gathers g c = λ source.
    let e = c.in_err-rows.field-0.0 in
    let is : c.from_residual.result ≡ Err e = search rules in
    rw is (scan-fails c.args.self.now source (g.F.Opener.state c.args.files.now) (g.F.Opener.state c.rows.new.files) e c.in_err-rows.ensures.cause)
