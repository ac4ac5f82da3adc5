use Rattle.std.proofs.Common.{rules, ◌≡◌, Err}
use Rattle.vx_commands.proofs.Arms.{sizes-fails, sizes-answers, sizes-lacks}
use Rattle.vx_commands.proofs.commands.sizes.Sizes.answer.Goals as goal

pub returns-in_err-served-clause-gathers : goal.returns-in_err-served-clause-gathers
returns-in_err-served-clause-gathers g c = λ source.
    let e = c.in_err-served.field-0.0 in
    let is : c.from_residual.result ≡ Err e = search rules in
    rw is (sizes-fails c.args.self.now source (g.F.Opener.state c.args.files.now) (g.F.Opener.state c.open_name.new.files) e c.in_err-served.ensures.cause)

pub returns-in-Ok-clause-gathers : goal.returns-in-Ok-clause-gathers
returns-in-Ok-clause-gathers g c = λ source.
    sizes-answers c.args.self.now source (g.F.Opener.state c.args.files.now) (g.F.Opener.state c.open_name.new.files) c.in_ok-served.served c.in_ok-served.ensures.cause c.in-Ok.sizes c.in-Ok.ensures

pub returns-in-Err-MissingSegment-clause-gathers : goal.returns-in-Err-MissingSegment-clause-gathers
returns-in-Err-MissingSegment-clause-gathers g c = λ source.
    let given = rw c.in-Err-MissingSegment.field-0-is at c.in-Err-MissingSegment.ensures in
    sizes-lacks c.args.self.now source (g.F.Opener.state c.args.files.now) (g.F.Opener.state c.open_name.new.files) c.in_ok-served.served c.in_ok-served.ensures.cause
    c.in-Err-MissingSegment.field-0-0 given
