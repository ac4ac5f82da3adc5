use Rattle.std.proofs.Common.{rules, ◌≡◌, Err}
use Rattle.vx_rows.specs.Predicates.{pred_view}
use Rattle.vx_commands.proofs.PruneArms.{prune-fails, prune-answers, prune-unbound}
use Rattle.vx_commands.proofs.commands.prune.Prune.answer.Goals as goal

pub returns-in_err-served-clause-gathers : goal.returns-in_err-served-clause-gathers
returns-in_err-served-clause-gathers g c = λ source.
    let e = c.in_err-served.field-0.0 in
    let is : c.from_residual.result ≡ Err e = search rules in
    rw is (prune-fails c.args.self.now source (g.F.Opener.state c.args.files.now) (g.F.Opener.state c.open_name.new.files) e c.in_err-served.ensures.cause)

pub returns-in-Ok-clause-gathers : goal.returns-in-Ok-clause-gathers
returns-in-Ok-clause-gathers g c = λ source.
    prune-answers c.args.self.now source (g.F.Opener.state c.args.files.now) (g.F.Opener.state c.open_name.new.files) c.in_ok-served.served c.in_ok-served.ensures.cause
    (pred_view c.in_ok-filter.filter) c.in-Ok.skipped c.in_ok-filter.ensures c.in-Ok.ensures.value

pub returns-clause-gathers : goal.returns-clause-gathers
returns-clause-gathers g c = λ source.
    prune-unbound c.args.self.now source (g.F.Opener.state c.args.files.now) (g.F.Opener.state c.open_name.new.files) c.in_ok-served.served c.in_ok-served.ensures.cause
    (pred_view c.in_ok-filter.filter) c.in-Err.error c.in_ok-filter.ensures (λ is. let no : ⊥ = search rules in no) c.in-Err.ensures.value
