use Rattle.std.proofs.Common.{Some, subst, sym}
use Rattle.vx_rows.specs.Predicates.{pred_view}
use Rattle.vx_commands.specs.Scans.{Spells}
use Rattle.vx_commands.proofs.commands.scan.Scan.predicate.Goals as goal

pub returns-in_ok-predicate-in-Some : goal.returns-in_ok-predicate-in-Some
returns-in_ok-predicate-in-Some g =
    let spelled = pred_view g.in_ok-predicate-in-Some.field-0 in
    subst (λ filter. Spells filter (Some spelled)) (sym g.in-Some.is) g.in_ok-predicate-in-Some.ensures
