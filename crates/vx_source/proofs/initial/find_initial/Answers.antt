use Rattle.std.proofs.Common.{Some, ap, ◌∙◌}
use Rattle.vx_source.proofs.FrontLemmas.{find-segment}
use Rattle.vx_source.proofs.initial.find_initial.Goals as goal

pub returns-in_default : goal.returns-in_default
returns-in_default c = c.in_default.ensures.value ∙ find-segment c.args.initial.now.entries c.args.id

pub returns : goal.returns
returns c = ap Some c.in_ok-shared.ensures ∙ c.in-Some.ensures.value ∙ find-segment c.args.initial.now.entries c.args.id
