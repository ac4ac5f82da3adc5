use Rattle.std.proofs.Common.{subst}
use Rattle.vx_commands.specs.Input.{StepsCause}
use Rattle.vx_commands.proofs.Openings.{script-cause}
use Rattle.vx_commands.proofs.input.load_script.Goals as goal

pub returns-clause-cause : goal.returns-clause-cause
returns-clause-cause g c = script-cause (g.I.Source.state c.args.input.now) (g.I.Source.state c.read_input.new.input) c.in-Ok.text.items c.steps_of.result c.in-Ok.ensures.cause (subst (λ t. StepsCause t c.steps_of.result) c.as_slice.ensures.value c.steps_of.ensures)
