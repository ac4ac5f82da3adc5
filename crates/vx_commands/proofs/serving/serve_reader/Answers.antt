use Rattle.vx_commands.proofs.Openings.{is_sized}
use Rattle.vx_commands.proofs.serving.serve_reader.Goals as goal

pub returns-in-Ok-clause-cause : goal.returns-in-Ok-clause-cause
returns-in-Ok-clause-cause g c = λ file told sized. c.in-Ok.ensures.cause file told (is_sized c.args.options file c.requires.no_footer sized)
