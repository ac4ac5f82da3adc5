use Rattle.vx_commands.proofs.input.steps_of.Goals as goal

pub returns-in-Ok : goal.returns-in-Ok
returns-in-Ok g = g.in-Ok.ensures
