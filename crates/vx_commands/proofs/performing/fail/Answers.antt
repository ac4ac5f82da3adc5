use Rattle.vx_commands.proofs.performing.fail.Goals as goal

pub returns-clause-fails : goal.returns-clause-fails
returns-clause-fails g c = record { status = c.status.ensures; reported = c.report.ensures.reported }
