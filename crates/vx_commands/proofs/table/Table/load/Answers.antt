use Rattle.vx_commands.proofs.TableArms.{table-cause}
use Rattle.vx_commands.proofs.table.Table.load.Goals as goal

pub returns-clause-cause : goal.returns-clause-cause
returns-clause-cause g c = table-cause (g.I.Source.state c.args.input.now) (g.I.Source.state c.read_input.new.input) c.in-Ok.text.items c.read.result c.in-Ok.ensures.cause c.read.ensures
