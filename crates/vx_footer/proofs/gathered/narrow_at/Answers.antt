use Rattle.std.proofs.Common.{rules, length}
use Rattle.vx_footer.specs.Gathering.{path_at}
use Rattle.vx_footer.proofs.GatherSteps.{known_set, set_here}
use Rattle.vx_footer.proofs.gathered.narrow_at.Goals as goal

pub returns-clause-known : goal.returns-clause-known
returns-clause-known c = known_set c.args.numbers.now.items c.args.id.0 c.narrow-common.result (length c.args.table.now) c.narrow-common.ensures.inside c.requires.known

pub returns-clause-commons : goal.returns-clause-commons
returns-clause-commons c =
    set_here c.args.table.now (path_at c.args.table.now c.args.number) c.args.numbers.now.items c.args.id.0 c.narrow-common.result c.index.result.now
    (search rules) (search rules) c.narrow-common.ensures.path
