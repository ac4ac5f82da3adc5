use Rattle.std.proofs.Common.{rules}
use Rattle.vx_footer.proofs.VisitSteps.{root_paths}
use Rattle.vx_footer.proofs.visits.gathered_of.Goals as goal

pub returns-clause-paths : goal.returns-clause-paths
returns-clause-paths c = root_paths c.visit.new.gathered c.in_ok-gathered.gathered c.args.layout.now (search rules) (search rules)
