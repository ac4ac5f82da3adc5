use Rattle.std.proofs.Common.{rules}
use Rattle.vx_data.specs.Layout.{numbers_of}
use Rattle.vx_footer.proofs.GatherSteps.{meets_ids}
use Rattle.vx_footer.proofs.gathered.Gathered.meet.Goals as goal

pub returns : goal.returns
returns c = meets_ids c.args.self.now _ c.args.number (numbers_of c.args.ids.now) c.requires (search rules) (search rules) (search rules) (search rules)
