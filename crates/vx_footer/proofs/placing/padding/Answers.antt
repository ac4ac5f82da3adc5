use Rattle.vx_footer.proofs.PaddingLemmas.{padded}
use Rattle.vx_footer.proofs.placing.padding.Goals as goal

pub returns-clause-aligned : goal.returns-clause-aligned
returns-clause-aligned c = rw c.as_u64-size.ensures.value (padded c.args.alignment c.args.offset)
