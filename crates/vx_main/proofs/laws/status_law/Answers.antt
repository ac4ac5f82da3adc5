use Rattle.vx_main.proofs.StatusRows.{statuses-of}
use Rattle.vx_main.proofs.laws.status_law.Goals as goal

pub returns : goal.returns
returns c = statuses-of
