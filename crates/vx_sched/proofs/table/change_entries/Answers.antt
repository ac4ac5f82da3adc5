use Rattle.std.proofs.Common.{arith}
use Rattle.std.proofs.lemmas.Grind.{common_steps}
use Rattle.vx_sched.proofs.table.change_entries.Goals as goal

pub loop-read-preserved : goal.loop-read-preserved
loop-read-preserved c = (
  grind (arith, common_steps),
  λ longest k. c.change_entry.ensures.kept longest (c.loop-read.invariant.1 longest k),
)
