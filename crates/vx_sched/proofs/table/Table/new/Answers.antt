use Rattle.vx_sched.proofs.TableLemmas.{empty_table}
use Rattle.vx_sched.proofs.table.Table.new.Goals as goal

pub invariant_of-result : goal.invariant_of-result
invariant_of-result c = empty_table c.new.result c.new-2.result c.new.ensures c.new-2.ensures.sorted
