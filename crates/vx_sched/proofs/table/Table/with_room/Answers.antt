use Rattle.vx_sched.proofs.TableLemmas.{empty_table}
use Rattle.vx_sched.proofs.table.Table.with_room.Goals as goal

pub invariant_of-result : goal.invariant_of-result
invariant_of-result c = empty_table c.in_ok-reads.reads c.new.result c.in_ok-reads.ensures c.new.ensures.sorted
