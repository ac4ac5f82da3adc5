use Rattle.vx_sched.proofs.ToldLemmas.{empty-told}
use Rattle.vx_sched.proofs.read_map.ReadMap.new.Goals as goal

pub invariant_of-result : goal.invariant_of-result
invariant_of-result c = empty-told c.new.result c.new-2.result c.new-3.result c.new.ensures c.new-2.ensures c.new-3.ensures
