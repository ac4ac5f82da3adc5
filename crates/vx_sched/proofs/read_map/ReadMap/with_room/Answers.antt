use Rattle.vx_sched.proofs.ToldLemmas.{empty-told}
use Rattle.vx_sched.proofs.read_map.ReadMap.with_room.Goals as goal

pub invariant_of-result : goal.invariant_of-result
invariant_of-result c = empty-told c.in_ok-slots.slots c.new.result c.new-2.result c.in_ok-slots.ensures c.new.ensures c.new-2.ensures
