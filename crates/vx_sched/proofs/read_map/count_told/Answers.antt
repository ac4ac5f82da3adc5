use Rattle.std.proofs.Common.{true, false, sym, ◌∙◌, arith}
use Rattle.vx_sched.proofs.ToldLemmas.{count-step}
use Rattle.vx_sched.proofs.read_map.count_told.Goals as goal
use Rattle.vx_sched.proofs.read_map.count_told.Goals.{then-is_read_kind, else-is_read_kind}

pub loop-slot-preserved : goal.loop-slot-preserved
loop-slot-preserved c =
    let kept = c.loop-slot.invariant.0 in
    let few = c.loop-slot.invariant.1 in
    elim c.if-is_read_kind.branch [
      | then-is_read_kind w ↦
          let step = count-step c.args.kind c.args.waits.now c.args.polls.now c.args.slots.now c.loop-slot.slot-index c.slot-item.result c.told_slot.result true c.loop-slot-test.true c.slot-item.is
          c.told_slot.ensures (sym c.is_read_kind.ensures ∙ w.if-is_read_kind.true) in
          let more = w.count-is in
          (omega (arith, step, kept, more), omega (arith, few, more))
      | else-is_read_kind w ↦
          let step = count-step c.args.kind c.args.waits.now c.args.polls.now c.args.slots.now c.loop-slot.slot-index c.slot-item.result c.told_slot.result false c.loop-slot-test.true c.slot-item.is
          c.told_slot.ensures (sym c.is_read_kind.ensures ∙ w.if-is_read_kind.false) in
          let same = w.count-is in
          (omega (arith, step, kept, same), omega (arith, few, same))
    ]
