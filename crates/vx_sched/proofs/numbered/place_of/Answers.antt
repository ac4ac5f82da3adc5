use Rattle.std.proofs.Common.{◌-◌, ◌<◌, length, arith}
use Rattle.vx_sched.proofs.NumberedLemmas.{low_below, none_past}
use Rattle.vx_sched.proofs.numbered.place_of.Goals as goal

pub returns-then-slots-count-clause-below : goal.returns-then-slots-count-clause-below
returns-then-slots-count-clause-below g c = λ i x h l.
    let last : length c.args.slots.now - 1 < length c.args.slots.now = omega (arith, l) in
    low_below c.args.slots.now (length c.args.slots.now - 1) c.index-slots-count.result c.args.number c.requires last c.if-slots-count.true i x h (omega (arith, l))

pub returns-then-slots-count-clause-above : goal.returns-then-slots-count-clause-above
returns-then-slots-count-clause-above g c = λ i x h l. none_past c.args.slots.now c.args.number i x h l
