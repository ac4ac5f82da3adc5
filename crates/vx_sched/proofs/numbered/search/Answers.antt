use Rattle.std.proofs.Common.{◌+◌, ◌-◌, ◌/◌, ◌<◌, length, arith}
use Rattle.vx_sched.proofs.NumberedLemmas.{low_below}
use Rattle.vx_sched.proofs.numbered.search.Goals as goal

pub loop-low-preserved-then-slots-middle : goal.loop-low-preserved-then-slots-middle
loop-low-preserved-then-slots-middle g c =
    let at = c.loop-low.low + (c.loop-low.high - c.loop-low.low) / 2 in
    let inside : at < length c.args.slots.now = omega (arith, c.loop-low-test.true, c.loop-low.invariant.1) in (
      omega (arith, c.loop-low-test.true),
      c.loop-low.invariant.1,
      (λ i x h l. low_below c.args.slots.now at c.index-slots-middle.result c.args.number c.requires inside c.if-slots-middle.true i x h l),
      c.loop-low.invariant.3,
    )
