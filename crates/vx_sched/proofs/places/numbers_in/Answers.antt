use Rattle.std.proofs.Common.{arith}
use Rattle.vx_sched.proofs.PlaceLemmas.{found-all}
use Rattle.vx_sched.proofs.places.numbers_in.Goals as goal

pub returns-then-place-right : goal.returns-then-place-right
returns-then-place-right c = found-all c.args.places.now c.args.left c.args.right c.loop-at.at c.loop-at.ids.items c.requires c.loop-at.invariant (λ _. c.if-place-right.true)

pub returns : goal.returns
returns c =
    found-all c.args.places.now c.args.left c.args.right c.loop-at.at c.loop-at.ids.items c.requires c.loop-at.invariant
    (λ l. absurd (omega (arith, l, c.loop-at-test.false)))
