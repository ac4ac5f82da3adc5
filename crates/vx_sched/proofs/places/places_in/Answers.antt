use Rattle.std.proofs.Common.{arith}
use Rattle.vx_sched.proofs.NearLemmas.{noted-all, past-one}
use Rattle.vx_sched.proofs.places.places_in.Goals as goal

pub returns-then-read-right : goal.returns-then-read-right
returns-then-read-right c =
    noted-all c.args.sorted.now c.args.left c.args.right c.loop-at.at c.loop-at.near.items c.requires c.loop-at.invariant
    (past-one c.args.sorted.now c.loop-at.at c.args.right c.index-sorted-at.result c.index-sorted-at.is c.if-read-right.true)

pub returns : goal.returns
returns c =
    noted-all c.args.sorted.now c.args.left c.args.right c.loop-at.at c.loop-at.near.items c.requires c.loop-at.invariant
    (λ l. absurd (omega (arith, l, c.loop-at-test.false)))
