use Rattle.std.proofs.Common.{arith}
use Rattle.vx_sched.proofs.NearLemmas.{found-all, past-one}
use Rattle.vx_sched.proofs.places.waiting_in.Goals as goal

pub returns-then-read-right-clause-all : goal.returns-then-read-right-clause-all
returns-then-read-right-clause-all c =
    found-all c.args.reads.now c.args.sorted.now c.args.left c.args.right c.loop-at.at c.loop-at.found.items c.requires.rise c.loop-at.invariant.passed
    (past-one c.args.sorted.now c.loop-at.at c.args.right c.index-sorted-at.result c.index-sorted-at.is c.if-read-right.true)

pub returns-clause-all : goal.returns-clause-all
returns-clause-all c =
    found-all c.args.reads.now c.args.sorted.now c.args.left c.args.right c.loop-at.at c.loop-at.found.items c.requires.rise c.loop-at.invariant.passed
    (λ l. absurd (omega (arith, l, c.loop-at-test.false)))
