use Rattle.std.proofs.Common.{◌==◌, subst, arith}
use Rattle.vx_sched.specs.Reads.{poll_read, drop_read}
use Rattle.vx_sched.specs.Scheduling.{MayHappen}
use Rattle.vx_sched.proofs.SoundLemmas.{waiting-requested, polled-requested, waiting-polled, polled-polled, waiting-dropped, polled-dropped}
use Rattle.vx_sched.proofs.CountLemmas.{ranges-added, ranges-less, poll-leads, drop-leads}
use Rattle.vx_sched.proofs.state.State.on_event.Goals as goal

pub returns-in_ok-request-in-Request-clause-waiting : goal.returns-in_ok-request-in-Request-clause-waiting
returns-in_ok-request-in-Request-clause-waiting c =
    let next = (subst (MayHappen c.args.self.now) c.in-Request.is c.requires).0 in
    rw (c.in_ok-request-in-Request.ensures.step, c.in-Request.is) (λ q. waiting-requested c.args.self.now c.concurrency.ensures.sound c.in-Request.request q next)

pub returns-in_ok-request-in-Request-clause-polled : goal.returns-in_ok-request-in-Request-clause-polled
returns-in_ok-request-in-Request-clause-polled c =
    let next = (subst (MayHappen c.args.self.now) c.in-Request.is c.requires).0 in
    rw (c.in_ok-request-in-Request.ensures.step, c.in-Request.is) (λ q. polled-requested c.args.self.now c.concurrency.ensures.sound c.in-Request.request q next)

pub returns-in_ok-request-in-Request-clause-ranges : goal.returns-in_ok-request-in-Request-clause-ranges
returns-in_ok-request-in-Request-clause-ranges c =
    rw c.in_ok-request-in-Request.ensures.step (let one = ranges-added c.args.self.now.reads c.in-Request.request in omega (arith, one))

pub returns-in-Polled-clause-waiting : goal.returns-in-Polled-clause-waiting
returns-in-Polled-clause-waiting c = rw (c.poll.ensures, c.in-Polled.is) (λ q. waiting-polled c.args.self.now c.concurrency.ensures.sound c.in-Polled.id q)

pub returns-in-Polled-clause-polled : goal.returns-in-Polled-clause-polled
returns-in-Polled-clause-polled c = rw (c.poll.ensures, c.in-Polled.is) (λ q. polled-polled c.args.self.now c.concurrency.ensures.sound c.in-Polled.id q)

pub returns-in-Polled-clause-ranges : goal.returns-in-Polled-clause-ranges
returns-in-Polled-clause-ranges c = rw c.poll.ensures (ranges-less (λ n. n == c.in-Polled.id) poll_read c.args.self.now.reads poll-leads)

pub returns-in-Dropped-clause-waiting : goal.returns-in-Dropped-clause-waiting
returns-in-Dropped-clause-waiting c = rw (c.cancel.ensures, c.in-Dropped.is) (λ q. waiting-dropped c.args.self.now c.concurrency.ensures.sound c.in-Dropped.id q)

pub returns-in-Dropped-clause-polled : goal.returns-in-Dropped-clause-polled
returns-in-Dropped-clause-polled c = rw (c.cancel.ensures, c.in-Dropped.is) (λ q. polled-dropped c.args.self.now c.concurrency.ensures.sound c.in-Dropped.id q)

pub returns-in-Dropped-clause-ranges : goal.returns-in-Dropped-clause-ranges
returns-in-Dropped-clause-ranges c = rw c.cancel.ensures (ranges-less (λ n. n == c.in-Dropped.id) drop_read c.args.self.now.reads drop-leads)
