use Rattle.std.proofs.Common.{◌≡◌, ℕ, ◌<◌, ◌≤◌, ◌||◌, ◌∷◌, [], length, length-append, true, subst, ap, arith}
use Rattle.vx_sched.specs.Picks.{is_among}
use Rattle.vx_sched.specs.Reads.{polled_at}
use Rattle.vx_sched.specs.Merging.{is_listed}
use Rattle.vx_sched.specs.Scheduling.{Scheduler}
use Rattle.vx_sched.proofs.BatchLemmas.{so_far-step, so_far-merge}
use Rattle.vx_sched.proofs.ChainLemmas.{ranges-all, may-take, turn-apart}
use Rattle.vx_sched.proofs.state.State.batch.Goals as goal

pub returns-in_default-clause-merge : goal.returns-in_default-clause-merge
returns-in_default-clause-merge c = so_far-merge c.args.self.now c.loop.spans.items c.loop.before c.loop.from c.loop.invariant.0

pub returns-clause-merge : goal.returns-clause-merge
returns-clause-merge c = so_far-merge c.args.self.now c.loop.spans.items c.loop.before c.loop.from c.loop.invariant.0

pub loop-preserved : goal.loop-preserved
loop-preserved c =
    let reads = ap (λ (t : Scheduler). t.reads) c.self.view_is in
    let polled = subst (λ rs. polled_at rs c.in-Some.first.id ≡ true) reads c.in-Some.ensures.polled in
    let least = subst (λ rs. (q : ℕ) → c.loop.from ≤ q → q < c.in-Some.first.id → polled_at rs q ≡ true → is_among c.loop.before q ≡ true) reads c.in-Some.ensures.least in
    let numbers = subst (λ rs. (q : ℕ) → is_among c.add.new.self q ≡ (is_among c.loop.before q || is_listed rs q)) c.requests.ensures.value c.in_ok-add.ensures in (
      rw c.in_ok-push.ensures.items (so_far-step c.args.self.now c.loop.spans.items c.loop.before c.loop.from c.loop.invariant.0
          c.in-Some.first c.in_ok-span.span c.add.new.self polled c.in-Some.ensures.fresh least c.in_ok-span.ensures numbers
          c.saturating_add-from.result (omega (arith, c.saturating_add-from.ensures))),
      omega (arith, ap length c.in_ok-push.ensures.items, length-append c.loop.spans.items (c.in_ok-span.span ∷ []), c.loop.invariant.1),
    )

pub returns-in_default-clause-ranges : goal.returns-in_default-clause-ranges
returns-in_default-clause-ranges c = ranges-all c.args.self.now c.loop.spans.items c.loop.invariant.0.sound (so_far-merge c.args.self.now c.loop.spans.items c.loop.before c.loop.from c.loop.invariant.0)

pub returns-in_default-clause-apart : goal.returns-in_default-clause-apart
returns-in_default-clause-apart c = turn-apart c.args.self.now c.loop.spans.items c.loop.invariant.0.sound (so_far-merge c.args.self.now c.loop.spans.items c.loop.before c.loop.from c.loop.invariant.0)

pub returns-in_default-clause-may : goal.returns-in_default-clause-may
returns-in_default-clause-may c fits some = may-take c.args.self.now c.loop.spans.items c.args.most c.loop.invariant.0.sound (so_far-merge c.args.self.now c.loop.spans.items c.loop.before c.loop.from c.loop.invariant.0)
    (omega (arith, c.loop.invariant.1, c.loop-test.true)) fits some

pub returns-clause-ranges : goal.returns-clause-ranges
returns-clause-ranges c = ranges-all c.args.self.now c.loop.spans.items c.loop.invariant.0.sound (so_far-merge c.args.self.now c.loop.spans.items c.loop.before c.loop.from c.loop.invariant.0)

pub returns-clause-apart : goal.returns-clause-apart
returns-clause-apart c = turn-apart c.args.self.now c.loop.spans.items c.loop.invariant.0.sound (so_far-merge c.args.self.now c.loop.spans.items c.loop.before c.loop.from c.loop.invariant.0)

pub returns-clause-may : goal.returns-clause-may
returns-clause-may c fits some = may-take c.args.self.now c.loop.spans.items c.args.most c.loop.invariant.0.sound (so_far-merge c.args.self.now c.loop.spans.items c.loop.before c.loop.from c.loop.invariant.0)
    (omega (arith, c.loop.invariant.1, c.loop.auto.counter-end)) fits some
