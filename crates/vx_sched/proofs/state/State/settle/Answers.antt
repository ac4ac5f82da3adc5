use Rattle.std.proofs.Common.{◌≡◌, suc, drop, drop-cons, add-one, ◌∷◌, List, ap, sym, subst, ◌∙◌, arith}
use Rattle.std.proofs.lemmas.Grind.{common_steps}
use Rattle.vx_sched.specs.Span.{Span}
use Rattle.vx_sched.specs.Scheduling.{MergesInTurn, settled}
use Rattle.vx_sched.proofs.SettleLemmas.{settles, settled-step, settled-turn}
use Rattle.vx_sched.proofs.state.State.settle.Goals as goal

pub settle_one-requires : goal.settle_one-requires
settle_one-requires c =
    let cons : drop c.loop-span.span-index c.args.batch.now ≡ c.span-item.result ∷ drop (suc c.loop-span.span-index) c.args.batch.now =
    drop-cons c.args.batch.now c.loop-span.span-index c.span-item.result c.loop-span-test.true
    ∙ ap (λ (z : Span). z ∷ drop (suc c.loop-span.span-index) c.args.batch.now) (sym c.span-item.is) in
    (subst (λ (z : List Span). MergesInTurn c.loop-span.self z) cons c.loop-span.invariant.1).0

pub loop-span-preserved : goal.loop-span-preserved
loop-span-preserved c =
    let cons : drop c.loop-span.span-index c.args.batch.now ≡ c.span-item.result ∷ drop (suc c.loop-span.span-index) c.args.batch.now =
    drop-cons c.args.batch.now c.loop-span.span-index c.span-item.result c.loop-span-test.true
    ∙ ap (λ (z : Span). z ∷ drop (suc c.loop-span.span-index) c.args.batch.now) (sym c.span-item.is) in
    let merges = subst (λ (z : List Span). MergesInTurn c.loop-span.self z) cons c.loop-span.invariant.1 in
    let rest = drop (suc c.loop-span.span-index) c.args.batch.now in
    rw (add-one, c.settle_one.ensures) (
      settled-step c.loop-span.self c.span-item.result rest c.concurrency-in-loop-span.ensures.sound merges ∙ sym (ap (settled c.loop-span.self) cons) ∙ c.loop-span.invariant.0,
      settled-turn c.loop-span.self c.span-item.result rest c.concurrency-in-loop-span.ensures.sound merges,
    )

pub returns-clause-waiting : goal.returns-clause-waiting
returns-clause-waiting c =
    let value : c.loop-span.self ≡ settled c.args.self.now c.args.batch.now = grind (arith, common_steps) in
    rw value (settles c.args.self.now c.args.batch.now c.concurrency.ensures.sound c.requires).waiting

pub returns-clause-polled : goal.returns-clause-polled
returns-clause-polled c =
    let value : c.loop-span.self ≡ settled c.args.self.now c.args.batch.now = grind (arith, common_steps) in
    rw value (settles c.args.self.now c.args.batch.now c.concurrency.ensures.sound c.requires).polled

pub returns-clause-ranges : goal.returns-clause-ranges
returns-clause-ranges c =
    let value : c.loop-span.self ≡ settled c.args.self.now c.args.batch.now = grind (arith, common_steps) in
    rw value (settles c.args.self.now c.args.batch.now c.concurrency.ensures.sound c.requires).ranges

pub returns-clause-fewer : goal.returns-clause-fewer
returns-clause-fewer c =
    let value : c.loop-span.self ≡ settled c.args.self.now c.args.batch.now = grind (arith, common_steps) in
    rw value (settles c.args.self.now c.args.batch.now c.concurrency.ensures.sound c.requires).fewer

pub returns-clause-settings : goal.returns-clause-settings
returns-clause-settings c =
    let value : c.loop-span.self ≡ settled c.args.self.now c.args.batch.now = grind (arith, common_steps) in
    rw value (settles c.args.self.now c.args.batch.now c.concurrency.ensures.sound c.requires).settings

pub returns-clause-next : goal.returns-clause-next
returns-clause-next c =
    let value : c.loop-span.self ≡ settled c.args.self.now c.args.batch.now = grind (arith, common_steps) in
    rw value (settles c.args.self.now c.args.batch.now c.concurrency.ensures.sound c.requires).next
