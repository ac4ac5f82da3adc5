use Rattle.std.proofs.Common.{◌≡◌, suc, drop, drop-cons, add-one, ◌∷◌, Some, ap, sym, subst, ◌∙◌}
use Rattle.std.specs.List.{AllByRecursion}
use Rattle.vx_sched.specs.Reads.{waiting_at}
use Rattle.vx_sched.specs.declared.request.ReadRequest.{ReadRequest}
use Rattle.vx_sched.proofs.PickLemmas.{looked-step, looked-from, more-trans, none-left}
use Rattle.vx_sched.proofs.gather.look_between.Goals as goal

pub loop-read-preserved : goal.loop-read-preserved
loop-read-preserved c =
    let cons : drop c.loop-read.read-index c.deref-read-items.result.now ≡ c.read-item.result ∷ drop (suc c.loop-read.read-index) c.deref-read-items.result.now =
    drop-cons c.deref-read-items.result.now c.loop-read.read-index c.read-item.result c.loop-read-test.true
    ∙ ap (λ (z : ReadRequest). z ∷ drop (suc c.loop-read.read-index) c.deref-read-items.result.now) (sym c.read-item.is) in
    let waits = subst (AllByRecursion (λ r. waiting_at c.args.table.now r.id ≡ Some r)) cons c.loop-read.invariant.3 in
    rw add-one (
      c.in_ok-look.ensures.picked,
      more-trans c.args.picks.now c.loop-read.picks c.look.new.self c.loop-read.invariant.1 c.in_ok-look.ensures.more,
      looked-step c.args.rules.now c.args.table.now c.args.before.now c.args.bounds.left c.args.from c.args.bounds.right c.loop-read.picks c.look.new.self
          c.read-item.result (drop (suc c.loop-read.read-index) c.deref-read-items.result.now) c.in_ok-look.ensures.more (rw cons at c.loop-read.invariant.2)
          (looked-from c.args.rules.now c.args.table.now c.args.before.now c.args.bounds.left c.args.from c.args.bounds.right c.look.new.self _ c.in_ok-look.ensures.looked),
      waits.1,
    )

pub returns-clause-looked : goal.returns-clause-looked
returns-clause-looked c = λ q. c.loop-read.invariant.2 q (none-left c.deref-read-items.result.now c.loop-read.read-index q c.loop-read-test.false)
