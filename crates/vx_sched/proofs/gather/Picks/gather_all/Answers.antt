use Rattle.std.proofs.Common.{◌≡◌, suc, ◌<◌, ◌∷◌, drop, drop-cons, add-one, length, ap, sym, ◌∙◌, rules}
use Rattle.vx_sched.specs.Picks.{entries_of}
use Rattle.vx_sched.specs.declared.request.ReadRequest.{ReadRequest}
use Rattle.vx_sched.proofs.LaterLemmas.{gather-step}
use Rattle.vx_sched.proofs.gather.Picks.gather_all.Goals as goal

pub loop-at-preserved : goal.loop-at-preserved
loop-at-preserved c =
    let later = c.loop-at.self.later.items in
    let inside : c.loop-at.at < length later = search rules in
    let cons : drop c.loop-at.at later ≡ c.index-read.result.now ∷ drop (suc c.loop-at.at) later =
    drop-cons later c.loop-at.at c.index-read.result.now inside ∙ ap (λ (z : ReadRequest). z ∷ drop (suc c.loop-at.at) later) (sym c.index-read.ensures) in
    rw add-one (
      gather-step c.loop-at.self.reads.entries c.insert.new.self.entries c.index-read.result.now (drop (suc c.loop-at.at) later) (entries_of c.args.self.now)
          (rw cons at c.loop-at.invariant.0) c.requires.placed c.requires.order c.in_ok-insert.ensures.entries,
      c.loop-at.invariant.1,
      c.loop-at.invariant.2,
      c.loop-at.invariant.3,
      c.loop-at.invariant.4,
    )
