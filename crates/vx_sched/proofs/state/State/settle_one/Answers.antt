use Rattle.std.proofs.Common.{◌≡◌, List, ap, sym, subst, ◌∙◌}
use Rattle.vx_sched.specs.contracts.state.State.{the_view}
use Rattle.vx_sched.specs.Merging.{is_listed}
use Rattle.vx_sched.specs.Reads.{change, take_read, resolve_read}
use Rattle.vx_sched.specs.Scheduling.{Scheduler, MergesNow, taken, resolved}
use Rattle.vx_sched.proofs.SettleLemmas.{settled-sound}
use Rattle.vx_sched.specs.declared.request.ReadRequest.{ReadRequest}
use Rattle.vx_sched.proofs.state.State.settle_one.Goals as goal

pub invariant_of-self : goal.invariant_of-self
invariant_of-self c =
    let same : c.settle.new.self ≡ (resolved (taken (the_view c.self.inside) c.args.span.now) c.args.span.now).reads =
    c.settle.ensures ∙ ap (λ (rs : List ReadRequest). change (is_listed rs) resolve_read (change (is_listed rs) (take_read rs) c.self.inside.table)) c.requests.ensures.value in
    let merges : MergesNow (the_view c.self.inside) c.args.span.now = subst (λ (s : Scheduler). MergesNow s c.args.span.now) (sym c.self.view_is) c.requires in (
      c.self.invariant.0,
      rw same (settled-sound (the_view c.self.inside) c.args.span.now c.self.invariant.1 merges),
    )
