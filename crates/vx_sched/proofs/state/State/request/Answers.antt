use Rattle.std.proofs.Common.{◌≤◌, subst, sym}
use Rattle.vx_sched.specs.contracts.state.State.{the_view}
use Rattle.vx_sched.specs.Scheduling.{Scheduler}
use Rattle.vx_sched.proofs.SoundLemmas.{sound-requested}
use Rattle.vx_sched.proofs.state.State.request.Goals as goal

pub invariant_of-self-2 : goal.invariant_of-self-2
invariant_of-self-2 c =
    let above : (the_view c.self.inside).next ≤ c.args.request.id = subst (λ (s : Scheduler). s.next ≤ c.args.request.id) (sym c.self.view_is) c.requires.next in (
      c.self.invariant.0,
      rw c.in_ok-register.ensures.registered (sound-requested (the_view c.self.inside) c.args.request c.self.invariant.1 above),
    )
