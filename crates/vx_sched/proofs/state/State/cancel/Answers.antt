use Rattle.vx_sched.specs.contracts.state.State.{the_view}
use Rattle.vx_sched.proofs.SoundLemmas.{sound-dropped}
use Rattle.vx_sched.proofs.state.State.cancel.Goals as goal

pub invariant_of-self : goal.invariant_of-self
invariant_of-self c = (
  c.self.invariant.0,
  rw c.cancel.ensures (sound-dropped (the_view c.self.inside) c.args.id c.self.invariant.1),
)
