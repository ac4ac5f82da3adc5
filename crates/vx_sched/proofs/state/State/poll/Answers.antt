use Rattle.vx_sched.specs.contracts.state.State.{the_view}
use Rattle.vx_sched.proofs.SoundLemmas.{sound-polled}
use Rattle.vx_sched.proofs.state.State.poll.Goals as goal

pub invariant_of-self : goal.invariant_of-self
invariant_of-self c = (
  c.self.invariant.0,
  rw c.poll.ensures (sound-polled (the_view c.self.inside) c.args.id c.self.invariant.1),
)
