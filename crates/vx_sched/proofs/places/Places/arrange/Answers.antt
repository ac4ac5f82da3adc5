use Rattle.vx_sched.proofs.places.Places.arrange.Goals as goal

pub returns-then-self-len : goal.returns-then-self-len
returns-then-self-len c longest t = c.arrange_all.ensures longest (c.clear.ensures longest t)
