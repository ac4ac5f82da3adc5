use Rattle.vx_sched.proofs.TakenLemmas.{above-absent, above-rise}
use Rattle.vx_sched.proofs.taken.is_above.Goals as goal

pub returns-clause-absent : goal.returns-clause-absent
returns-clause-absent c = above-absent c.args.numbers.now c.args.number c.requires c.if-count-eq0.false

pub returns-clause-rise : goal.returns-clause-rise
returns-clause-rise c = above-rise c.args.numbers.now c.args.number c.requires c.if-count-eq0.false
