use Rattle.vx_sched.proofs.CallLemmas.{calls-replay}
use Rattle.vx_sched.proofs.ChainLemmas.{resolves}
use Rattle.vx_sched.proofs.law.law_of_calls.Goals as goal

pub returns-clause-replay : goal.returns-clause-replay
returns-clause-replay c = calls-replay

pub returns-clause-settling : goal.returns-clause-settling
returns-clause-settling c = resolves
