use Rattle.vx_sched.proofs.LawLemmas.{uncovered-merges}
use Rattle.vx_sched.proofs.LawRuns.{keeps}
use Rattle.vx_sched.proofs.law.scheduling_law.Goals as goal

pub returns-clause-keeps : goal.returns-clause-keeps
returns-clause-keeps c = keeps

pub returns-clause-uncovered : goal.returns-clause-uncovered
returns-clause-uncovered c = uncovered-merges
