use Rattle.std.proofs.Common.{arith}
use Rattle.std.proofs.lemmas.Grind.{common_steps}
use Rattle.vx_sched.proofs.SpanLemmas.{within-from_outside}
use Rattle.vx_sched.proofs.span.first_outside.Goals as goal

pub returns-clause-none : goal.returns-clause-none
returns-clause-none c = λ _. within-from_outside c.args.range.now.start c.args.range.now.end c.args.reads.now (grind (arith, common_steps))
