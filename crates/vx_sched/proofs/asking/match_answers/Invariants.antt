use Rattle.std.proofs.Common.{◌≡◌, ◌++◌, drop}
use Rattle.vx_sched.proofs.AnswerLemmas.{outcomes_of}
use Rattle.vx_sched.proofs.asking.match_answers.Given as goal

abbrev pub invariant-loop-range : goal.invariant-loop-range
invariant-loop-range l = l.all.items ++ outcomes_of (drop l.range-index l.asked) l.answers.items ≡ outcomes_of l.asked l.fn.answers.items
