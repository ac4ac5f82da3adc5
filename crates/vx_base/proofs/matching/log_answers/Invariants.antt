use Rattle.std.proofs.Common.{◌≡◌, ◌++◌, drop}
use Rattle.vx_base.specs.Asking.{logged}
use Rattle.vx_base.proofs.MatchingLemmas.{logged_outlines}
use Rattle.vx_base.proofs.matching.log_answers.Given as goal

abbrev pub invariant-loop-range : goal.invariant-loop-range
invariant-loop-range l = l.log.items ++ logged_outlines (drop l.range-index l.asked) l.left.items ≡ logged l.asked l.answers
