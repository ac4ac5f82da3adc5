use Rattle.std.proofs.Common.{◌≡◌, ◌++◌, map, drop}
use Rattle.vx_base.specs.Outlines.{outline_of}
use Rattle.vx_base.proofs.matching.all_outlined.Given as goal

abbrev pub invariant-loop-answer : goal.invariant-loop-answer
invariant-loop-answer l = l.all.items ++ map outline_of (drop l.answer-index l.answers) ≡ map outline_of l.answers
