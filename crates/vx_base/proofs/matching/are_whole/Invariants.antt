use Rattle.std.proofs.Common.{◌≡◌, drop}
use Rattle.vx_base.specs.Asking.{logged, faulted}
use Rattle.vx_base.proofs.matching.are_whole.Given as goal

abbrev pub invariant-loop-at : goal.invariant-loop-at
invariant-loop-at l = faulted (logged l.asked l.answers) ≡ faulted (logged (drop l.at l.asked) (drop l.at l.answers))
