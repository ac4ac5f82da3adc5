use Rattle.std.proofs.Common.{◌≡◌, ◌++◌, drop}
use Rattle.vx_file.proofs.statistics.sets_of.Given as goal

-- the sets so far and those still to come
abbrev pub invariant-loop-set : goal.invariant-loop-set
invariant-loop-set l = l.copies.items ++ drop l.set-index l.sets ≡ l.sets
