use Rattle.std.proofs.Common.{◌≡◌}
use Rattle.vx_data.proofs.Sets.{rest_sets, sets_before}
use Rattle.vx_data.proofs.stats_reading.all_of.Given as goal

-- the sets so far and those still to come
abbrev pub invariant-loop-at : goal.invariant-loop-at
invariant-loop-at l = sets_before l.sets.items (rest_sets l.entries l.dtypes l.at) ≡ rest_sets l.entries l.dtypes 0
