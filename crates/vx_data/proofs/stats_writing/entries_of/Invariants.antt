use Rattle.std.proofs.Common.{◌≡◌, ◌++◌}
use Rattle.vx_data.proofs.SetsWritten.{rest_entries}
use Rattle.vx_data.proofs.stats_writing.entries_of.Given as goal

-- the entries so far and those still to come
abbrev pub invariant-loop-at : goal.invariant-loop-at
invariant-loop-at l = l.entries.items ++ rest_entries l.sets l.dtypes l.at ≡ rest_entries l.sets l.dtypes 0
