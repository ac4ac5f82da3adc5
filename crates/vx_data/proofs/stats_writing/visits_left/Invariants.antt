use Rattle.std.proofs.Common.{◌≡◌, drop}
use Rattle.std.specs.Prelude.{sum_by}
use Rattle.vx_data.specs.StatsWritten.{entry_visits}
use Rattle.vx_data.specs.Written.{left_of}
use Rattle.vx_data.proofs.stats_writing.visits_left.Given as goal

-- what is left of the visits still to come
abbrev pub invariant-loop-entry : goal.invariant-loop-entry
invariant-loop-entry l = left_of (sum_by entry_visits (drop l.entry-index l.entries)) l.left ≡ left_of (sum_by entry_visits l.entries) l.visits
