use Rattle.std.proofs.Common.{◌≡◌, ◌++◌, map, drop}
use Rattle.vx_data.specs.StatsWritten.{entry_pieces}
use Rattle.vx_data.proofs.stats_writing.tables_of.Given as goal

-- the tables so far and those still to come
abbrev pub invariant-loop-entry : goal.invariant-loop-entry
invariant-loop-entry l = l.tables.items ++ map entry_pieces (drop l.entry-index l.entries) ≡ map entry_pieces l.entries
