use Rattle.std.proofs.Common.{◌≡◌, ◌++◌, ◌+◌, ◌≤◌, ◌<◌, ◌^◌, [], map, drop, take, length}
use Rattle.vx_rows.specs.RowStats.{stats_of}
use Rattle.vx_write.proofs.column_stats.finish.Given as goal

abbrev pub invariant-loop-one : goal.invariant-loop-one
invariant-loop-one l = l.sets.items ++ map (λ r. stats_of r.wanted r.seen) l.one-iterator.rest.items ≡ map (λ r. stats_of r.wanted r.seen) l.fn.stats.items
