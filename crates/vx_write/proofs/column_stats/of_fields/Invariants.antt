use Rattle.std.proofs.Common.{◌≡◌, ◌++◌, ◌+◌, ◌≤◌, ◌<◌, ◌^◌, [], map, drop, take, length}
use Rattle.vx_rows.specs.Rows.{pairs_view, AllHaveRows}
use Rattle.vx_write.specs.Gathered.{running, counted_fields}
use Rattle.vx_write.proofs.column_stats.of_fields.Given as goal

-- the fields so far and those still to come
abbrev pub invariant-loop-at : goal.invariant-loop-at
invariant-loop-at l =
    (l.stats.items ++ map (running l.wanted) (counted_fields l.present (pairs_view (drop l.at l.fields))) ≡ map (running l.wanted) (counted_fields l.present (pairs_view l.fields)))
    × AllHaveRows (length l.present) (pairs_view (drop l.at l.fields))
