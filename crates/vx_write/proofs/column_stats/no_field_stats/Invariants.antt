use Rattle.std.proofs.Common.{◌≡◌, ◌++◌, ◌+◌, ◌≤◌, ◌<◌, ◌^◌, [], map, drop, take, length}
use Rattle.vx_data.specs.Dtype.{pairs_view}
use Rattle.vx_rows.specs.ReadRows.{no_rows_each}
use Rattle.vx_write.specs.Gathered.{running, counted_fields}
use Rattle.vx_write.proofs.column_stats.no_field_stats.Given as goal

abbrev pub invariant-loop-at : goal.invariant-loop-at
invariant-loop-at l =
    l.stats.items ++ map (running l.wanted) (counted_fields [] (no_rows_each (pairs_view (drop l.at l.fields)))) ≡ map (running l.wanted) (counted_fields [] (no_rows_each (pairs_view l.fields)))
