use Rattle.std.specs.Ordering.{bool_cmp}
use Rattle.vx_rows.specs.RowStats.{masked}
use Rattle.vx_rows.proofs.ExtentLemmas.{Gathered}
use Rattle.vx_rows.proofs.extents.extent_of_flags.Given as goal

-- what the rows so far tell, with those still to come
abbrev pub invariant-loop-row : goal.invariant-loop-row
invariant-loop-row l = Gathered bool_cmp (masked l.present l.column.rows) l.row l.min l.max l.nulls
