use Rattle.std.proofs.Common.{map}
use Rattle.vx_rows.specs.RowStats.{masked, there}
use Rattle.vx_rows.proofs.ExtentLemmas.{CountedNulls}
use Rattle.vx_rows.proofs.extents.extent_of_structs.Given as goal

-- the nulls so far, with those still to come
abbrev pub invariant-loop-row : goal.invariant-loop-row
invariant-loop-row l = CountedNulls (masked l.present (map there l.rows.present)) l.row l.nulls
