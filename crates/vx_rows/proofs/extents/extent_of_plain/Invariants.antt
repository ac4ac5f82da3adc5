use Rattle.std.proofs.Common.{Some, None}
use Rattle.std.specs.Ordering.{int_cmp}
use Rattle.vx_rows.specs.Span.{span}
use Rattle.vx_rows.specs.Columns.{int_row}
use Rattle.vx_rows.specs.Keys.{of_key}
use Rattle.vx_rows.proofs.ExtentLemmas.{Gathered}
use Rattle.vx_rows.proofs.extents.extent_of_plain.Given as goal

-- what the rows so far tell, with those still to come
abbrev pub invariant-loop-row : goal.invariant-loop-row
invariant-loop-row l = Gathered int_cmp (span (int_row l.ptype None l.bytes l.at) 0 l.count) l.row (Some (of_key l.ptype l.ends.least)) (Some (of_key l.ptype l.ends.greatest)) 0
