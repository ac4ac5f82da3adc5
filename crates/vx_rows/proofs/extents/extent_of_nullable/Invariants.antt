use Rattle.std.proofs.Common.{option_map}
use Rattle.std.specs.Ordering.{int_cmp}
use Rattle.vx_rows.specs.Keys.{of_key}
use Rattle.vx_rows.specs.RowStats.{masked}
use Rattle.vx_rows.specs.declared.extents.Ends.{Ends}
use Rattle.vx_rows.proofs.ExtentLemmas.{Gathered}
use Rattle.vx_rows.proofs.extents.extent_of_nullable.Given as goal

-- what the rows so far tell, with those still to come
abbrev pub invariant-loop-row : goal.invariant-loop-row
invariant-loop-row l =
    Gathered int_cmp (masked l.present l.column.rows) l.row
    (option_map (of_key l.ptype) (option_map (λ (e : Ends). e.least) l.ends)) (option_map (of_key l.ptype) (option_map (λ (e : Ends). e.greatest) l.ends)) l.nulls
