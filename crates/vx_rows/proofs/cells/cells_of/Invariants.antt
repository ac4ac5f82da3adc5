use Rattle.std.proofs.Common.{◌≡◌, ◌++◌, drop}
use Rattle.std.specs.List.{flat_map}
use Rattle.vx_rows.specs.Written.{cell}
use Rattle.vx_rows.proofs.cells.cells_of.Given as goal

abbrev pub invariant-loop-row : goal.invariant-loop-row
invariant-loop-row l = l.bytes.items ++ flat_map (cell l.ptype) (drop l.row-index l.rows) ≡ flat_map (cell l.ptype) l.rows
