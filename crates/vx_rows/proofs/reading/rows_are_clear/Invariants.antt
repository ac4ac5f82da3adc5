use Rattle.std.proofs.Common.{◌≡◌, ◌-◌}
use Rattle.vx_rows.specs.Span.{every}
use Rattle.vx_rows.specs.Columns.{is_clear}
use Rattle.vx_rows.proofs.reading.rows_are_clear.Given as goal

abbrev pub invariant-loop-row : goal.invariant-loop-row
invariant-loop-row l = every (is_clear l.ptype l.present l.bytes l.at) l.row (l.rows - l.row) ≡ every (is_clear l.ptype l.present l.bytes l.at) 0 l.rows
