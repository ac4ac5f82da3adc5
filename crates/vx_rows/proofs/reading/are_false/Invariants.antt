use Rattle.std.proofs.Common.{◌≡◌, ◌-◌}
use Rattle.vx_rows.specs.Span.{every}
use Rattle.vx_rows.specs.Arrays.{is_false}
use Rattle.vx_rows.proofs.reading.are_false.Given as goal

abbrev pub invariant-loop-row : goal.invariant-loop-row
invariant-loop-row l = every (is_false l.present l.bytes l.at) l.row (l.rows - l.row) ≡ every (is_false l.present l.bytes l.at) 0 l.rows
