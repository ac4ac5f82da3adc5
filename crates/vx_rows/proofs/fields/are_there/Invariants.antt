use Rattle.std.proofs.Common.{◌≡◌, ◌-◌}
use Rattle.vx_rows.specs.Span.{every}
use Rattle.vx_rows.specs.Fields.{is_there}
use Rattle.vx_rows.proofs.fields.are_there.Given as goal

abbrev pub invariant-loop-row : goal.invariant-loop-row
invariant-loop-row l = every (is_there l.rows) l.row (l.count - l.row) ≡ every (is_there l.rows) 0 l.count
