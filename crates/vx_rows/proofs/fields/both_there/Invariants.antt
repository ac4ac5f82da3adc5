use Rattle.std.proofs.Common.{◌≡◌}
use Rattle.vx_rows.specs.Span.{span}
use Rattle.vx_rows.specs.Fields.{shown_and_there}
use Rattle.vx_rows.proofs.fields.both_there.Given as goal

abbrev pub invariant-loop-row : goal.invariant-loop-row
invariant-loop-row l = l.bits.items ≡ span (shown_and_there l.shown l.rows) 0 l.row
