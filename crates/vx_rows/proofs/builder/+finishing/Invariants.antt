use Rattle.std.proofs.Common.{◌≡◌}
use Rattle.vx_rows.specs.Rows.{viewed}
use Rattle.vx_rows.specs.Builders.{built}
use Rattle.vx_rows.proofs.builder.+finishing.Given as goal

-- the fields so far
abbrev pub invariant-finish_all-loop-name : goal.invariant-finish_all-loop-name
invariant-finish_all-loop-name l = viewed l.columns.items ≡ built l.yielded
