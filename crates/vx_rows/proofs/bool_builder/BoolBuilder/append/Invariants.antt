use Rattle.std.proofs.Common.{◌≡◌}
use Rattle.vx_rows.proofs.JoinLemmas.{bools_upto}
use Rattle.vx_rows.proofs.bool_builder.BoolBuilder.append.Given as goal

-- the rows so far
abbrev pub invariant-loop-row : goal.invariant-loop-row
invariant-loop-row l = l.self ≡ bools_upto l.fn.self l.column.rows l.row
