use Rattle.std.proofs.Common.{◌≡◌, ◌+◌, ◌-◌, ◌*◌, ◌≤◌}
use Rattle.vx_rows.specs.Rows.{column_view}
use Rattle.vx_write.specs.Gathering.{gathered_from}
use Rattle.vx_write.proofs.gathering.gather.Given as goal

-- the blocks so far and those still to come
abbrev pub invariant-loop-block : goal.invariant-loop-block
invariant-loop-block l = record {
  places : l.at + l.rows * (l.block-end - l.block) ≡ l.from + l.rows * l.block-end;
  further : l.from ≤ l.at;
  same : gathered_from l.rows l.target (column_view l.column) l.gathered l.at (l.block-end - l.block) ≡ gathered_from l.rows l.target (column_view l.column) l.before l.from l.block-end;
}
