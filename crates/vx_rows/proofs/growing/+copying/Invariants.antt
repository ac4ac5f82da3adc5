use Rattle.std.proofs.Common.{◌≡◌, drop}
use Rattle.vx_rows.specs.Rows.{viewed}
use Rattle.vx_rows.specs.Trees.{before}
use Rattle.vx_rows.specs.Builders.{pairs_view}
use Rattle.vx_rows.proofs.growing.+copying.Given as goal

-- the columns so far and those still to come
abbrev pub invariant-copy_all-loop-at : goal.invariant-copy_all-loop-at
invariant-copy_all-loop-at l = before (viewed l.columns.items) (pairs_view (drop l.at l.builders)) ≡ pairs_view l.builders
