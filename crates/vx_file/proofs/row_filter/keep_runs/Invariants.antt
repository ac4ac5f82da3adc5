use Rattle.std.proofs.Common.{◌≡◌, ◌-◌, length}
use Rattle.vx_rows.specs.Rows.{column_view, dtype_of}
use Rattle.vx_file.proofs.KeepingLemmas.{Keeps}
use Rattle.vx_file.proofs.row_filter.keep_runs.Given as goal

-- the rows in front that are kept
abbrev pub invariant-loop-at : goal.invariant-loop-at
invariant-loop-at l = record {
  kept : Keeps l.mask (column_view l.column) l.at l.growing;
  typed : dtype_of (column_view l.column) ≡ dtype_of l.growing;
}

abbrev pub decreases-loop-at : goal.decreases-loop-at
decreases-loop-at l = length l.mask - l.at
