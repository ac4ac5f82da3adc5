use Rattle.std.proofs.Common.{◌≡◌, true, take, drop}
use Rattle.vx_rows.specs.ReadRows.{values_in}
use Rattle.vx_rows.specs.Builders.{pairs_view}
use Rattle.vx_rows.proofs.ReadingLemmas.{behind_built}
use Rattle.vx_rows.proofs.row_reading.+reading_rows.Given as goal

-- the fields so far have their row, and those still to come are to be read
abbrev pub invariant-read_fields-loop-at : goal.invariant-read_fields-loop-at
invariant-read_fields-loop-at l =
    goal.unvisited-read_fields-loop-at l
    × (behind_built (take l.at l.builders.items) (values_in l.is_first (pairs_view (drop l.at l.builders.items)) l.rest) ≡ values_in true (pairs_view l.fn.builders.items) l.fn.text)
