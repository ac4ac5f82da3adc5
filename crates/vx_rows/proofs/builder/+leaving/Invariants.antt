use Rattle.std.proofs.Common.{◌≡◌, take, drop}
use Rattle.vx_rows.specs.Trees.{before}
use Rattle.vx_rows.specs.ReadRows.{all_absent}
use Rattle.vx_rows.specs.Builders.{built, pairs_view}
use Rattle.vx_rows.proofs.builder.+leaving.Given as goal

-- the fields so far have their row, and those still to come are to have one
abbrev pub invariant-push_all_absent-loop-at : goal.invariant-push_all_absent-loop-at
invariant-push_all_absent-loop-at l =
    goal.unvisited-push_all_absent-loop-at l
    × (before (built (take l.at l.builders.items)) (all_absent (pairs_view (drop l.at l.builders.items))) ≡ all_absent (pairs_view l.fn.builders.items))
