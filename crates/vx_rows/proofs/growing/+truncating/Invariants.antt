use Rattle.std.proofs.Common.{◌≡◌, take, drop}
use Rattle.vx_rows.specs.Trees.{before}
use Rattle.vx_rows.specs.Builders.{built, pairs_view}
use Rattle.vx_rows.specs.Parts.{field_parts}
use Rattle.vx_rows.proofs.growing.+truncating.Given as goal

-- the fields so far are cut, and those still to come are to be
abbrev pub invariant-truncate_all-loop-at : goal.invariant-truncate_all-loop-at
invariant-truncate_all-loop-at l =
    goal.unvisited-truncate_all-loop-at l
    × (before (built (take l.at l.builders.items)) (field_parts 0 l.rows (pairs_view (drop l.at l.builders.items))) ≡ field_parts 0 l.rows (pairs_view l.fn.builders.items))
