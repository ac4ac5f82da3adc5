use Rattle.std.proofs.Common.{◌≡◌, ◌≤◌, ◌*◌, ◌+◌, drop}
use Rattle.vx_data.specs.Layout.{layouts_of}
use Rattle.vx_data.specs.Written.{left_of}
use Rattle.vx_data.specs.LayoutWritten.{trees_visits}
use Rattle.vx_data.proofs.layout_writing.+visiting.Given as goal

abbrev pub decreases-visits_left : goal.decreases-visits_left
decreases-visits_left l = 2 * l.visits

abbrev pub decreases-all_left : goal.decreases-all_left
decreases-all_left l = 2 * l.visits + 1

-- what is left behind those still to come is left behind all
abbrev pub invariant-all_left-loop-at : goal.invariant-all_left-loop-at
invariant-all_left-loop-at l =
    (left_of (trees_visits (layouts_of (drop l.at l.layouts))) l.left ≡ left_of (trees_visits (layouts_of l.layouts)) l.visits) × (l.left ≤ l.visits)
