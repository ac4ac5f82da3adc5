use Rattle.std.proofs.Common.{◌≡◌, ◌≤◌, ◌*◌, ◌+◌, map, drop}
use Rattle.std.specs.Prelude.{string_bytes}
use Rattle.vx_data.specs.Layout.{layouts_of, tree_size, trees_size}
use Rattle.vx_data.specs.LayoutIds.{all_behind}
use Rattle.vx_data.proofs.layout_ids.+naming.Given as goal

abbrev pub decreases-push_used : goal.decreases-push_used
decreases-push_used l = 2 * tree_size l.layout.now

abbrev pub decreases-push_all : goal.decreases-push_all
decreases-push_all l = 2 * trees_size (layouts_of l.layouts.now) + 1

-- the ids behind those still to come
abbrev pub invariant-push_all-loop-at : goal.invariant-push_all-loop-at
invariant-push_all-loop-at l =
    (all_behind (map string_bytes l.ids.items) (layouts_of (drop l.at l.layouts)) ≡ all_behind (map string_bytes l.fn.ids.items) (layouts_of l.layouts))
    × (trees_size (layouts_of (drop l.at l.layouts)) ≤ trees_size (layouts_of l.layouts))
