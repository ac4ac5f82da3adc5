use Rattle.std.proofs.Common.{◌≡◌, ◌≤◌, ◌*◌, ◌+◌, true, map, take, drop}
use Rattle.vx_tables.specs.Block.{listed}
use Rattle.std.specs.Prelude.{string_bytes}
use Rattle.vx_data.specs.Layout.{layouts_of, tree_size, trees_size}
use Rattle.vx_data.specs.LayoutWritten.{all_use, trees_pieces}
use Rattle.vx_data.proofs.layout_table.+writing.Given as goal

abbrev pub decreases-table_of : goal.decreases-table_of
decreases-table_of l = 2 * tree_size l.layout.now

abbrev pub decreases-tables_of : goal.decreases-tables_of
decreases-tables_of l = 2 * trees_size (layouts_of l.layouts.now) + 1

-- the tables of the layouts so far; the ids of those still to come are among these
abbrev pub invariant-tables_of-loop-at : goal.invariant-tables_of-loop-at
invariant-tables_of-loop-at l =
    (l.tables ≡ listed (trees_pieces (map string_bytes l.ids) (layouts_of (take l.at l.layouts))))
    × (all_use (map string_bytes l.ids) (layouts_of (drop l.at l.layouts)) ≡ true)
    × (trees_size (layouts_of (drop l.at l.layouts)) ≤ trees_size (layouts_of l.layouts))
