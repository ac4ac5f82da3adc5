use Rattle.std.proofs.Common.{◌≡◌, ◌+◌, ◌++◌, map, drop}
use Rattle.vx_data.specs.Layout.{layouts_of, rows_sum}
use Rattle.vx_data.specs.ChildTypes.{child_view, chunk_types}
use Rattle.vx_data.proofs.layout_child_type.chunk_types.Given as goal

-- the chunks and rows so far, and those still to come
abbrev pub invariant-loop-index : goal.invariant-loop-index
invariant-loop-index l =
    (map child_view l.types.items ++ chunk_types l.index l.first_row (layouts_of (drop l.index l.children)) ≡ chunk_types 0 0 (layouts_of l.children))
    × (l.first_row + rows_sum (drop l.index l.children) ≡ rows_sum l.children)
