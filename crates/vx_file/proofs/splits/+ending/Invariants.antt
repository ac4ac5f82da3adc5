use Rattle.std.proofs.Common.{◌≡◌, ◌*◌, ◌+◌, ◌++◌, drop}
use Rattle.vx_data.specs.Layout.{layouts_of, tree_size}
use Rattle.vx_file.specs.Splits.{field_ends}
use Rattle.vx_file.proofs.SplitLemmas.{ChunkEnds}
use Rattle.vx_file.proofs.splits.+ending.Given as goal

abbrev pub decreases-push_ends : goal.decreases-push_ends
decreases-push_ends l = 2 * tree_size l.layout.now + 1

abbrev pub decreases-push_chunk_ends : goal.decreases-push_chunk_ends
decreases-push_chunk_ends l = 2 * tree_size l.layout.now

abbrev pub decreases-push_field_ends : goal.decreases-push_field_ends
decreases-push_field_ends l = 2 * tree_size l.layout.now

-- the ends of the chunks in front
abbrev pub invariant-push_chunk_ends-loop-chunk : goal.invariant-push_chunk_ends-loop-chunk
invariant-push_chunk_ends-loop-chunk l = ChunkEnds l.fn.ends.items l.first l.chunk-items (drop l.chunk-index l.chunk-items) l.ends.items l.at

-- the ends of the fields in front
abbrev pub invariant-push_field_ends-loop-field : goal.invariant-push_field_ends-loop-field
invariant-push_field_ends-loop-field l =
    l.ends.items ++ field_ends l.first (layouts_of (drop l.field-index l.field-items)) ≡ l.fn.ends.items ++ field_ends l.first (layouts_of l.field-items)
