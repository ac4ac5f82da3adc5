use Rattle.std.proofs.Common.{◌≡◌, ℕ, List, ◌*◌, ◌+◌, drop, map}
use Rattle.std.specs.Prelude.{string_bytes}
use Rattle.vx_data.specs.Layout.{layouts_of, tree_size, dtype_of as type_of_tree}
use Rattle.vx_source.specs.Sources.{SameSource}
use Rattle.vx_file.specs.Scans.{seen}
use Rattle.vx_file.proofs.ReadingLemmas.{Progress, ReadChunks}
use Rattle.vx_file.proofs.layout_reading.+reading.Given as goal

abbrev pub decreases-read_children : goal.decreases-read_children
decreases-read_children g l = 2 * tree_size l.layout.now

abbrev pub decreases-read_chunks : goal.decreases-read_chunks
decreases-read_chunks g l = 2 * tree_size l.layout.now

abbrev pub decreases-read_layout : goal.decreases-read_layout
decreases-read_layout g l = 2 * tree_size l.layout.now + 1

-- the children in front are read, and the source serves the same files
abbrev pub invariant-read_children-loop-child : goal.invariant-read_children-loop-child
invariant-read_children-loop-child g l =
    let source = g.S.SegmentSource in
    record {
      progress : Progress (source.serves l.fn.source) (source.state l.fn.source) (source.state l.source) (map string_bytes l.ids) (layouts_of l.children) (layouts_of (drop l.child-index l.children)) (seen l.columns.items);
      serves : (file : List ℕ) → source.serves l.fn.source file → source.serves l.source file;
      steady : (file : List ℕ) → source.never_fails l.fn.source file → source.never_fails l.source file × ((source.state l.source).faults ≡ (source.state l.fn.source).faults);
    }

-- the chunks in front are read and joined, and the source serves the same files
abbrev pub invariant-read_chunks-loop-child : goal.invariant-read_chunks-loop-child
invariant-read_chunks-loop-child g l =
    let source = g.S.SegmentSource in
    record {
      chunks : ReadChunks (source.serves l.fn.source) (source.state l.fn.source) (source.state l.source) (map string_bytes l.ids) (layouts_of l.children) (layouts_of (drop l.child-index l.children)) (type_of_tree l.layout) l.rows;
      same : SameSource (source.state l.fn.source) (source.state l.source);
      serves : (file : List ℕ) → source.serves l.fn.source file → source.serves l.source file;
      steady : (file : List ℕ) → source.never_fails l.fn.source file → source.never_fails l.source file × ((source.state l.source).faults ≡ (source.state l.fn.source).faults);
    }
