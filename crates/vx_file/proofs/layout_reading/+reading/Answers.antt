use Rattle.std.proofs.Common.{◌≡◌, ◌≤◌, ◌+◌, ◌++◌, ◌∷◌, [], Err, length, drop, map, rules, refl, sym, ap, subst, ◌∙◌, arith}
use Rattle.std.specs.Prelude.{string_bytes}
use Rattle.vx_data.specs.Layout.{layouts_of, kind_of, segments_of, dtype_of as type_of_tree, rows_of as tree_rows}
use Rattle.vx_rows.specs.Rows.{column_view}
use Rattle.vx_rows.specs.ReadRows.{no_rows}
use Rattle.vx_file.specs.Scans.{seen, bytes_in, flats_of_all, ScanFails, AreRead, AreParts}
use Rattle.vx_file.proofs.JoiningLemmas.{chunks_typed, columns_are, structs_typed, joined_none, joined_more}
use Rattle.vx_file.proofs.ReadingLemmas.{Progress, progress_none, progress_more, progress_fails, source_earlier, progress_reads, progress_parts, next_child, no_child, child_smaller, parts_are, flats_chunked, flats_struct, chunked_is, chunk_typed, chunk_even, same_source, same_then}
use Rattle.vx_file.proofs.layout_reading.+reading.Goals as goal

pub read_children-loop-child-init : goal.read_children-loop-child-init
read_children-loop-child-init g t c =
    let source = g.S.SegmentSource in
    record {
      progress = subst (λ cs. Progress (source.serves c.args.source.now) (source.state c.args.source.now) (source.state c.args.source.now) (map string_bytes c.args.ids.now)
          (layouts_of c.fitted_children-children.result.now) (layouts_of c.fitted_children-children.result.now) (seen cs)) (sym c.new-columns.ensures.items)
          (progress_none (source.serves c.args.source.now) (source.state c.args.source.now) (map string_bytes c.args.ids.now) (layouts_of c.fitted_children-children.result.now));
      serves = λ file h. h;
      steady = λ file h. (h, refl);
    }

pub read_children-read_layout-requires : goal.read_children-read_layout-requires
read_children-read_layout-requires g t c =
    let smaller = child_smaller c.args.layout.now c.fitted_children-children.result.now c.loop-child.child-index c.child-item.result c.fitted_children-children.ensures.below c.loop-child-test.true c.child-item.is in
    λ κs h. (omega (arith, smaller, c.decreases), h)

pub read_children-returns-in_err-column-clause-fails : goal.read_children-returns-in_err-column-clause-fails
read_children-returns-in_err-column-clause-fails g t c = λ e is file s.
    let source = g.S.SegmentSource in
    let i = c.loop-child.invariant in
    let children = c.fitted_children-children.result.now in
    let was : c.read_layout.result ≡ Err e = search rules in
    let start = c.args.source.now in
    let ids = map string_bytes c.args.ids.now in
    let here = subst (λ rest. Progress (source.serves start) (source.state start) (source.state c.loop-child.source) ids (layouts_of children) rest (seen c.loop-child.columns.items))
    (next_child children c.loop-child.child-index c.child-item.result c.loop-child-test.true c.child-item.is) i.progress in
    subst (λ ts. ScanFails (bytes_in file (source.state start).table) ids (source.state start) (source.state c.read_layout.new.source) (flats_of_all ts) e) c.fitted_children-children.ensures.below
    (progress_fails (source.serves start) (source.serves c.loop-child.source) (source.state start) (source.state c.loop-child.source) ids (layouts_of children) c.child-item.result
    (layouts_of (drop (c.loop-child.child-index + 1) children)) (seen c.loop-child.columns.items) here i.serves (source.state c.read_layout.new.source) e (c.read_layout.ensures.fails e was) file s)

pub read_children-returns-in_err-column-clause-cause : goal.read_children-returns-in_err-column-clause-cause
read_children-returns-in_err-column-clause-cause g t c = λ e is.
    let source = g.S.SegmentSource in
    let was : c.read_layout.result ≡ Err e = search rules in
    source_earlier (source.state c.args.source.now) (source.state c.loop-child.source) (source.state c.read_layout.new.source) e c.loop-child.invariant.progress.same (c.read_layout.ensures.cause e was)

pub read_children-returns-in_err-column-clause-steady : goal.read_children-returns-in_err-column-clause-steady
read_children-returns-in_err-column-clause-steady g t c = λ file h.
    let before = c.loop-child.invariant.steady file h in
    let here = c.read_layout.ensures.steady file before.0 in
    (here.0, here.1 ∙ before.1)

pub read_children-loop-child-preserved : goal.read_children-loop-child-preserved
read_children-loop-child-preserved g t c =
    let source = g.S.SegmentSource in
    let i = c.loop-child.invariant in
    let children = c.fitted_children-children.result.now in
    let start = c.args.source.now in
    let ids = map string_bytes c.args.ids.now in
    let here = subst (λ rest. Progress (source.serves start) (source.state start) (source.state c.loop-child.source) ids (layouts_of children) rest (seen c.loop-child.columns.items))
    (next_child children c.loop-child.child-index c.child-item.result c.loop-child-test.true c.child-item.is) i.progress in
    record {
      progress = progress_more (source.serves start) (source.serves c.loop-child.source) (source.state start) (source.state c.loop-child.source) ids (layouts_of children) c.child-item.result
          (layouts_of (drop (c.loop-child.child-index + 1) children)) (seen c.loop-child.columns.items) here i.serves (source.state c.read_layout.new.source) (column_view c.in_ok-column.column)
          (seen c.add.new.columns.items) c.in_ok-column.ensures.reads c.in_ok-column.ensures.typed c.read_layout.ensures.same c.in_ok-add.ensures;
      serves = λ file s. c.read_layout.ensures.serves file (i.serves file s);
      steady = λ file h. let before = i.steady file h in let here = c.read_layout.ensures.steady file before.0 in (here.0, here.1 ∙ before.1);
    }

pub read_children-returns-clause-reads : goal.read_children-returns-clause-reads
read_children-returns-clause-reads g t c =
    let source = g.S.SegmentSource in
    let children = c.fitted_children-children.result.now in
    let start = c.args.source.now in
    let ids = map string_bytes c.args.ids.now in
    let past : length children ≤ c.loop-child.child-index = search rules in
    let here = subst (λ rest. Progress (source.serves start) (source.state start) (source.state c.loop-child.source) ids (layouts_of children) rest (seen c.loop-child.columns.items))
    (no_child children c.loop-child.child-index past) c.loop-child.invariant.progress in
    subst (λ ts. AreRead (source.serves start) (source.state start) ids ts (seen c.loop-child.columns.items)) c.fitted_children-children.ensures.below
    (progress_reads (source.serves start) (source.state start) (source.state c.loop-child.source) ids (layouts_of children) (seen c.loop-child.columns.items) here)

pub read_children-returns-clause-parts : goal.read_children-returns-clause-parts
read_children-returns-clause-parts g t c =
    let source = g.S.SegmentSource in
    let children = c.fitted_children-children.result.now in
    let start = c.args.source.now in
    let ids = map string_bytes c.args.ids.now in
    let past : length children ≤ c.loop-child.child-index = search rules in
    let here = subst (λ rest. Progress (source.serves start) (source.state start) (source.state c.loop-child.source) ids (layouts_of children) rest (seen c.loop-child.columns.items))
    (no_child children c.loop-child.child-index past) c.loop-child.invariant.progress in
    let a = c.args.layout.now in
    parts_are (kind_of a) (type_of_tree a) (tree_rows a) (segments_of a) children (seen c.loop-child.columns.items) c.fitted_children-children.ensures.fits
    (progress_parts (source.serves start) (source.state start) (source.state c.loop-child.source) ids (layouts_of children) (seen c.loop-child.columns.items) here)

-- ---- chunks

pub read_chunks-loop-child-init : goal.read_chunks-loop-child-init
read_chunks-loop-child-init g t c =
    let source = g.S.SegmentSource in
    let d = type_of_tree c.args.layout.now in
    record {
      chunks = record {
        front = [];
        progress = progress_none (source.serves c.args.source.now) (source.state c.args.source.now) (map string_bytes c.args.ids.now) (layouts_of c.fitted_children-children.result.now);
        joined = joined_none d c.in_ok-rows.rows (c.in_ok-rows.ensures.value ∙ ap no_rows c.dtype.ensures) (c.in_ok-rows.ensures.typed ∙ c.dtype.ensures);
      };
      same = same_source (source.state c.args.source.now);
      serves = λ file h. h;
      steady = λ file h. (h, refl);
    }

pub read_chunks-read_layout-requires : goal.read_chunks-read_layout-requires
read_chunks-read_layout-requires g t c =
    let smaller = child_smaller c.args.layout.now c.fitted_children-children.result.now c.loop-child.child-index c.child-item.result c.fitted_children-children.ensures.below c.loop-child-test.true c.child-item.is in
    λ κs h. (omega (arith, smaller, c.decreases), h)

pub read_chunks-returns-in_err-column-clause-fails : goal.read_chunks-returns-in_err-column-clause-fails
read_chunks-returns-in_err-column-clause-fails g t c = λ e is file s.
    let source = g.S.SegmentSource in
    let i = c.loop-child.invariant in
    let children = c.fitted_children-children.result.now in
    let was : c.read_layout.result ≡ Err e = search rules in
    let start = c.args.source.now in
    let ids = map string_bytes c.args.ids.now in
    let front = i.chunks.front in
    let here = subst (λ rest. Progress (source.serves start) (source.state start) (source.state c.loop-child.source) ids (layouts_of children) rest front)
    (next_child children c.loop-child.child-index c.child-item.result c.loop-child-test.true c.child-item.is) i.chunks.progress in
    subst (λ fs. ScanFails (bytes_in file (source.state start).table) ids (source.state start) (source.state c.read_layout.new.source) fs e) (sym (flats_chunked c.args.layout.now c.requires))
    (subst (λ ts. ScanFails (bytes_in file (source.state start).table) ids (source.state start) (source.state c.read_layout.new.source) (flats_of_all ts) e) c.fitted_children-children.ensures.below
    (progress_fails (source.serves start) (source.serves c.loop-child.source) (source.state start) (source.state c.loop-child.source) ids (layouts_of children) c.child-item.result
    (layouts_of (drop (c.loop-child.child-index + 1) children)) front here i.serves (source.state c.read_layout.new.source) e (c.read_layout.ensures.fails e was) file s))

pub read_chunks-returns-in_err-column-clause-cause : goal.read_chunks-returns-in_err-column-clause-cause
read_chunks-returns-in_err-column-clause-cause g t c = λ e is.
    let source = g.S.SegmentSource in
    let was : c.read_layout.result ≡ Err e = search rules in
    source_earlier (source.state c.args.source.now) (source.state c.loop-child.source) (source.state c.read_layout.new.source) e c.loop-child.invariant.same (c.read_layout.ensures.cause e was)

pub read_chunks-returns-in_err-column-clause-steady : goal.read_chunks-returns-in_err-column-clause-steady
read_chunks-returns-in_err-column-clause-steady g t c = λ file h.
    let before = c.loop-child.invariant.steady file h in
    let here = c.read_layout.ensures.steady file before.0 in
    (here.0, here.1 ∙ before.1)

pub read_chunks-take_rows-requires-clause-typed : goal.read_chunks-take_rows-requires-clause-typed
read_chunks-take_rows-requires-clause-typed g t c =
    let a = c.args.layout.now in
    let children = c.fitted_children-children.result.now in
    c.in_ok-column.ensures.typed.0
    ∙ chunk_typed (kind_of a) (type_of_tree a) (tree_rows a) (segments_of a) children c.loop-child.child-index c.child-item.result c.requires c.fitted_children-children.ensures.fits c.loop-child-test.true c.child-item.is
    ∙ sym c.loop-child.invariant.chunks.joined.typed

pub read_chunks-take_rows-requires-clause-even : goal.read_chunks-take_rows-requires-clause-even
read_chunks-take_rows-requires-clause-even g t c = chunk_even c.child-item.result (column_view c.in_ok-column.column) c.in_ok-column.ensures.typed

pub read_chunks-loop-child-preserved : goal.read_chunks-loop-child-preserved
read_chunks-loop-child-preserved g t c =
    let source = g.S.SegmentSource in
    let i = c.loop-child.invariant in
    let a = c.args.layout.now in
    let d = type_of_tree a in
    let children = c.fitted_children-children.result.now in
    let start = c.args.source.now in
    let ids = map string_bytes c.args.ids.now in
    let front = i.chunks.front in
    let column = column_view c.in_ok-column.column in
    let typed = c.in_ok-column.ensures.typed.0
    ∙ chunk_typed (kind_of a) d (tree_rows a) (segments_of a) children c.loop-child.child-index c.child-item.result c.requires c.fitted_children-children.ensures.fits c.loop-child-test.true c.child-item.is in
    let here = subst (λ rest. Progress (source.serves start) (source.state start) (source.state c.loop-child.source) ids (layouts_of children) rest front)
    (next_child children c.loop-child.child-index c.child-item.result c.loop-child-test.true c.child-item.is) i.chunks.progress in
    record {
      chunks = record {
        front = front ++ column ∷ [];
        progress = progress_more (source.serves start) (source.serves c.loop-child.source) (source.state start) (source.state c.loop-child.source) ids (layouts_of children) c.child-item.result
            (layouts_of (drop (c.loop-child.child-index + 1) children)) front here i.serves (source.state c.read_layout.new.source) column
            (front ++ column ∷ []) c.in_ok-column.ensures.reads c.in_ok-column.ensures.typed c.read_layout.ensures.same refl;
        joined = joined_more d front column c.loop-child.rows c.take_rows.new.growing i.chunks.joined typed (chunk_even c.child-item.result column c.in_ok-column.ensures.typed) c.in_ok-take_rows.ensures;
      };
      same = same_then (source.state start) (source.state c.loop-child.source) (source.state c.read_layout.new.source) i.same c.read_layout.ensures.same;
      serves = λ file s. c.read_layout.ensures.serves file (i.serves file s);
      steady = λ file h. let before = i.steady file h in let here = c.read_layout.ensures.steady file before.0 in (here.0, here.1 ∙ before.1);
    }

pub read_chunks-returns-clause-reads : goal.read_chunks-returns-clause-reads
read_chunks-returns-clause-reads g t c = λ file s.
    let source = g.S.SegmentSource in
    let a = c.args.layout.now in
    let children = c.fitted_children-children.result.now in
    let start = c.args.source.now in
    let ids = map string_bytes c.args.ids.now in
    let chunks = c.loop-child.invariant.chunks in
    let past : length children ≤ c.loop-child.child-index = search rules in
    let here = subst (λ rest. Progress (source.serves start) (source.state start) (source.state c.loop-child.source) ids (layouts_of children) rest chunks.front)
    (no_child children c.loop-child.child-index past) chunks.progress in
    let all = subst (λ ts. AreRead (source.serves start) (source.state start) ids ts chunks.front) c.fitted_children-children.ensures.below
    (progress_reads (source.serves start) (source.state start) (source.state c.loop-child.source) ids (layouts_of children) chunks.front here) in
    chunked_is (bytes_in file (source.state start).table) ids a chunks.front (column_view c.in_ok-finish.field-0) c.requires (all file s) (c.in_ok-finish.ensures.value ∙ chunks.joined.value)

pub read_chunks-returns-clause-typed : goal.read_chunks-returns-clause-typed
read_chunks-returns-clause-typed g t c =
    let source = g.S.SegmentSource in
    let a = c.args.layout.now in
    let children = c.fitted_children-children.result.now in
    let start = c.args.source.now in
    let ids = map string_bytes c.args.ids.now in
    let chunks = c.loop-child.invariant.chunks in
    let past : length children ≤ c.loop-child.child-index = search rules in
    let here = subst (λ rest. Progress (source.serves start) (source.state start) (source.state c.loop-child.source) ids (layouts_of children) rest chunks.front)
    (no_child children c.loop-child.child-index past) chunks.progress in
    let parts = parts_are (kind_of a) (type_of_tree a) (tree_rows a) (segments_of a) children chunks.front c.fitted_children-children.ensures.fits
    (progress_parts (source.serves start) (source.state start) (source.state c.loop-child.source) ids (layouts_of children) chunks.front here) in
    chunks_typed (type_of_tree a) (tree_rows a) chunks.front (column_view c.in_ok-finish.field-0) (subst (λ k. AreParts k (type_of_tree a) (tree_rows a) chunks.front) c.requires parts)
    (c.in_ok-finish.ensures.value ∙ chunks.joined.value)

-- ---- a layout

pub read_layout-returns-in_err-columns-in-Struct-clause-fails : goal.read_layout-returns-in_err-columns-in-Struct-clause-fails
read_layout-returns-in_err-columns-in-Struct-clause-fails g t c = λ e is file s.
    let source = g.S.SegmentSource in
    let was : c.read_children.result ≡ Err e = search rules in
    let kind = sym c.kind.ensures ∙ c.in-Struct.is in
    subst (λ fs. ScanFails (bytes_in file (source.state c.args.source.now).table) (map string_bytes c.args.ids.now) (source.state c.args.source.now) (source.state c.read_children.new.source) fs e)
    (sym (flats_struct c.args.layout.now kind)) (c.read_children.ensures.fails e was file s)

pub read_layout-zip-requires : goal.read_layout-zip-requires
read_layout-zip-requires g t c =
    let kind = sym c.kind.ensures ∙ c.in-Struct.is in
    let a = c.args.layout.now in
    let cs = seen c.in_ok-columns-in-Struct.columns.items in
    let parts = subst (λ k. AreParts k (type_of_tree a) (tree_rows a) cs) kind c.in_ok-columns-in-Struct.ensures.parts in
    rw (c.dtype.ensures, c.row_count-rows.ensures) (columns_are (type_of_tree a) (tree_rows a) cs parts)

pub read_layout-returns-in_ok-zip-in-Struct-clause-typed : goal.read_layout-returns-in_ok-zip-in-Struct-clause-typed
read_layout-returns-in_ok-zip-in-Struct-clause-typed g t c =
    let kind = sym c.kind.ensures ∙ c.in-Struct.is in
    let a = c.args.layout.now in
    let cs = seen c.in_ok-columns-in-Struct.columns.items in
    let parts = subst (λ k. AreParts k (type_of_tree a) (tree_rows a) cs) kind c.in_ok-columns-in-Struct.ensures.parts in
    structs_typed (type_of_tree a) (tree_rows a) cs (column_view c.in_ok-zip-in-Struct.field-0) (columns_are (type_of_tree a) (tree_rows a) cs parts)
    (rw (c.dtype.ensures, c.row_count-rows.ensures) at c.in_ok-zip-in-Struct.ensures)
