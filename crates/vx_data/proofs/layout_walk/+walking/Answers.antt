use Rattle.std.proofs.Common.{◌≡◌, ◌∙◌, ◌<◌, ◌≤◌, ◌++◌, [], ◌∷◌, length, length-append, arith, refl, sym}
use Rattle.vx_tables.proofs.Walk.{next_element, walk_from-end}
use Rattle.vx_data.specs.Layout.{numbers_of}
use Rattle.vx_data.specs.LayoutTable.{row, rows_list, ids_in, row_at}
use Rattle.vx_data.proofs.Fitting.{grown_fit, grown_known, all_done, asked_fit, fit_is, known_is, row_read}
use Rattle.vx_data.proofs.layout_walk.+walking.Goals as goal

pub read_elements-loop-at-preserved : goal.read_elements-loop-at-preserved
read_elements-loop-at-preserved t c =
    let lt : c.loop-at.at < c.args.vector.now.vector.count = omega arith in
    let row = c.in_ok-layout.ensures.value in
    record {
      rows = c.loop-at.invariant.rows ++ row ∷ [];
      walk = sym (next_element (row_at (length c.args.kinds.now)) _ _ _ _ _ _ _ _ _ _ _ _ lt c.in_ok-table.ensures.element.bytes c.in_ok-table.ensures.element.levels c.in_ok-table.ensures.value c.in_ok-layout.ensures.read) ∙ c.loop-at.invariant.walk;
      many = omega (arith, length-append c.loop-at.invariant.rows (row ∷ []), c.loop-at.invariant.many);
      known = grown_known _ _ row _ _ _ c.loop-at.invariant.known c.in_ok-layout.ensures.says.known;
      fitted = grown_fit _ _ _ _ _ row _ _ _ _ c.loop-at.invariant.many lt (c.in_ok-child.ensures _ lt) c.in_ok-layout.ensures.says.fitted c.loop-at.invariant.fitted c.in_ok-layouts-2.ensures;
    }

pub read_elements-returns : goal.read_elements-returns
read_elements-returns t c =
    let end : c.loop-at.at ≡ c.args.vector.now.vector.count = omega arith in
    let past : c.args.vector.now.vector.count ≤ c.loop-at.at = omega arith in
    record {
      value = c.loop-at.invariant.rows;
      read = sym c.loop-at.invariant.walk ∙ walk_from-end _ _ _ _ _ _ past;
      says = record {
        known = c.loop-at.invariant.known;
        fitted = all_done _ _ _ _ _ _ _ c.loop-at.invariant.many end c.loop-at.invariant.fitted;
      };
    }

pub read_in-shaped-requires : goal.read_in-shaped-requires
read_in-shaped-requires t c = asked_fit _ _ _ _ _ c.in_ok-children.ensures.says.fitted

pub read_in-returns : goal.read_in-returns
read_in-returns t c =
    let rows = c.in_ok-children.ensures.value in
    let ids = numbers_of (ids_in c.in_ok-segments.segments) in
    record {
      value = row c.unwrap_or-encoding.result c.unwrap_or-row_count.result ids (rows_list rows);
      read = row_read _ _ _ _ _ _ _ _ _ _ _ _ rows ids c.in_ok-field_u16.ensures c.in_ok-field_u64.ensures c.unwrap_or-encoding.ensures c.unwrap_or-row_count.ensures c.in_ok-children.ensures.read c.in_ok-segments.ensures c.in_ok-encoding_among.ensures;
      says = record {
        known = c.note_kind.ensures ∙ known_is _ _ c.unwrap_or-row_count.result ids _ rows _ _ c.kind_at-kind.ensures c.in_ok-children.ensures.says.known;
        fitted = fit_is _ _ _ _ _ _ _ rows _ _ c.kind_at-kind.ensures refl c.in_ok-children.ensures.says.fitted c.in_ok-shaped.ensures;
      };
    }
