use Rattle.std.proofs.Common.{◌+◌, ◌*◌, ◌≤◌, drop}
use Rattle.vx_data.specs.Dtype.{dtype_view, fields_view, pairs_view}
use Rattle.vx_data.specs.DtypeWritten.{HaveTexts}
use Rattle.vx_rows.specs.Trees.{type_size, fields_size}
use Rattle.vx_write.proofs.field_texts.+naming.Given as goal

abbrev pub decreases-has_texts : goal.decreases-has_texts
decreases-has_texts l = 4 * type_size (dtype_view l.dtype.now)

abbrev pub decreases-fields_have_texts : goal.decreases-fields_have_texts
decreases-fields_have_texts l = 4 * fields_size (fields_view l.fields.now) + 2

abbrev pub decreases-all_have_texts : goal.decreases-all_have_texts
decreases-all_have_texts l = 4 * fields_size (pairs_view l.fields.now) + 1

abbrev pub invariant-all_have_texts-loop-at : goal.invariant-all_have_texts-loop-at
invariant-all_have_texts-loop-at l = record {
  texts : HaveTexts (pairs_view (drop l.at l.fields)) → HaveTexts (pairs_view l.fields);
  size : fields_size (pairs_view (drop l.at l.fields)) ≤ fields_size (pairs_view l.fields);
}
