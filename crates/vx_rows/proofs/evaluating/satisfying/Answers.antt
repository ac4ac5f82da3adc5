use Rattle.std.proofs.Common.{◌≡◌, ap, map, rules, ◌∙◌}
use Rattle.vx_rows.specs.declared.predicate.Predicate.{the_lemmas}
use Rattle.vx_rows.specs.Truth.{is_true}
use Rattle.vx_data.specs.Dtype.{dtype_view}
use Rattle.vx_rows.specs.Span.{span}
use Rattle.vx_rows.specs.Rows.{column_view}
use Rattle.vx_rows.specs.Predicates.{compare, pred_view}
use Rattle.vx_rows.specs.Operands.{compared_at, true_at}
use Rattle.vx_rows.proofs.EvaluatedLemmas.{whole_rows}
use Rattle.vx_rows.proofs.MeetingLemmas.{satisfied_rows}
use Rattle.vx_rows.proofs.evaluating.satisfying.Goals as goal

pub returns : goal.returns
returns c =
    whole_rows (pred_view c.args.predicate.now) (dtype_view c.args.dtype.now) (column_view c.args.column.now) c.in_ok-whole.whole c.in_ok-true_rows.field-0.items
    c.in_ok-whole.ensures (c.in_ok-true_rows.ensures ∙ ap (λ n. span (true_at c.in_ok-whole.whole) 0 n) c.len-2.ensures)

pub returns-in-Compare : goal.returns-in-Compare
returns-in-Compare c =
    let p = pred_view c.deref.result.now in
    let q = pred_view c.deref-in-Compare.result.now in
    let is : pred_view c.args.predicate.now ≡ compare c.in-Compare.op p q = search (rules, the_lemmas) in
    satisfied_rows (pred_view c.args.predicate.now) p q c.in-Compare.op (dtype_view c.args.dtype.now) (column_view c.args.column.now) c.in_ok-a.a c.in_ok-b.b c.in_ok-true_comparisons.field-0.items
    is c.in_ok-a.ensures c.in_ok-b.ensures (c.in_ok-true_comparisons.ensures ∙ ap (λ n. map is_true (span (compared_at c.in-Compare.op c.in_ok-a.a c.in_ok-b.b) 0 n)) c.len.ensures)
