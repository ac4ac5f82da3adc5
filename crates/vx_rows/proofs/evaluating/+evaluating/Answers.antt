use Rattle.std.proofs.Common.{◌≡◌, ap, ◌∙◌, rules}
use Rattle.vx_data.specs.Dtype.{dtype_view}
use Rattle.vx_rows.specs.declared.predicate.Predicate.{the_lemmas}
use Rattle.vx_rows.specs.Span.{span}
use Rattle.vx_rows.specs.Rows.{column_view}
use Rattle.vx_rows.specs.Predicates.{add, compare, both, either, negated, null_test, present_test, pred_view}
use Rattle.vx_rows.specs.Binding.{kind_in}
use Rattle.vx_rows.specs.Operands.{compared_at, summed_at, and_at, or_at, not_at, null_at, present_at}
use Rattle.vx_rows.proofs.EvaluatedLemmas.{add_node, compare_node, and_node, or_node, not_node, null_node, present_node}
use Rattle.vx_rows.proofs.evaluating.+evaluating.Goals as goal

pub returns-in_ok-add_rows-in-Add : goal.returns-in_ok-add_rows-in-Add
returns-in_ok-add_rows-in-Add t c =
    let p = pred_view c.deref-in-Add-2.result.now in
    let q = pred_view c.deref-in-Add-3.result.now in
    let d = dtype_view c.args.dtype.now in
    let is : pred_view c.args.predicate.now ≡ add p q = search (rules, the_lemmas) in
    let first : c.deref-in-Add.result.now ≡ c.deref-in-Add-2.result.now = cc in
    let kind : c.kind_of_predicate-kind.result ≡ kind_in p d = c.kind_of_predicate-kind.ensures ∙ ap (λ x. kind_in (pred_view x) d) first in
    add_node (pred_view c.args.predicate.now) p q d (column_view c.args.column.now) c.kind_of_predicate-kind.result c.in_ok-a-in-Add.a c.in_ok-b-in-Add.b c.in_ok-add_rows-in-Add.field-0
    is kind c.in_ok-a-in-Add.ensures c.in_ok-b-in-Add.ensures
    (c.in_ok-add_rows-in-Add.ensures ∙ ap (λ n. span (summed_at c.kind_of_predicate-kind.result c.in_ok-a-in-Add.a c.in_ok-b-in-Add.b) 0 n) c.len-count.ensures)

pub returns-in_ok-compare_rows-in-Compare : goal.returns-in_ok-compare_rows-in-Compare
returns-in_ok-compare_rows-in-Compare t c =
    let p = pred_view c.deref-in-Compare.result.now in
    let q = pred_view c.deref-in-Compare-2.result.now in
    let is : pred_view c.args.predicate.now ≡ compare c.in-Compare.op p q = search (rules, the_lemmas) in
    compare_node (pred_view c.args.predicate.now) p q c.in-Compare.op (dtype_view c.args.dtype.now) (column_view c.args.column.now) c.in_ok-a-in-Compare.a c.in_ok-b-in-Compare.b c.in_ok-compare_rows-in-Compare.field-0
    is c.in_ok-a-in-Compare.ensures c.in_ok-b-in-Compare.ensures (c.in_ok-compare_rows-in-Compare.ensures ∙ ap (λ n. span (compared_at c.in-Compare.op c.in_ok-a-in-Compare.a c.in_ok-b-in-Compare.b) 0 n) c.len-count.ensures)

pub returns-in_ok-and_rows-in-And : goal.returns-in_ok-and_rows-in-And
returns-in_ok-and_rows-in-And t c =
    let p = pred_view c.deref-in-And.result.now in
    let q = pred_view c.deref-in-And-2.result.now in
    let is : pred_view c.args.predicate.now ≡ both p q = search (rules, the_lemmas) in
    and_node (pred_view c.args.predicate.now) p q (dtype_view c.args.dtype.now) (column_view c.args.column.now) c.in_ok-a-in-And.a c.in_ok-b-in-And.b c.in_ok-and_rows-in-And.field-0
    is c.in_ok-a-in-And.ensures c.in_ok-b-in-And.ensures (c.in_ok-and_rows-in-And.ensures ∙ ap (λ n. span (and_at c.in_ok-a-in-And.a c.in_ok-b-in-And.b) 0 n) c.len-count.ensures)

pub returns-in_ok-or_rows-in-Or : goal.returns-in_ok-or_rows-in-Or
returns-in_ok-or_rows-in-Or t c =
    let p = pred_view c.deref-in-Or.result.now in
    let q = pred_view c.deref-in-Or-2.result.now in
    let is : pred_view c.args.predicate.now ≡ either p q = search (rules, the_lemmas) in
    or_node (pred_view c.args.predicate.now) p q (dtype_view c.args.dtype.now) (column_view c.args.column.now) c.in_ok-a-in-Or.a c.in_ok-b-in-Or.b c.in_ok-or_rows-in-Or.field-0
    is c.in_ok-a-in-Or.ensures c.in_ok-b-in-Or.ensures (c.in_ok-or_rows-in-Or.ensures ∙ ap (λ n. span (or_at c.in_ok-a-in-Or.a c.in_ok-b-in-Or.b) 0 n) c.len-count.ensures)

pub returns-in_ok-not_rows-in-Not : goal.returns-in_ok-not_rows-in-Not
returns-in_ok-not_rows-in-Not t c =
    let p = pred_view c.deref-in-Not.result.now in
    let is : pred_view c.args.predicate.now ≡ negated p = search (rules, the_lemmas) in
    not_node (pred_view c.args.predicate.now) p (dtype_view c.args.dtype.now) (column_view c.args.column.now) c.in_ok-a-in-Not.a c.in_ok-not_rows-in-Not.field-0
    is c.in_ok-a-in-Not.ensures (c.in_ok-not_rows-in-Not.ensures ∙ ap (λ n. span (not_at c.in_ok-a-in-Not.a) 0 n) c.len-count.ensures)

pub returns-in_ok-null_rows-in-IsNull : goal.returns-in_ok-null_rows-in-IsNull
returns-in_ok-null_rows-in-IsNull t c =
    let p = pred_view c.deref-in-IsNull.result.now in
    let is : pred_view c.args.predicate.now ≡ null_test p = search (rules, the_lemmas) in
    null_node (pred_view c.args.predicate.now) p (dtype_view c.args.dtype.now) (column_view c.args.column.now) c.in_ok-a-in-IsNull.a c.in_ok-null_rows-in-IsNull.field-0
    is c.in_ok-a-in-IsNull.ensures (c.in_ok-null_rows-in-IsNull.ensures ∙ ap (λ n. span (null_at c.in_ok-a-in-IsNull.a) 0 n) c.len-count.ensures)

pub returns-in_ok-present_rows-in-NotNull : goal.returns-in_ok-present_rows-in-NotNull
returns-in_ok-present_rows-in-NotNull t c =
    let p = pred_view c.deref-in-NotNull.result.now in
    let is : pred_view c.args.predicate.now ≡ present_test p = search (rules, the_lemmas) in
    present_node (pred_view c.args.predicate.now) p (dtype_view c.args.dtype.now) (column_view c.args.column.now) c.in_ok-a-in-NotNull.a c.in_ok-present_rows-in-NotNull.field-0
    is c.in_ok-a-in-NotNull.ensures (c.in_ok-present_rows-in-NotNull.ensures ∙ ap (λ n. span (present_at c.in_ok-a-in-NotNull.a) 0 n) c.len-count.ensures)
