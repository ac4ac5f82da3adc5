-- What the nodes of a predicate are at each row, where their operands are known.
use Rattle.std.proofs.Common.{◌≡◌, ℕ, ◌<◌, Bool, List, refl, ap, sym, ◌∙◌, arith}
use Rattle.std.specs.Prelude.{slice_index_or, Option, Some, None, Vec, Result, ℤ, not}
use Rattle.std.specs.Global.{Global}
use Rattle.std.specs.Borrow.{Bor}
use Rattle.vx_data.specs.Dtype.{Dtype}
use Rattle.vx_data.specs.Scalar.{Value}
use Rattle.vx_rows.specs.declared.kind.Kind.{Kind}
use Rattle.vx_rows.specs.declared.bind_error.BindError.{BindError}
use Rattle.vx_rows.specs.declared.predicate.Comparison.{Comparison}
use Rattle.vx_rows.specs.declared.column.Column.{Column}
use Rattle.vx_rows.specs.declared.cell.Cell.{Cell as Held}
use Rattle.vx_rows.specs.declared.operand.Operand.{Operand}
use Rattle.vx_rows.specs.declared.operand.Operand.TheVariants.{Value as Same, Rows as RowsOf, Numbers, Truths}
use Rattle.vx_rows.specs.Span.{span}
use Rattle.vx_rows.specs.Rows.{Rows, rows_len, column_view}
use Rattle.vx_rows.specs.RowValues.{Cell, value_cell, bool_cell, int_cell, row_in}
use Rattle.vx_rows.specs.CellViews.{cell_view}
use Rattle.vx_rows.specs.Predicates.{Pred, lit, root, path, cast, add, compare, both, either, negated, null_test, present_test}
use Rattle.vx_rows.specs.Binding.{kind_in}
use Rattle.vx_rows.specs.Truth.{to_truth, kleene_and, kleene_or, kleene_not, is_null, is_true, compared, summed, value_at, is_satisfied, rows_satisfying}
use Rattle.vx_rows.specs.Operands.{compared_at, summed_at, and_at, or_at, not_at, null_at, present_at, true_at, IsValueOf}
use Rattle.vx_rows.proofs.SpanLemmas.{get_or_span, span_same}

at-row : {A : Type 0} → (f : ℕ → Option A) (xs : List (Option A)) (n row : ℕ) → xs ≡ span f 0 n → row < n → slice_index_or xs row None ≡ f row
at-row f xs n row e less = ap (λ ys. slice_index_or ys row None) e ∙ get_or_span f 0 n row None less ∙ ap f (omega arith)

two-of : {A : Type 0} → (g : Cell → Cell → A) (a b x y : Cell) → a ≡ x → b ≡ y → g a b ≡ g x y
two-of g a b x y e h = ap (λ z. g z b) e ∙ ap (λ z. g x z) h

-- a predicate that is another one
as-node : (P Q : Pred) (d : Dtype) (c : Rows) (v : Operand) → P ≡ Q → IsValueOf Q d c v → IsValueOf P d c v
as-node P Q d c v is so = record { same = λ row less. so.same row less ∙ sym (ap (λ p. value_at p d (row_in c row)) is) }

-- ---- nodes without operands

pub lit_node : (P : Pred) (t : Dtype) (x : Option Value) (d : Dtype) (c : Rows) (v : Held) → P ≡ lit t x → cell_view v ≡ value_cell x → IsValueOf P d c (Same v)
lit_node P t x d c v is so = as-node P (lit t x) d c (Same v) is (record { same = λ row less. so })

pub root_node : (P : Pred) (d : Dtype) (c : Bor Column) → P ≡ root → IsValueOf P d (column_view c.now) (RowsOf c None)
root_node P d c is = as-node P root d (column_view c.now) (RowsOf c None) is (record { same = λ row less. refl })

pub path_node : (P : Pred) (ns : List (List ℕ)) (d : Dtype) (c : Rows) (v : Operand) → P ≡ path ns → IsValueOf (path ns) d c v → IsValueOf P d c v
path_node P ns d c v is so = as-node P (path ns) d c v is so

-- ---- nodes with one operand

pub cast_node : (P : Pred) (t : Dtype) (p : Pred) (d : Dtype) (c : Rows) (v : Operand) → P ≡ cast t p → IsValueOf p d c v → IsValueOf P d c v
cast_node P t p d c v is so = as-node P (cast t p) d c v is (record { same = so.same })

pub not_node : (P p : Pred) (d : Dtype) (c : Rows) (a : Operand) (v : Vec (Option Bool) Global) → P ≡ negated p → IsValueOf p d c a
    → v.items ≡ span (not_at a) 0 (rows_len c) → IsValueOf P d c (Truths v)
not_node P p d c a v is so items = as-node P (negated p) d c (Truths v) is (record {
  same = λ row less.
      ap bool_cell (at-row (not_at a) v.items (rows_len c) row items less ∙ ap (λ x. kleene_not (to_truth x)) (so.same row less));
})

pub null_node : (P p : Pred) (d : Dtype) (c : Rows) (a : Operand) (v : Vec (Option Bool) Global) → P ≡ null_test p → IsValueOf p d c a
    → v.items ≡ span (null_at a) 0 (rows_len c) → IsValueOf P d c (Truths v)
null_node P p d c a v is so items = as-node P (null_test p) d c (Truths v) is (record {
  same = λ row less.
      ap bool_cell (at-row (null_at a) v.items (rows_len c) row items less ∙ ap (λ x. Some (is_null x)) (so.same row less));
})

pub present_node : (P p : Pred) (d : Dtype) (c : Rows) (a : Operand) (v : Vec (Option Bool) Global) → P ≡ present_test p → IsValueOf p d c a
    → v.items ≡ span (present_at a) 0 (rows_len c) → IsValueOf P d c (Truths v)
present_node P p d c a v is so items = as-node P (present_test p) d c (Truths v) is (record {
  same = λ row less.
      ap bool_cell (at-row (present_at a) v.items (rows_len c) row items less ∙ ap (λ x. Some (not (is_null x))) (so.same row less));
})

-- ---- nodes with two operands

pub add_node : (P p q : Pred) (d : Dtype) (c : Rows) (k : Result Kind BindError) (a b : Operand) (v : Vec (Option ℤ) Global) → P ≡ add p q → k ≡ kind_in p d → IsValueOf p d c a → IsValueOf q d c b
    → v.items ≡ span (summed_at k a b) 0 (rows_len c) → IsValueOf P d c (Numbers v)
add_node P p q d c k a b v is kind so also items = as-node P (add p q) d c (Numbers v) is (record {
  same = λ row less.
      ap int_cell (at-row (summed_at k a b) v.items (rows_len c) row items less ∙ two-of (summed k) _ _ _ _ (so.same row less) (also.same row less)
      ∙ ap (λ x. summed x (value_at p d (row_in c row)) (value_at q d (row_in c row))) kind);
})

pub compare_node : (P p q : Pred) (op : Comparison) (d : Dtype) (c : Rows) (a b : Operand) (v : Vec (Option Bool) Global) → P ≡ compare op p q → IsValueOf p d c a → IsValueOf q d c b
    → v.items ≡ span (compared_at op a b) 0 (rows_len c) → IsValueOf P d c (Truths v)
compare_node P p q op d c a b v is so also items = as-node P (compare op p q) d c (Truths v) is (record {
  same = λ row less.
      ap bool_cell (at-row (compared_at op a b) v.items (rows_len c) row items less ∙ two-of (compared op) _ _ _ _ (so.same row less) (also.same row less));
})

pub and_node : (P p q : Pred) (d : Dtype) (c : Rows) (a b : Operand) (v : Vec (Option Bool) Global) → P ≡ both p q → IsValueOf p d c a → IsValueOf q d c b
    → v.items ≡ span (and_at a b) 0 (rows_len c) → IsValueOf P d c (Truths v)
and_node P p q d c a b v is so also items = as-node P (both p q) d c (Truths v) is (record {
  same = λ row less.
      ap bool_cell (at-row (and_at a b) v.items (rows_len c) row items less
      ∙ two-of (λ x y. kleene_and (to_truth x) (to_truth y)) _ _ _ _ (so.same row less) (also.same row less));
})

pub or_node : (P p q : Pred) (d : Dtype) (c : Rows) (a b : Operand) (v : Vec (Option Bool) Global) → P ≡ either p q → IsValueOf p d c a → IsValueOf q d c b
    → v.items ≡ span (or_at a b) 0 (rows_len c) → IsValueOf P d c (Truths v)
or_node P p q d c a b v is so also items = as-node P (either p q) d c (Truths v) is (record {
  same = λ row less.
      ap bool_cell (at-row (or_at a b) v.items (rows_len c) row items less
      ∙ two-of (λ x y. kleene_or (to_truth x) (to_truth y)) _ _ _ _ (so.same row less) (also.same row less));
})

-- ---- the whole

pub whole_rows : (p : Pred) (d : Dtype) (c : Rows) (a : Operand) (bits : List Bool) → IsValueOf p d c a → bits ≡ span (true_at a) 0 (rows_len c) → bits ≡ rows_satisfying p d c
whole_rows p d c a bits so items =
    items ∙ span_same (true_at a) (is_satisfied p d c) 0 (rows_len c) (λ row least less. ap (λ x. is_true (to_truth x)) (so.same row (omega (arith, less))))
