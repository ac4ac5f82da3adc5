-- Rows that meet a comparison, by their keys and by truth values.
use Rattle.std.proofs.Common.{◌≡◌, ℕ, ℤ, ◌+◌, Bool, List, [], ◌∷◌, ◌++◌, map, Option, Some, None, refl, ap, sym, ◌∙◌, arith}
use Rattle.std.specs.Ordering.{int_cmp}
use Rattle.vx_data.specs.declared.ptype.PType.{PType}
use Rattle.vx_data.specs.Dtype.{Dtype}
use Rattle.vx_data.specs.Scalar.{number}
use Rattle.std.specs.Prelude.{length, slice_index_or}
use Rattle.vx_rows.specs.Columns.{Ints, int_row}
use Rattle.vx_rows.specs.Keys.{of_key}
use Rattle.vx_rows.specs.Rows.{Rows, rows_len}
use Rattle.vx_rows.specs.RowValues.{value, int_cell, bool_cell, row_in}
use Rattle.vx_rows.specs.Span.{span}
use Rattle.vx_rows.specs.Predicates.{Pred, compare}
use Rattle.vx_rows.specs.Truth.{is_true, to_truth, compared, value_at, rows_satisfying, is_satisfied}
use Rattle.vx_rows.specs.Operands.{operand_at, compared_at, is_true_in, IsValueOf}
use Rattle.vx_rows.specs.Verdicts.{by_order, told, told_at, plain_told, number_told, verdict_of, turned}
use Rattle.vx_rows.specs.declared.comparing.Verdict.{Verdict}
use Rattle.vx_rows.specs.declared.operand.Operand.{Operand}
use Rattle.vx_rows.specs.declared.predicate.Comparison.{Comparison}
use Rattle.vx_rows.proofs.KeyLemmas.{keys_order}
use Rattle.vx_rows.proofs.SpanLemmas.{span_same, span_push, get_or_span}
use Rattle.vx_rows.proofs.WrittenLemmas.{map_span}
use Rattle.vx_rows.proofs.VerdictLemmas.{numbers_told, told_first, told_second, plain_numbers}

map-two : {A B : Type 0} → (g : A → B) (xs ys : List A) → map g (xs ++ ys) ≡ map g xs ++ map g ys
map-two g [] ys = refl
map-two g (x ∷ xs) ys = ap (λ zs. g x ∷ zs) (map-two g xs ys)

-- one row more
pub met_more : (f : ℕ → Option Bool) (row : ℕ) (before now : List Bool) (b : Bool) → before ≡ map is_true (span f 0 row) → now ≡ before ++ b ∷ [] → b ≡ is_true (f row) → now ≡ map is_true (span f 0 (row + 1))
met_more f row before now b so more is =
    let e : 0 + row ≡ row = omega arith in
    more ∙ ap (λ xs. xs ++ b ∷ []) so ∙ ap (λ x. map is_true (span f 0 row) ++ x ∷ []) (is ∙ ap (λ i. is_true (f i)) (sym e)) ∙ sym (map-two is_true (span f 0 row) (f (0 + row) ∷ [])) ∙ ap (map is_true) (sym (span_push f 0 row))

-- what a row's key tells
pub met_key : (v : Verdict) (p : PType) (b : List ℕ) (at : ℕ) (here key : ℤ) (row : ℕ) → Some (of_key p here) ≡ int_row p None b at row → by_order v (int_cmp here key) ≡ is_true (plain_told v p b at (of_key p key) row)
met_key v p b at here key row is = ap (by_order v) (sym (keys_order p here key)) ∙ ap (λ r. is_true (told v (int_cell r) (value (number (of_key p key))))) is

-- ---- the same of all rows

pub met_numbers : (v : Verdict) (p : PType) (b : List ℕ) (at : ℕ) (key n : ℤ) (c : Ints) (count : ℕ) (flags : List Bool) → c.ptype ≡ p → count ≡ length c.rows → c.rows ≡ span (int_row c.ptype None b at) 0 (length c.rows)
    → of_key p key ≡ n → flags ≡ map is_true (span (plain_told v p b at (of_key p key)) 0 count) → flags ≡ map is_true (span (number_told v c n) 0 count)
met_numbers v p b at key n c count flags typed long rows is items =
    items ∙ ap (λ k. map is_true (span (plain_told v p b at k) 0 count)) is ∙ ap (map is_true) (plain_numbers v p b at n c count (span (plain_told v p b at n) 0 count) typed long rows refl)

pub met_operands : (v : Verdict) (a b : Operand) (c : Ints) (n : ℤ) (count : ℕ) (flags : List Bool) → ((row : ℕ) → operand_at a row ≡ int_cell (slice_index_or c.rows row None)) → ((row : ℕ) → operand_at b row ≡ value (number n))
    → flags ≡ map is_true (span (number_told v c n) 0 count) → flags ≡ map is_true (span (told_at v a b) 0 count)
met_operands v a b c n count flags first second items = items ∙ ap (map is_true) (numbers_told v a b c n count (span (number_told v c n) 0 count) first second refl)

pub met_first : (op : Comparison) (v : Verdict) (a b : Operand) (count : ℕ) (flags : List Bool) → v ≡ verdict_of op → flags ≡ map is_true (span (told_at v a b) 0 count) → flags ≡ map is_true (span (compared_at op a b) 0 count)
met_first op v a b count flags is items = items ∙ ap (map is_true) (told_first op v a b count (span (told_at v a b) 0 count) is refl)

pub met_second : (op : Comparison) (v w : Verdict) (a b : Operand) (count : ℕ) (flags : List Bool) → v ≡ verdict_of op → w ≡ turned v → flags ≡ map is_true (span (told_at w b a) 0 count) → flags ≡ map is_true (span (compared_at op a b) 0 count)
met_second op v w a b count flags is back items = items ∙ ap (map is_true) (told_second op v w a b count (span (told_at w b a) 0 count) is back refl)

truth-of : (x : Option Bool) → is_true (to_truth (bool_cell x)) ≡ is_true x
truth-of None = refl
truth-of (Some b) = refl

-- truth values of which none lacks
pub truths_met : (f : ℕ → Option Bool) (count : ℕ) (truths : List (Option Bool)) (flags : List Bool) → truths ≡ span f 0 count → flags ≡ span (is_true_in truths) 0 count → flags ≡ map is_true (span f 0 count)
truths_met f count truths flags are items =
    items ∙ span_same (is_true_in truths) (λ i. is_true (f i)) 0 count
    (λ i l u. truth-of (slice_index_or truths i None) ∙ ap is_true (ap (λ xs. slice_index_or xs i None) are ∙ get_or_span f 0 count i None (omega (arith, u)) ∙ ap f (omega arith)))
    ∙ sym (map_span is_true f 0 count)

-- ---- the whole

pub satisfied_rows : (P p q : Pred) (op : Comparison) (d : Dtype) (c : Rows) (a b : Operand) (bits : List Bool) → P ≡ compare op p q → IsValueOf p d c a → IsValueOf q d c b
    → bits ≡ map is_true (span (compared_at op a b) 0 (rows_len c)) → bits ≡ rows_satisfying P d c
satisfied_rows P p q op d c a b bits is so also items =
    items ∙ map_span is_true (compared_at op a b) 0 (rows_len c)
    ∙ span_same (λ i. is_true (compared_at op a b i)) (is_satisfied (compare op p q) d c) 0 (rows_len c)
    (λ row least less. ap (λ x. is_true (compared op x (operand_at b row))) (so.same row (omega (arith, less))) ∙ ap (λ y. is_true (compared op (value_at p d (row_in c row)) y)) (also.same row (omega (arith, less)))
    ∙ sym (truth-of (compared op (value_at p d (row_in c row)) (value_at q d (row_in c row)))))
    ∙ ap (λ r. rows_satisfying r d c) (sym is)
