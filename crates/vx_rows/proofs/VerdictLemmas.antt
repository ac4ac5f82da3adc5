-- What a comparison tells is told by the order of its operands, whichever of them comes first.
use Rattle.std.proofs.Common.{◌≡◌, ℕ, ℤ, Bool, List, Option, Some, None, refl, ap, sym, ◌∙◌, ◌+◌, ◌<◌, length, arith, ◌++◌, ◌∷◌, []}
use Rattle.std.specs.Prelude.{slice_index_or}
use Rattle.std.specs.declared.cmp.Ordering.{Ordering}
use Rattle.std.specs.declared.cmp.Ordering.TheVariants.{Less, Equal, Greater}
use Rattle.std.specs.Ordering.{bool_cmp, int_cmp, ordering_reverse}
use Rattle.std.specs.Cmp.{IsTotalOrder, bool_cmp_total, int_cmp_total}
use Rattle.std.specs.Cmp.Lexicographic.{nat_list_cmp_total}
use Rattle.vx_data.specs.Scalar.{flag, number, words}
use Rattle.vx_data.specs.declared.ptype.PType.{PType}
use Rattle.vx_rows.specs.declared.predicate.Comparison.{Comparison}
use Rattle.vx_rows.specs.declared.operand.Operand.{Operand}
use Rattle.vx_rows.specs.declared.comparing.Verdict.{Verdict}
use Rattle.vx_rows.specs.Columns.{Ints, Texts, int_row}
use Rattle.vx_rows.specs.Span.{span}
use Rattle.vx_rows.specs.RowStats.{text_cmp}
use Rattle.vx_rows.specs.RowValues.{Cell, null, value, a_struct, int_cell, text_cell}
use Rattle.vx_rows.specs.Truth.{meets, compared}
use Rattle.vx_rows.specs.Operands.{operand_at, compared_at}
use Rattle.vx_rows.specs.Verdicts.{verdict_of, turned, by_order, told, told_at, plain_told, number_told, text_told}
use Rattle.vx_rows.proofs.SpanLemmas.{span_same, span_push, get_or_span}

-- ---- a verdict is what the comparison says

met : (op : Comparison) (o : Ordering) → by_order (verdict_of op) o ≡ meets op o
met op Less = refl
met op Equal = refl
met op Greater = refl

told-compared : (op : Comparison) (a b : Cell) → told (verdict_of op) a b ≡ compared op a b
told-compared op null b = refl
told-compared op a_struct b = refl
told-compared op (value a) null = refl
told-compared op (value a) a_struct = refl
told-compared op (value (flag a)) (value (flag b)) = ap Some (met op (bool_cmp a b))
told-compared op (value (flag a)) (value (number b)) = refl
told-compared op (value (flag a)) (value (words b)) = refl
told-compared op (value (number a)) (value (flag b)) = refl
told-compared op (value (number a)) (value (number b)) = ap Some (met op (int_cmp a b))
told-compared op (value (number a)) (value (words b)) = refl
told-compared op (value (words a)) (value (flag b)) = refl
told-compared op (value (words a)) (value (number b)) = refl
told-compared op (value (words a)) (value (words b)) = ap Some (met op (text_cmp a b))

-- ---- values that change places

turned-order : (v : Verdict) (o : Ordering) → by_order (turned v) (ordering_reverse o) ≡ by_order v o
turned-order v Less = refl
turned-order v Equal = refl
turned-order v Greater = refl

swapped : {A : Type 0} → (cmp : A → A → Ordering) → IsTotalOrder cmp → (v : Verdict) (a b : A) → by_order (turned v) (cmp b a) ≡ by_order v (cmp a b)
swapped cmp t v a b = ap (by_order (turned v)) (t.antisymm b a) ∙ turned-order v (cmp a b)

told-turned : (v : Verdict) (a b : Cell) → told (turned v) b a ≡ told v a b
told-turned v null null = refl
told-turned v null (value b) = refl
told-turned v null a_struct = refl
told-turned v a_struct null = refl
told-turned v a_struct (value b) = refl
told-turned v a_struct a_struct = refl
told-turned v (value a) null = refl
told-turned v (value a) a_struct = refl
told-turned v (value (flag a)) (value (flag b)) = ap Some (swapped bool_cmp bool_cmp_total v a b)
told-turned v (value (flag a)) (value (number b)) = refl
told-turned v (value (flag a)) (value (words b)) = refl
told-turned v (value (number a)) (value (flag b)) = refl
told-turned v (value (number a)) (value (number b)) = ap Some (swapped int_cmp int_cmp_total v a b)
told-turned v (value (number a)) (value (words b)) = refl
told-turned v (value (words a)) (value (flag b)) = refl
told-turned v (value (words a)) (value (number b)) = refl
told-turned v (value (words a)) (value (words b)) = ap Some (swapped text_cmp nat_list_cmp_total v a b)

-- ---- at each row

two-told : (v : Verdict) (a b x y : Cell) → a ≡ x → b ≡ y → told v x y ≡ told v a b
two-told v a b x y e h = ap (λ z. told v z y) (sym e) ∙ ap (λ z. told v a z) (sym h)

pub numbers_told : (v : Verdict) (a b : Operand) (c : Ints) (n : ℤ) (count : ℕ) (xs : List (Option Bool))
    → ((row : ℕ) → operand_at a row ≡ int_cell (slice_index_or c.rows row None)) → ((row : ℕ) → operand_at b row ≡ value (number n))
    → xs ≡ span (number_told v c n) 0 count → xs ≡ span (told_at v a b) 0 count
numbers_told v a b c n count xs first second items = items ∙ span_same (number_told v c n) (told_at v a b) 0 count (λ i l u. two-told v _ _ _ _ (first i) (second i))

pub texts_told : (v : Verdict) (a b : Operand) (c : Texts) (t : List ℕ) (count : ℕ) (xs : List (Option Bool))
    → ((row : ℕ) → operand_at a row ≡ text_cell (slice_index_or c.rows row None)) → ((row : ℕ) → operand_at b row ≡ value (words t))
    → xs ≡ span (text_told v c t) 0 count → xs ≡ span (told_at v a b) 0 count
texts_told v a b c t count xs first second items = items ∙ span_same (text_told v c t) (told_at v a b) 0 count (λ i l u. two-told v _ _ _ _ (first i) (second i))

pub told_first : (op : Comparison) (v : Verdict) (a b : Operand) (count : ℕ) (xs : List (Option Bool)) → v ≡ verdict_of op → xs ≡ span (told_at v a b) 0 count → xs ≡ span (compared_at op a b) 0 count
told_first op v a b count xs is items =
    items ∙ span_same (told_at v a b) (compared_at op a b) 0 count
    (λ i l u. ap (λ w. told w (operand_at a i) (operand_at b i)) is ∙ told-compared op (operand_at a i) (operand_at b i))

pub told_second : (op : Comparison) (v w : Verdict) (a b : Operand) (count : ℕ) (xs : List (Option Bool)) → v ≡ verdict_of op → w ≡ turned v → xs ≡ span (told_at w b a) 0 count
    → xs ≡ span (compared_at op a b) 0 count
told_second op v w a b count xs is back items =
    told_first op v a b count xs is
    (items ∙ span_same (told_at w b a) (told_at v a b) 0 count (λ i l u. ap (λ z. told z (operand_at b i) (operand_at a i)) back ∙ told-turned v (operand_at a i) (operand_at b i)))

-- integers of which none is null, by their bytes
pub plain_numbers : (v : Verdict) (p : PType) (b : List ℕ) (at : ℕ) (n : ℤ) (c : Ints) (count : ℕ) (xs : List (Option Bool)) → c.ptype ≡ p → count ≡ length c.rows
    → c.rows ≡ span (int_row c.ptype None b at) 0 (length c.rows) → xs ≡ span (plain_told v p b at n) 0 count → xs ≡ span (number_told v c n) 0 count
plain_numbers v p b at n c count xs typed long rows items = items ∙ span_same (plain_told v p b at n) (number_told v c n) 0 count (λ i l u. ap (λ r. told v (int_cell r) (value (number n))) (sym (here i u)))
  where
    here : (i : ℕ) → i < 0 + count → slice_index_or c.rows i None ≡ int_row p None b at i
    here i u =
        ap (λ xs. slice_index_or xs i None) rows ∙ get_or_span (int_row c.ptype None b at) 0 (length c.rows) i None (omega (arith, u, long))
        ∙ ap (int_row c.ptype None b at) (omega arith) ∙ ap (λ q. int_row q None b at i) typed

-- one row more
pub next_told : {A : Type 0} → (f : ℕ → A) (row : ℕ) (xs ys : List A) (x : A) → xs ≡ span f 0 row → ys ≡ xs ++ x ∷ [] → x ≡ f row → ys ≡ span f 0 (row + 1)
next_told f row xs ys x so more is =
    let e : 0 + row ≡ row = omega arith in
    more ∙ ap (λ zs. zs ++ x ∷ []) so ∙ ap (λ z. span f 0 row ++ z ∷ []) (is ∙ ap f (sym e)) ∙ sym (span_push f 0 row)
