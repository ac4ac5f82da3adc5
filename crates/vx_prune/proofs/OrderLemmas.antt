-- The order of values, and what bounds tell of a comparison.
use Rattle.std.proofs.Common.{◌≡◌, true, false, refl, ap, sym, ◌∙◌}
use Rattle.std.specs.Prelude.{Option, Some, None}
use Rattle.std.specs.declared.cmp.Ordering.{Ordering}
use Rattle.std.specs.declared.cmp.Ordering.TheVariants.{Less, Equal, Greater}
use Rattle.std.specs.Ordering.{int_cmp, ordering_then, ordering_reverse, is_eq, is_ne, is_lt, is_le, is_gt, is_ge}
use Rattle.std.specs.Cmp.{IsTotalOrder}
use Rattle.std.proofs.lemmas.Cmp.{then_total, on_total, nat_cmp_total, int_cmp_total, nat_list_cmp_total, upto, tied_itself}
use Rattle.vx_data.specs.Scalar.{Value, flag, number, words}
use Rattle.vx_rows.specs.declared.predicate.Comparison.{Comparison}
use Rattle.vx_rows.specs.RowValues.{Cell, null, value, a_struct}
use Rattle.vx_rows.specs.Truth.{is_true, meets, compared_values, compared}
use Rattle.vx_prune.specs.Never.{rank, as_number, as_words, value_cmp, ranked}
use Rattle.vx_prune.specs.Pruning.{AtMost, are_of_one_kind}

pub value_total : IsTotalOrder value_cmp
value_total = then_total (on_total rank nat_cmp_total) (then_total (on_total as_number int_cmp_total) (on_total as_words nat_list_cmp_total))

-- ---- what an answer of the order says

gt-reversed : (o : Ordering) → is_gt (ordering_reverse o) ≡ is_lt o
gt-reversed Less = refl
gt-reversed Equal = refl
gt-reversed Greater = refl

pub gt_is_lt : (x y : Value) → is_gt (value_cmp x y) ≡ is_lt (value_cmp y x)
gt_is_lt x y = ap is_gt (value_total.antisymm x y) ∙ gt-reversed (value_cmp y x)

pub at_most : (x y z : Value) → AtMost x y → AtMost y z → AtMost x z
at_most x y z h k = upto value_total x y z h k

pub at_most_itself : (x : Value) → AtMost x x
at_most_itself x = ap is_gt (tied_itself value_total x)

pub lt_not : (x y : Value) → is_lt (value_cmp x y) ≡ true → AtMost y x → ⊥
lt_not x y h k = let e : is_gt (value_cmp y x) ≡ true = gt_is_lt y x ∙ h in cc

pub gt_not : (x y : Value) → is_gt (value_cmp x y) ≡ true → AtMost x y → ⊥
gt_not x y h k = cc

no-lt : (o : Ordering) → is_ge o ≡ true → is_lt o ≡ false
no-lt Less h = cc
no-lt Equal h = refl
no-lt Greater h = refl

no-gt : (o : Ordering) → is_le o ≡ true → is_gt o ≡ false
no-gt Less h = refl
no-gt Equal h = refl
no-gt Greater h = cc

equal-no-gt : (o : Ordering) → is_eq o ≡ true → is_gt o ≡ false
equal-no-gt Less h = refl
equal-no-gt Equal h = refl
equal-no-gt Greater h = cc

equal-no-lt : (o : Ordering) → is_eq o ≡ true → is_lt o ≡ false
equal-no-lt Less h = cc
equal-no-lt Equal h = refl
equal-no-lt Greater h = refl

neither : (o : Ordering) → is_ne o ≡ true → is_gt o ≡ false → is_lt o ≡ false → ⊥
neither Less h g l = cc
neither Equal h g l = cc
neither Greater h g l = cc

pub ge_below : (x y : Value) → is_ge (value_cmp x y) ≡ true → AtMost y x
ge_below x y h = gt_is_lt y x ∙ no-lt (value_cmp x y) h

pub le_below : (x y : Value) → is_le (value_cmp x y) ≡ true → AtMost x y
le_below x y h = no-gt (value_cmp x y) h

pub eq_below : (x y : Value) → is_eq (value_cmp x y) ≡ true → AtMost x y
eq_below x y h = equal-no-gt (value_cmp x y) h

pub eq_above : (x y : Value) → is_eq (value_cmp x y) ≡ true → AtMost y x
eq_above x y h = gt_is_lt y x ∙ equal-no-lt (value_cmp x y) h

pub ne_not : (x y : Value) → is_ne (value_cmp x y) ≡ true → AtMost x y → AtMost y x → ⊥
ne_not x y h k l = neither (value_cmp x y) h k (sym (gt_is_lt y x) ∙ l)

pub le_reversed : (o : Ordering) → is_ge (ordering_reverse o) ≡ is_le o
le_reversed Less = refl
le_reversed Equal = refl
le_reversed Greater = refl

pub gt_turned : (x y : Value) → is_gt (value_cmp x y) ≡ true → is_lt (value_cmp y x) ≡ true
gt_turned x y h = sym (gt_is_lt x y) ∙ h

pub ge_turned : (x y : Value) → is_ge (value_cmp x y) ≡ true → is_le (value_cmp y x) ≡ true
ge_turned x y h = sym (ap is_ge (value_total.antisymm x y) ∙ le_reversed (value_cmp y x)) ∙ h

-- ---- comparisons by the order

then-equal : (o : Ordering) → ordering_then o Equal ≡ o
then-equal Less = refl
then-equal Equal = refl
then-equal Greater = refl

pub compared_by_order : (op : Comparison) (a b : Value) → are_of_one_kind a b ≡ true → compared_values op a b ≡ Some (meets op (value_cmp a b))
compared_by_order op (flag true) (flag true) h = refl
compared_by_order op (flag true) (flag false) h = refl
compared_by_order op (flag false) (flag true) h = refl
compared_by_order op (flag false) (flag false) h = refl
compared_by_order op (flag a) (number b) h = cc
compared_by_order op (flag a) (words b) h = cc
compared_by_order op (number a) (flag b) h = cc
compared_by_order op (number a) (number b) h = ap (λ o. Some (meets op o)) (sym (then-equal (int_cmp a b)))
compared_by_order op (number a) (words b) h = cc
compared_by_order op (words a) (flag b) h = cc
compared_by_order op (words a) (number b) h = cc
compared_by_order op (words a) (words b) h = refl

of-one-kind : (op : Comparison) (a b : Value) → is_true (compared_values op a b) ≡ true → are_of_one_kind a b ≡ true
of-one-kind op (flag a) (flag b) h = refl
of-one-kind op (flag a) (number b) h = cc
of-one-kind op (flag a) (words b) h = cc
of-one-kind op (number a) (flag b) h = cc
of-one-kind op (number a) (number b) h = refl
of-one-kind op (number a) (words b) h = cc
of-one-kind op (words a) (flag b) h = cc
of-one-kind op (words a) (number b) h = cc
of-one-kind op (words a) (words b) h = refl

-- a comparison that is true is one of two values, in the order that it wants
pub record Compares (op : Comparison) (x y : Cell) : Type 0 where
  pub a : Value
  pub b : Value
  pub left : x ≡ value a
  pub right : y ≡ value b
  pub order : meets op (value_cmp a b) ≡ true

pub compares : (op : Comparison) (x y : Cell) → is_true (compared op x y) ≡ true → Compares op x y
compares op null y h = cc
compares op a_struct y h = cc
compares op (value a) null h = cc
compares op (value a) a_struct h = cc
compares op (value a) (value b) h =
    record { a = a; b = b; left = refl; right = refl; order = sym (ap is_true (compared_by_order op a b (of-one-kind op a b h))) ∙ h }

-- ---- bounds

-- a bound below, or above, where it is known
abbrev pub IsLow : Option Value → Value → Type 0
IsLow None v = Unit {0}
IsLow (Some l) v = AtMost l v

abbrev pub IsHigh : Option Value → Value → Type 0
IsHigh None v = Unit {0}
IsHigh (Some h) v = AtMost v h

pub lt_never : (l h : Option Value) (x y : Value) → IsLow l x → IsHigh h y → ranked is_ge l h ≡ true → is_lt (value_cmp x y) ≡ true → ⊥
lt_never None h x y a b r e = cc
lt_never (Some l) None x y a b r e = cc
lt_never (Some l) (Some h) x y a b r e = lt_not x y e (at_most y h x b (at_most h l x (ge_below l h r) a))

pub le_never : (l h : Option Value) (x y : Value) → IsLow l x → IsHigh h y → ranked is_gt l h ≡ true → is_le (value_cmp x y) ≡ true → ⊥
le_never None h x y a b r e = cc
le_never (Some l) None x y a b r e = cc
le_never (Some l) (Some h) x y a b r e = gt_not l h r (at_most l x h a (at_most x y h (le_below x y e) b))

pub eq_never : (h l : Option Value) (x y : Value) → IsHigh h x → IsLow l y → ranked is_lt h l ≡ true → AtMost y x → ⊥
eq_never None l x y a b r e = cc
eq_never (Some h) None x y a b r e = cc
eq_never (Some h) (Some l) x y a b r e = lt_not h l r (at_most l y h b (at_most y x h e a))

pub ne_never : (l h m k : Option Value) (x y : Value) → IsLow l x → IsHigh h x → IsLow m y → IsHigh k y
    → ranked is_eq l h ≡ true → ranked is_eq h m ≡ true → ranked is_eq m k ≡ true → is_ne (value_cmp x y) ≡ true → ⊥
ne_never None h m k x y a b c d r s t e = cc
ne_never (Some l) None m k x y a b c d r s t e = cc
ne_never (Some l) (Some h) None k x y a b c d r s t e = cc
ne_never (Some l) (Some h) (Some m) None x y a b c d r s t e = cc
ne_never (Some l) (Some h) (Some m) (Some k) x y a b c d r s t e =
    ne_not x y e (at_most x h y b (at_most h m y (eq_below h m s) c))
    (at_most y k x d (at_most k m x (eq_above m k t) (at_most m h x (eq_above h m s) (at_most h l x (eq_above l h r) a))))
