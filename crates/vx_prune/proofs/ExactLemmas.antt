-- Where pruning is exact: one comparison of a field with a literal.
use Rattle.std.proofs.Common.{◌≡◌, ℕ, Bool, true, false, List, refl, ap, sym, ◌∙◌}
use Rattle.std.specs.Prelude.{◌&&◌, ◌||◌, Some}
use Rattle.std.specs.declared.cmp.Ordering.{Ordering}
use Rattle.std.specs.declared.cmp.Ordering.TheVariants.{Less, Equal, Greater}
use Rattle.std.specs.Ordering.{is_eq, is_ne, is_lt, is_le, is_gt, is_ge}
use Rattle.std.proofs.lemmas.Cmp.{tied_itself}
use Rattle.vx_data.specs.Dtype.{Dtype}
use Rattle.vx_data.specs.Scalar.{Value, flag, number, words}
use Rattle.vx_data.specs.Stats.{Stats}
use Rattle.vx_rows.specs.declared.predicate.Comparison.{Comparison}
use Rattle.vx_rows.specs.declared.predicate.Comparison.TheVariants.{Eq, Ne, Lt, Le, Gt, Ge}
use Rattle.vx_rows.specs.RowValues.{value}
use Rattle.vx_rows.specs.Predicates.{Pred, lit, root, path, cast, add, compare, both, either, negated, null_test, present_test}
use Rattle.vx_rows.specs.Truth.{is_true, meets, compared_values}
use Rattle.vx_prune.specs.Never.{value_cmp, Known, known_path, known_value, known, never_compare, never}
use Rattle.vx_prune.specs.Pruning.{AtMost, is_field, are_of_one_kind, ExactLaw}
use Rattle.vx_prune.proofs.OrderLemmas.{value_total, gt_is_lt, le_reversed, at_most_itself, compared_by_order, Compares, compares, eq_below, eq_above, at_most}
use Rattle.vx_prune.proofs.RowLemmas.{never_meets}

known-field : (p : Pred) (d : Dtype) (ss : List Stats) (n : ℕ) → is_field p ≡ true → known p d ss n ≡ known_path p d ss n
known-field (path names) d ss n h = refl
known-field (cast t p) d ss n h = refl
known-field (lit t v) d ss n h = cc
known-field root d ss n h = cc
known-field (add p q) d ss n h = cc
known-field (compare op p q) d ss n h = cc
known-field (both p q) d ss n h = cc
known-field (either p q) d ss n h = cc
known-field (negated p) d ss n h = cc
known-field (null_test p) d ss n h = cc
known-field (present_test p) d ss n h = cc

-- ---- from the bounds to the test and back

-- the test at plain bounds
abbrev tested : Comparison → Value → Value → Value → Bool
tested Eq l h v = is_lt (value_cmp h v) || is_lt (value_cmp v l)
tested Ne l h v = is_eq (value_cmp l h) && (is_eq (value_cmp h v) && is_eq (value_cmp v v))
tested Lt l h v = is_ge (value_cmp l v)
tested Le l h v = is_gt (value_cmp l v)
tested Gt l h v = is_ge (value_cmp v h)
tested Ge l h v = is_gt (value_cmp v h)

tested-is : (op : Comparison) (k : Known) (l h v : Value) → k.low ≡ Some l → k.high ≡ Some h → k.always_null ≡ false → never_compare op k (known_value (Some v)) ≡ tested op l h v
tested-is Eq k l h v a b c = rw (c, a, b) refl
tested-is Ne k l h v a b c = rw (c, a, b) refl
tested-is Lt k l h v a b c = rw (c, a) refl
tested-is Le k l h v a b c = rw (c, a) refl
tested-is Gt k l h v a b c = rw (c, b) refl
tested-is Ge k l h v a b c = rw (c, b) refl

-- no value between the bounds meets what the test excludes
sound : (op : Comparison) (l h v w : Value) → tested op l h v ≡ true → AtMost l w → AtMost w h → is_true (compared_values op w v) ≡ true → ⊥
sound op l h v w t a b m =
    let c : Compares op (value w) (value v) = compares op (value w) (value v) m in
    let left : w ≡ c.a = cc in
    let right : v ≡ c.b = cc in
    let order : meets op (value_cmp w v) ≡ true = ap (λ x. meets op (value_cmp x v)) left ∙ ap (λ x. meets op (value_cmp c.a x)) right ∙ c.order in
    never_meets op (record { low = Some l; high = Some h; always_null = false; never_null = false }) (known_value (Some v)) w v a b (at_most_itself v) (at_most_itself v)
    (tested-is op (record { low = Some l; high = Some h; always_null = false; never_null = false }) l h v refl refl refl ∙ t) order

not-true : (b : Bool) → (b ≡ true → ⊥) → b ≡ false
not-true true h = absurd (h refl)
not-true false h = refl

-- a value between the bounds that is compared as it is not to be
refuted : (op : Comparison) (l h v w : Value) → ((w : Value) → AtMost l w → AtMost w h → is_true (compared_values op w v) ≡ false) → AtMost l w → AtMost w h → are_of_one_kind w v ≡ true → meets op (value_cmp w v) ≡ false
refuted op l h v w f a b kind = sym (ap is_true (compared_by_order op w v kind)) ∙ f w a b

not-lt : (o : Ordering) → is_lt o ≡ false → is_ge o ≡ true
not-lt Less h = cc
not-lt Equal h = refl
not-lt Greater h = refl

not-le : (o : Ordering) → is_le o ≡ false → is_gt o ≡ true
not-le Less h = cc
not-le Equal h = cc
not-le Greater h = refl

not-ne : (o : Ordering) → is_ne o ≡ false → is_eq o ≡ true
not-ne Less h = cc
not-ne Equal h = refl
not-ne Greater h = cc

neither : (o : Ordering) → is_gt o ≡ false → is_lt o ≡ false → is_eq o ≡ true
neither Less g l = cc
neither Equal g l = refl
neither Greater g l = cc

tied-eq : (v : Value) → is_eq (value_cmp v v) ≡ true
tied-eq v = ap is_eq (tied_itself value_total v)

own-kind : (v : Value) → are_of_one_kind v v ≡ true
own-kind (flag b) = refl
own-kind (number n) = refl
own-kind (words t) = refl

all-three : (a b c : Bool) → a ≡ true → b ≡ true → c ≡ true → (a && (b && c)) ≡ true
all-three a b c x y z = rw (x, y, z) refl

eq-complete : (l h v : Value) → ((w : Value) → AtMost l w → AtMost w h → is_true (compared_values Eq w v) ≡ false) → (a b : Bool) → is_lt (value_cmp h v) ≡ a → is_lt (value_cmp v l) ≡ b → (a || b) ≡ true
eq-complete l h v f true b x y = refl
eq-complete l h v f false true x y = refl
eq-complete l h v f false false x y =
    let e : is_eq (value_cmp v v) ≡ false = refuted Eq l h v v f (gt_is_lt l v ∙ y) (gt_is_lt v h ∙ x) (own-kind v) in
    let t : is_eq (value_cmp v v) ≡ true = tied-eq v in cc

complete : (op : Comparison) (l h v : Value) → AtMost l h → are_of_one_kind l v ≡ true → are_of_one_kind h v ≡ true
    → ((w : Value) → AtMost l w → AtMost w h → is_true (compared_values op w v) ≡ false) → tested op l h v ≡ true
complete Eq l h v o a b f = eq-complete l h v f _ _ refl refl
complete Ne l h v o a b f =
    let x : is_eq (value_cmp l v) ≡ true = not-ne _ (refuted Ne l h v l f (at_most_itself l) o a) in
    let y : is_eq (value_cmp h v) ≡ true = not-ne _ (refuted Ne l h v h f o (at_most_itself h) b) in
    let back : AtMost h l = at_most h v l (eq_below h v y) (eq_above l v x) in
    all-three _ _ _ (neither (value_cmp l h) o (sym (gt_is_lt h l) ∙ back)) y (tied-eq v)
complete Lt l h v o a b f = not-lt _ (refuted Lt l h v l f (at_most_itself l) o a)
complete Le l h v o a b f = not-le _ (refuted Le l h v l f (at_most_itself l) o a)
complete Gt l h v o a b f = not-lt _ (sym (gt_is_lt h v) ∙ refuted Gt l h v h f o (at_most_itself h) b)
complete Ge l h v o a b f =
    not-le _ (sym (ap is_ge (value_total.antisymm h v) ∙ le_reversed (value_cmp v h)) ∙ refuted Ge l h v h f o (at_most_itself h) b)

pub exact_comparison : ExactLaw
exact_comparison op p t v d ss n l h field k =
    let same : never (compare op p (lit t (Some v))) d ss n ≡ tested op l h v =
    ap (λ x. never_compare op x (known_value (Some v))) (known-field p d ss n field) ∙ tested-is op (known_path p d ss n) l h v k.low k.high k.some in
    (λ yes w a b. not-true _ (sound op l h v w (sym same ∙ yes) a b), λ f. same ∙ complete op l h v k.ordered k.low_kind k.high_kind f)
