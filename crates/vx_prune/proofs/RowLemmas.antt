-- What statistics tell of one row.
use Rattle.std.proofs.Common.{◌≡◌, ℕ, Bool, true, false, List, refl, ap, sym, ◌∙◌}
use Rattle.std.specs.Prelude.{not, ◌&&◌, ◌||◌, Option, Some, None}
use Rattle.std.specs.Ordering.{is_eq, is_lt, is_gt}
use Rattle.vx_data.specs.Dtype.{Dtype}
use Rattle.vx_data.specs.Scalar.{Value, flag, number, words}
use Rattle.vx_data.specs.Stats.{Stats}
use Rattle.vx_rows.specs.declared.predicate.Comparison.{Comparison}
use Rattle.vx_rows.specs.declared.predicate.Comparison.TheVariants.{Eq, Ne, Lt, Le, Gt, Ge}
use Rattle.vx_rows.specs.RowValues.{Cell, null, value, a_struct, Row, value_cell, bool_cell}
use Rattle.vx_rows.specs.Predicates.{Pred, lit, root, path, cast, add, compare, both, either, negated, null_test, present_test}
use Rattle.vx_rows.specs.Truth.{to_truth, kleene_and, kleene_or, is_null, is_true, meets, compared, value_at, satisfies}
use Rattle.vx_prune.specs.Never.{value_cmp, Known, unknown, known_field, known_path, known_value, known, ranked, never_by, never_compare, is_false, never_true, never}
use Rattle.vx_prune.proofs.OrderLemmas.{IsLow, IsHigh, at_most_itself, Compares, compares, gt_turned, ge_turned, lt_never, le_never, eq_never, ne_never, eq_below, eq_above}

-- what is known of an operand is true of it at a row
pub record Fits (k : Known) (c : Cell) : Type 0 where
  pub low : (v : Value) → c ≡ value v → IsLow k.low v
  pub high : (v : Value) → c ≡ value v → IsHigh k.high v
  pub always : k.always_null ≡ true → c ≡ null
  pub never : k.never_null ≡ true → is_null c ≡ false

pub record FitsRow (d : Dtype) (ss : List Stats) (n : ℕ) (r : Row) : Type 0 where
  pub field : (names : List (List ℕ)) → Fits (known_field names d ss n) (value_at (path names) d r)

pub fits_unknown : (c : Cell) → Fits unknown c
fits_unknown c = record { low = λ v e. tt; high = λ v e. tt; always = λ h. cc; never = λ h. cc }

fits-value : (v : Option Value) → Fits (known_value v) (value_cell v)
fits-value None = record { low = λ v e. tt; high = λ v e. tt; always = λ h. refl; never = λ h. cc }
fits-value (Some v) = record {
  low = λ w e. let same : v ≡ w = cc in ap (λ x. is_gt (value_cmp v x)) (sym same) ∙ at_most_itself v;
  high = λ w e. let same : v ≡ w = cc in ap (λ x. is_gt (value_cmp x v)) (sym same) ∙ at_most_itself v;
  always = λ h. cc;
  never = λ h. refl;
}

fits-path : (d : Dtype) (ss : List Stats) (n : ℕ) (r : Row) → FitsRow d ss n r → (p : Pred) → Fits (known_path p d ss n) (value_at p d r)
fits-path d ss n r h (lit t v) = fits_unknown _
fits-path d ss n r h root = fits_unknown _
fits-path d ss n r h (path names) = h.field names
fits-path d ss n r h (cast t p) = fits-path d ss n r h p
fits-path d ss n r h (add p q) = fits_unknown _
fits-path d ss n r h (compare op p q) = fits_unknown _
fits-path d ss n r h (both p q) = fits_unknown _
fits-path d ss n r h (either p q) = fits_unknown _
fits-path d ss n r h (negated p) = fits_unknown _
fits-path d ss n r h (null_test p) = fits_unknown _
fits-path d ss n r h (present_test p) = fits_unknown _

fits-known : (d : Dtype) (ss : List Stats) (n : ℕ) (r : Row) → FitsRow d ss n r → (p : Pred) → Fits (known p d ss n) (value_at p d r)
fits-known d ss n r h (lit t v) = fits-value v
fits-known d ss n r h root = fits_unknown _
fits-known d ss n r h (path names) = h.field names
fits-known d ss n r h (cast t p) = fits-path d ss n r h p
fits-known d ss n r h (add p q) = fits_unknown _
fits-known d ss n r h (compare op p q) = fits_unknown _
fits-known d ss n r h (both p q) = fits_unknown _
fits-known d ss n r h (either p q) = fits_unknown _
fits-known d ss n r h (negated p) = fits_unknown _
fits-known d ss n r h (null_test p) = fits_unknown _
fits-known d ss n r h (present_test p) = fits_unknown _

-- ---- tests of two

one-of : (a b : Bool) → (a || b) ≡ true → (a ≡ true → ⊥) → (b ≡ true → ⊥) → ⊥
one-of true b h f g = f refl
one-of false b h f g = g h

first-of : (a b : Bool) → (a && b) ≡ true → a ≡ true
first-of true b h = refl
first-of false b h = h

second-of : (a b : Bool) → (a && b) ≡ true → b ≡ true
second-of true b h = h
second-of false b h = cc

-- ---- one comparison

-- of two values within what is known, in the order that the comparison wants
pub never_meets : (op : Comparison) (a b : Known) (x y : Value) → IsLow a.low x → IsHigh a.high x → IsLow b.low y → IsHigh b.high y → never_by op a b ≡ true → meets op (value_cmp x y) ≡ true → ⊥
never_meets Eq a b x y al ah bl bh h m = one-of (ranked is_lt a.high b.low) (ranked is_lt b.high a.low) h
    (λ e. eq_never a.high b.low x y ah bl e (eq_above x y m)) (λ e. eq_never b.high a.low y x bh al e (eq_below x y m))
never_meets Ne a b x y al ah bl bh h m =
    let rest : (ranked is_eq a.high b.low && ranked is_eq b.low b.high) ≡ true = second-of (ranked is_eq a.low a.high) _ h in
    ne_never a.low a.high b.low b.high x y al ah bl bh (first-of (ranked is_eq a.low a.high) _ h) (first-of _ (ranked is_eq b.low b.high) rest)
    (second-of (ranked is_eq a.high b.low) _ rest) m
never_meets Lt a b x y al ah bl bh h m = lt_never a.low b.high x y al bh h m
never_meets Le a b x y al ah bl bh h m = le_never a.low b.high x y al bh h m
never_meets Gt a b x y al ah bl bh h m = lt_never b.low a.high y x bl ah h (gt_turned x y m)
never_meets Ge a b x y al ah bl bh h m = le_never b.low a.high y x bl ah h (ge_turned x y m)

null-first : (op : Comparison) (x y : Cell) → x ≡ null → is_true (compared op x y) ≡ true → ⊥
null-first op x y e h = let c : Compares op x y = compares op x y h in let f : value c.a ≡ null = sym c.left ∙ e in cc

null-second : (op : Comparison) (x y : Cell) → y ≡ null → is_true (compared op x y) ≡ true → ⊥
null-second op x y e h = let c : Compares op x y = compares op x y h in let f : value c.b ≡ null = sym c.right ∙ e in cc

pub compare_sound : (op : Comparison) (a b : Known) (x y : Cell) → Fits a x → Fits b y → never_compare op a b ≡ true → is_true (compared op x y) ≡ true → ⊥
compare_sound op a b x y f g h t =
    let c : Compares op x y = compares op x y t in
    one-of a.always_null (b.always_null || never_by op a b) h (λ e. null-first op x y (f.always e) t)
    (λ e. one-of b.always_null (never_by op a b) e (λ i. null-second op x y (g.always i) t)
    (λ i. never_meets op a b c.a c.b (f.low c.a c.left) (f.high c.a c.left) (g.low c.b c.right) (g.high c.b c.right) i c.order))

-- ---- all nodes

truth-of : (o : Option Bool) → is_true (to_truth (bool_cell o)) ≡ is_true o
truth-of None = refl
truth-of (Some b) = refl

and-first : (a b : Option Bool) → is_true (kleene_and a b) ≡ true → is_true a ≡ true
and-first (Some true) b h = refl
and-first (Some false) b h = cc
and-first None (Some true) h = cc
and-first None (Some false) h = cc
and-first None None h = cc

and-second : (a b : Option Bool) → is_true (kleene_and a b) ≡ true → is_true b ≡ true
and-second (Some true) b h = h
and-second (Some false) b h = cc
and-second None (Some true) h = cc
and-second None (Some false) h = cc
and-second None None h = cc

or-one : (a b : Option Bool) → is_true (kleene_or a b) ≡ true → (is_true a ≡ true → ⊥) → (is_true b ≡ true → ⊥) → ⊥
or-one (Some true) b h f g = f refl
or-one (Some false) b h f g = g h
or-one None (Some true) h f g = g refl
or-one None (Some false) h f g = cc
or-one None None h f g = cc

path-never : (k : Known) (c : Cell) → Fits k c → never_true k ≡ true → is_true (to_truth c) ≡ true → ⊥
path-never k null f h t = cc
path-never k a_struct f h t = cc
path-never k (value (number z)) f h t = cc
path-never k (value (words w)) f h t = cc
path-never k (value (flag false)) f h t = cc
path-never k (value (flag true)) f h t =
    one-of k.always_null (is_false k.high) h (λ e. let n : value (flag true) ≡ null = f.always e in cc) (λ e. above k.high (f.high (flag true) refl) e)
  where
    above : (o : Option Value) → IsHigh o (flag true) → is_false o ≡ true → ⊥
    above None i e = cc
    above (Some (number z)) i e = cc
    above (Some (words w)) i e = cc
    above (Some (flag true)) i e = cc
    above (Some (flag false)) i e = cc

not-both : (b : Bool) → not b ≡ true → b ≡ true → ⊥
not-both true h t = cc
not-both false h t = cc

-- what never holds is not true at a row of which the statistics are true
pub row_sound : (d : Dtype) (ss : List Stats) (n : ℕ) (r : Row) → FitsRow d ss n r → (p : Pred) → never p d ss n ≡ true → satisfies p d r ≡ true → ⊥
row_sound d ss n r f (lit t v) h s = not-both (is_true (to_truth (value_cell v))) h s
row_sound d ss n r f root h s = cc
row_sound d ss n r f (path names) h s = path-never (known_field names d ss n) (value_at (path names) d r) (f.field names) h s
row_sound d ss n r f (cast t p) h s = cc
row_sound d ss n r f (add p q) h s = cc
row_sound d ss n r f (compare op p q) h s =
    compare_sound op (known p d ss n) (known q d ss n) (value_at p d r) (value_at q d r) (fits-known d ss n r f p) (fits-known d ss n r f q) h
    (sym (truth-of (compared op (value_at p d r) (value_at q d r))) ∙ s)
row_sound d ss n r f (both p q) h s =
    let x = to_truth (value_at p d r) in
    let y = to_truth (value_at q d r) in
    let t : is_true (kleene_and x y) ≡ true = sym (truth-of (kleene_and x y)) ∙ s in
    one-of (never p d ss n) (never q d ss n) h (λ e. row_sound d ss n r f p e (and-first x y t)) (λ e. row_sound d ss n r f q e (and-second x y t))
row_sound d ss n r f (either p q) h s =
    let x = to_truth (value_at p d r) in
    let y = to_truth (value_at q d r) in
    let t : is_true (kleene_or x y) ≡ true = sym (truth-of (kleene_or x y)) ∙ s in
    or-one x y t (row_sound d ss n r f p (first-of (never p d ss n) (never q d ss n) h)) (row_sound d ss n r f q (second-of (never p d ss n) (never q d ss n) h))
row_sound d ss n r f (negated p) h s = cc
row_sound d ss n r f (null_test p) h s = let e : is_null (value_at p d r) ≡ false = (fits-path d ss n r f p).never h in cc
row_sound d ss n r f (present_test p) h s =
    let e : value_at p d r ≡ null = (fits-known d ss n r f p).always h in
    let t : not (is_null (value_at p d r)) ≡ false = ap (λ c. not (is_null c)) e in cc
