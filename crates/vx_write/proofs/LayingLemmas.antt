-- The chunks of leaves, and the layouts over them.
use Rattle.std.proofs.Common.{◌≡◌, ℕ, zero, suc, ◌+◌, ◌-◌, ◌<◌, ◌≤◌, ◌^◌, Bool, true, false, List, [], ◌∷◌, ◌++◌, length, map, take, drop, get_or, refl, sym, ap, subst, ◌∙◌, arith, add-one, drop-cons, length-drop, length-append}
use Rattle.std.specs.Prelude.{replicate, slice_set, sum_by, ◌&&◌, ◌==◌, Option, Some, None, is_some, String, string_bytes}
use Rattle.std.specs.List.{list_all}
use Rattle.std.specs.Global.{Global}
use Rattle.std.proofs.lemmas.Bool.{eq-eqb}
use Rattle.std.proofs.lemmas.List.Sums.{sum_by-cons}
use Rattle.std.proofs.lemmas.List.{length-replicate}
use Rattle.vx_data.specs.declared.layout_kind.LayoutKind.TheVariants.{Flat, Chunked, Struct}
use Rattle.vx_data.specs.Dtype.{Dtype, FieldList, bool, int, text, struct, no_fields, field}
use Rattle.vx_data.specs.Layout.{LayoutTree, node, no_layouts, layouts_of, dtype_of, rows_of, rows_sum, dtypes_of, validity, child_dtypes, has_shape, Fits}
use Rattle.vx_write.specs.declared.laid_chunk.Laid.{Laid}
use Rattle.vx_write.specs.declared.laid_chunk.Numbered.{Numbered}
use Rattle.vx_write.specs.declared.strategy.LeafStrategy.{LeafStrategy}
use Rattle.vx_write.specs.Plans.{PlanTree, PlanList, a_leaf, a_struct, no_plans, a_plan, IsFor, AreFor}
use Rattle.vx_write.specs.Laying.{Groups, put_at, put_from, grouped, flat, chunked, leaf_layout, first_group, validity_count, leaf_count, leaves_count, with_validity, laid_out, all_laid_out, AreFull}

-- ---- the chunks of leaves

pub put_set : (gs : Groups) (place : ℕ) (x : Numbered) (d : List Numbered) → place < length gs → slice_set gs place (get_or gs place d ++ x ∷ []) ≡ put_at place x gs
put_set [] place x d lt = absurd (omega (arith, lt))
put_set (g ∷ gs) zero x d lt = refl
put_set (g ∷ gs) (suc place) x d lt = ap (λ hs. g ∷ hs) (put_set gs place x d (omega (arith, lt)))

pub put_past : (gs : Groups) (place : ℕ) (x : Numbered) → length gs ≤ place → put_at place x gs ≡ gs
put_past [] place x le = refl
put_past (g ∷ gs) zero x le = absurd (omega (arith, le))
put_past (g ∷ gs) (suc place) x le = ap (λ hs. g ∷ hs) (put_past gs place x (omega (arith, le)))

next : {A : Type 0} → (xs : List A) (i : ℕ) (x : A) → i < length xs → x ≡ get_or xs i x → drop i xs ≡ x ∷ drop (i + 1) xs
next xs i x lt is = rw (add-one, drop-cons xs i x, ← is) refl

pub put_next : (ls : List Laid) (i : ℕ) (l : Laid) (gs : Groups) → i < length ls → l ≡ get_or ls i l
    → put_from i (drop i ls) gs ≡ put_from (i + 1) (drop (i + 1) ls) (put_at l.leaf (record { rows = l.rows; segment = i }) gs)
put_next ls i l gs lt is = ap (λ xs. put_from i xs gs) (next ls i l lt is)

-- ---- a leaf

pub flat_types : (d : Dtype) (xs : List Numbered) → replicate (length (map (flat d) xs)) d ≡ map dtype_of (map (flat d) xs)
flat_types d [] = refl
flat_types d (x ∷ xs) = ap (λ ds. d ∷ ds) (flat_types d xs)

pub flat_rows : (d : Dtype) (xs : List Numbered) → rows_sum (map (flat d) xs) ≡ sum_by (λ x. x.rows) xs
flat_rows d [] = refl
flat_rows d (x ∷ xs) = sum_by-cons rows_of (flat d x) (map (flat d) xs) ∙ ap (λ n. x.rows + n) (flat_rows d xs) ∙ sym (sum_by-cons (λ y. y.rows) x xs)

pub only_flat : (d : Dtype) (xs : List Numbered) (x : Numbered) → length xs ≡ 1 → leaf_layout d xs ≡ flat d (get_or xs 0 x)
only_flat d [] x h = absurd (omega (arith, h))
only_flat d (y ∷ []) x h = refl
only_flat d (y ∷ z ∷ xs) x h = absurd (omega (arith, h))

pub many_chunked : (d : Dtype) (xs : List Numbered) → (length xs ≡ 1 → ⊥) → leaf_layout d xs ≡ chunked d xs
many_chunked d [] h = refl
many_chunked d (y ∷ []) h = absurd (h refl)
many_chunked d (y ∷ z ∷ xs) h = refl

leaf-type : (d : Dtype) (xs : List Numbered) → dtype_of (leaf_layout d xs) ≡ d
leaf-type d [] = refl
leaf-type d (x ∷ []) = refl
leaf-type d (x ∷ y ∷ xs) = refl

leaf-rows : (d : Dtype) (xs : List Numbered) → rows_of (leaf_layout d xs) ≡ sum_by (λ x. x.rows) xs
leaf-rows d [] = refl
leaf-rows d (x ∷ []) = omega arith
leaf-rows d (x ∷ y ∷ xs) = refl

pub first_at : (gs : Groups) (d : List Numbered) → 1 ≤ length gs → first_group gs ≡ get_or gs 0 d
first_at [] d h = absurd (omega (arith, h))
first_at (g ∷ gs) d h = refl

-- ---- full leaves

pub full_first : (n : ℕ) (gs : Groups) → AreFull n gs → 1 ≤ length gs → sum_by (λ x. x.rows) (first_group gs) ≡ n
full_first n [] h le = absurd (omega (arith, le))
full_first n (g ∷ gs) h le = h.0

pub full_drop : (n k : ℕ) (gs : Groups) → AreFull n gs → AreFull n (drop k gs)
full_drop n zero gs h = h
full_drop n (suc k) [] h = h
full_drop n (suc k) (g ∷ gs) h = full_drop n k gs h.1

-- ---- a struct

some-leaf : (p : PlanTree) (ps : PlanList) (gs : Groups) → leaf_count p + leaves_count ps ≤ length gs → leaves_count ps ≤ length (drop (leaf_count p) gs)
some-leaf p ps gs le = omega (arith, le, length-drop (leaf_count p) gs)

mutual
  pub laid_type : (p : PlanTree) (d : Dtype) (n : ℕ) (gs : Groups) → IsFor p d → AreFull n gs → leaf_count p ≤ length gs → dtype_of (laid_out p d n gs) ≡ d
  laid_type (a_leaf s) d n gs fit full le = leaf-type d (first_group gs)
  laid_type (a_struct v ps) (struct fs nullable) n gs fit full le = refl
  laid_type (a_struct v ps) (bool nullable) n gs fit full le = absurd fit
  laid_type (a_struct v ps) (int ptype nullable) n gs fit full le = absurd fit
  laid_type (a_struct v ps) (text nullable) n gs fit full le = absurd fit

  pub laid_rows : (p : PlanTree) (d : Dtype) (n : ℕ) (gs : Groups) → IsFor p d → AreFull n gs → leaf_count p ≤ length gs → rows_of (laid_out p d n gs) ≡ n
  laid_rows (a_leaf s) d n gs fit full le = leaf-rows d (first_group gs) ∙ full_first n gs full le
  laid_rows (a_struct v ps) (struct fs nullable) n gs fit full le = refl
  laid_rows (a_struct v ps) (bool nullable) n gs fit full le = absurd fit
  laid_rows (a_struct v ps) (int ptype nullable) n gs fit full le = absurd fit
  laid_rows (a_struct v ps) (text nullable) n gs fit full le = absurd fit

pub fields_types : (ps : PlanList) (fs : FieldList) (n : ℕ) (gs : Groups) → AreFor ps fs → AreFull n gs → leaves_count ps ≤ length gs → map dtype_of (all_laid_out ps fs n gs) ≡ dtypes_of fs
fields_types no_plans no_fields n gs fit full le = refl
fields_types no_plans (field name d fs) n gs fit full le = absurd fit
fields_types (a_plan p ps) no_fields n gs fit full le = absurd fit
fields_types (a_plan p ps) (field name d fs) n gs fit full le =
    ap (λ t. t ∷ map dtype_of (all_laid_out ps fs n (drop (leaf_count p) gs))) (laid_type p d n gs fit.0 full (omega (arith, le)))
    ∙ ap (λ ts. d ∷ ts) (fields_types ps fs n (drop (leaf_count p) gs) fit.1 (full_drop n (leaf_count p) gs full) (some-leaf p ps gs le))

and-true : (a b : Bool) → a ≡ true → b ≡ true → (a && b) ≡ true
and-true a b h k = ap (λ x. x && b) h ∙ k

pub fields_rows : (ps : PlanList) (fs : FieldList) (n : ℕ) (gs : Groups) → AreFor ps fs → AreFull n gs → leaves_count ps ≤ length gs → list_all (λ t. n == rows_of t) (all_laid_out ps fs n gs) ≡ true
fields_rows no_plans no_fields n gs fit full le = refl
fields_rows no_plans (field name d fs) n gs fit full le = absurd fit
fields_rows (a_plan p ps) no_fields n gs fit full le = absurd fit
fields_rows (a_plan p ps) (field name d fs) n gs fit full le = and-true _ _
    (eq-eqb n (rows_of (laid_out p d n gs)) (sym (laid_rows p d n gs fit.0 full (omega (arith, le)))))
    (fields_rows ps fs n (drop (leaf_count p) gs) fit.1 (full_drop n (leaf_count p) gs full) (some-leaf p ps gs le))

pub struct_fits : (v : Option LeafStrategy) (ps : PlanList) (fs : FieldList) (n : ℕ) (gs : Groups) → AreFor ps fs → AreFull n gs → validity_count v + leaves_count ps ≤ length gs
    → Fits Struct (struct fs (is_some v)) n [] (with_validity v gs (all_laid_out ps fs n (drop (validity_count v) gs)))
struct_fits None ps fs n gs fit full few = let le : leaves_count ps ≤ length gs = omega (arith, few) in record { dtypes = ap Some (sym (fields_types ps fs n gs fit full le)); shape = fields_rows ps fs n gs fit full le }
struct_fits (Some s) ps fs n gs fit full le =
    let rest = full_drop n 1 gs full in
    let many : leaves_count ps ≤ length (drop 1 gs) = omega (arith, le, length-drop 1 gs) in
    record {
      dtypes = ap Some (ap (λ t. t ∷ dtypes_of fs) (sym (leaf-type (bool false) (first_group gs)))
          ∙ ap (λ ts. dtype_of (leaf_layout (bool false) (first_group gs)) ∷ ts) (sym (fields_types ps fs n (drop 1 gs) fit rest many)));
      shape = and-true _ _
          (eq-eqb n (rows_of (leaf_layout (bool false) (first_group gs))) (sym (leaf-rows (bool false) (first_group gs) ∙ full_first n gs full (omega (arith, le)))))
          (fields_rows ps fs n (drop 1 gs) fit rest many);
    }

-- ---- as many groups as leaves

put-long : (place : ℕ) (x : Numbered) (gs : Groups) → length (put_at place x gs) ≡ length gs
put-long place x [] = refl
put-long zero x (g ∷ gs) = refl
put-long (suc place) x (g ∷ gs) = ap suc (put-long place x gs)

puts-long : (n : ℕ) (ls : List Laid) (gs : Groups) → length (put_from n ls gs) ≡ length gs
puts-long n [] gs = refl
puts-long n (l ∷ ls) gs = puts-long (n + 1) ls (put_at l.leaf (record { rows = l.rows; segment = n }) gs) ∙ put-long l.leaf (record { rows = l.rows; segment = n }) gs

pub grouped_long : (n : ℕ) (ls : List Laid) → length (grouped n ls) ≡ n
grouped_long n ls = puts-long 0 ls (replicate n []) ∙ length-replicate n []
