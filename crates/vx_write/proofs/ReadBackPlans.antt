-- The layout of a file fits its type, and its numbers fit their widths.
use Rattle.std.proofs.Common.{◌≡◌, ℕ, zero, suc, ◌+◌, ◌<◌, ◌≤◌, ◌^◌, Bool, false, List, [], ◌∷◌, ◌++◌, length, map, drop, Option, Some, None, refl, sym, ap, subst, arith, length-drop}
use Rattle.std.specs.Prelude.{replicate, sum_by}
use Rattle.std.specs.List.{AllByRecursion}
use Rattle.std.proofs.lemmas.Bool.{eq-eqb}
use Rattle.std.proofs.lemmas.List.Sums.{sum_by-cons}
use Rattle.vx_data.specs.declared.layout_kind.LayoutKind.TheVariants.{Flat, Chunked, Struct}
use Rattle.vx_data.specs.Dtype.{Dtype, FieldList, bool, int, text, struct, no_fields, field}
use Rattle.vx_data.specs.Layout.{LayoutTree, no_layouts, layouts_of, Fits}
use Rattle.vx_footer.specs.ReadAgain.{list_of, IsNode, IsLaid, AreLaid}
use Rattle.vx_write.specs.declared.laid_chunk.Laid.{Laid}
use Rattle.vx_write.specs.declared.laid_chunk.Numbered.{Numbered}
use Rattle.vx_write.specs.declared.strategy.LeafStrategy.{LeafStrategy}
use Rattle.vx_write.specs.Laying.{Groups, put_at, put_from, grouped, flat, chunked, leaf_layout, first_group, validity_count, leaf_count, leaves_count, with_validity, laid_out, all_laid_out, AreFull}
use Rattle.vx_write.specs.Plans.{PlanTree, PlanList, a_leaf, a_struct, no_plans, a_plan, IsFor, AreFor}
use Rattle.vx_write.proofs.LayingLemmas.{flat_types, flat_rows, full_first, full_drop, struct_fits}

-- ---- numbers of segments

abbrev pub IsLow : List Numbered → Type 0
IsLow xs = AllByRecursion (λ (x : Numbered). x.segment < 2 ^ 32) xs

abbrev pub AreLow : Groups → Type 0
AreLow gs = AllByRecursion IsLow gs

low_push : (xs : List Numbered) (x : Numbered) → IsLow xs → x.segment < 2 ^ 32 → IsLow (xs ++ x ∷ [])
low_push [] x h k = (k, tt)
low_push (y ∷ xs) x h k = (h.0, low_push xs x h.1 k)

low_put : (place : ℕ) (x : Numbered) (gs : Groups) → x.segment < 2 ^ 32 → AreLow gs → AreLow (put_at place x gs)
low_put place x [] k h = tt
low_put zero x (g ∷ gs) k h = (low_push g x h.0 k, h.1)
low_put (suc place) x (g ∷ gs) k h = (h.0, low_put place x gs k h.1)

low_puts : (n : ℕ) (ls : List Laid) (gs : Groups) → n + length ls ≤ 2 ^ 32 → AreLow gs → AreLow (put_from n ls gs)
low_puts n [] gs few h = h
low_puts n (l ∷ ls) gs few h = low_puts (n + 1) ls (put_at l.leaf (record { rows = l.rows; segment = n }) gs) (omega (arith, few)) (low_put l.leaf (record { rows = l.rows; segment = n }) gs (omega (arith, few)) h)

none_low : (n : ℕ) → AreLow (replicate n [])
none_low zero = tt
none_low (suc n) = (tt, none_low n)

pub low_grouped : (n : ℕ) (ls : List Laid) → length ls < 2 ^ 32 → AreLow (grouped n ls)
low_grouped n ls few = low_puts 0 ls (replicate n []) (omega (arith, few)) (none_low n)

first_low : (gs : Groups) → AreLow gs → IsLow (first_group gs)
first_low [] h = tt
first_low (g ∷ gs) h = h.0

drop_low : (k : ℕ) (gs : Groups) → AreLow gs → AreLow (drop k gs)
drop_low zero gs h = h
drop_low (suc k) [] h = tt
drop_low (suc k) (g ∷ gs) h = drop_low k gs h.1

-- ---- leaves

abbrev sum : List Numbered → ℕ
sum xs = sum_by (λ x. x.rows) xs

pub layouts_again : (ts : List LayoutTree) → list_of (layouts_of ts) ≡ ts
layouts_again [] = refl
layouts_again (t ∷ ts) = ap (λ xs. t ∷ xs) (layouts_again ts)

all_laid : (ts : List LayoutTree) → AllByRecursion IsLaid ts → AreLaid (layouts_of ts)
all_laid [] h = tt
all_laid (t ∷ ts) h = (h.0, all_laid ts h.1)

flat_laid : (d : Dtype) (x : Numbered) → x.rows < 2 ^ 64 → x.segment < 2 ^ 32 → IsLaid (flat d x)
flat_laid d x few low =
    let one : IsNode Flat d x.rows (x.segment ∷ []) no_layouts = record { fits = record { dtypes = refl; shape = refl }; rows = few; segments = (low, tt) } in
    (one, tt)

flats_laid : (d : Dtype) (xs : List Numbered) → sum xs < 2 ^ 64 → IsLow xs → AllByRecursion IsLaid (map (flat d) xs)
flats_laid d [] few low = tt
flats_laid d (x ∷ xs) few low =
    let cons = sum_by-cons (λ (y : Numbered). y.rows) x xs in
    (flat_laid d x (omega (arith, few, cons)) low.0, flats_laid d xs (omega (arith, few, cons)) low.1)

chunked_laid : (d : Dtype) (xs : List Numbered) → sum xs < 2 ^ 64 → IsLow xs → IsLaid (chunked d xs)
chunked_laid d xs few low =
    let ts = map (flat d) xs in
    let own : Fits Chunked d (sum xs) [] ts = record { dtypes = ap Some (flat_types d xs); shape = eq-eqb (sum xs) _ (sym (flat_rows d xs)) } in
    let one : IsNode Chunked d (sum xs) [] (layouts_of ts) = record { fits = subst (λ (us : List LayoutTree). Fits Chunked d (sum xs) [] us) (sym (layouts_again ts)) own; rows = few; segments = tt } in
    (one, all_laid ts (flats_laid d xs few low))

leaf_laid : (d : Dtype) (xs : List Numbered) → sum xs < 2 ^ 64 → IsLow xs → IsLaid (leaf_layout d xs)
leaf_laid d [] few low = chunked_laid d [] few low
leaf_laid d (x ∷ []) few low = flat_laid d x (omega (arith, few, sum_by-cons (λ (y : Numbered). y.rows) x [])) low.0
leaf_laid d (x ∷ y ∷ xs) few low = chunked_laid d (x ∷ y ∷ xs) few low

-- ---- plans

first_laid : (d : Dtype) (n : ℕ) (gs : Groups) → n < 2 ^ 64 → AreFull n gs → AreLow gs → 1 ≤ length gs → IsLaid (leaf_layout d (first_group gs))
first_laid d n gs few full low some = leaf_laid d (first_group gs) (omega (arith, few, full_first n gs full some)) (first_low gs low)

validity_laid : (v : Option LeafStrategy) (n : ℕ) (gs : Groups) (ts : List LayoutTree) → n < 2 ^ 64 → AreFull n gs → AreLow gs → validity_count v ≤ length gs → AllByRecursion IsLaid ts → AllByRecursion IsLaid (with_validity v gs ts)
validity_laid None n gs ts few full low some h = h
validity_laid (Some s) n gs ts few full low some h = (first_laid (bool false) n gs few full low some, h)

mutual
  pub plan_laid : (p : PlanTree) (d : Dtype) (n : ℕ) (gs : Groups) → IsFor p d → n < 2 ^ 64 → AreFull n gs → AreLow gs → leaf_count p ≤ length gs → IsLaid (laid_out p d n gs)
  plan_laid (a_leaf s) d n gs fit few full low some = first_laid d n gs few full low some
  plan_laid (a_struct v ps) (struct fs nullable) n gs fit few full low some =
      let k = validity_count v in
      let rest = drop k gs in
      let ts = with_validity v gs (all_laid_out ps fs n rest) in
      let own : Fits Struct (struct fs nullable) n [] ts = subst (λ (b : Bool). Fits Struct (struct fs b) n [] ts) fit.0 (struct_fits v ps fs n gs fit.2 full some) in
      let one : IsNode Struct (struct fs nullable) n [] (layouts_of ts) = record { fits = subst (λ (us : List LayoutTree). Fits Struct (struct fs nullable) n [] us) (sym (layouts_again ts)) own; rows = few; segments = tt } in
      let others = plans_laid ps fs n rest fit.2 few (full_drop n k gs full) (drop_low k gs low) (omega (arith, some, length-drop k gs)) in
      (one, all_laid ts (validity_laid v n gs (all_laid_out ps fs n rest) few full low (omega (arith, some)) others))
  plan_laid (a_struct v ps) (bool nullable) n gs fit few full low some = absurd fit
  plan_laid (a_struct v ps) (int ptype nullable) n gs fit few full low some = absurd fit
  plan_laid (a_struct v ps) (text nullable) n gs fit few full low some = absurd fit

  plans_laid : (ps : PlanList) (fs : FieldList) (n : ℕ) (gs : Groups) → AreFor ps fs → n < 2 ^ 64 → AreFull n gs → AreLow gs → leaves_count ps ≤ length gs → AllByRecursion IsLaid (all_laid_out ps fs n gs)
  plans_laid no_plans fs n gs fit few full low some = tt
  plans_laid (a_plan p ps) no_fields n gs fit few full low some = tt
  plans_laid (a_plan p ps) (field name d fs) n gs fit few full low some =
      let k = leaf_count p in
      (plan_laid p d n gs fit.0 few full low (omega (arith, some)), plans_laid ps fs n (drop k gs) fit.1 few (full_drop n k gs full) (drop_low k gs low) (omega (arith, some, length-drop k gs)))
