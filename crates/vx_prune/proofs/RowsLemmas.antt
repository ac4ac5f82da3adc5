-- What statistics that are true of rows tell of each row, and the law of pruning.
use Rattle.std.proofs.Common.{◌≡◌, ℕ, zero, suc, ◌+◌, ◌<◌, Bool, true, false, List, [], ◌∷◌, length, get_or, refl, ap, sym, subst, ◌∙◌, arith}
use Rattle.std.specs.Prelude.{◌<ℤ◌, pos, cond, slice_index_or, Option, Some, None}
use Rattle.std.specs.List.{count_by}
use Rattle.std.specs.declared.cmp.Ordering.{Ordering}
use Rattle.std.specs.declared.cmp.Ordering.TheVariants.{Less, Equal, Greater}
use Rattle.std.specs.Ordering.{int_cmp, is_eq, MatchOrdering}
use Rattle.std.proofs.lemmas.Cmp.{int_ranked}
use Rattle.std.proofs.lemmas.List.{get_or-map}
use Rattle.std.proofs.lemmas.List.Sums.{sum_by-cons, count_by-le-length}
use Rattle.vx_data.specs.declared.stats_set.Precision.{Precision}
use Rattle.vx_data.specs.declared.stats_set.Precision.TheVariants.{Exact, Inexact}
use Rattle.vx_data.specs.Dtype.{Dtype}
use Rattle.vx_data.specs.Scalar.{Value, flag, number, words}
use Rattle.vx_data.specs.Stats.{Stats, no_stats}
use Rattle.vx_rows.specs.RowValues.{Cell, null, value, a_struct, Row, flat, cell, part_at}
use Rattle.vx_rows.specs.Predicates.{path}
use Rattle.vx_rows.specs.Binding.{place, with_place}
use Rattle.vx_rows.specs.Truth.{is_null, row_at, value_at, satisfies}
use Rattle.vx_prune.specs.Never.{exact, is_count, known_field}
use Rattle.vx_prune.specs.Pruning.{NotBelow, NotAbove, IsTrueMin, IsTrueMax, IsTrueCount, IsTrueOf, field_cells, AreTrueOf, PruningLaw}
use Rattle.vx_prune.proofs.OrderLemmas.{IsLow, IsHigh}
use Rattle.vx_prune.proofs.RowLemmas.{Fits, fits_unknown, row_sound}

-- ---- bounds

min-low : (m : Option (Value × Precision)) (cells : List Cell) (k : ℕ) (c : Cell) (v : Value) → IsTrueMin m cells → k < length cells → get_or cells k null ≡ c → c ≡ value v → IsLow (exact m) v
min-low None cells k c v h less is e = tt
min-low (Some (w, Inexact)) cells k c v h less is e = tt
min-low (Some (w, Exact)) cells k c v h less is e = subst (NotBelow w) (is ∙ e) (h.0 k null less)

max-high : (m : Option (Value × Precision)) (cells : List Cell) (k : ℕ) (c : Cell) (v : Value) → IsTrueMax m cells → k < length cells → get_or cells k null ≡ c → c ≡ value v → IsHigh (exact m) v
max-high None cells k c v h less is e = tt
max-high (Some (w, Inexact)) cells k c v h less is e = tt
max-high (Some (w, Exact)) cells k c v h less is e = subst (NotAbove w) (is ∙ e) (h.0 k null less)

-- ---- counts of nulls

same-number : (a b : ℕ) → is_eq (int_cmp (pos a) (pos b)) ≡ true → a ≡ b
same-number a b h = by (int_cmp (pos a) (pos b)) (int_ranked (pos a) (pos b) _ refl) h
  where
    by : (o : Ordering) → MatchOrdering o (pos a <ℤ pos b) (pos a ≡ pos b) (pos b <ℤ pos a) → is_eq o ≡ true → a ≡ b
    by Less m e = cc
    by Equal m e = cc
    by Greater m e = cc

counted : (m : Option (Value × Precision)) (cells : List Cell) (n : ℕ) → IsTrueCount m cells → is_count (exact m) n ≡ true → count_by is_null cells ≡ n
counted None cells n h e = cc
counted (Some (w, Inexact)) cells n h e = cc
counted (Some (flag b, Exact)) cells n h e = cc
counted (Some (words t, Exact)) cells n h e = cc
counted (Some (number z, Exact)) cells n h e =
    let same : z ≡ pos (count_by is_null cells) = cc in
    same-number (count_by is_null cells) n (ap (λ x. is_eq (int_cmp x (pos n))) (sym same) ∙ e)

count-step : (c : Cell) (cells : List Cell) → count_by is_null (c ∷ cells) ≡ cond (is_null c) 1 0 + count_by is_null cells
count-step c cells = sum_by-cons (λ x. cond (is_null x) 1 0) c cells

all-null : (cells : List Cell) (k : ℕ) → count_by is_null cells ≡ length cells → k < length cells → is_null (get_or cells k null) ≡ true
all-null [] k h less = absurd (omega arith)
all-null (c ∷ cells) k h less = by (all-null cells) (is_null c) k refl (sym (count-step c cells) ∙ h) less
  where
    by : ((k : ℕ) → count_by is_null cells ≡ length cells → k < length cells → is_null (get_or cells k null) ≡ true)
        → (b : Bool) (k : ℕ) → is_null c ≡ b → cond b 1 0 + count_by is_null cells ≡ suc (length cells) → k < suc (length cells) → is_null (get_or (c ∷ cells) k null) ≡ true
    by rest true zero is e l = is
    by rest true (suc k) is e l = rest k (omega (arith, e)) (omega arith)
    by rest false k is e l = absurd (omega (arith, e, count_by-le-length is_null cells))

none-null : (cells : List Cell) (k : ℕ) → count_by is_null cells ≡ 0 → k < length cells → is_null (get_or cells k null) ≡ false
none-null [] k h less = absurd (omega arith)
none-null (c ∷ cells) k h less = by (none-null cells) (is_null c) k refl (sym (count-step c cells) ∙ h) less
  where
    by : ((k : ℕ) → count_by is_null cells ≡ 0 → k < length cells → is_null (get_or cells k null) ≡ false)
        → (b : Bool) (k : ℕ) → is_null c ≡ b → cond b 1 0 + count_by is_null cells ≡ 0 → k < suc (length cells) → is_null (get_or (c ∷ cells) k null) ≡ false
    by rest false zero is e l = is
    by rest false (suc k) is e l = rest k (omega (arith, e)) (omega arith)
    by rest true k is e l = absurd (omega (arith, e))

null-cell : (c : Cell) → is_null c ≡ true → c ≡ null
null-cell null h = refl
null-cell (value v) h = cc
null-cell a_struct h = cc

-- ---- one row

length-cells : (i : ℕ) (rows : List Row) → length (field_cells i rows) ≡ length rows
length-cells i [] = refl
length-cells i (r ∷ rows) = ap suc (length-cells i rows)

cell-at : (i : ℕ) (rows : List Row) (k : ℕ) (d : Row) → k < length rows → get_or (field_cells i rows) k null ≡ cell (part_at i (get_or rows k d))
cell-at i rows k d less = get_or-map (λ r. cell (part_at i r)) rows k d null less

fits-set : (s : Stats) (i : ℕ) (rows : List Row) (n k : ℕ) (d : Row) → IsTrueOf s (field_cells i rows) → length rows ≡ n → k < length rows
    → Fits (record { low = exact s.min; high = exact s.max; always_null = is_count (exact s.null_count) n; never_null = is_count (exact s.null_count) 0 }) (cell (part_at i (get_or rows k d)))
fits-set s i rows n k d h many less =
    let cells = field_cells i rows in
    let inside : k < length cells = omega (arith, length-cells i rows) in
    let here : get_or cells k null ≡ cell (part_at i (get_or rows k d)) = cell-at i rows k d less in
    record {
      low = λ v e. min-low s.min cells k _ v h.min inside here e;
      high = λ v e. max-high s.max cells k _ v h.max inside here e;
      always = λ e. null-cell _ (ap is_null (sym here) ∙ all-null cells k (counted s.null_count cells n h.null_count e ∙ sym many ∙ sym (length-cells i rows)) inside);
      never = λ e. ap is_null (sym here) ∙ none-null cells k (counted s.null_count cells 0 h.null_count e) inside;
    }

fits-field : (d : Dtype) (ss : List Stats) (rows : List Row) (n k : ℕ) (x : Row) → AreTrueOf ss rows → length rows ≡ n → k < length rows
    → (names : List (List ℕ)) → Fits (known_field names d ss n) (value_at (path names) d (get_or rows k x))
fits-field d ss rows n k x h many less [] = fits_unknown _
fits-field d ss rows n k x h many less (name ∷ other ∷ names) = fits_unknown _
fits-field d ss rows n k x h many less (name ∷ []) = found (place name d)
  where
    found : (o : Option (ℕ × Dtype)) → Fits (record {
      low = with_place o None (λ i e. exact (slice_index_or ss i no_stats).min);
      high = with_place o None (λ i e. exact (slice_index_or ss i no_stats).max);
      always_null = is_count (with_place o None (λ i e. exact (slice_index_or ss i no_stats).null_count)) n;
      never_null = is_count (with_place o None (λ i e. exact (slice_index_or ss i no_stats).null_count)) 0;
    }) (cell (with_place o (flat null) (λ i e. row_at [] e (part_at i (get_or rows k x)))))
    found None = fits_unknown _
    found (Some (i, e)) = fits-set (slice_index_or ss i no_stats) i rows n k x (h i) many less

not-true : (b : Bool) → (b ≡ true → ⊥) → b ≡ false
not-true true h = absurd (h refl)
not-true false h = refl

pub pruned_rows : PruningLaw
pruned_rows p d ss n h rows true_of many = λ k x less. not-true (satisfies p d (get_or rows k x))
    (row_sound d ss n (get_or rows k x) (record { field = fits-field d ss rows n k x true_of many less }) p h)
