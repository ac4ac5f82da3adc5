-- Layouts that are made one after the other, and those of rows that were read.
use Rattle.std.proofs.Common.{rules, ◌≡◌, ℕ, zero, suc, ◌+◌, ◌<◌, ◌≤◌, Bool, true, false, ◌&&◌, List, [], ◌∷◌, ◌++◌, length, take, take_all, Option, Some, None, refl, sym, ap, ◌∙◌, arith}
use Rattle.std.specs.Prelude.{◌==◌, if◌then◌else◌, is_some, nat_lt}
use Rattle.std.proofs.lemmas.Bool.Decides.{nat_tests}
use Rattle.std.proofs.lemmas.Option.{none-some}
use Rattle.std.specs.Int.{w16, w64}
use Rattle.vx_tables.specs.Field.{Table, Vector, field, table_of_vector}
use Rattle.vx_tables.specs.Counted.{within, enter, each_table, or_zero}
use Rattle.vx_tables.proofs.Walk.{walk_from, walk_steps}
use Rattle.vx_data.specs.declared.layout_kind.LayoutKind.{LayoutKind}
use Rattle.vx_data.specs.Dtype.{Dtype}
use Rattle.vx_data.specs.Layout.{LayoutTree}
use Rattle.vx_data.specs.LayoutTable.{Row, row, rows_list, rows_count, row_at, children_in, segments_in, row_known, rows_known, kind_at, dtypes_for, shaped, before, fit, fit_each}
use Rattle.vx_data.specs.LayoutFound.{dtypes_asked, are_as_many, one_of, fit_in, shaped_in, AskedFit, behind, encoding_below}
use Rattle.vx_data.proofs.Fitted.{children_fit, no_dtypes}

rows_len : (rs : List Row) → rows_count (rows_list rs) ≡ length rs
rows_len [] = refl
rows_len (r ∷ rs) = ap suc (rows_len rs)

-- ---- all rows

before_none : (o : Option LayoutTree) → let none : Option (List LayoutTree) = None in before o none ≡ none
before_none None = refl
before_none (Some t) = refl

uneven : (kinds : List (Option LayoutKind)) (rs : List Row) (ds : List Dtype) → (length rs ≡ length ds → ⊥)
    → let none : Option (List LayoutTree) = None in none ≡ fit_each kinds (rows_list rs) (Some ds)
uneven kinds [] [] differ = absurd (differ refl)
uneven kinds [] (d ∷ ds) differ = refl
uneven kinds (r ∷ rs) [] differ = refl
uneven kinds (r ∷ rs) (d ∷ ds) differ =
    sym (ap (before (fit kinds r d)) (sym (uneven kinds rs ds (λ e. differ (ap suc e)))) ∙ before_none (fit kinds r d))

-- the layouts of the rows so far, where there are as many types as rows in all
abbrev pub so_far : List (Option LayoutKind) → Option (List Dtype) → ℕ → ℕ → List Row → Option (List LayoutTree)
so_far kinds None count at rs = None
so_far kinds (Some ds) count at rs = if count == length ds then fit_each kinds (rows_list rs) (Some (take at ds)) else None

pub at_first : (kinds : List (Option LayoutKind)) (o : Option (List Dtype)) (count : ℕ)
    → let none : Option (List LayoutTree) = None in (if are_as_many o count then Some [] else none) ≡ so_far kinds o count 0 []
at_first kinds None count = refl
at_first kinds (Some ds) count = refl

behind_before : (t : Option LayoutTree) (ts : Option (List LayoutTree)) (u : Option LayoutTree) → behind (before t ts) u ≡ before t (behind ts u)
behind_before None ts u = refl
behind_before (Some t) None u = refl
behind_before (Some t) (Some ts) None = refl
behind_before (Some t) (Some ts) (Some u) = refl

last_fit : (kinds : List (Option LayoutKind)) (rs : List Row) (ds : List Dtype) (at : ℕ) (r : Row) → length rs ≡ at → at < length ds
    → behind (fit_each kinds (rows_list rs) (Some (take at ds))) (fit_in kinds r (one_of (Some ds) at)) ≡ fit_each kinds (rows_list (rs ++ r ∷ [])) (Some (take (suc at) ds))
last_fit kinds [] [] at r many lt = absurd (omega (arith, lt))
last_fit kinds (q ∷ rs) [] at r many lt = absurd (omega (arith, lt))
last_fit kinds [] (d ∷ ds) zero r many lt = one_more (fit kinds r d)
  where
    one_more : (o : Option LayoutTree) → behind (Some []) o ≡ before o (Some [])
    one_more None = refl
    one_more (Some t) = refl
last_fit kinds [] (d ∷ ds) (suc at) r many lt = absurd (omega (arith, many))
last_fit kinds (q ∷ rs) (d ∷ ds) zero r many lt = absurd (omega (arith, many))
last_fit kinds (q ∷ rs) (d ∷ ds) (suc at) r many lt =
    behind_before (fit kinds q d) (fit_each kinds (rows_list rs) (Some (take at ds))) (fit_in kinds r (one_of (Some ds) at))
    ∙ ap (before (fit kinds q d)) (last_fit kinds rs ds at r (omega (arith, many)) (omega (arith, lt)))

pub next_fit : (kinds : List (Option LayoutKind)) (o : Option (List Dtype)) (count at : ℕ) (rs : List Row) (r : Row) → length rs ≡ at → at < count
    → behind (so_far kinds o count at rs) (fit_in kinds r (one_of o at)) ≡ so_far kinds o count (at + 1) (rs ++ r ∷ [])
next_fit kinds None count at rs r many lt = refl
next_fit kinds (Some ds) count at rs r many lt = by_count (count == length ds) refl
  where
    next : suc at ≡ at + 1
    next = omega arith

    by_count : (b : Bool) → (count == length ds) ≡ b
        → behind (so_far kinds (Some ds) count at rs) (fit_in kinds r (one_of (Some ds) at)) ≡ so_far kinds (Some ds) count (at + 1) (rs ++ r ∷ [])
    by_count true is =
        let all : count ≡ length ds = grind (arith, nat_tests) in
        rw (is) (last_fit kinds rs ds at r many (omega (arith, all, lt)) ∙ ap (λ (n : ℕ). fit_each kinds (rows_list (rs ++ r ∷ [])) (Some (take n ds))) next)
    by_count false is = rw (is) refl

pub all_fit : (kinds : List (Option LayoutKind)) (o : Option (List Dtype)) (count : ℕ) (rs : List Row) → length rs ≡ count → so_far kinds o count count rs ≡ fit_each kinds (rows_list rs) o
all_fit kinds None count rs many = sym (no_dtypes kinds (rows_list rs))
all_fit kinds (Some ds) count rs many = by_count (count == length ds) refl
  where
    by_count : (b : Bool) → (count == length ds) ≡ b → so_far kinds (Some ds) count count rs ≡ fit_each kinds (rows_list rs) (Some ds)
    by_count true is =
        let all : length ds ≤ count = grind (arith, nat_tests) in
        rw (is) (ap (λ (xs : List Dtype). fit_each kinds (rows_list rs) (Some xs)) (take_all count ds all))
    by_count false is =
        let differ : length rs ≡ length ds → ⊥ = λ same. grind (arith, nat_tests) in
        rw (is) (uneven kinds rs ds differ)

-- ---- which kinds are known

known_and : (a b : Bool) → (a && true) ≡ a
known_and true b = refl
known_and false b = refl

and_again : (a b c : Bool) → ((a && b) && c) ≡ (a && (b && c))
and_again true b c = refl
and_again false b c = refl

rows_behind : (kinds : List (Option LayoutKind)) (rs : List Row) (r : Row) → rows_known kinds (rows_list (rs ++ r ∷ [])) ≡ (rows_known kinds (rows_list rs) && row_known kinds r)
rows_behind kinds [] r = known_and (row_known kinds r) true
rows_behind kinds (q ∷ rs) r = ap (λ b. row_known kinds q && b) (rows_behind kinds rs r) ∙ sym (and_again (row_known kinds q) (rows_known kinds (rows_list rs)) (row_known kinds r))

-- ---- the loop over the elements of a vector

-- the rows so far and those still to come are those of the vector, and the layouts are of those so far
pub record SoFar (kinds : List (Option LayoutKind)) (k : Option LayoutKind) (d : Option Dtype) (b : List ℕ) (v : Vector) (levels first left at : ℕ) (before after : Bool) (layouts : Option (List LayoutTree)) : Type 0 where
  pub rows : List Row
  pub walk : walk_from (λ i. enter (table_of_vector b v i) (row_at (length kinds) levels b)) v.count levels left at rows ≡ within levels first (each_table b (row_at (length kinds) levels b) v)
  pub many : length rows ≡ at
  pub known : after ≡ (before && rows_known kinds (rows_list rows))
  pub fitted : layouts ≡ so_far kinds (dtypes_asked k d v.count) v.count at rows

pub grown_fit : (kinds : List (Option LayoutKind)) (o : Option (List Dtype)) (count at : ℕ) (rs : List Row) (r : Row) (child : Option Dtype) (layouts new : Option (List LayoutTree)) (layout : Option LayoutTree)
    → length rs ≡ at → at < count → child ≡ one_of o at → layout ≡ fit_in kinds r child → layouts ≡ so_far kinds o count at rs → new ≡ behind layouts layout → new ≡ so_far kinds o count (at + 1) (rs ++ r ∷ [])
grown_fit kinds o count at rs r child layouts new layout many lt asked made before_it is =
    is ∙ ap (λ ts. behind ts layout) before_it ∙ ap (behind (so_far kinds o count at rs)) (made ∙ ap (fit_in kinds r) asked) ∙ next_fit kinds o count at rs r many lt

pub grown_known : (kinds : List (Option LayoutKind)) (rs : List Row) (r : Row) (before after new : Bool) → after ≡ (before && rows_known kinds (rows_list rs)) → new ≡ (after && row_known kinds r) → new ≡ (before && rows_known kinds (rows_list (rs ++ r ∷ [])))
grown_known kinds rs r first after new known is =
    is ∙ ap (λ b. b && row_known kinds r) known ∙ and_again first (rows_known kinds (rows_list rs)) (row_known kinds r) ∙ ap (λ b. first && b) (sym (rows_behind kinds rs r))

pub all_done : (kinds : List (Option LayoutKind)) (k : Option LayoutKind) (d : Option Dtype) (count at : ℕ) (rs : List Row) (layouts : Option (List LayoutTree))
    → length rs ≡ at → at ≡ count → layouts ≡ so_far kinds (dtypes_asked k d count) count at rs → layouts ≡ fit_each kinds (rows_list rs) (dtypes_asked k d (length rs))
all_done kinds k d count at rs layouts many end fitted =
    let all : length rs ≡ count = many ∙ end in
    fitted ∙ ap (λ (n : ℕ). so_far kinds (dtypes_asked k d count) count n rs) end
    ∙ all_fit kinds (dtypes_asked k d count) count rs all
    ∙ ap (λ (n : ℕ). fit_each kinds (rows_list rs) (dtypes_asked k d n)) (sym all)

-- ---- one row

pub asked_fit : (kinds : List (Option LayoutKind)) (k : Option LayoutKind) (d : Option Dtype) (rs : List Row) (ts : Option (List LayoutTree)) → ts ≡ fit_each kinds (rows_list rs) (dtypes_asked k d (length rs)) → AskedFit k d ts
asked_fit kinds None d rs ts made = tt
asked_fit kinds (Some k) None rs ts made = tt
asked_fit kinds (Some k) (Some d) rs None made = tt
asked_fit kinds (Some k) (Some d) rs (Some ts) made =
    children_fit kinds (Some k) k d (rows_list rs) ts refl (ap (λ (n : ℕ). fit_each kinds (rows_list rs) (dtypes_for (Some k) d n)) (rows_len rs) ∙ sym made)

pub fit_is : (kinds : List (Option LayoutKind)) (e : ℕ) (k : Option LayoutKind) (d : Option Dtype) (n : ℕ) (ids s : List ℕ) (rs : List Row) (ts : Option (List LayoutTree)) (layout : Option LayoutTree)
    → k ≡ kind_at kinds e → ids ≡ s → ts ≡ fit_each kinds (rows_list rs) (dtypes_asked k d (length rs)) → layout ≡ shaped_in k d n ids ts → layout ≡ fit_in kinds (row e n s (rows_list rs)) d
fit_is kinds e k None n ids s rs ts layout kind named made is = is
fit_is kinds e k (Some d) n ids s rs ts layout kind named made is =
    is ∙ ap (λ q. shaped k d n q ts) named
    ∙ ap (shaped k d n s) made
    ∙ ap (λ (q : ℕ). shaped k d n s (fit_each kinds (rows_list rs) (dtypes_for k d q))) (sym (rows_len rs))
    ∙ ap (λ q. shaped q d n s (fit_each kinds (rows_list rs) (dtypes_for q d (rows_count (rows_list rs))))) kind

in_between : (a b c : Bool) → ((a && b) && c) ≡ (a && (c && b))
in_between true true true = refl
in_between true true false = refl
in_between true false true = refl
in_between true false false = refl
in_between false b c = refl

pub known_is : (kinds : List (Option LayoutKind)) (e : ℕ) (n : ℕ) (s : List ℕ) (k : Option LayoutKind) (rs : List Row) (before after : Bool) → k ≡ kind_at kinds e → after ≡ (before && rows_known kinds (rows_list rs)) → (after && is_some k) ≡ (before && row_known kinds (row e n s (rows_list rs)))
known_is kinds e n s k rs first after kind known =
    ap (λ b. b && is_some k) known ∙ in_between first (rows_known kinds (rows_list rs)) (is_some k) ∙ ap (λ q. first && (is_some q && rows_known kinds (rows_list rs))) kind

pub is_below : (specs e x : ℕ) → encoding_below specs e ≡ Some x → nat_lt e specs ≡ true
is_below specs e x is = by_test (nat_lt e specs) refl
  where
    by_test : (b : Bool) → nat_lt e specs ≡ b → nat_lt e specs ≡ true
    by_test true test = test
    by_test false test = let nothing : Option ℕ = None in let none : encoding_below specs e ≡ nothing = rw (test) refl in absurd (none-some x (sym none ∙ is))

row_of_parts : (specs levels : ℕ) (b : List ℕ) (t : Table) (n m k : ℕ) (e r : Option ℕ) (rows : List Row) (s : List ℕ)
    → field w16 b t 0 ≡ Some e → field w64 b t 1 ≡ Some r → within levels n (children_in (row_at specs levels b) b t) ≡ Some (rows, m) → within levels m (segments_in b t) ≡ Some (s, k)
    → nat_lt (or_zero e) specs ≡ true → within levels n (row_at specs (suc levels) b t) ≡ Some (row (or_zero e) (or_zero r) s (rows_list rows), k)
unfolding row_at
row_of_parts specs levels b t n m k e r rows s is_encoding is_count below named less = search (rules, walk_steps)

-- the row of a table whose fields were read
pub row_read : (specs levels : ℕ) (b : List ℕ) (t : Table) (n m k : ℕ) (e r : Option ℕ) (x y z : ℕ) (rows : List Row) (s : List ℕ)
    → Some e ≡ field w16 b t 0 → Some r ≡ field w64 b t 1 → x ≡ or_zero e → y ≡ or_zero r → within levels n (children_in (row_at specs levels b) b t) ≡ Some (rows, m) → within levels m (segments_in b t) ≡ Some (s, k)
    → encoding_below specs x ≡ Some z → within levels n (row_at specs (suc levels) b t) ≡ Some (row x y s (rows_list rows), k)
row_read specs levels b t n m k e r x y z rows s is_encoding is_count to_encoding to_count below named among =
    let less : nat_lt (or_zero e) specs ≡ true = ap (λ (q : ℕ). nat_lt q specs) (sym to_encoding) ∙ is_below specs x z among in
    row_of_parts specs levels b t n m k e r rows s (sym is_encoding) (sym is_count) below named less
    ∙ ap (λ (q : ℕ). Some (row q (or_zero r) s (rows_list rows), k)) (sym to_encoding)
    ∙ ap (λ (q : ℕ). Some (row x q s (rows_list rows), k)) (sym to_count)
