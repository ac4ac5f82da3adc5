-- What a grammar reads, with its visits and levels, put together step by step.
use Rattle.std.proofs.Common.{◌≡◌, ℕ, suc, ◌+◌, ◌≤◌, ◌<◌, max, true, List, [], ◌∷◌, length, map, sum_by, Option, Some, None, refl, sym, ap, subst, ◌∙◌, arith, zero-add, add-zero, ◌⊎◌}
use Rattle.std.specs.Prelude.{slice_get}
use Rattle.std.specs.Option.{option_map}
use Rattle.std.proofs.lemmas.Bool.Decides.{nat_tests}
use Rattle.std.proofs.lemmas.List.{length-map}
use Rattle.std.proofs.lemmas.List.Sums.{sum_by-cons}
use Rattle.std.proofs.lemmas.Option.{slice_get-map}
use Rattle.vx_tables.specs.Block.{Piece, in_order}
use Rattle.vx_tables.specs.Counted.{Counted, ◌>>=◌, pure, counted, free, present, text_cost, deeper, enter, enter_optional, each_from, each_table, each_text, or_empty, most_levels, most_visits, within, allowed}
use Rattle.vx_tables.specs.Field.{Table, Vector, text_of_vector, table_of_vector}
use Rattle.vx_tables.specs.Standing.{Stands, AreUtf8, AreTexts, AreTables}

-- the value, the visits and the levels that are read
abbrev pub Reads : {A : Type 0} → Option (Counted A) → A → ℕ → ℕ → Type 0
Reads read x visits levels = read ≡ Some (record { value = x; visits = visits; levels = levels })

-- the same numbers, written otherwise
pub reads_same : {A : Type 0} (read : Option (Counted A)) (x : A) (v w l m : ℕ) → v ≡ w → l ≡ m → Reads read x v l → Reads read x w m
reads_same read x v w l m e f h = subst (λ (n : ℕ). Reads read x w n) f (subst (λ (n : ℕ). Reads read x n l) e h)

pub reads_pure : {A : Type 0} (x : A) → Reads (pure x) x 0 0
unfolding pure
reads_pure x = refl

pub reads_free : {A : Type 0} (r : Option A) (x : A) → r ≡ Some x → Reads (free r) x 0 0
unfolding free counted
reads_free r x h = rw h refl

pub reads_counted : {A : Type 0} (cost : A → ℕ) (r : Option A) (x : A) → r ≡ Some x → Reads (counted cost r) x (cost x) 0
unfolding counted
reads_counted cost r x h = rw h refl

pub reads_present : {A : Type 0} (r : Option A) (x : A) → r ≡ Some x → Reads (present r) x 0 0
unfolding present pure
reads_present r x h = rw h refl

pub reads_bind : {A B : Type 0} (c : Option (Counted A)) (f : A → Option (Counted B)) (x : A) (y : B) (v w l m : ℕ) → Reads c x v l → Reads (f x) y w m → Reads (c >>= f) y (v + w) (max l m)
unfolding ◌>>=◌
reads_bind c f x y v w l m h k = rw (h, k) refl

pub reads_enter : {A : Type 0} (r : Option Table) (u : Table) (inner : Table → Option (Counted A)) (x : A) (v l : ℕ) → r ≡ Some u → Reads (inner u) x v l → Reads (enter r inner) x (v + 1) (l + 1)
unfolding enter deeper
reads_enter r u inner x v l h k = rw (h, k) refl

pub reads_optional : {A : Type 0} (r : Option (Option Table)) (u : Table) (inner : Table → Option (Counted A)) (x : A) (v l : ℕ)
    → r ≡ Some (Some u) → Reads (inner u) x v l → Reads (enter_optional r inner) (Some x) (v + 1) (l + 1)
unfolding enter_optional deeper ◌>>=◌ pure
reads_optional {A = A} r u inner x v l h k =
    let visits : v + 1 + 0 ≡ v + 1 = omega arith in
    let levels : max (l + 1) 0 ≡ l + 1 = omega arith in
    rw (h, k, visits, levels) refl

pub reads_absent : {A : Type 0} (r : Option (Option Table)) (inner : Table → Option (Counted A)) → r ≡ Some None → Reads (enter_optional r inner) None 0 0
unfolding enter_optional pure
reads_absent r inner h = rw h refl

pub reads_empty : {A : Type 0} (read : Vector → Option (Counted (List A))) (o : Option Vector) → o ≡ None → Reads (or_empty read o) [] 0 0
unfolding or_empty pure
reads_empty read o h = rw h refl

pub reads_vector : {A : Type 0} (read : Vector → Option (Counted (List A))) (o : Option Vector) (w : Vector) (xs : List A) (v l : ℕ) → o ≡ Some w → Reads (read w) xs v l → Reads (or_empty read o) xs v l
unfolding or_empty
reads_vector read o w xs v l h k = rw h k

-- ---- vectors

-- the most levels of any
abbrev pub deepest : {X : Type 0} → (X → ℕ) → List X → ℕ
deepest levels [] = 0
deepest levels (x ∷ xs) = max (levels x) (deepest levels xs)

pub deepest-le : {X : Type 0} (levels : X → ℕ) (l : ℕ) (xs : List X) → ((x : X) → levels x ≤ l) → deepest levels xs ≤ l
deepest-le levels l [] h = omega arith
deepest-le levels l (x ∷ xs) h = omega (arith, h x, deepest-le levels l xs h)

each-from : {X A : Type 0} (read : ℕ → Option (Counted A)) (value : X → A) (visits levels : X → ℕ) (xs : List X) (j : ℕ)
    → ((i : ℕ) (x : X) → slice_get xs i ≡ Some x → Reads (read (j + i)) (value x) (visits x) (levels x)) → Reads (each_from read (length xs) j) (map value xs) (sum_by visits xs) (deepest levels xs)
unfolding each_from pure
each-from read value visits levels [] j h = refl
each-from read value visits levels (x ∷ xs) j h =
    let head = ap read (sym (add-zero j)) ∙ h 0 x refl in
    let rest = each-from read value visits levels xs (j + 1) (λ i y got. ap read (let e : j + 1 + i ≡ j + suc i = omega arith in e) ∙ h (suc i) y got) in
    let later = reads_bind (each_from read (length xs) (j + 1)) (λ ys. pure (value x ∷ ys)) (map value xs) (value x ∷ map value xs) (sum_by visits xs) 0 (deepest levels xs) 0 rest refl in
    reads_same _ _ _ _ _ _ (let e : visits x + (sum_by visits xs + 0) ≡ sum_by visits (x ∷ xs) = omega (arith, sum_by-cons visits x xs) in e) (let e : max (levels x) (max (deepest levels xs) 0) ≡ deepest levels (x ∷ xs) = omega arith in e)
    (reads_bind (read j) (λ y. each_from read (length xs) (j + 1) >>= (λ ys. pure (y ∷ ys))) (value x) (value x ∷ map value xs) (visits x) (sum_by visits xs + 0) (levels x) (max (deepest levels xs) 0) head later)

pub reads_each : {X A : Type 0} (read : ℕ → Option (Counted A)) (value : X → A) (visits levels : X → ℕ) (xs : List X) (count : ℕ) → count ≡ length xs
    → ((i : ℕ) (x : X) → slice_get xs i ≡ Some x → Reads (read i) (value x) (visits x) (levels x)) → Reads (each_from read count 0) (map value xs) (sum_by visits xs) (deepest levels xs)
reads_each read value visits levels xs count e h =
    ap (λ n. each_from read n 0) e ∙ each-from read value visits levels xs 0 (λ i x got. ap read (zero-add i) ∙ h i x got)

-- texts that were written
pub reads_texts : (b : List ℕ) (read : Option (Option Vector)) (ts : List (List ℕ)) (texts : AreTexts b read ts) → AreUtf8 ts
    → Reads (each_text b texts.vector) (map (λ s. s) ts) (sum_by text_cost ts) (deepest (λ s. 0) ts)
unfolding each_text
reads_texts b read ts texts utf8 =
    reads_each (λ i. counted text_cost (text_of_vector b texts.vector i)) (λ s. s) text_cost (λ s. 0) ts texts.vector.count texts.as_many
    (λ i s got. reads_counted text_cost (text_of_vector b texts.vector i) s (texts.each i s got (utf8 i s got)))

-- tables that were written: pieces says how a value is written
pub reads_tables : {X A : Type 0} (b : List ℕ) (read : Option (Option Vector)) (xs : List X) (pieces : X → List Piece) (value : X → A) (visits levels : X → ℕ) (inner : Table → Option (Counted A))
    (tables : AreTables b read (map pieces xs))
    → ((i : ℕ) (x : X) → slice_get xs i ≡ Some x → in_order 0 (pieces x) ≡ true)
    → ((u : Table) (i : ℕ) (x : X) → slice_get xs i ≡ Some x → Stands b u (pieces x) → Reads (inner u) (value x) (visits x) (levels x))
    → Reads (each_table b inner tables.vector) (map value xs) (sum_by (λ x. visits x + 1) xs) (deepest (λ x. levels x + 1) xs)
unfolding each_table
reads_tables b read xs pieces value visits levels inner tables order back =
    reads_each (λ i. enter (table_of_vector b tables.vector i) inner) value (λ x. visits x + 1) (λ x. levels x + 1) xs tables.vector.count (tables.as_many ∙ length-map xs pieces)
    (λ i x got.
    let there : slice_get (map pieces xs) i ≡ Some (pieces x) = slice_get-map pieces xs i ∙ ap (option_map pieces) got in
    let t = tables.each i (pieces x) there (order i x got) in
    reads_enter (table_of_vector b tables.vector i) t.table inner (value x) (visits x) (levels x) t.found (back t.table i x got t.stands))

-- ---- the whole root

-- what keeps the limits is allowed
pub reads_allowed : {A : Type 0} (c : Option (Counted A)) (x : A) (v l : ℕ) → Reads c x v l → v ≤ most_visits → l ≤ most_levels → allowed c ≡ Some x
unfolding within
reads_allowed {A = A} c x v l h few low = ap allowed h ∙ kept x v l few low
  where
    kept : {A : Type 0} (x : A) (v l : ℕ) → v ≤ most_visits → l ≤ most_levels → (let c : Counted A = record { value = x; visits = v; levels = l } in allowed (Some c)) ≡ Some x
    kept x v l few low = grind (arith, nat_tests)

-- and what passes a limit is not
pub reads_refused : {A : Type 0} (c : Option (Counted A)) (x : A) (v l : ℕ) → Reads c x v l → (most_visits < v) ⊎ (most_levels < l) → allowed c ≡ None
unfolding within
reads_refused {A = A} c x v l h past = ap allowed h ∙ none x v l past
  where
    none : {A : Type 0} (x : A) (v l : ℕ) → (most_visits < v) ⊎ (most_levels < l) → (let c : Counted A = record { value = x; visits = v; levels = l } in allowed (Some c)) ≡ None
    none x v l past = grind (arith, nat_tests)
