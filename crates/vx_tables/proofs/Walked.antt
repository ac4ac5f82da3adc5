-- What a walk over a table gives where each step gives something: a value, at most so many visits, and at
-- most so many levels.
use Rattle.std.proofs.Common.{◌≡◌, ℕ, suc, ◌+◌, ◌*◌, ◌≤◌, max, true, List, [], ◌∷◌, length, Option, Some, None, refl, ap, ◌∙◌, arith, add-zero}
use Rattle.std.specs.Prelude.{nat_le, slice_get, sum_by}
use Rattle.std.proofs.lemmas.Bool.{le-leb}
use Rattle.std.proofs.lemmas.List.Sums.{sum_by-cons}
use Rattle.vx_tables.specs.Counted.{Counted, ◌>>=◌, pure, counted, free, deeper, within, enter, enter_optional, present, each_from, or_empty, allowed}
use Rattle.vx_tables.specs.Field.{Table, Vector}

pub record Gets {A : Type 0} (read : Option (Counted A)) (x : A) (visits levels : ℕ) : Type 0 where
  pub all : Counted A
  pub found : read ≡ Some all
  pub value : all.value ≡ x
  pub few : all.visits ≤ visits
  pub flat : all.levels ≤ levels

pub gets-pure : {A : Type 0} (x : A) (n l : ℕ) → Gets (pure x) x n l
unfolding pure
gets-pure x n l = record { all = record { value = x; visits = 0; levels = 0 }; found = refl; value = refl; few = omega arith; flat = omega arith }

pub gets-present : {A : Type 0} (x : A) (n l : ℕ) → Gets (present (Some x)) x n l
unfolding present
gets-present x n l = gets-pure x n l

pub gets-counted : {A : Type 0} (cost : A → ℕ) (read : Option A) (x : A) (n l : ℕ) → read ≡ Some x → cost x ≤ n → Gets (counted cost read) x n l
unfolding counted
gets-counted cost read x n l e le = record { all = record { value = x; visits = cost x; levels = 0 }; found = rw e refl; value = refl; few = le; flat = omega arith }

pub gets-free : {A : Type 0} (read : Option A) (x : A) (n l : ℕ) → read ≡ Some x → Gets (free read) x n l
unfolding free
gets-free read x n l e = gets-counted (λ _. 0) read x n l e (omega arith)

pub gets-bind : {A B : Type 0} (r : Option (Counted A)) (f : A → Option (Counted B)) (x : A) (y : B) (n m l : ℕ) → Gets r x n l → Gets (f x) y m l → Gets (r >>= f) y (n + m) l
unfolding ◌>>=◌
gets-bind r f x y n m l g h =
    let rest : f g.all.value ≡ Some h.all = ap f g.value ∙ h.found in
    record {
      all = record { value = h.all.value; visits = g.all.visits + h.all.visits; levels = max g.all.levels h.all.levels };
      found = rw (g.found, rest) refl;
      value = h.value;
      few = omega (arith, g.few, h.few);
      flat = omega (arith, g.flat, h.flat);
    }

pub gets-deeper : {A : Type 0} (r : Option (Counted A)) (x : A) (n l : ℕ) → Gets r x n l → Gets (deeper r) x (n + 1) (l + 1)
unfolding deeper
gets-deeper r x n l g = record {
  all = record { value = g.all.value; visits = g.all.visits + 1; levels = g.all.levels + 1 };
  found = rw g.found refl;
  value = g.value;
  few = omega (arith, g.few);
  flat = omega (arith, g.flat);
}

pub gets-enter : {A : Type 0} (read : Option Table) (t : Table) (inner : Table → Option (Counted A)) (x : A) (n l : ℕ) → read ≡ Some t → Gets (inner t) x n l → Gets (enter read inner) x (n + 1) (l + 1)
unfolding enter
gets-enter read t inner x n l e g = rw e (gets-deeper (inner t) x n l g)

pub gets-enter_optional : {A : Type 0} (read : Option (Option Table)) (t : Table) (inner : Table → Option (Counted A)) (x : A) (n l : ℕ) → read ≡ Some (Some t) → Gets (inner t) x n l
    → Gets (enter_optional read inner) (Some x) (n + 1) (l + 1)
unfolding enter_optional
gets-enter_optional read t inner x n l e g =
    let h : Gets (deeper (inner t) >>= (λ y. pure (Some y))) (Some x) (n + 1 + 0) (l + 1) = gets-bind (deeper (inner t)) (λ y. pure (Some y)) x (Some x) (n + 1) 0 (l + 1) (gets-deeper (inner t) x n l g) (gets-pure (Some x) 0 (l + 1)) in
    rw e (record { all = h.all; found = h.found; value = h.value; few = omega (arith, h.few); flat = h.flat })

pub gets-no_table : {A : Type 0} (read : Option (Option Table)) (inner : Table → Option (Counted A)) (n l : ℕ) → read ≡ Some None → (let none : Option A = None in Gets (enter_optional read inner) none n l)
unfolding enter_optional
gets-no_table read inner n l e = rw e (gets-pure None n l)

pub gets-or_empty : {A : Type 0} (read : Vector → Option (Counted (List A))) (v : Vector) (xs : List A) (n l : ℕ) → Gets (read v) xs n l → Gets (or_empty read (Some v)) xs n l
unfolding or_empty
gets-or_empty read v xs n l g = g

-- a step that takes visits, and one that takes none
pub then_gets : {A B : Type 0} (r : Option (Counted A)) (f : A → Option (Counted B)) (x : A) (y : B) {n m l : ℕ} (k : ℕ) → Gets r x n l → Gets (f x) y m l → n + m ≤ k → Gets (r >>= f) y k l
then_gets r f x y {n = n} {m = m} {l = l} k g h le =
    let w = gets-bind r f x y n m l g h in
    record { all = w.all; found = w.found; value = w.value; few = omega (arith, w.few, le); flat = w.flat }

-- the elements of a vector, each of which takes at most so many visits
pub gets-each : {A : Type 0} (read : ℕ → Option (Counted A)) (xs : List A) (i n l : ℕ) → ((j : ℕ) (x : A) → slice_get xs j ≡ Some x → Gets (read (i + j)) x n l) → Gets (each_from read (length xs) i) xs (length xs * n) l
unfolding each_from
gets-each read [] i n l each = gets-pure [] (0 * n) l
gets-each {A = A} read (x ∷ xs) i n l each =
    let first : Gets (read i) x n l = rw (← add-zero i) (each 0 x refl) in
    let others : (j : ℕ) (y : A) → slice_get xs j ≡ Some y → Gets (read (i + 1 + j)) y n l = λ j y got. let next : i + suc j ≡ i + 1 + j = omega arith in rw (← next) (each (suc j) y got) in
    let rest = gets-each read xs (i + 1) n l others in
    let both_of : Gets (each_from read (length xs) (i + 1) >>= (λ ys. pure (x ∷ ys))) (x ∷ xs) (length xs * n + 0) l = gets-bind (each_from read (length xs) (i + 1)) (λ ys. pure (x ∷ ys)) xs (x ∷ xs) (length xs * n) 0 l rest (gets-pure (x ∷ xs) 0 l) in
    let whole = gets-bind (read i) (λ z. each_from read (length xs) (i + 1) >>= (λ ys. pure (z ∷ ys))) x (x ∷ xs) n (length xs * n + 0) l first both_of in
    record { all = whole.all; found = whole.found; value = whole.value; few = omega (arith, whole.few); flat = whole.flat }

-- the elements of a vector, each of which takes at most its own cost
pub gets-each_costs : {A : Type 0} (read : ℕ → Option (Counted A)) (cost : A → ℕ) (xs : List A) (i l : ℕ) → ((j : ℕ) (x : A) → slice_get xs j ≡ Some x → Gets (read (i + j)) x (cost x) l)
    → Gets (each_from read (length xs) i) xs (sum_by cost xs) l
unfolding each_from
gets-each_costs read cost [] i l each = gets-pure [] 0 l
gets-each_costs {A = A} read cost (x ∷ xs) i l each =
    let first : Gets (read i) x (cost x) l = rw (← add-zero i) (each 0 x refl) in
    let others : (j : ℕ) (y : A) → slice_get xs j ≡ Some y → Gets (read (i + 1 + j)) y (cost y) l = λ j y got. let next : i + suc j ≡ i + 1 + j = omega arith in rw (← next) (each (suc j) y got) in
    let rest = gets-each_costs read cost xs (i + 1) l others in
    let both_of : Gets (each_from read (length xs) (i + 1) >>= (λ ys. pure (x ∷ ys))) (x ∷ xs) (sum_by cost xs + 0) l = gets-bind (each_from read (length xs) (i + 1)) (λ ys. pure (x ∷ ys)) xs (x ∷ xs) (sum_by cost xs) 0 l rest (gets-pure (x ∷ xs) 0 l) in
    let whole = gets-bind (read i) (λ z. each_from read (length xs) (i + 1) >>= (λ ys. pure (z ∷ ys))) x (x ∷ xs) (cost x) (sum_by cost xs + 0) l first both_of in
    record { all = whole.all; found = whole.found; value = whole.value; few = omega (arith, whole.few, sum_by-cons cost x xs); flat = whole.flat }

pub gets-allowed : {A : Type 0} (r : Option (Counted A)) (x : A) (n l : ℕ) → Gets r x n l → n ≤ 1000000 → l ≤ 64 → allowed r ≡ Some x
unfolding within
gets-allowed r x n l g few flat =
    let shallow : nat_le g.all.levels 64 ≡ true = le-leb _ _ (omega (arith, g.flat, flat)) in
    let short : nat_le g.all.visits 1000000 ≡ true = le-leb _ _ (omega (arith, g.few, few)) in
    rw (g.found, shallow, short) (ap (λ y. Some y) g.value)
