-- A read put in its place among others.
use Rattle.std.proofs.Common.{◌≡◌, ℕ, ◌+◌, ◌≤◌, ◌==◌, ◌&&◌, ◌||◌, min, max, Bool, true, false, cond, List, [], ◌∷◌, length, refl, ap, ◌∙◌, arith}
use Rattle.std.proofs.lemmas.Bool.Decides.{nat_tests}
use Rattle.std.specs.List.{AllByRecursion}
use Rattle.vx_sched.specs.Span.{end_of}
use Rattle.vx_sched.specs.Merging.{is_before, is_in_order, is_in_order_after, is_listed, first_offset, greatest_end, GapsAfter, HasNoWideGap}
use Rattle.vx_sched.specs.Insert.{insert_read}
use Rattle.vx_sched.specs.declared.request.ReadRequest.{ReadRequest}

-- reads of different numbers are in order one way or the other
pub before-total : (r s : ReadRequest) → is_before r s ≡ false → (r.id == s.id) ≡ false → is_before s r ≡ true
before-total r s h ne = grind (arith, nat_tests)

id-flip : (r s : ReadRequest) → (s.id == r.id) ≡ false → (r.id == s.id) ≡ false
id-flip r s h = grind (arith, nat_tests)

-- the first of two in order begins first
pub before-offset : (r s : ReadRequest) → is_before r s ≡ true → r.offset ≤ s.offset
before-offset r s h = grind (arith, nat_tests)

pub not_before-offset : (r s : ReadRequest) → is_before r s ≡ false → s.offset ≤ r.offset
not_before-offset r s h = grind (arith, nat_tests)

-- both parts of a test
pub and-true : (a b : Bool) → (a && b) ≡ true → (a ≡ true) × (b ≡ true)
and-true true b h = (refl, h)
and-true false b h = cc

true-and : (a b : Bool) → a ≡ true → b ≡ true → (a && b) ≡ true
true-and true b h k = k
true-and false b h k = cc

pub or-false : (a b : Bool) → (a || b) ≡ false → (a ≡ false) × (b ≡ false)
or-false true b h = cc
or-false false b h = (refl, h)

-- order after a read stays
insert-order-after : (p r : ReadRequest) (reads : List ReadRequest) → is_before p r ≡ true → is_in_order_after p reads ≡ true → is_listed reads r.id ≡ false → is_in_order_after p (insert_read r reads) ≡ true
insert-order-after p r [] h o l = true-and _ _ h refl
insert-order-after p r (s ∷ rest) h o l =
    let parts = and-true (is_before p s) (is_in_order_after s rest) o in
    let apart = or-false (s.id == r.id) (is_listed rest r.id) l in
    at (is_before r s) refl parts apart (λ (b : is_before s r ≡ true). insert-order-after s r rest b parts.1 apart.1)
  where
    at : (b : Bool) → is_before r s ≡ b → (is_before p s ≡ true) × (is_in_order_after s rest ≡ true) → ((s.id == r.id) ≡ false) × (is_listed rest r.id ≡ false)
        → (is_before s r ≡ true → is_in_order_after s (insert_read r rest) ≡ true) → is_in_order_after p (cond b (r ∷ s ∷ rest) (s ∷ insert_read r rest)) ≡ true
    at true e parts apart step = true-and _ _ h (true-and _ _ e parts.1)
    at false e parts apart step = true-and _ _ parts.0 (step (before-total r s e (id-flip r s apart.0)))

-- order stays
pub insert-order : (r : ReadRequest) (reads : List ReadRequest) → is_in_order reads ≡ true → is_listed reads r.id ≡ false → is_in_order (insert_read r reads) ≡ true
insert-order r [] o l = refl
insert-order r (s ∷ rest) o l =
    let apart = or-false (s.id == r.id) (is_listed rest r.id) l in
    at (is_before r s) refl apart
  where
    at : (b : Bool) → is_before r s ≡ b → ((s.id == r.id) ≡ false) × (is_listed rest r.id ≡ false) → is_in_order (cond b (r ∷ s ∷ rest) (s ∷ insert_read r rest)) ≡ true
    at true e apart = true-and _ _ e o
    at false e apart = insert-order-after s r rest (before-total r s e (id-flip r s apart.0)) o apart.1

-- how many there are
pub length-insert_read : (r : ReadRequest) (reads : List ReadRequest) → length (insert_read r reads) ≡ length reads + 1
length-insert_read r [] = refl
length-insert_read r (s ∷ rest) = at (is_before r s) (length-insert_read r rest)
  where
    at : (b : Bool) → length (insert_read r rest) ≡ length rest + 1 → length (cond b (r ∷ s ∷ rest) (s ∷ insert_read r rest)) ≡ length (s ∷ rest) + 1
    at true h = omega arith
    at false h = omega arith

or-swap : (a b c : Bool) → (a || (b || c)) ≡ ((b || c) || a)
or-swap true true c = refl
or-swap true false true = refl
or-swap true false false = refl
or-swap false true c = refl
or-swap false false true = refl
or-swap false false false = refl

or-move : (a b c : Bool) → (a || (b || c)) ≡ ((a || b) || c)
or-move true b c = refl
or-move false b c = refl

or-nil : (a : Bool) → (a || false) ≡ a
or-nil true = refl
or-nil false = refl

-- which are listed
pub is_listed-insert : (r : ReadRequest) (reads : List ReadRequest) (id : ℕ) → is_listed (insert_read r reads) id ≡ (is_listed reads id || (r.id == id))
is_listed-insert r [] id = or-nil (r.id == id)
is_listed-insert r (s ∷ rest) id = at (is_before r s) (is_listed-insert r rest id)
  where
    at : (b : Bool) → is_listed (insert_read r rest) id ≡ (is_listed rest id || (r.id == id)) → is_listed (cond b (r ∷ s ∷ rest) (s ∷ insert_read r rest)) id ≡ (((s.id == id) || is_listed rest id) || (r.id == id))
    at true h = or-swap (r.id == id) (s.id == id) (is_listed rest id)
    at false h = ap (λ x. (s.id == id) || x) h ∙ or-move (s.id == id) (is_listed rest id) (r.id == id)

-- the greatest end
pub greatest_end-insert : (r : ReadRequest) (reads : List ReadRequest) → greatest_end (insert_read r reads) ≡ max (greatest_end reads) (end_of r)
greatest_end-insert r [] = omega arith
greatest_end-insert r (s ∷ rest) = at (is_before r s) (greatest_end-insert r rest)
  where
    at : (b : Bool) → greatest_end (insert_read r rest) ≡ max (greatest_end rest) (end_of r) → greatest_end (cond b (r ∷ s ∷ rest) (s ∷ insert_read r rest)) ≡ max (max (end_of s) (greatest_end rest)) (end_of r)
    at true h = omega arith
    at false h = omega arith

-- the first offset
pub first_offset-insert : (r : ReadRequest) (reads : List ReadRequest) → 1 ≤ length reads → first_offset (insert_read r reads) ≡ min (first_offset reads) r.offset
first_offset-insert r [] h = absurd (omega arith)
first_offset-insert r (s ∷ rest) h = at (is_before r s) refl
  where
    at : (b : Bool) → is_before r s ≡ b → first_offset (cond b (r ∷ s ∷ rest) (s ∷ insert_read r rest)) ≡ min s.offset r.offset
    at true e = omega (arith, before-offset r s e)
    at false e = omega (arith, not_before-offset r s e)

-- what holds of each
pub insert-all : (P : ReadRequest → Type 0) (r : ReadRequest) (reads : List ReadRequest) → P r → AllByRecursion P reads → AllByRecursion P (insert_read r reads)
insert-all P r [] h a = (h, tt)
insert-all P r (s ∷ rest) h a = at (is_before r s) (insert-all P r rest h a.1)
  where
    at : (b : Bool) → AllByRecursion P (insert_read r rest) → AllByRecursion P (cond b (r ∷ s ∷ rest) (s ∷ insert_read r rest))
    at true more = (h, a)
    at false more = (a.0, more)

-- gaps after a greater reach
pub gaps-more : (d m n : ℕ) (reads : List ReadRequest) → m ≤ n → GapsAfter d m reads → GapsAfter d n reads
gaps-more d m n [] h g = tt
gaps-more d m n (r ∷ rest) h g = (omega arith, gaps-more d (max m (end_of r)) (max n (end_of r)) rest (omega arith) g.1)

-- gaps stay, where the read begins near the greatest end
insert-gaps-after : (d reach : ℕ) (r : ReadRequest) (reads : List ReadRequest) → GapsAfter d reach reads → r.offset ≤ max reach (greatest_end reads) + d → GapsAfter d reach (insert_read r reads)
insert-gaps-after d reach r [] g h = (omega arith, tt)
insert-gaps-after d reach r (s ∷ rest) g h =
    at (is_before r s) refl (insert-gaps-after d (max reach (end_of s)) r rest g.1 (omega arith))
  where
    at : (b : Bool) → is_before r s ≡ b → GapsAfter d (max reach (end_of s)) (insert_read r rest) → GapsAfter d reach (cond b (r ∷ s ∷ rest) (s ∷ insert_read r rest))
    at true e step =
        let f = before-offset r s e in
        let near = g.0 in
        (omega arith, (omega arith, gaps-more d (max reach (end_of s)) (max (max reach (end_of r)) (end_of s)) rest (omega arith) g.1))
    at false e step = (g.0, step)

-- gaps stay, where the read begins near the range
pub insert-gaps : (d : ℕ) (r : ReadRequest) (reads : List ReadRequest) → HasNoWideGap d reads → first_offset reads ≤ end_of r + d → r.offset ≤ greatest_end reads + d → HasNoWideGap d (insert_read r reads)
insert-gaps d r [] g f h = tt
insert-gaps d r (s ∷ rest) g f h = at (is_before r s)
  where
    at : (b : Bool) → HasNoWideGap d (cond b (r ∷ s ∷ rest) (s ∷ insert_read r rest))
    at true = (omega arith, gaps-more d (end_of s) (max (end_of r) (end_of s)) rest (omega arith) g)
    at false = insert-gaps-after d (end_of s) r rest g (omega arith)
