-- Walking within limits: what is left after one step is the limit of the next.
use Rattle.std.proofs.Common.{◌≡◌, ℕ, zero, suc, ◌+◌, ◌-◌, ◌≤◌, ◌<◌, max, Bool, true, false, cond, List, [], ◌∷◌, ◌++◌, append_assoc, map, Option, Some, None, refl, sym, ap, ◌∙◌, arith}
use Rattle.std.specs.Prelude.{nat_le}
use Rattle.std.specs.Option.{option_map}
use Rattle.std.proofs.lemmas.Bool.Decides.{nat_tests}
use Rattle.std.proofs.lemmas.List.{append-nil, length-map}
use Rattle.vx_tables.specs.Counted.{Counted, both, ◌>>=◌, pure, counted, free, deeper, within, enter, enter_optional, present, each_from, one, optional_cost}
use Rattle.vx_tables.specs.Field.{Table, Vector, table_of_vector, ◌>>=◌ as ◌then◌}
use Rattle.vx_tables.specs.Reader.{charge, reached, reached_optional}

choice-then : {A B : Type 0} (b c : Bool) (x : A) (f : A → Option B) → (cond b (cond c (Some x) None) None then f) ≡ cond b (cond c (f x) None) None
choice-then true true x f = refl
choice-then true false x f = refl
choice-then false c x f = refl

no-choice : {A : Type 0} (b c : Bool) → let none : Option A = None in none ≡ cond b (cond c none none) none
no-choice true true = refl
no-choice true false = refl
no-choice false c = refl

abbrev limited : {A : Type 0} → Bool → Bool → Option A → Option A
limited b c r = cond b (cond c r None) None

abbrev done : {A : Type 0} → A → ℕ → Option (A × ℕ)
done x n = Some (x, n)

tests : {A : Type 0} (l n a v d w : ℕ) (y : A) → limited (nat_le (max a d) l) (nat_le (v + w) n) (done y (n - (v + w)))
    ≡ limited (nat_le a l) (nat_le v n) (limited (nat_le d l) (nat_le w (n - v)) (done y (n - v - w)))
tests l n a v d w y = grind (arith, nat_tests)

within-both : {A B : Type 0} (l n : ℕ) (c : Counted A) (r : Option (Counted B)) → within l n (both c r) ≡ cond (nat_le c.levels l) (cond (nat_le c.visits n) (within l (n - c.visits) r) None) None
unfolding within
within-both l n c None = no-choice (nat_le c.levels l) (nat_le c.visits n)
within-both l n c (Some d) = tests l n c.levels c.visits d.levels d.visits d.value

pub within-bind : {A B : Type 0} (l n : ℕ) (c : Option (Counted A)) (f : A → Option (Counted B)) → within l n (c >>= f) ≡ (within l n c then (λ p. within l p.1 (f p.0)))
unfolding within ◌>>=◌
within-bind l n None f = refl
within-bind l n (Some c) f = within-both l n c (f c.value) ∙ sym (choice-then (nat_le c.levels l) (nat_le c.visits n) (c.value, n - c.visits) (λ p. within l p.1 (f p.0)))

pub within-pure : {A : Type 0} (l n : ℕ) (x : A) → within l n (pure x) ≡ Some (x, n)
unfolding within pure
within-pure l n x = grind (arith, nat_tests)

pub within-counted : {A : Type 0} (l n : ℕ) (cost : A → ℕ) (r : Option A) → within l n (counted cost r) ≡ charge cost r n
unfolding within counted
within-counted l n cost None = refl
within-counted l n cost (Some x) = grind (arith, nat_tests)

-- ---- tables that are entered

no-level : {A : Type 0} (n : ℕ) (c : Option (Counted A)) → within 0 n (deeper c) ≡ None
unfolding within deeper
no-level n None = refl
no-level n (Some c) = grind (arith, nat_tests)

one-choice : {A : Type 0} (b : Bool) → let none : Option A = None in none ≡ cond b none none
one-choice true = refl
one-choice false = refl

pub within-deeper : {A : Type 0} (l n : ℕ) (c : Option (Counted A)) → within (suc l) n (deeper c) ≡ cond (nat_le 1 n) (within l (n - 1) c) None
unfolding within deeper
within-deeper l n None = one-choice (nat_le 1 n)
within-deeper l n (Some c) = grind (arith, nat_tests)

choice-once : {A B : Type 0} (b : Bool) (x : A) (f : A → Option B) → (cond b (Some x) None then f) ≡ cond b (f x) None
choice-once true x f = refl
choice-once false x f = refl

-- a table that is entered is charged, and read with one level less
enter-is : {A : Type 0} (l n : ℕ) (read : Option Table) (inner : Table → Option (Counted A))
    → within (suc l) n (enter read inner) ≡ (charge one read n then (λ p. within l p.1 (inner p.0)))
unfolding within enter
enter-is l n None inner = refl
enter-is l n (Some t) inner = within-deeper l n (inner t) ∙ sym (choice-once (nat_le 1 n) (t, n - 1) (λ p. within l p.1 (inner p.0)))

no-enter : {A : Type 0} (n : ℕ) (read : Option Table) (inner : Table → Option (Counted A)) → within 0 n (enter read inner) ≡ None
unfolding within enter
no-enter n None inner = refl
no-enter n (Some t) inner = no-level n (inner t)

one_less : (l : ℕ) → l ≡ suc l - 1
one_less l = omega arith

pub within-enter : {A : Type 0} (l n : ℕ) (read : Option Table) (inner : Table → Option (Counted A))
    → within l n (enter read inner) ≡ (charge one (reached l read) n then (λ p. within (l - 1) p.1 (inner p.0)))
within-enter zero n read inner = no-enter n read inner
within-enter (suc l) n read inner = enter-is l n read inner ∙ ap (λ (k : ℕ). charge one read n then (λ p. within k p.1 (inner p.0))) (one_less l)

-- the same of a table that may be absent
abbrev pub kept : {A : Type 0} → A × ℕ → Option (Option A × ℕ)
kept p = Some (Some p.0, p.1)

some-is : {A : Type 0} (l n : ℕ) (c : Option (Counted A)) → within l n (c >>= (λ x. pure (Some x))) ≡ (within l n c then kept)
some-is {A = A} l n c = within-bind l n c (λ x. pure (Some x)) ∙ ap (λ (f : A × ℕ → Option (Option A × ℕ)). within l n c then f) (λ i p. within-pure l p.1 (Some p.0) i)

-- what is read inside a table that may be absent, after the charge
abbrev pub inside : {A : Type 0} → ℕ → (Table → Option (Counted A)) → Option Table × ℕ → Option (Option A × ℕ)
inside l inner (None, n) = Some (None, n)
inside l inner (Some t, n) = within (l - 1) n (inner t) then kept

charge-absent : (l n : ℕ) → charge (optional_cost one) (reached_optional l (Some None)) n ≡ Some (None, n)
charge-absent l n = grind (arith, nat_tests)

-- a charge for a table that may be absent is one for a table
charge-there : {A : Type 0} (b : Bool) (l n : ℕ) (t : Table) (inner : Table → Option (Counted A)) → let one_table : Option (Table × ℕ) = Some (t, n) in let maybe : Option (Option Table × ℕ) = Some (Some t, n) in
    (cond b one_table None then (λ p. within (l - 1) p.1 (inner p.0)) then kept) ≡ (cond b maybe None then inside l inner)
charge-there true l n t inner = refl
charge-there false l n t inner = refl

pub within-enter_optional : {A : Type 0} (l n : ℕ) (read : Option (Option Table)) (inner : Table → Option (Counted A))
    → within l n (enter_optional read inner) ≡ (charge (optional_cost one) (reached_optional l read) n then inside l inner)
unfolding within enter enter_optional
within-enter_optional l n None inner = refl
within-enter_optional l n (Some None) inner = within-pure l n None ∙ sym (ap (λ r. r then inside l inner) (charge-absent l n))
within-enter_optional zero n (Some (Some t)) inner = some-is 0 n (enter (Some t) inner) ∙ ap (λ r. r then kept) (no-enter n (Some t) inner)
within-enter_optional (suc l) n (Some (Some t)) inner =
    some-is (suc l) n (enter (Some t) inner) ∙ ap (λ r. r then kept) (within-enter (suc l) n (Some t) inner) ∙ charge-there (nat_le 1 n) (suc l) (n - 1) t inner

-- ---- loops over the elements of a vector

-- what was read before, and what is still read
abbrev pub with_front : {A : Type 0} → List A → Option (List A × ℕ) → Option (List A × ℕ)
with_front made walk = walk then (λ p. Some (made ++ p.0, p.1))

regroup : {A : Type 0} (made : List A) (x : A) (walk : Option (List A × ℕ)) → with_front made (walk then (λ p. Some (x ∷ p.0, p.1))) ≡ with_front (made ++ x ∷ []) walk
regroup made x None = refl
regroup made x (Some p) = ap (λ xs. Some (xs, p.1)) (simp append_assoc)

-- the walk over a vector that goes on at an element, after those that were made
unfoldable pub walk_from : {A : Type 0} → (ℕ → Option (Counted A)) → ℕ → ℕ → ℕ → ℕ → List A → Option (List A × ℕ)
walk_from read count l n i made = with_front made (within l n (each_from read (count - i) i))

pub walk_from-start : {A : Type 0} (read : ℕ → Option (Counted A)) (count l n : ℕ) → walk_from read count l n 0 [] ≡ within l n (each_from read count 0)
unfolding walk_from
walk_from-start read count l n =
    let all : count - 0 ≡ count = omega arith in
    ap (λ k. with_front [] (within l n (each_from read k 0))) all ∙ nothing (within l n (each_from read count 0))
  where
    nothing : {A : Type 0} (walk : Option (List A × ℕ)) → with_front [] walk ≡ walk
    nothing None = refl
    nothing (Some p) = refl

pub walk_from-next : {A : Type 0} (read : ℕ → Option (Counted A)) (count l n i : ℕ) (made : List A)
    → i < count → walk_from read count l n i made ≡ (within l n (read i) then (λ p. walk_from read count l p.1 (i + 1) (made ++ p.0 ∷ [])))
unfolding walk_from each_from
walk_from-next {A = A} read count l n i made lt =
    let k : count - i ≡ suc (count - (i + 1)) = omega arith in
    ap (λ j. with_front made (within l n (each_from read j i))) k
    ∙ ap (with_front made) (within-bind l n (read i) (λ x. each_from read (count - (i + 1)) (i + 1) >>= (λ xs. pure (x ∷ xs))))
    ∙ each (within l n (read i))
  where
    each : (o : Option (A × ℕ)) → with_front made (o then (λ p. within l p.1 (each_from read (count - (i + 1)) (i + 1) >>= (λ xs. pure (p.0 ∷ xs))))) ≡ (o then (λ p. with_front (made ++ p.0 ∷ []) (within l p.1 (each_from read (count - (i + 1)) (i + 1)))))
    each None = refl
    each (Some p) = ap (with_front made) (within-bind l p.1 (each_from read (count - (i + 1)) (i + 1)) (λ xs. pure (p.0 ∷ xs)) ∙ ap (λ f. within l p.1 (each_from read (count - (i + 1)) (i + 1)) then f) (λ j q. within-pure l q.1 (p.0 ∷ q.0) j)) ∙ regroup made p.0 (within l p.1 (each_from read (count - (i + 1)) (i + 1)))

pub walk_from-end : {A : Type 0} (read : ℕ → Option (Counted A)) (count l n i : ℕ) (made : List A) → count ≤ i → walk_from read count l n i made ≡ Some (made, n)
unfolding walk_from each_from
walk_from-end read count l n i made le =
    let k : count - i ≡ 0 = omega arith in
    ap (λ j. with_front made (within l n (each_from read j i))) k ∙ ap (with_front made) (within-pure l n []) ∙ ap (λ xs. Some (xs, n)) (append-nil made)

pub within-free : {A : Type 0} (l n : ℕ) (r : Option A) → within l n (free r) ≡ option_map (λ x. (x, n)) r
unfolding free
within-free l n None = within-counted l n (λ _. 0) None
within-free l n (Some x) = within-counted l n (λ _. 0) (Some x) ∙ (grind (arith, nat_tests))

pub present-is : {A : Type 0} (l n : ℕ) (o : Option A) → within l n (present o) ≡ option_map (λ x. (x, n)) o
unfolding present within
present-is l n None = refl
present-is l n (Some x) = within-pure l n x

-- the laws by which a walk is read step by step
pub ruleset walk_steps = (within-bind, within-pure, within-counted, within-free, present-is, within-enter, within-enter_optional, walk_from-start, walk_from-next, walk_from-end)

-- ---- lists that are seen by a view

pub map_push : {A B : Type 0} (f : A → B) (xs : List A) (x : A) → map f (xs ++ x ∷ []) ≡ map f xs ++ f x ∷ []
map_push f [] x = refl
map_push f (y ∷ ys) x = ap (λ zs. f y ∷ zs) (map_push f ys x)

-- the same, where elements are seen by a view
pub ruleset seen_steps = (walk_steps, map_push, length-map)

-- ---- a vector of tables, each read with the levels that are left

-- the walk over a vector of tables goes on behind an element that was read
pub next_element : {A : Type 0} (read : ℕ → List ℕ → Table → Option (Counted A)) (b bs : List ℕ) (v : Vector) (l j n i : ℕ) (made : List A) (t : Table) (m k : ℕ) (x : A)
    → i < v.count → bs ≡ b → l ≡ suc j → Some (t, m) ≡ charge one (reached l (table_of_vector b v i)) n → within j m (read (suc j) bs t) ≡ Some (x, k)
    → walk_from (λ q. enter (table_of_vector b v q) (read l b)) v.count l n i made ≡ walk_from (λ q. enter (table_of_vector b v q) (read l b)) v.count l k (i + 1) (made ++ x ∷ [])
next_element {A = A} read b bs v l j n i made t m k x lt same level entered inside =
    let each : ℕ → Option (Counted A) = λ q. enter (table_of_vector b v q) (read l b) in
    let less : l - 1 ≡ j = omega (arith, level) in
    let inner : within (l - 1) m (read l b t) ≡ Some (x, k) = ap (λ q. within q m (read l b t)) less ∙ ap (λ q. within j m (read q b t)) level ∙ ap (λ q. within j m (read (suc j) q t)) (sym same) ∙ inside in
    let element : within l n (each i) ≡ Some (x, k) = within-enter l n (table_of_vector b v i) (read l b) ∙ ap (λ o. o then (λ p. within (l - 1) p.1 (read l b p.0))) (sym entered) ∙ inner in
    walk_from-next each v.count l n i made lt ∙ ap (λ o. o then (λ p. walk_from each v.count l p.1 (i + 1) (made ++ p.0 ∷ []))) element
