-- A vector of segments has the bytes of all of them.
use Rattle.std.proofs.Common.{◌≡◌, ℕ, ◌+◌, ◌-◌, ◌*◌, ◌≤◌, Bool, true, false, cond, List, length, take, drop, Option, Some, None, refl, sym, ap, subst, arith, length-drop}
use Rattle.std.specs.Prelude.{nat_le}
use Rattle.std.specs.Int.{w32}
use Rattle.std.proofs.lemmas.Bool.Decides.{nat_tests}
use Rattle.std.proofs.lemmas.List.{length-take-le}
use Rattle.vx_tables.specs.declared.elements.Elements.TheVariants.{Segments}
use Rattle.vx_tables.specs.Field.{◌>>=◌, Table, Vector, num, optional, vector, target_field, vector_field, element_bytes}
use Rattle.vx_tables.specs.Counted.{optional_cost, vector_cost}
use Rattle.vx_tables.specs.Reader.{charge}

-- a vector that fits in a root of n bytes
record FitsIn (n : ℕ) (v : Vector) : Type 0 where
  room : v.count * 16 ≤ n - v.first

at_most : (n m : ℕ) → nat_le n m ≡ true → n ≤ m
at_most n m h = grind (arith, nat_tests)

abbrev made : Bool → ℕ → ℕ → Option Vector
made test at count = cond test (Some (record { first = at + 4; count = count })) None

made_fits : (test : Bool) (n at count : ℕ) (v : Vector) → (test ≡ true → count * 16 ≤ n - (at + 4)) → made test at count ≡ Some v → FitsIn n v
made_fits false n at count v room h = absurd cc
made_fits true n at count v room h =
    let same : (let w : Vector = record { first = at + 4; count = count } in w) ≡ v = cc in
    subst (λ (w : Vector). FitsIn n w) same (record { room = room refl })

counted_fits : (o : Option ℕ) (n at : ℕ) (v : Vector) → (o >>= λ count. made (nat_le (count * 16) (n - (at + 4))) at count) ≡ Some v → FitsIn n v
counted_fits None n at v h = absurd cc
counted_fits (Some count) n at v h = made_fits (nat_le (count * 16) (n - (at + 4))) n at count v (at_most (count * 16) (n - (at + 4))) h

vector_fits : (b : List ℕ) (at : ℕ) (v : Vector) → vector b at Segments ≡ Some v → FitsIn (length b) v
unfolding vector
vector_fits b at v h = counted_fits (num w32 b at) (length b) at v h

some_vector : (o : Option Vector) (v : Vector) → (o >>= (λ x. Some (Some x))) ≡ Some (Some v) → o ≡ Some v
some_vector None v h = absurd cc
some_vector (Some w) v h = let same : w ≡ v = cc in ap (λ x. Some x) same

optional_fits : (b : List ℕ) (o : Option ℕ) (v : Vector) → optional (λ at. vector b at Segments) o ≡ Some (Some v) → FitsIn (length b) v
optional_fits b None v h = absurd cc
optional_fits b (Some at) v h = vector_fits b at v (some_vector (vector b at Segments) v h)

found_fits : (b : List ℕ) (o : Option (Option ℕ)) (v : Vector) → (o >>= optional (λ at. vector b at Segments)) ≡ Some (Some v) → FitsIn (length b) v
found_fits b None v h = absurd cc
found_fits b (Some o) v h = optional_fits b o v h

field_fits : (b : List ℕ) (t : Table) (v : Vector) → vector_field b t 2 Segments ≡ Some (Some v) → FitsIn (length b) v
unfolding vector_field
field_fits b t v h = found_fits b (target_field b t 2) v h

tested : (test : Bool) (o : Option Vector) (n m : ℕ) (v : Vector) → (let there : Option Vector × ℕ = (o, n) in cond test (Some there) None) ≡ Some (Some v, m) → o ≡ Some v
tested true o n m v h =
    let same : (let p : Option Vector × ℕ = (o, n) in p) ≡ (Some v, m) = cc in
    ap (λ (p : Option Vector × ℕ). p.0) same
tested false o n m v h = absurd cc

charged : (cost : Option Vector → ℕ) (o : Option (Option Vector)) (n m : ℕ) (v : Vector) → charge cost o n ≡ Some (Some v, m) → o ≡ Some (Some v)
charged cost None n m v h = absurd cc
charged cost (Some w) n m v h = ap (λ x. Some x) (tested (nat_le (cost w) n) w (n - cost w) m v h)

length-take_all : (k : ℕ) (xs : List ℕ) → k ≤ length xs → k ≤ length (take k xs)
length-take_all k xs h = omega (arith, length-take-le k xs h)

pub segments_fit : (b : List ℕ) (t : Table) (v : Vector) (n m : ℕ) → Some (Some v, m) ≡ charge (optional_cost (vector_cost Segments)) (vector_field b t 2 Segments) n → v.count * 16 ≤ length (element_bytes b v Segments)
segments_fit b t v n m h =
    let f = field_fits b t v (charged (optional_cost (vector_cost Segments)) (vector_field b t 2 Segments) n m v (sym h)) in
    length-take_all (v.count * 16) (drop v.first b) (subst (λ (k : ℕ). v.count * 16 ≤ k) (sym (length-drop v.first b)) f.room)
