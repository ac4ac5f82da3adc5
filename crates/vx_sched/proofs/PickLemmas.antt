-- One more read is picked.
use Rattle.std.proofs.Common.{◌≡◌, ℕ, ◌^◌, ◌%◌, ◌*◌, ◌/◌, drop, ◌+◌, ◌-◌, ◌<◌, ◌≤◌, ◌==◌, ◌||◌, min, max, Bool, true, false, cond, List, [], ◌∷◌, length, Option, Some, None, refl, ap, sym, ◌∙◌, subst, ⊎_elim, arith}
use Rattle.std.proofs.lemmas.Bool.{cases_lt}
use Rattle.std.proofs.lemmas.Bool.Decides.{nat_tests}
use Rattle.std.specs.Map.{values_of}
use Rattle.std.specs.BTreeMap.{insert_entry}
use Rattle.std.specs.List.{AllByRecursion}
use Rattle.std.proofs.Math.Nat.{div-add-mod, div-add-mod', mul-le-mul_left}
use Rattle.std.proofs.lemmas.Nat.{le-div, pow_pos}
use Rattle.std.proofs.lemmas.List.{drop_all}
use Rattle.vx_sched.specs.Span.{end_of}
use Rattle.vx_sched.specs.Reads.{Reads}
use Rattle.vx_sched.specs.Merging.{is_before, HasNoWideGap, IsTooLong, IsLonger, IsWithinLimit, aligned_size, first_offset, greatest_end, is_in_order, is_listed}
use Rattle.vx_sched.specs.Insert.{insert_read}
use Rattle.vx_sched.specs.Places.{place_cmp}
use Rattle.vx_sched.specs.Picks.{IsPicked, PickedMore, ArePlaced, AreUpTo, SamePicks, entries_of, reads_of, IsLookedAt, AreLookedAt, free_at}
use Rattle.vx_sched.proofs.EntryLemmas.{values-insert, placed-insert}
use Rattle.vx_sched.proofs.InsertLemmas.{insert-order, insert-gaps, insert-all, is_listed-insert, length-insert_read, first_offset-insert, greatest_end-insert}
use Rattle.vx_sched.specs.declared.request.ReadRequest.{ReadRequest}
use Rattle.vx_sched.specs.declared.gather.Picks.{Picks}
use Rattle.vx_sched.specs.declared.gather.Rules.{Rules}

pub or-true : (a b : Bool) → a ≡ true → (a || b) ≡ true
or-true true b h = refl
or-true false b h = cc

true-or : (a : Bool) → (a || true) ≡ true
true-or true = refl
true-or false = refl

not-self : (r : ReadRequest) → is_before r r ≡ false
not-self r = grind (arith, nat_tests)

not-past : (a s r : ReadRequest) → is_before a s ≡ false → is_before a r ≡ true → is_before r s ≡ false
not-past a s r h k = grind (arith, nat_tests)

-- the same picks keep what holds of them
pub same-picked : (rules : Rules) (reads : Reads) (before : List ℕ) (old new : Picks) → SamePicks old new → IsPicked rules reads before old → IsPicked rules reads before new
same-picked rules reads before old new s p = record {
  placed = rw s.entries p.placed;
  free = rw s.entries p.free;
  order = rw s.entries p.order;
  last = rw (s.last, s.entries) p.last;
  low = s.low ∙ p.low ∙ ap (λ es. first_offset (values_of es)) (sym s.entries);
  high = s.high ∙ p.high ∙ ap (λ es. greatest_end (values_of es)) (sym s.entries);
  forward = rw (s.low, s.high) p.forward;
  some = rw s.entries p.some;
  gaps = rw s.entries p.gaps;
  limit = rw (s.entries, s.low, s.high) p.limit;
}

pub same-more : (a b c : Picks) → SamePicks a b → PickedMore b c → PickedMore a c
same-more a b c s m = record {
  kept = λ id h. m.kept id (ap (λ es. is_listed (values_of es) id) s.entries ∙ h);
  low = rw (← s.low) m.low;
  high = rw (← s.high) m.high;
}

-- what holds once a read was added
pub record Added (rules : Rules) (reads : Reads) (before : List ℕ) (old new : Picks) (r : ReadRequest) : Type 0 where
  pub picked : IsPicked rules reads before new
  pub more : PickedMore old new
  pub listed : is_listed (reads_of new) r.id ≡ true

module _ (rules : Rules) (reads : Reads) (before : List ℕ) (old new : Picks) (r : ReadRequest) (p : IsPicked rules reads before old)
    (free : free_at reads before r.id ≡ Some r) (unlisted : is_listed (reads_of old) r.id ≡ false)
    (left : old.low ≤ end_of r + rules.distance) (right : r.offset ≤ old.high + rules.distance)
    (short : IsWithinLimit rules.limit (aligned_size rules.alignment (min old.low r.offset) (max old.high (end_of r))))
    (es : (entries_of new) ≡ insert_entry place_cmp (entries_of old) (r.offset, r.id) r)
    (la : new.last ≡ cond (is_before old.last r) r old.last) (lo : new.low ≡ min old.low r.offset) (hi : new.high ≡ max old.high (end_of r)) where
  rs : reads_of new ≡ insert_read r (reads_of old)
  rs = ap values_of es ∙ values-insert r (entries_of old) p.placed unlisted

  listed-now : (id : ℕ) → is_listed (reads_of new) id ≡ (is_listed (reads_of old) id || (r.id == id))
  listed-now id = ap (λ xs. is_listed xs id) rs ∙ is_listed-insert r (reads_of old) id

  length-now : length (reads_of new) ≡ length (reads_of old) + 1
  length-now = ap length rs ∙ length-insert_read r (reads_of old)

  up-more : (xs : List ReadRequest) → is_before old.last r ≡ true → AreUpTo old.last xs → AreUpTo r xs
  up-more [] e u = tt
  up-more (s ∷ xs) e u =
      let not-after = u.0 in
      (not-past old.last s r not-after e, up-more xs e u.1)

  up-to : (b : Bool) → is_before old.last r ≡ b → AreUpTo (cond b r old.last) (insert_read r (reads_of old))
  up-to true e = insert-all (λ s. is_before r s ≡ false) r (reads_of old) (not-self r) (up-more (reads_of old) e p.last)
  up-to false e = insert-all (λ s. is_before old.last s ≡ false) r (reads_of old) e p.last

  added-picked : IsPicked rules reads before new
  added-picked = record {
    placed = subst ArePlaced (sym es) (placed-insert r (entries_of old) p.placed unlisted);
    free = subst (λ xs. AllByRecursion (λ s. free_at reads before s.id ≡ Some s) xs) (sym rs) (insert-all (λ s. free_at reads before s.id ≡ Some s) r (reads_of old) free p.free);
    last = subst (AreUpTo new.last) (sym rs) (rw la (up-to (is_before old.last r) refl));
    order = subst (λ xs. is_in_order xs ≡ true) (sym rs) (insert-order r (reads_of old) p.order unlisted);
    low = lo ∙ ap (λ n. min n r.offset) p.low ∙ sym (first_offset-insert r (reads_of old) p.some) ∙ ap first_offset (sym rs);
    high = hi ∙ ap (λ n. max n (end_of r)) p.high ∙ sym (greatest_end-insert r (reads_of old)) ∙ ap greatest_end (sym rs);
    forward = omega (arith, lo, hi, p.forward);
    some = omega (arith, length-now);
    gaps = subst (λ xs. HasNoWideGap rules.distance xs) (sym rs) (insert-gaps rules.distance r (reads_of old) p.gaps (subst (λ n. n ≤ end_of r + rules.distance) p.low left) (subst (λ n. r.offset ≤ n + rules.distance) p.high right));
    limit = λ _. rw (lo, hi) short;
  }

  added-more : PickedMore old new
  added-more = record {
    kept = λ id h. listed-now id ∙ or-true (is_listed (reads_of old) id) (r.id == id) h;
    low = omega (arith, lo);
    high = omega (arith, hi);
  }

  added-listed : is_listed (reads_of new) r.id ≡ true
  added-listed =
      let self : (r.id == r.id) ≡ true = grind (arith, nat_tests) in
      listed-now r.id ∙ ap (λ b. is_listed (reads_of old) r.id || b) self ∙ true-or (is_listed (reads_of old) r.id)

  pub added : Added rules reads before old new r
  added = record { picked = added-picked; more = added-more; listed = added-listed }

-- aligning down keeps the order
down-mono : (k m n : ℕ) → 0 < k → m ≤ n → m - m % k ≤ n - n % k
down-mono k m n pos h =
    let a : m - m % k ≡ k * (m / k) = omega (arith, div-add-mod m k) in
    let b : n - n % k ≡ k * (n / k) = omega (arith, div-add-mod n k) in
    let c : m / k * k ≤ n = omega (arith, div-add-mod' m k) in
    rw (a, b) (mul-le-mul_left k (le-div (m / k) n k pos c))

-- a range that is too long stays so
longer-more : (limit : Option ℕ) (m n : ℕ) → m ≤ n → IsLonger limit m → IsLonger limit n
longer-more None m n h t = t
longer-more (Some limit) m n h t = omega arith

too_long-more : (limit : Option ℕ) (alignment low high low' high' : ℕ) (r : ReadRequest) → low' ≤ low → high ≤ high' → IsTooLong limit alignment low high r
    → IsTooLong limit alignment low' high' r
too_long-more limit alignment low high low' high' r l h t =
    let d = down-mono (2 ^ alignment) (min low' r.offset) (min low r.offset) (pow_pos alignment) (omega arith) in
    longer-more limit (aligned_size alignment (min low r.offset) (max high (end_of r))) (aligned_size alignment (min low' r.offset) (max high' (end_of r))) (omega (arith, d)) t

false-back : (a b : Bool) → (a ≡ true → b ≡ true) → b ≡ false → a ≡ false
false-back true b h e = absurd (cc (h refl))
false-back false b h e = refl

-- what was looked at stays looked at
pub looked-more : (rules : Rules) (reads : Reads) (before : List ℕ) (left from right : ℕ) (old new : Picks) (id : ℕ) → PickedMore old new
    → IsLookedAt rules reads before left from right old id → IsLookedAt rules reads before left from right new id
looked-more rules reads before left from right old new id m looked r free l f h unlisted =
    too_long-more rules.limit rules.alignment old.low old.high new.low new.high r m.low m.high
    (looked r free l f h (false-back (is_listed (reads_of old) id) (is_listed (reads_of new) id) (m.kept id) unlisted))

-- picking goes on
pub more-trans : (a b c : Picks) → PickedMore a b → PickedMore b c → PickedMore a c
more-trans a b c p q = record {
  kept = λ id h. q.kept id (p.kept id h);
  low = omega (arith, p.low, q.low);
  high = omega (arith, p.high, q.high);
}

pub more-refl : (a : Picks) → PickedMore a a
more-refl a = record { kept = λ id h. h; low = omega arith; high = omega arith }

-- a look at one more read
pub looked-step : (rules : Rules) (reads : Reads) (before : List ℕ) (left from right : ℕ) (old new : Picks) (x : ReadRequest) (rest : List ReadRequest) → PickedMore old new
    → ((q : ℕ) → is_listed (x ∷ rest) q ≡ false → IsLookedAt rules reads before left from right old q)
    → IsLookedAt rules reads before left from right new x.id
    → (q : ℕ) → is_listed rest q ≡ false → IsLookedAt rules reads before left from right new q
looked-step rules reads before left from right old new x rest m before-it it q h = at (x.id == q) refl
  where
    at : (b : Bool) → (x.id == q) ≡ b → IsLookedAt rules reads before left from right new q
    at true e =
        let q-is : x.id ≡ q = grind (arith, nat_tests) in
        subst (λ n. IsLookedAt rules reads before left from right new n) q-is it
    at false e = looked-more rules reads before left from right old new q m (before-it q (ap (λ b. b || is_listed rest q) e ∙ h))

-- no read is left to look at
pub none-left : (xs : List ReadRequest) (i q : ℕ) → length xs ≤ i → is_listed (drop i xs) q ≡ false
none-left xs i q h = rw (drop_all i xs h) refl

-- what was looked at from the start was looked at from an offset on
pub looked-from : (rules : Rules) (reads : Reads) (before : List ℕ) (left from right : ℕ) (picks : Picks) (id : ℕ)
    → IsLookedAt rules reads before left 0 right picks id → IsLookedAt rules reads before left from right picks id
looked-from rules reads before left from right picks id looked r free l f h unlisted = looked r free l (omega arith) h unlisted

-- more picks, with the reads before the ones that were looked at
pub looked-before : (rules : Rules) (reads : Reads) (before : List ℕ) (left from right : ℕ) (old new : Picks) → PickedMore old new
    → AreLookedAt rules reads before from 0 right old → AreLookedAt rules reads before left 0 (from - 1) new → AreLookedAt rules reads before left 0 right new
looked-before rules reads before left from right old new m seen more id r free l f h unlisted =
    ⊎_elim (λ (outside : r.offset < from). more id r free l f (omega arith) unlisted)
    (λ (inside : from ≤ r.offset). looked-more rules reads before from 0 right old new id m (seen id) r free (omega arith) f h unlisted) (cases_lt r.offset from)

-- more picks, with the reads after the ones that were looked at
pub looked-after : (rules : Rules) (reads : Reads) (before : List ℕ) (left upto right : ℕ) (old new : Picks) → PickedMore old new
    → AreLookedAt rules reads before left 0 upto old → AreLookedAt rules reads before left (upto + 1) right new → AreLookedAt rules reads before left 0 right new
looked-after rules reads before left upto right old new m seen more id r free l f h unlisted =
    ⊎_elim (λ (outside : upto < r.offset). more id r free l (omega arith) h unlisted)
    (λ inside. looked-more rules reads before left 0 upto old new id m (seen id) r free l f inside unlisted) (cases_lt upto r.offset)
