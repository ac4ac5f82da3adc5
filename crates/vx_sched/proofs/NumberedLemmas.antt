-- Values by number, in slots.
use Rattle.std.proofs.Common.{◌≡◌, ℕ, suc, zero, ◌+◌, ◌<◌, ◌≤◌, ◌==◌, Bool, get_or, true, false, cond, List, [], ◌∷◌, length, Option, Some, None, is_some, refl, ap, sym, ◌∙◌, subst, arith}
use Rattle.std.proofs.lemmas.Bool.Decides.{nat_tests}
use Rattle.std.proofs.lemmas.Bool.{cases_lt}
use Rattle.std.proofs.Math.Logic.{⊎_elim}
use Rattle.std.proofs.lemmas.Option.{slice_get-get_or, slice_get_within}
use Rattle.std.specs.Prelude.{slice_get, slice_set}
use Rattle.std.specs.List.{filter, insert}
use Rattle.std.specs.Map.{lookup, remove_entry}
use Rattle.std.specs.BTreeMap.{insert_entry, is_at}
use Rattle.std.specs.Ordering.{nat_cmp, match_ordering}
use Rattle.std.specs.declared.cmp.Ordering.{Ordering}
use Rattle.std.specs.declared.cmp.Ordering.TheVariants.{Less, Equal, Greater}
use Rattle.vx_sched.specs.Numbered.{held, with_value, is_full, RiseFrom, IsGap, IsSlot}
use Rattle.vx_sched.specs.BitSet.{word_at, or_zero, IsUp}
use Rattle.vx_sched.specs.declared.numbered.Slot.{Slot}

-- each number is at or above the first
pub rise_above : {V : Type 0} (from : ℕ) (slots : List (Slot V)) → RiseFrom from slots → (j : ℕ) (y : Slot V) → slice_get slots j ≡ Some y → from ≤ y.number
rise_above from [] r j y h = cc
rise_above from (s ∷ ss) r zero y h = let e : s ≡ y = cc in subst (λ (z : Slot _). from ≤ z.number) e r.0
rise_above from (s ∷ ss) r (suc j) y h = let b : s.number + 1 ≤ y.number = rise_above (s.number + 1) ss r.1 j y h in omega (arith, b, r.0)

-- of two slots the first has the lesser number
pub rise_apart : {V : Type 0} (from : ℕ) (slots : List (Slot V)) → RiseFrom from slots → (i j : ℕ) (x y : Slot V)
    → slice_get slots i ≡ Some x → slice_get slots j ≡ Some y → i < j → x.number < y.number
rise_apart from [] r i j x y a b l = cc
rise_apart from (s ∷ ss) r i zero x y a b l = absurd (omega (arith, l))
rise_apart from (s ∷ ss) r zero (suc j) x y a b l =
    let e : s ≡ x = cc in
    let above : s.number + 1 ≤ y.number = rise_above (s.number + 1) ss r.1 j y b in
    subst (λ (z : Slot _). z.number < y.number) e (omega (arith, above))
rise_apart from (s ∷ ss) r (suc i) (suc j) x y a b l = rise_apart (s.number + 1) ss r.1 i j x y a b (omega (arith, l))

-- the number of a slot is at least the first and its place
pub rise_far : {V : Type 0} (from : ℕ) (slots : List (Slot V)) → RiseFrom from slots → (j : ℕ) (y : Slot V) → slice_get slots j ≡ Some y → from + j ≤ y.number
rise_far from [] r j y h = cc
rise_far from (s ∷ ss) r zero y h = let e : s ≡ y = cc in let b : from ≤ y.number = subst (λ (z : Slot _). from ≤ z.number) e r.0 in omega (arith, b)
rise_far from (s ∷ ss) r (suc j) y h = let b : s.number + 1 + j ≤ y.number = rise_far (s.number + 1) ss r.1 j y h in omega (arith, b, r.0)

-- of two slots, or one, the first has no greater number
pub rise_level : {V : Type 0} (from : ℕ) (slots : List (Slot V)) → RiseFrom from slots → (i j : ℕ) (x y : Slot V)
    → slice_get slots i ≡ Some x → slice_get slots j ≡ Some y → i ≤ j → x.number ≤ y.number
rise_level from [] r i j x y a b l = cc
rise_level from (s ∷ ss) r zero zero x y a b l = let e : x ≡ y = cc in subst (λ (z : Slot _). x.number ≤ z.number) e (omega arith)
rise_level from (s ∷ ss) r (suc i) zero x y a b l = absurd (omega (arith, l))
rise_level from (s ∷ ss) r zero (suc j) x y a b l =
    let e : s ≡ x = cc in
    let above : s.number + 1 ≤ y.number = rise_above (s.number + 1) ss r.1 j y b in
    subst (λ (z : Slot _). z.number ≤ y.number) e (omega (arith, above))
rise_level from (s ∷ ss) r (suc i) (suc j) x y a b l = rise_level (s.number + 1) ss r.1 i j x y a b (omega (arith, l))

-- below and above the slot of a number
pub hit_below : {V : Type 0} (slots : List (Slot V)) (at : ℕ) (d : Slot V) (number : ℕ) → RiseFrom 0 slots → at < length slots → (get_or slots at d).number ≡ number
    → (i : ℕ) (x : Slot V) → slice_get slots i ≡ Some x → i < at → x.number < number
hit_below slots at d number r w e i x h l = subst (λ n. x.number < n) e (rise_apart 0 slots r i at x (get_or slots at d) h (slice_get-get_or slots at d w) l)

pub hit_above : {V : Type 0} (slots : List (Slot V)) (at : ℕ) (d : Slot V) (number : ℕ) → RiseFrom 0 slots → at < length slots → number ≤ (get_or slots at d).number
    → (i : ℕ) (x : Slot V) → slice_get slots i ≡ Some x → at ≤ i → number ≤ x.number
hit_above slots at d number r w e i x h l =
    let b : (get_or slots at d).number ≤ x.number = rise_level 0 slots r at i (get_or slots at d) x (slice_get-get_or slots at d w) h l in omega (arith, b, e)

-- all slots up to one whose number is below
pub low_below : {V : Type 0} (slots : List (Slot V)) (at : ℕ) (d : Slot V) (number : ℕ) → RiseFrom 0 slots → at < length slots → (get_or slots at d).number < number
    → (i : ℕ) (x : Slot V) → slice_get slots i ≡ Some x → i < at + 1 → x.number < number
low_below slots at d number r w e i x h l =
    let b : x.number ≤ (get_or slots at d).number = rise_level 0 slots r i at x (get_or slots at d) h (slice_get-get_or slots at d w) (omega (arith, l)) in omega (arith, b, e)

-- no slot is past the end
pub none_past : {V : Type 0} (slots : List (Slot V)) (number : ℕ) (i : ℕ) (x : Slot V) → slice_get slots i ≡ Some x → length slots ≤ i → number ≤ x.number
none_past slots number i x h l = let b : i < length slots = slice_get_within slots i x h in absurd (omega (arith, b, l))

-- the gap of a number before a slot, and behind all slots
pub gap_before : {V : Type 0} (slots : List (Slot V)) (at : ℕ) (d : Slot V) (number : ℕ) → RiseFrom 0 slots → at < length slots
    → ((i : ℕ) (x : Slot V) → slice_get slots i ≡ Some x → i < at → x.number < number) → number < (get_or slots at d).number → IsGap slots number at
gap_before slots at d number r w below l = record {
  within = omega (arith, w);
  below = below;
  above = λ i x h le. let b : (get_or slots at d).number ≤ x.number = rise_level 0 slots r at i (get_or slots at d) x (slice_get-get_or slots at d w) h le in omega (arith, b, l);
}

pub gap_behind : {V : Type 0} (slots : List (Slot V)) (at number : ℕ) → at ≡ length slots
    → ((i : ℕ) (x : Slot V) → slice_get slots i ≡ Some x → i < at → x.number < number) → IsGap slots number at
gap_behind slots at number e below = record {
  within = omega (arith, e);
  below = below;
  above = λ i x h le. let b : i < length slots = slice_get_within slots i x h in absurd (omega (arith, b, le, e));
}

pub slot_here : {V : Type 0} (slots : List (Slot V)) (at : ℕ) (d : Slot V) (number : ℕ) → at < length slots → (get_or slots at d).number ≡ number → IsSlot slots number at
slot_here slots at d number w e = record { slot = get_or slots at d; there = slice_get-get_or slots at d w; number_is = e }

-- from below
pub rise_wider : {V : Type 0} (from lower : ℕ) (slots : List (Slot V)) → RiseFrom from slots → lower ≤ from → RiseFrom lower slots
rise_wider from lower [] r l = tt
rise_wider from lower (s ∷ ss) r l = (omega (arith, r.0, l), r.1)

at-eq : (a b : ℕ) → is_at (nat_cmp a) b ≡ (a == b)
at-eq a b = grind (arith, nat_tests)

at-swap : (n q : ℕ) → is_at (nat_cmp q) n ≡ is_at (nat_cmp n) q
at-swap n q = grind (arith, nat_tests)

eq-self : (a : ℕ) → (a == a) ≡ true
eq-self a = grind (arith, nat_tests)

-- a look-up past another number
other : {V : Type 0} (m n : ℕ) (v : Option V) (rest : List (ℕ × V)) → (n == m) ≡ false
    → lookup (is_at (nat_cmp n)) (with_value m v rest) ≡ lookup (is_at (nat_cmp n)) rest
other m n None rest e = refl
other m n (Some x) rest e = ap (λ b. cond b (Some x) (lookup (is_at (nat_cmp n)) rest)) (at-eq n m ∙ e)

-- a look-up at its number
same : {V : Type 0} (n : ℕ) (v : Option V) (rest : List (ℕ × V)) → lookup (is_at (nat_cmp n)) rest ≡ None
    → lookup (is_at (nat_cmp n)) (with_value n v rest) ≡ v
same n None rest h = h
same n (Some x) rest h = ap (λ b. cond b (Some x) (lookup (is_at (nat_cmp n)) rest)) (at-eq n n ∙ eq-self n)

-- no slot has the number
pub held_none : {V : Type 0} (slots : List (Slot V)) (n : ℕ) → ((i : ℕ) (x : Slot V) → slice_get slots i ≡ Some x → (n == x.number) ≡ false)
    → lookup (is_at (nat_cmp n)) (held slots) ≡ None
held_none [] n h = refl
held_none (s ∷ ss) n h = other s.number n s.value (held ss) (h 0 s refl) ∙ held_none ss n (λ i x e. h (suc i) x e)

-- all numbers are above
held_below : {V : Type 0} (from : ℕ) (slots : List (Slot V)) → RiseFrom from slots → (n : ℕ) → n < from → lookup (is_at (nat_cmp n)) (held slots) ≡ None
held_below from slots r n l = held_none slots n (λ i x e. let b : from ≤ x.number = rise_above from slots r i x e in grind (arith, nat_tests))

-- what the slot of a number has is its value
pub held_at : {V : Type 0} (from : ℕ) (slots : List (Slot V)) → RiseFrom from slots → (i : ℕ) (x : Slot V) → slice_get slots i ≡ Some x
    → lookup (is_at (nat_cmp x.number)) (held slots) ≡ x.value
held_at from [] r i x h = cc
held_at from (s ∷ ss) r zero x h =
    let e : s ≡ x = cc in
    subst (λ (z : Slot _). lookup (is_at (nat_cmp z.number)) (with_value s.number s.value (held ss)) ≡ z.value) e (same s.number s.value (held ss) (held_below (s.number + 1) ss r.1 s.number (omega arith)))
held_at from (s ∷ ss) r (suc i) x h =
    let b : s.number + 1 ≤ x.number = rise_above (s.number + 1) ss r.1 i x h in
    other s.number x.number s.value (held ss) (grind (arith, nat_tests)) ∙ held_at (s.number + 1) ss r.1 i x h

-- a new number before all others
insert_front : {V : Type 0} (n : ℕ) (v : V) (slots : List (Slot V)) → RiseFrom (n + 1) slots → insert_entry nat_cmp (held slots) n v ≡ (n, v) ∷ held slots
insert_front {V} n v [] r = refl
insert_front {V} n v (s ∷ ss) r = at (insert_front n v ss (rise_wider (s.number + 1) (n + 1) ss r.1 (omega (arith, r.0)))) s.value
  where
    less : nat_cmp n s.number ≡ Less
    less = let b : n + 1 ≤ s.number = r.0 in grind (arith, nat_tests)

    at : insert_entry nat_cmp (held ss) n v ≡ (n, v) ∷ held ss → (o : Option V) → insert_entry nat_cmp (with_value s.number o (held ss)) n v ≡ (n, v) ∷ with_value s.number o (held ss)
    at h None = h
    at h (Some w) = ap (λ c. match_ordering c ((n, v) ∷ (s.number, w) ∷ held ss) ((s.number, v) ∷ held ss) ((s.number, w) ∷ insert_entry nat_cmp (held ss) n v)) less

-- a number behind another
insert-past : {V : Type 0} (m n : ℕ) (o : Option V) (rest : List (ℕ × V)) (v : V) → m < n
    → with_value m o (insert_entry nat_cmp rest n v) ≡ insert_entry nat_cmp (with_value m o rest) n v
insert-past m n None rest v l = refl
insert-past m n (Some w) rest v l =
    let more : nat_cmp n m ≡ Greater = grind (arith, nat_tests) in
    sym (ap (λ c. match_ordering c ((n, v) ∷ (m, w) ∷ rest) ((m, v) ∷ rest) ((m, w) ∷ insert_entry nat_cmp rest n v)) more)

-- a value in the slot of its number
pub set_held : {V : Type 0} (from : ℕ) (slots : List (Slot V)) → RiseFrom from slots → (i : ℕ) (x : Slot V) → slice_get slots i ≡ Some x → (v : V)
    → held (slice_set slots i (record { number = x.number; value = Some v })) ≡ insert_entry nat_cmp (held slots) x.number v
set_held {V} from [] r i x h v = cc
set_held {V} from (s ∷ ss) r zero x h v =
    let e : s ≡ x = cc in
    subst (λ (z : Slot _). (z.number, v) ∷ held ss ≡ insert_entry nat_cmp (with_value s.number s.value (held ss)) z.number v) e (at s.value)
  where
    equal : nat_cmp s.number s.number ≡ Equal
    equal = grind (arith, nat_tests)

    at : (o : Option V) → (s.number, v) ∷ held ss ≡ insert_entry nat_cmp (with_value s.number o (held ss)) s.number v
    at None = sym (insert_front s.number v ss r.1)
    at (Some w) = sym (ap (λ c. match_ordering c ((s.number, v) ∷ (s.number, w) ∷ held ss) ((s.number, v) ∷ held ss) ((s.number, w) ∷ insert_entry nat_cmp (held ss) s.number v)) equal)
set_held {V} from (s ∷ ss) r (suc i) x h v =
    let b : s.number + 1 ≤ x.number = rise_above (s.number + 1) ss r.1 i x h in
    ap (λ es. with_value s.number s.value es) (set_held (s.number + 1) ss r.1 i x h v) ∙ insert-past s.number x.number s.value (held ss) v (omega (arith, b))

-- a slot keeps its number
pub set_rises : {V : Type 0} (from : ℕ) (slots : List (Slot V)) → RiseFrom from slots → (i : ℕ) (x : Slot V) → slice_get slots i ≡ Some x → (o : Option V)
    → RiseFrom from (slice_set slots i (record { number = x.number; value = o }))
set_rises from [] r i x h o = cc
set_rises from (s ∷ ss) r zero x h o =
    let e : s ≡ x = cc in subst (λ (z : Slot _). (from ≤ z.number) × RiseFrom (z.number + 1) ss) e r
set_rises from (s ∷ ss) r (suc i) x h o = (r.0, set_rises (s.number + 1) ss r.1 i x h o)

-- none has the number
remove_front : {V : Type 0} (n : ℕ) (slots : List (Slot V)) → ((i : ℕ) (x : Slot V) → slice_get slots i ≡ Some x → (n == x.number) ≡ false)
    → held slots ≡ remove_entry (is_at (nat_cmp n)) (held slots)
remove_front {V} n [] h = refl
remove_front {V} n (s ∷ ss) h = ap (λ es. with_value s.number s.value es) (remove_front n ss (λ i x e. h (suc i) x e)) ∙ past s.value
  where
    past : (o : Option V) → with_value s.number o (remove_entry (is_at (nat_cmp n)) (held ss)) ≡ remove_entry (is_at (nat_cmp n)) (with_value s.number o (held ss))
    past None = refl
    past (Some w) = sym (ap (λ b. cond b (held ss) ((s.number, w) ∷ remove_entry (is_at (nat_cmp n)) (held ss))) (at-eq n s.number ∙ h 0 s refl))

pub removed_none : {V : Type 0} (n : ℕ) (slots : List (Slot V)) → ((i : ℕ) (x : Slot V) → slice_get slots i ≡ Some x → (n == x.number) ≡ false)
    → held slots ≡ remove_entry (is_at (nat_cmp n)) (held slots)
removed_none n slots h = remove_front n slots h

-- a slot without its value
pub cleared_held : {V : Type 0} (from : ℕ) (slots : List (Slot V)) → RiseFrom from slots → (i : ℕ) (x : Slot V) → slice_get slots i ≡ Some x
    → held (slice_set slots i (record { number = x.number; value = None })) ≡ remove_entry (is_at (nat_cmp x.number)) (held slots)
cleared_held {V} from [] r i x h = cc
cleared_held {V} from (s ∷ ss) r zero x h =
    let e : s ≡ x = cc in
    subst (λ (z : Slot _). held ss ≡ remove_entry (is_at (nat_cmp z.number)) (with_value s.number s.value (held ss))) e (at s.value)
  where
    at : (o : Option V) → held ss ≡ remove_entry (is_at (nat_cmp s.number)) (with_value s.number o (held ss))
    at None = remove_front s.number ss (λ i x e. let b : s.number + 1 ≤ x.number = rise_above (s.number + 1) ss r.1 i x e in grind (arith, nat_tests))
    at (Some w) = sym (ap (λ b. cond b (held ss) ((s.number, w) ∷ remove_entry (is_at (nat_cmp s.number)) (held ss))) (at-eq s.number s.number ∙ eq-self s.number))
cleared_held {V} from (s ∷ ss) r (suc i) x h =
    let b : s.number + 1 ≤ x.number = rise_above (s.number + 1) ss r.1 i x h in
    ap (λ es. with_value s.number s.value es) (cleared_held (s.number + 1) ss r.1 i x h) ∙ past b s.value
  where
    past : s.number + 1 ≤ x.number → (o : Option V) → with_value s.number o (remove_entry (is_at (nat_cmp x.number)) (held ss)) ≡ remove_entry (is_at (nat_cmp x.number)) (with_value s.number o (held ss))
    past b None = refl
    past b (Some w) =
        let no : (x.number == s.number) ≡ false = grind (arith, nat_tests) in
        sym (ap (λ b. cond b (held ss) ((s.number, w) ∷ remove_entry (is_at (nat_cmp x.number)) (held ss))) (at-eq x.number s.number ∙ no))

-- a new slot in its place
pub insert_held : {V : Type 0} (slots : List (Slot V)) (at n : ℕ) (v : V) (from : ℕ) → RiseFrom from slots → at ≤ length slots
    → ((i : ℕ) (x : Slot V) → slice_get slots i ≡ Some x → i < at → x.number < n) → ((x : Slot V) → slice_get slots at ≡ Some x → n < x.number)
    → held (insert slots at (record { number = n; value = Some v })) ≡ insert_entry nat_cmp (held slots) n v
insert_held [] zero n v from r w below front = refl
insert_held [] (suc at) n v from r w below front = absurd (omega (arith, w))
insert_held (s ∷ ss) zero n v from r w below front =
    let b : n < s.number = front s refl in
    sym (insert_front n v (s ∷ ss) (omega (arith, b), r.1))
insert_held (s ∷ ss) (suc at) n v from r w below front =
    ap (λ es. with_value s.number s.value es) (insert_held ss at n v (s.number + 1) r.1 (omega (arith, w)) (λ i x h l. below (suc i) x h (omega (arith, l))) front)
    ∙ insert-past s.number n s.value (held ss) v (below 0 s refl (omega arith))

pub insert_rises : {V : Type 0} (slots : List (Slot V)) (at n : ℕ) (o : Option V) (from : ℕ) → RiseFrom from slots → from ≤ n
    → ((i : ℕ) (x : Slot V) → slice_get slots i ≡ Some x → i < at → x.number < n) → ((x : Slot V) → slice_get slots at ≡ Some x → n < x.number)
    → RiseFrom from (insert slots at (record { number = n; value = o }))
insert_rises [] zero n o from r f below front = (f, tt)
insert_rises [] (suc at) n o from r f below front = (f, tt)
insert_rises (s ∷ ss) zero n o from r f below front = let b : n < s.number = front s refl in (f, (omega (arith, b), r.1))
insert_rises (s ∷ ss) (suc at) n o from r f below front =
    let b : s.number < n = below 0 s refl (omega arith) in
    (r.0, insert_rises ss at n o (s.number + 1) r.1 (omega (arith, b)) (λ i x h l. below (suc i) x h (omega (arith, l))) front)

-- empty slots hold nothing
pub full_held : {V : Type 0} (slots : List (Slot V)) → held (filter is_full slots) ≡ held slots
full_held {V} [] = refl
full_held {V} (s ∷ ss) = at (full_held ss) s.value refl
  where
    at : held (filter is_full ss) ≡ held ss → (o : Option V) → s.value ≡ o
        → held (cond (is_some s.value) (s ∷ filter is_full ss) (filter is_full ss)) ≡ with_value s.number s.value (held ss)
    at h None e = rw e h
    at h (Some w) e = ap (λ b. held (cond b (s ∷ filter is_full ss) (filter is_full ss))) (ap is_some e) ∙ ap (λ es. with_value s.number s.value es) h

pub full_rises : {V : Type 0} (from : ℕ) (slots : List (Slot V)) → RiseFrom from slots → RiseFrom from (filter is_full slots)
full_rises from [] r = tt
full_rises from (s ∷ ss) r = at (full_rises (s.number + 1) ss r.1) (is_some s.value)
  where
    at : RiseFrom (s.number + 1) (filter is_full ss) → (b : Bool) → RiseFrom from (cond b (s ∷ filter is_full ss) (filter is_full ss))
    at h true = (r.0, h)
    at h false = rise_wider (s.number + 1) from (filter is_full ss) h (omega (arith, r.0))

-- by what a look at a number found
pub slot_value : {V : Type 0} (slots : List (Slot V)) (number at : ℕ) → RiseFrom 0 slots → IsSlot slots number at → (o : Option V)
    → ((x : Slot V) → slice_get slots at ≡ Some x → o ≡ x.value) → o ≡ lookup (is_at (nat_cmp number)) (held slots)
slot_value slots number at r s o h =
    h s.slot s.there ∙ sym (subst (λ n. lookup (is_at (nat_cmp n)) (held slots) ≡ s.slot.value) s.number_is (held_at 0 slots r at s.slot s.there))

pub slot_within : {V : Type 0} (slots : List (Slot V)) (number at : ℕ) → IsSlot slots number at → at < length slots
slot_within slots number at s = slice_get_within slots at s.slot s.there

pub gap_other : {V : Type 0} (slots : List (Slot V)) (number at : ℕ) → IsGap slots number at → (i : ℕ) (x : Slot V) → slice_get slots i ≡ Some x → (number == x.number) ≡ false
gap_other slots number at g i x h = ⊎_elim (λ l. let b : x.number < number = g.below i x h l in grind (arith, nat_tests)) (λ l. let b : number < x.number = g.above i x h l in grind (arith, nat_tests)) (cases_lt i at)

pub gap_value : {V : Type 0} (slots : List (Slot V)) (number at : ℕ) → IsGap slots number at → None ≡ lookup (is_at (nat_cmp number)) (held slots)
gap_value slots number at g = sym (held_none slots number (gap_other slots number at g))

-- a value in the slot of its number
pub put_there : {V : Type 0} (slots new : List (Slot V)) (number at : ℕ) (v : V) → RiseFrom 0 slots → IsSlot slots number at
    → ((x : Slot V) → slice_get slots at ≡ Some x → new ≡ slice_set slots at (record { number = x.number; value = Some v }))
    → held new ≡ insert_entry nat_cmp (held slots) number v
put_there slots new number at v r s h =
    ap held (h s.slot s.there) ∙ set_held 0 slots r at s.slot s.there v ∙ ap (λ n. insert_entry nat_cmp (held slots) n v) s.number_is

pub changed_rises : {V : Type 0} (slots new : List (Slot V)) (number at : ℕ) (o : Option V) → RiseFrom 0 slots → IsSlot slots number at
    → ((x : Slot V) → slice_get slots at ≡ Some x → new ≡ slice_set slots at (record { number = x.number; value = o })) → RiseFrom 0 new
changed_rises slots new number at o r s h = subst (RiseFrom 0) (sym (h s.slot s.there)) (set_rises 0 slots r at s.slot s.there o)

-- a value in a new slot
pub put_here : {V : Type 0} (slots : List (Slot V)) (number at : ℕ) (v : V) → RiseFrom 0 slots → IsGap slots number at
    → held (insert slots at (record { number = number; value = Some v })) ≡ insert_entry nat_cmp (held slots) number v
put_here slots number at v r g = insert_held slots at number v 0 r g.within g.below (λ x h. g.above at x h (omega arith))

pub put_rises : {V : Type 0} (slots : List (Slot V)) (number at : ℕ) (v : V) → RiseFrom 0 slots → IsGap slots number at
    → RiseFrom 0 (insert slots at (record { number = number; value = Some v }))
put_rises slots number at v r g = insert_rises slots at number (Some v) 0 r (omega arith) g.below (λ x h. g.above at x h (omega arith))

-- no value in the slot of its number
pub gone_there : {V : Type 0} (slots new : List (Slot V)) (number at : ℕ) → RiseFrom 0 slots → IsSlot slots number at
    → ((x : Slot V) → slice_get slots at ≡ Some x → new ≡ slice_set slots at (record { number = x.number; value = None }))
    → held new ≡ remove_entry (is_at (nat_cmp number)) (held slots)
gone_there slots new number at r s h =
    ap held (h s.slot s.there) ∙ cleared_held 0 slots r at s.slot s.there ∙ ap (λ n. remove_entry (is_at (nat_cmp n)) (held slots)) s.number_is

pub gone_none : {V : Type 0} (slots : List (Slot V)) (number at : ℕ) → IsGap slots number at → held slots ≡ remove_entry (is_at (nat_cmp number)) (held slots)
gone_none slots number at g = removed_none number slots (gap_other slots number at g)

-- one choice made twice, and two that exclude one another in either order
twice : {X : Type 0} (b : Bool) (x y z : X) → cond b x z ≡ cond b x (cond b y z)
twice true x y z = refl
twice false x y z = refl

swapped : {X : Type 0} (a b : Bool) (x y z : X) → (a ≡ true → b ≡ false) → cond a x (cond b y z) ≡ cond b y (cond a x z)
swapped false b x y z f = refl
swapped true b x y z f = sym (ap (λ c. cond c y x) (f refl))

-- a look-up after a value was put
pub insert_lookup : {V : Type 0} (es : List (ℕ × V)) (n : ℕ) (v : V) (q : ℕ)
    → lookup (is_at (nat_cmp q)) (insert_entry nat_cmp es n v) ≡ cond (is_at (nat_cmp n) q) (Some v) (lookup (is_at (nat_cmp q)) es)
insert_lookup [] n v q = ap (λ b. cond b (Some v) None) (at-swap n q)
insert_lookup {V} (e ∷ es) n v q = by (insert_lookup es n v q) (nat_cmp n e.0) refl
  where
    by : lookup (is_at (nat_cmp q)) (insert_entry nat_cmp es n v) ≡ cond (is_at (nat_cmp n) q) (Some v) (lookup (is_at (nat_cmp q)) es) → (o : Ordering) → nat_cmp n e.0 ≡ o
        → lookup (is_at (nat_cmp q)) (match_ordering o ((n, v) ∷ e ∷ es) ((e.0, v) ∷ es) (e ∷ insert_entry nat_cmp es n v))
        ≡ cond (is_at (nat_cmp n) q) (Some v) (cond (is_at (nat_cmp q) e.0) (Some e.1) (lookup (is_at (nat_cmp q)) es))
    by h Less o = ap (λ b. cond b (Some v) (cond (is_at (nat_cmp q) e.0) (Some e.1) (lookup (is_at (nat_cmp q)) es))) (at-swap n q)
    by h Equal o =
        let rest = lookup (is_at (nat_cmp q)) es in
        let same : is_at (nat_cmp q) e.0 ≡ is_at (nat_cmp n) q = grind (arith, nat_tests) in
        ap (λ b. cond b (Some v) rest) same ∙ twice (is_at (nat_cmp n) q) (Some v) (Some e.1) rest ∙ sym (ap (λ b. cond (is_at (nat_cmp n) q) (Some v) (cond b (Some e.1) rest)) same)
    by h Greater o =
        let apart : is_at (nat_cmp q) e.0 ≡ true → is_at (nat_cmp n) q ≡ false = λ t. grind (arith, nat_tests) in
        ap (λ r. cond (is_at (nat_cmp q) e.0) (Some e.1) r) h ∙ swapped (is_at (nat_cmp q) e.0) (is_at (nat_cmp n) q) (Some e.1) (Some v) (lookup (is_at (nat_cmp q)) es) apart

-- a look-up after a value was taken away
pub remove_lookup : {V : Type 0} (from : ℕ) (slots : List (Slot V)) → RiseFrom from slots → (n q : ℕ)
    → lookup (is_at (nat_cmp q)) (remove_entry (is_at (nat_cmp n)) (held slots)) ≡ cond (is_at (nat_cmp n) q) None (lookup (is_at (nat_cmp q)) (held slots))
remove_lookup {V} from [] r n q = at-none (is_at (nat_cmp n) q)
  where
    at-none : (b : Bool) → ◌≡◌ {A = Option V} None (cond b None None)
    at-none true = refl
    at-none false = refl
remove_lookup {V} from (s ∷ ss) r n q = by s.value (remove_lookup (s.number + 1) ss r.1 n q)
  where
    first : (w : V) (b : Bool) → is_at (nat_cmp n) q ≡ b → is_at (nat_cmp n) s.number ≡ true
        → lookup (is_at (nat_cmp q)) (held ss) ≡ cond b None (cond (is_at (nat_cmp q) s.number) (Some w) (lookup (is_at (nat_cmp q)) (held ss)))
    first w true e h = held_below (s.number + 1) ss r.1 q (grind (arith, nat_tests))
    first w false e h =
        let apart : is_at (nat_cmp q) s.number ≡ false = grind (arith, nat_tests) in
        sym (ap (λ b. cond b (Some w) (lookup (is_at (nat_cmp q)) (held ss))) apart)

    here : (w : V) (b : Bool) → is_at (nat_cmp n) s.number ≡ b
        → lookup (is_at (nat_cmp q)) (remove_entry (is_at (nat_cmp n)) (held ss)) ≡ cond (is_at (nat_cmp n) q) None (lookup (is_at (nat_cmp q)) (held ss))
        → lookup (is_at (nat_cmp q)) (cond b (held ss) ((s.number, w) ∷ remove_entry (is_at (nat_cmp n)) (held ss)))
        ≡ cond (is_at (nat_cmp n) q) None (cond (is_at (nat_cmp q) s.number) (Some w) (lookup (is_at (nat_cmp q)) (held ss)))
    here w true e h = first w (is_at (nat_cmp n) q) refl e
    here w false e h =
        let apart : is_at (nat_cmp q) s.number ≡ true → is_at (nat_cmp n) q ≡ false = λ t. grind (arith, nat_tests) in
        ap (λ rest. cond (is_at (nat_cmp q) s.number) (Some w) rest) h ∙ swapped (is_at (nat_cmp q) s.number) (is_at (nat_cmp n) q) (Some w) None (lookup (is_at (nat_cmp q)) (held ss)) apart

    by : (o : Option V) → lookup (is_at (nat_cmp q)) (remove_entry (is_at (nat_cmp n)) (held ss)) ≡ cond (is_at (nat_cmp n) q) None (lookup (is_at (nat_cmp q)) (held ss))
        → lookup (is_at (nat_cmp q)) (remove_entry (is_at (nat_cmp n)) (with_value s.number o (held ss))) ≡ cond (is_at (nat_cmp n) q) None (lookup (is_at (nat_cmp q)) (with_value s.number o (held ss)))
    by None h = h
    by (Some w) h = here w (is_at (nat_cmp n) s.number) refl h

-- the same, of what slots are known to hold
pub removed_lookup : {V : Type 0} (slots : List (Slot V)) (es new : List (ℕ × V)) (n : ℕ) → RiseFrom 0 slots → held slots ≡ es → new ≡ remove_entry (is_at (nat_cmp n)) es → (q : ℕ)
    → lookup (is_at (nat_cmp q)) new ≡ cond (is_at (nat_cmp n) q) None (lookup (is_at (nat_cmp q)) es)
removed_lookup slots es new n r v h q =
    ap (λ xs. lookup (is_at (nat_cmp q)) xs) h ∙ subst (λ xs. lookup (is_at (nat_cmp q)) (remove_entry (is_at (nat_cmp n)) xs) ≡ cond (is_at (nat_cmp n) q) None (lookup (is_at (nat_cmp q)) xs)) v (remove_lookup 0 slots r n q)

-- a block has no bit set where no slot of its number has one
unraised : (slots : List (Slot ℕ)) (q : ℕ) → ((i : ℕ) (x : Slot ℕ) → slice_get slots i ≡ Some x → x.number ≡ q → IsUp x.value → ⊥) → word_at (held slots) q ≡ 0
unraised [] q h = refl
unraised (s ∷ ss) q h = by (unraised ss q (λ i x. h (suc i) x)) s.value refl
  where
    at : word_at (held ss) q ≡ 0 → (v : ℕ) → s.value ≡ Some v → (b : Bool) → (q == s.number) ≡ b → or_zero (cond b (Some v) (lookup (is_at (nat_cmp q)) (held ss))) ≡ 0
    at k v e false n = k
    at k zero e true n = refl
    at k (suc v) e true n = absurd (h 0 s refl (grind (arith, nat_tests)) (subst IsUp (sym e) (omega arith)))

    by : word_at (held ss) q ≡ 0 → (o : Option ℕ) → s.value ≡ o → word_at (with_value s.number o (held ss)) q ≡ 0
    by k None e = k
    by k (Some v) e = ap (λ b. or_zero (cond b (Some v) (lookup (is_at (nat_cmp q)) (held ss)))) (at-eq q s.number) ∙ at k v e (q == s.number) refl

-- the slots from a number on that were looked at have no bit set
abbrev pub Skipped : List (Slot ℕ) → ℕ → ℕ → Type 0
Skipped slots from at = (i : ℕ) (x : Slot ℕ) → slice_get slots i ≡ Some x → i < at → from ≤ x.number → IsUp x.value → ⊥

-- none from the number on and before the slot has one
pub skipped_before : (slots : List (Slot ℕ)) (from at : ℕ) (d : Slot ℕ) → RiseFrom 0 slots → at < length slots → Skipped slots from at
    → (q : ℕ) → from ≤ q → q < (get_or slots at d).number → word_at (held slots) q ≡ 0
skipped_before slots from at d r w k q f b = unraised slots q (λ i x h e p.
    ⊎_elim (λ l. k i x h l (omega (arith, e, f)) p) (λ l. let c : (get_or slots at d).number ≤ x.number = hit_above slots at d (get_or slots at d).number r w (omega arith) i x h l in absurd (omega (arith, c, e, b))) (cases_lt i at))

-- none from the number on at all
pub skipped_all : (slots : List (Slot ℕ)) (from at : ℕ) → length slots ≤ at → Skipped slots from at → (q : ℕ) → from ≤ q → word_at (held slots) q ≡ 0
skipped_all slots from at w k q f = unraised slots q (λ i x h e p. let l : i < length slots = slice_get_within slots i x h in k i x h (omega (arith, l, w)) (omega (arith, e, f)) p)

-- one more slot
pub skipped_more : (slots : List (Slot ℕ)) (from at : ℕ) (d : Slot ℕ) → at < length slots → Skipped slots from at → (IsUp (get_or slots at d).value → ⊥) → Skipped slots from (at + 1)
skipped_more slots from at d w k none i x h l f p = ⊎_elim (λ l. k i x h l f p) (λ g. none (same (omega (arith, l, g)))) (cases_lt i at)
  where
    same : i ≡ at → IsUp (get_or slots at d).value
    same e = let there : Some x ≡ Some (get_or slots at d) = sym h ∙ ap (slice_get slots) e ∙ slice_get-get_or slots at d w in let y : x ≡ get_or slots at d = cc in subst (λ (z : Slot ℕ). IsUp z.value) y p

pub skipped_start : (slots : List (Slot ℕ)) (from at : ℕ) → ((i : ℕ) (x : Slot ℕ) → slice_get slots i ≡ Some x → i < at → x.number < from) → Skipped slots from at
skipped_start slots from at below i x h l f p = let b : x.number < from = below i x h l in absurd (omega (arith, b, f))

-- the word of a slot
pub raised_here : (slots : List (Slot ℕ)) (at : ℕ) (d : Slot ℕ) → RiseFrom 0 slots → at < length slots → IsUp (get_or slots at d).value → 0 < word_at (held slots) (get_or slots at d).number
raised_here slots at d r w e = subst IsUp (sym (held_at 0 slots r at (get_or slots at d) (slice_get-get_or slots at d w))) e

-- what stands where no slot does
abbrev pub blank : Slot ℕ
blank = record { number = 0; value = None }
