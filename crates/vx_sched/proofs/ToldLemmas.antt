-- What slots and bits tell of the reads of a table, and what it is after a change.
use Rattle.std.proofs.Common.{◌≡◌, ℕ, ◌+◌, ◌%◌, ◌<◌, ◌==◌, Bool, true, false, cond, not, List, [], ◌∷◌, length, drop, get_or, drop-cons, add-one, Option, Some, None, option_map, refl, ap, sym, ◌∙◌, subst, arith}
use Rattle.std.specs.Prelude.{is_some, unwrap_or, IfSome, IfNone}
use Rattle.std.proofs.lemmas.Bool.Decides.{nat_tests}
use Rattle.std.proofs.lemmas.Nat.Bits.{bit_at-zero}
use Rattle.std.proofs.lemmas.Map.Keys.{sorted_head, sorted_tail}
use Rattle.std.specs.List.{AllByRecursion}
use Rattle.std.specs.List.Sorted.{IsStrictlySortedBy}
use Rattle.std.specs.Map.{keys_of}
use Rattle.std.specs.BTreeMap.{insert_entry, is_at}
use Rattle.std.specs.Ordering.{nat_cmp}
use Rattle.std.specs.declared.cmp.Ordering.{Ordering}
use Rattle.std.specs.declared.cmp.Ordering.TheVariants.{Less, Equal, Greater}
use Rattle.vx_sched.specs.BitSet.{Words, has_room, is_raised}
use Rattle.vx_sched.specs.Counting.{slot_is, count_of}
use Rattle.vx_sched.specs.Numbered.{with_value, held}
use Rattle.vx_sched.specs.declared.counts.Kind.{Kind}
use Rattle.vx_sched.specs.declared.numbered.Slot.{Slot}
use Rattle.vx_sched.specs.Entries.{Entries, entry_at, if_waits, waits_in, polled_in, after, changed}
use Rattle.vx_sched.specs.Places.{if_waiting, stays_waiting}
use Rattle.vx_sched.specs.Told.{settled, stage_by, told_read, told, polls_in, stays_polled, leaves, AreTold}
use Rattle.vx_sched.specs.declared.request.ReadRequest.{ReadRequest}
use Rattle.vx_sched.specs.Stored.{Read}
use Rattle.vx_sched.specs.declared.read.Stage.{Stage}
use Rattle.vx_sched.specs.declared.read.Stage.TheVariants.{Registered, Polled, InFlight, Resolved}
use Rattle.vx_sched.specs.declared.read.Change.{Change}
use Rattle.vx_sched.specs.declared.read.Change.TheVariants.{Poll, Cancel, Take, Resolve, Settle}
use Rattle.vx_sched.proofs.EntriesLemmas.{above-none, lookup-put, sorted-put, sorted-changed, sorted-nil, change_entry, changed-at}
use Rattle.vx_sched.proofs.TableLemmas.{at-eq}

-- ---- entries in order are told by their look-ups

first-at : (e : ℕ × Read) (es : Entries) → entry_at (e ∷ es) e.0 ≡ Some e.1
first-at e es =
    let here : is_at (nat_cmp e.0) e.0 ≡ true = grind (arith, nat_tests) in
    ap (λ b. cond b (Some e.1) (entry_at es e.0)) here

read-of : (x y : Read) → Some x ≡ Some y → x ≡ y
read-of x y h = ap (λ (o : Option Read). unwrap_or o x) h

below-all : (a b : ℕ) (ks : List ℕ) → a < b → AllByRecursion (λ y. nat_cmp b y ≡ Less) ks → AllByRecursion (λ y. nat_cmp a y ≡ Less) ks
below-all a b [] h l = tt
below-all a b (k ∷ ks) h l =
    let x : nat_cmp b k ≡ Less = l.0 in
    let y : nat_cmp a k ≡ Less = grind (arith, nat_tests) in
    (y, below-all a b ks h l.1)

-- a number below the first has no entry
low-none : (n : ℕ) (e : ℕ × Read) (es : Entries) → n < e.0 → IsStrictlySortedBy nat_cmp (e.0 ∷ keys_of es) → entry_at (e ∷ es) n ≡ None
low-none n e es l s =
    let first : nat_cmp n e.0 ≡ Less = grind (arith, nat_tests) in
    above-none n (e ∷ es) (first, below-all n e.0 (keys_of es) l (sorted_head nat_cmp e.0 (keys_of es) s))

-- what follows the first is the same where all is
rest-same : (d e : ℕ × Read) (a b : Entries) → IsStrictlySortedBy nat_cmp (d.0 ∷ keys_of a) → IsStrictlySortedBy nat_cmp (e.0 ∷ keys_of b) → d.0 ≡ e.0
    → ((q : ℕ) → entry_at (d ∷ a) q ≡ entry_at (e ∷ b) q) → (q : ℕ) → entry_at a q ≡ entry_at b q
rest-same d e a b s t number h q = at (is_at (nat_cmp q) d.0) refl
  where
    at : (x : Bool) → is_at (nat_cmp q) d.0 ≡ x → entry_at a q ≡ entry_at b q
    at true f =
        let same : d.0 ≡ q = grind (arith, nat_tests) in
        subst (λ n. entry_at a n ≡ entry_at b n) same
        (above-none d.0 a (sorted_head nat_cmp d.0 (keys_of a) s) ∙ sym (ap (entry_at b) number ∙ above-none e.0 b (sorted_head nat_cmp e.0 (keys_of b) t)))
    at false f =
        let other : is_at (nat_cmp q) e.0 ≡ false = subst (λ n. is_at (nat_cmp q) n ≡ false) number f in
        sym (ap (λ x. cond x (Some d.1) (entry_at a q)) f) ∙ h q ∙ ap (λ x. cond x (Some e.1) (entry_at b q)) other

pub same-entries : (a b : Entries) → IsStrictlySortedBy nat_cmp (keys_of a) → IsStrictlySortedBy nat_cmp (keys_of b) → ((q : ℕ) → entry_at a q ≡ entry_at b q) → a ≡ b
same-entries [] [] s t h = refl
same-entries [] (e ∷ b) s t h = cc (h e.0 ∙ first-at e b)
same-entries (d ∷ a) [] s t h = cc (sym (h d.0) ∙ first-at d a)
same-entries (d ∷ a) (e ∷ b) s t h = at (nat_cmp d.0 e.0) refl (same-entries a b (sorted_tail nat_cmp d.0 (keys_of a) s) (sorted_tail nat_cmp e.0 (keys_of b) t))
  where
    at : (o : Ordering) → nat_cmp d.0 e.0 ≡ o → (((q : ℕ) → entry_at a q ≡ entry_at b q) → a ≡ b) → d ∷ a ≡ e ∷ b
    at Less f more =
        let l : d.0 < e.0 = grind (arith, nat_tests) in
        cc (sym (low-none d.0 e b l t) ∙ sym (h d.0) ∙ first-at d a)
    at Greater f more =
        let l : e.0 < d.0 = grind (arith, nat_tests) in
        cc (sym (low-none e.0 d a l s) ∙ h e.0 ∙ first-at e b)
    at Equal f more =
        let number : d.0 ≡ e.0 = grind (arith, nat_tests) in
        let value : d.1 ≡ e.1 = read-of d.1 e.1 (sym (first-at d a) ∙ h d.0 ∙ ap (entry_at (e ∷ b)) number ∙ first-at e b) in
        ap (λ n. (n, d.1) ∷ a) number ∙ ap (λ x. (e.0, x) ∷ a) value ∙ ap (λ es. e ∷ es) (more (rest-same d e a b s t number h))

-- ---- look-ups of what is told

pub told-keys : (waits polls : Words) (slots : Entries) → keys_of (told waits polls slots) ≡ keys_of slots
told-keys waits polls [] = refl
told-keys waits polls (e ∷ es) = ap (λ ks. e.0 ∷ ks) (told-keys waits polls es)

pub told-sorted : (waits polls : Words) (slots : Entries) → IsStrictlySortedBy nat_cmp (keys_of slots) → IsStrictlySortedBy nat_cmp (keys_of (told waits polls slots))
told-sorted waits polls slots s = subst (IsStrictlySortedBy nat_cmp) (sym (told-keys waits polls slots)) s

pub told-at : (waits polls : Words) (slots : Entries) (q : ℕ) → entry_at (told waits polls slots) q ≡ option_map (told_read (is_raised waits q) (is_raised polls q)) (entry_at slots q)
told-at waits polls [] q = refl
told-at waits polls (e ∷ es) q = at (is_at (nat_cmp q) e.0) refl (told-at waits polls es q)
  where
    at : (b : Bool) → is_at (nat_cmp q) e.0 ≡ b → entry_at (told waits polls es) q ≡ option_map (told_read (is_raised waits q) (is_raised polls q)) (entry_at es q)
        → cond b (Some (told_read (is_raised waits e.0) (is_raised polls e.0) e.1)) (entry_at (told waits polls es) q)
        ≡ option_map (told_read (is_raised waits q) (is_raised polls q)) (cond b (Some e.1) (entry_at es q))
    at true f ih =
        let same : e.0 ≡ q = grind (arith, nat_tests) in
        ap (λ n. Some (told_read (is_raised waits n) (is_raised polls n) e.1)) same
    at false f ih = ih

-- the same bits tell the same
pub told-same : (waits waits' polls polls' : Words) (slots : Entries) → ((n : ℕ) → is_raised waits' n ≡ is_raised waits n) → ((n : ℕ) → is_raised polls' n ≡ is_raised polls n)
    → told waits' polls' slots ≡ told waits polls slots
told-same waits waits' polls polls' [] w p = refl
told-same waits waits' polls polls' (e ∷ es) w p =
    ap (λ b. (e.0, told_read b (is_raised polls' e.0) e.1) ∷ told waits' polls' es) (w e.0)
    ∙ ap (λ b. (e.0, told_read (is_raised waits e.0) b e.1) ∷ told waits' polls' es) (p e.0)
    ∙ ap (λ rest. (e.0, told_read (is_raised waits e.0) (is_raised polls e.0) e.1) ∷ rest) (told-same waits waits' polls polls' es w p)

bool-false : (b : Bool) → (b ≡ true → false ≡ true) → b ≡ false
bool-false true h = cc (h refl)
bool-false false h = refl

module _ (slots : Entries) (waits polls : Words) (t : AreTold slots waits polls) (q : ℕ) where
  -- the read of a number waits where its bit says so
  pub told-waits : if_waiting (entry_at (told waits polls slots) q) ≡ is_raised waits q
  told-waits = ap if_waiting (told-at waits polls slots q) ∙ at (entry_at slots q) (is_raised waits q) (is_raised polls q) (t.waiting q) (t.polled q)
    where
      stage : (s : Stage) (w p : Bool) → (p ≡ true → w ≡ true) → waits_in (stage_by w p s) ≡ w
      stage s true true h = refl
      stage s true false h = refl
      stage s false true h = cc (h refl)
      stage Registered false false h = refl
      stage Polled false false h = refl
      stage (InFlight _ _ _) false false h = refl
      stage Resolved false false h = refl

      at : (o : Option Read) (w p : Bool) → (w ≡ true → if_waiting o ≡ true) → (p ≡ true → w ≡ true) → if_waiting (option_map (told_read w p) o) ≡ w
      at None w p h k = sym (bool-false w h)
      at (Some x) w p h k = stage x.stage w p k

  -- and was polled where its bit says so
  pub told-polls : polls_in (entry_at (told waits polls slots) q) ≡ is_raised polls q
  told-polls = ap polls_in (told-at waits polls slots q) ∙ at (entry_at slots q) (is_raised waits q) (is_raised polls q) (t.waiting q) (t.polled q)
    where
      stage : (s : Stage) (w p : Bool) → polled_in (stage_by w p s) ≡ p
      stage s w true = refl
      stage s true false = refl
      stage Registered false false = refl
      stage Polled false false = refl
      stage (InFlight _ _ _) false false = refl
      stage Resolved false false = refl

      at : (o : Option Read) (w p : Bool) → (w ≡ true → if_waiting o ≡ true) → (p ≡ true → w ≡ true) → polls_in (option_map (told_read w p) o) ≡ p
      at None w p h k = sym (bool-false p (λ e. h (k e)))
      at (Some x) w p h k = stage x.stage w p

  -- what a read asks, where it waits
  pub told-asks : if_waits (entry_at (told waits polls slots) q) ≡ cond (is_raised waits q) (option_map (λ (x : Read). x.request) (entry_at slots q)) None
  told-asks = ap if_waits (told-at waits polls slots q) ∙ at (entry_at slots q) (is_raised waits q) (is_raised polls q) (t.polled q)
    where
      stage : (r : ReadRequest) (s : Stage) (w p : Bool) → (p ≡ true → w ≡ true) → if_waits (Some (record { request = r; stage = stage_by w p s })) ≡ cond w (Some r) None
      stage r s true true h = refl
      stage r s true false h = refl
      stage r s false true h = cc (h refl)
      stage r Registered false false h = refl
      stage r Polled false false h = refl
      stage r (InFlight _ _ _) false false h = refl
      stage r Resolved false false h = refl

      at : (o : Option Read) (w p : Bool) → (p ≡ true → w ≡ true) → if_waits (option_map (told_read w p) o) ≡ cond w (option_map (λ (x : Read). x.request) o) None
      at None true p k = refl
      at None false p k = refl
      at (Some x) w p k = stage x.request x.stage w p k

-- ---- changes

-- what look-ups tell of a change
pub told-changed : (c : Change) (old new : Entries) (id : ℕ) → IsStrictlySortedBy nat_cmp (keys_of old) → IsStrictlySortedBy nat_cmp (keys_of new)
    → ((q : ℕ) → entry_at new q ≡ cond (id == q) (change_entry c (entry_at old q)) (entry_at old q)) → new ≡ changed c old id
told-changed c old new id s t h = same-entries new (changed c old id) t (sorted-changed c old id s) (λ q. h q ∙ sym (changed-at c old id q s))

at-number : (P : ℕ → Type 0) (id : ℕ) → P id → (q : ℕ) → (id == q) ≡ true → P q
at-number P id h q e =
    let same : id ≡ q = grind (arith, nat_tests) in
    subst P same h

poll-found : (o : Option Read) (w p p' same : Bool) → (same ≡ true → w ≡ true) → p' ≡ cond same true p
    → option_map (told_read w p') o ≡ cond same (change_entry Poll (option_map (told_read w p) o)) (option_map (told_read w p) o)
poll-found o w p p' false h e = ap (λ b. option_map (told_read w b) o) e
poll-found None w p p' true h e = refl
poll-found (Some x) true true p' true h e = ap (λ b. Some (told_read true b x)) e
poll-found (Some x) true false p' true h e = ap (λ b. Some (told_read true b x)) e
poll-found (Some x) false p p' true h e = cc (h refl)

settle-found : (o : Option Read) (w p w' p' same : Bool) → (same ≡ true → w ≡ true) → (same ≡ true → if_waiting o ≡ true) → w' ≡ cond same false w → p' ≡ cond same false p
    → option_map (told_read w' p') o ≡ cond same (change_entry Settle (option_map (told_read w p) o)) (option_map (told_read w p) o)
settle-found o w p w' p' false h k e f = ap (λ b. option_map (told_read b p') o) e ∙ ap (λ b. option_map (told_read w b) o) f
settle-found None w p w' p' true h k e f = cc (k refl)
settle-found (Some x) true p w' p' true h k e f = ap (λ b. Some (told_read b p' x)) e ∙ ap (λ b. Some (told_read false b x)) f ∙ at x.request x.stage p (k refl)
  where
    at : (r : ReadRequest) (s : Stage) (p : Bool) → waits_in s ≡ true
        → Some (record { request = r; stage = settled s }) ≡ change_entry Settle (Some (record { request = r; stage = stage_by true p s }))
    at r Registered true u = refl
    at r Registered false u = refl
    at r Polled true u = refl
    at r Polled false u = refl
    at r (InFlight _ _ _) p u = cc u
    at r Resolved p u = cc u
settle-found (Some x) false p w' p' true h k e f = cc (h refl)

-- a read that does not wait is not polled and not settled
idle-poll : (o : Option Read) → if_waiting o ≡ false → change_entry Poll o ≡ o
idle-poll None h = refl
idle-poll (Some x) h = at x.request x.stage h
  where
    at : (r : ReadRequest) (s : Stage) → waits_in s ≡ false → change_entry Poll (Some (record { request = r; stage = s })) ≡ Some (record { request = r; stage = s })
    at r Registered h = cc h
    at r Polled h = cc h
    at r (InFlight _ _ _) h = refl
    at r Resolved h = refl

idle-settle : (o : Option Read) → if_waiting o ≡ false → change_entry Settle o ≡ o
idle-settle None h = refl
idle-settle (Some x) h = at x.request x.stage h
  where
    at : (r : ReadRequest) (s : Stage) → waits_in s ≡ false → change_entry Settle (Some (record { request = r; stage = s })) ≡ Some (record { request = r; stage = s })
    at r Registered h = cc h
    at r Polled h = cc h
    at r (InFlight _ _ _) h = refl
    at r Resolved h = refl

same-found : (c : Change) (es : Entries) (id : ℕ) → change_entry c (entry_at es id) ≡ entry_at es id → (q : ℕ) → entry_at es q ≡ cond (id == q) (change_entry c (entry_at es q)) (entry_at es q)
same-found c es id h q = at (id == q) refl
  where
    at : (b : Bool) → (id == q) ≡ b → entry_at es q ≡ cond b (change_entry c (entry_at es q)) (entry_at es q)
    at true e = sym (at-number (λ n. change_entry c (entry_at es n) ≡ entry_at es n) id h q e)
    at false e = refl

module _ (slots : Entries) (waits polls : Words) (t : AreTold slots waits polls) (id : ℕ) where
  pub told-idle-poll : is_raised waits id ≡ false → told waits polls slots ≡ changed Poll (told waits polls slots) id
  told-idle-poll h = told-changed Poll (told waits polls slots) (told waits polls slots) id (told-sorted waits polls slots t.sorted) (told-sorted waits polls slots t.sorted)
      (same-found Poll (told waits polls slots) id (idle-poll (entry_at (told waits polls slots) id) (told-waits slots waits polls t id ∙ h)))

  pub told-idle-settle : is_raised waits id ≡ false → told waits polls slots ≡ changed Settle (told waits polls slots) id
  told-idle-settle h = told-changed Settle (told waits polls slots) (told waits polls slots) id (told-sorted waits polls slots t.sorted) (told-sorted waits polls slots t.sorted)
      (same-found Settle (told waits polls slots) id (idle-settle (entry_at (told waits polls slots) id) (told-waits slots waits polls t id ∙ h)))

  -- a slot whose read waits has room for its bits
  pub waits-room : is_raised waits id ≡ true → (has_room waits id ≡ true) × (has_room polls id ≡ true)
  waits-room h = (t.room id (there (entry_at slots id) (t.waiting id h)), t.room_of_polls id (there (entry_at slots id) (t.waiting id h)))
    where
      there : (o : Option Read) → if_waiting o ≡ true → is_some o ≡ true
      there None h = h
      there (Some x) h = refl

  module _ (polls' : Words) (here : is_raised waits id ≡ true) (put : (n : ℕ) → is_raised polls' n ≡ cond (id == n) true (is_raised polls n))
      (kept : (n : ℕ) → has_room polls n ≡ true → has_room polls' n ≡ true) where
    pub told-poll : told waits polls' slots ≡ changed Poll (told waits polls slots) id
    told-poll = told-changed Poll (told waits polls slots) (told waits polls' slots) id (told-sorted waits polls slots t.sorted) (told-sorted waits polls' slots t.sorted)
        (λ q. told-at waits polls' slots q
        ∙ poll-found (entry_at slots q) (is_raised waits q) (is_raised polls q) (is_raised polls' q) (id == q) (at-number (λ n. is_raised waits n ≡ true) id here q) (put q)
        ∙ sym (ap (λ o. cond (id == q) (change_entry Poll o) o) (told-at waits polls slots q)))

    pub poll-told : AreTold slots waits polls'
    poll-told = record {
      sorted = t.sorted;
      waiting = t.waiting;
      polled = λ n h. at n (id == n) refl (sym (put n) ∙ h);
      room = t.room;
      room_of_polls = λ n h. kept n (t.room_of_polls n h);
    }
      where
        at : (n : ℕ) (b : Bool) → (id == n) ≡ b → cond b true (is_raised polls n) ≡ true → is_raised waits n ≡ true
        at n true e h = at-number (λ m. is_raised waits m ≡ true) id here n e
        at n false e h = t.polled n h

  module _ (waits' polls' : Words) (here : is_raised waits id ≡ true)
      (put-waits : (n : ℕ) → is_raised waits' n ≡ cond (id == n) false (is_raised waits n)) (kept-waits : (n : ℕ) → has_room waits n ≡ true → has_room waits' n ≡ true)
      (put-polls : (n : ℕ) → is_raised polls' n ≡ cond (id == n) false (is_raised polls n)) (kept-polls : (n : ℕ) → has_room polls n ≡ true → has_room polls' n ≡ true) where
    pub told-settle : told waits' polls' slots ≡ changed Settle (told waits polls slots) id
    told-settle = told-changed Settle (told waits polls slots) (told waits' polls' slots) id (told-sorted waits polls slots t.sorted) (told-sorted waits' polls' slots t.sorted)
        (λ q. told-at waits' polls' slots q
        ∙ settle-found (entry_at slots q) (is_raised waits q) (is_raised polls q) (is_raised waits' q) (is_raised polls' q) (id == q)
        (at-number (λ n. is_raised waits n ≡ true) id here q) (at-number (λ n. if_waiting (entry_at slots n) ≡ true) id (t.waiting id here) q) (put-waits q) (put-polls q)
        ∙ sym (ap (λ o. cond (id == q) (change_entry Settle o) o) (told-at waits polls slots q)))

    pub settle-told : AreTold slots waits' polls'
    settle-told = record {
      sorted = t.sorted;
      waiting = λ n h. at n (id == n) (sym (put-waits n) ∙ h);
      polled = λ n h. both n (id == n) (put-waits n) (sym (put-polls n) ∙ h);
      room = λ n h. kept-waits n (t.room n h);
      room_of_polls = λ n h. kept-polls n (t.room_of_polls n h);
    }
      where
        at : (n : ℕ) (b : Bool) → cond b false (is_raised waits n) ≡ true → if_waiting (entry_at slots n) ≡ true
        at n true h = cc h
        at n false h = t.waiting n h

        both : (n : ℕ) (b : Bool) → is_raised waits' n ≡ cond b false (is_raised waits n) → cond b false (is_raised polls n) ≡ true → is_raised waits' n ≡ true
        both n true e h = cc h
        both n false e h = e ∙ t.polled n h

-- ---- a slot that is put

slot-found : (o old : Option Read) (r : ReadRequest) (stage : Option Stage) (w p w' p' same : Bool) → o ≡ cond same (option_map (λ s. record { request = r; stage = s }) stage) old
    → w' ≡ cond same (stays_waiting stage) w → p' ≡ cond same (stays_polled stage) p
    → option_map (told_read w' p') o ≡ cond same (option_map (λ s. record { request = r; stage = s }) stage) (option_map (told_read w p) old)
slot-found o old r stage w p w' p' false e f g = ap (option_map (told_read w' p')) e ∙ ap (λ b. option_map (told_read b p') old) f ∙ ap (λ b. option_map (told_read w b) old) g
slot-found o old r stage w p w' p' true e f g =
    ap (option_map (told_read w' p')) e ∙ ap (λ b. option_map (told_read b p') (option_map (λ s. record { request = r; stage = s }) stage)) f
    ∙ ap (λ b. option_map (told_read (stays_waiting stage) b) (option_map (λ s. record { request = r; stage = s }) stage)) g ∙ at stage
  where
    at : (stage : Option Stage) → option_map (told_read (stays_waiting stage) (stays_polled stage)) (option_map (λ s. record { request = r; stage = s }) stage) ≡ option_map (λ s. record { request = r; stage = s }) stage
    at None = refl
    at (Some Registered) = refl
    at (Some Polled) = refl
    at (Some (InFlight _ _ _)) = refl
    at (Some Resolved) = refl

module _ (slots slots' : Entries) (waits polls waits' polls' : Words) (t : AreTold slots waits polls) (id : ℕ) (r : ReadRequest) (stage : Option Stage)
    (sorted : IsStrictlySortedBy nat_cmp (keys_of slots'))
    (lookups : (q : ℕ) → entry_at slots' q ≡ cond (is_at (nat_cmp id) q) (option_map (λ s. record { request = r; stage = s }) stage) (entry_at slots q))
    (room-waits : has_room waits id ≡ true) (room-polls : has_room polls id ≡ true)
    (put-waits : (n : ℕ) → is_raised waits' n ≡ cond (id == n) (stays_waiting stage) (is_raised waits n)) (kept-waits : (n : ℕ) → has_room waits n ≡ true → has_room waits' n ≡ true)
    (put-polls : (n : ℕ) → is_raised polls' n ≡ cond (id == n) (stays_polled stage) (is_raised polls n)) (kept-polls : (n : ℕ) → has_room polls n ≡ true → has_room polls' n ≡ true) where
  at-slot : (q : ℕ) → entry_at slots' q ≡ cond (id == q) (option_map (λ s. record { request = r; stage = s }) stage) (entry_at slots q)
  at-slot q = lookups q ∙ ap (λ b. cond b (option_map (λ s. record { request = r; stage = s }) stage) (entry_at slots q)) (at-eq id q)

  -- the look-ups after it
  pub put-at : (q : ℕ) → entry_at (told waits' polls' slots') q ≡ cond (id == q) (option_map (λ s. record { request = r; stage = s }) stage) (entry_at (told waits polls slots) q)
  put-at q =
      told-at waits' polls' slots' q
      ∙ slot-found (entry_at slots' q) (entry_at slots q) r stage (is_raised waits q) (is_raised polls q) (is_raised waits' q) (is_raised polls' q) (id == q) (at-slot q) (put-waits q) (put-polls q)
      ∙ sym (ap (λ o. cond (id == q) (option_map (λ s. record { request = r; stage = s }) stage) o) (told-at waits polls slots q))

  pub put-told : AreTold slots' waits' polls'
  put-told = record {
    sorted = sorted;
    waiting = λ n h. waiting n (id == n) stage (at-slot n) (sym (put-waits n) ∙ h);
    polled = λ n h. polled n (id == n) stage (put-waits n) (sym (put-polls n) ∙ h);
    room = λ n h. kept-waits n (room-at (has_room waits) n (id == n) refl room-waits (t.room n) (sym (ap is_some (at-slot n)) ∙ h));
    room_of_polls = λ n h. kept-polls n (room-at (has_room polls) n (id == n) refl room-polls (t.room_of_polls n) (sym (ap is_some (at-slot n)) ∙ h));
  }
    where
      waiting : (n : ℕ) (b : Bool) (s : Option Stage) → entry_at slots' n ≡ cond b (option_map (λ s. record { request = r; stage = s }) s) (entry_at slots n)
          → cond b (stays_waiting s) (is_raised waits n) ≡ true → if_waiting (entry_at slots' n) ≡ true
      waiting n true None e h = cc h
      waiting n true (Some s) e h = ap if_waiting e ∙ h
      waiting n false s e h = ap if_waiting e ∙ t.waiting n h

      polls-wait : (s : Stage) → polled_in s ≡ true → waits_in s ≡ true
      polls-wait Registered h = cc h
      polls-wait Polled h = refl
      polls-wait (InFlight _ _ _) h = cc h
      polls-wait Resolved h = cc h

      polled : (n : ℕ) (b : Bool) (s : Option Stage) → is_raised waits' n ≡ cond b (stays_waiting s) (is_raised waits n) → cond b (stays_polled s) (is_raised polls n) ≡ true → is_raised waits' n ≡ true
      polled n true None e h = cc h
      polled n true (Some s) e h = e ∙ polls-wait s h
      polled n false s e h = e ∙ t.polled n h

      room-at : (has : ℕ → Bool) (n : ℕ) (b : Bool) → (id == n) ≡ b → has id ≡ true → (is_some (entry_at slots n) ≡ true → has n ≡ true)
          → is_some (cond b (option_map (λ s. record { request = r; stage = s }) stage) (entry_at slots n)) ≡ true → has n ≡ true
      room-at has n true e there old h = at-number (λ m. has m ≡ true) id there n e
      room-at has n false e there old h = old h

  -- what is told changes as the slot does
  pub told-put : (c : Change) (x : Read) → entry_at (told waits polls slots) id ≡ Some x → r ≡ x.request → stage ≡ after c x.stage → told waits' polls' slots' ≡ changed c (told waits polls slots) id
  told-put c x found asks leads = told-changed c (told waits polls slots) (told waits' polls' slots') id (told-sorted waits polls slots t.sorted) (told-sorted waits' polls' slots' sorted)
      (λ q. put-at q ∙ at q (id == q) refl)
    where
      here : change_entry c (entry_at (told waits polls slots) id) ≡ option_map (λ s. record { request = r; stage = s }) stage
      here = ap (change_entry c) found ∙ sym (ap (λ (a : ReadRequest). option_map (λ s. record { request = a; stage = s }) stage) asks ∙ ap (option_map (λ s. record { request = x.request; stage = s })) leads)

      at : (q : ℕ) (b : Bool) → (id == q) ≡ b → cond b (option_map (λ s. record { request = r; stage = s }) stage) (entry_at (told waits polls slots) q)
          ≡ cond b (change_entry c (entry_at (told waits polls slots) q)) (entry_at (told waits polls slots) q)
      at q true e = sym (at-number (λ n. change_entry c (entry_at (told waits polls slots) n) ≡ option_map (λ s. record { request = r; stage = s }) stage) id here q e)
      at q false e = refl

  -- and a read that is put so is inserted
  pub told-insert : (s : Stage) → stage ≡ Some s → told waits' polls' slots' ≡ insert_entry nat_cmp (told waits polls slots) id (record { request = r; stage = s })
  told-insert s e = same-entries (told waits' polls' slots') (insert_entry nat_cmp (told waits polls slots) id (record { request = r; stage = s }))
      (told-sorted waits' polls' slots' sorted) (sorted-put id (record { request = r; stage = s }) (told waits polls slots) (told-sorted waits polls slots t.sorted))
      (λ q. put-at q ∙ ap (λ o. cond (id == q) (option_map (λ s. record { request = r; stage = s }) o) (entry_at (told waits polls slots) q)) e
      ∙ sym (lookup-put (told waits polls slots) id q (record { request = r; stage = s })))

-- room for more bits leaves all as it is
pub opened-told : (slots : Entries) (waits polls waits' polls' : Words) → AreTold slots waits polls → ((n : ℕ) → is_raised waits' n ≡ is_raised waits n) → ((n : ℕ) → has_room waits n ≡ true → has_room waits' n ≡ true)
    → ((n : ℕ) → is_raised polls' n ≡ is_raised polls n) → ((n : ℕ) → has_room polls n ≡ true → has_room polls' n ≡ true) → AreTold slots waits' polls'
opened-told slots waits polls waits' polls' t w kw p kp = record {
  sorted = t.sorted;
  waiting = λ n h. t.waiting n (sym (w n) ∙ h);
  polled = λ n h. w n ∙ t.polled n (sym (p n) ∙ h);
  room = λ n h. kw n (t.room n h);
  room_of_polls = λ n h. kp n (t.room_of_polls n h);
}

-- a read that is told has a slot
pub told-some : (slots : Entries) (waits polls : Words) (id : ℕ) (x : Read) → entry_at (told waits polls slots) id ≡ Some x → is_some (entry_at slots id) ≡ true
told-some slots waits polls id x h = at (entry_at slots id) (sym (told-at waits polls slots id) ∙ h)
  where
    at : (o : Option Read) → option_map (told_read (is_raised waits id) (is_raised polls id)) o ≡ Some x → is_some o ≡ true
    at None h = cc h
    at (Some y) h = refl

-- a bit that is not set stays so where it is cleared
pub cleared : (raised : ℕ → Bool) (id n : ℕ) → raised id ≡ false → raised n ≡ cond (id == n) false (raised n)
cleared raised id n h = at (id == n) refl
  where
    at : (b : Bool) → (id == n) ≡ b → raised n ≡ cond b false (raised n)
    at true e = at-number (λ m. raised m ≡ false) id h n e
    at false e = refl

-- a read that does not wait does not wait after a change
rests : (c : Change) (s : Stage) → waits_in s ≡ false → (stays_waiting (after c s) ≡ false) × (stays_polled (after c s) ≡ false)
rests c Registered h = cc h
rests c Polled h = cc h
rests Poll (InFlight _ _ _) h = (refl, refl)
rests Cancel (InFlight _ _ _) h = (refl, refl)
rests (Take _ _) (InFlight _ _ _) h = (refl, refl)
rests Resolve (InFlight _ _ true) h = (refl, refl)
rests Resolve (InFlight _ _ false) h = (refl, refl)
rests Settle (InFlight _ _ _) h = (refl, refl)
rests Poll Resolved h = (refl, refl)
rests Cancel Resolved h = (refl, refl)
rests (Take _ _) Resolved h = (refl, refl)
rests Resolve Resolved h = (refl, refl)
rests Settle Resolved h = (refl, refl)

-- so its bits say the same before and after
module _ (slots : Entries) (waits polls : Words) (t : AreTold slots waits polls) (id : ℕ) (c : Change) (x : Read) (stage : Option Stage)
    (found : entry_at (told waits polls slots) id ≡ Some x) (leads : stage ≡ after c x.stage) (idle : waits_in x.stage ≡ false) where
  low : is_raised waits id ≡ false
  low = sym (told-waits slots waits polls t id) ∙ ap if_waiting found ∙ idle

  pub idle-waits : (n : ℕ) → is_raised waits n ≡ cond (id == n) (stays_waiting stage) (is_raised waits n)
  idle-waits n = cleared (is_raised waits) id n low ∙ ap (λ b. cond (id == n) b (is_raised waits n)) (sym (ap stays_waiting leads ∙ (rests c x.stage idle).0))

  pub idle-polls : (n : ℕ) → is_raised polls n ≡ cond (id == n) (stays_polled stage) (is_raised polls n)
  idle-polls n =
      cleared (is_raised polls) id n (bool-false (is_raised polls id) (λ p. sym low ∙ t.polled id p))
      ∙ ap (λ b. cond (id == n) b (is_raised polls n)) (sym (ap stays_polled leads ∙ (rests c x.stage idle).1))

-- whether a read waits no longer, by its bits before and after
pub left-by : (before now : Option Read) (w w' : Bool) → if_waiting before ≡ w → if_waiting now ≡ w' → leaves before now ≡ cond w' false w
left-by before now w w' h k = ap (λ b. cond b false (if_waiting before)) k ∙ ap (λ b. cond w' false b) h

pub left-now : (before now : Option Read) (w' : Bool) → if_waiting before ≡ true → if_waiting now ≡ w' → leaves before now ≡ not w'
left-now before now w' h k = left-by before now true w' h k ∙ at w'
  where
    at : (b : Bool) → cond b false true ≡ not b
    at true = refl
    at false = refl

pub left-none : (before now : Option Read) → if_waiting before ≡ false → leaves before now ≡ false
left-none before now h = ap (λ b. cond (if_waiting now) false b) h ∙ at (if_waiting now)
  where
    at : (b : Bool) → cond b false false ≡ false
    at true = refl
    at false = refl

-- the count of what slots tell, by the first
pub count-first : (kind : Kind) (waits polls : Words) (slot : Slot Read) (rest : List (Slot Read))
    → count_of kind (told waits polls (held (slot ∷ rest))) ≡ cond (slot_is kind (option_map (told_read (is_raised waits slot.number) (is_raised polls slot.number)) slot.value)) 1 0 + count_of kind (told waits polls (held rest))
count-first kind waits polls slot rest = at slot.value
  where
    at : (v : Option Read) → count_of kind (told waits polls (with_value slot.number v (held rest)))
        ≡ cond (slot_is kind (option_map (told_read (is_raised waits slot.number) (is_raised polls slot.number)) v)) 1 0 + count_of kind (told waits polls (held rest))
    at None = omega arith
    at (Some x) = refl

-- no bit is set of a number that has no slot
pub none-raised : (slots : Entries) (waits polls : Words) → AreTold slots waits polls → (id : ℕ) → entry_at (told waits polls slots) id ≡ None
    → (is_raised waits id ≡ false) × (is_raised polls id ≡ false) × (entry_at slots id ≡ None)
none-raised slots waits polls t id h = (sym (told-waits slots waits polls t id) ∙ ap if_waiting h, sym (told-polls slots waits polls t id) ∙ ap polls_in h, at (entry_at slots id) (sym (told-at waits polls slots id) ∙ h))
  where
    at : (o : Option Read) → option_map (told_read (is_raised waits id) (is_raised polls id)) o ≡ None → o ≡ None
    at None h = refl
    at (Some x) h = cc h

pub count-step : (kind : Kind) (waits polls : Words) (slots : List (Slot Read)) (i : ℕ) (slot : Slot Read) (found : Option Read) (b : Bool) → i < length slots → slot ≡ get_or slots i slot
    → found ≡ option_map (told_read (is_raised waits slot.number) (is_raised polls slot.number)) slot.value → slot_is kind found ≡ b
    → count_of kind (told waits polls (held (drop i slots))) ≡ cond b 1 0 + count_of kind (told waits polls (held (drop (i + 1) slots)))
count-step kind waits polls slots i slot found b l e f h =
    ap (λ ss. count_of kind (told waits polls (held ss))) (drop-cons slots i slot l ∙ ap (λ n. get_or slots i slot ∷ drop n slots) (sym (add-one i)) ∙ ap (λ s. s ∷ drop (i + 1) slots) (sym e))
    ∙ count-first kind waits polls slot (drop (i + 1) slots)
    ∙ ap (λ t. cond t 1 0 + count_of kind (told waits polls (held (drop (i + 1) slots)))) (sym (ap (slot_is kind) f) ∙ h)

-- nothing is told without slots and bits
pub empty-told : (slots : Entries) (waits polls : Words) → slots ≡ [] → waits ≡ [] → polls ≡ [] → AreTold slots waits polls
empty-told slots waits polls s w p = subst (λ (es : Entries). AreTold es waits polls) (sym s) (subst (λ (ws : Words). AreTold [] ws polls) (sym w) (subst (λ (ws : Words). AreTold [] [] ws) (sym p) (record {
  sorted = sorted-nil;
  waiting = λ n h. cc (sym (clear n) ∙ h);
  polled = λ n h. h;
  room = λ n h. cc h;
  room_of_polls = λ n h. cc h;
})))
  where
    clear : (n : ℕ) → is_raised [] n ≡ false
    clear n = ap (λ b. b == 1) (bit_at-zero (n % 64))

-- what follows for what was found
pub along-some : {P Q : ℕ → Type 0} (o : Option ℕ) → ((n : ℕ) → P n → Q n) → IfSome o P → IfSome o Q
along-some None f h = tt
along-some (Some n) f h = f n h

pub along-none : {P Q : Type 0} (o : Option ℕ) → (P → Q) → IfNone o P → IfNone o Q
along-none None f h = f h
along-none (Some n) f h = tt
