-- The entries of the map of reads after a change.
use Rattle.std.proofs.Common.{◌≡◌, ℕ, ◌<◌, ◌==◌, ◌||◌, Bool, true, false, cond, List, [], ◌∷◌, Option, Some, None, option_map, refl, ap, sym, ◌∙◌, subst, arith}
use Rattle.std.proofs.lemmas.Bool.Decides.{nat_tests}
use Rattle.std.proofs.lemmas.Map.Keys.{sorted_head, sorted_tail}
use Rattle.std.specs.List.{AllByRecursion}
use Rattle.std.specs.List.Sorted.{IsStrictlySortedBy}
use Rattle.std.specs.Map.{keys_of, remove_entry}
use Rattle.std.specs.BTreeMap.{insert_entry, is_at}
use Rattle.std.specs.Ordering.{nat_cmp, match_ordering, is_eq}
use Rattle.std.specs.declared.cmp.Ordering.{Ordering}
use Rattle.std.specs.declared.cmp.Ordering.TheVariants.{Less, Equal, Greater}
use Rattle.vx_sched.specs.Entries.{Entries, entry_at, if_waits, polled_in, after, with_stage, change_found, changed, all_changed}
use Rattle.vx_sched.specs.Merging.{is_listed}
use Rattle.vx_sched.specs.declared.request.ReadRequest.{ReadRequest}
use Rattle.vx_sched.specs.Stored.{Read}
use Rattle.vx_sched.specs.declared.read.Stage.{Stage}
use Rattle.vx_sched.specs.declared.read.Stage.TheVariants.{Registered, Polled, InFlight, Resolved}
use Rattle.vx_sched.specs.declared.read.Change.{Change}
use Rattle.vx_sched.specs.declared.read.Change.TheVariants.{Poll, Cancel, Take, Resolve, Settle}

-- the waiting read of a number
abbrev pub waiting_in : Entries → ℕ → Option ReadRequest
waiting_in entries id = if_waits (entry_at entries id)

abbrev pub if_polls : Option Read → Bool
if_polls None = false
if_polls (Some x) = polled_in x.stage

-- whether the read of a number was polled and waits
abbrev pub polled_entry : Entries → ℕ → Bool
polled_entry entries id = if_polls (entry_at entries id)

-- a look-up after an entry was put in
pub lookup-put : (es : Entries) (k q : ℕ) (v : Read) → entry_at (insert_entry nat_cmp es k v) q ≡ cond (k == q) (Some v) (entry_at es q)
lookup-put [] k q v = ap (λ b. cond b (Some v) None) (grind (arith, nat_tests))
lookup-put (e ∷ es) k q v = at (nat_cmp k e.0) refl (lookup-put es k q v)
  where
    at : (o : Ordering) → nat_cmp k e.0 ≡ o → entry_at (insert_entry nat_cmp es k v) q ≡ cond (k == q) (Some v) (entry_at es q)
        → entry_at (match_ordering o ((k, v) ∷ e ∷ es) ((e.0, v) ∷ es) (e ∷ insert_entry nat_cmp es k v)) q ≡ cond (k == q) (Some v) (entry_at (e ∷ es) q)
    at Less h step = ap (λ b. cond b (Some v) (entry_at (e ∷ es) q)) (grind (arith, nat_tests))
    at Equal h step =
        let same : k ≡ e.0 = grind (arith, nat_tests) in
        subst (λ n. cond (is_at (nat_cmp q) n) (Some v) (entry_at es q) ≡ cond (k == q) (Some v) (cond (is_at (nat_cmp q) n) (Some e.1) (entry_at es q))) same
        (both (is_at (nat_cmp q) k) (k == q) (grind (arith, nat_tests)))
      where
        both : (a b : Bool) → a ≡ b → cond a (Some v) (entry_at es q) ≡ cond b (Some v) (cond a (Some e.1) (entry_at es q))
        both true true x = refl
        both false false x = refl
        both true false x = cc
        both false true x = cc
    at Greater h step = past (is_at (nat_cmp q) e.0) refl
      where
        past : (b : Bool) → is_at (nat_cmp q) e.0 ≡ b → cond (is_at (nat_cmp q) e.0) (Some e.1) (entry_at (insert_entry nat_cmp es k v) q) ≡ cond (k == q) (Some v) (cond (is_at (nat_cmp q) e.0) (Some e.1) (entry_at es q))
        past true x =
            let apart : (k == q) ≡ false = grind (arith, nat_tests) in
            rw (x, apart) refl
        past false x = rw x step

-- a look-up of another number after an entry was taken out
pub lookup-remove : (es : Entries) (k q : ℕ) → (k == q) ≡ false → entry_at (remove_entry (is_at (nat_cmp k)) es) q ≡ entry_at es q
lookup-remove [] k q h = refl
lookup-remove (e ∷ es) k q h = at (is_at (nat_cmp k) e.0) refl (lookup-remove es k q h)
  where
    at : (b : Bool) → is_at (nat_cmp k) e.0 ≡ b → entry_at (remove_entry (is_at (nat_cmp k)) es) q ≡ entry_at es q
        → entry_at (cond b es (e ∷ remove_entry (is_at (nat_cmp k)) es)) q ≡ entry_at (e ∷ es) q
    at true x step =
        let apart : is_at (nat_cmp q) e.0 ≡ false = grind (arith, nat_tests) in
        rw apart refl
    at false x step = ap (λ y. cond (is_at (nat_cmp q) e.0) (Some e.1) y) step

-- a change of one read leaves another
pub changed-other : (c : Change) (reads : Entries) (id q : ℕ) → (id == q) ≡ false → entry_at (changed c reads id) q ≡ entry_at reads q
changed-other c reads id q h = at (entry_at reads id)
  where
    put : (x : Read) (s : Option Stage) → entry_at (with_stage reads id x.request s) q ≡ entry_at reads q
    put x None = lookup-remove reads id q h
    put x (Some s) = lookup-put reads id q (record { request = x.request; stage = s }) ∙ ap (λ b. cond b (Some (record { request = x.request; stage = s })) (entry_at reads q)) h

    at : (x : Option Read) → entry_at (change_found c reads id x) q ≡ entry_at reads q
    at None = refl
    at (Some x) = put x (after c x.stage)

-- no entry past the first has its number
pub above-none : (id : ℕ) (rest : Entries) → AllByRecursion (λ y. nat_cmp id y ≡ Less) (keys_of rest) → entry_at rest id ≡ None
above-none id [] h = refl
above-none id (e ∷ rest) h = rw (ap is_eq h.0) (above-none id rest h.1)

sorted-cons : (k : ℕ) (ks : List ℕ) → AllByRecursion (λ y. nat_cmp k y ≡ Less) ks → IsStrictlySortedBy nat_cmp ks → IsStrictlySortedBy nat_cmp (k ∷ ks)
unfolding IsStrictlySortedBy
sorted-cons k ks a s = (a, s)

pub sorted-nil : IsStrictlySortedBy nat_cmp []
unfolding IsStrictlySortedBy
sorted-nil = tt

all-less : (a b : ℕ) (ks : List ℕ) → a < b → AllByRecursion (λ y. nat_cmp b y ≡ Less) ks → AllByRecursion (λ y. nat_cmp a y ≡ Less) ks
all-less a b [] h l = tt
all-less a b (k ∷ ks) h l =
    let x : nat_cmp b k ≡ Less = l.0 in
    let y : nat_cmp a k ≡ Less = grind (arith, nat_tests) in
    (y, all-less a b ks h l.1)

all-put : (P : ℕ → Type 0) (k : ℕ) (v : Read) (es : Entries) → P k → AllByRecursion P (keys_of es) → AllByRecursion P (keys_of (insert_entry nat_cmp es k v))
all-put P k v [] h a = (h, tt)
all-put P k v (e ∷ es) h a = at (nat_cmp k e.0) (all-put P k v es h a.1)
  where
    at : (o : Ordering) → AllByRecursion P (keys_of (insert_entry nat_cmp es k v)) → AllByRecursion P (keys_of (match_ordering o ((k, v) ∷ e ∷ es) ((e.0, v) ∷ es) (e ∷ insert_entry nat_cmp es k v)))
    at Less m = (h, a)
    at Equal m = a
    at Greater m = (a.0, m)

all-out : (P : ℕ → Type 0) (test : ℕ → Bool) (es : Entries) → AllByRecursion P (keys_of es) → AllByRecursion P (keys_of (remove_entry test es))
all-out P test [] a = tt
all-out P test (e ∷ es) a = at (test e.0) (all-out P test es a.1)
  where
    at : (b : Bool) → AllByRecursion P (keys_of (remove_entry test es)) → AllByRecursion P (keys_of (cond b es (e ∷ remove_entry test es)))
    at true m = a.1
    at false m = (a.0, m)

pub sorted-put : (k : ℕ) (v : Read) (es : Entries) → IsStrictlySortedBy nat_cmp (keys_of es) → IsStrictlySortedBy nat_cmp (keys_of (insert_entry nat_cmp es k v))
sorted-put k v [] s = sorted-cons k [] tt sorted-nil
sorted-put k v (e ∷ es) s = at (nat_cmp k e.0) refl (sorted-put k v es (sorted_tail nat_cmp e.0 (keys_of es) s))
  where
    head : AllByRecursion (λ y. nat_cmp e.0 y ≡ Less) (keys_of es)
    head = sorted_head nat_cmp e.0 (keys_of es) s

    at : (o : Ordering) → nat_cmp k e.0 ≡ o → IsStrictlySortedBy nat_cmp (keys_of (insert_entry nat_cmp es k v)) → IsStrictlySortedBy nat_cmp (keys_of (match_ordering o ((k, v) ∷ e ∷ es) ((e.0, v) ∷ es) (e ∷ insert_entry nat_cmp es k v)))
    at Less h m =
        let below : k < e.0 = grind (arith, nat_tests) in
        sorted-cons k (e.0 ∷ keys_of es) (h, all-less k e.0 (keys_of es) below head) s
    at Equal h m = s
    at Greater h m =
        let above : nat_cmp e.0 k ≡ Less = grind (arith, nat_tests) in
        sorted-cons e.0 (keys_of (insert_entry nat_cmp es k v)) (all-put (λ y. nat_cmp e.0 y ≡ Less) k v es above head) m

sorted-out : (test : ℕ → Bool) (es : Entries) → IsStrictlySortedBy nat_cmp (keys_of es) → IsStrictlySortedBy nat_cmp (keys_of (remove_entry test es))
sorted-out test [] s = s
sorted-out test (e ∷ es) s = at (test e.0) (sorted-out test es (sorted_tail nat_cmp e.0 (keys_of es) s))
  where
    at : (b : Bool) → IsStrictlySortedBy nat_cmp (keys_of (remove_entry test es)) → IsStrictlySortedBy nat_cmp (keys_of (cond b es (e ∷ remove_entry test es)))
    at true m = sorted_tail nat_cmp e.0 (keys_of es) s
    at false m = sorted-cons e.0 (keys_of (remove_entry test es)) (all-out (λ y. nat_cmp e.0 y ≡ Less) test es (sorted_head nat_cmp e.0 (keys_of es) s)) m

-- numbers stay in order, whatever stage is put
pub sorted-stage : (reads : Entries) (id : ℕ) (r : ReadRequest) (x : Option Stage) → IsStrictlySortedBy nat_cmp (keys_of reads) → IsStrictlySortedBy nat_cmp (keys_of (with_stage reads id r x))
sorted-stage reads id r None s = sorted-out (is_at (nat_cmp id)) reads s
sorted-stage reads id r (Some x) s = sorted-put id (record { request = r; stage = x }) reads s

pub sorted-changed : (c : Change) (reads : Entries) (id : ℕ) → IsStrictlySortedBy nat_cmp (keys_of reads) → IsStrictlySortedBy nat_cmp (keys_of (changed c reads id))
sorted-changed c reads id s = at (entry_at reads id)
  where
    put : (r : ReadRequest) (x : Option Stage) → IsStrictlySortedBy nat_cmp (keys_of (with_stage reads id r x))
    put r None = sorted-out (is_at (nat_cmp id)) reads s
    put r (Some x) = sorted-put id (record { request = r; stage = x }) reads s

    at : (x : Option Read) → IsStrictlySortedBy nat_cmp (keys_of (change_found c reads id x))
    at None = s
    at (Some x) = put x.request (after c x.stage)

pub sorted-all : (c : Change) (rs : List ReadRequest) (reads : Entries) → IsStrictlySortedBy nat_cmp (keys_of reads) → IsStrictlySortedBy nat_cmp (keys_of (all_changed c reads rs))
sorted-all c [] reads s = s
sorted-all c (r ∷ rest) reads s = sorted-all c rest (changed c reads r.id) (sorted-changed c reads r.id s)

-- a number that was taken out is gone
pub lookup-out : (es : Entries) (k : ℕ) → IsStrictlySortedBy nat_cmp (keys_of es) → entry_at (remove_entry (is_at (nat_cmp k)) es) k ≡ None
lookup-out [] k s = refl
lookup-out (e ∷ es) k s = at (is_at (nat_cmp k) e.0) refl (lookup-out es k (sorted_tail nat_cmp e.0 (keys_of es) s))
  where
    at : (b : Bool) → is_at (nat_cmp k) e.0 ≡ b → entry_at (remove_entry (is_at (nat_cmp k)) es) k ≡ None → entry_at (cond b es (e ∷ remove_entry (is_at (nat_cmp k)) es)) k ≡ None
    at true h m =
        let same : k ≡ e.0 = grind (arith, nat_tests) in
        subst (λ n. entry_at es n ≡ None) (sym same) (above-none e.0 es (sorted_head nat_cmp e.0 (keys_of es) s))
    at false h m = ap (λ b. cond b (Some e.1) (entry_at (remove_entry (is_at (nat_cmp k)) es) k)) h ∙ m

-- what a change makes of a look-up
abbrev pub change_entry : Change → Option Read → Option Read
change_entry c None = None
change_entry c (Some x) = option_map (λ s. record { request = x.request; stage = s }) (after c x.stage)

-- a changed number
pub changed-same : (c : Change) (reads : Entries) (id : ℕ) → IsStrictlySortedBy nat_cmp (keys_of reads) → entry_at (changed c reads id) id ≡ change_entry c (entry_at reads id)
changed-same c reads id s = at (entry_at reads id) refl
  where
    self : (id == id) ≡ true
    self = grind (arith, nat_tests)

    put : (r : ReadRequest) (t : Option Stage) → entry_at (with_stage reads id r t) id ≡ option_map (λ s. record { request = r; stage = s }) t
    put r None = lookup-out reads id s
    put r (Some t) = lookup-put reads id id (record { request = r; stage = t }) ∙ ap (λ b. cond b (Some (record { request = r; stage = t })) (entry_at reads id)) self

    at : (x : Option Read) → entry_at reads id ≡ x → entry_at (change_found c reads id x) id ≡ change_entry c x
    at None h = h
    at (Some x) h = put x.request (after c x.stage)

-- a changed number, or another
pub changed-at : (c : Change) (reads : Entries) (id q : ℕ) → IsStrictlySortedBy nat_cmp (keys_of reads) → entry_at (changed c reads id) q ≡ cond (id == q) (change_entry c (entry_at reads q)) (entry_at reads q)
changed-at c reads id q s = at (id == q) refl
  where
    at : (b : Bool) → (id == q) ≡ b → entry_at (changed c reads id) q ≡ cond b (change_entry c (entry_at reads q)) (entry_at reads q)
    at true e =
        let same : id ≡ q = grind (arith, nat_tests) in
        subst (λ n. entry_at (changed c reads id) n ≡ change_entry c (entry_at reads n)) same (changed-same c reads id s)
    at false e = changed-other c reads id q e

-- a change that was made is not made again
twice-stage : (c : Change) (r : ReadRequest) (s : Stage) → change_entry c (option_map (λ t. record { request = r; stage = t }) (after c s)) ≡ option_map (λ t. record { request = r; stage = t }) (after c s)
twice-stage Poll r Registered = refl
twice-stage Poll r Polled = refl
twice-stage Poll r (InFlight _ _ _) = refl
twice-stage Poll r Resolved = refl
twice-stage Cancel r Registered = refl
twice-stage Cancel r Polled = refl
twice-stage Cancel r (InFlight _ _ _) = refl
twice-stage Cancel r Resolved = refl
twice-stage (Take _ _) r Registered = refl
twice-stage (Take _ _) r Polled = refl
twice-stage (Take _ _) r (InFlight _ _ _) = refl
twice-stage (Take _ _) r Resolved = refl
twice-stage Resolve r Registered = refl
twice-stage Resolve r Polled = refl
twice-stage Resolve r (InFlight _ _ true) = refl
twice-stage Resolve r (InFlight _ _ false) = refl
twice-stage Resolve r Resolved = refl
twice-stage Settle r Registered = refl
twice-stage Settle r Polled = refl
twice-stage Settle r (InFlight _ _ _) = refl
twice-stage Settle r Resolved = refl

twice : (c : Change) (x : Option Read) → change_entry c (change_entry c x) ≡ change_entry c x
twice c None = refl
twice c (Some x) = twice-stage c x.request x.stage

-- several changed numbers, or another
pub all-at : (c : Change) (rs : List ReadRequest) (reads : Entries) (q : ℕ) → IsStrictlySortedBy nat_cmp (keys_of reads) → entry_at (all_changed c reads rs) q ≡ cond (is_listed rs q) (change_entry c (entry_at reads q)) (entry_at reads q)
all-at c [] reads q s = refl
all-at c (r ∷ rest) reads q s =
    all-at c rest (changed c reads r.id) q (sorted-changed c reads r.id s)
    ∙ ap (λ x. cond (is_listed rest q) (change_entry c x) x) (changed-at c reads r.id q s)
    ∙ at (r.id == q) (is_listed rest q) (entry_at reads q)
  where
    at : (a b : Bool) (x : Option Read) → cond b (change_entry c (cond a (change_entry c x) x)) (cond a (change_entry c x) x) ≡ cond (a || b) (change_entry c x) x
    at true true x = twice c x
    at true false x = refl
    at false true x = refl
    at false false x = refl
