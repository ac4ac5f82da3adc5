-- The reads that entries stand for, after a change.
use Rattle.std.proofs.Common.{◌≡◌, ℕ, ◌+◌, ◌<◌, ◌≤◌, ◌==◌, ◌∷◌, ◌++◌, Bool, true, false, cond, List, [], map, length, Option, Some, None, option_map, unwrap_or, refl, ap, sym, ◌∙◌, subst, arith}
use Rattle.std.specs.Prelude.{is_some, IfSome, ◌^◌}
use Rattle.vx_sched.specs.Span.{end_of}
use Rattle.std.proofs.lemmas.Bool.Decides.{nat_tests}
use Rattle.std.proofs.lemmas.Map.Keys.{sorted_head, sorted_tail}
use Rattle.std.specs.List.{AllByRecursion}
use Rattle.std.specs.List.Sorted.{IsStrictlySortedBy}
use Rattle.std.specs.Map.{keys_of}
use Rattle.std.specs.BTreeMap.{insert_entry, is_at}
use Rattle.std.specs.Ordering.{nat_cmp}
use Rattle.std.specs.declared.cmp.Ordering.TheVariants.{Less}
use Rattle.vx_sched.specs.Merging.{is_listed}
use Rattle.vx_sched.specs.Reads.{Known, ranges_in_flight, flights, read_at, waiting_at, polled_at, state_at, has_first, if_waiting, if_polled, if_state, Rise, change, register_read, poll_read, drop_read, take_read, resolve_read}
use Rattle.vx_sched.specs.Entries.{Entries, entry_at, state_of, if_waits, waits_in, flies_under, group, known, seen, changed}
use Rattle.vx_sched.proofs.EntriesLemmas.{waiting_in, polled_entry, if_polls}
use Rattle.vx_sched.specs.Counting.{same_state, count_in, is_of, count_of}
use Rattle.vx_sched.specs.declared.counts.Counts.{Counts}
use Rattle.vx_sched.specs.declared.counts.Kind.{Kind}
use Rattle.vx_sched.specs.declared.counts.Kind.TheVariants.{IsRegistered, IsPolled, IsFlying, IsResolved, Leads}
use Rattle.vx_sched.specs.Kept.{IsKept}
use Rattle.vx_sched.specs.Places.{AllFit, AreGrouped, size_in}
use Rattle.vx_sched.specs.declared.places.Places.{Places}
use Rattle.vx_sched.proofs.EntriesLemmas.{lookup-put, changed-at, change_entry}
use Rattle.vx_sched.proofs.GroupLemmas.{AreThose, AreKeyed, keyed-all, entry-skip, flight, group-listed, group-same}
use Rattle.vx_sched.proofs.ChangeLemmas.{same-reads, KeepsNumbers, step, change-at, change-rise, added-at, added-rise}
use Rattle.vx_sched.specs.declared.request.ReadRequest.{ReadRequest}
use Rattle.vx_sched.specs.Stored.{Read}
use Rattle.vx_sched.specs.declared.read.ReadState.{ReadState}
use Rattle.vx_sched.specs.declared.read.ReadState.TheVariants as state
use Rattle.vx_sched.specs.declared.read.Stage.{Stage}
use Rattle.vx_sched.specs.declared.read.Stage.TheVariants.{Registered, Polled, InFlight, Resolved}
use Rattle.vx_sched.specs.declared.read.Change.{Change}
use Rattle.vx_sched.specs.declared.read.Change.TheVariants.{Poll, Cancel}

-- ---- look-ups

seen-in : (all es : Entries) (q : ℕ) → AreKeyed es → read_at (map (λ (e : ℕ × Read). known all e.1) es) q ≡ option_map (known all) (entry_at es q)
seen-in all [] q k = refl
seen-in all (e ∷ rest) q k = at (e.0 == q) refl (seen-in all rest q k.1)
  where
    at : (b : Bool) → (e.0 == q) ≡ b → read_at (map (λ (e : ℕ × Read). known all e.1) rest) q ≡ option_map (known all) (entry_at rest q)
        → cond (e.1.request.id == q) (Some (known all e.1)) (read_at (map (λ (e : ℕ × Read). known all e.1) rest) q) ≡ option_map (known all) (cond (is_at (nat_cmp q) e.0) (Some e.1) (entry_at rest q))
    at true h ih =
        let one : is_at (nat_cmp q) e.0 ≡ true = grind (arith, nat_tests) in
        ap (λ n. cond (n == q) (Some (known all e.1)) (read_at (map (λ (e : ℕ × Read). known all e.1) rest) q)) k.0
        ∙ ap (λ b. cond b (Some (known all e.1)) (read_at (map (λ (e : ℕ × Read). known all e.1) rest) q)) h
        ∙ sym (ap (λ b. option_map (known all) (cond b (Some e.1) (entry_at rest q))) one)
    at false h ih =
        let one : is_at (nat_cmp q) e.0 ≡ false = grind (arith, nat_tests) in
        ap (λ n. cond (n == q) (Some (known all e.1)) (read_at (map (λ (e : ℕ × Read). known all e.1) rest) q)) k.0
        ∙ ap (λ b. cond b (Some (known all e.1)) (read_at (map (λ (e : ℕ × Read). known all e.1) rest) q)) h
        ∙ ih ∙ sym (ap (λ b. option_map (known all) (cond b (Some e.1) (entry_at rest q))) one)

pub seen-at : (es : Entries) (q : ℕ) → AreKeyed es → read_at (seen es) q ≡ option_map (known es) (entry_at es q)
seen-at es q k = seen-in es es q k

above-all : (m n : ℕ) (ks : List ℕ) → m < n → AllByRecursion (λ y. nat_cmp m y ≡ Less) ks → AllByRecursion (λ y. m + 1 ≤ y) ks
above-all m n [] h a = tt
above-all m n (k ∷ ks) h a =
    let less : nat_cmp m k ≡ Less = a.0 in
    let up : m + 1 ≤ k = grind (arith, nat_tests) in
    (up, above-all m n ks h a.1)

rise-in : (all es : Entries) (n : ℕ) → IsStrictlySortedBy nat_cmp (keys_of es) → AreKeyed es → AllByRecursion (λ y. n ≤ y) (keys_of es) → Rise n (map (λ (e : ℕ × Read). known all e.1) es)
rise-in all [] n s k a = tt
rise-in all (e ∷ rest) n s k a =
    let past = above-all e.0 (e.0 + 1) (keys_of rest) (omega arith) (sorted_head nat_cmp e.0 (keys_of rest) s) in
    let more = rise-in all rest (e.0 + 1) (sorted_tail nat_cmp e.0 (keys_of rest) s) k.1 past in
    subst (λ m. (n ≤ m) × Rise (m + 1) (map (λ (e : ℕ × Read). known all e.1) rest)) (sym k.0) (a.0, more)

from-zero : (ks : List ℕ) → AllByRecursion (λ y. 0 ≤ y) ks
from-zero [] = tt
from-zero (k ∷ ks) = (omega arith, from-zero ks)

pub seen-rise : (es : Entries) → IsStrictlySortedBy nat_cmp (keys_of es) → AreKeyed es → Rise 0 (seen es)
seen-rise es s k = rise-in es es 0 s k (from-zero (keys_of es))

waits-known : (es : Entries) (r : ReadRequest) (t : Stage) → if_waiting (Some (known es (record { request = r; stage = t }))) ≡ if_waits (Some (record { request = r; stage = t }))
waits-known es r Registered = refl
waits-known es r Polled = refl
waits-known es r (InFlight _ _ _) = refl
waits-known es r Resolved = refl

polls-known : (es : Entries) (r : ReadRequest) (t : Stage) → if_polled (Some (known es (record { request = r; stage = t }))) ≡ if_polls (Some (record { request = r; stage = t }))
polls-known es r Registered = refl
polls-known es r Polled = refl
polls-known es r (InFlight _ _ _) = refl
polls-known es r Resolved = refl

pub waiting-seen : (es : Entries) (q : ℕ) → AreKeyed es → waiting_at (seen es) q ≡ waiting_in es q
waiting-seen es q k = ap if_waiting (seen-at es q k) ∙ at (entry_at es q)
  where
    at : (x : Option Read) → if_waiting (option_map (known es) x) ≡ if_waits x
    at None = refl
    at (Some x) = waits-known es x.request x.stage

pub polled-seen : (es : Entries) (q : ℕ) → AreKeyed es → polled_at (seen es) q ≡ polled_entry es q
polled-seen es q k = ap if_polled (seen-at es q k) ∙ at (entry_at es q)
  where
    at : (x : Option Read) → if_polled (option_map (known es) x) ≡ if_polls x
    at None = refl
    at (Some x) = polls-known es x.request x.stage

pub state-seen : (es : Entries) (q : ℕ) → AreKeyed es → state_at (seen es) q ≡ option_map (λ (x : Read). state_of x.stage) (entry_at es q)
state-seen es q k = ap if_state (seen-at es q k) ∙ at (entry_at es q)
  where
    at : (x : Option Read) → if_state (option_map (known es) x) ≡ option_map (λ (x : Read). state_of x.stage) x
    at None = refl
    at (Some x) = refl

pub none-seen : (es : Entries) (q : ℕ) → AreKeyed es → read_at (seen es) q ≡ None → entry_at es q ≡ None
none-seen es q k h = at (entry_at es q) refl
  where
    at : (x : Option Read) → entry_at es q ≡ x → x ≡ None
    at None e = refl
    at (Some x) e = cc (sym h ∙ seen-at es q k ∙ ap (option_map (known es)) e)

-- each of some reads waits
pub waits-seen : (es : Entries) (rs : List ReadRequest) → AreKeyed es → AllByRecursion (λ r. waiting_at (seen es) r.id ≡ Some r) rs → AreThose (waiting_in es) rs
waits-seen es [] k h = tt
waits-seen es (r ∷ rs) k h = (sym (waiting-seen es r.id k) ∙ h.0, waits-seen es rs k h.1)

pub those-wait : (es : Entries) (rs : List ReadRequest) → AreKeyed es → AllByRecursion (λ r. waiting_in es r.id ≡ Some r) rs → AllByRecursion (λ r. waiting_at (seen es) r.id ≡ Some r) rs
those-wait es [] k h = tt
those-wait es (r ∷ rs) k h = (waiting-seen es r.id k ∙ h.0, those-wait es rs k h.1)

-- a waiting read has its number and fits
pub waiting-fits : (es : Entries) (places : Places) (longest q : ℕ) → IsKept es places longest → IfSome (waiting_in es q) (λ r. (r.id ≡ q) × (end_of r < 2 ^ 64))
waiting-fits es places longest q k = at (entry_at es q) refl
  where
    at : (x : Option Read) → entry_at es q ≡ x → IfSome (if_waits x) (λ r. (r.id ≡ q) × (end_of r < 2 ^ 64))
    at None e = tt
    at (Some x) e = stage (waits_in x.stage)
      where
        stage : (b : Bool) → IfSome (cond b (Some x.request) None) (λ r. (r.id ≡ q) × (end_of r < 2 ^ 64))
        stage true = (k.keyed q x e, k.fits q x e)
        stage false = tt

-- each waiting read fits
pub all-fit : (es : Entries) (places : Places) (longest : ℕ) → IsKept es places longest → AreKeyed es → AllFit (seen es)
all-fit es places longest k keyed id r h =
    fits (waiting_in es id) (sym (waiting-seen es id keyed) ∙ h) (waiting-fits es places longest id k)
  where
    fits : (w : Option ReadRequest) → w ≡ Some r → IfSome w (λ r. (r.id ≡ id) × (end_of r < 2 ^ 64)) → end_of r < 2 ^ 64
    fits None e f = cc
    fits (Some s) e f = (subst (λ (z : Option ReadRequest). IfSome z (λ r. (r.id ≡ id) × (end_of r < 2 ^ 64))) e f).1

-- ---- entries and the reads that they stand for, after a change

-- what makes entries stand for reads
pub record Stands (es : Entries) : Type 0 where
  pub sorted : IsStrictlySortedBy nat_cmp (keys_of es)
  pub keyed : AreKeyed es
  pub numbers : (q : ℕ) (x : Read) → entry_at es q ≡ Some x → x.request.id ≡ q

-- entries of a table stand for reads
pub stands-kept : (es : Entries) (places : Places) (longest : ℕ) → IsKept es places longest → Stands es
stands-kept es places longest k = record { sorted = k.sorted; keyed = keyed-all es k.sorted k.keyed; numbers = k.keyed }

pub known-along : (es es' : Entries) (x : Read) → group x.request.id es' ≡ group x.request.id es → known es' x ≡ known es x
known-along es es' x h = ap (λ (g : List ReadRequest). record { request = x.request; state = (known es x).state; dropped = (known es x).dropped; leads = cond (flies_under x.request.id x.stage) g [] }) h

pub view : (es es' : Entries) (chosen : ℕ → Bool) (made : Known → Option Known) → Stands es → Stands es' → KeepsNumbers made
    → ((q : ℕ) → option_map (known es') (entry_at es' q) ≡ cond (chosen q) (step made (option_map (known es) (entry_at es q))) (option_map (known es) (entry_at es q)))
    → seen es' ≡ change chosen made (seen es)
view es es' chosen made k k' keeps looks =
    let rise = seen-rise es k.sorted k.keyed in
    same-reads 0 0 (seen es') (change chosen made (seen es)) (seen-rise es' k'.sorted k'.keyed) (change-rise chosen made 0 (seen es) keeps rise)
    (λ q. seen-at es' q k'.keyed ∙ looks q ∙ sym (change-at chosen made 0 (seen es) q keeps rise ∙ ap (λ x. cond (chosen q) (step made x) x) (seen-at es q k.keyed)))

flip : (a b : ℕ) → (a == b) ≡ (b == a)
flip a b = grind (arith, nat_tests)

-- a change that leaves what is in flight there
pub record IsSimple (c : Change) (made : Known → Option Known) : Type 0 where
  pub numbers : KeepsNumbers made
  pub flights : (n : ℕ) (r : ReadRequest) (t : Stage) → flight n (change_entry c (Some (record { request = r; stage = t }))) ≡ flight n (Some (record { request = r; stage = t }))
  pub counts : (n : ℕ) (r : ReadRequest) (t : Stage) → size_in n (change_entry c (Some (record { request = r; stage = t }))) ≡ size_in n (Some (record { request = r; stage = t }))
  pub stands : (es : Entries) (r : ReadRequest) (t : Stage) → option_map (known es) (change_entry c (Some (record { request = r; stage = t }))) ≡ made (known es (record { request = r; stage = t }))

module _ (c : Change) (made : Known → Option Known) (i : IsSimple c made) (es : Entries) (id : ℕ) (k : Stands es) (k' : Stands (changed c es id)) where
  same-flight : (n q : ℕ) → flight n (entry_at (changed c es id) q) ≡ flight n (entry_at es q)
  same-flight n q = ap (flight n) (changed-at c es id q k.sorted) ∙ at (id == q) (entry_at es q)
    where
      at : (b : Bool) (x : Option Read) → flight n (cond b (change_entry c x) x) ≡ flight n x
      at true None = refl
      at true (Some x) = i.flights n x.request x.stage
      at false x = refl

  same-size : (n q : ℕ) → size_in n (entry_at (changed c es id) q) ≡ size_in n (entry_at es q)
  same-size n q = ap (size_in n) (changed-at c es id q k.sorted) ∙ at (id == q) (entry_at es q)
    where
      at : (b : Bool) (x : Option Read) → size_in n (cond b (change_entry c x) x) ≡ size_in n x
      at true None = refl
      at true (Some x) = i.counts n x.request x.stage
      at false x = refl

  same-group : (n : ℕ) → group n (changed c es id) ≡ group n es
  same-group n = group-same n es (changed c es id) k.sorted k.keyed k'.sorted k'.keyed (same-flight n)

  pub simple-grouped : AreGrouped es → AreGrouped (changed c es id)
  simple-grouped g = record {
    named = λ n h. rw (same-group n) (g.named n (subst (λ (z : List ReadRequest). has_first z ≡ true) (same-group n) h));
    sizes = λ q n size h. ap length (same-group n) ∙ g.sizes q n size (sym (same-size n q) ∙ h);
  }

  pub simple-view : seen (changed c es id) ≡ change (λ n. n == id) made (seen es)
  simple-view = view es (changed c es id) (λ n. n == id) made k k' i.numbers (λ q. looks q ∙ ap (λ b. cond b (step made (option_map (known es) (entry_at es q))) (option_map (known es) (entry_at es q))) (flip id q))
    where
      along : (x : Option Read) → option_map (known (changed c es id)) x ≡ option_map (known es) x
      along None = refl
      along (Some x) = ap Some (known-along es (changed c es id) x (same-group x.request.id))

      at : (b : Bool) (x : Option Read) → option_map (known es) (cond b (change_entry c x) x) ≡ cond b (step made (option_map (known es) x)) (option_map (known es) x)
      at true None = refl
      at true (Some x) = i.stands es x.request x.stage
      at false x = refl

      looks : (q : ℕ) → option_map (known (changed c es id)) (entry_at (changed c es id) q) ≡ cond (id == q) (step made (option_map (known es) (entry_at es q))) (option_map (known es) (entry_at es q))
      looks q = along (entry_at (changed c es id) q) ∙ ap (option_map (known es)) (changed-at c es id q k.sorted) ∙ at (id == q) (entry_at es q)

pub poll-numbers : KeepsNumbers poll_read
poll-numbers x y h = ap (λ (o : Option Known). (unwrap_or o x).request.id) (sym h)

pub drop-numbers : KeepsNumbers drop_read
drop-numbers x y h = at x.state h
  where
    at : (s : ReadState) → drop_read (record x { state = s }) ≡ Some y → y.request.id ≡ x.request.id
    at state.Registered h = cc
    at state.Polled h = cc
    at state.InFlight h = ap (λ (o : Option Known). (unwrap_or o x).request.id) (sym h)
    at state.Resolved h = cc

pub take-numbers : (rs : List ReadRequest) → KeepsNumbers (take_read rs)
take-numbers rs x y h = at x.state h
  where
    at : (s : ReadState) → take_read rs (record x { state = s }) ≡ Some y → y.request.id ≡ x.request.id
    at state.Registered h = ap (λ (o : Option Known). (unwrap_or o x).request.id) (sym h)
    at state.Polled h = ap (λ (o : Option Known). (unwrap_or o x).request.id) (sym h)
    at state.InFlight h = ap (λ (o : Option Known). (unwrap_or o x).request.id) (sym h)
    at state.Resolved h = ap (λ (o : Option Known). (unwrap_or o x).request.id) (sym h)

pub resolve-numbers : KeepsNumbers resolve_read
resolve-numbers x y h = at x.state x.dropped h
  where
    at : (s : ReadState) (d : Bool) → resolve_read (record x { state = s; dropped = d }) ≡ Some y → y.request.id ≡ x.request.id
    at state.Registered d h = ap (λ (o : Option Known). (unwrap_or o x).request.id) (sym h)
    at state.Polled d h = ap (λ (o : Option Known). (unwrap_or o x).request.id) (sym h)
    at state.InFlight true h = cc
    at state.InFlight false h = ap (λ (o : Option Known). (unwrap_or o x).request.id) (sym h)
    at state.Resolved d h = ap (λ (o : Option Known). (unwrap_or o x).request.id) (sym h)

pub poll-simple : IsSimple Poll poll_read
poll-simple = record { numbers = poll-numbers; flights = flights; counts = counts; stands = stands }
  where
    flights : (n : ℕ) (r : ReadRequest) (t : Stage) → flight n (change_entry Poll (Some (record { request = r; stage = t }))) ≡ flight n (Some (record { request = r; stage = t }))
    flights n r Registered = refl
    flights n r Polled = refl
    flights n r (InFlight _ _ _) = refl
    flights n r Resolved = refl

    counts : (n : ℕ) (r : ReadRequest) (t : Stage) → size_in n (change_entry Poll (Some (record { request = r; stage = t }))) ≡ size_in n (Some (record { request = r; stage = t }))
    counts n r Registered = refl
    counts n r Polled = refl
    counts n r (InFlight _ _ _) = refl
    counts n r Resolved = refl

    stands : (es : Entries) (r : ReadRequest) (t : Stage) → option_map (known es) (change_entry Poll (Some (record { request = r; stage = t }))) ≡ poll_read (known es (record { request = r; stage = t }))
    stands es r Registered = refl
    stands es r Polled = refl
    stands es r (InFlight _ _ _) = refl
    stands es r Resolved = refl

pub drop-simple : IsSimple Cancel drop_read
drop-simple = record { numbers = drop-numbers; flights = flights; counts = counts; stands = stands }
  where
    flights : (n : ℕ) (r : ReadRequest) (t : Stage) → flight n (change_entry Cancel (Some (record { request = r; stage = t }))) ≡ flight n (Some (record { request = r; stage = t }))
    flights n r Registered = refl
    flights n r Polled = refl
    flights n r (InFlight _ _ _) = refl
    flights n r Resolved = refl

    counts : (n : ℕ) (r : ReadRequest) (t : Stage) → size_in n (change_entry Cancel (Some (record { request = r; stage = t }))) ≡ size_in n (Some (record { request = r; stage = t }))
    counts n r Registered = refl
    counts n r Polled = refl
    counts n r (InFlight _ _ _) = refl
    counts n r Resolved = refl

    stands : (es : Entries) (r : ReadRequest) (t : Stage) → option_map (known es) (change_entry Cancel (Some (record { request = r; stage = t }))) ≡ drop_read (known es (record { request = r; stage = t }))
    stands es r Registered = refl
    stands es r Polled = refl
    stands es r (InFlight _ _ _) = refl
    stands es r Resolved = refl

-- ---- a new read

module _ (es es' : Entries) (r : ReadRequest) (k : Stands es) (k' : Stands es') (above : (q : ℕ) → r.id ≤ q → read_at (seen es) q ≡ None)
    (put : es' ≡ insert_entry nat_cmp es r.id (record { request = r; stage = Registered })) where
  new-at : (q : ℕ) → entry_at es' q ≡ cond (r.id == q) (Some (record { request = r; stage = Registered })) (entry_at es q)
  new-at q = ap (λ z. entry_at z q) put ∙ lookup-put es r.id q (record { request = r; stage = Registered })

  gone-here : (q : ℕ) → (r.id == q) ≡ true → entry_at es q ≡ None
  gone-here q e =
      let past : r.id ≤ q = grind (arith, nat_tests) in
      none-seen es q k.keyed (above q past)

  new-flight : (n q : ℕ) → flight n (entry_at es' q) ≡ flight n (entry_at es q)
  new-flight n q = ap (flight n) (new-at q) ∙ at (r.id == q) refl
    where
      at : (b : Bool) → (r.id == q) ≡ b → flight n (cond b (Some (record { request = r; stage = Registered })) (entry_at es q)) ≡ flight n (entry_at es q)
      at true e = sym (ap (flight n) (gone-here q e))
      at false e = refl

  new-size : (n q : ℕ) → size_in n (entry_at es' q) ≡ size_in n (entry_at es q)
  new-size n q = ap (size_in n) (new-at q) ∙ at (r.id == q) refl
    where
      at : (b : Bool) → (r.id == q) ≡ b → size_in n (cond b (Some (record { request = r; stage = Registered })) (entry_at es q)) ≡ size_in n (entry_at es q)
      at true e = sym (ap (size_in n) (gone-here q e))
      at false e = refl

  new-group : (n : ℕ) → group n es' ≡ group n es
  new-group n = group-same n es es' k.sorted k.keyed k'.sorted k'.keyed (new-flight n)

  pub new-grouped : AreGrouped es → AreGrouped es'
  new-grouped g = record {
    named = λ n h. rw (new-group n) (g.named n (subst (λ (z : List ReadRequest). has_first z ≡ true) (new-group n) h));
    sizes = λ q n size h. ap length (new-group n) ∙ g.sizes q n size (sym (new-size n q) ∙ h);
  }

  pub new-view : seen es' ≡ seen es ++ register_read r ∷ []
  new-view =
      same-reads 0 0 (seen es') (seen es ++ register_read r ∷ []) (seen-rise es' k'.sorted k'.keyed)
      (added-rise 0 (seen es) r (omega arith) (seen-rise es k.sorted k.keyed) above)
      (λ q. seen-at es' q k'.keyed ∙ ap (option_map (known es')) (new-at q) ∙ at q (r.id == q) ∙ sym (added-at (seen es) r q (above r.id (omega arith)) ∙ ap (λ x. cond (r.id == q) (Some (register_read r)) x) (seen-at es q k.keyed)))
    where
      along : (x : Option Read) → option_map (known es') x ≡ option_map (known es) x
      along None = refl
      along (Some x) = ap Some (known-along es es' x (new-group x.request.id))

      at : (q : ℕ) (b : Bool) → option_map (known es') (cond b (Some (record { request = r; stage = Registered })) (entry_at es q)) ≡ cond b (Some (register_read r)) (option_map (known es) (entry_at es q))
      at q true = refl
      at q false = along (entry_at es q)

-- ---- counts

abbrev pub the_counts : ℕ → ℕ → ℕ → ℕ → ℕ → Counts
the_counts a b c d e = record { registered = a; polled = b; in_flight = c; resolved = d; ranges = e }

count-in : (kind : Kind) (which : ReadState) (all es : Entries) → ((n : ℕ) (t : Stage) → same_state which (state_of t) ≡ is_of kind n t)
    → count_in which (map (λ (e : ℕ × Read). known all e.1) es) ≡ count_of kind es
count-in kind which all [] h = refl
count-in kind which all (e ∷ rest) h =
    ap (λ b. cond b 1 0 + count_in which (map (λ (e : ℕ × Read). known all e.1) rest)) (h e.1.request.id e.1.stage)
    ∙ ap (λ n. cond (is_of kind e.1.request.id e.1.stage) 1 0 + n) (count-in kind which all rest h)

pub count-seen : (kind : Kind) (which : ReadState) (es : Entries) → ((n : ℕ) (t : Stage) → same_state which (state_of t) ≡ is_of kind n t) → count_in which (seen es) ≡ count_of kind es
count-seen kind which es h = count-in kind which es es h

pub counts-are : (a b c d e a' b' c' d' e' : ℕ) → a ≡ a' → b ≡ b' → c ≡ c' → d ≡ d' → e ≡ e'
    → the_counts a b c d e ≡ the_counts a' b' c' d' e'
counts-are a b c d e a' b' c' d' e' ha hb hc hd he =
    ap (λ n. the_counts n b c d e) ha ∙ ap (λ n. the_counts a' n c d e) hb ∙ ap (λ n. the_counts a' b' n d e) hc ∙ ap (λ n. the_counts a' b' c' n e) hd ∙ ap (λ n. the_counts a' b' c' d' n) he

pub counts-registered : (n : ℕ) (t : Stage) → same_state state.Registered (state_of t) ≡ is_of IsRegistered n t
counts-registered n Registered = refl
counts-registered n Polled = refl
counts-registered n (InFlight _ _ _) = refl
counts-registered n Resolved = refl

pub counts-polled : (n : ℕ) (t : Stage) → same_state state.Polled (state_of t) ≡ is_of IsPolled n t
counts-polled n Registered = refl
counts-polled n Polled = refl
counts-polled n (InFlight _ _ _) = refl
counts-polled n Resolved = refl

pub counts-flying : (n : ℕ) (t : Stage) → same_state state.InFlight (state_of t) ≡ is_of IsFlying n t
counts-flying n Registered = refl
counts-flying n Polled = refl
counts-flying n (InFlight _ _ _) = refl
counts-flying n Resolved = refl

pub counts-resolved : (n : ℕ) (t : Stage) → same_state state.Resolved (state_of t) ≡ is_of IsResolved n t
counts-resolved n Registered = refl
counts-resolved n Polled = refl
counts-resolved n (InFlight _ _ _) = refl
counts-resolved n Resolved = refl

found-more : (e : ℕ × Read) (rest some : Entries) → AllByRecursion (λ y. nat_cmp e.0 y ≡ Less) (keys_of rest) → AllByRecursion (λ (d : ℕ × Read). entry_at rest d.0 ≡ Some d.1) some
    → AllByRecursion (λ (d : ℕ × Read). entry_at (e ∷ rest) d.0 ≡ Some d.1) some
found-more e rest [] h a = tt
found-more e rest (d ∷ some) h a = (entry-skip e rest d.0 d.1 h a.0, found-more e rest some h a.1)

all-found : (es : Entries) → IsStrictlySortedBy nat_cmp (keys_of es) → AllByRecursion (λ (d : ℕ × Read). entry_at es d.0 ≡ Some d.1) es
all-found [] s = tt
all-found (e ∷ rest) s =
    let self : is_at (nat_cmp e.0) e.0 ≡ true = grind (arith, nat_tests) in (
      ap (λ b. cond b (Some e.1) (entry_at rest e.0)) self,
      found-more e rest rest (sorted_head nat_cmp e.0 (keys_of rest) s) (all-found rest (sorted_tail nat_cmp e.0 (keys_of rest) s)),
    )

-- an entry that leads has a group
lead-first : (all : Entries) (d : ℕ × Read) → Stands all → entry_at all d.0 ≡ Some d.1 → flies_under d.1.request.id d.1.stage ≡ true → has_first (group d.1.request.id all) ≡ true
lead-first all d k f l =
    first (group d.1.request.id all)
    (group-listed d.1.request.id all d.1.request.id k.sorted k.keyed
    ∙ ap (λ o. is_some (flight d.1.request.id o)) (subst (λ n. entry_at all n ≡ Some d.1) (sym (k.numbers d.0 d.1 f)) f)
    ∙ ap (λ b. is_some (cond b (Some d.1.request) None)) l)
  where
    first : (rs : List ReadRequest) → is_listed rs d.1.request.id ≡ true → has_first rs ≡ true
    first [] h = cc
    first (r ∷ rs) h = refl

ranges-in : (all es : Entries) → Stands all → AllByRecursion (λ (d : ℕ × Read). entry_at all d.0 ≡ Some d.1) es
    → length (flights (map (λ (e : ℕ × Read). known all e.1) es)) ≡ count_of Leads es
ranges-in all [] k a = refl
ranges-in all (e ∷ rest) k a = at (flies_under e.1.request.id e.1.stage) refl (ranges-in all rest k a.1)
  where
    more : (b : Bool) → b ≡ true → length (flights (map (λ (e : ℕ × Read). known all e.1) rest)) ≡ count_of Leads rest
        → length (cond b (group e.1.request.id all ∷ flights (map (λ (e : ℕ × Read). known all e.1) rest)) (flights (map (λ (e : ℕ × Read). known all e.1) rest))) ≡ 1 + count_of Leads rest
    more true h ih = omega (arith, ih)
    more false h ih = cc

    at : (b : Bool) → flies_under e.1.request.id e.1.stage ≡ b → length (flights (map (λ (e : ℕ × Read). known all e.1) rest)) ≡ count_of Leads rest
        → length (cond (has_first (cond b (group e.1.request.id all) [])) (cond b (group e.1.request.id all) [] ∷ flights (map (λ (e : ℕ × Read). known all e.1) rest)) (flights (map (λ (e : ℕ × Read). known all e.1) rest)))
        ≡ cond b 1 0 + count_of Leads rest
    at true f ih = more (has_first (group e.1.request.id all)) (lead-first all e k a.0 f) ih
    at false f ih = omega (arith, ih)

pub ranges-seen : (es : Entries) → Stands es → ranges_in_flight (seen es) ≡ count_of Leads es
ranges-seen es k = ranges-in es es k (all-found es k.sorted)
