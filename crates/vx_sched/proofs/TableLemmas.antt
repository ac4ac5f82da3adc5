-- A table of reads and places, after a change.
use Rattle.std.proofs.Common.{◌≡◌, ℕ, ◌+◌, length, drop, get_or, drop-cons, add-one, ◌≤◌, ◌||◌, List, [], ◌∷◌, ◌++◌, max, ◌-◌, ◌<◌, ◌^◌, ◌==◌, ◌&&◌, Bool, true, false, cond, Option, Some, None, option_map, option_to_list, if◌then◌else◌, IfSome, IfNone, refl, ap, sym, ◌∙◌, arith, subst, unwrap_or, rules}
use Rattle.std.proofs.lemmas.Bool.Decides.{nat_tests}
use Rattle.std.specs.List.{list_any, AllByRecursion}
use Rattle.vx_sched.specs.Merging.{is_listed}
use Rattle.std.specs.BTreeMap.{insert_entry, is_at}
use Rattle.std.specs.Ordering.{nat_cmp}
use Rattle.vx_sched.specs.Span.{end_of}
use Rattle.std.specs.List.Sorted.{IsStrictlySortedBy, IsNonDecreasingBy}
use Rattle.std.proofs.lemmas.List.Sorted.{IsNonDecreasingBy-short}
use Rattle.std.specs.Map.{keys_of}
use Rattle.std.proofs.lemmas.Map.Keys.{sorted_from_strictly_increasing}
use Rattle.vx_sched.specs.Entries.{Entries, entry_at, waiting_among, if_waits, waits_in, after, change_found, changed}
use Rattle.vx_sched.proofs.EntriesLemmas.{waiting_in, if_polls, polled_entry, change_entry, changed-at, sorted-changed, lookup-put}
use Rattle.vx_sched.specs.Reads.{Known, Reads, read_at, waiting_at, polled_at, if_waiting, if_polled, is_waiting, is_polled}
use Rattle.vx_sched.specs.Told.{polls_in}
use Rattle.vx_sched.specs.declared.read.ReadState.{ReadState}
use Rattle.vx_sched.specs.declared.read.ReadState.TheVariants as state
use Rattle.vx_sched.specs.Kept.{Has, HaveAll, Names, IsKept, IsTable}
use Rattle.vx_sched.specs.Places.{place_cmp, read_offset, waits_at, stays_waiting, AreAsked, AreUpTo, AreApart}
use Rattle.vx_sched.specs.declared.places.Places.{Places}
use Rattle.vx_sched.specs.declared.request.ReadRequest.{ReadRequest}
use Rattle.vx_sched.specs.Stored.{Read}
use Rattle.vx_sched.specs.declared.read.Stage.{Stage}
use Rattle.vx_sched.specs.declared.read.Stage.TheVariants.{Registered, Polled, InFlight, Resolved}
use Rattle.vx_sched.specs.declared.read.Change.{Change}
use Rattle.vx_sched.specs.declared.read.Change.TheVariants.{Poll, Cancel, Take, Resolve, Settle}

-- numbers by their order
pub at-eq : (a b : ℕ) → is_at (nat_cmp a) b ≡ (a == b)
at-eq a b = grind (arith, nat_tests)

-- places by their order
pub place-eq : (a b c d : ℕ) → is_at (place_cmp (a, b)) (c, d) ≡ ((a == c) && (b == d))
place-eq a b c d = grind (arith, nat_tests)

-- no change lets a read wait that did not
pub after-waits : (change : Change) (stage : Stage) → waits_in stage ≡ false → stays_waiting (after change stage) ≡ false
after-waits Poll Registered h = cc
after-waits Poll Polled h = cc
after-waits Poll (InFlight _ _ _) h = refl
after-waits Poll Resolved h = refl
after-waits Cancel Registered h = refl
after-waits Cancel Polled h = refl
after-waits Cancel (InFlight _ _ _) h = refl
after-waits Cancel Resolved h = refl
after-waits (Take _ _) Registered h = refl
after-waits (Take _ _) Polled h = refl
after-waits (Take _ _) (InFlight _ _ _) h = refl
after-waits (Take _ _) Resolved h = refl
after-waits Resolve Registered h = cc
after-waits Resolve Polled h = cc
after-waits Resolve (InFlight _ _ true) h = refl
after-waits Resolve (InFlight _ _ false) h = refl
after-waits Resolve Resolved h = refl
after-waits Settle Registered h = cc
after-waits Settle Polled h = cc
after-waits Settle (InFlight _ _ _) h = refl
after-waits Settle Resolved h = refl

-- a read that waits after a change did before
waited : (w st e : Bool) → (w ≡ false → st ≡ false) → (st && e) ≡ true → (w && e) ≡ true
waited true true e h k = k
waited true false e h k = cc
waited false true e h k = absurd (cc (h refl))
waited false false e h k = k

waits_at-put : (o : ℕ) (r : ReadRequest) (stage : Option Stage) → waits_at o (option_map (λ s. record { request = r; stage = s }) stage) ≡ (stays_waiting stage && (r.offset == o))
waits_at-put o r None = refl
waits_at-put o r (Some s) = refl

-- a read that was put is the same but for its stage
put-request : (r : ReadRequest) (stage : Option Stage) (y : Read) → option_map (λ s. record { request = r; stage = s }) stage ≡ Some y → y.request ≡ r
put-request r None y h = cc
put-request r (Some s) y h = ap (λ (o : Option Read). unwrap_or (option_map (λ z. z.request) o) r) (sym h)

-- what holds of each request of a table holds after a change
put-keeps : (P : ℕ → ReadRequest → Type 0) (q : ℕ) (r : ReadRequest) (stage : Option Stage) (old : Option Read) (y : Read) (same : Bool)
    → (same ≡ true → P q r) → ((z : Read) → old ≡ Some z → P q z.request)
    → cond same (option_map (λ s. record { request = r; stage = s }) stage) old ≡ Some y → P q y.request
put-keeps P q r stage old y true here there h = subst (P q) (sym (put-request r stage y h)) (here refl)
put-keeps P q r stage old y false here there h = there y h

-- a read that waits after a change waited before, and asks the same
still-waits : (x : Read) (stage : Option Stage) (s : ReadRequest) → (waits_in x.stage ≡ false → stays_waiting stage ≡ false)
    → if_waits (option_map (λ t. record { request = x.request; stage = t }) stage) ≡ Some s → if_waits (Some x) ≡ Some s
still-waits x None s w h = cc
still-waits x (Some t) s w h = at (waits_in x.stage) (waits_in t) w h
  where
    at : (a b : Bool) → (a ≡ false → b ≡ false) → cond b (Some x.request) None ≡ Some s → cond a (Some x.request) None ≡ Some s
    at true true w h = h
    at true false w h = cc
    at false true w h = absurd (cc (w refl))
    at false false w h = cc

-- the reads at places in order are as before where a change leaves them
module _ (places places' : Places) (all : HaveAll places places') where
  pub same-rise : IsNonDecreasingBy read_offset places.sorted.items → IsNonDecreasingBy read_offset places'.sorted.items
  same-rise h = subst (IsNonDecreasingBy read_offset) (sym all.sorted) h

  pub same-asked : (reads : Entries) → AreAsked reads places.sorted.items → AreAsked reads places'.sorted.items
  same-asked reads h = subst (AreAsked reads) (sym all.sorted) h

  pub same-newest : AreUpTo places.newest places.sorted.items → AreUpTo places'.newest places'.sorted.items
  same-newest h = subst (λ n. AreUpTo n places'.sorted.items) (sym all.newest) (subst (AreUpTo places.newest) (sym all.sorted) h)

module _ (reads reads' : Entries) (places places' : Places) (longest : ℕ) (x : Read) (stage : Option Stage) (t : IsKept reads places longest) (sorted : IsStrictlySortedBy nat_cmp (keys_of reads'))
    (found : entry_at reads x.request.id ≡ Some x) (waits : waits_in x.stage ≡ false → stays_waiting stage ≡ false)
    (lookups : (q : ℕ) → entry_at reads' q ≡ cond (is_at (nat_cmp x.request.id) q) (option_map (λ s. record { request = x.request; stage = s }) stage) (entry_at reads q))
    (all : HaveAll places places') where
  -- the look-up of a number, by a test of numbers
  found-at : (q : ℕ) → entry_at reads' q ≡ cond (x.request.id == q) (option_map (λ s. record { request = x.request; stage = s }) stage) (entry_at reads q)
  found-at q = lookups q ∙ ap (λ b. cond b (option_map (λ s. record { request = x.request; stage = s }) stage) (entry_at reads q)) (at-eq x.request.id q)

  waited-at : (o q : ℕ) (same : Bool) → (x.request.id == q) ≡ same → waits_at o (entry_at reads' q) ≡ true → waits_at o (entry_at reads q) ≡ true
  waited-at o q true e h =
      let q-is : x.request.id ≡ q = grind (arith, nat_tests) in
      let here : entry_at reads q ≡ Some x = subst (λ n. entry_at reads n ≡ Some x) q-is found in
      let now : waits_at o (entry_at reads' q) ≡ (stays_waiting stage && (x.request.offset == o)) =
      ap (waits_at o) (found-at q ∙ ap (λ b. cond b (option_map (λ s. record { request = x.request; stage = s }) stage) (entry_at reads q)) e) ∙ waits_at-put o x.request stage in
      ap (waits_at o) here ∙ waited (waits_in x.stage) (stays_waiting stage) (x.request.offset == o) waits (sym now ∙ h)
  waited-at o q false e h =
      sym (ap (waits_at o) (found-at q ∙ ap (λ b. cond b (option_map (λ s. record { request = x.request; stage = s }) stage) (entry_at reads q)) e)) ∙ h

  asked-at : (q : ℕ) (s : ReadRequest) (same : Bool) → (x.request.id == q) ≡ same → waiting_in reads' q ≡ Some s → waiting_in reads q ≡ Some s
  asked-at q s true e h =
      let q-is : x.request.id ≡ q = grind (arith, nat_tests) in
      let here : entry_at reads q ≡ Some x = subst (λ n. entry_at reads n ≡ Some x) q-is found in
      let now : entry_at reads' q ≡ option_map (λ s. record { request = x.request; stage = s }) stage =
      found-at q ∙ ap (λ b. cond b (option_map (λ s. record { request = x.request; stage = s }) stage) (entry_at reads q)) e in
      ap if_waits here ∙ still-waits x stage s waits (sym (ap if_waits now) ∙ h)
  asked-at q s false e h =
      sym (ap if_waits (found-at q ∙ ap (λ b. cond b (option_map (λ s. record { request = x.request; stage = s }) stage) (entry_at reads q)) e)) ∙ h

  -- a table stays one where a read in it changes its stage or goes
  pub changed-table : IsKept reads' places' longest
  changed-table = record {
    sorted = sorted;
    placed = λ o q h. all.has (o, q) (t.placed o q (waited-at o q (x.request.id == q) refl h));
    rise = same-rise places places' all t.rise;
    asked = same-asked places places' all reads' (λ k d l s h. t.asked k d l s (asked-at _ s _ refl h));
    newest = same-newest places places' all t.newest;
    keyed = λ q y h. put-keeps (λ n r. r.id ≡ n) q x.request stage (entry_at reads q) y (x.request.id == q) (λ e. grind (arith, nat_tests)) (t.keyed q) (sym (found-at q) ∙ h);
    small = λ q y h. put-keeps (λ n r. n < 2 ^ 64) q x.request stage (entry_at reads q) y (x.request.id == q) (λ e. let s = t.small x.request.id x found in grind (arith, nat_tests)) (t.small q) (sym (found-at q) ∙ h);
    long = λ q y h. put-keeps (λ n r. r.length ≤ longest) q x.request stage (entry_at reads q) y (x.request.id == q) (λ _. t.long x.request.id x found) (t.long q) (sym (found-at q) ∙ h);
    fits = λ q y h. put-keeps (λ n r. end_of r < 2 ^ 64) q x.request stage (entry_at reads q) y (x.request.id == q) (λ _. t.fits x.request.id x found) (t.fits q) (sym (found-at q) ∙ h);
  }

-- a table whose entries are the same, and that has all places
pub same-table : (reads reads' : Entries) (places places' : Places) (longest : ℕ) → IsKept reads places longest → reads' ≡ reads
    → HaveAll places places' → IsKept reads' places' longest
same-table reads reads' places places' longest t e all = rw e (record {
  sorted = t.sorted;
  placed = λ o q h. all.has (o, q) (t.placed o q h);
  rise = same-rise places places' all t.rise;
  asked = same-asked places places' all reads t.asked;
  newest = same-newest places places' all t.newest;
  keyed = t.keyed;
  small = t.small;
  long = t.long;
  fits = t.fits;
})

module _ (reads reads' : Entries) (places : Places) (longest : ℕ) (r : ReadRequest) (t : IsKept reads places longest) (sorted : IsStrictlySortedBy nat_cmp (keys_of reads'))
    (fresh : entry_at reads r.id ≡ None) (number : r.id < 2 ^ 64) (ends : end_of r < 2 ^ 64)
    (lookups : (q : ℕ) → entry_at reads' q ≡ cond (is_at (nat_cmp r.id) q) (Some (record { request = r; stage = Registered })) (entry_at reads q))
    (place : Has places (r.offset, r.id)) (apart : AreApart r.id places.sorted.items) where
  added-at : (q : ℕ) → entry_at reads' q ≡ cond (r.id == q) (Some (record { request = r; stage = Registered })) (entry_at reads q)
  added-at q = lookups q ∙ ap (λ b. cond b (Some (record { request = r; stage = Registered })) (entry_at reads q)) (at-eq r.id q)

  added-placed : (o q : ℕ) (same : Bool) → (r.id == q) ≡ same → waits_at o (entry_at reads' q) ≡ true → Has places (o, q)
  added-placed o q true e h =
      let q-is : r.id ≡ q = grind (arith, nat_tests) in
      let now : (r.offset == o) ≡ true = sym (ap (waits_at o) (added-at q ∙ ap (λ b. cond b (Some (record { request = r; stage = Registered })) (entry_at reads q)) e)) ∙ h in
      let o-is : r.offset ≡ o = grind (arith, nat_tests) in
      subst (λ n. Has places (o, n)) q-is (subst (λ m. Has places (m, r.id)) o-is place)
  added-placed o q false e h =
      t.placed o q (sym (ap (waits_at o) (added-at q ∙ ap (λ b. cond b (Some (record { request = r; stage = Registered })) (entry_at reads q)) e)) ∙ h)

  added-asked : (q : ℕ) (s : ReadRequest) → (q == r.id) ≡ false → waiting_in reads' q ≡ Some s → waiting_in reads q ≡ Some s
  added-asked q s e h =
      let other : (r.id == q) ≡ false = grind (arith, nat_tests) in
      sym (ap if_waits (added-at q ∙ ap (λ b. cond b (Some (record { request = r; stage = Registered })) (entry_at reads q)) other)) ∙ h

  le-max : {m : ℕ} → m ≤ longest → m ≤ max longest r.length
  le-max h = omega arith

  -- a table with a new read is a table
  pub added-table : IsKept reads' places (max longest r.length)
  added-table = record {
    sorted = sorted;
    placed = λ o q h. added-placed o q (r.id == q) refl h;
    rise = t.rise;
    asked = λ k d l s h. t.asked k d l s (added-asked _ s (apart k d l) h);
    newest = t.newest;
    keyed = λ q y h. put-keeps (λ n s. s.id ≡ n) q r (Some Registered) (entry_at reads q) y (r.id == q) (λ e. grind (arith, nat_tests)) (t.keyed q) (sym (added-at q) ∙ h);
    small = λ q y h. put-keeps (λ n s. n < 2 ^ 64) q r (Some Registered) (entry_at reads q) y (r.id == q) (λ e. grind (arith, nat_tests)) (t.small q) (sym (added-at q) ∙ h);
    long = λ q y h. put-keeps (λ n s. s.length ≤ max longest r.length) q r (Some Registered) (entry_at reads q) y (r.id == q) (λ _. omega arith) (λ z k. le-max (t.long q z k)) (sym (added-at q) ∙ h);
    fits = λ q y h. put-keeps (λ n s. end_of s < 2 ^ 64) q r (Some Registered) (entry_at reads q) y (r.id == q) (λ _. ends) (t.fits q) (sym (added-at q) ∙ h);
  }

-- a waiting read has its place
pub waiting-placed : (reads : Entries) (places : Places) (longest : ℕ) → IsKept reads places longest → (id : ℕ) (r : ReadRequest) → waiting_in reads id ≡ Some r → Has places (r.offset, id)
waiting-placed reads places longest t id r h = t.placed r.offset id (at (entry_at reads id) h)
  where
    at : (x : Option Read) → if_waits x ≡ Some r → waits_at r.offset x ≡ true
    at None h = cc
    at (Some x) h = stage (waits_in x.stage) h
      where
        stage : (b : Bool) → cond b (Some x.request) None ≡ Some r → (b && (x.request.offset == r.offset)) ≡ true
        stage true h =
            let e : x.request.offset ≡ r.offset = ap (λ (o : Option ReadRequest). unwrap_or (option_map (λ s. s.offset) o) 0) h in
            grind (arith, nat_tests)
        stage false h = cc

-- a waiting read has a number in range
pub waiting-id : (reads : Entries) (places : Places) (longest : ℕ) → IsKept reads places longest → (id : ℕ) (r : ReadRequest) → waiting_in reads id ≡ Some r → r.id ≡ id
waiting-id reads places longest t id r h = at (entry_at reads id) refl h
  where
    one : (x : Read) → entry_at reads id ≡ Some x → (b : Bool) → (if_waits (Some x) ≡ (if b then Some x.request else None)) → (if b then Some x.request else None) ≡ Some r → r.id ≡ id
    one x e true f h =
        let same : x.request ≡ r = cc in
        subst (λ (y : ReadRequest). y.id ≡ id) same (t.keyed id x e)
    one x e false f h = cc

    at : (o : Option Read) → entry_at reads id ≡ o → if_waits o ≡ Some r → r.id ≡ id
    at None e h = cc
    at (Some x) e h = one x e (waits_in x.stage) refl h

-- a waiting read is no longer than the longest
waiting-long : (reads : Entries) (places : Places) (longest : ℕ) → IsKept reads places longest → (id : ℕ) (r : ReadRequest) → waiting_in reads id ≡ Some r → r.length ≤ longest
waiting-long reads places longest t id r h = at (entry_at reads id) refl h
  where
    at : (x : Option Read) → entry_at reads id ≡ x → if_waits x ≡ Some r → r.length ≤ longest
    at None e h = cc
    at (Some x) e h = stage (waits_in x.stage) h
      where
        stage : (b : Bool) → cond b (Some x.request) None ≡ Some r → r.length ≤ longest
        stage true k =
            let same : x.request.length ≡ r.length = ap (λ (o : Option ReadRequest). unwrap_or (option_map (λ s. s.length) o) 0) k in
            subst (λ n. n ≤ longest) same (t.long id x e)
        stage false k = cc

-- without places, all numbers
pub all-complete : (reads : Entries) (ids : List ℕ) → ids ≡ keys_of reads → (id : ℕ) (r : ReadRequest) → waiting_in reads id ≡ Some r → list_any (λ n. n == id) ids ≡ true
all-complete reads ids e id r h = rw e (at reads h)
  where
    or-right : (a b : Bool) → b ≡ true → (a || b) ≡ true
    or-right true b h = refl
    or-right false b h = h

    here : (n : ℕ) → is_at (nat_cmp id) n ≡ true → (n == id) ≡ true
    here n e = grind (arith, nat_tests)

    step : (n : ℕ) (x : Read) (es : Entries) → (if_waits (entry_at es id) ≡ Some r → list_any (λ m. m == id) (keys_of es) ≡ true) → (b : Bool) → is_at (nat_cmp id) n ≡ b
        → if_waits (cond b (Some x) (entry_at es id)) ≡ Some r → ((n == id) || list_any (λ m. m == id) (keys_of es)) ≡ true
    step n x es more true f h = ap (λ b. b || list_any (λ m. m == id) (keys_of es)) (here n f)
    step n x es more false f h = or-right (n == id) (list_any (λ m. m == id) (keys_of es)) (more h)

    at : (es : Entries) → waiting_in es id ≡ Some r → list_any (λ n. n == id) (keys_of es) ≡ true
    at [] h = cc
    at (entry ∷ es) h = step entry.0 entry.1 es (at es) (is_at (nat_cmp id) entry.0) refl h

-- either way each waiting read whose offset lies in bounds is named
pub all-named : (reads : Entries) (places : Places) (longest left right : ℕ) (ids : List ℕ) → IsKept reads places longest
    → (places.is_kept ≡ true → Names places left right ids)
    → (places.is_kept ≡ false → ids ≡ keys_of reads)
    → (id : ℕ) (r : ReadRequest) → waiting_in reads id ≡ Some r → left ≤ r.offset → r.offset ≤ right → list_any (λ n. n == id) ids ≡ true
all-named reads places longest left right ids t near all id r h l u = at places.is_kept refl
  where
    at : (b : Bool) → places.is_kept ≡ b → list_any (λ n. n == id) ids ≡ true
    at true e = near e r.offset id l u (waiting-placed reads places longest t id r h)
    at false e = all-complete reads ids (all e) id r h

-- a waiting read near a range begins no sooner than the longest may
pub near-first : (reads : Entries) (places : Places) (longest left from first : ℕ) → IsKept reads places longest → first ≡ max from (left - longest)
    → (id : ℕ) (r : ReadRequest) → waiting_in reads id ≡ Some r → left ≤ end_of r → from ≤ r.offset → first ≤ r.offset
near-first reads places longest left from first t f id r h l o =
    let long = waiting-long reads places longest t id r h in
    omega arith

-- no waiting read lies where there is no room
pub near-none : (reads : Entries) (places : Places) (longest left from right first : ℕ) (rs : List ReadRequest) → IsKept reads places longest → first ≡ max from (left - longest) → right < first
    → (id : ℕ) (r : ReadRequest) → waiting_in reads id ≡ Some r → left ≤ end_of r → from ≤ r.offset → r.offset ≤ right → is_listed rs id ≡ true
near-none reads places longest left from right first rs t f past id r h l o u =
    let long = waiting-long reads places longest t id r h in
    absurd (omega arith)

-- the reads that wait among those of the numbers from one on
among-step : (reads : Entries) (ids : List ℕ) (i : ℕ) → i < length ids → waiting_among reads (drop i ids) ≡ option_to_list (waiting_in reads (get_or ids i 0)) ++ waiting_among reads (drop (i + 1) ids)
among-step reads ids i l = ap (waiting_among reads) (drop-cons ids i 0 l) ∙ ap (λ n. option_to_list (waiting_in reads (get_or ids i 0)) ++ waiting_among reads (drop n ids)) (sym (add-one i))

pub among-none : (reads : Entries) (ids : List ℕ) (i : ℕ) → i < length ids → waiting_in reads (get_or ids i 0) ≡ None → waiting_among reads (drop i ids) ≡ waiting_among reads (drop (i + 1) ids)
among-none reads ids i l h = among-step reads ids i l ∙ ap (λ o. option_to_list o ++ waiting_among reads (drop (i + 1) ids)) h

pub among-some : (reads : Entries) (ids : List ℕ) (i : ℕ) (r : ReadRequest) → i < length ids → waiting_in reads (get_or ids i 0) ≡ Some r → waiting_among reads (drop i ids) ≡ r ∷ waiting_among reads (drop (i + 1) ids)
among-some reads ids i r l h = among-step reads ids i l ∙ ap (λ o. option_to_list o ++ waiting_among reads (drop (i + 1) ids)) h

-- the reads that wait among those of numbers: each that was named, and no other
pub among-listed : (reads : Entries) (ids : List ℕ) (id : ℕ) (r : ReadRequest) → waiting_in reads id ≡ Some r → r.id ≡ id → list_any (λ n. n == id) ids ≡ true → is_listed (waiting_among reads ids) id ≡ true
among-listed reads [] id r w k h = cc
among-listed reads (n ∷ ids) id r w k h = at (among-listed reads ids id r w k) (n == id) refl (waiting_in reads n) refl
  where
    self : (r.id == id) ≡ true
    self = grind (arith, nat_tests)

    or-right : (a b : Bool) → b ≡ true → (a || b) ≡ true
    or-right true b h = refl
    or-right false b h = h

    at : (list_any (λ n. n == id) ids ≡ true → is_listed (waiting_among reads ids) id ≡ true) → (b : Bool) → (n == id) ≡ b → (o : Option ReadRequest) → waiting_in reads n ≡ o
        → is_listed (option_to_list o ++ waiting_among reads ids) id ≡ true
    at more true e o f =
        let same : n ≡ id = grind (arith, nat_tests) in
        let here : o ≡ Some r = sym f ∙ ap (waiting_in reads) same ∙ w in
        rw here (ap (λ b. b || is_listed (waiting_among reads ids) id) self)
    at more false e None f = more (sym (ap (λ b. b || list_any (λ n. n == id) ids) e) ∙ h)
    at more false e (Some x) f = or-right (x.id == id) (is_listed (waiting_among reads ids) id) (more (sym (ap (λ b. b || list_any (λ n. n == id) ids) e) ∙ h))

pub among-wait : (reads : Entries) (places : Places) (longest : ℕ) (ids : List ℕ) → IsKept reads places longest → AllByRecursion (λ r. waiting_in reads r.id ≡ Some r) (waiting_among reads ids)
among-wait reads places longest [] k = tt
among-wait reads places longest (n ∷ ids) k = at (among-wait reads places longest ids k) (waiting_in reads n) refl
  where
    at : AllByRecursion (λ r. waiting_in reads r.id ≡ Some r) (waiting_among reads ids) → (o : Option ReadRequest) → waiting_in reads n ≡ o
        → AllByRecursion (λ r. waiting_in reads r.id ≡ Some r) (option_to_list o ++ waiting_among reads ids)
    at rest None f = rest
    at rest (Some x) f =
        let id = waiting-id reads places longest k n x f in
        (subst (λ m. waiting_in reads m ≡ Some x) (sym id) f, rest)

-- a read that polls was polled
pub polls-polled : (reads : Entries) (q : ℕ) → polls_in (entry_at reads q) ≡ polled_entry reads q
polls-polled reads q = at (entry_at reads q)
  where
    at : (x : Option Read) → polls_in x ≡ if_polls x
    at None = refl
    at (Some x) = refl

-- a polled read has a number in range
pub polled-small : (reads : Entries) (places : Places) (longest : ℕ) → IsKept reads places longest → (q : ℕ) → polled_entry reads q ≡ true → q < 2 ^ 64
polled-small reads places longest t q h = at (entry_at reads q) refl h
  where
    at : (x : Option Read) → entry_at reads q ≡ x → if_polls x ≡ true → q < 2 ^ 64
    at None e k = cc
    at (Some x) e k = t.small q x e

-- a polled read waits
pub polled-waits : (reads : Reads) (q : ℕ) → polled_at reads q ≡ true → waiting_at reads q ≡ None → ⊥
polled-waits reads q h n = at (read_at reads q) h n
  where
    stage : (r : ReadRequest) (s : ReadState) → is_polled s ≡ true → cond (is_waiting s) (Some r) None ≡ None → ⊥
    stage r state.Registered p e = cc
    stage r state.Polled p e = cc
    stage r state.InFlight p e = cc
    stage r state.Resolved p e = cc

    at : (x : Option Known) → if_polled x ≡ true → if_waiting x ≡ None → ⊥
    at None p e = cc
    at (Some x) p e = stage x.request x.state p e

-- what holds of a number holds of the number of the read that was found under it
pub found-along : (P : ℕ → Type 0) (id : ℕ) (o : Option ReadRequest) → IfSome o (λ r. (r.id ≡ id) × (end_of r < 2 ^ 64)) → P id → IfSome o (λ r. P r.id)
found-along P id None k h = tt
found-along P id (Some r) k h = subst P (sym k.0) h

-- nothing needs to hold where a polled read does not wait
pub found-some : (P : Type 0) (reads : Reads) (id : ℕ) → polled_at reads id ≡ true → (o : Option ReadRequest) → o ≡ waiting_at reads id → IfNone o P
found-some P reads id h None e = absurd (polled-waits reads id h (sym e))
found-some P reads id h (Some r) e = tt

-- a table without reads
pub empty_table : (entries : Entries) (places : Places) → entries ≡ [] → places.sorted.items ≡ [] → IsTable entries places 0
empty_table entries places e p = subst (λ (es : Entries). IsTable es places 0) (sym e) (record {
  kept = record {
    placed = λ offset id h. cc;
    rise = subst (IsNonDecreasingBy read_offset) (sym p) (IsNonDecreasingBy-short read_offset [] (omega arith));
    asked = subst (AreAsked []) (sym p) (λ k d l s h. absurd (omega (arith, l)));
    newest = subst (AreUpTo places.newest) (sym p) (λ k d l. absurd (omega (arith, l)));
    sorted = sorted_from_strictly_increasing [] (search rules);
    keyed = λ id x h. cc;
    small = λ id x h. cc;
    long = λ id x h. cc;
    fits = λ id x h. cc;
  };
  grouped = record { named = λ n h. cc; sizes = λ id n size h. cc };
})

-- a table after a change of the read of a number
pub kept-changed : (c : Change) (reads reads' : Entries) (places places' : Places) (longest id : ℕ) → IsKept reads places longest → reads' ≡ changed c reads id → HaveAll places places' → IsKept reads' places' longest
kept-changed c reads reads' places places' longest id k e all = at (entry_at reads id) refl
  where
    at : (x : Option Read) → entry_at reads id ≡ x → IsKept reads' places' longest
    at None h = same-table reads reads' places places' longest k (e ∙ ap (change_found c reads id) h) all
    at (Some x) h =
        let key : x.request.id ≡ id = k.keyed id x h in
        changed-table reads reads' places places' longest x (after c x.stage) k (subst (λ (es : Entries). IsStrictlySortedBy nat_cmp (keys_of es)) (sym e) (sorted-changed c reads id k.sorted))
        (subst (λ n. entry_at reads n ≡ Some x) (sym key) h) (after-waits c x.stage)
        (λ q. ap (λ (es : Entries). entry_at es q) e ∙ changed-at c reads id q k.sorted ∙ looked q (id == q) refl ∙ sym (ap (λ b. cond b (change_entry c (Some x)) (entry_at reads q)) (ap (λ n. is_at (nat_cmp n) q) key ∙ at-eq id q)))
        all
      where
        looked : (q : ℕ) (b : Bool) → (id == q) ≡ b → cond b (change_entry c (entry_at reads q)) (entry_at reads q) ≡ cond (id == q) (change_entry c (Some x)) (entry_at reads q)
        looked q true f =
            let same : id ≡ q = grind (arith, nat_tests) in
            ap (change_entry c) (sym (ap (entry_at reads) same) ∙ h) ∙ sym (ap (λ b. cond b (change_entry c (Some x)) (entry_at reads q)) f)
        looked q false f = sym (ap (λ b. cond b (change_entry c (Some x)) (entry_at reads q)) f)

-- the look-ups after a read was added
pub added-lookups : (reads reads' : Entries) (r : ReadRequest) → reads' ≡ insert_entry nat_cmp reads r.id (record { request = r; stage = Registered })
    → (q : ℕ) → entry_at reads' q ≡ cond (is_at (nat_cmp r.id) q) (Some (record { request = r; stage = Registered })) (entry_at reads q)
added-lookups reads reads' r e q =
    ap (λ (es : Entries). entry_at es q) e ∙ lookup-put reads r.id q (record { request = r; stage = Registered })
    ∙ ap (λ b. cond b (Some (record { request = r; stage = Registered })) (entry_at reads q)) (sym (at-eq r.id q))
