-- Spans that are taken and resolved, over the entries.
use Rattle.std.proofs.Common.{◌≡◌, ℕ, ◌≤◌, ◌==◌, ◌∷◌, ◌&&◌, ◌||◌, Bool, true, false, cond, List, [], length, Option, Some, None, option_map, unwrap_or, refl, ap, sym, ◌∙◌, subst, arith}
use Rattle.std.specs.Prelude.{is_some}
use Rattle.std.proofs.lemmas.Bool.Decides.{nat_tests}
use Rattle.std.specs.List.{list_all}
use Rattle.vx_sched.specs.Merging.{is_in_order, is_listed, first_number}
use Rattle.vx_sched.specs.Reads.{leads_at, has_first, if_leads, change, take_read, resolve_read}
use Rattle.vx_sched.specs.Entries.{Entries, entry_at, if_waits, flies_under, group, known, seen, all_changed}
use Rattle.vx_sched.proofs.EntriesLemmas.{waiting_in}
use Rattle.vx_sched.specs.Places.{AreGrouped, size_in}
use Rattle.vx_sched.specs.Flying.{flies_so, same_read}
use Rattle.vx_sched.proofs.InsertLemmas.{and-true}
use Rattle.vx_sched.proofs.EntriesLemmas.{all-at, change_entry}
use Rattle.vx_sched.proofs.GroupLemmas.{AreThose, flight, among, group-listed, group-order, group-those, group-is, group-same, listed-some}
use Rattle.vx_sched.proofs.ChangeLemmas.{step}
use Rattle.vx_sched.proofs.SeenLemmas.{Stands, view, known-along, seen-at, take-numbers, resolve-numbers}
use Rattle.vx_sched.specs.declared.request.ReadRequest.{ReadRequest}
use Rattle.vx_sched.specs.Stored.{Read}
use Rattle.vx_sched.specs.declared.read.Stage.{Stage}
use Rattle.vx_sched.specs.declared.read.Stage.TheVariants.{Registered, Polled, InFlight, Resolved}
use Rattle.vx_sched.specs.declared.read.Change.TheVariants.{Take, Resolve}

-- each of some reads, by what is known of those listed
with-listed : (w g : ℕ → Option ReadRequest) (all rs : List ReadRequest) → ((q : ℕ) (r : ReadRequest) → is_listed all q ≡ true → w q ≡ Some r → g q ≡ Some r)
    → ((q : ℕ) → is_listed rs q ≡ true → is_listed all q ≡ true) → AreThose w rs → AreThose g rs
with-listed w g all [] h m d = tt
with-listed w g all (r ∷ rs) h m d =
    let self : (r.id == r.id) ≡ true = grind (arith, nat_tests) in
    (h r.id r (m r.id (ap (λ b. b || is_listed rs r.id) self)) d.0, with-listed w g all rs h (λ q l. m q (or-right (r.id == q) (is_listed rs q) l)) d.1)
  where
    or-right : (a b : Bool) → b ≡ true → (a || b) ≡ true
    or-right true b h = refl
    or-right false b h = h

-- the first of some reads is listed, by its number
pub first-listed : (rs : List ReadRequest) → 1 ≤ length rs → is_listed rs (first_number rs) ≡ true
first-listed [] h = absurd (omega arith)
first-listed (r ∷ rs) h =
    let self : (r.id == r.id) ≡ true = grind (arith, nat_tests) in
    ap (λ b. b || is_listed rs r.id) self

some-first : (rs : List ReadRequest) → 1 ≤ length rs → has_first rs ≡ true
some-first [] h = absurd (omega arith)
some-first (r ∷ rs) h = refl

none-first : (rs : List ReadRequest) → has_first rs ≡ false → rs ≡ []
none-first [] h = refl
none-first (r ∷ rs) h = cc

first-some : (rs : List ReadRequest) → has_first rs ≡ true → is_listed rs (first_number rs) ≡ true
first-some [] h = cc
first-some (r ∷ rs) h =
    let self : (r.id == r.id) ≡ true = grind (arith, nat_tests) in
    ap (λ b. b || is_listed rs r.id) self

-- a waiting read is in no flight
waits-none : (n : ℕ) (x : Option Read) (r : ReadRequest) → if_waits x ≡ Some r → flight n x ≡ None
waits-none n None r h = cc
waits-none n (Some x) r h = at x.request x.stage h
  where
    at : (a : ReadRequest) (t : Stage) → if_waits (Some (record { request = a; stage = t })) ≡ Some r → flight n (Some (record { request = a; stage = t })) ≡ None
    at a Registered h = refl
    at a Polled h = refl
    at a (InFlight _ _ _) h = cc
    at a Resolved h = cc

-- what is of a size flies
size-flies : (n size : ℕ) (x : Option Read) → size_in n x ≡ Some size → is_some (flight n x) ≡ true
size-flies n size None h = cc
size-flies n size (Some x) h = at x.request x.stage h
  where
    at : (a : ReadRequest) (t : Stage) → size_in n (Some (record { request = a; stage = t })) ≡ Some size → is_some (flight n (Some (record { request = a; stage = t }))) ≡ true
    at a Registered h = cc
    at a Polled h = cc
    at a (InFlight s c d) h = which (s == n) h
      where
        which : (b : Bool) → cond b (Some c) None ≡ Some size → is_some (cond b (Some a) None) ≡ true
        which true h = refl
        which false h = cc
    at a Resolved h = cc

module _ (es : Entries) (rs : List ReadRequest) (k : Stands es) (k' : Stands (all_changed (Take (first_number rs) (length rs)) es rs)) (g : AreGrouped es)
    (some : 1 ≤ length rs) (order : is_in_order rs ≡ true) (waits : AreThose (waiting_in es) rs) where
  abbrev f : ℕ
  f = first_number rs

  abbrev es' : Entries
  es' = all_changed (Take f (length rs)) es rs

  now-at : (q : ℕ) → entry_at es' q ≡ cond (is_listed rs q) (change_entry (Take f (length rs)) (entry_at es q)) (entry_at es q)
  now-at q = all-at (Take f (length rs)) rs es q k.sorted

  waits-here : (q : ℕ) → is_listed rs q ≡ true → is_some (waiting_in es q) ≡ true
  waits-here q l = listed-some (waiting_in es) rs q waits l

  rests : (q n : ℕ) → is_listed rs q ≡ true → flight n (entry_at es q) ≡ None
  rests q n l = at (waiting_in es q) refl (waits-here q l)
    where
      at : (w : Option ReadRequest) → waiting_in es q ≡ w → is_some w ≡ true → flight n (entry_at es q) ≡ None
      at None e h = cc
      at (Some r) e h = waits-none n (entry_at es q) r e

  -- nothing flies under the first number yet
  none-before : group f es ≡ []
  none-before = none-first (group f es) (at (has_first (group f es)) refl)
    where
      at : (b : Bool) → has_first (group f es) ≡ b → has_first (group f es) ≡ false
      at false h = h
      at true h =
          let named = g.named f h in
          let listed = first-some (group f es) h in
          let flies = sym (group-listed f es f k.sorted k.keyed) ∙ subst (λ n. is_listed (group f es) n ≡ true) named listed in
          cc (sym flies ∙ ap is_some (rests f f (first-listed rs some)))

  no-flight : (q : ℕ) → is_some (flight f (entry_at es q)) ≡ false
  no-flight q = sym (group-listed f es q k.sorted k.keyed) ∙ ap (λ z. is_listed z q) none-before

  self : (f == f) ≡ true
  self = grind (arith, nat_tests)

  taken-flight : (x : Option Read) (r : ReadRequest) → if_waits x ≡ Some r → flight f (change_entry (Take f (length rs)) x) ≡ Some r
  taken-flight None r h = cc
  taken-flight (Some x) r h = at x.request x.stage h
    where
      at : (a : ReadRequest) (t : Stage) → if_waits (Some (record { request = a; stage = t })) ≡ Some r → flight f (change_entry (Take f (length rs)) (Some (record { request = a; stage = t }))) ≡ Some r
      at a Registered h = ap (λ b. cond b (Some a) None) self ∙ h
      at a Polled h = ap (λ b. cond b (Some a) None) self ∙ h
      at a (InFlight _ _ _) h = cc
      at a Resolved h = cc

  group-now : group f es' ≡ rs
  group-now = group-is f es' rs k'.sorted k'.keyed order
      (with-listed (waiting_in es) (λ q. flight f (entry_at es' q)) rs rs
      (λ q r l h. ap (flight f) (now-at q ∙ ap (λ b. cond b (change_entry (Take f (length rs)) (entry_at es q)) (entry_at es q)) l) ∙ taken-flight (entry_at es q) r h)
      (λ q l. l) waits)
      (λ q h. at q (is_listed rs q) refl h)
    where
      at : (q : ℕ) (b : Bool) → is_listed rs q ≡ b → is_some (flight f (entry_at es' q)) ≡ true → is_listed rs q ≡ true
      at q true l h = l
      at q false l h =
          cc (sym (no-flight q) ∙ ap (λ z. is_some (flight f z)) (sym (now-at q ∙ ap (λ b. cond b (change_entry (Take f (length rs)) (entry_at es q)) (entry_at es q)) l)) ∙ h)

  other-take : (n : ℕ) (x : Option Read) → (f == n) ≡ false → flight n x ≡ None → flight n (change_entry (Take f (length rs)) x) ≡ None
  other-take n None e h = refl
  other-take n (Some x) e h = at x.request x.stage h
    where
      at : (a : ReadRequest) (t : Stage) → flight n (Some (record { request = a; stage = t })) ≡ None → flight n (change_entry (Take f (length rs)) (Some (record { request = a; stage = t }))) ≡ None
      at a Registered h = ap (λ b. cond b (Some a) None) e
      at a Polled h = ap (λ b. cond b (Some a) None) e
      at a (InFlight _ _ _) h = h
      at a Resolved h = h

  other-size : (n : ℕ) (x : Option Read) (r : ReadRequest) → (f == n) ≡ false → if_waits x ≡ Some r → size_in n (change_entry (Take f (length rs)) x) ≡ size_in n x
  other-size n None r e h = refl
  other-size n (Some x) r e h = at x.request x.stage h
    where
      at : (a : ReadRequest) (t : Stage) → if_waits (Some (record { request = a; stage = t })) ≡ Some r → size_in n (change_entry (Take f (length rs)) (Some (record { request = a; stage = t }))) ≡ size_in n (Some (record { request = a; stage = t }))
      at a Registered h = ap (λ b. cond b (Some (length rs)) None) e
      at a Polled h = ap (λ b. cond b (Some (length rs)) None) e
      at a (InFlight _ _ _) h = cc
      at a Resolved h = cc

  group-other : (n : ℕ) → (f == n) ≡ false → group n es' ≡ group n es
  group-other n e = group-same n es es' k.sorted k.keyed k'.sorted k'.keyed (λ q. ap (flight n) (now-at q) ∙ at q (is_listed rs q) refl)
    where
      at : (q : ℕ) (b : Bool) → is_listed rs q ≡ b → flight n (cond b (change_entry (Take f (length rs)) (entry_at es q)) (entry_at es q)) ≡ flight n (entry_at es q)
      at q true l = other-take n (entry_at es q) e (rests q n l) ∙ sym (rests q n l)
      at q false l = refl

  pub take-grouped : AreGrouped es'
  take-grouped = record {
    named = λ n. named n (f == n) refl;
    sizes = λ q n size. sizes q n size (f == n) refl;
  }
    where
      named : (n : ℕ) (b : Bool) → (f == n) ≡ b → has_first (group n es') ≡ true → first_number (group n es') ≡ n
      named n true e h =
          let same : f ≡ n = grind (arith, nat_tests) in
          subst (λ m. first_number (group m es') ≡ m) same (ap first_number group-now)
      named n false e h = rw (group-other n e) (g.named n (subst (λ (z : List ReadRequest). has_first z ≡ true) (group-other n e) h))

      taken-size : (size : ℕ) (x : Option Read) (r : ReadRequest) → if_waits x ≡ Some r → size_in f (change_entry (Take f (length rs)) x) ≡ Some size → length rs ≡ size
      taken-size size None r w h = cc
      taken-size size (Some x) r w h = at x.request x.stage w h
        where
          at : (a : ReadRequest) (t : Stage) → if_waits (Some (record { request = a; stage = t })) ≡ Some r → size_in f (change_entry (Take f (length rs)) (Some (record { request = a; stage = t }))) ≡ Some size → length rs ≡ size
          at a Registered w h = ap (λ (o : Option ℕ). unwrap_or o 0) (sym (ap (λ b. cond b (Some (length rs)) None) self) ∙ h)
          at a Polled w h = ap (λ (o : Option ℕ). unwrap_or o 0) (sym (ap (λ b. cond b (Some (length rs)) None) self) ∙ h)
          at a (InFlight _ _ _) w h = cc
          at a Resolved w h = cc

      here : (q size : ℕ) (b : Bool) → is_listed rs q ≡ b → size_in f (cond b (change_entry (Take f (length rs)) (entry_at es q)) (entry_at es q)) ≡ Some size → length rs ≡ size
      here q size true l h = waiting (waiting_in es q) refl (waits-here q l)
        where
          waiting : (w : Option ReadRequest) → waiting_in es q ≡ w → is_some w ≡ true → length rs ≡ size
          waiting None e s = cc
          waiting (Some r) e s = taken-size size (entry_at es q) r e h
      here q size false l h = cc (sym (no-flight q) ∙ size-flies f size (entry_at es q) h)

      there : (q n size : ℕ) (b : Bool) → (f == n) ≡ false → is_listed rs q ≡ b → size_in n (cond b (change_entry (Take f (length rs)) (entry_at es q)) (entry_at es q)) ≡ Some size → size_in n (entry_at es q) ≡ Some size
      there q n size true e l h = waiting (waiting_in es q) refl (waits-here q l)
        where
          waiting : (w : Option ReadRequest) → waiting_in es q ≡ w → is_some w ≡ true → size_in n (entry_at es q) ≡ Some size
          waiting None v s = cc
          waiting (Some r) v s = sym (other-size n (entry_at es q) r e v) ∙ h
      there q n size false e l h = h

      sizes : (q n size : ℕ) (b : Bool) → (f == n) ≡ b → size_in n (entry_at es' q) ≡ Some size → length (group n es') ≡ size
      sizes q n size true e h =
          let same : n ≡ f = grind (arith, nat_tests) in
          let at-first = subst (λ m. size_in m (entry_at es' q) ≡ Some size) same h in
          ap (λ m. length (group m es')) same ∙ ap length group-now ∙ here q size (is_listed rs q) refl (sym (ap (size_in f) (now-at q)) ∙ at-first)
      sizes q n size false e h =
          ap length (group-other n e) ∙ g.sizes q n size (there q n size (is_listed rs q) e refl (sym (ap (size_in n) (now-at q)) ∙ h))

  pub take-view : seen es' ≡ change (is_listed rs) (take_read rs) (seen es)
  take-view = view es es' (is_listed rs) (take_read rs) k k' (take-numbers rs) (λ q. ap (option_map (known es')) (now-at q) ∙ at q (is_listed rs q) refl (entry_at es q) refl)
    where
      lead : (n : ℕ) (b : Bool) → (f == n) ≡ b → cond (f == n) (group n es') [] ≡ cond (n == f) rs []
      lead n true e =
          let same : n ≡ f = grind (arith, nat_tests) in
          let flip : (n == f) ≡ true = grind (arith, nat_tests) in
          ap (λ t. cond t (group n es') []) e ∙ ap (λ m. group m es') same ∙ group-now ∙ sym (ap (λ t. cond t rs []) flip)
      lead n false e =
          let flip : (n == f) ≡ false = grind (arith, nat_tests) in
          ap (λ t. cond t (group n es') []) e ∙ sym (ap (λ t. cond t rs []) flip)

      stage : (a : ReadRequest) (t : Stage) (r : ReadRequest) → if_waits (Some (record { request = a; stage = t })) ≡ Some r
          → option_map (known es') (change_entry (Take f (length rs)) (Some (record { request = a; stage = t }))) ≡ take_read rs (known es (record { request = a; stage = t }))
      stage a Registered r w = ap (λ (z : List ReadRequest). Some (record (known es' (record { request = a; stage = InFlight f (length rs) false })) { leads = z })) (lead a.id (f == a.id) refl)
      stage a Polled r w = ap (λ (z : List ReadRequest). Some (record (known es' (record { request = a; stage = InFlight f (length rs) false })) { leads = z })) (lead a.id (f == a.id) refl)
      stage a (InFlight _ _ _) r w = cc
      stage a Resolved r w = cc

      at : (q : ℕ) (b : Bool) → is_listed rs q ≡ b → (x : Option Read) → entry_at es q ≡ x
          → option_map (known es') (cond b (change_entry (Take f (length rs)) x) x) ≡ cond b (step (take_read rs) (option_map (known es) x)) (option_map (known es) x)
      at q true l None e = refl
      at q true l (Some x) e = waiting (waiting_in es q) refl (waits-here q l)
        where
          waiting : (w : Option ReadRequest) → waiting_in es q ≡ w → is_some w ≡ true → option_map (known es') (change_entry (Take f (length rs)) (Some x)) ≡ take_read rs (known es x)
          waiting None v s = cc
          waiting (Some r) v s = stage x.request x.stage r (sym (ap if_waits e) ∙ v)
      at q false l None e = refl
      at q false l (Some x) e = ap Some (known-along es es' x (group-other x.request.id (apart (f == x.request.id) refl)))
        where
          apart : (c : Bool) → (f == x.request.id) ≡ c → (f == x.request.id) ≡ false
          apart false h = h
          apart true h =
              let number = k.numbers q x e in
              let same : f ≡ q = grind (arith, nat_tests) in
              cc (sym (first-listed rs some) ∙ ap (is_listed rs) same ∙ l)

-- ---- the reads of a span in flight

leads-known : (es : Entries) (n : ℕ) (x : Read) (rs : List ReadRequest) → x.request.id ≡ n → 1 ≤ length rs → cond (flies_under x.request.id x.stage) (group x.request.id es) [] ≡ rs
    → (group n es ≡ rs) × (flies_under n x.stage ≡ true)
leads-known es n x rs e some h =
    at (flies_under n x.stage) refl (subst (λ m. cond (flies_under m x.stage) (group m es) [] ≡ rs) e h)
  where
    at : (b : Bool) → flies_under n x.stage ≡ b → cond b (group n es) [] ≡ rs → (group n es ≡ rs) × (flies_under n x.stage ≡ true)
    at true f h = (h, f)
    at false f h = absurd (let none : 0 ≡ length rs = ap length h in omega arith)

-- what leads a span is its group
pub leads-group : (es : Entries) (n : ℕ) (rs : List ReadRequest) → Stands es → 1 ≤ length rs → leads_at (seen es) n ≡ rs → (group n es ≡ rs) × (is_some (flight n (entry_at es n)) ≡ true)
leads-group es n rs k some h = at (entry_at es n) refl (sym (ap if_leads (seen-at es n k.keyed)) ∙ h)
  where
    at : (x : Option Read) → entry_at es n ≡ x → if_leads (option_map (known es) x) ≡ rs → (group n es ≡ rs) × (is_some (flight n (entry_at es n)) ≡ true)
    at None e h = absurd (let none : 0 ≡ length rs = ap length h in omega arith)
    at (Some x) e h =
        let parts = leads-known es n x rs (k.numbers n x e) some h in
        (parts.0, ap (λ z. is_some (flight n z)) e ∙ ap (λ b. is_some (cond b (Some x.request) None)) parts.1)

-- and the other way round
pub group-leads : (es : Entries) (n : ℕ) → Stands es → is_some (flight n (entry_at es n)) ≡ true → leads_at (seen es) n ≡ group n es
group-leads es n k h = ap if_leads (seen-at es n k.keyed) ∙ at (entry_at es n) refl h
  where
    at : (x : Option Read) → entry_at es n ≡ x → is_some (flight n x) ≡ true → if_leads (option_map (known es) x) ≡ group n es
    at None e h = cc
    at (Some x) e h = subst (λ m. cond (flies_under m x.stage) (group m es) [] ≡ group n es) (sym (k.numbers n x e)) (flies (flies_under n x.stage) h)
      where
        flies : (b : Bool) → is_some (cond b (Some x.request) None) ≡ true → cond b (group n es) [] ≡ group n es
        flies true h = refl
        flies false h = cc

module _ (es : Entries) (rs : List ReadRequest) (k : Stands es) (k' : Stands (all_changed Resolve es rs)) (g : AreGrouped es)
    (some : 1 ≤ length rs) (leads : leads_at (seen es) (first_number rs) ≡ rs) where
  abbrev first : ℕ
  first = first_number rs

  abbrev after-all : Entries
  after-all = all_changed Resolve es rs

  the-group : group first es ≡ rs
  the-group = (leads-group es first rs k some leads).0

  resolved-at : (q : ℕ) → entry_at after-all q ≡ cond (is_listed rs q) (change_entry Resolve (entry_at es q)) (entry_at es q)
  resolved-at q = all-at Resolve rs es q k.sorted

  flies-here : (q : ℕ) → is_some (flight first (entry_at es q)) ≡ is_listed rs q
  flies-here q = sym (group-listed first es q k.sorted k.keyed) ∙ ap (λ z. is_listed z q) the-group

  -- a resolved read is in no flight
  lands : (n : ℕ) (x : Option Read) → flight n (change_entry Resolve x) ≡ None
  lands n None = refl
  lands n (Some x) = at x.request x.stage
    where
      at : (a : ReadRequest) (t : Stage) → flight n (change_entry Resolve (Some (record { request = a; stage = t }))) ≡ None
      at a Registered = refl
      at a Polled = refl
      at a (InFlight _ _ true) = refl
      at a (InFlight _ _ false) = refl
      at a Resolved = refl

  lands-size : (n : ℕ) (x : Option Read) → size_in n (change_entry Resolve x) ≡ None
  lands-size n None = refl
  lands-size n (Some x) = at x.request x.stage
    where
      at : (a : ReadRequest) (t : Stage) → size_in n (change_entry Resolve (Some (record { request = a; stage = t }))) ≡ None
      at a Registered = refl
      at a Polled = refl
      at a (InFlight _ _ true) = refl
      at a (InFlight _ _ false) = refl
      at a Resolved = refl

  apart-from : (a b c : ℕ) → (a == b) ≡ true → (b == c) ≡ false → (a == c) ≡ false
  apart-from a b c h j = grind (arith, nat_tests)

  elsewhere : (n : ℕ) (x : Option Read) → (first == n) ≡ false → is_some (flight first x) ≡ true → flight n x ≡ None
  elsewhere n None e h = refl
  elsewhere n (Some x) e h = at x.request x.stage h
    where
      at : (a : ReadRequest) (t : Stage) → is_some (flight first (Some (record { request = a; stage = t }))) ≡ true → flight n (Some (record { request = a; stage = t })) ≡ None
      at a Registered h = refl
      at a Polled h = refl
      at a (InFlight s c d) h = which (s == first) refl h
        where
          which : (b : Bool) → (s == first) ≡ b → is_some (cond b (Some a) None) ≡ true → cond (s == n) (Some a) None ≡ None
          which true v h =
              let apart : (s == n) ≡ false = apart-from s first n v e in
              ap (λ b. cond b (Some a) None) apart
          which false v h = cc
      at a Resolved h = refl

  none-now : group first after-all ≡ []
  none-now = group-is first after-all [] k'.sorted k'.keyed refl tt (λ q h. at q (is_listed rs q) refl h)
    where
      at : (q : ℕ) (b : Bool) → is_listed rs q ≡ b → is_some (flight first (entry_at after-all q)) ≡ true → is_listed [] q ≡ true
      at q true l h = cc (sym h ∙ ap (λ z. is_some (flight first z)) (resolved-at q ∙ ap (λ b. cond b (change_entry Resolve (entry_at es q)) (entry_at es q)) l) ∙ ap is_some (lands first (entry_at es q)))
      at q false l h = cc (sym h ∙ ap (λ z. is_some (flight first z)) (resolved-at q ∙ ap (λ b. cond b (change_entry Resolve (entry_at es q)) (entry_at es q)) l) ∙ flies-here q ∙ l)

  group-left : (n : ℕ) → (first == n) ≡ false → group n after-all ≡ group n es
  group-left n e = group-same n es after-all k.sorted k.keyed k'.sorted k'.keyed (λ q. ap (flight n) (resolved-at q) ∙ at q (is_listed rs q) refl)
    where
      at : (q : ℕ) (b : Bool) → is_listed rs q ≡ b → flight n (cond b (change_entry Resolve (entry_at es q)) (entry_at es q)) ≡ flight n (entry_at es q)
      at q true l = lands n (entry_at es q) ∙ sym (elsewhere n (entry_at es q) e (flies-here q ∙ l))
      at q false l = refl

  pub resolve-grouped : AreGrouped after-all
  resolve-grouped = record {
    named = λ n. named n (first == n) refl;
    sizes = λ q n size h. sizes q n size (first == n) refl (is_listed rs q) refl h;
  }
    where
      named : (n : ℕ) (b : Bool) → (first == n) ≡ b → has_first (group n after-all) ≡ true → first_number (group n after-all) ≡ n
      named n true e h =
          let same : n ≡ first = grind (arith, nat_tests) in
          cc (sym h ∙ ap (λ m. has_first (group m after-all)) same ∙ ap (λ (z : List ReadRequest). has_first z) none-now)
      named n false e h = rw (group-left n e) (g.named n (subst (λ (z : List ReadRequest). has_first z ≡ true) (group-left n e) h))

      sizes : (q n size : ℕ) (b : Bool) → (first == n) ≡ b → (l : Bool) → is_listed rs q ≡ l → size_in n (entry_at after-all q) ≡ Some size → length (group n after-all) ≡ size
      sizes q n size b e true l h =
          cc (sym h ∙ ap (size_in n) (resolved-at q ∙ ap (λ b. cond b (change_entry Resolve (entry_at es q)) (entry_at es q)) l) ∙ lands-size n (entry_at es q))
      sizes q n size true e false l h =
          let same : n ≡ first = grind (arith, nat_tests) in
          let was = sym (ap (size_in n) (resolved-at q ∙ ap (λ b. cond b (change_entry Resolve (entry_at es q)) (entry_at es q)) l)) ∙ h in
          cc (sym l ∙ sym (flies-here q) ∙ size-flies first size (entry_at es q) (subst (λ m. size_in m (entry_at es q) ≡ Some size) same was))
      sizes q n size false e false l h =
          ap length (group-left n e) ∙ g.sizes q n size (sym (ap (size_in n) (resolved-at q ∙ ap (λ b. cond b (change_entry Resolve (entry_at es q)) (entry_at es q)) l)) ∙ h)

  pub resolve-view : seen after-all ≡ change (is_listed rs) resolve_read (seen es)
  resolve-view = view es after-all (is_listed rs) resolve_read k k' resolve-numbers (λ q. ap (option_map (known after-all)) (resolved-at q) ∙ at q (is_listed rs q) refl (entry_at es q) refl)
    where
      stage : (a : ReadRequest) (t : Stage) → is_some (flight first (Some (record { request = a; stage = t }))) ≡ true
          → option_map (known after-all) (change_entry Resolve (Some (record { request = a; stage = t }))) ≡ resolve_read (known es (record { request = a; stage = t }))
      stage a Registered h = cc
      stage a Polled h = cc
      stage a (InFlight _ _ true) h = refl
      stage a (InFlight _ _ false) h = refl
      stage a Resolved h = cc

      at : (q : ℕ) (b : Bool) → is_listed rs q ≡ b → (x : Option Read) → entry_at es q ≡ x
          → option_map (known after-all) (cond b (change_entry Resolve x) x) ≡ cond b (step resolve_read (option_map (known es) x)) (option_map (known es) x)
      at q true l None e = refl
      at q true l (Some x) e = stage x.request x.stage (ap (λ z. is_some (flight first z)) (sym e) ∙ flies-here q ∙ l)
      at q false l None e = refl
      at q false l (Some x) e = ap Some (known-along es after-all x (group-left x.request.id (apart (first == x.request.id) refl)))
        where
          apart : (c : Bool) → (first == x.request.id) ≡ c → (first == x.request.id) ≡ false
          apart false h = h
          apart true h =
              let number = k.numbers q x e in
              let same : first ≡ q = grind (arith, nat_tests) in
              cc (sym (first-listed rs some) ∙ ap (is_listed rs) same ∙ l)

-- ---- the test whether a span is in flight

same-is : (a b : ReadRequest) → same_read a b ≡ true → a ≡ b
same-is a b h = at (a.id == b.id) refl (a.offset == b.offset) refl (a.length == b.length) refl (a.alignment == b.alignment) refl h
  where
    at : (i : Bool) → (a.id == b.id) ≡ i → (o : Bool) → (a.offset == b.offset) ≡ o → (l : Bool) → (a.length == b.length) ≡ l → (m : Bool) → (a.alignment == b.alignment) ≡ m → (i && o && l && m) ≡ true → a ≡ b
    at true ei true eo true el true em h =
        let i : a.id ≡ b.id = grind (arith, nat_tests) in
        let o : a.offset ≡ b.offset = grind (arith, nat_tests) in
        let l : a.length ≡ b.length = grind (arith, nat_tests) in
        let m : a.alignment ≡ b.alignment = grind (arith, nat_tests) in
        ap (λ (n : ℕ). record { id = n; offset = a.offset; length = a.length; alignment = a.alignment }) i
        ∙ ap (λ (n : ℕ). record { id = b.id; offset = n; length = a.length; alignment = a.alignment }) o
        ∙ ap (λ (n : ℕ). record { id = b.id; offset = b.offset; length = n; alignment = a.alignment }) l
        ∙ ap (λ (n : ℕ). record { id = b.id; offset = b.offset; length = b.length; alignment = n }) m
    at true ei true eo true el false em h = cc
    at true ei true eo false el m em h = cc
    at true ei false eo l el m em h = cc
    at false ei o eo l el m em h = cc

same-refl : (a : ReadRequest) → same_read a a ≡ true
same-refl a = grind (arith, nat_tests)

-- one read that flies so
flies-flight : (n size : ℕ) (r : ReadRequest) (x : Option Read) → flies_so n size r x ≡ true → (flight n x ≡ Some r) × (size_in n x ≡ Some size)
flies-flight n size r None h = cc
flies-flight n size r (Some x) h = at x.request x.stage h
  where
    at : (a : ReadRequest) (t : Stage) → flies_so n size r (Some (record { request = a; stage = t })) ≡ true → (flight n (Some (record { request = a; stage = t })) ≡ Some r) × (size_in n (Some (record { request = a; stage = t })) ≡ Some size)
    at a Registered h = cc
    at a Polled h = cc
    at a (InFlight s c d) h =
        let parts = and-true ((s == n) && (c == size)) (same_read a r) h in
        let both = and-true (s == n) (c == size) parts.0 in
        let count : c ≡ size = grind (arith, nat_tests) in
        (ap (λ b. cond b (Some a) None) both.0 ∙ ap Some (same-is a r parts.1), ap (λ b. cond b (Some c) None) both.0 ∙ ap Some count)
    at a Resolved h = cc

flight-flies : (n size : ℕ) (r : ReadRequest) (x : Option Read) → flight n x ≡ Some r → ((m : ℕ) → size_in n x ≡ Some m → size ≡ m) → flies_so n size r x ≡ true
flight-flies n size r None h z = cc
flight-flies n size r (Some x) h z = at x.request x.stage h z
  where
    at : (a : ReadRequest) (t : Stage) → flight n (Some (record { request = a; stage = t })) ≡ Some r → ((m : ℕ) → size_in n (Some (record { request = a; stage = t })) ≡ Some m → size ≡ m)
        → flies_so n size r (Some (record { request = a; stage = t })) ≡ true
    at a Registered h z = cc
    at a Polled h z = cc
    at a (InFlight s c d) h z = which (s == n) h (z c)
      where
        which : (b : Bool) → cond b (Some a) None ≡ Some r → (cond b (Some c) None ≡ Some c → size ≡ c) → ((b && (c == size)) && same_read a r) ≡ true
        which true h z =
            let count = z refl in
            let counts : (c == size) ≡ true = grind (arith, nat_tests) in
            let one : a ≡ r = ap (λ (o : Option ReadRequest). unwrap_or o a) h in
            ap (λ b. b && same_read a r) counts ∙ ap (λ z. same_read a z) (sym one) ∙ same-refl a
        which false h z = cc
    at a Resolved h z = cc

all-those : (n size : ℕ) (es : Entries) (rs : List ReadRequest) → list_all (λ r. flies_so n size r (entry_at es r.id)) rs ≡ true → AreThose (λ q. flight n (entry_at es q)) rs
all-those n size es [] h = tt
all-those n size es (r ∷ rs) h =
    let parts = and-true (flies_so n size r (entry_at es r.id)) (list_all (λ r. flies_so n size r (entry_at es r.id)) rs) h in
    ((flies-flight n size r (entry_at es r.id) parts.0).0, all-those n size es rs parts.1)

those-all : (n size : ℕ) (es : Entries) (rs : List ReadRequest) → ((q m : ℕ) → size_in n (entry_at es q) ≡ Some m → size ≡ m) → AreThose (λ q. flight n (entry_at es q)) rs
    → list_all (λ r. flies_so n size r (entry_at es r.id)) rs ≡ true
those-all n size es [] z d = refl
those-all n size es (r ∷ rs) z d =
    ap (λ b. b && list_all (λ r. flies_so n size r (entry_at es r.id)) rs) (flight-flies n size r (entry_at es r.id) d.0 (z r.id)) ∙ those-all n size es rs z d.1

first-flies : (n size : ℕ) (es : Entries) (rs : List ReadRequest) → 1 ≤ length rs → first_number rs ≡ n → list_all (λ r. flies_so n size r (entry_at es r.id)) rs ≡ true
    → (is_some (flight n (entry_at es n)) ≡ true) × (size_in n (entry_at es n) ≡ Some size)
first-flies n size es [] s e h = absurd (omega arith)
first-flies n size es (r ∷ rs) s e h =
    let parts = and-true (flies_so n size r (entry_at es r.id)) (list_all (λ r. flies_so n size r (entry_at es r.id)) rs) h in
    let here = flies-flight n size r (entry_at es r.id) parts.0 in
    subst (λ m. (is_some (flight n (entry_at es m)) ≡ true) × (size_in n (entry_at es m) ≡ Some size)) e (ap is_some here.0, here.1)

pub flies-leads : (es : Entries) (rs : List ReadRequest) → Stands es → AreGrouped es → 1 ≤ length rs → is_in_order rs ≡ true
    → list_all (λ r. flies_so (first_number rs) (length rs) r (entry_at es r.id)) rs ≡ true → leads_at (seen es) (first_number rs) ≡ rs
flies-leads es rs k g some order h =
    let n : ℕ = first_number rs in
    let here = first-flies (first_number rs) (length rs) es rs some refl h in
    let those = all-those (first_number rs) (length rs) es rs h in
    let fits = among (λ q. flight (first_number rs) (entry_at es q)) rs (group (first_number rs) es) order (group-order (first_number rs) es k.sorted k.keyed) those (group-those (first_number rs) es k.sorted k.keyed)
    (λ q l. group-listed (first_number rs) es q k.sorted k.keyed ∙ listed-some (λ p. flight (first_number rs) (entry_at es p)) rs q those l) in
    group-leads es (first_number rs) k here.0 ∙ sym (fits.1 (sym (g.sizes (first_number rs) (first_number rs) (length rs) here.1)))

pub leads-flies : (es : Entries) (rs : List ReadRequest) → Stands es → AreGrouped es → 1 ≤ length rs → leads_at (seen es) (first_number rs) ≡ rs
    → (is_in_order rs ≡ true) × (list_all (λ r. flies_so (first_number rs) (length rs) r (entry_at es r.id)) rs ≡ true)
leads-flies es rs k g some h =
    let parts = leads-group es (first_number rs) rs k some h in (
      subst (λ (z : List ReadRequest). is_in_order z ≡ true) parts.0 (group-order (first_number rs) es k.sorted k.keyed),
      those-all (first_number rs) (length rs) es rs (λ q m s. ap length (sym parts.0) ∙ g.sizes q (first_number rs) m s)
          (subst (λ (z : List ReadRequest). AreThose (λ q. flight (first_number rs) (entry_at es q)) z) parts.0 (group-those (first_number rs) es k.sorted k.keyed)),
    )
