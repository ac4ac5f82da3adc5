-- The spans in flight, after each event.
use Rattle.std.proofs.Common.{◌≡◌, ℕ, ◌+◌, ◌<◌, ◌≤◌, ◌==◌, ◌∷◌, ◌++◌, ◌||◌, Bool, true, false, cond, List, [], length, Option, Some, None, unwrap_or, refl, ap, sym, ◌∙◌, subst, arith}
use Rattle.std.specs.Prelude.{is_some}
use Rattle.std.proofs.lemmas.Bool.Decides.{nat_tests}
use Rattle.vx_sched.specs.Merging.{is_listed, first_number}
use Rattle.vx_sched.specs.Reads.{Known, Reads, read_at, waiting_at, leads_at, flying_at, has_first, flights, if_waiting, if_flying, if_leads, is_waiting, is_flying, after_poll, Rise, change, register_read, poll_read, drop_read, take_read, resolve_read}
use Rattle.vx_sched.specs.Law.{FirstNumbersRise, Holds, AreFlights}
use Rattle.vx_sched.proofs.ChangeLemmas.{step, rise-none, change-at, change-rise, added-at, added-rise}
use Rattle.vx_sched.proofs.SeenLemmas.{poll-numbers, drop-numbers, take-numbers, resolve-numbers}
use Rattle.vx_sched.proofs.FlyLemmas.{first-listed}
use Rattle.vx_sched.specs.declared.request.ReadRequest.{ReadRequest}
use Rattle.vx_sched.specs.declared.read.ReadState.{ReadState}
use Rattle.vx_sched.specs.declared.read.ReadState.TheVariants as state

no-first : (rs : List ReadRequest) → has_first rs ≡ false → rs ≡ []
no-first [] h = refl
no-first (r ∷ rs) h = cc

pub some-listed : (rs : List ReadRequest) → has_first rs ≡ true → is_listed rs (first_number rs) ≡ true
some-listed [] h = cc
some-listed (r ∷ rs) h = first-listed (r ∷ rs) (omega arith)

listed-first : (rs : List ReadRequest) (q : ℕ) → is_listed rs q ≡ true → has_first rs ≡ true
listed-first [] q h = cc
listed-first (r ∷ rs) q h = refl

-- a number that is not in flight leads no span
pub lone-leads : (l : ℕ → List ReadRequest) (f : ℕ → Bool) (n : ℕ) → Holds l f → f n ≡ false → l n ≡ []
lone-leads l f n g h = no-first (l n) (at (has_first (l n)) refl)
  where
    at : (b : Bool) → has_first (l n) ≡ b → has_first (l n) ≡ false
    at false e = e
    at true e = cc (sym h ∙ g.flies n n (subst (λ m. is_listed (l n) m ≡ true) (g.named n e) (some-listed (l n) e)))

-- spans and reads in flight that are the same hold the same
pub holds-along : (l l' : ℕ → List ReadRequest) (f f' : ℕ → Bool) → ((n : ℕ) → l' n ≡ l n) → ((q : ℕ) → f' q ≡ f q) → Holds l f → Holds l' f'
holds-along l l' f f' hl hf g = record {
  named = λ n h. ap first_number (hl n) ∙ g.named n (ap has_first (sym (hl n)) ∙ h);
  flies = λ n q h. hf q ∙ g.flies n q (ap (λ z. is_listed z q) (sym (hl n)) ∙ h);
  held = λ q h. let p = g.held q (sym (hf q) ∙ h) in (p.0, ap (λ z. is_listed z q) (hl p.0) ∙ p.1);
  alone = λ n m q a b. g.alone n m q (ap (λ z. is_listed z q) (sym (hl n)) ∙ a) (ap (λ z. is_listed z q) (sym (hl m)) ∙ b);
}

-- a span that is taken
pub holds-more : (l l' : ℕ → List ReadRequest) (f f' : ℕ → Bool) (rs : List ReadRequest) → 1 ≤ length rs → Holds l f → l' (first_number rs) ≡ rs
    → ((n : ℕ) → (first_number rs == n) ≡ false → l' n ≡ l n) → ((q : ℕ) → f' q ≡ (is_listed rs q || f q)) → ((q : ℕ) → is_listed rs q ≡ true → f q ≡ false) → Holds l' f'
holds-more l l' f f' rs some g here there flies rests = record {
  named = λ n. named n (first_number rs == n) refl;
  flies = λ n q. fly n q (first_number rs == n) refl;
  held = λ q h. held q (is_listed rs q) refl (sym (flies q) ∙ h);
  alone = λ n m q. alone n m q (first_number rs == n) refl (first_number rs == m) refl;
}
  where
    is-first : (n : ℕ) → (first_number rs == n) ≡ true → first_number rs ≡ n
    is-first n e = grind (arith, nat_tests)

    there-rs : (n : ℕ) → (first_number rs == n) ≡ true → l' n ≡ rs
    there-rs n e = subst (λ m. l' m ≡ rs) (is-first n e) here

    old-rests : (n q : ℕ) → is_listed rs q ≡ true → is_listed (l n) q ≡ true → ⊥
    old-rests n q a b = cc (sym (rests q a) ∙ g.flies n q b)

    named : (n : ℕ) (b : Bool) → (first_number rs == n) ≡ b → has_first (l' n) ≡ true → first_number (l' n) ≡ n
    named n true e h = ap first_number (there-rs n e) ∙ is-first n e
    named n false e h = ap first_number (there n e) ∙ g.named n (ap has_first (sym (there n e)) ∙ h)

    or-left : (a b : Bool) → a ≡ true → (a || b) ≡ true
    or-left true b h = refl
    or-left false b h = cc

    or-right : (a b : Bool) → b ≡ true → (a || b) ≡ true
    or-right true b h = refl
    or-right false b h = h

    fly : (n q : ℕ) (b : Bool) → (first_number rs == n) ≡ b → is_listed (l' n) q ≡ true → f' q ≡ true
    fly n q true e h = flies q ∙ or-left (is_listed rs q) (f q) (ap (λ z. is_listed z q) (sym (there-rs n e)) ∙ h)
    fly n q false e h = flies q ∙ or-right (is_listed rs q) (f q) (g.flies n q (ap (λ z. is_listed z q) (sym (there n e)) ∙ h))

    held : (q : ℕ) (b : Bool) → is_listed rs q ≡ b → (is_listed rs q || f q) ≡ true → (n : ℕ) × (is_listed (l' n) q ≡ true)
    held q true e h = (first_number rs, ap (λ z. is_listed z q) here ∙ e)
    held q false e h = before (g.held q (ap (λ b. b || f q) (sym e) ∙ h))
      where
        before : (n : ℕ) × (is_listed (l n) q ≡ true) → (n : ℕ) × (is_listed (l' n) q ≡ true)
        before p = at (first_number rs == p.0) refl
          where
            at : (b : Bool) → (first_number rs == p.0) ≡ b → (n : ℕ) × (is_listed (l' n) q ≡ true)
            at true k =
                let one = is-first p.0 k in
                let fr = rests (first_number rs) (first-listed rs some) in
                absurd (cc (sym p.1 ∙ ap (λ z. is_listed z q) (lone-leads l f p.0 g (subst (λ m. f m ≡ false) one fr))))
            at false k = (p.0, ap (λ z. is_listed z q) (there p.0 k) ∙ p.1)

    alone : (n m q : ℕ) (a : Bool) → (first_number rs == n) ≡ a → (b : Bool) → (first_number rs == m) ≡ b → is_listed (l' n) q ≡ true → is_listed (l' m) q ≡ true → n ≡ m
    alone n m q true a true b h k = sym (is-first n a) ∙ is-first m b
    alone n m q true a false b h k = absurd (old-rests m q (ap (λ z. is_listed z q) (sym (there-rs n a)) ∙ h) (ap (λ z. is_listed z q) (sym (there m b)) ∙ k))
    alone n m q false a true b h k = absurd (old-rests n q (ap (λ z. is_listed z q) (sym (there-rs m b)) ∙ k) (ap (λ z. is_listed z q) (sym (there n a)) ∙ h))
    alone n m q false a false b h k = g.alone n m q (ap (λ z. is_listed z q) (sym (there n a)) ∙ h) (ap (λ z. is_listed z q) (sym (there m b)) ∙ k)

-- a span that is resolved
pub holds-less : (l l' : ℕ → List ReadRequest) (f f' : ℕ → Bool) (rs : List ReadRequest) → Holds l f → l (first_number rs) ≡ rs → l' (first_number rs) ≡ []
    → ((n : ℕ) → (first_number rs == n) ≡ false → l' n ≡ l n) → ((q : ℕ) → f' q ≡ cond (is_listed rs q) false (f q)) → Holds l' f'
holds-less l l' f f' rs g was here there flies = record {
  named = λ n. named n (first_number rs == n) refl;
  flies = λ n q. fly n q (first_number rs == n) refl;
  held = λ q h. held q (is_listed rs q) refl (sym (flies q) ∙ h);
  alone = λ n m q. alone n m q (first_number rs == n) refl (first_number rs == m) refl;
}
  where
    is-first : (n : ℕ) → (first_number rs == n) ≡ true → first_number rs ≡ n
    is-first n e = grind (arith, nat_tests)

    gone : (n : ℕ) → (first_number rs == n) ≡ true → l' n ≡ []
    gone n e = subst (λ m. l' m ≡ []) (is-first n e) here

    named : (n : ℕ) (b : Bool) → (first_number rs == n) ≡ b → has_first (l' n) ≡ true → first_number (l' n) ≡ n
    named n true e h = cc (sym h ∙ ap has_first (gone n e))
    named n false e h = ap first_number (there n e) ∙ g.named n (ap has_first (sym (there n e)) ∙ h)

    other : (n q : ℕ) → (first_number rs == n) ≡ false → is_listed (l n) q ≡ true → (b : Bool) → is_listed rs q ≡ b → is_listed rs q ≡ false
    other n q e h false k = k
    other n q e h true k =
        let same : first_number rs ≡ n = g.alone (first_number rs) n q (ap (λ z. is_listed z q) was ∙ k) h in
        let clash : (first_number rs == n) ≡ true = grind (arith, nat_tests) in
        cc (sym e ∙ clash)

    fly : (n q : ℕ) (b : Bool) → (first_number rs == n) ≡ b → is_listed (l' n) q ≡ true → f' q ≡ true
    fly n q true e h = cc (sym h ∙ ap (λ z. is_listed z q) (gone n e))
    fly n q false e h =
        let old = ap (λ z. is_listed z q) (sym (there n e)) ∙ h in
        flies q ∙ ap (λ b. cond b false (f q)) (other n q e old (is_listed rs q) refl) ∙ g.flies n q old

    held : (q : ℕ) (b : Bool) → is_listed rs q ≡ b → cond (is_listed rs q) false (f q) ≡ true → (n : ℕ) × (is_listed (l' n) q ≡ true)
    held q true e h = cc (sym h ∙ ap (λ b. cond b false (f q)) e)
    held q false e h = before (g.held q (ap (λ b. cond b false (f q)) (sym e) ∙ h))
      where
        before : (n : ℕ) × (is_listed (l n) q ≡ true) → (n : ℕ) × (is_listed (l' n) q ≡ true)
        before p = at (first_number rs == p.0) refl
          where
            at : (b : Bool) → (first_number rs == p.0) ≡ b → (n : ℕ) × (is_listed (l' n) q ≡ true)
            at true k = cc (sym e ∙ ap (λ z. is_listed z q) (sym was) ∙ ap (λ m. is_listed (l m) q) (is-first p.0 k) ∙ p.1)
            at false k = (p.0, ap (λ z. is_listed z q) (there p.0 k) ∙ p.1)

    alone : (n m q : ℕ) (a : Bool) → (first_number rs == n) ≡ a → (b : Bool) → (first_number rs == m) ≡ b → is_listed (l' n) q ≡ true → is_listed (l' m) q ≡ true → n ≡ m
    alone n m q true a b k h j = cc (sym h ∙ ap (λ z. is_listed z q) (gone n a))
    alone n m q false a true k h j = cc (sym j ∙ ap (λ z. is_listed z q) (gone m k))
    alone n m q false a false k h j = g.alone n m q (ap (λ z. is_listed z q) (sym (there n a)) ∙ h) (ap (λ z. is_listed z q) (sym (there m k)) ∙ j)

-- spans that are named by their first reads are distinct
pub flights-distinct : (n : ℕ) (reads : Reads) → Rise n reads → ((m : ℕ) → has_first (leads_at reads m) ≡ true → first_number (leads_at reads m) ≡ m) → FirstNumbersRise n (flights reads)
flights-distinct n [] r h = tt
flights-distinct n (x ∷ rest) r h =
    at (has_first x.leads) refl (flights-distinct (x.request.id + 1) rest r.1 (λ m k. h-rest m k (x.request.id == m) refl)) (first (x.request.id == x.request.id) refl)
  where
    self : (x.request.id == x.request.id) ≡ true
    self = grind (arith, nat_tests)

    h-rest : (m : ℕ) → has_first (leads_at rest m) ≡ true → (b : Bool) → (x.request.id == m) ≡ b → first_number (leads_at rest m) ≡ m
    h-rest m k true e =
        let low : m < x.request.id + 1 = grind (arith, nat_tests) in
        cc (sym k ∙ ap (λ z. has_first (if_leads z)) (rise-none (x.request.id + 1) rest m r.1 low))
    h-rest m k false e =
        let same : leads_at (x ∷ rest) m ≡ leads_at rest m = ap (λ b. if_leads (cond b (Some x) (read_at rest m))) e in
        ap first_number (sym same) ∙ h m (ap has_first same ∙ k)

    first : (b : Bool) → (x.request.id == x.request.id) ≡ b → has_first x.leads ≡ true → first_number x.leads ≡ x.request.id
    first true e k =
        let same : leads_at (x ∷ rest) x.request.id ≡ x.leads = ap (λ b. if_leads (cond b (Some x) (read_at rest x.request.id))) self in
        ap first_number (sym same) ∙ h x.request.id (ap has_first same ∙ k)
    first false e k = cc (sym e ∙ self)

    lower : (m k : ℕ) (spans : List (List ReadRequest)) → k ≤ m → FirstNumbersRise m spans → FirstNumbersRise k spans
    lower m k [] l f = tt
    lower m k (s ∷ ss) l f = (let a = f.0 in omega arith, f.1)

    at : (b : Bool) → has_first x.leads ≡ b → FirstNumbersRise (x.request.id + 1) (flights rest) → (has_first x.leads ≡ true → first_number x.leads ≡ x.request.id) → FirstNumbersRise n (cond b (x.leads ∷ flights rest) (flights rest))
    at true e f named = let one = named e in let low = r.0 in (omega arith, rw one f)
    at false e f named = let low = r.0 in lower (x.request.id + 1) n (flights rest) (omega arith) f

-- what is known of reads in order
pub record Kept (reads : Reads) : Type 0 where
  pub rise : Rise 0 reads
  pub holds : Holds (leads_at reads) (flying_at reads)

pub flights-kept : (reads : Reads) → Kept reads → AreFlights reads
flights-kept reads k = record { distinct = flights-distinct 0 reads k.rise k.holds.named; holds = k.holds }

-- ---- what each change makes of what is known

waits-rest : (x : Option Known) (r : ReadRequest) → if_waiting x ≡ Some r → if_flying x ≡ false
waits-rest None r h = cc
waits-rest (Some x) r h = at x.state h
  where
    at : (s : ReadState) → cond (is_waiting s) (Some x.request) None ≡ Some r → is_flying s ≡ false
    at state.Registered h = refl
    at state.Polled h = refl
    at state.InFlight h = cc
    at state.Resolved h = refl

module _ (reads : Reads) (k : Kept reads) where
  abbrev after-poll : ℕ → Reads
  after-poll id = change (λ n. n == id) poll_read reads

  pub polled-kept : (id : ℕ) → Kept (after-poll id)
  polled-kept id = record {
    rise = change-rise (λ n. n == id) poll_read 0 reads poll-numbers k.rise;
    holds = holds-along (leads_at reads) (leads_at (after-poll id)) (flying_at reads) (flying_at (after-poll id)) leads flying k.holds;
  }
    where
      leads : (n : ℕ) → leads_at (after-poll id) n ≡ leads_at reads n
      leads n = ap if_leads (change-at (λ n. n == id) poll_read 0 reads n poll-numbers k.rise) ∙ at (n == id) (read_at reads n)
        where
          at : (b : Bool) (x : Option Known) → if_leads (cond b (step poll_read x) x) ≡ if_leads x
          at true None = refl
          at true (Some x) = refl
          at false x = refl

      same : (s : ReadState) → is_flying (after_poll s) ≡ is_flying s
      same state.Registered = refl
      same state.Polled = refl
      same state.InFlight = refl
      same state.Resolved = refl

      flying : (n : ℕ) → flying_at (after-poll id) n ≡ flying_at reads n
      flying n = ap if_flying (change-at (λ n. n == id) poll_read 0 reads n poll-numbers k.rise) ∙ at (n == id) (read_at reads n)
        where
          at : (b : Bool) (x : Option Known) → if_flying (cond b (step poll_read x) x) ≡ if_flying x
          at true None = refl
          at true (Some x) = same x.state
          at false x = refl

  abbrev after-drop : ℕ → Reads
  after-drop id = change (λ n. n == id) drop_read reads

  pub dropped-kept : (id : ℕ) → Kept (after-drop id)
  dropped-kept id = record {
    rise = change-rise (λ n. n == id) drop_read 0 reads drop-numbers k.rise;
    holds = holds-along (leads_at reads) (leads_at (after-drop id)) (flying_at reads) (flying_at (after-drop id)) leads flying k.holds;
  }
    where
      drop-leads : (x : Known) (s : ReadState) → (is_flying s ≡ false → x.leads ≡ []) → if_leads (drop_read (record x { state = s })) ≡ x.leads
      drop-leads x state.Registered h = sym (h refl)
      drop-leads x state.Polled h = sym (h refl)
      drop-leads x state.InFlight h = refl
      drop-leads x state.Resolved h = sym (h refl)

      leads : (n : ℕ) → leads_at (after-drop id) n ≡ leads_at reads n
      leads n = ap if_leads (change-at (λ n. n == id) drop_read 0 reads n drop-numbers k.rise) ∙ at (n == id) (read_at reads n) refl
        where
          at : (b : Bool) (x : Option Known) → read_at reads n ≡ x → if_leads (cond b (step drop_read x) x) ≡ if_leads x
          at true None e = refl
          at true (Some x) e = drop-leads x x.state (λ h. sym (ap if_leads e) ∙ lone-leads (leads_at reads) (flying_at reads) n k.holds (ap if_flying e ∙ h))
          at false x e = refl

      drop-flies : (x : Known) (s : ReadState) → if_flying (drop_read (record x { state = s })) ≡ is_flying s
      drop-flies x state.Registered = refl
      drop-flies x state.Polled = refl
      drop-flies x state.InFlight = refl
      drop-flies x state.Resolved = refl

      flying : (n : ℕ) → flying_at (after-drop id) n ≡ flying_at reads n
      flying n = ap if_flying (change-at (λ n. n == id) drop_read 0 reads n drop-numbers k.rise) ∙ at (n == id) (read_at reads n)
        where
          at : (b : Bool) (x : Option Known) → if_flying (cond b (step drop_read x) x) ≡ if_flying x
          at true None = refl
          at true (Some x) = drop-flies x x.state
          at false x = refl

  pub added-kept : (r : ReadRequest) → ((q : ℕ) → r.id ≤ q → read_at reads q ≡ None) → Kept (reads ++ register_read r ∷ [])
  added-kept r none = record {
    rise = added-rise 0 reads r (omega arith) k.rise none;
    holds = holds-along (leads_at reads) (leads_at (reads ++ register_read r ∷ [])) (flying_at reads) (flying_at (reads ++ register_read r ∷ [])) leads flying k.holds;
  }
    where
      gone : (n : ℕ) → (r.id == n) ≡ true → read_at reads n ≡ None
      gone n e =
          let past : r.id ≤ n = grind (arith, nat_tests) in
          none n past

      leads : (n : ℕ) → leads_at (reads ++ register_read r ∷ []) n ≡ leads_at reads n
      leads n = ap if_leads (added-at reads r n (none r.id (omega arith))) ∙ at (r.id == n) refl
        where
          at : (b : Bool) → (r.id == n) ≡ b → if_leads (cond b (Some (register_read r)) (read_at reads n)) ≡ leads_at reads n
          at true e = sym (ap if_leads (gone n e))
          at false e = refl

      flying : (n : ℕ) → flying_at (reads ++ register_read r ∷ []) n ≡ flying_at reads n
      flying n = ap if_flying (added-at reads r n (none r.id (omega arith))) ∙ at (r.id == n) refl
        where
          at : (b : Bool) → (r.id == n) ≡ b → if_flying (cond b (Some (register_read r)) (read_at reads n)) ≡ flying_at reads n
          at true e = sym (ap if_flying (gone n e))
          at false e = refl

  module _ (rs : List ReadRequest) (some : 1 ≤ length rs) where
    abbrev after-take : Reads
    after-take = change (is_listed rs) (take_read rs) reads

    pub take-at : (q : ℕ) → read_at after-take q ≡ cond (is_listed rs q) (step (take_read rs) (read_at reads q)) (read_at reads q)
    take-at q = change-at (is_listed rs) (take_read rs) 0 reads q (take-numbers rs) k.rise

    read-number : (n : ℕ) (x : Known) → read_at reads n ≡ Some x → x.request.id ≡ n
    read-number n x e = number reads e
      where
        number : (all : Reads) → read_at all n ≡ Some x → x.request.id ≡ n
        number [] h = cc
        number (y ∷ rest) h = at (y.request.id == n) refl h (number rest)
          where
            at : (b : Bool) → (y.request.id == n) ≡ b → cond b (Some y) (read_at rest n) ≡ Some x → (read_at rest n ≡ Some x → x.request.id ≡ n) → x.request.id ≡ n
            at true v h more =
                let one : y.request.id ≡ n = grind (arith, nat_tests) in
                ap (λ (o : Option Known). (unwrap_or o y).request.id) (sym h) ∙ one
            at false v h more = more h

    take-leads : (x : Known) (s : ReadState) → is_waiting s ≡ true → if_leads (take_read rs (record x { state = s })) ≡ cond (x.request.id == first_number rs) rs []
    take-leads x state.Registered h = refl
    take-leads x state.Polled h = refl
    take-leads x state.InFlight h = cc
    take-leads x state.Resolved h = cc

    take-flies : (x : Known) (s : ReadState) → is_waiting s ≡ true → if_flying (take_read rs (record x { state = s })) ≡ true
    take-flies x state.Registered h = refl
    take-flies x state.Polled h = refl
    take-flies x state.InFlight h = cc
    take-flies x state.Resolved h = cc

    waits-state : (x : Known) (b : Bool) → is_some (cond b (Some x.request) None) ≡ true → b ≡ true
    waits-state x true h = refl
    waits-state x false h = cc

    module _ (waits : (q : ℕ) → is_listed rs q ≡ true → is_some (waiting_at reads q) ≡ true) where
      pub listed-rests : (q : ℕ) → is_listed rs q ≡ true → flying_at reads q ≡ false
      listed-rests q l = at (waiting_at reads q) refl (waits q l)
        where
          at : (w : Option ReadRequest) → waiting_at reads q ≡ w → is_some w ≡ true → flying_at reads q ≡ false
          at None e h = cc
          at (Some r) e h = waits-rest (read_at reads q) r e

      pub leads-now : (n : ℕ) → leads_at after-take n ≡ cond (is_listed rs n) (cond (n == first_number rs) rs []) (leads_at reads n)
      leads-now n = ap if_leads (take-at n) ∙ at (is_listed rs n) refl (read_at reads n) refl
        where
          at : (b : Bool) → is_listed rs n ≡ b → (x : Option Known) → read_at reads n ≡ x → if_leads (cond b (step (take_read rs) x) x) ≡ cond b (cond (n == first_number rs) rs []) (if_leads x)
          at true l None e = cc (sym (waits n l) ∙ ap (λ z. is_some (if_waiting z)) e)
          at true l (Some x) e = take-leads x x.state (waits-state x (is_waiting x.state) (ap (λ z. is_some (if_waiting z)) (sym e) ∙ waits n l)) ∙ ap (λ m. cond (m == first_number rs) rs []) (read-number n x e)
          at false l x e = refl

      pub flying-now : (q : ℕ) → flying_at after-take q ≡ (is_listed rs q || flying_at reads q)
      flying-now q = ap if_flying (take-at q) ∙ at (is_listed rs q) refl (read_at reads q) refl
        where
          at : (b : Bool) → is_listed rs q ≡ b → (x : Option Known) → read_at reads q ≡ x → if_flying (cond b (step (take_read rs) x) x) ≡ (b || if_flying x)
          at true l None e = cc (sym (waits q l) ∙ ap (λ z. is_some (if_waiting z)) e)
          at true l (Some x) e = take-flies x x.state (waits-state x (is_waiting x.state) (ap (λ z. is_some (if_waiting z)) (sym e) ∙ waits q l))
          at false l x e = refl

      pub leads-first : leads_at after-take (first_number rs) ≡ rs
      leads-first =
          let self : (first_number rs == first_number rs) ≡ true = grind (arith, nat_tests) in
          leads-now (first_number rs) ∙ ap (λ b. cond b (cond (first_number rs == first_number rs) rs []) (leads_at reads (first_number rs))) (first-listed rs some)
          ∙ ap (λ b. cond b rs []) self

      pub leads-other : (n : ℕ) → (first_number rs == n) ≡ false → leads_at after-take n ≡ leads_at reads n
      leads-other n e = leads-now n ∙ at (is_listed rs n) refl
        where
          at : (b : Bool) → is_listed rs n ≡ b → cond b (cond (n == first_number rs) rs []) (leads_at reads n) ≡ leads_at reads n
          at true l =
              let flip : (n == first_number rs) ≡ false = grind (arith, nat_tests) in
              ap (λ b. cond b rs []) flip ∙ sym (lone-leads (leads_at reads) (flying_at reads) n k.holds (listed-rests n l))
          at false l = refl

      pub taken-kept : Kept after-take
      taken-kept = record {
        rise = change-rise (is_listed rs) (take_read rs) 0 reads (take-numbers rs) k.rise;
        holds = holds-more (leads_at reads) (leads_at after-take) (flying_at reads) (flying_at after-take) rs some k.holds leads-first leads-other flying-now listed-rests;
      }

    module _ (leads : leads_at reads (first_number rs) ≡ rs) where
      abbrev after-resolve : Reads
      after-resolve = change (is_listed rs) resolve_read reads

      resolve-at : (q : ℕ) → read_at after-resolve q ≡ cond (is_listed rs q) (step resolve_read (read_at reads q)) (read_at reads q)
      resolve-at q = change-at (is_listed rs) resolve_read 0 reads q resolve-numbers k.rise

      pub listed-flies : (q : ℕ) → is_listed rs q ≡ true → flying_at reads q ≡ true
      listed-flies q l = k.holds.flies (first_number rs) q (ap (λ z. is_listed z q) leads ∙ l)

      resolve-leads : (x : Known) (s : ReadState) (d : Bool) → is_flying s ≡ true → if_leads (resolve_read (record x { state = s; dropped = d })) ≡ []
      resolve-leads x state.Registered d h = cc
      resolve-leads x state.Polled d h = cc
      resolve-leads x state.InFlight true h = refl
      resolve-leads x state.InFlight false h = refl
      resolve-leads x state.Resolved d h = cc

      resolve-flies : (x : Known) (s : ReadState) (d : Bool) → if_flying (resolve_read (record x { state = s; dropped = d })) ≡ false
      resolve-flies x state.Registered d = refl
      resolve-flies x state.Polled d = refl
      resolve-flies x state.InFlight true = refl
      resolve-flies x state.InFlight false = refl
      resolve-flies x state.Resolved d = refl

      flying-left : (q : ℕ) → flying_at after-resolve q ≡ cond (is_listed rs q) false (flying_at reads q)
      flying-left q = ap if_flying (resolve-at q) ∙ at (is_listed rs q) (read_at reads q)
        where
          at : (b : Bool) (x : Option Known) → if_flying (cond b (step resolve_read x) x) ≡ cond b false (if_flying x)
          at true None = refl
          at true (Some x) = resolve-flies x x.state x.dropped
          at false x = refl

      leads-gone : (n : ℕ) → is_listed rs n ≡ true → leads_at after-resolve n ≡ []
      leads-gone n l = ap if_leads (resolve-at n ∙ ap (λ b. cond b (step resolve_read (read_at reads n)) (read_at reads n)) l) ∙ at (read_at reads n) refl
        where
          at : (x : Option Known) → read_at reads n ≡ x → if_leads (step resolve_read x) ≡ []
          at None e = refl
          at (Some x) e = resolve-leads x x.state x.dropped (ap if_flying (sym e) ∙ listed-flies n l)

      pub leads-left : (n : ℕ) → (first_number rs == n) ≡ false → leads_at after-resolve n ≡ leads_at reads n
      leads-left n e = at (is_listed rs n) refl
        where
          none : (b : Bool) → has_first (leads_at reads n) ≡ b → is_listed rs n ≡ true → leads_at reads n ≡ []
          none false h l = no-first (leads_at reads n) h
          none true h l =
              let mine = subst (λ m. is_listed (leads_at reads n) m ≡ true) (k.holds.named n h) (some-listed (leads_at reads n) h) in
              let same : first_number rs ≡ n = k.holds.alone (first_number rs) n n (ap (λ z. is_listed z n) leads ∙ l) mine in
              let clash : (first_number rs == n) ≡ true = grind (arith, nat_tests) in
              cc (sym e ∙ clash)

          at : (b : Bool) → is_listed rs n ≡ b → leads_at after-resolve n ≡ leads_at reads n
          at true l = leads-gone n l ∙ sym (none (has_first (leads_at reads n)) refl l)
          at false l = ap if_leads (resolve-at n ∙ ap (λ b. cond b (step resolve_read (read_at reads n)) (read_at reads n)) l)

      pub resolved-kept : Kept after-resolve
      resolved-kept = record {
        rise = change-rise (is_listed rs) resolve_read 0 reads resolve-numbers k.rise;
        holds = holds-less (leads_at reads) (leads_at after-resolve) (flying_at reads) (flying_at after-resolve) rs k.holds leads (leads-gone (first_number rs) (first-listed rs some)) leads-left flying-left;
      }
