-- What holds of a scheduler after each event, and what waits and is polled then.
use Rattle.std.proofs.Common.{◌≡◌, ℕ, ◌≤◌, ◌==◌, ◌∷◌, Bool, true, false, cond, List, [], length, Option, Some, None, refl, ap, sym, ◌∙◌, subst, arith}
use Rattle.std.specs.Prelude.{is_some}
use Rattle.std.proofs.lemmas.Bool.Decides.{nat_tests}
use Rattle.vx_sched.specs.Span.{Span}
use Rattle.vx_sched.specs.Merging.{is_listed}
use Rattle.vx_sched.specs.Reads.{Known, Reads, read_at, waiting_at, polled_at, if_waiting, if_polled, is_waiting, is_polled, after_poll, Rise, change, register_read, poll_read, drop_read, take_read, resolve_read}
use Rattle.vx_sched.specs.Scheduling.{Scheduler, MergesNow, IsInFlight, IsLegalNow, MergesInTurn, after_event, requested, polled, dropped, taken, all_taken, resolved}
use Rattle.vx_sched.specs.Law.{IsSound}
use Rattle.vx_sched.proofs.GroupLemmas.{listed-some}
use Rattle.vx_sched.proofs.ChangeLemmas.{KeepsNumbers, step, change-at, added-at}
use Rattle.vx_sched.proofs.SeenLemmas.{poll-numbers, drop-numbers, take-numbers, resolve-numbers}
use Rattle.vx_sched.proofs.FlightLemmas.{Kept, flights-kept, polled-kept, dropped-kept, added-kept, taken-kept, resolved-kept}
use Rattle.vx_sched.specs.declared.request.ReadRequest.{ReadRequest}
use Rattle.vx_sched.specs.declared.event.Event.{Event}
use Rattle.vx_sched.specs.declared.event.Event.TheVariants as event
use Rattle.vx_sched.specs.declared.read.ReadState.{ReadState}
use Rattle.vx_sched.specs.declared.read.ReadState.TheVariants as state

pub kept-of : (s : Scheduler) → IsSound s → Kept s.reads
kept-of s h = record { rise = h.ordered.rise; holds = h.spans.holds }

pub sound-of : (s : Scheduler) → Kept s.reads → ((q : ℕ) → s.next ≤ q → read_at s.reads q ≡ None) → IsSound s
sound-of s k below = record { ordered = record { rise = k.rise; below = below }; spans = flights-kept s.reads k }

-- a number without a read stays so
pub none-change : (among : ℕ → Bool) (made : Known → Option Known) (reads : Reads) (q : ℕ) → KeepsNumbers made → Rise 0 reads → read_at reads q ≡ None → read_at (change among made reads) q ≡ None
none-change among made reads q k r h = change-at among made 0 reads q k r ∙ ap (λ x. cond (among q) (step made x) x) h ∙ at (among q)
  where
    at : (b : Bool) → cond b (step made None) None ≡ None
    at true = refl
    at false = refl

-- ---- a span that merges

some-reads : (rs : List ReadRequest) (q : ℕ) → is_listed rs q ≡ true → 1 ≤ length rs
some-reads [] q h = cc
some-reads (r ∷ rs) q h = omega arith

pub merges-some : (s : Scheduler) (span : Span) → MergesNow s span → 1 ≤ length span.reads
merges-some s span m = some-reads span.reads m.next m.merges.serves

pub merges-waits : (s : Scheduler) (span : Span) → MergesNow s span → (q : ℕ) → is_listed span.reads q ≡ true → is_some (waiting_at s.reads q) ≡ true
merges-waits s span m q l = listed-some (waiting_at s.reads) span.reads q m.merges.waits l

-- ---- soundness after each event

pub sound-requested : (s : Scheduler) (r : ReadRequest) → IsSound s → s.next ≤ r.id → IsSound (requested s r)
sound-requested s r h l =
    let above : (q : ℕ) → r.id ≤ q → read_at s.reads q ≡ None = λ q b. h.ordered.below q (omega arith) in
    sound-of (requested s r) (added-kept s.reads (kept-of s h) r above)
    (λ q b.
    let apart : (r.id == q) ≡ false = grind (arith, nat_tests) in
    added-at s.reads r q (above r.id (omega arith)) ∙ ap (λ t. cond t (Some (register_read r)) (read_at s.reads q)) apart ∙ above q (omega arith))

pub sound-polled : (s : Scheduler) (id : ℕ) → IsSound s → IsSound (polled s id)
sound-polled s id h = sound-of (polled s id) (polled-kept s.reads (kept-of s h) id) (λ q b. none-change (λ n. n == id) poll_read s.reads q poll-numbers h.ordered.rise (h.ordered.below q b))

pub sound-dropped : (s : Scheduler) (id : ℕ) → IsSound s → IsSound (dropped s id)
sound-dropped s id h = sound-of (dropped s id) (dropped-kept s.reads (kept-of s h) id) (λ q b. none-change (λ n. n == id) drop_read s.reads q drop-numbers h.ordered.rise (h.ordered.below q b))

pub sound-taken : (s : Scheduler) (span : Span) → IsSound s → MergesNow s span → IsSound (taken s span)
sound-taken s span h m = sound-of (taken s span) (taken-kept s.reads (kept-of s h) span.reads (merges-some s span m) (merges-waits s span m))
    (λ q b. none-change (is_listed span.reads) (take_read span.reads) s.reads q (take-numbers span.reads) h.ordered.rise (h.ordered.below q b))

pub sound-all_taken : (s : Scheduler) (spans : List Span) → IsSound s → MergesInTurn s spans → IsSound (all_taken s spans)
sound-all_taken s [] h m = h
sound-all_taken s (span ∷ rest) h m = sound-all_taken (taken s span) rest (sound-taken s span h m.0) m.1

pub sound-resolved : (s : Scheduler) (span : Span) → IsSound s → IsInFlight s span → IsSound (resolved s span)
sound-resolved s span h f = sound-of (resolved s span) (resolved-kept s.reads (kept-of s h) span.reads f.some f.leads)
    (λ q b. none-change (is_listed span.reads) resolve_read s.reads q resolve-numbers h.ordered.rise (h.ordered.below q b))

pub sound-event : (s : Scheduler) (e : Event) → IsSound s → IsLegalNow s e → IsSound (after_event s e)
sound-event s (event.Request r) h l = sound-requested s r h l.0
sound-event s (event.Polled id) h l = sound-polled s id h
sound-event s (event.Dropped id) h l = sound-dropped s id h
sound-event s (event.Take spans) h l = sound-all_taken s spans h l.merge
sound-event s (event.Resolve span) h l = sound-resolved s span h l

-- ---- what waits and what is polled

module _ (s : Scheduler) (h : IsSound s) where
  pub waiting-polled : (id q : ℕ) → waiting_at (polled s id).reads q ≡ waiting_at s.reads q
  waiting-polled id q = ap if_waiting (change-at (λ n. n == id) poll_read 0 s.reads q poll-numbers h.ordered.rise) ∙ at (q == id) (read_at s.reads q)
    where
      stage : (x : Known) (t : ReadState) → cond (is_waiting (after_poll t)) (Some x.request) None ≡ cond (is_waiting t) (Some x.request) None
      stage x state.Registered = refl
      stage x state.Polled = refl
      stage x state.InFlight = refl
      stage x state.Resolved = refl

      at : (b : Bool) (x : Option Known) → if_waiting (cond b (step poll_read x) x) ≡ if_waiting x
      at true None = refl
      at true (Some x) = stage x x.state
      at false x = refl

  pub polled-polled : (id q : ℕ) → polled_at (polled s id).reads q ≡ cond (q == id) (is_some (waiting_at s.reads q)) (polled_at s.reads q)
  polled-polled id q = ap if_polled (change-at (λ n. n == id) poll_read 0 s.reads q poll-numbers h.ordered.rise) ∙ at (q == id) (read_at s.reads q)
    where
      stage : (x : Known) (t : ReadState) → is_polled (after_poll t) ≡ is_some (cond (is_waiting t) (Some x.request) None)
      stage x state.Registered = refl
      stage x state.Polled = refl
      stage x state.InFlight = refl
      stage x state.Resolved = refl

      at : (b : Bool) (x : Option Known) → if_polled (cond b (step poll_read x) x) ≡ cond b (is_some (if_waiting x)) (if_polled x)
      at true None = refl
      at true (Some x) = stage x x.state
      at false x = refl

  drop-stage : (x : Known) (t : ReadState) → (if_waiting (drop_read (record x { state = t })) ≡ None) × (if_polled (drop_read (record x { state = t })) ≡ false)
  drop-stage x state.Registered = (refl, refl)
  drop-stage x state.Polled = (refl, refl)
  drop-stage x state.InFlight = (refl, refl)
  drop-stage x state.Resolved = (refl, refl)

  pub waiting-dropped : (id q : ℕ) → waiting_at (dropped s id).reads q ≡ cond (q == id) None (waiting_at s.reads q)
  waiting-dropped id q = ap if_waiting (change-at (λ n. n == id) drop_read 0 s.reads q drop-numbers h.ordered.rise) ∙ at (q == id) (read_at s.reads q)
    where
      at : (b : Bool) (x : Option Known) → if_waiting (cond b (step drop_read x) x) ≡ cond b None (if_waiting x)
      at true None = refl
      at true (Some x) = (drop-stage x x.state).0
      at false x = refl

  pub polled-dropped : (id q : ℕ) → polled_at (dropped s id).reads q ≡ cond (q == id) false (polled_at s.reads q)
  polled-dropped id q = ap if_polled (change-at (λ n. n == id) drop_read 0 s.reads q drop-numbers h.ordered.rise) ∙ at (q == id) (read_at s.reads q)
    where
      at : (b : Bool) (x : Option Known) → if_polled (cond b (step drop_read x) x) ≡ cond b false (if_polled x)
      at true None = refl
      at true (Some x) = (drop-stage x x.state).1
      at false x = refl

  pub waiting-requested : (r : ReadRequest) (q : ℕ) → s.next ≤ r.id → waiting_at (requested s r).reads q ≡ cond (r.id == q) (Some r) (waiting_at s.reads q)
  waiting-requested r q l = ap if_waiting (added-at s.reads r q (h.ordered.below r.id l)) ∙ at (r.id == q)
    where
      at : (b : Bool) → if_waiting (cond b (Some (register_read r)) (read_at s.reads q)) ≡ cond b (Some r) (waiting_at s.reads q)
      at true = refl
      at false = refl

  pub polled-requested : (r : ReadRequest) (q : ℕ) → s.next ≤ r.id → polled_at (requested s r).reads q ≡ polled_at s.reads q
  polled-requested r q l = ap if_polled (added-at s.reads r q (h.ordered.below r.id l)) ∙ at (r.id == q) refl
    where
      at : (b : Bool) → (r.id == q) ≡ b → if_polled (cond b (Some (register_read r)) (read_at s.reads q)) ≡ polled_at s.reads q
      at true e =
          let same : r.id ≡ q = grind (arith, nat_tests) in
          sym (ap if_polled (subst (λ n. read_at s.reads n ≡ None) same (h.ordered.below r.id l)))
      at false e = refl

  take-stage : (rs : List ReadRequest) (x : Known) (t : ReadState) → (if_waiting (take_read rs (record x { state = t })) ≡ None) × (if_polled (take_read rs (record x { state = t })) ≡ false)
  take-stage rs x state.Registered = (refl, refl)
  take-stage rs x state.Polled = (refl, refl)
  take-stage rs x state.InFlight = (refl, refl)
  take-stage rs x state.Resolved = (refl, refl)

  pub read-taken : (span : Span) (q : ℕ) → is_listed span.reads q ≡ false → read_at (taken s span).reads q ≡ read_at s.reads q
  read-taken span q l = change-at (is_listed span.reads) (take_read span.reads) 0 s.reads q (take-numbers span.reads) h.ordered.rise ∙ ap (λ b. cond b (step (take_read span.reads) (read_at s.reads q)) (read_at s.reads q)) l

  pub waiting-taken : (span : Span) (q : ℕ) → waiting_at (taken s span).reads q ≡ cond (is_listed span.reads q) None (waiting_at s.reads q)
  waiting-taken span q = ap if_waiting (change-at (is_listed span.reads) (take_read span.reads) 0 s.reads q (take-numbers span.reads) h.ordered.rise) ∙ at (is_listed span.reads q) (read_at s.reads q)
    where
      at : (b : Bool) (x : Option Known) → if_waiting (cond b (step (take_read span.reads) x) x) ≡ cond b None (if_waiting x)
      at true None = refl
      at true (Some x) = (take-stage span.reads x x.state).0
      at false x = refl

  pub polled-taken : (span : Span) (q : ℕ) → polled_at (taken s span).reads q ≡ cond (is_listed span.reads q) false (polled_at s.reads q)
  polled-taken span q = ap if_polled (change-at (is_listed span.reads) (take_read span.reads) 0 s.reads q (take-numbers span.reads) h.ordered.rise) ∙ at (is_listed span.reads q) (read_at s.reads q)
    where
      at : (b : Bool) (x : Option Known) → if_polled (cond b (step (take_read span.reads) x) x) ≡ cond b false (if_polled x)
      at true None = refl
      at true (Some x) = (take-stage span.reads x x.state).1
      at false x = refl

  resolve-stage : (x : Known) (t : ReadState) (d : Bool) → (if_waiting (resolve_read (record x { state = t; dropped = d })) ≡ cond (is_waiting t) (Some x.request) None) × (if_polled (resolve_read (record x { state = t; dropped = d })) ≡ is_polled t)
  resolve-stage x state.Registered d = (refl, refl)
  resolve-stage x state.Polled d = (refl, refl)
  resolve-stage x state.InFlight true = (refl, refl)
  resolve-stage x state.InFlight false = (refl, refl)
  resolve-stage x state.Resolved d = (refl, refl)

  pub waiting-resolved : (span : Span) (q : ℕ) → waiting_at (resolved s span).reads q ≡ waiting_at s.reads q
  waiting-resolved span q = ap if_waiting (change-at (is_listed span.reads) resolve_read 0 s.reads q resolve-numbers h.ordered.rise) ∙ at (is_listed span.reads q) (read_at s.reads q)
    where
      at : (b : Bool) (x : Option Known) → if_waiting (cond b (step resolve_read x) x) ≡ if_waiting x
      at true None = refl
      at true (Some x) = (resolve-stage x x.state x.dropped).0
      at false x = refl

  pub polled-resolved : (span : Span) (q : ℕ) → polled_at (resolved s span).reads q ≡ polled_at s.reads q
  polled-resolved span q = ap if_polled (change-at (is_listed span.reads) resolve_read 0 s.reads q resolve-numbers h.ordered.rise) ∙ at (is_listed span.reads q) (read_at s.reads q)
    where
      at : (b : Bool) (x : Option Known) → if_polled (cond b (step resolve_read x) x) ≡ if_polled x
      at true None = refl
      at true (Some x) = (resolve-stage x x.state x.dropped).1
      at false x = refl
