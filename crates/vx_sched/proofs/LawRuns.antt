-- The scheduling law, over runs of events.
use Rattle.std.proofs.Common.{◌≡◌, ℕ, ◌+◌, ◌<◌, ◌≤◌, ◌==◌, ◌||◌, ◌⊎◌, inl, inr, Bool, true, false, cond, not, List, [], ◌∷◌, Option, Some, None, IsSome, refl, ap, sym, ◌∙◌, subst, arith}
use Rattle.std.proofs.lemmas.Bool.Decides.{nat_tests}
use Rattle.std.proofs.lemmas.Bool.{cases_lt}
use Rattle.std.proofs.Math.Logic.{⊎_elim}
use Rattle.std.specs.List.{AllByRecursion, list_any}
use Rattle.vx_sched.specs.Span.{Span}
use Rattle.vx_sched.specs.Reads.{Known, Reads, read_at, waiting_at, ranges_in_flight, if_waiting, Rise, change, register_read, poll_read, drop_read, take_read, resolve_read}
use Rattle.vx_sched.specs.Merging.{is_listed}
use Rattle.vx_sched.specs.Scheduling.{Scheduler, IsLegal, IsLegalNow, MergesInTurn, replay, after_event, taken, all_taken}
use Rattle.vx_sched.specs.Law.{IsSound, idle, Keeps, requests, drops, times_in, times_of, times_taken}
use Rattle.vx_sched.specs.declared.request.ReadRequest.{ReadRequest}
use Rattle.vx_sched.specs.declared.read.ReadState.{ReadState}
use Rattle.vx_sched.specs.declared.read.ReadState.TheVariants as state
use Rattle.vx_sched.specs.declared.event.Event.{Event}
use Rattle.vx_sched.specs.declared.event.Event.TheVariants as event
use Rattle.vx_sched.proofs.InsertLemmas.{or-false}
use Rattle.vx_sched.proofs.ChangeLemmas.{KeepsNumbers, step, change-at, added-at}
use Rattle.vx_sched.proofs.SeenLemmas.{poll-numbers, drop-numbers, take-numbers, resolve-numbers}
use Rattle.vx_sched.proofs.CountLemmas.{ranges-less, ranges-added, poll-leads, drop-leads, resolve-leads}
use Rattle.vx_sched.proofs.SoundLemmas.{sound-event, sound-taken, sound-all_taken, waiting-requested, waiting-polled, waiting-dropped, waiting-taken, waiting-resolved}

pub taken-next : (s : Scheduler) (spans : List Span) → (all_taken s spans).next ≡ s.next
taken-next s [] = refl
taken-next s (span ∷ rest) = taken-next (taken s span) rest

pub taken-concurrency : (s : Scheduler) (spans : List Span) → (all_taken s spans).concurrency ≡ s.concurrency
taken-concurrency s [] = refl
taken-concurrency s (span ∷ rest) = taken-concurrency (taken s span) rest

-- what is taken does not wait
pub listed-gone : (s : Scheduler) (span : Span) (q : ℕ) → IsSound s → is_listed span.reads q ≡ true → waiting_at (taken s span).reads q ≡ None
listed-gone s span q h l = waiting-taken s h span q ∙ ap (λ b. cond b None (waiting_at s.reads q)) l

pub stays-gone : (s : Scheduler) (span : Span) (q : ℕ) → IsSound s → waiting_at s.reads q ≡ None → waiting_at (taken s span).reads q ≡ None
stays-gone s span q h w = waiting-taken s h span q ∙ at (is_listed span.reads q)
  where
    at : (b : Bool) → cond b None (waiting_at s.reads q) ≡ None
    at true = refl
    at false = w

pub taken-gone : (s : Scheduler) (spans : List Span) (q : ℕ) → IsSound s → MergesInTurn s spans → waiting_at s.reads q ≡ None → waiting_at (all_taken s spans).reads q ≡ None
taken-gone s [] q h m w = w
taken-gone s (span ∷ rest) q h m w = taken-gone (taken s span) rest q (sound-taken s span h m.0) m.1 (stays-gone s span q h w)

pub sound-run : (events : List Event) (s : Scheduler) → IsSound s → IsLegal s events → IsSound (replay s events)
sound-run [] s h l = h
sound-run (e ∷ rest) s h l = sound-run rest (after_event s e) (sound-event s e h l.0) l.1

-- a number whose read waits no more never waits again
record Gone (s : Scheduler) (q : ℕ) : Type 0 where
  rests : waiting_at s.reads q ≡ None
  known : q < s.next

gone-event : (s : Scheduler) (e : Event) (q : ℕ) → IsSound s → IsLegalNow s e → Gone s q → Gone (after_event s e) q
gone-event s (event.Request r) q h l g =
    let number = l.0 in
    let known = g.known in
    let apart : (r.id == q) ≡ false = grind (arith, nat_tests) in
    record {
      rests = waiting-requested s h r q number ∙ ap (λ b. cond b (Some r) (waiting_at s.reads q)) apart ∙ g.rests;
      known = omega arith;
    }
gone-event s (event.Polled id) q h l g = record { rests = waiting-polled s h id q ∙ g.rests; known = g.known }
gone-event s (event.Dropped id) q h l g = record { rests = waiting-dropped s h id q ∙ at (q == id); known = g.known }
  where
    at : (b : Bool) → cond b None (waiting_at s.reads q) ≡ None
    at true = refl
    at false = g.rests
gone-event s (event.Take spans) q h l g = record { rests = taken-gone s spans q h l.merge g.rests; known = rw (taken-next s spans) g.known }
gone-event s (event.Resolve span) q h l g = record { rests = waiting-resolved s h span q ∙ g.rests; known = g.known }

-- a read that does not wait is in no span
pub unlisted : (w : ℕ → Option ReadRequest) (rs : List ReadRequest) (q : ℕ) → AllByRecursion (λ r. w r.id ≡ Some r) rs → w q ≡ None → is_listed rs q ≡ false
unlisted w [] q a h = refl
unlisted w (r ∷ rest) q a h = at (r.id == q) refl (unlisted w rest q a.1 h)
  where
    at : (b : Bool) → (r.id == q) ≡ b → is_listed rest q ≡ false → (b || is_listed rest q) ≡ false
    at true e m =
        let same : r.id ≡ q = grind (arith, nat_tests) in
        cc (sym (subst (λ n. w n ≡ Some r) same a.0) ∙ h)
    at false e m = m

turn-zero : (s : Scheduler) (spans : List Span) (q : ℕ) → IsSound s → MergesInTurn s spans → waiting_at s.reads q ≡ None → times_in q spans ≡ 0
turn-zero s [] q h m w = refl
turn-zero s (span ∷ rest) q h m w =
    let not-here = unlisted (waiting_at s.reads) span.reads q m.0.merges.waits w in
    let none-left = turn-zero (taken s span) rest q (sound-taken s span h m.0) m.1 (stays-gone s span q h w) in
    rw not-here (omega (arith, none-left))

-- spans in turn list a number at most once, and then its read waits no more
turn-once : (s : Scheduler) (spans : List Span) (q : ℕ) → IsSound s → MergesInTurn s spans → (times_in q spans ≡ 0) ⊎ ((times_in q spans ≡ 1) × (waiting_at (all_taken s spans).reads q ≡ None))
turn-once s [] q h m = inl refl
turn-once s (span ∷ rest) q h m = at (is_listed span.reads q) refl (turn-once (taken s span) rest q (sound-taken s span h m.0) m.1)
  where
    at : (b : Bool) → is_listed span.reads q ≡ b → (times_in q rest ≡ 0) ⊎ ((times_in q rest ≡ 1) × (waiting_at (all_taken (taken s span) rest).reads q ≡ None))
        → (cond b 1 0 + times_in q rest ≡ 0) ⊎ ((cond b 1 0 + times_in q rest ≡ 1) × (waiting_at (all_taken (taken s span) rest).reads q ≡ None))
    at true e step =
        let sound = sound-taken s span h m.0 in
        let waits = listed-gone s span q h e in
        let zero = turn-zero (taken s span) rest q sound m.1 waits in
        inr (omega (arith, zero), taken-gone (taken s span) rest q sound m.1 waits)
    at false e (inl z) = inl (omega (arith, z))
    at false e (inr p) = inr (omega (arith, p.0), p.1)

-- a gone number is taken no more
times-zero : (events : List Event) (s : Scheduler) (q : ℕ) → IsSound s → IsLegal s events → Gone s q → times_taken q events ≡ 0
times-zero [] s q h l g = refl
times-zero (e ∷ rest) s q h l g =
    let more = times-zero rest (after_event s e) q (sound-event s e h l.0) l.1 (gone-event s e q h l.0 g) in
    let here = event-zero e l.0 in
    omega (arith, more, here)
  where
    event-zero : (e : Event) → IsLegalNow s e → times_of q e ≡ 0
    event-zero (event.Request r) k = refl
    event-zero (event.Polled id) k = refl
    event-zero (event.Dropped id) k = refl
    event-zero (event.Take spans) k = turn-zero s spans q h k.merge g.rests
    event-zero (event.Resolve span) k = refl

-- no number is taken twice
times-once : (events : List Event) (s : Scheduler) (q : ℕ) → IsSound s → IsLegal s events → times_taken q events ≤ 1
times-once [] s q h l = omega arith
times-once (event.Request r ∷ rest) s q h l = let m = times-once rest (after_event s (event.Request r)) q (sound-event s (event.Request r) h l.0) l.1 in omega (arith, m)
times-once (event.Polled id ∷ rest) s q h l = let m = times-once rest (after_event s (event.Polled id)) q (sound-event s (event.Polled id) h l.0) l.1 in omega (arith, m)
times-once (event.Dropped id ∷ rest) s q h l = let m = times-once rest (after_event s (event.Dropped id)) q (sound-event s (event.Dropped id) h l.0) l.1 in omega (arith, m)
times-once (event.Resolve span ∷ rest) s q h l = let m = times-once rest (after_event s (event.Resolve span)) q (sound-event s (event.Resolve span) h l.0) l.1 in omega (arith, m)
times-once (event.Take spans ∷ rest) s q h l = at (turn-once s spans q h l.0.merge) (times-once rest (all_taken s spans) q (sound-all_taken s spans h l.0.merge) l.1)
  where
    at : (times_in q spans ≡ 0) ⊎ ((times_in q spans ≡ 1) × (waiting_at (all_taken s spans).reads q ≡ None)) → times_taken q rest ≤ 1 → times_in q spans + times_taken q rest ≤ 1
    at (inl z) m = omega (arith, z, m)
    at (inr p) m = ⊎_elim
        (λ (k : q < s.next).
        let zero = times-zero rest (all_taken s spans) q (sound-all_taken s spans h l.0.merge) l.1 (record { rests = p.1; known = rw (taken-next s spans) k }) in
        omega (arith, zero, p.0))
        (λ (k : s.next ≤ q).
        let zero = turn-zero s spans q h l.0.merge (ap if_waiting (h.ordered.below q k)) in
        omega (arith, zero, m))
        (cases_lt q s.next)

-- ---- a read that is never dropped stays

abbrev unmarked : Option Known → Bool
unmarked None = false
unmarked (Some x) = not x.dropped

-- a change keeps reads that were not dropped
abbrev KeepsReads : (Known → Option Known) → Type 0
KeepsReads made = (x : Known) → not x.dropped ≡ true → unmarked (made x) ≡ true

poll-keeps : KeepsReads poll_read
poll-keeps x h = h

take-keeps : (rs : List ReadRequest) → KeepsReads (take_read rs)
take-keeps rs x h = at x.state
  where
    at : (t : ReadState) → unmarked (take_read rs (record x { state = t })) ≡ true
    at state.Registered = h
    at state.Polled = h
    at state.InFlight = h
    at state.Resolved = h

resolve-keeps : KeepsReads resolve_read
resolve-keeps x h = at x.state x.dropped h
  where
    at : (t : ReadState) (d : Bool) → not d ≡ true → unmarked (resolve_read (record x { state = t; dropped = d })) ≡ true
    at state.Registered d k = k
    at state.Polled d k = k
    at state.InFlight true k = cc
    at state.InFlight false k = refl
    at state.Resolved d k = k

kept-changed : (among : ℕ → Bool) (made : Known → Option Known) (reads : Reads) (q : ℕ) → KeepsNumbers made → KeepsReads made → Rise 0 reads → unmarked (read_at reads q) ≡ true → unmarked (read_at (change among made reads) q) ≡ true
kept-changed among made reads q n k r h = ap unmarked (change-at among made 0 reads q n r) ∙ at (among q) (read_at reads q) h
  where
    at : (b : Bool) (x : Option Known) → unmarked x ≡ true → unmarked (cond b (step made x) x) ≡ true
    at true None h = cc
    at true (Some x) h = k x h
    at false x h = h

kept-other : (id : ℕ) (made : Known → Option Known) (reads : Reads) (q : ℕ) → KeepsNumbers made → Rise 0 reads → (q == id) ≡ false → unmarked (read_at reads q) ≡ true → unmarked (read_at (change (λ n. n == id) made reads) q) ≡ true
kept-other id made reads q n r e h = ap unmarked (change-at (λ n. n == id) made 0 reads q n r ∙ ap (λ b. cond b (step made (read_at reads q)) (read_at reads q)) e) ∙ h

kept-taken : (s : Scheduler) (spans : List Span) (q : ℕ) → IsSound s → MergesInTurn s spans → unmarked (read_at s.reads q) ≡ true → unmarked (read_at (all_taken s spans).reads q) ≡ true
kept-taken s [] q h m k = k
kept-taken s (span ∷ rest) q h m k =
    kept-taken (taken s span) rest q (sound-taken s span h m.0) m.1 (kept-changed (is_listed span.reads) (take_read span.reads) s.reads q (take-numbers span.reads) (take-keeps span.reads) h.ordered.rise k)

flip-false : (a b : ℕ) → (a == b) ≡ false → (b == a) ≡ false
flip-false a b h = grind (arith, nat_tests)

put-unmarked : (s : Scheduler) (r : ReadRequest) (q : ℕ) → IsSound s → s.next ≤ r.id → ((r.id == q) ≡ true) ⊎ (unmarked (read_at s.reads q) ≡ true) → unmarked (read_at (after_event s (event.Request r)).reads q) ≡ true
put-unmarked s r q h l k = ap unmarked (added-at s.reads r q (h.ordered.below r.id l)) ∙ at (r.id == q) refl k
  where
    at : (b : Bool) → (r.id == q) ≡ b → ((r.id == q) ≡ true) ⊎ (unmarked (read_at s.reads q) ≡ true) → unmarked (cond b (Some (register_read r)) (read_at s.reads q)) ≡ true
    at true e k = refl
    at false e (inl k) = cc (sym e ∙ k)
    at false e (inr k) = k

kept-event : (e : Event) (s : Scheduler) (q : ℕ) → IsSound s → IsLegalNow s e → drops q e ≡ false → unmarked (read_at s.reads q) ≡ true → unmarked (read_at (after_event s e).reads q) ≡ true
kept-event (event.Request r) s q h l d k = put-unmarked s r q h l.0 (inr k)
kept-event (event.Polled id) s q h l d k = kept-changed (λ n. n == id) poll_read s.reads q poll-numbers poll-keeps h.ordered.rise k
kept-event (event.Dropped id) s q h l d k = kept-other id drop_read s.reads q drop-numbers h.ordered.rise (flip-false id q d) k
kept-event (event.Take spans) s q h l d k = kept-taken s spans q h l.merge k
kept-event (event.Resolve span) s q h l d k = kept-changed (is_listed span.reads) resolve_read s.reads q resolve-numbers resolve-keeps h.ordered.rise k

kept-run : (events : List Event) (s : Scheduler) (q : ℕ) → IsSound s → IsLegal s events → unmarked (read_at s.reads q) ≡ true → list_any (drops q) events ≡ false → unmarked (read_at (replay s events).reads q) ≡ true
kept-run [] s q h l k d = k
kept-run (e ∷ rest) s q h l k d =
    let apart = or-false (drops q e) (list_any (drops q) rest) d in
    kept-run rest (after_event s e) q (sound-event s e h l.0) l.1 (kept-event e s q h l.0 apart.0 k) apart.1

-- a number that is asked for, by this event
asks : (e : Event) (s : Scheduler) (q : ℕ) → IsSound s → IsLegalNow s e → requests q e ≡ true → unmarked (read_at (after_event s e).reads q) ≡ true
asks (event.Request r) s q h l a = put-unmarked s r q h l.0 (inl a)
asks (event.Polled id) s q h l a = cc
asks (event.Dropped id) s q h l a = cc
asks (event.Take spans) s q h l a = cc
asks (event.Resolve span) s q h l a = cc

kept-law : (events : List Event) (s : Scheduler) (q : ℕ) → IsSound s → IsLegal s events → list_any (requests q) events ≡ true → list_any (drops q) events ≡ false → unmarked (read_at (replay s events).reads q) ≡ true
kept-law [] s q h l a d = cc
kept-law (e ∷ rest) s q h l a d =
    let apart = or-false (drops q e) (list_any (drops q) rest) d in
    at (requests q e) refl a apart.1 (kept-law rest (after_event s e) q (sound-event s e h l.0) l.1)
  where
    at : (b : Bool) → requests q e ≡ b → (b || list_any (requests q) rest) ≡ true → list_any (drops q) rest ≡ false
        → (list_any (requests q) rest ≡ true → list_any (drops q) rest ≡ false → unmarked (read_at (replay (after_event s e) rest).reads q) ≡ true)
        → unmarked (read_at (replay (after_event s e) rest).reads q) ≡ true
    at true r a d step = kept-run rest (after_event s e) q (sound-event s e h l.0) l.1 (asks e s q h l.0 r) d
    at false r a d step = step a d

there-is : (x : Option Known) → unmarked x ≡ true → IsSome x
there-is None h = cc
there-is (Some x) h = refl

-- ---- few ranges are in flight

fits-run : (events : List Event) (s : Scheduler) → IsSound s → IsLegal s events → ranges_in_flight s.reads ≤ s.concurrency → ranges_in_flight (replay s events).reads ≤ s.concurrency
fits-run [] s h l f = f
fits-run (event.Request r ∷ rest) s h l f =
    fits-run rest (after_event s (event.Request r)) (sound-event s (event.Request r) h l.0) l.1 (let one = ranges-added s.reads r in omega (arith, one, f))
fits-run (event.Polled id ∷ rest) s h l f =
    fits-run rest (after_event s (event.Polled id)) (sound-event s (event.Polled id) h l.0) l.1 (let one = ranges-less (λ n. n == id) poll_read s.reads poll-leads in omega (arith, one, f))
fits-run (event.Dropped id ∷ rest) s h l f =
    fits-run rest (after_event s (event.Dropped id)) (sound-event s (event.Dropped id) h l.0) l.1 (let one = ranges-less (λ n. n == id) drop_read s.reads drop-leads in omega (arith, one, f))
fits-run (event.Take spans ∷ rest) s h l f =
    subst (λ n. ranges_in_flight (replay (all_taken s spans) rest).reads ≤ n) (taken-concurrency s spans)
    (fits-run rest (all_taken s spans) (sound-all_taken s spans h l.0.merge) l.1 (subst (λ n. ranges_in_flight (all_taken s spans).reads ≤ n) (sym (taken-concurrency s spans)) l.0.fit))
fits-run (event.Resolve span ∷ rest) s h l f =
    fits-run rest (after_event s (event.Resolve span)) (sound-event s (event.Resolve span) h l.0) l.1 (let one = ranges-less (is_listed span.reads) resolve_read s.reads resolve-leads in omega (arith, one, f))

-- ---- the law

pub idle-sound : (distance limit : Option ℕ) (alignment concurrency : ℕ) → IsSound (idle distance limit alignment concurrency)
idle-sound distance limit alignment concurrency = record {
  ordered = record { rise = tt; below = λ q b. refl };
  spans = record {
    distinct = tt;
    holds = record { named = λ n h. cc; flies = λ n q h. cc; held = λ q h. cc; alone = λ n m q a b. cc };
  };
}

pub keeps : (distance limit : Option ℕ) (alignment concurrency : ℕ) (events : List Event) → IsLegal (idle distance limit alignment concurrency) events → Keeps (idle distance limit alignment concurrency) events
keeps distance limit alignment concurrency events l =
    let sound = idle-sound distance limit alignment concurrency in
    record {
      sound = sound-run events (idle distance limit alignment concurrency) sound l;
      kept = λ q a d. there-is (read_at (replay (idle distance limit alignment concurrency) events).reads q) (kept-law events (idle distance limit alignment concurrency) q sound l a d);
      taken = λ q. times-once events (idle distance limit alignment concurrency) q sound l;
      fits = fits-run events (idle distance limit alignment concurrency) sound l (omega arith);
    }
