-- The end of a live number.
use Rattle.std.proofs.Common.{◌≡◌, ℕ, ◌+◌, ◌-◌, ◌≤◌, Bool, true, false, cond, [], ◌∷◌, ◌++◌, Option, Some, None, refl, sym, ap, ◌∙◌, subst, arith, ◌==◌, ◌&&◌}
use Rattle.std.specs.Prelude.{slice_get, nat_le, is_none, is_some}
use Rattle.std.specs.Option.{option_map}
use Rattle.std.proofs.lemmas.Bool.{eqb-true, eqb-false, ne_eqb, le-leb, lt-leb, leb-true, leb-false, and_right}
use Rattle.std.proofs.lemmas.List.{append-nil}
use Rattle.vx_sched.specs.Reads.{drop_read}
use Rattle.vx_sched.specs.Scheduling.{Scheduler, IsLegal, replay, dropped}
use Rattle.vx_sched.specs.declared.event.Event.TheVariants as event
use Rattle.vx_sched.proofs.SoundLemmas.{waiting-dropped, polled-dropped, sound-dropped}
use Rattle.vx_sched.proofs.CountLemmas.{ranges-less, drop-leads}
use Rattle.vx_source.specs.Events.{told_end}
use Rattle.vx_source.specs.Fits.{World}
use Rattle.vx_source.specs.History.{is_that, uses, is_good, is_bad}
use Rattle.vx_source.specs.Kept.{Kept, update, ended, one_less, left_core, without_user, without_held, standing_in, standing_at, segment_at, users_in, users_at, polled_in, outcome_in, bytes_in, bytes_of}
use Rattle.vx_source.specs.Stands.{Words, HasWords, Ties, users_of, waits, is_due, waiting, request_of}
use Rattle.vx_source.specs.Requests.{Request, SharedRead}
use Rattle.vx_source.specs.declared.span.SpanOutcome.{SpanOutcome}
use Rattle.vx_source.proofs.SlotLemmas.{get-update_same, get-update_other, length-update}
use Rattle.vx_source.proofs.TallyLemmas.{count-same, count-more}
use Rattle.vx_source.proofs.WordLemmas.{eq-self, that-self, replay-append, legal-append, live-of, within-of, used-of}

-- the words after a number ended
abbrev pub ended_words : Words → ℕ → (ℕ → Bool) → Words
ended_words v n polled = record v {
  live = λ q. cond (q == n) false (v.live q);
  polled = polled;
  events = v.events ++ told_end (users_of v) (v.read n);
}

-- ---- slots

ended-standing : (o : Option Request) → standing_in (option_map ended o) ≡ None
ended-standing None = refl
ended-standing (Some q) = refl

ended-segment : (o : Option Request) → option_map (λ (q : Request). q.segment) (option_map ended o) ≡ option_map (λ (q : Request). q.segment) o
ended-segment None = refl
ended-segment (Some q) = refl

less-users : (o : Option SharedRead) → users_in (option_map one_less o) ≡ users_in o - 1
less-users None = refl
less-users (Some x) = refl

less-polled : (o : Option SharedRead) → polled_in (option_map one_less o) ≡ polled_in o
less-polled None = refl
less-polled (Some x) = refl

less-outcome : (o : Option SharedRead) → outcome_in (option_map one_less o) ≡ outcome_in o
less-outcome None = refl
less-outcome (Some x) = refl

less-bytes : (o : Option SharedRead) → 2 ≤ users_in o → bytes_in (option_map one_less o) ≡ bytes_in o
less-bytes None h = refl
less-bytes (Some x) h = ap (λ b. cond b None x.bytes) (lt-leb x.users 1 (omega (arith, h)))

left-core : (s : Scheduler) (r u : ℕ) (o : Option SharedRead) → users_in o ≡ u → 1 ≤ u → left_core s r o ≡ cond (nat_le u 1) (dropped s r) s
left-core s r u None e h = absurd (omega arith)
left-core s r u (Some x) e h = ap (λ n. cond (nat_le n 1) (dropped s r) s) e

module _ (w : World) (v : Words) (k : Kept) (n : ℕ) (polled : ℕ → Bool) (st : HasWords w v k)
    (same-polled : (q : ℕ) → v.outcome q ≡ None → polled q ≡ v.polled q) where
  -- ---- what a number's end changes of the requests
  ended-at : (q : ℕ) → standing_at (update ended k.requests n) q ≡ cond (cond (q == n) false (v.live q)) (Some (v.read q)) None
  ended-at q = at (q == n) refl
    where
      at : (b : Bool) → (q == n) ≡ b → standing_at (update ended k.requests n) q ≡ cond (cond b false (v.live q)) (Some (v.read q)) None
      at true e =
          let is = eqb-true q n e in
          ap (λ m. standing_in (slice_get (update ended k.requests n) m)) is ∙ ap standing_in (get-update_same ended k.requests n) ∙ ended-standing (slice_get k.requests n)
      at false e = ap standing_in (get-update_other ended k.requests n q (eqb-false q n e)) ∙ st.standing q

  segment-at : (q : ℕ) → segment_at (update ended k.requests n) q ≡ v.segment q
  segment-at q = at (q == n) refl
    where
      at : (b : Bool) → (q == n) ≡ b → segment_at (update ended k.requests n) q ≡ v.segment q
      at true e =
          let is = eqb-true q n e in
          ap (λ m. segment_at (update ended k.requests n) m) is ∙ ap (λ o. option_map (λ (x : Request). x.segment) o) (get-update_same ended k.requests n)
          ∙ ended-segment (slice_get k.requests n) ∙ st.segment n ∙ ap v.segment (sym is)
      at false e = ap (λ o. option_map (λ (x : Request). x.segment) o) (get-update_other ended k.requests n q (eqb-false q n e)) ∙ st.segment q

  due-same : (q : ℕ) → waits (ended_words v n polled) q ≡ waits v q → is_due (ended_words v n polled) q ≡ is_due v q
  due-same q e = at (v.outcome q) refl
    where
      at : (o : Option SpanOutcome) → v.outcome q ≡ o → (polled q && waits (ended_words v n polled) q) ≡ (v.polled q && waits v q)
      at None h = ap (λ b. b && waits (ended_words v n polled) q) (same-polled q h) ∙ ap (λ b. v.polled q && b) e
      at (Some o) h =
          let none : waits v q ≡ false = ap (λ x. is_none x && nat_le 1 (users_of v q)) h in
          and_right (polled q) (waits (ended_words v n polled) q) (e ∙ none) ∙ sym (and_right (v.polled q) (waits v q) none)

  -- a number that is live still was so before
  still-live : (q : ℕ) (b : Bool) → cond b false (v.live q) ≡ true → v.live q ≡ true
  still-live q true e = cc
  still-live q false e = e

  still-joined : (q r s : ℕ) → cond (q == n) false (v.live q) ≡ true → v.read q ≡ Some r → v.segment q ≡ Some s → is_bad (v.outcome r) ≡ false → v.latest s ≡ Some r
  still-joined q r s l read segment fine = st.known.joined q r s (still-live q (q == n) l) read segment fine

  -- ---- a number that is held
  module _ (held : standing_at k.requests n ≡ Some None) where
    held-users : (q : ℕ) → users_of (ended_words v n polled) q ≡ users_of v q
    held-users q = count-same v.made (uses (ended_words v n polled).live v.read q) (uses v.live v.read q) (λ i l. at i (i == n) refl)
      where
        at : (i : ℕ) (b : Bool) → (i == n) ≡ b → (cond (i == n) false (v.live i) && is_that q (v.read i)) ≡ (v.live i && is_that q (v.read i))
        at i true e =
            let none : is_that q (v.read i) ≡ false = ap (is_that q) (ap v.read (eqb-true i n e) ∙ (live-of w v k st n None held).1) in
            and_right (cond (i == n) false (v.live i)) (is_that q (v.read i)) none ∙ sym (and_right (v.live i) (is_that q (v.read i)) none)
        at i false e = ap (λ b. cond b false (v.live i) && is_that q (v.read i)) e

    held-waits : (q : ℕ) → waits (ended_words v n polled) q ≡ waits v q
    held-waits q = ap (λ u. is_none (v.outcome q) && nat_le 1 u) (held-users q)

    held-events : v.events ++ told_end (users_of v) (v.read n) ≡ v.events
    held-events = ap (λ o. v.events ++ told_end (users_of v) o) (live-of w v k st n None held).1 ∙ append-nil v.events

    pub held-ends : HasWords w (ended_words v n polled) (without_held k n)
    held-ends = record {
      table = st.table;
      start = st.start;
      idle = st.idle;
      rested = st.rested;
      core = st.core ∙ ap (replay w.idle) (sym held-events);
      legal = subst (IsLegal w.idle) (sym held-events) st.legal;
      ties = record {
        waiting = λ q. st.ties.waiting q ∙ sym (ap (λ b. cond b (request_of w v q) None) (held-waits q));
        due = λ q. st.ties.due q ∙ sym (due-same q (held-waits q));
        settings = st.ties.settings;
        next = st.ties.next;
        rests = st.ties.rests;
        sound = st.ties.sound;
      };
      known = record { known = st.known.known; held = st.known.held; shared = st.known.shared; newest = st.known.newest; joined = still-joined };
      count = length-update ended k.requests n ∙ st.count;
      places = st.places;
      segments = st.segments;
      standing = ended-at;
      segment = segment-at;
      users = λ q. st.users q ∙ sym (held-users q);
      polled = λ q none. st.polled q none ∙ sym (same-polled q none);
      outcome = st.outcome;
      bytes = λ q u good. st.bytes q (let e = held-users q in omega (arith, u, e)) good;
      latest = st.latest;
      metrics = st.metrics;
      ends = st.ends;
    }

  -- ---- a number that has a read
  module _ (r : ℕ) (stands : standing_at k.requests n ≡ Some (Some r)) where
    used : 1 ≤ users_of v r
    used = used-of w v k st n r stands

    -- its read has one live number less
    read-users : users_of v r ≡ users_of (ended_words v n polled) r + 1
    read-users =
        let h = live-of w v k st n (Some r) stands in
        count-more v.made n (uses v.live v.read r) (uses (ended_words v n polled).live v.read r) (within-of w v k st n (Some r) stands)
        (λ i ne. sym (ap (λ b. cond b false (v.live i) && is_that r (v.read i)) (ne_eqb i n ne)))
        (ap (λ b. b && is_that r (v.read n)) h.0 ∙ ap (is_that r) h.1 ∙ that-self r)
        (ap (λ b. cond b false (v.live n) && is_that r (v.read n)) (eq-self n))

    -- the others have as many
    other-users : (q : ℕ) → (q == r) ≡ false → users_of (ended_words v n polled) q ≡ users_of v q
    other-users q other = count-same v.made (uses (ended_words v n polled).live v.read q) (uses v.live v.read q) (λ i l. at i (i == n) refl)
      where
        at : (i : ℕ) (b : Bool) → (i == n) ≡ b → (cond (i == n) false (v.live i) && is_that q (v.read i)) ≡ (v.live i && is_that q (v.read i))
        at i true e =
            let apart : (r == q) ≡ false = ne_eqb r q (λ same. eqb-false q r other (sym same)) in
            let none : is_that q (v.read i) ≡ false = ap (is_that q) (ap v.read (eqb-true i n e) ∙ (live-of w v k st n (Some r) stands).1) ∙ apart in
            and_right (cond (i == n) false (v.live i)) (is_that q (v.read i)) none ∙ sym (and_right (v.live i) (is_that q (v.read i)) none)
        at i false e = ap (λ b. cond b false (v.live i) && is_that q (v.read i)) e

    users-now : (q : ℕ) → users_at (update one_less k.reads r) q ≡ users_of (ended_words v n polled) q
    users-now q = at (q == r) refl
      where
        at : (b : Bool) → (q == r) ≡ b → users_at (update one_less k.reads r) q ≡ users_of (ended_words v n polled) q
        at true e =
            let is = eqb-true q r e in
            let less = ap users_in (get-update_same one_less k.reads r) ∙ less-users (slice_get k.reads r) in
            let before = st.users r in
            let one = read-users in
            let here : users_at (update one_less k.reads r) r ≡ users_of (ended_words v n polled) r = omega (arith, less, before, one) in
            ap (users_at (update one_less k.reads r)) is ∙ here ∙ ap (users_of (ended_words v n polled)) (sym is)
        at false e = ap users_in (get-update_other one_less k.reads r q (eqb-false q r e)) ∙ st.users q ∙ sym (other-users q e)

    -- a look-up that a user less does not change
    kept-at : {A : Type 0} (f : Option SharedRead → A) → ((o : Option SharedRead) → f (option_map one_less o) ≡ f o) → (q : ℕ) → f (slice_get (update one_less k.reads r) q) ≡ f (slice_get k.reads q)
    kept-at f same q = at (q == r) refl
      where
        at : (b : Bool) → (q == r) ≡ b → f (slice_get (update one_less k.reads r) q) ≡ f (slice_get k.reads q)
        at true e =
            let is = eqb-true q r e in
            ap (λ m. f (slice_get (update one_less k.reads r) m)) is ∙ ap f (get-update_same one_less k.reads r) ∙ same (slice_get k.reads r) ∙ ap (λ m. f (slice_get k.reads m)) (sym is)
        at false e = ap f (get-update_other one_less k.reads r q (eqb-false q r e))

    bytes-now : (q : ℕ) → 1 ≤ users_of (ended_words v n polled) q → is_good (v.outcome q) ≡ true → is_some (bytes_of (update one_less k.reads r) q) ≡ true
    bytes-now q u good = at (q == r) refl
      where
        at : (b : Bool) → (q == r) ≡ b → is_some (bytes_of (update one_less k.reads r) q) ≡ true
        at true e =
            let is = eqb-true q r e in
            let u' : 1 ≤ users_of (ended_words v n polled) r = subst (λ m. 1 ≤ users_of (ended_words v n polled) m) is u in
            let one = read-users in
            let before = st.users r in
            let same = less-bytes (slice_get k.reads r) (omega (arith, u', one, before)) in
            ap (λ m. is_some (bytes_of (update one_less k.reads r) m)) is ∙ ap (λ o. is_some (bytes_in o)) (get-update_same one_less k.reads r) ∙ ap is_some same
            ∙ st.bytes r (omega (arith, u', one)) (ap (λ m. is_good (v.outcome m)) (sym is) ∙ good)
        at false e =
            ap (λ o. is_some (bytes_in o)) (get-update_other one_less k.reads r q (eqb-false q r e))
            ∙ st.bytes q (let same = other-users q e in omega (arith, u, same)) good

    core-now : left_core k.core r (slice_get k.reads r) ≡ cond (nat_le (users_of v r) 1) (dropped k.core r) k.core
    core-now = left-core k.core r (users_of v r) (slice_get k.reads r) (st.users r) used

    events-now : (b : Bool) → nat_le (users_of v r) 1 ≡ b → v.events ++ told_end (users_of v) (v.read n) ≡ v.events ++ cond b (event.Dropped r ∷ []) []
    events-now b e = ap (λ o. v.events ++ told_end (users_of v) o) (live-of w v k st n (Some r) stands).1 ∙ ap (λ c. v.events ++ cond c (event.Dropped r ∷ []) []) e

    -- the scheduler with the last live number gone
    last-waits : users_of v r ≤ 1 → (q : ℕ) → waits (ended_words v n polled) q ≡ cond (q == r) false (waits v q)
    last-waits last q = at (q == r) refl
      where
        at : (b : Bool) → (q == r) ≡ b → waits (ended_words v n polled) q ≡ cond b false (waits v q)
        at true e =
            let is = eqb-true q r e in
            let one = read-users in
            let none : nat_le 1 (users_of (ended_words v n polled) r) ≡ false = lt-leb 1 (users_of (ended_words v n polled) r) (omega (arith, last, one)) in
            and_right (is_none (v.outcome q)) (nat_le 1 (users_of (ended_words v n polled) q)) (ap (λ m. nat_le 1 (users_of (ended_words v n polled) m)) is ∙ none)
        at false e = ap (λ u. is_none (v.outcome q) && nat_le 1 u) (other-users q e)

    more-waits : 2 ≤ users_of v r → (q : ℕ) → waits (ended_words v n polled) q ≡ waits v q
    more-waits more q = at (q == r) refl
      where
        at : (b : Bool) → (q == r) ≡ b → waits (ended_words v n polled) q ≡ waits v q
        at true e =
            let is = eqb-true q r e in
            let one = read-users in
            let now : nat_le 1 (users_of (ended_words v n polled) r) ≡ true = le-leb 1 (users_of (ended_words v n polled) r) (omega (arith, more, one)) in
            let before : nat_le 1 (users_of v r) ≡ true = le-leb 1 (users_of v r) (omega (arith, more)) in
            ap (λ m. is_none (v.outcome q) && nat_le 1 (users_of (ended_words v n polled) m)) is ∙ ap (λ b. is_none (v.outcome q) && b) (now ∙ sym before)
            ∙ ap (λ m. is_none (v.outcome q) && nat_le 1 (users_of v m)) (sym is)
        at false e = ap (λ u. is_none (v.outcome q) && nat_le 1 u) (other-users q e)

    dropped-due : (q : ℕ) → users_of v r ≤ 1 → is_due (ended_words v n polled) q ≡ cond (q == r) false (is_due v q)
    dropped-due q last = at (q == r) refl
      where
        at : (b : Bool) → (q == r) ≡ b → is_due (ended_words v n polled) q ≡ cond b false (is_due v q)
        at true e = and_right (polled q) (waits (ended_words v n polled) q) (last-waits last q ∙ ap (λ b. cond b false (waits v q)) e)
        at false e = due-same q (last-waits last q ∙ ap (λ b. cond b false (waits v q)) e)

    ties-dropped : users_of v r ≤ 1 → Ties w (ended_words v n polled) (dropped k.core r)
    ties-dropped last = record {
      waiting = λ q. waiting-dropped k.core st.ties.sound r q ∙ ap (λ o. cond (q == r) None o) (st.ties.waiting q) ∙ at q (q == r) refl;
      due = λ q. polled-dropped k.core st.ties.sound r q ∙ ap (λ o. cond (q == r) false o) (st.ties.due q) ∙ sym (dropped-due q last);
      settings = let s = st.ties.settings in record { distance = s.distance; limit = s.limit; alignment = s.alignment; concurrency = s.concurrency };
      next = st.ties.next;
      rests = let less = ranges-less (λ m. m == r) drop_read k.core.reads drop-leads in let rests = st.ties.rests in omega (arith, less, rests);
      sound = sound-dropped k.core r st.ties.sound;
    }
      where
        at : (q : ℕ) (b : Bool) → (q == r) ≡ b → cond (q == r) None (waiting w v q) ≡ waiting w (ended_words v n polled) q
        at q true e = ap (λ c. cond c None (waiting w v q)) e ∙ sym (ap (λ c. cond c (request_of w v q) None) (last-waits last q ∙ ap (λ c. cond c false (waits v q)) e))
        at q false e = ap (λ c. cond c None (waiting w v q)) e ∙ sym (ap (λ c. cond c (request_of w v q) None) (last-waits last q ∙ ap (λ c. cond c false (waits v q)) e))

    ties-same : 2 ≤ users_of v r → Ties w (ended_words v n polled) k.core
    ties-same more = record {
      waiting = λ q. st.ties.waiting q ∙ sym (ap (λ b. cond b (request_of w v q) None) (more-waits more q));
      due = λ q. st.ties.due q ∙ sym (due-same q (more-waits more q));
      settings = st.ties.settings;
      next = st.ties.next;
      rests = st.ties.rests;
      sound = st.ties.sound;
    }

    -- the scheduler, its events and what it has
    record Core (s : Scheduler) : Type 0 where
      core : s ≡ replay w.idle (ended_words v n polled).events
      legal : IsLegal w.idle (ended_words v n polled).events
      ties : Ties w (ended_words v n polled) s

    core-at : (b : Bool) → nat_le (users_of v r) 1 ≡ b → Core (cond b (dropped k.core r) k.core)
    core-at true e =
        let events = events-now true e in
        record {
          core = ap (λ s. dropped s r) st.core ∙ sym (replay-append w.idle v.events (event.Dropped r ∷ [])) ∙ ap (replay w.idle) (sym events);
          legal = subst (IsLegal w.idle) (sym events) (legal-append w.idle v.events (event.Dropped r ∷ []) st.legal (tt, tt));
          ties = ties-dropped (leb-true (users_of v r) 1 e);
        }
    core-at false e =
        let events = events-now false e ∙ append-nil v.events in
        record {
          core = st.core ∙ ap (replay w.idle) (sym events);
          legal = subst (IsLegal w.idle) (sym events) st.legal;
          ties = ties-same (let l = leb-false (users_of v r) 1 e in omega (arith, l));
        }

    core-is : Core (left_core k.core r (slice_get k.reads r))
    core-is = subst Core (sym core-now) (core-at (nat_le (users_of v r) 1) refl)

    pub read-ends : HasWords w (ended_words v n polled) (without_user k n r)
    read-ends = record {
      table = st.table;
      start = st.start;
      idle = st.idle;
      rested = st.rested;
      core = core-is.core;
      legal = core-is.legal;
      ties = core-is.ties;
      known = record { known = st.known.known; held = st.known.held; shared = st.known.shared; newest = st.known.newest; joined = still-joined };
      count = length-update ended k.requests n ∙ st.count;
      places = length-update one_less k.reads r ∙ st.places;
      segments = st.segments;
      standing = ended-at;
      segment = segment-at;
      users = users-now;
      polled = λ q none. kept-at polled_in less-polled q ∙ st.polled q none ∙ sym (same-polled q none);
      outcome = λ q. kept-at outcome_in less-outcome q ∙ st.outcome q;
      bytes = bytes-now;
      latest = st.latest;
      metrics = st.metrics;
      ends = st.ends;
    }
