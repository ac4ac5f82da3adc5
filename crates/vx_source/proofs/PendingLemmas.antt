-- A poll of a number whose read waits.
use Rattle.std.proofs.Common.{◌≡◌, ℕ, ◌≤◌, Bool, true, false, cond, [], ◌∷◌, ◌++◌, Option, Some, None, refl, sym, ap, ◌∙◌, subst, arith, ◌==◌, ◌&&◌}
use Rattle.std.specs.Prelude.{slice_get, nat_le, is_none, is_some}
use Rattle.std.specs.Option.{option_map}
use Rattle.std.proofs.lemmas.Bool.{eqb-true, eqb-false, ne_eqb, le-leb}
use Rattle.std.proofs.lemmas.List.{append-nil}
use Rattle.vx_sched.specs.Reads.{waiting_at, ranges_in_flight, poll_read}
use Rattle.vx_sched.specs.Reads as core
use Rattle.vx_sched.specs.Scheduling.{IsLegal, replay, polled}
use Rattle.vx_sched.specs.declared.event.Event.TheVariants as event
use Rattle.vx_sched.proofs.SoundLemmas.{waiting-polled, polled-polled, sound-polled}
use Rattle.vx_sched.proofs.CountLemmas.{ranges-less, poll-leads}
use Rattle.vx_source.specs.Events.{told_poll}
use Rattle.vx_source.specs.Fits.{World}
use Rattle.vx_source.specs.History.{is_that}
use Rattle.vx_source.specs.Kept.{Kept, update, marked, with_poll, standing_at, users_in, polled_in, polled_at, outcome_in, bytes_in}
use Rattle.vx_source.specs.Stands.{Words, HasWords, users_of, waits, is_due, request_of}
use Rattle.vx_source.specs.Requests.{SharedRead}
use Rattle.vx_source.proofs.SlotLemmas.{get-update_same, get-update_other, length-update}
use Rattle.vx_source.proofs.WordLemmas.{eq-self, replay-append, legal-append, live-of, used-of, request-some}

-- the words after a number was polled
abbrev pub polled_words : Words → ℕ → Words
polled_words v n = record v {
  polled = λ q. cond (is_that q (v.read n)) true (v.polled q);
  events = v.events ++ told_poll v.polled (v.read n);
}

marked-users : (o : Option SharedRead) → users_in (option_map marked o) ≡ users_in o
marked-users None = refl
marked-users (Some x) = refl

marked-outcome : (o : Option SharedRead) → outcome_in (option_map marked o) ≡ outcome_in o
marked-outcome None = refl
marked-outcome (Some x) = refl

marked-bytes : (o : Option SharedRead) → bytes_in (option_map marked o) ≡ bytes_in o
marked-bytes None = refl
marked-bytes (Some x) = refl

module _ (w : World) (v : Words) (k : Kept) (n r : ℕ) (x : SharedRead) (st : HasWords w v k)
    (stands : standing_at k.requests n ≡ Some (Some r)) (found : slice_get k.reads r ≡ Some x) (none : x.outcome ≡ None) where
  read-is : v.read n ≡ Some r
  read-is = (live-of w v k st n (Some r) stands).1

  used : 1 ≤ users_of v r
  used = used-of w v k st n r stands

  outcome-none : v.outcome r ≡ None
  outcome-none = sym (st.outcome r) ∙ ap outcome_in found ∙ none

  pub it-waits : waits v r ≡ true
  it-waits = ap (λ o. is_none o && nat_le 1 (users_of v r)) outcome-none ∙ le-leb 1 (users_of v r) used

  polled-is : x.polled ≡ v.polled r
  polled-is = sym (ap polled_in found) ∙ st.polled r outcome-none

  that-is : (q : ℕ) → is_that q (v.read n) ≡ (r == q)
  that-is q = ap (is_that q) read-is

  -- ---- already polled
  module _ (again : x.polled ≡ true) where
    same-polled : (q : ℕ) → (polled_words v n).polled q ≡ v.polled q
    same-polled q = ap (λ b. cond b true (v.polled q)) (that-is q) ∙ at (r == q) refl
      where
        at : (b : Bool) → (r == q) ≡ b → cond b true (v.polled q) ≡ v.polled q
        at true e = sym again ∙ polled-is ∙ ap v.polled (eqb-true r q e)
        at false e = refl

    same-events : v.events ++ told_poll v.polled (v.read n) ≡ v.events
    same-events = ap (λ o. v.events ++ told_poll v.polled o) read-is ∙ ap (λ b. v.events ++ cond b [] (event.Polled r ∷ [])) (sym polled-is ∙ again) ∙ append-nil v.events

    pub polls-again : HasWords w (polled_words v n) k
    polls-again = record {
      table = st.table;
      start = st.start;
      idle = st.idle;
      rested = st.rested;
      core = st.core ∙ ap (replay w.idle) (sym same-events);
      legal = subst (IsLegal w.idle) (sym same-events) st.legal;
      ties = record {
        waiting = st.ties.waiting;
        due = λ q. st.ties.due q ∙ sym (ap (λ b. b && waits v q) (same-polled q));
        settings = st.ties.settings;
        next = st.ties.next;
        rests = st.ties.rests;
        sound = st.ties.sound;
      };
      known = record { known = st.known.known; held = st.known.held; shared = st.known.shared; newest = st.known.newest; joined = st.known.joined };
      count = st.count;
      places = st.places;
      segments = st.segments;
      standing = st.standing;
      segment = st.segment;
      users = st.users;
      polled = λ q o. st.polled q o ∙ sym (same-polled q);
      outcome = st.outcome;
      bytes = st.bytes;
      latest = st.latest;
      metrics = st.metrics;
      ends = st.ends;
    }

  -- ---- polled for the first time
  module _ (first : x.polled ≡ false) where
    kept-at : {A : Type 0} (f : Option SharedRead → A) → ((o : Option SharedRead) → f (option_map marked o) ≡ f o) → (q : ℕ) → f (slice_get (update marked k.reads r) q) ≡ f (slice_get k.reads q)
    kept-at f same q = at (q == r) refl
      where
        at : (b : Bool) → (q == r) ≡ b → f (slice_get (update marked k.reads r) q) ≡ f (slice_get k.reads q)
        at true e =
            let is = eqb-true q r e in
            ap (λ m. f (slice_get (update marked k.reads r) m)) is ∙ ap f (get-update_same marked k.reads r) ∙ same (slice_get k.reads r) ∙ ap (λ m. f (slice_get k.reads m)) (sym is)
        at false e = ap f (get-update_other marked k.reads r q (eqb-false q r e))

    polled-now : (q : ℕ) → v.outcome q ≡ None → polled_at (update marked k.reads r) q ≡ (polled_words v n).polled q
    polled-now q o = at (r == q) refl ∙ sym (ap (λ b. cond b true (v.polled q)) (that-is q))
      where
        at : (b : Bool) → (r == q) ≡ b → polled_at (update marked k.reads r) q ≡ cond (r == q) true (v.polled q)
        at true e =
            let is = eqb-true r q e in
            ap (λ m. polled_in (slice_get (update marked k.reads r) m)) (sym is) ∙ ap polled_in (get-update_same marked k.reads r ∙ ap (option_map marked) found)
            ∙ sym (ap (λ b. cond b true (v.polled q)) e)
        at false e =
            ap polled_in (get-update_other marked k.reads r q (λ is. eqb-false r q e (sym is))) ∙ st.polled q o ∙ sym (ap (λ b. cond b true (v.polled q)) e)

    first-events : v.events ++ told_poll v.polled (v.read n) ≡ v.events ++ event.Polled r ∷ []
    first-events = ap (λ o. v.events ++ told_poll v.polled o) read-is ∙ ap (λ b. v.events ++ cond b [] (event.Polled r ∷ [])) (sym polled-is ∙ first)

    due-now : (q : ℕ) → cond (q == r) (is_some (waiting_at k.core.reads q)) (core.polled_at k.core.reads q) ≡ is_due (polled_words v n) q
    due-now q = at (q == r) refl
      where
        at : (b : Bool) → (q == r) ≡ b → cond b (is_some (waiting_at k.core.reads q)) (core.polled_at k.core.reads q) ≡ is_due (polled_words v n) q
        at true e =
            let is = eqb-true q r e in
            let there : is_some (waiting_at k.core.reads r) ≡ true =
            ap is_some (st.ties.waiting r ∙ ap (λ b. cond b (request_of w v r) None) it-waits) ∙ request-some w v k st r used in
            let that : is_that r (v.read n) ≡ true = that-is r ∙ eq-self r in
            let now : is_due (polled_words v n) r ≡ true = ap (λ b. cond b true (v.polled r) && waits v r) that ∙ it-waits in
            ap (λ m. is_some (waiting_at k.core.reads m)) is ∙ there ∙ sym now ∙ ap (is_due (polled_words v n)) (sym is)
        at false e =
            st.ties.due q ∙ sym (ap (λ b. cond b true (v.polled q) && waits v q) (that-is q ∙ ne_eqb r q (λ is. eqb-false q r e (sym is))))

    pub polls-first : HasWords w (polled_words v n) (with_poll k r false)
    polls-first = record {
      table = st.table;
      start = st.start;
      idle = st.idle;
      rested = st.rested;
      core = ap (λ s. polled s r) st.core ∙ sym (replay-append w.idle v.events (event.Polled r ∷ [])) ∙ ap (replay w.idle) (sym first-events);
      legal = subst (IsLegal w.idle) (sym first-events) (legal-append w.idle v.events (event.Polled r ∷ []) st.legal (tt, tt));
      ties = record {
        waiting = λ q. waiting-polled k.core st.ties.sound r q ∙ st.ties.waiting q;
        due = λ q. polled-polled k.core st.ties.sound r q ∙ due-now q;
        settings = let s = st.ties.settings in record { distance = s.distance; limit = s.limit; alignment = s.alignment; concurrency = s.concurrency };
        next = st.ties.next;
        rests = let less = ranges-less (λ m. m == r) poll_read k.core.reads poll-leads in let rests = st.ties.rests in omega (arith, less, rests);
        sound = sound-polled k.core r st.ties.sound;
      };
      known = record { known = st.known.known; held = st.known.held; shared = st.known.shared; newest = st.known.newest; joined = st.known.joined };
      count = st.count;
      places = length-update marked k.reads r ∙ st.places;
      segments = st.segments;
      standing = st.standing;
      segment = st.segment;
      users = λ q. kept-at users_in marked-users q ∙ st.users q;
      polled = polled-now;
      outcome = λ q. kept-at outcome_in marked-outcome q ∙ st.outcome q;
      bytes = λ q u good. kept-at (λ o. is_some (bytes_in o)) (λ o. ap is_some (marked-bytes o)) q ∙ st.bytes q u good;
      latest = st.latest;
      metrics = st.metrics;
      ends = st.ends;
    }
