-- A register that makes a number.
use Rattle.std.proofs.Common.{◌≡◌, ℕ, ◌+◌, ◌^◌, ◌<◌, ◌≤◌, Bool, true, false, cond, List, [], ◌∷◌, ◌++◌, length, Option, Some, None, refl, sym, ap, ◌∙◌, subst, arith, ◌==◌, ◌&&◌, length-append}
use Rattle.std.specs.Prelude.{slice_get, nat_le, is_none, is_some, unwrap_or, option_and_then}
use Rattle.std.specs.Option.{option_map}
use Rattle.std.proofs.lemmas.Bool.{eqb-true, eqb-false, eq-eqb, ne_eqb, le-leb, and_right}
use Rattle.std.proofs.lemmas.List.{append-nil}
use Rattle.vx_base.specs.Buffer.{Buffer}
use Rattle.vx_base.specs.Counts.{last_count}
use Rattle.vx_base.specs.declared.segment.SegmentSpec.{SegmentSpec}
use Rattle.vx_sched.specs.Scheduling.{Scheduler, IsLegal, replay, requested}
use Rattle.vx_sched.specs.declared.event.Event.TheVariants as event
use Rattle.vx_sched.proofs.SoundLemmas.{waiting-requested, polled-requested, sound-requested}
use Rattle.vx_sched.proofs.CountLemmas.{ranges-added}
use Rattle.vx_source.specs.Events.{told_register}
use Rattle.vx_source.specs.Fits.{World, read_request}
use Rattle.vx_source.specs.History.{is_that, uses, is_good, is_bad}
use Rattle.vx_source.specs.Kept.{Kept, update, unused, begun, one_more, with_held, with_joined, with_begun, standing_of, standing_in, standing_at, segment_at, users_in, users_at, polled_in, outcome_in, bytes_in, flatten, latest_at}
use Rattle.vx_source.specs.Stands.{Words, HasWords, Ties, AreKnown, standing, users_of, waits, is_due, waiting, request_of}
use Rattle.vx_source.specs.Requests.{Request, SharedRead, Standing, Held, Reads}
use Rattle.vx_source.proofs.SlotLemmas.{get-push_last, get-push_other, get-past, get-some, get-within, get-update_same, get-update_other, length-update}
use Rattle.vx_source.proofs.TallyLemmas.{count-same, count-most, count-next}
use Rattle.vx_source.proofs.WordLemmas.{eq-self, replay-append, legal-append, live-used}

-- the words with one number more, which has this read
abbrev pub numbered : Words → ℕ → Bool → Option ℕ → Words
numbered v s held o = record v {
  made = v.made + 1;
  segment = λ q. cond (q == v.made) (Some s) (v.segment q);
  held = λ q. cond (q == v.made) held (v.held q);
  live = λ q. cond (q == v.made) true (v.live q);
  read = λ q. cond (q == v.made) o (v.read q);
}

-- the words after a held register
abbrev pub held_words : Words → ℕ → Words
held_words v s = record (numbered v s true None) { events = v.events ++ [] }

-- the words after a register that is not held and joins this read, if there is one
abbrev pub register_words : World → Words → ℕ → Option ℕ → Words
register_words w v s o = record (numbered v s false (Some (unwrap_or o v.made))) {
  latest = λ t. cond (t == s) (Some (unwrap_or o v.made)) (v.latest t);
  events = v.events ++ told_register o v.made (slice_get w.table s);
}

module _ (w : World) (v : Words) (k : Kept) (s : ℕ) (st : HasWords w v k) where
  -- ---- what is known of the new number
  places-all : {A : Type 0} (f : Option SharedRead → A) → f (slice_get k.reads v.made) ≡ f None
  places-all f = ap f (get-past k.reads v.made (let places = st.places in omega (arith, places)))

  unused-users : users_of v v.made ≡ 0
  unused-users = sym (st.users v.made) ∙ places-all users_in

  unmade-outcome : v.outcome v.made ≡ None
  unmade-outcome = sym (st.outcome v.made) ∙ places-all outcome_in

  unmade-polled : v.polled v.made ≡ false
  unmade-polled = sym (st.polled v.made unmade-outcome) ∙ places-all polled_in

  unmade-segment : v.segment v.made ≡ None
  unmade-segment = sym (st.segment v.made) ∙ ap (λ o. option_map (λ (q : Request). q.segment) o) (get-past k.requests v.made (let count = st.count in omega (arith, count)))

  -- a read of a segment keeps it
  segment-kept : (r t : ℕ) → v.segment r ≡ Some t → cond (r == v.made) (Some s) (v.segment r) ≡ Some t
  segment-kept r t e = at (r == v.made) refl
    where
      at : (b : Bool) → (r == v.made) ≡ b → cond b (Some s) (v.segment r) ≡ Some t
      at true is = let clash : None ≡ Some t = sym unmade-segment ∙ ap v.segment (sym (eqb-true r v.made is)) ∙ e in cc
      at false is = e

  -- ---- what one request more changes
  module _ (held : Bool) (o : Option ℕ) where
    users-more : (q : ℕ) → users_of (numbered v s held o) q ≡ users_of v q + cond (is_that q o) 1 0
    users-more q =
        let next = count-next v.made (uses (numbered v s held o).live (numbered v s held o).read q) in
        let rest = count-same v.made (uses (numbered v s held o).live (numbered v s held o).read q) (uses v.live v.read q)
        (λ i l. ap (λ b. cond b true (v.live i) && is_that q (cond b o (v.read i))) (ne_eqb i v.made (λ e. omega arith))) in
        let last : uses (numbered v s held o).live (numbered v s held o).read q v.made ≡ is_that q o =
        ap (λ b. cond b true (v.live v.made) && is_that q (cond b o (v.read v.made))) (eq-self v.made) in
        next ∙ ap (λ n. n + cond (uses (numbered v s held o).live (numbered v s held o).read q v.made) 1 0) rest ∙ ap (λ b. users_of v q + cond b 1 0) last

    standing-more : (q : ℕ) (x : Standing) → standing_of x ≡ Some o → standing_at (k.requests ++ record { segment = s; standing = x } ∷ []) q ≡ standing (numbered v s held o) q
    standing-more q x h = at (q == v.made) refl
      where
        at : (b : Bool) → (q == v.made) ≡ b → standing_at (k.requests ++ record { segment = s; standing = x } ∷ []) q ≡ cond (cond b true (v.live q)) (Some (cond b o (v.read q))) None
        at true e =
            let is : q ≡ length k.requests = eqb-true q v.made e ∙ sym st.count in
            ap (λ m. standing_in (slice_get (k.requests ++ record { segment = s; standing = x } ∷ []) m)) is ∙ ap standing_in (get-push_last k.requests (record { segment = s; standing = x })) ∙ h
        at false e =
            ap standing_in (get-push_other k.requests (record { segment = s; standing = x }) q (λ is. eqb-false q v.made e (is ∙ st.count))) ∙ st.standing q

    segment-more : (q : ℕ) (x : Standing) → segment_at (k.requests ++ record { segment = s; standing = x } ∷ []) q ≡ (numbered v s held o).segment q
    segment-more q x = at (q == v.made) refl
      where
        at : (b : Bool) → (q == v.made) ≡ b → segment_at (k.requests ++ record { segment = s; standing = x } ∷ []) q ≡ cond b (Some s) (v.segment q)
        at true e =
            let is : q ≡ length k.requests = eqb-true q v.made e ∙ sym st.count in
            ap (λ m. segment_at (k.requests ++ record { segment = s; standing = x } ∷ []) m) is
            ∙ ap (λ y. option_map (λ (z : Request). z.segment) y) (get-push_last k.requests (record { segment = s; standing = x }))
        at false e =
            ap (λ y. option_map (λ (z : Request). z.segment) y) (get-push_other k.requests (record { segment = s; standing = x }) q (λ is. eqb-false q v.made e (is ∙ st.count))) ∙ st.segment q

    count-more : (x : Standing) → length (k.requests ++ record { segment = s; standing = x } ∷ []) ≡ v.made + 1
    count-more x = let l = length-append k.requests (record { segment = s; standing = x } ∷ []) in let count = st.count in omega (arith, l, count)

    -- what a number asks for stays
    request-same : (q : ℕ) → (q == v.made) ≡ false → request_of w (numbered v s held o) q ≡ request_of w v q
    request-same q e = ap (λ b. option_map (read_request q) (option_and_then (slice_get w.table) (cond b (Some s) (v.segment q)))) e

    known-more : s < length w.table → held ≡ is_none o → ((r : ℕ) → o ≡ Some r → cond (r == v.made) (Some s) (v.segment r) ≡ Some s)
        → (late : ℕ → Option ℕ) → ((t r : ℕ) → late t ≡ Some r → cond (r == v.made) (Some s) (v.segment r) ≡ Some t)
        → ((r : ℕ) → o ≡ Some r → late s ≡ Some r) → ((t r : ℕ) → v.latest t ≡ Some r → 1 ≤ users_of v r → is_bad (v.outcome r) ≡ false → late t ≡ Some r) → AreKnown w (record (numbered v s held o) { latest = late })
    known-more inside is own late newest mine others = record {
      joined = λ q r t. joined q r t (q == v.made) refl;
      known = λ q t. known q t (q == v.made);
      held = λ q t. holds q t (q == v.made);
      shared = λ q r t. shared q r t (q == v.made);
      newest = λ t r. newest t r;
    }
      where
        joined : (q r t : ℕ) (b : Bool) → (q == v.made) ≡ b → cond b true (v.live q) ≡ true → cond b o (v.read q) ≡ Some r → cond b (Some s) (v.segment q) ≡ Some t → is_bad (v.outcome r) ≡ false → late t ≡ Some r
        joined q r t true e live read segment fine = let same : s ≡ t = cc in subst (λ m. late m ≡ Some r) same (mine r read)
        joined q r t false e live read segment fine =
            others t r (st.known.joined q r t live read segment fine) (live-used w v k st q r live read) fine

        known : (q t : ℕ) (b : Bool) → cond b (Some s) (v.segment q) ≡ Some t → t < length w.table
        known q t true e = let same : s ≡ t = cc in omega (arith, inside)
        known q t false e = st.known.known q t e

        holds : (q t : ℕ) (b : Bool) → cond b (Some s) (v.segment q) ≡ Some t → cond b held (v.held q) ≡ is_none (cond b o (v.read q))
        holds q t true e = is
        holds q t false e = st.known.held q t e

        shared : (q r t : ℕ) (b : Bool) → cond b o (v.read q) ≡ Some r → cond b (Some s) (v.segment q) ≡ Some t → cond (r == v.made) (Some s) (v.segment r) ≡ Some t
        shared q r t true e h = own r e ∙ h
        shared q r t false e h = segment-kept r t (st.known.shared q r t e h)

  -- a place that looks unused
  unused-at : {A : Type 0} (f : Option SharedRead → A) (reads : List SharedRead) (x : SharedRead) → f (Some x) ≡ f None → (q : ℕ) → f (slice_get (reads ++ x ∷ []) q) ≡ f (slice_get reads q)
  unused-at f reads x same q = at (q == length reads) refl
    where
      at : (b : Bool) → (q == length reads) ≡ b → f (slice_get (reads ++ x ∷ []) q) ≡ f (slice_get reads q)
      at true e =
          let is = eqb-true q (length reads) e in
          ap (λ m. f (slice_get (reads ++ x ∷ []) m)) is ∙ ap f (get-push_last reads x) ∙ same ∙ sym (ap f (get-past reads q (omega (arith, is))))
      at false e = ap f (get-push_other reads x q (eqb-false q (length reads) e))

  places-more : (reads : List SharedRead) (x : SharedRead) → length reads ≡ v.made → length (reads ++ x ∷ []) ≡ v.made + 1
  places-more reads x h = let l = length-append reads (x ∷ []) in omega (arith, l, h)

  -- ---- held
  module _ (inside : s < length w.table) (buffer : Buffer) where
    no-user : (q : ℕ) → users_of (held_words v s) q ≡ users_of v q
    no-user q = let more = users-more true None q in omega (arith, more)

    held-waits : (q : ℕ) → waits (held_words v s) q ≡ waits v q
    held-waits q = ap (λ u. is_none (v.outcome q) && nat_le 1 u) (no-user q)

    held-waiting : (q : ℕ) → waiting w v q ≡ waiting w (held_words v s) q
    held-waiting q = at (q == v.made) refl
      where
        at : (b : Bool) → (q == v.made) ≡ b → waiting w v q ≡ waiting w (held_words v s) q
        at true e =
            let none : waits v q ≡ false = and_right (is_none (v.outcome q)) (nat_le 1 (users_of v q)) (ap (λ m. nat_le 1 (users_of v m)) (eqb-true q v.made e) ∙ ap (nat_le 1) unused-users) in
            ap (λ b. cond b (request_of w v q) None) none ∙ sym (ap (λ b. cond b (request_of w (held_words v s) q) None) (held-waits q ∙ none))
        at false e =
            ap (λ b. cond b (request_of w v q) None) (sym (held-waits q)) ∙ ap (λ x. cond (waits (held_words v s) q) x None) (sym (request-same true None q e))

    pub held-registers : HasWords w (held_words v s) (with_held k s buffer)
    held-registers = record {
      table = st.table;
      start = st.start;
      idle = st.idle;
      rested = st.rested;
      core = st.core ∙ ap (replay w.idle) (sym (append-nil v.events));
      legal = subst (IsLegal w.idle) (sym (append-nil v.events)) st.legal;
      ties = record {
        waiting = λ q. st.ties.waiting q ∙ held-waiting q;
        due = λ q. st.ties.due q ∙ sym (ap (λ b. v.polled q && b) (held-waits q));
        settings = st.ties.settings;
        next = let next = st.ties.next in omega (arith, next);
        rests = st.ties.rests;
        sound = st.ties.sound;
      };
      known = let all = known-more true None inside refl (λ r e. cc) v.latest (λ t r e. segment-kept r t (st.known.newest t r e)) (λ r e. cc) (λ t r e u f. e) in
          record { known = all.known; held = all.held; shared = all.shared; newest = all.newest; joined = all.joined };
      count = count-more true None (Held buffer);
      places = places-more k.reads unused st.places;
      segments = st.segments;
      standing = λ q. standing-more true None q (Held buffer) refl;
      segment = λ q. segment-more true None q (Held buffer);
      users = λ q. unused-at users_in k.reads unused refl q ∙ st.users q ∙ sym (no-user q);
      polled = λ q o. unused-at polled_in k.reads unused refl q ∙ st.polled q o;
      outcome = λ q. unused-at outcome_in k.reads unused refl q ∙ st.outcome q;
      bytes = λ q u good. unused-at (λ o. is_some (bytes_in o)) k.reads unused refl q ∙ st.bytes q (let same = no-user q in omega (arith, u, same)) good;
      latest = st.latest;
      metrics = st.metrics;
      ends = st.ends;
    }

  -- ---- joined
  more-users : (o : Option SharedRead) → 1 ≤ users_in o → users_in o + 1 ≤ last_count → users_in (option_map one_more o) ≡ users_in o + 1
  more-users None h l = absurd (omega arith)
  more-users (Some x) h l = omega (arith, l)

  more-polled : (o : Option SharedRead) → polled_in (option_map one_more o) ≡ polled_in o
  more-polled None = refl
  more-polled (Some x) = refl

  more-outcome : (o : Option SharedRead) → outcome_in (option_map one_more o) ≡ outcome_in o
  more-outcome None = refl
  more-outcome (Some x) = refl

  more-bytes : (o : Option SharedRead) → bytes_in (option_map one_more o) ≡ bytes_in o
  more-bytes None = refl
  more-bytes (Some x) = refl

  module _ (inside : s < length w.table) (r : ℕ) (newest : v.latest s ≡ Some r) (open_ : 1 ≤ users_of v r) (room : v.made + 1 ≤ last_count) where
    joined-users : (q : ℕ) → users_of (register_words w v s (Some r)) q ≡ users_of v q + cond (r == q) 1 0
    joined-users q = users-more false (Some r) q

    joined-waits : (q : ℕ) → waits (register_words w v s (Some r)) q ≡ waits v q
    joined-waits q = ap (λ u. is_none (v.outcome q) && nat_le 1 u) (joined-users q) ∙ at (r == q) refl
      where
        at : (b : Bool) → (r == q) ≡ b → (is_none (v.outcome q) && nat_le 1 (users_of v q + cond b 1 0)) ≡ waits v q
        at true e =
            let is = eqb-true r q e in
            let u : 1 ≤ users_of v q = subst (λ m. 1 ≤ users_of v m) is open_ in
            ap (λ b. is_none (v.outcome q) && b) (le-leb 1 (users_of v q + 1) (omega (arith, u)) ∙ sym (le-leb 1 (users_of v q) u))
        at false e = ap (λ u. is_none (v.outcome q) && nat_le 1 u) (let n = users_of v q in let same : users_of v q + 0 ≡ users_of v q = omega arith in same)

    joined-waiting : (q : ℕ) → waiting w v q ≡ waiting w (register_words w v s (Some r)) q
    joined-waiting q = at (q == v.made) refl
      where
        at : (b : Bool) → (q == v.made) ≡ b → waiting w v q ≡ waiting w (register_words w v s (Some r)) q
        at true e =
            let none : waits v q ≡ false = and_right (is_none (v.outcome q)) (nat_le 1 (users_of v q)) (ap (λ m. nat_le 1 (users_of v m)) (eqb-true q v.made e) ∙ ap (nat_le 1) unused-users) in
            ap (λ b. cond b (request_of w v q) None) none ∙ sym (ap (λ b. cond b (request_of w (register_words w v s (Some r)) q) None) (joined-waits q ∙ none))
        at false e =
            ap (λ b. cond b (request_of w v q) None) (sym (joined-waits q)) ∙ ap (λ x. cond (waits (register_words w v s (Some r)) q) x None) (sym (request-same false (Some r) q e))

    joined-at : {A : Type 0} (f : Option SharedRead → A) → f (Some unused) ≡ f None → ((o : Option SharedRead) → f (option_map one_more o) ≡ f o) → (q : ℕ)
        → f (slice_get (update one_more k.reads r ++ unused ∷ []) q) ≡ f (slice_get k.reads q)
    joined-at f none same q = unused-at f (update one_more k.reads r) unused none q ∙ at (q == r) refl
      where
        at : (b : Bool) → (q == r) ≡ b → f (slice_get (update one_more k.reads r) q) ≡ f (slice_get k.reads q)
        at true e =
            let is = eqb-true q r e in
            ap (λ m. f (slice_get (update one_more k.reads r) m)) is ∙ ap f (get-update_same one_more k.reads r) ∙ same (slice_get k.reads r) ∙ ap (λ m. f (slice_get k.reads m)) (sym is)
        at false e = ap f (get-update_other one_more k.reads r q (eqb-false q r e))

    users-now : (q : ℕ) → users_at (update one_more k.reads r ++ unused ∷ []) q ≡ users_of (register_words w v s (Some r)) q
    users-now q = unused-at users_in (update one_more k.reads r) unused refl q ∙ at (r == q) refl ∙ sym (joined-users q)
      where
        at : (b : Bool) → (r == q) ≡ b → users_at (update one_more k.reads r) q ≡ users_of v q + cond b 1 0
        at true e =
            let is = eqb-true r q e in
            let there = st.users r in
            let few = count-most v.made (uses v.live v.read r) in
            let more = more-users (slice_get k.reads r) (omega (arith, there, open_)) (omega (arith, there, few, room)) in
            ap (users_at (update one_more k.reads r)) (sym is) ∙ ap users_in (get-update_same one_more k.reads r) ∙ more ∙ ap (λ n. n + 1) there ∙ ap (λ m. users_of v m + 1) is
        at false e =
            let same : users_of v q + 0 ≡ users_of v q = omega arith in
            ap users_in (get-update_other one_more k.reads r q (λ is. eqb-false r q e (sym is))) ∙ st.users q ∙ sym same

    latest-now : (t : ℕ) → latest_at k.latest t ≡ cond (t == s) (Some r) (v.latest t)
    latest-now t = st.latest t ∙ at (t == s) refl
      where
        at : (b : Bool) → (t == s) ≡ b → v.latest t ≡ cond b (Some r) (v.latest t)
        at true e = ap v.latest (eqb-true t s e) ∙ newest
        at false e = refl

    newest-now : (t q : ℕ) (b : Bool) → (t == s) ≡ b → cond b (Some r) (v.latest t) ≡ Some q → cond (q == v.made) (Some s) (v.segment q) ≡ Some t
    newest-now t q true e h =
        let is : s ≡ t = sym (eqb-true t s e) in
        let same : r ≡ q = cc in
        segment-kept q t (subst (λ m. v.segment q ≡ Some m) is (subst (λ m. v.segment m ≡ Some s) same (st.known.newest s r newest)))
    newest-now t q false e h = segment-kept q t (st.known.newest t q h)

    pub joined-registers : HasWords w (register_words w v s (Some r)) (with_joined k s r)
    joined-registers = record {
      table = st.table;
      start = st.start;
      idle = st.idle;
      rested = st.rested;
      core = st.core ∙ ap (replay w.idle) (sym (append-nil v.events));
      legal = subst (IsLegal w.idle) (sym (append-nil v.events)) st.legal;
      ties = record {
        waiting = λ q. st.ties.waiting q ∙ joined-waiting q;
        due = λ q. st.ties.due q ∙ sym (ap (λ b. v.polled q && b) (joined-waits q));
        settings = st.ties.settings;
        next = let next = st.ties.next in omega (arith, next);
        rests = st.ties.rests;
        sound = st.ties.sound;
      };
      known =
          let all = known-more false (Some r) inside refl (λ q e. let same : r ≡ q = cc in segment-kept q s (subst (λ m. v.segment m ≡ Some s) same (st.known.newest s r newest)))
          (λ t. cond (t == s) (Some r) (v.latest t)) (λ t q e. newest-now t q (t == s) refl e)
          (λ q e. ap (λ b. cond b (Some r) (v.latest s)) (eq-self s) ∙ e) (λ t q e u fine. sym (latest-now t) ∙ st.latest t ∙ e) in
          record { known = all.known; held = all.held; shared = all.shared; newest = all.newest; joined = all.joined };
      count = count-more false (Some r) (Reads r);
      places = places-more (update one_more k.reads r) unused (length-update one_more k.reads r ∙ st.places);
      segments = st.segments;
      standing = λ q. standing-more false (Some r) q (Reads r) refl;
      segment = λ q. segment-more false (Some r) q (Reads r);
      users = users-now;
      polled = λ q o. joined-at polled_in refl more-polled q ∙ st.polled q o;
      outcome = λ q. joined-at outcome_in refl more-outcome q ∙ st.outcome q;
      bytes = λ q u good. joined-at (λ o. is_some (bytes_in o)) refl (λ o. ap is_some (more-bytes o)) q ∙ st.bytes q (some-before q (r == q) refl u) good;
      latest = latest-now;
      metrics = st.metrics;
      ends = st.ends;
    }
      where
        some-before : (q : ℕ) (b : Bool) → (r == q) ≡ b → 1 ≤ users_of (register_words w v s (Some r)) q → 1 ≤ users_of v q
        some-before q true e u = subst (λ m. 1 ≤ users_of v m) (eqb-true r q e) open_
        some-before q false e u = let same = joined-users q ∙ ap (λ b. users_of v q + cond b 1 0) e in omega (arith, u, same)

  -- ---- begun
  module _ (spec : SegmentSpec) (found : slice_get w.table s ≡ Some spec)
      (closed : (r : ℕ) → v.latest s ≡ Some r → 1 ≤ users_of v r → is_bad (v.outcome r) ≡ false → ⊥) where
    begun-users : (q : ℕ) → users_of (register_words w v s None) q ≡ users_of v q + cond (v.made == q) 1 0
    begun-users q = users-more false (Some v.made) q

    other-waits : (q : ℕ) → (v.made == q) ≡ false → waits (register_words w v s None) q ≡ waits v q
    other-waits q e =
        let same : users_of v q + 0 ≡ users_of v q = omega arith in
        ap (λ u. is_none (v.outcome q) && nat_le 1 u) (begun-users q ∙ ap (λ b. users_of v q + cond b 1 0) e ∙ same)

    new-waits : waits (register_words w v s None) v.made ≡ true
    new-waits = ap (λ o. is_none o && nat_le 1 (users_of (register_words w v s None) v.made)) unmade-outcome
        ∙ le-leb 1 (users_of (register_words w v s None) v.made) (let u = begun-users v.made ∙ ap (λ b. users_of v v.made + cond b 1 0) (eq-self v.made) in omega (arith, u))

    begun-waiting : (q : ℕ) → cond (v.made == q) (Some (read_request v.made spec)) (waiting w v q) ≡ waiting w (register_words w v s None) q
    begun-waiting q = at (v.made == q) refl
      where
        here : request_of w (register_words w v s None) v.made ≡ Some (read_request v.made spec)
        here = ap (λ b. option_map (read_request v.made) (option_and_then (slice_get w.table) (cond b (Some s) (v.segment v.made)))) (eq-self v.made)
            ∙ ap (option_map (read_request v.made)) found

        at : (b : Bool) → (v.made == q) ≡ b → cond b (Some (read_request v.made spec)) (waiting w v q) ≡ waiting w (register_words w v s None) q
        at true e =
            sym (ap (λ b. cond b (request_of w (register_words w v s None) v.made) None) new-waits ∙ here) ∙ ap (waiting w (register_words w v s None)) (eqb-true v.made q e)
        at false e =
            let apart : (q == v.made) ≡ false = ne_eqb q v.made (λ is. eqb-false v.made q e (sym is)) in
            ap (λ b. cond b (request_of w v q) None) (sym (other-waits q e)) ∙ ap (λ x. cond (waits (register_words w v s None) q) x None) (sym (request-same false (Some v.made) q apart))

    begun-due : (q : ℕ) → is_due v q ≡ is_due (register_words w v s None) q
    begun-due q = at (v.made == q) refl
      where
        at : (b : Bool) → (v.made == q) ≡ b → is_due v q ≡ is_due (register_words w v s None) q
        at true e =
            let none : v.polled q ≡ false = ap v.polled (sym (eqb-true v.made q e)) ∙ unmade-polled in
            ap (λ b. b && waits v q) none ∙ sym (ap (λ b. b && waits (register_words w v s None) q) none)
        at false e = ap (λ b. v.polled q && b) (sym (other-waits q e))

    begun-places : (q : ℕ) → users_at (k.reads ++ begun ∷ []) q ≡ users_of v q + cond (v.made == q) 1 0
    begun-places q = at (v.made == q) refl
      where
        at : (b : Bool) → (v.made == q) ≡ b → users_at (k.reads ++ begun ∷ []) q ≡ users_of v q + cond b 1 0
        at true e =
            let is : q ≡ length k.reads = sym (eqb-true v.made q e) ∙ sym st.places in
            let none : users_of v q ≡ 0 = ap (users_of v) (sym (eqb-true v.made q e)) ∙ unused-users in
            ap (users_at (k.reads ++ begun ∷ [])) is ∙ ap users_in (get-push_last k.reads begun) ∙ sym (ap (λ n. n + 1) none)
        at false e =
            let same : users_of v q + 0 ≡ users_of v q = omega arith in
            ap users_in (get-push_other k.reads begun q (λ is. eqb-false v.made q e (sym (is ∙ st.places)))) ∙ st.users q ∙ sym same

    latest-begun : (t : ℕ) → latest_at (update (λ _. Some (length k.requests)) k.latest s) t ≡ cond (t == s) (Some v.made) (v.latest t)
    latest-begun t = at (t == s) refl
      where
        there : slice_get k.latest s ≡ Some (get-within k.latest s (slice_get k.latest s) refl (let l = get-some w.table s spec found in let segments = st.segments in omega (arith, l, segments))).0
        there = (get-within k.latest s (slice_get k.latest s) refl (let l = get-some w.table s spec found in let segments = st.segments in omega (arith, l, segments))).1

        at : (b : Bool) → (t == s) ≡ b → latest_at (update (λ _. Some (length k.requests)) k.latest s) t ≡ cond b (Some v.made) (v.latest t)
        at true e =
            let is = eqb-true t s e in
            ap (latest_at (update (λ _. Some (length k.requests)) k.latest s)) is ∙ ap flatten (get-update_same (λ _. Some (length k.requests)) k.latest s)
            ∙ ap (λ o. flatten (option_map (λ _. Some (length k.requests)) o)) there ∙ ap (λ n. Some n) st.count
        at false e = ap flatten (get-update_other (λ _. Some (length k.requests)) k.latest s t (eqb-false t s e)) ∙ st.latest t

    newest-begun : (t q : ℕ) (b : Bool) → (t == s) ≡ b → cond b (Some v.made) (v.latest t) ≡ Some q → cond (q == v.made) (Some s) (v.segment q) ≡ Some t
    newest-begun t q true e h =
        let same : v.made ≡ q = cc in
        ap (λ b. cond b (Some s) (v.segment q)) (eq-eqb q v.made (sym same)) ∙ ap (λ n. Some n) (sym (eqb-true t s e))
    newest-begun t q false e h = segment-kept q t (st.known.newest t q h)

    others-begun : (t q : ℕ) (b : Bool) → (t == s) ≡ b → v.latest t ≡ Some q → 1 ≤ users_of v q → is_bad (v.outcome q) ≡ false → cond b (Some v.made) (v.latest t) ≡ Some q
    others-begun t q true e l u fine = absurd (closed q (ap v.latest (sym (eqb-true t s e)) ∙ l) u fine)
    others-begun t q false e l u fine = l

    may : (k.core.next ≤ v.made) × (spec.offset + spec.length < 2 ^ 64)
    may = (st.ties.next, st.ends s spec found)

    begun-events : v.events ++ told_register None v.made (slice_get w.table s) ≡ v.events ++ event.Request (read_request v.made spec) ∷ []
    begun-events = ap (λ o. v.events ++ told_register None v.made o) found

    begun-core : requested k.core (read_request (length k.requests) spec) ≡ requested k.core (read_request v.made spec)
    begun-core = ap (λ n. requested k.core (read_request n spec)) st.count

    begun-ties : Ties w (register_words w v s None) (requested k.core (read_request v.made spec))
    begun-ties = record {
      waiting = λ q. waiting-requested k.core st.ties.sound (read_request v.made spec) q st.ties.next ∙ ap (λ o. cond (v.made == q) (Some (read_request v.made spec)) o) (st.ties.waiting q) ∙ begun-waiting q;
      due = λ q. polled-requested k.core st.ties.sound (read_request v.made spec) q st.ties.next ∙ st.ties.due q ∙ begun-due q;
      settings = let t = st.ties.settings in record { distance = t.distance; limit = t.limit; alignment = t.alignment; concurrency = t.concurrency };
      next = omega arith;
      rests = ranges-added k.core.reads (read_request v.made spec) ∙ st.ties.rests;
      sound = sound-requested k.core (read_request v.made spec) st.ties.sound st.ties.next;
    }

    pub begun-registers : HasWords w (register_words w v s None) (with_begun k s spec)
    begun-registers = record {
      table = st.table;
      start = st.start;
      idle = st.idle;
      rested = st.rested;
      core = begun-core ∙ ap (λ t. requested t (read_request v.made spec)) st.core ∙ sym (replay-append w.idle v.events (event.Request (read_request v.made spec) ∷ [])) ∙ ap (replay w.idle) (sym begun-events);
      legal = subst (IsLegal w.idle) (sym begun-events) (legal-append w.idle v.events (event.Request (read_request v.made spec) ∷ []) st.legal ((subst (λ (t : Scheduler). t.next ≤ v.made) st.core may.0, may.1), tt));
      ties = subst (Ties w (register_words w v s None)) (sym begun-core) begun-ties;
      known =
          let all = known-more false (Some v.made) (get-some w.table s spec found) refl (λ q e. let same : v.made ≡ q = cc in ap (λ b. cond b (Some s) (v.segment q)) (eq-eqb q v.made (sym same)))
          (λ t. cond (t == s) (Some v.made) (v.latest t)) (λ t q e. newest-begun t q (t == s) refl e)
          (λ q e. ap (λ b. cond b (Some v.made) (v.latest s)) (eq-self s) ∙ e) (λ t q e u fine. others-begun t q (t == s) refl e u fine) in
          record { known = all.known; held = all.held; shared = all.shared; newest = all.newest; joined = all.joined };
      count = count-more false (Some v.made) (Reads (length k.requests));
      places = places-more k.reads begun st.places;
      segments = length-update (λ _. Some (length k.requests)) k.latest s ∙ st.segments;
      standing = λ q. standing-more false (Some v.made) q (Reads (length k.requests)) (ap (λ n. Some (Some n)) st.count);
      segment = λ q. segment-more false (Some v.made) q (Reads (length k.requests));
      users = λ q. begun-places q ∙ sym (begun-users q);
      polled = λ q o. unused-at polled_in k.reads begun refl q ∙ st.polled q o;
      outcome = λ q. unused-at outcome_in k.reads begun refl q ∙ st.outcome q;
      bytes = λ q u good. unused-at (λ o. is_some (bytes_in o)) k.reads begun refl q ∙ st.bytes q (some-before q (v.made == q) refl u good) good;
      latest = latest-begun;
      metrics = st.metrics;
      ends = st.ends;
    }
      where
        some-before : (q : ℕ) (b : Bool) → (v.made == q) ≡ b → 1 ≤ users_of (register_words w v s None) q → is_good (v.outcome q) ≡ true → 1 ≤ users_of v q
        some-before q true e u good =
            let none : is_good (v.outcome q) ≡ false = ap is_good (ap v.outcome (sym (eqb-true v.made q e)) ∙ unmade-outcome) in
            let clash : true ≡ false = sym good ∙ none in cc
        some-before q false e u good = let same = begun-users q ∙ ap (λ b. users_of v q + cond b 1 0) e in omega (arith, u, same)
