-- From a history to the next: polls and drops.
use Rattle.std.proofs.Common.{◌≡◌, ℕ, ◌+◌, ◌<◌, ◌≤◌, Bool, true, false, cond, not, List, [], ◌++◌, length, Option, Some, None, refl, sym, ap, ◌∙◌, subst, arith, ◌==◌, ◌&&◌, ◌||◌}
use Rattle.std.specs.Prelude.{slice_get, nat_le, nat_lt, is_none, is_some, option_and_then}
use Rattle.std.specs.Option.{option_map, option_map_or}
use Rattle.std.proofs.lemmas.Bool.{eqb-true, leb-true, le-leb}
use Rattle.std.proofs.lemmas.List.{append-nil}
use Rattle.vx_base.specs.Buffer.{Buffer}
use Rattle.vx_base.specs.Counts.{last_count}
use Rattle.vx_base.specs.declared.segment.SegmentSpec.{SegmentSpec}
use Rattle.vx_sched.specs.declared.fault.Fault.{Fault}
use Rattle.vx_source.specs.Fits.{World, asks, covered_from, covers, is_gave, is_failing}
use Rattle.vx_source.specs.History.{Got, gave, neither, Moment, registers, polls, drops, is_live, is_held, is_that, is_good, is_bad, joins, if_open, joinable, users, waits, outcome_of, outcome_at}
use Rattle.vx_source.specs.Kept.{Kept, standing_of, standing_in, standing_at, outcome_in, bytes_in, reply_read, reply_outcome, reply_good, reply_of_standing, reply_standing, poll_reply, after_read, after_outcome, after_good, after_standing, after_found, after_poll, with_poll, reply_dropped, drop_standing, drop_reply, after_drop, without_user, with_held, with_registered, with_found, is_covered, is_asked, IsLook, got_of, look_reply, after_look, joinable_at}
use Rattle.vx_source.specs.Kept as kept
use Rattle.vx_source.specs.Stands.{Words, HasWords, Stands, IsNext, words, users_of}
use Rattle.vx_source.specs.declared.look.Look.{Look}
use Rattle.vx_source.specs.declared.look.Look.TheVariants.{Missing, InTail, InCache, CacheFailed, Nowhere}
use Rattle.vx_source.specs.declared.reply.FailCause.TheVariants as cause
use Rattle.vx_source.specs.declared.reply.Reply.TheVariants.{Registered, Ready, Pending, Failed, Dropped}
use Rattle.vx_source.specs.Requests.{Request, SharedRead, Standing, Held, Reads, Ended}
use Rattle.vx_source.specs.declared.span.SpanOutcome.{SpanOutcome}
use Rattle.vx_source.specs.declared.span.SpanOutcome.TheVariants.{Good, Bad}
use Rattle.vx_source.proofs.WordLemmas.{live-of, used-of, read-found, not-live}
use Rattle.vx_source.proofs.EndLemmas.{held-ends, read-ends}
use Rattle.vx_source.proofs.SlotLemmas.{get-some, get-within}
use Rattle.vx_source.proofs.RegisterLemmas.{register_words, held-registers, joined-registers, begun-registers}
use Rattle.vx_source.proofs.PendingLemmas.{it-waits, polls-again, polls-first}

-- nothing changes and nothing is told
pub quiet : (w : World) (v : Words) (k : Kept) → HasWords w v k → HasWords w (record v { events = v.events ++ [] }) k
quiet w v k st = subst (λ es. HasWords w (record v { events = es }) k) (sym (append-nil v.events)) st

module _ (w : World) (past : List Moment) (k : Kept) (n : ℕ) (st : Stands w past k) where
  abbrev polled-too : ℕ → Bool
  polled-too = λ q. cond (is_that q ((words w past).read n)) true ((words w past).polled q)

  -- ---- a number that is not live
  gone : standing_at k.requests n ≡ None → is_live past n ≡ false
  gone e = not-live w (words w past) k st n e

  -- ---- a number that is held
  module _ (e : standing_at k.requests n ≡ Some None) where
    held-live : is_live past n ≡ true
    held-live = (live-of w (words w past) k st n None e).0

    no-read : (words w past).read n ≡ None
    no-read = (live-of w (words w past) k st n None e).1

    held-is : (o : Option Request) → slice_get k.requests n ≡ o → standing_in o ≡ Some None → is_held past n ≡ true
    held-is None f h = cc
    held-is (Some q) f h = st.known.held n q.segment (sym (st.segment n) ∙ ap (λ o. option_map (λ (y : Request). y.segment) o) f) ∙ ap is_none no-read

    held-same : (q : ℕ) → (words w past).outcome q ≡ None → polled-too q ≡ (words w past).polled q
    held-same q o = ap (λ x. cond (is_that q x) true ((words w past).polled q)) no-read

    held-ready : (buffer : Buffer) → IsNext w past (polls n) (Ready buffer) (kept.without_held k n)
    held-ready buffer = record {
      row = (held-live, ap (λ b. b || is_good (outcome_at past n)) (held-is (slice_get k.requests n) refl e));
      stands = held-ends w (words w past) k n polled-too st held-same e;
    }

    held-dropped : IsNext w past (drops n) Dropped (kept.without_held k n)
    held-dropped = record {
      row = held-live;
      stands = held-ends w (words w past) k n (words w past).polled st (λ q o. refl) e;
    }

  -- ---- a number that has a read
  module _ (r : ℕ) (e : standing_at k.requests n ≡ Some (Some r)) where
    live : is_live past n ≡ true
    live = (live-of w (words w past) k st n (Some r) e).0

    read-is : (words w past).read n ≡ Some r
    read-is = (live-of w (words w past) k st n (Some r) e).1

    used : 1 ≤ users_of (words w past) r
    used = used-of w (words w past) k st n r e

    read-dropped : IsNext w past (drops n) Dropped (without_user k n r)
    read-dropped = record { row = live; stands = read-ends w (words w past) k n (words w past).polled st (λ q o. refl) r e }

    module _ (x : SharedRead) (found : slice_get k.reads r ≡ Some x) where
      outcome-is : outcome_at past n ≡ x.outcome
      outcome-is = ap (λ o. option_and_then (words w past).outcome o) read-is ∙ sym (st.outcome r) ∙ ap outcome_in found

      done-same : (o : SpanOutcome) → x.outcome ≡ Some o → (q : ℕ) → (words w past).outcome q ≡ None → polled-too q ≡ (words w past).polled q
      done-same o is q none = ap (λ y. cond (is_that q y) true ((words w past).polled q)) read-is ∙ at (r == q) refl
        where
          at : (b : Bool) → (r == q) ≡ b → cond b true ((words w past).polled q) ≡ (words w past).polled q
          at true same =
              let here : (words w past).outcome q ≡ Some o = ap (words w past).outcome (sym (eqb-true r q same)) ∙ sym (st.outcome r) ∙ ap outcome_in found ∙ is in
              let clash : None ≡ Some o = sym none ∙ here in
              cc
          at false same = refl

      read-failed : (fault : Fault) → x.outcome ≡ Some (Bad fault) → IsNext w past (polls n) (Failed (cause.Fault fault)) (without_user k n r)
      read-failed fault is = record {
        row = (live, outcome-is ∙ is);
        stands = read-ends w (words w past) k n polled-too st (done-same (Bad fault) is) r e;
      }

      or-good : (b c : Bool) → c ≡ true → (b || c) ≡ true
      or-good true c h = refl
      or-good false c h = h

      read-ready : (buffer : Buffer) → x.outcome ≡ Some Good → IsNext w past (polls n) (Ready buffer) (without_user k n r)
      read-ready buffer is = record {
        row = (live, or-good (is_held past n) (is_good (outcome_at past n)) (ap is_good (outcome-is ∙ is)));
        stands = read-ends w (words w past) k n polled-too st (done-same Good is) r e;
      }

      read-pending : (b : Bool) → x.polled ≡ b → x.outcome ≡ None → IsNext w past (polls n) Pending (with_poll k r b)
      read-pending true p is = record {
        row = (live, ap (λ o. option_map_or (waits past) o false) read-is ∙ it-waits w (words w past) k n r x st e found is);
        stands = polls-again w (words w past) k n r x st e found is p;
      }
      read-pending false p is = record {
        row = (live, ap (λ o. option_map_or (waits past) o false) read-is ∙ it-waits w (words w past) k n r x st e found is);
        stands = polls-first w (words w past) k n r x st e found is p;
      }

      bytes-none : x.outcome ≡ Some Good → x.bytes ≡ None → ⊥
      bytes-none is none =
          let good : is_good ((words w past).outcome r) ≡ true = ap is_good (sym (st.outcome r) ∙ ap outcome_in found ∙ is) in
          let there : is_some x.bytes ≡ true = sym (ap (λ o. is_some (bytes_in o)) found) ∙ st.bytes r used good in
          let clash : true ≡ false = sym there ∙ ap is_some none in
          cc

      good-at : (o : Option Buffer) → x.outcome ≡ Some Good → x.bytes ≡ o → IsNext w past (polls n) (reply_good o) (after_good k n r o)
      good-at None is h = absurd (bytes-none is h)
      good-at (Some buffer) is h = read-ready buffer is

      outcome-at : (o : Option SpanOutcome) → x.outcome ≡ o → IsNext w past (polls n) (reply_outcome o x.bytes) (after_outcome k n r x o)
      outcome-at None is = read-pending x.polled refl is
      outcome-at (Some Good) is = good-at x.bytes is refl
      outcome-at (Some (Bad fault)) is = read-failed fault is

    read-at : (o : Option SharedRead) → slice_get k.reads r ≡ o → IsNext w past (polls n) (reply_read o) (after_read k n r o)
    read-at None f =
        let there = read-found w (words w past) k st r used in
        let clash : None ≡ Some there.0 = sym f ∙ there.1 in
        cc
    read-at (Some x) f = outcome-at x f x.outcome refl

  standing-at : (s : Standing) → standing_at k.requests n ≡ standing_of s → IsNext w past (polls n) (reply_of_standing k.reads s) (after_standing k n s)
  standing-at (Held buffer) e = held-ready e buffer
  standing-at (Reads r) e = read-at r e (slice_get k.reads r) refl
  standing-at Ended e = record { row = gone e; stands = quiet w (words w past) k st }

  found-at : (o : Option Request) → slice_get k.requests n ≡ o → IsNext w past (polls n) (reply_standing k.reads o) (after_found k n o)
  found-at None f = record { row = gone (ap standing_in f); stands = quiet w (words w past) k st }
  found-at (Some q) f = standing-at q.standing (ap standing_in f)

  -- a poll
  pub polls-next : IsNext w past (polls n) (poll_reply k n) (after_poll k n)
  polls-next = found-at (slice_get k.requests n) refl

  dropped-at : (o : Option (Option ℕ)) → standing_at k.requests n ≡ o → IsNext w past (drops n) (reply_dropped o) (drop_standing k n o)
  dropped-at None e = record { row = gone e; stands = quiet w (words w past) k st }
  dropped-at (Some None) e = held-dropped e
  dropped-at (Some (Some r)) e = read-dropped r e

  -- a drop
  pub drops-next : IsNext w past (drops n) (drop_reply k n) (after_drop k n)
  drops-next = dropped-at (standing_at k.requests n) refl

-- ---- registers

open-parts : (b c : Bool) (q r : ℕ) → cond (b && not c) (Some q) None ≡ Some r → (q ≡ r) × (b ≡ true) × (c ≡ false)
open-parts true false q r e = let same : q ≡ r = cc in (same, refl, refl)
open-parts true true q r e = cc
open-parts false c q r e = cc

then-same : {A B : Type 0} (f g : A → Option B) → ((x : A) → f x ≡ g x) → (o : Option A) → option_and_then f o ≡ option_and_then g o
then-same f g same None = refl
then-same f g same (Some x) = same x

module _ (w : World) (past : List Moment) (k : Kept) (s : ℕ) (st : Stands w past k) (room : length k.requests + 1 ≤ last_count) where
  covered-is : is_covered k s ≡ covers w s
  covered-is = ap (λ t. option_map_or (covered_from t) (slice_get k.table s) false) st.start ∙ ap (λ t. option_map_or (covered_from w.start) (slice_get t s) false) st.table

  inside-is : s < length k.table → s < length w.table
  inside-is h = let same = ap length st.table in omega (arith, h, same)

  held-next : (got : Got) (buffer : Buffer) → s < length k.table → true ≡ (covers w s || is_gave got) → is_failing got ≡ false
      → IsNext w past (registers s got) (Registered (length k.requests) true) (with_held k s buffer)
  held-next got buffer h held fine =
      subst (λ n. IsNext w past (registers s got) (Registered n true) (with_held k s buffer)) (sym st.count) (record {
        row = (inside-is h, refl, held, fine);
        stands = held-registers w (words w past) k s st (inside-is h) buffer;
      })

  joinable-is : joinable_at k s ≡ joinable past s
  joinable-is =
      ap (option_and_then (kept.if_open k.reads)) (st.latest s)
      ∙ then-same (kept.if_open k.reads) (if_open (joins past) past)
      (λ r. ap (λ u. cond (nat_le 1 u && not (is_bad (kept.outcome_at k.reads r))) (Some r) None) (st.users r)
      ∙ ap (λ o. cond (nat_le 1 (users past r) && not (is_bad o)) (Some r) None) (st.outcome r))
      ((words w past).latest s)

  pub open-is : (o : Option ℕ) (r : ℕ) → option_and_then (if_open (joins past) past) o ≡ Some r → (o ≡ Some r) × (1 ≤ users past r)
  open-is None r e = cc
  open-is (Some q) r e =
      let parts = open-parts (nat_le 1 (users past q)) (is_bad (outcome_of past q)) q r e in
      (ap (λ n. Some n) parts.0, leb-true 1 (users past r) (subst (λ n. nat_le 1 (users past n) ≡ true) parts.0 parts.1))

  closed : joinable past s ≡ None → (r : ℕ) → (words w past).latest s ≡ Some r → 1 ≤ users past r → is_bad (outcome_of past r) ≡ false → ⊥
  closed e r l u fine =
      let clash : None ≡ Some r =
      sym e ∙ ap (option_and_then (if_open (joins past) past)) l ∙ ap (λ b. cond (b && not (is_bad (outcome_of past r))) (Some r) None) (le-leb 1 (users past r) u)
      ∙ ap (λ b. cond (true && not b) (Some r) None) fine in
      cc

  read-next : (spec : SegmentSpec) → slice_get w.table s ≡ Some spec → (o : Option ℕ) → joinable past s ≡ o
      → HasWords w (register_words w (words w past) s o) (with_registered k s spec o)
  read-next spec found None e = begun-registers w (words w past) k s st spec found (closed e)
  read-next spec found (Some r) e =
      let parts = open-is ((words w past).latest s) r e in
      let count = st.count in
      joined-registers w (words w past) k s st (get-some w.table s spec found) r parts.0 parts.1 (omega (arith, room, count))

  found-next : (o : Option SegmentSpec) → slice_get k.table s ≡ o → s < length k.table → covers w s ≡ false
      → IsNext w past (registers s neither) (Registered (length k.requests) false) (with_found k s o)
  found-next None e h covered =
      let there = get-within k.table s (slice_get k.table s) refl h in
      let clash : None ≡ Some there.0 = sym e ∙ there.1 in
      cc
  found-next (Some spec) e h covered =
      let found : slice_get w.table s ≡ Some spec = ap (λ t. slice_get t s) (sym st.table) ∙ e in
      subst (λ n. IsNext w past (registers s neither) (Registered n false) (with_found k s (Some spec))) (sym st.count) (record {
        row = (inside-is h, refl, sym (ap (λ b. b || false) covered), refl);
        stands = subst (λ o. HasWords w (register_words w (words w past) s (joinable past s)) (with_registered k s spec o)) (sym joinable-is) (read-next spec found (joinable past s) refl);
      })

  -- a register
  pub registers-next : (look : Look) → IsLook k s look → IsNext w past (registers s (got_of look)) (look_reply k look) (after_look k s look)
  registers-next Missing h = record { row = let same = ap length st.table in omega (arith, h, same); stands = quiet w (words w past) k st }
  registers-next (InTail buffer) h = held-next neither buffer h.0 (sym (ap (λ b. b || false) (sym covered-is ∙ h.1))) refl
  registers-next (InCache buffer) h = held-next gave buffer h.0 (sym (ap (λ b. b || true) (sym covered-is ∙ h.1))) refl
  registers-next CacheFailed h = record { row = (inside-is h.0, sym covered-is ∙ h.1, refl); stands = quiet w (words w past) k st }
  registers-next Nowhere h = found-next (slice_get k.table s) refl h.0 (sym covered-is ∙ h.1)

  -- whether the cache is asked
  pub asked-is : is_asked k s ≡ asks w s
  asked-is = ap (λ t. nat_lt s (length t) && not (is_covered k s)) st.table ∙ ap (λ b. nat_lt s (length w.table) && not b) covered-is
