-- What one span of a drive does.
use Rattle.std.proofs.Common.{◌≡◌, ℕ, ◌≤◌, Bool, true, false, cond, List, [], ◌∷◌, map, Option, Some, None, refl, sym, ap, ◌∙◌, subst, arith, ◌==◌, ◌&&◌, ◌||◌}
use Rattle.std.specs.Prelude.{slice_get, nat_le, is_none, is_some}
use Rattle.std.specs.List.{AllByRecursion}
use Rattle.std.specs.Option.{option_map}
use Rattle.std.proofs.lemmas.Bool.{eqb-true, eqb-false, leb-true, and_left, and_right, and_parts}
use Rattle.vx_sched.specs.Io.{request_of as range_of}
use Rattle.vx_sched.specs.Law.{IsSound}
use Rattle.vx_sched.specs.Merging.{is_listed, span_of, Merges}
use Rattle.vx_sched.specs.Outcomes.{IsOutcomeOf}
use Rattle.vx_sched.specs.Reads.{waiting_at}
use Rattle.vx_sched.specs.Reads as core
use Rattle.vx_sched.specs.Scheduling.{Scheduler, SameSettings, MergesNow, MergesFrom, span_at, taken}
use Rattle.vx_sched.specs.Span as sched
use Rattle.vx_sched.specs.declared.fault.Outcome.{Outcome}
use Rattle.vx_sched.specs.declared.fault.Outcome.TheVariants as out
use Rattle.vx_sched.specs.declared.request.ReadRequest.{ReadRequest}
use Rattle.vx_sched.proofs.BatchLemmas.{merges-along}
use Rattle.vx_sched.proofs.SoundLemmas.{waiting-taken, polled-taken, sound-taken}
use Rattle.vx_source.specs.Blocks.{number_of, reported, span_outcome, with_filed, file_into}
use Rattle.vx_source.specs.Fits.{World, NamesRange, with_request}
use Rattle.vx_source.specs.History.{is_among, first_of, outcome_by, is_good}
use Rattle.vx_source.specs.Kept.{update, users_in, users_at, polled_in, outcome_in, outcome_at, bytes_in, bytes_of}
use Rattle.vx_source.specs.Stands.{Words, users_of, waits, is_due, waiting, request_of}
use Rattle.vx_source.specs.Requests.{Filed, SharedRead}
use Rattle.vx_source.specs.declared.span.Span.{Span}
use Rattle.vx_source.specs.declared.span.SpanOutcome.{SpanOutcome}
use Rattle.vx_source.proofs.SlotLemmas.{get-update_same, get-update_other}

-- the words after a span
abbrev pub with_outcome : Words → Span → Words
with_outcome v span = record v { outcome = λ r. first_of (v.outcome r) (outcome_by span r) }

-- the scheduler, and its reads by words: what waits, what is due
pub record Follows (w : World) (v : Words) (s : Scheduler) : Type 0 where
  pub waiting : (q : ℕ) → waiting_at s.reads q ≡ waiting w v q
  pub due : (q : ℕ) → core.polled_at s.reads q ≡ is_due v q
  pub settings : SameSettings w.idle s
  pub sound : IsSound s

pub asks-self : (b : Bool) (x : Option ReadRequest) (r : ReadRequest) → cond b x None ≡ Some r → x ≡ Some r
asks-self true x r e = e
asks-self false x r e = cc

-- what reads ask for
abbrev pub asked_of : World → Words → List ℕ → List ReadRequest
asked_of w v [] = []
asked_of w v (r ∷ rest) = with_request (request_of w v r) (asked_of w v rest)

-- ---- numbers listed

pub among-listed : (q : ℕ) (rs : List ReadRequest) → is_among q (map number_of rs) ≡ is_listed rs q
among-listed q [] = refl
among-listed q (r ∷ rs) = ap (λ b. (r.id == q) || b) (among-listed q rs)

first-none : (x : Option SpanOutcome) → first_of x None ≡ x
first-none None = refl
first-none (Some o) = refl

first-some : (x : Option SpanOutcome) (o : SpanOutcome) → is_none (first_of x (Some o)) ≡ false
first-some None o = refl
first-some (Some y) o = refl

module _ (w : World) (v : Words) (s : Scheduler) (core_ : sched.Span) (o : SpanOutcome) (f : Follows w v s) (m : MergesNow s core_) where
  -- the reads of the span wait no more, the others as before
  waits-now : (q : ℕ) → waits (with_outcome v (reported o core_)) q ≡ cond (is_listed core_.reads q) false (waits v q)
  waits-now q = ap (λ b. is_none (first_of (v.outcome q) (cond b (Some o) None)) && nat_le 1 (users_of v q)) (among-listed q core_.reads) ∙ at (is_listed core_.reads q)
    where
      at : (b : Bool) → (is_none (first_of (v.outcome q) (cond b (Some o) None)) && nat_le 1 (users_of v q)) ≡ cond b false (waits v q)
      at true = and_left (is_none (first_of (v.outcome q) (Some o))) (nat_le 1 (users_of v q)) (first-some (v.outcome q) o)
      at false = ap (λ x. is_none x && nat_le 1 (users_of v q)) (first-none (v.outcome q))

  pub follows-taken : Follows w (with_outcome v (reported o core_)) (taken s core_)
  follows-taken = record {
    waiting = λ q. waiting-taken s f.sound core_ q ∙ ap (λ x. cond (is_listed core_.reads q) None x) (f.waiting q) ∙ waiting-now q (is_listed core_.reads q) refl;
    due = λ q. polled-taken s f.sound core_ q ∙ ap (λ x. cond (is_listed core_.reads q) false x) (f.due q) ∙ due-now q (is_listed core_.reads q) refl;
    settings = let t = f.settings in record { distance = t.distance; limit = t.limit; alignment = t.alignment; concurrency = t.concurrency };
    sound = sound-taken s core_ f.sound m;
  }
    where
      waiting-now : (q : ℕ) (b : Bool) → is_listed core_.reads q ≡ b → cond (is_listed core_.reads q) None (waiting w v q) ≡ waiting w (with_outcome v (reported o core_)) q
      waiting-now q true e =
          ap (λ b. cond b None (waiting w v q)) e ∙ sym (ap (λ b. cond b (request_of w v q) None) (waits-now q ∙ ap (λ b. cond b false (waits v q)) e))
      waiting-now q false e =
          ap (λ b. cond b None (waiting w v q)) e ∙ sym (ap (λ b. cond b (request_of w v q) None) (waits-now q ∙ ap (λ b. cond b false (waits v q)) e))

      due-now : (q : ℕ) (b : Bool) → is_listed core_.reads q ≡ b → cond (is_listed core_.reads q) false (is_due v q) ≡ is_due (with_outcome v (reported o core_)) q
      due-now q true e =
          ap (λ b. cond b false (is_due v q)) e ∙ sym (and_right (v.polled q) (waits (with_outcome v (reported o core_)) q) (waits-now q ∙ ap (λ b. cond b false (waits v q)) e))
      due-now q false e =
          ap (λ b. cond b false (is_due v q)) e ∙ sym (ap (λ b. v.polled q && b) (waits-now q ∙ ap (λ b. cond b false (waits v q)) e))

  -- ---- the span by the words

  asked-self : (rs : List ReadRequest) → AllByRecursion (λ r. waiting_at s.reads r.id ≡ Some r) rs → asked_of w v (map number_of rs) ≡ rs
  asked-self [] h = refl
  asked-self (r ∷ rs) h =
      let mine = asks-self (waits v r.id) (request_of w v r.id) r (sym (f.waiting r.id) ∙ h.0) in
      ap (λ x. with_request x (asked_of w v (map number_of rs))) mine ∙ ap (λ xs. r ∷ xs) (asked-self rs h.1)

  settings-span : (rs : List ReadRequest) → span_at w.idle rs ≡ span_at s rs
  settings-span rs = let t = f.settings in
      ap (λ d. span_of d w.idle.alignment rs) (sym t.distance) ∙ ap (λ a. span_of s.distance a rs) (sym t.alignment)

  -- the settings and what its reads ask for give the span
  pub core-is : span_at w.idle (asked_of w v (map number_of core_.reads)) ≡ core_
  core-is = ap (span_at w.idle) (asked-self core_.reads m.merges.waits) ∙ settings-span core_.reads ∙ sym m.merges.range

  -- it merges from what waits
  pub merges-now : MergesFrom w.idle (waiting w v) (is_due v) core_
  merges-now = record {
    next = m.next;
    is_due = sym (f.due m.next) ∙ m.is_due;
    least = λ q l. sym (f.due q) ∙ m.least q l;
    merges = let t = f.settings in
        subst (λ d. Merges d w.idle.limit w.idle.alignment (waiting w v) m.next core_) t.distance
        (subst (λ l. Merges s.distance l w.idle.alignment (waiting w v) m.next core_) t.limit
        (subst (λ a. Merges s.distance s.limit a (waiting w v) m.next core_) t.alignment
        (merges-along s.distance s.limit s.alignment (waiting_at s.reads) (waiting w v) m.next core_ f.waiting m.merges)));
  }

  -- each of its reads has a live number
  pub listed-used : (q : ℕ) → is_listed core_.reads q ≡ true → 1 ≤ users_of v q
  listed-used q l = at core_.reads m.merges.waits l
    where
      some-waits : (b : Bool) (x : Option ReadRequest) (r : ReadRequest) → cond b x None ≡ Some r → b ≡ true
      some-waits true x r e = refl
      some-waits false x r e = cc

      at : (rs : List ReadRequest) → AllByRecursion (λ r. waiting_at s.reads r.id ≡ Some r) rs → is_listed rs q ≡ true → 1 ≤ users_of v q
      at [] h e = cc
      at (r ∷ rs) h e = here (r.id == q) refl (at rs h.1)
        where
          here : (b : Bool) → (r.id == q) ≡ b → (is_listed rs q ≡ true → 1 ≤ users_of v q) → 1 ≤ users_of v q
          here true is more =
              let w' = some-waits (waits v r.id) (request_of w v r.id) r (sym (f.waiting r.id) ∙ h.0) in
              subst (λ n. 1 ≤ users_of v n) (eqb-true r.id q is) (leb-true 1 (users_of v r.id) (and_parts (is_none (v.outcome r.id)) (nat_le 1 (users_of v r.id)) w').1)
          here false is more = more (sym (ap (λ b. b || is_listed rs q) is) ∙ e)

-- a failed span names its range
pub names-range : (core_ : sched.Span) (o : Outcome) → IsOutcomeOf (range_of core_) o → NamesRange (reported (span_outcome o) core_) (span_outcome o)
names-range core_ (out.Bytes buffer) h = tt
names-range core_ (out.Fault fault) h = h
names-range core_ out.NoMemory h = absurd h

-- ---- filing

into-users : (f : Filed) (x : SharedRead) (o : Option SpanOutcome) → (file_into f x o).users ≡ x.users
into-users f x None = refl
into-users f x (Some y) = refl

into-polled : (f : Filed) (x : SharedRead) (o : Option SpanOutcome) → (file_into f x o).polled ≡ x.polled
into-polled f x None = refl
into-polled f x (Some y) = refl

into-outcome : (f : Filed) (x : SharedRead) (o : Option SpanOutcome) → x.outcome ≡ o → (file_into f x o).outcome ≡ first_of o (Some f.outcome)
into-outcome f x None e = refl
into-outcome f x (Some y) e = e

module _ (f : Filed) (reads : List SharedRead) where
  -- a look-up that filing does not change
  pub one-same : {A : Type 0} (g : Option SharedRead → A) → ((o : Option SharedRead) → g (option_map (with_filed f) o) ≡ g o) → (q : ℕ) → g (slice_get (update (with_filed f) reads f.read) q) ≡ g (slice_get reads q)
  one-same g same q = at (q == f.read) refl
    where
      at : (b : Bool) → (q == f.read) ≡ b → g (slice_get (update (with_filed f) reads f.read) q) ≡ g (slice_get reads q)
      at true e =
          let is = eqb-true q f.read e in
          ap (λ m. g (slice_get (update (with_filed f) reads f.read) m)) is ∙ ap g (get-update_same (with_filed f) reads f.read) ∙ same (slice_get reads f.read) ∙ ap (λ m. g (slice_get reads m)) (sym is)
      at false e = ap g (get-update_other (with_filed f) reads f.read q (eqb-false q f.read e))

  pub users-one : (o : Option SharedRead) → users_in (option_map (with_filed f) o) ≡ users_in o
  users-one None = refl
  users-one (Some x) = into-users f x x.outcome

  pub polled-one : (o : Option SharedRead) → polled_in (option_map (with_filed f) o) ≡ polled_in o
  polled-one None = refl
  polled-one (Some x) = into-polled f x x.outcome

  outcome-one : (o : Option SharedRead) → 1 ≤ users_in o → outcome_in (option_map (with_filed f) o) ≡ first_of (outcome_in o) (Some f.outcome)
  outcome-one None h = absurd (omega arith)
  outcome-one (Some x) h = into-outcome f x x.outcome refl

  pub outcome-filed : (q : ℕ) → 1 ≤ users_at reads f.read → outcome_at (update (with_filed f) reads f.read) q ≡ first_of (outcome_at reads q) (cond (f.read == q) (Some f.outcome) None)
  outcome-filed q used = at (f.read == q) refl
    where
      at : (b : Bool) → (f.read == q) ≡ b → outcome_at (update (with_filed f) reads f.read) q ≡ first_of (outcome_at reads q) (cond b (Some f.outcome) None)
      at true e =
          let is = eqb-true f.read q e in
          ap (outcome_at (update (with_filed f) reads f.read)) (sym is) ∙ ap outcome_in (get-update_same (with_filed f) reads f.read)
          ∙ outcome-one (slice_get reads f.read) used ∙ ap (λ m. first_of (outcome_at reads m) (Some f.outcome)) is
      at false e =
          ap outcome_in (get-update_other (with_filed f) reads f.read q (λ is. eqb-false f.read q e (sym is))) ∙ sym (first-none (outcome_at reads q))

  -- what is good has bytes
  good-one : (x : SharedRead) (o : Option SpanOutcome) → x.outcome ≡ o → (is_good (Some f.outcome) ≡ true → is_some f.bytes ≡ true) → (is_good x.outcome ≡ true → is_some x.bytes ≡ true)
      → is_good (file_into f x o).outcome ≡ true → is_some (file_into f x o).bytes ≡ true
  good-one x None e own old good = own good
  good-one x (Some y) e own old good = old good

  good-in : (o : Option SharedRead) → (is_good (Some f.outcome) ≡ true → is_some f.bytes ≡ true) → (is_good (outcome_in o) ≡ true → is_some (bytes_in o) ≡ true)
      → is_good (outcome_in (option_map (with_filed f) o)) ≡ true → is_some (bytes_in (option_map (with_filed f) o)) ≡ true
  good-in None own old good = cc
  good-in (Some x) own old good = good-one x x.outcome refl own old good

  pub bytes-filed : (q : ℕ) → (is_good (Some f.outcome) ≡ true → is_some f.bytes ≡ true) → (is_good (outcome_at reads q) ≡ true → is_some (bytes_of reads q) ≡ true)
      → is_good (outcome_at (update (with_filed f) reads f.read) q) ≡ true → is_some (bytes_of (update (with_filed f) reads f.read) q) ≡ true
  bytes-filed q own old good = at (q == f.read) refl
    where
      at : (b : Bool) → (q == f.read) ≡ b → is_some (bytes_of (update (with_filed f) reads f.read) q) ≡ true
      at true e =
          let is = eqb-true q f.read e in
          ap (λ m. is_some (bytes_of (update (with_filed f) reads f.read) m)) is ∙ ap (λ o. is_some (bytes_in o)) (get-update_same (with_filed f) reads f.read)
          ∙ good-in (slice_get reads f.read) own (subst (λ m. is_good (outcome_at reads m) ≡ true → is_some (bytes_of reads m) ≡ true) is old)
          (sym (ap (λ o. is_good (outcome_in o)) (get-update_same (with_filed f) reads f.read)) ∙ ap (λ m. is_good (outcome_at (update (with_filed f) reads f.read) m)) (sym is) ∙ good)
      at false e =
          let other = get-update_other (with_filed f) reads f.read q (eqb-false q f.read e) in
          ap (λ o. is_some (bytes_in o)) other ∙ old (sym (ap (λ o. is_good (outcome_in o)) other) ∙ good)
