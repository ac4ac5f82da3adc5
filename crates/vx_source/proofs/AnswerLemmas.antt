-- What the last replies of a fetch say.
use Rattle.std.proofs.Common.{◌≡◌, ℕ, ◌+◌, ◌<◌, ◌≤◌, ◌⊎◌, inl, inr, Bool, true, false, cond, List, [], ◌∷◌, length, map, Option, Some, None, refl, sym, ap, ◌∙◌, subst, arith, ◌&&◌, ◌==◌, not}
use Rattle.std.specs.Prelude.{nat_le, is_none, option_and_then, unwrap_or}
use Rattle.std.specs.Option.{option_map_or}
use Rattle.std.proofs.lemmas.Bool.{ne_eqb, le-leb, and_parts}
use Rattle.vx_base.specs.Caches.{CacheState}
use Rattle.vx_base.specs.Counts.{Rises}
use Rattle.vx_base.specs.declared.segment.SegmentId.{SegmentId}
use Rattle.vx_base.specs.declared.segment.SegmentSpec.{SegmentSpec}
use Rattle.vx_sched.specs.declared.fault.Fault.{Fault}
use Rattle.vx_source.specs.Asks.{bad_spans, is_bad_span}
use Rattle.vx_source.specs.Caching.{HasGot}
use Rattle.vx_source.specs.Fetching.{number_in, at_poll, IsRegistered, Registering, IsPolled, Polling, IsTruePoll, AreTruePolls, IsAnswer, AreAnswers, IsFaultIn, IsFaultOf, AreFaultsOf, HasSlice, HaveSlices, AreReady, AreInTable, cache_failure, cache_failures}
use Rattle.vx_source.specs.Fits.{World, IsRow, asks, is_failing, driven, NoneDue}
use Rattle.vx_source.specs.History.{Got, registers, polls, drives, Moment, moment, made, segment_of, is_live, read_of, joinable, if_open, joins, users, users_by, outcome_of, outcome_at, outcome_after, outcome_by, first_of, is_among, is_bad, is_polled, waits}
use Rattle.vx_source.specs.Kept.{Kept, outcome_in}
use Rattle.vx_source.specs.Stands.{Stands, IsNext, words}
use Rattle.vx_source.specs.declared.fetching.Fetch.{Fetch}
use Rattle.vx_source.specs.declared.reply.FailCause.TheVariants as cause
use Rattle.vx_source.specs.declared.reply.Reply.{Reply}
use Rattle.vx_source.specs.declared.reply.Reply.TheVariants.{Registered, MissingSegment, Ready, Pending, Failed, Dropped, NotLive, Driven}
use Rattle.vx_source.specs.declared.span.Span.{Span}
use Rattle.vx_source.specs.declared.span.SpanOutcome.{SpanOutcome}
use Rattle.vx_source.specs.declared.span.SpanOutcome.TheVariants.{Bad}
use Rattle.vx_source.proofs.WordLemmas.{eq-self, that-self, live-used}
use Rattle.vx_source.proofs.DriveLemmas.{rises-then}
use Rattle.vx_source.proofs.SlotLemmas.{get-past}
use Rattle.vx_source.proofs.FetchLemmas.{SameNumbers, Waits, poll-same}

-- ---- requests that are open

abbrev after_number : ℕ → Option ℕ → ℕ
after_number from None = from
after_number from (Some n) = n + 1

-- an open request's number is at least one, and has what is asked of it; another one's reply is an answer
abbrev IsAt : List SegmentSpec → (ℕ → ℕ → Type 0) → ℕ → ℕ → Fetch → Option ℕ → Type 0
IsAt table P from s f None = IsAnswer table [] s f.reply
IsAt table P from s f (Some n) = (from ≤ n) × P s n

-- the numbers of open requests rise
abbrev pub AreAt : List SegmentSpec → (ℕ → ℕ → Type 0) → ℕ → List SegmentId → List Fetch → Type 0
AreAt table P from [] [] = Unit {0}
AreAt table P from [] (f ∷ more) = ⊥
AreAt table P from (id ∷ rest) [] = ⊥
AreAt table P from (id ∷ rest) (f ∷ more) = IsAt table P from id.0 f f.number × AreAt table P (after_number from f.number) rest more

at-map : (table : List SegmentSpec) (P Q : ℕ → ℕ → Type 0) (from : ℕ) (s : ℕ) (f : Fetch) (o : Option ℕ) → ((s n : ℕ) → from ≤ n → P s n → Q s n) → IsAt table P from s f o → IsAt table Q from s f o
at-map table P Q from s f None to h = h
at-map table P Q from s f (Some n) to h = (h.0, to s n h.0 h.1)

after-later : (from b : ℕ) (s : ℕ) (table : List SegmentSpec) (P : ℕ → ℕ → Type 0) (f : Fetch) (o : Option ℕ) → b ≤ from → IsAt table P from s f o → b ≤ after_number from o
after-later from b s table P f None l h = l
after-later from b s table P f (Some n) l h = let a = h.0 in omega (arith, a, l)

-- from one fact of open numbers to another
pub are-map : (table : List SegmentSpec) (P Q : ℕ → ℕ → Type 0) (b from : ℕ) (ids : List SegmentId) (fs : List Fetch) → b ≤ from → ((s n : ℕ) → b ≤ n → P s n → Q s n)
    → AreAt table P from ids fs → AreAt table Q from ids fs
are-map table P Q b from [] [] l to h = tt
are-map table P Q b from [] (f ∷ more) l to h = absurd h
are-map table P Q b from (id ∷ rest) [] l to h = absurd h
are-map table P Q b from (id ∷ rest) (f ∷ more) l to h = (
  at-map table P Q from id.0 f f.number (λ s n a p. to s n (omega (arith, a, l)) p) h.0,
  are-map table P Q b (after_number from f.number) rest more (after-later from b id.0 table P f f.number l h.0) to h.1,
)

-- the bound may be less
are-weaker : (table : List SegmentSpec) (P : ℕ → ℕ → Type 0) (a from : ℕ) (ids : List SegmentId) (fs : List Fetch) → a ≤ from → AreAt table P from ids fs → AreAt table P a ids fs
are-weaker table P a from [] [] l h = tt
are-weaker table P a from [] (f ∷ more) l h = absurd h
are-weaker table P a from (id ∷ rest) [] l h = absurd h
are-weaker table P a from (id ∷ rest) (f ∷ more) l h = at f.number h.0 h.1 (λ k. are-weaker table P a from rest more l k)
  where
    at : (o : Option ℕ) → IsAt table P from id.0 f o → AreAt table P (after_number from o) rest more → (AreAt table P from rest more → AreAt table P a rest more)
        → IsAt table P a id.0 f o × AreAt table P (after_number a o) rest more
    at None h k less = (h, less k)
    at (Some n) h k less = let b = h.0 in ((omega (arith, b, l), h.1), k)

-- ---- a number that was made and not yet polled

pub record IsOpen (w : World) (past : List Moment) (s n : ℕ) : Type 0 where
  pub live : is_live past n ≡ true
  pub inside : s < length w.table
  pub segment : segment_of past n ≡ Some s
  pub fresh : is_bad (outcome_at past n) ≡ false

-- a number that is pending
pub record IsWaiting (w : World) (past : List Moment) (s n : ℕ) : Type 0 where
  pub live : is_live past n ≡ true
  pub inside : s < length w.table
  pub segment : segment_of past n ≡ Some s
  pub read : ℕ
  pub read_is : read_of past n ≡ Some read
  pub polled : is_polled past read ≡ true
  pub unread : outcome_of past read ≡ None

-- a number whose read was read by a span of these
pub record IsRead (w : World) (spans : List Span) (past : List Moment) (s n : ℕ) : Type 0 where
  pub live : is_live past n ≡ true
  pub inside : s < length w.table
  pub segment : segment_of past n ≡ Some s
  pub outcome : SpanOutcome
  pub outcome_is : outcome_at past n ≡ Some outcome
  pub fails : (fault : Fault) → outcome ≡ Bad fault → IsFaultIn fault spans

-- ---- a poll of another number

-- how the read of a number went is the same
at-same : (past now : List Moment) (n : ℕ) → SameNumbers past now → outcome_at now n ≡ outcome_at past n
at-same past now n same = ap (option_and_then (outcome_of now)) (same.read n) ∙ at (read_of past n)
  where
    at : (o : Option ℕ) → option_and_then (outcome_of now) o ≡ option_and_then (outcome_of past) o
    at None = refl
    at (Some r) = same.outcome r

other-live : (w : World) (past : List Moment) (number n : ℕ) (reply : Reply) → IsRow w past (polls number) reply → (n == number) ≡ false → is_live (moment (polls number) reply ∷ past) n ≡ is_live past n
other-live w past number n (Registered m held) h e = absurd h
other-live w past number n MissingSegment h e = absurd h
other-live w past number n (Ready buffer) h e = ap (λ b. cond b false (is_live past n)) e
other-live w past number n Pending h e = refl
other-live w past number n (Failed cause) h e = ap (λ b. cond b false (is_live past n)) e
other-live w past number n Dropped h e = absurd h
other-live w past number n NotLive h e = refl
other-live w past number n (Driven spans) h e = absurd h

still-true : (b c : Bool) → c ≡ true → cond b true c ≡ true
still-true true c h = refl
still-true false c h = h

open-kept : (w : World) (past : List Moment) (number s n : ℕ) (reply : Reply) → IsRow w past (polls number) reply → (n ≡ number → ⊥) → IsOpen w past s n → IsOpen w (moment (polls number) reply ∷ past) s n
open-kept w past number s n reply row apart h =
    let same = poll-same w past number reply row in
    record {
      live = other-live w past number n reply row (ne_eqb n number apart) ∙ h.live;
      inside = h.inside;
      segment = same.segment n ∙ h.segment;
      fresh = ap is_bad (at-same past (moment (polls number) reply ∷ past) n same) ∙ h.fresh;
    }

waiting-kept : (w : World) (past : List Moment) (number s n : ℕ) (reply : Reply) → IsRow w past (polls number) reply → (n ≡ number → ⊥) → IsWaiting w past s n → IsWaiting w (moment (polls number) reply ∷ past) s n
waiting-kept w past number s n reply row apart h =
    let same = poll-same w past number reply row in
    record {
      live = other-live w past number n reply row (ne_eqb n number apart) ∙ h.live;
      inside = h.inside;
      segment = same.segment n ∙ h.segment;
      read = h.read;
      read_is = same.read n ∙ h.read_is;
      polled = still-true _ (is_polled past h.read) h.polled;
      unread = same.outcome h.read ∙ h.unread;
    }

read-kept : (w : World) (spans : List Span) (past : List Moment) (number s n : ℕ) (reply : Reply) → IsRow w past (polls number) reply → (n ≡ number → ⊥) → IsRead w spans past s n → IsRead w spans (moment (polls number) reply ∷ past) s n
read-kept w spans past number s n reply row apart h =
    let same = poll-same w past number reply row in
    record {
      live = other-live w past number n reply row (ne_eqb n number apart) ∙ h.live;
      inside = h.inside;
      segment = same.segment n ∙ h.segment;
      outcome = h.outcome;
      outcome_is = at-same past (moment (polls number) reply ∷ past) n same ∙ h.outcome_is;
      fails = h.fails;
    }

-- a pending number stays so while greater ones are polled
waiting-through : (w : World) (table : List SegmentSpec) (P : ℕ → ℕ → Type 0) (past : List Moment) (ids : List SegmentId) (fs gs : List Fetch) (now : List Moment) (from s n : ℕ) → n < from
    → AreAt table P from ids fs → Polling w past fs gs now → IsWaiting w past s n → IsWaiting w now s n
waiting-through w table P past [] [] [] now from s n l at p h = subst (λ a. IsWaiting w a s n) (sym p) h
waiting-through w table P past [] [] (g ∷ gs) now from s n l at p h = absurd p
waiting-through w table P past [] (f ∷ fs) gs now from s n l at p h = absurd at
waiting-through w table P past (id ∷ ids) [] gs now from s n l at p h = absurd at
waiting-through w table P past (id ∷ ids) (f ∷ fs) [] now from s n l at p h = absurd p
waiting-through w table P past (id ∷ ids) (f ∷ fs) (g ∷ gs) now from s n l at p h =
    step f.number at.0 at.1 p.1 (λ b m rest x. waiting-through w table P p.0 ids fs gs now b s n m rest p.2 x)
  where
    step : (o : Option ℕ) → IsAt table P from id.0 f o → AreAt table P (after_number from o) ids fs → IsPolled w past o f g p.0
        → ((b : ℕ) → n < b → AreAt table P b ids fs → IsWaiting w p.0 s n → IsWaiting w now s n) → IsWaiting w now s n
    step None a rest q more = more from l rest (subst (λ x. IsWaiting w x s n) (sym q.1) h)
    step (Some m) a rest q more =
        let b = a.0 in
        more (m + 1) (omega (arith, b, l)) rest (subst (λ x. IsWaiting w x s n) (sym q.2) (waiting-kept w past m s n g.reply q.1 (λ e. absurd (omega (arith, b, l, e))) h))

-- ---- the first polls

read-waits : (past : List Moment) (o : Option ℕ) → option_map_or (waits past) o false ≡ true → (r : ℕ) × (o ≡ Some r) × (waits past r ≡ true)
read-waits past None h = cc
read-waits past (Some r) h = (r, refl, h)

none-is : (o : Option SpanOutcome) → is_none o ≡ true → o ≡ None
none-is None h = refl
none-is (Some x) h = cc

-- what a first poll of an open number finds: it is ready or pending
first-poll : (w : World) (past : List Moment) (s n : ℕ) (reply : Reply) → IsRow w past (polls n) reply → IsOpen w past s n
    → (IsAnswer w.table [] s reply × ((at_poll n reply).number ≡ None)) ⊎ ((reply ≡ Pending) × IsWaiting w (moment (polls n) reply ∷ past) s n)
first-poll w past s n (Registered m held) row h = absurd row
first-poll w past s n MissingSegment row h = absurd row
first-poll w past s n (Ready buffer) row h = inl (h.inside, refl)
first-poll w past s n Pending row h =
    let r = read-waits past (read_of past n) row.1 in
    inr (
      refl,
      record {
        live = h.live;
        inside = h.inside;
        segment = h.segment;
        read = r.0;
        read_is = r.1;
        polled = ap (λ o. cond (option_map_or (λ q. q == r.0) o false) true (is_polled past r.0)) r.1 ∙ ap (λ b. cond b true (is_polled past r.0)) (that-self r.0);
        unread = none-is (outcome_of past r.0) (and_parts (is_none (outcome_of past r.0)) (nat_le 1 (users past r.0)) r.2).0;
      },
    )
first-poll w past s n (Failed (cause.Fault fault)) row h = let clash : true ≡ false = sym (ap is_bad row.1) ∙ h.fresh in cc
first-poll w past s n (Failed cause.Cache) row h = absurd row
first-poll w past s n Dropped row h = absurd row
first-poll w past s n NotLive row h = let clash : true ≡ false = sym h.live ∙ row in cc
first-poll w past s n (Driven spans) row h = absurd row

join-none : (table : List SegmentSpec) (P : ℕ → ℕ → Type 0) (from s : ℕ) (ids : List SegmentId) (g : Fetch) (gs : List Fetch) → g.number ≡ None → IsAnswer table [] s g.reply → AreAt table P from ids gs
    → IsAt table P from s g g.number × AreAt table P (after_number from g.number) ids gs
join-none table P from s ids g gs e a h = subst (λ o. IsAt table P from s g o × AreAt table P (after_number from o) ids gs) (sym e) (a, h)

join-some : (table : List SegmentSpec) (P : ℕ → ℕ → Type 0) (from s n : ℕ) (ids : List SegmentId) (g : Fetch) (gs : List Fetch) → g.number ≡ Some n → from ≤ n → P s n → AreAt table P (n + 1) ids gs
    → IsAt table P from s g g.number × AreAt table P (after_number from g.number) ids gs
join-some table P from s n ids g gs e l p h = subst (λ o. IsAt table P from s g o × AreAt table P (after_number from o) ids gs) (sym e) ((l, p), h)

-- after the first polls each request that is open is pending
pub first-polls : (w : World) (past : List Moment) (from : ℕ) (ids : List SegmentId) (fs gs : List Fetch) (now : List Moment)
    → AreAt w.table (IsOpen w past) from ids fs → Polling w past fs gs now → AreAt w.table (IsWaiting w now) from ids gs
first-polls w past from [] [] [] now h p = tt
first-polls w past from [] [] (g ∷ gs) now h p = absurd p
first-polls w past from [] (f ∷ fs) gs now h p = absurd h
first-polls w past from (id ∷ ids) [] gs now h p = absurd h
first-polls w past from (id ∷ ids) (f ∷ fs) [] now h p = absurd p
first-polls w past from (id ∷ ids) (f ∷ fs) (g ∷ gs) now h p = step f.number refl h.0 h.1 p.1 (λ b a. first-polls w p.0 b ids fs gs now a p.2)
  where
    step : (o : Option ℕ) → f.number ≡ o → IsAt w.table (IsOpen w past) from id.0 f o → AreAt w.table (IsOpen w past) (after_number from o) ids fs → IsPolled w past o f g p.0
        → ((b : ℕ) → AreAt w.table (IsOpen w p.0) b ids fs → AreAt w.table (IsWaiting w now) b ids gs)
        → IsAt w.table (IsWaiting w now) from id.0 g g.number × AreAt w.table (IsWaiting w now) (after_number from g.number) ids gs
    step None e a rest q next =
        join-none w.table (IsWaiting w now) from id.0 ids g gs (ap (λ (x : Fetch). x.number) q.0 ∙ e) (subst (λ (x : Fetch). IsAnswer w.table [] id.0 x.reply) (sym q.0) a)
        (next from (subst (λ x. AreAt w.table (IsOpen w x) from ids fs) (sym q.1) rest))
    step (Some n) e a rest q next = found (first-poll w past id.0 n g.reply q.1 a.1)
      where
        low : from ≤ n
        low = a.0

        moved : AreAt w.table (IsOpen w (moment (polls n) g.reply ∷ past)) (n + 1) ids fs
        moved = are-map w.table (IsOpen w past) (IsOpen w (moment (polls n) g.reply ∷ past)) (n + 1) (n + 1) ids fs (omega arith) (λ s m l x. open-kept w past n s m g.reply q.1 (λ is. absurd (omega (arith, l, is))) x) rest

        there : AreAt w.table (IsOpen w p.0) (n + 1) ids fs
        there = subst (λ x. AreAt w.table (IsOpen w x) (n + 1) ids fs) (sym q.2) moved

        more : AreAt w.table (IsWaiting w now) (n + 1) ids gs
        more = next (n + 1) there

        found : (IsAnswer w.table [] id.0 g.reply × ((at_poll n g.reply).number ≡ None)) ⊎ ((g.reply ≡ Pending) × IsWaiting w (moment (polls n) g.reply ∷ past) id.0 n)
            → IsAt w.table (IsWaiting w now) from id.0 g g.number × AreAt w.table (IsWaiting w now) (after_number from g.number) ids gs
        found (inl x) = join-none w.table (IsWaiting w now) from id.0 ids g gs (ap (λ (y : Fetch). y.number) q.0 ∙ x.1) x.0 (are-weaker w.table (IsWaiting w now) from (n + 1) ids gs (omega (arith, low)) more)
        found (inr x) = join-some w.table (IsWaiting w now) from id.0 n ids g gs (ap (λ (y : Fetch). y.number) q.0 ∙ ap (λ r. (at_poll n r).number) x.0) low
            (waiting-through w w.table (IsOpen w p.0) p.0 ids fs gs now (n + 1) id.0 n (omega arith) there p.2 (subst (λ y. IsWaiting w y id.0 n) (sym q.2) x.1)) more

-- ---- the drive

-- a read that failed was listed by a span that failed so
outcome-fails : (spans : List Span) (r : ℕ) (before : Option SpanOutcome) (fault : Fault) → outcome_after spans r before ≡ Some (Bad fault) → (before ≡ Some (Bad fault)) ⊎ IsFaultIn fault spans
outcome-fails [] r before fault h = inl h
outcome-fails (span ∷ spans) r before fault h = at (outcome-fails spans r (first_of before (outcome_by span r)) fault h)
  where
    here : (b : Option SpanOutcome) (c : Bool) → first_of b (cond c (Some span.outcome) None) ≡ Some (Bad fault) → (b ≡ Some (Bad fault)) ⊎ ((span.outcome ≡ Bad fault) ⊎ IsFaultIn fault spans)
    here (Some x) c e = inl e
    here None true e = let is : span.outcome ≡ Bad fault = cc in inr (inl is)
    here None false e = cc

    at : (first_of before (outcome_by span r) ≡ Some (Bad fault)) ⊎ IsFaultIn fault spans → (before ≡ Some (Bad fault)) ⊎ ((span.outcome ≡ Bad fault) ⊎ IsFaultIn fault spans)
    at (inl e) = here before (is_among r span.reads) e
    at (inr f) = inr (inr f)

fault-bad : (spans : List Span) (fault : Fault) → IsFaultIn fault spans → 1 ≤ bad_spans spans
fault-bad [] fault h = absurd h
fault-bad (span ∷ spans) fault (inl e) = let one = ap is_bad_span e in omega (arith, one)
fault-bad (span ∷ spans) fault (inr h) = let more = fault-bad spans fault h in omega (arith, more)

due-parts : (a b c : Bool) → a ≡ true → c ≡ true → (a && (b && c)) ≡ false → b ≡ false
due-parts true true true a c h = cc
due-parts true false c a d h = refl
due-parts true true false a c h = cc
due-parts false b c a d h = cc

some-is : (o : Option SpanOutcome) → is_none o ≡ false → (x : SpanOutcome) × (o ≡ Some x)
some-is None h = cc
some-is (Some x) h = (x, refl)

read-fails : {X : Type 0} (o : Option SpanOutcome) → o ≡ None → (fault : Fault) → (o ≡ Some (Bad fault)) ⊎ X → X
read-fails o none fault (inl e) = let clash : None ≡ Some (Bad fault) = sym none ∙ e in cc
read-fails o none fault (inr x) = x

pub driven-read : (w : World) (past : List Moment) (spans : List Span) (k : Kept) (s n : ℕ) → Stands w (driven spans past) k → NoneDue (driven spans past) → IsWaiting w past s n → IsRead w spans (driven spans past) s n
driven-read w past spans k s n st none h =
    let d = driven spans past in
    let used = live-used w (words w d) k st n h.read h.live h.read_is in
    let read = some-is (outcome_of d h.read) (due-parts (is_polled d h.read) (is_none (outcome_of d h.read)) (nat_le 1 (users d h.read)) h.polled (le-leb 1 (users d h.read) used) (none h.read)) in
    record {
      live = h.live;
      inside = h.inside;
      segment = h.segment;
      outcome = read.0;
      outcome_is = ap (option_and_then (outcome_of d)) h.read_is ∙ read.1;
      fails = λ fault is. read-fails (outcome_of past h.read) h.unread fault (outcome-fails spans h.read (outcome_of past h.read) fault (read.1 ∙ ap (λ o. Some o) is));
    }

-- ---- the last polls

answer-more : (table : List SegmentSpec) (spans : List Span) (s : ℕ) (reply : Reply) → IsAnswer table [] s reply → IsAnswer table spans s reply
answer-more table spans s (Registered m held) h = absurd h
answer-more table spans s MissingSegment h = h
answer-more table spans s (Ready buffer) h = h
answer-more table spans s Pending h = absurd h
answer-more table spans s (Failed (cause.Fault fault)) h = let no = h.1 in absurd (omega (arith, no))
answer-more table spans s (Failed cause.Cache) h = h
answer-more table spans s Dropped h = absurd h
answer-more table spans s NotLive h = absurd h
answer-more table spans s (Driven more) h = absurd h

poll-fault : (w : World) (spans : List Span) (past : List Moment) (s n : ℕ) (fault : Fault) → IsRow w past (polls n) (Failed (cause.Fault fault)) → IsRead w spans past s n → IsFaultIn fault spans
poll-fault w spans past s n fault row h = let same : Some h.outcome ≡ Some (Bad fault) = sym h.outcome_is ∙ row.1 in let is : h.outcome ≡ Bad fault = cc in h.fails fault is

last-poll : (w : World) (spans : List Span) (past : List Moment) (s n : ℕ) (reply : Reply) → IsRow w past (polls n) reply → IsRead w spans past s n → IsAnswer w.table spans s reply
last-poll w spans past s n (Registered m held) row h = absurd row
last-poll w spans past s n MissingSegment row h = absurd row
last-poll w spans past s n (Ready buffer) row h = h.inside
last-poll w spans past s n Pending row h =
    let r = read-waits past (read_of past n) row.1 in
    let none = none-is (outcome_of past r.0) (and_parts (is_none (outcome_of past r.0)) (nat_le 1 (users past r.0)) r.2).0 in
    let clash : None ≡ Some h.outcome = sym none ∙ sym (ap (option_and_then (outcome_of past)) r.1) ∙ h.outcome_is in
    cc
last-poll w spans past s n (Failed (cause.Fault fault)) row h = (h.inside, fault-bad spans fault (poll-fault w spans past s n fault row h))
last-poll w spans past s n (Failed cause.Cache) row h = absurd row
last-poll w spans past s n Dropped row h = absurd row
last-poll w spans past s n NotLive row h = let clash : true ≡ false = sym h.live ∙ row in cc
last-poll w spans past s n (Driven more) row h = absurd row

-- the fault of a closed request is none
closed-fault : (table : List SegmentSpec) (spans : List Span) (s : ℕ) (reply : Reply) → IsAnswer table [] s reply → IsFaultOf spans reply
closed-fault table spans s (Registered m held) h = tt
closed-fault table spans s MissingSegment h = tt
closed-fault table spans s (Ready buffer) h = tt
closed-fault table spans s Pending h = tt
closed-fault table spans s (Failed (cause.Fault fault)) h = let no = h.1 in absurd (omega (arith, no))
closed-fault table spans s (Failed cause.Cache) h = tt
closed-fault table spans s Dropped h = tt
closed-fault table spans s NotLive h = tt
closed-fault table spans s (Driven more) h = tt

last-fault : (w : World) (spans : List Span) (past : List Moment) (s n : ℕ) (reply : Reply) → IsRow w past (polls n) reply → IsRead w spans past s n → IsFaultOf spans reply
last-fault w spans past s n (Registered m held) row h = tt
last-fault w spans past s n MissingSegment row h = tt
last-fault w spans past s n (Ready buffer) row h = tt
last-fault w spans past s n Pending row h = tt
last-fault w spans past s n (Failed (cause.Fault fault)) row h = poll-fault w spans past s n fault row h
last-fault w spans past s n (Failed cause.Cache) row h = tt
last-fault w spans past s n Dropped row h = tt
last-fault w spans past s n NotLive row h = tt
last-fault w spans past s n (Driven more) row h = tt

pub last-polls : (w : World) (spans : List Span) (past : List Moment) (from : ℕ) (ids : List SegmentId) (fs gs : List Fetch) (now : List Moment)
    → AreAt w.table (IsRead w spans past) from ids fs → Polling w past fs gs now
    → AreAnswers w.table spans ids (map (λ (f : Fetch). f.reply) gs) × AreFaultsOf spans (map (λ (f : Fetch). f.reply) gs)
last-polls w spans past from [] [] [] now h p = (tt, tt)
last-polls w spans past from [] [] (g ∷ gs) now h p = absurd p
last-polls w spans past from [] (f ∷ fs) gs now h p = absurd h
last-polls w spans past from (id ∷ ids) [] gs now h p = absurd h
last-polls w spans past from (id ∷ ids) (f ∷ fs) [] now h p = absurd p
last-polls w spans past from (id ∷ ids) (f ∷ fs) (g ∷ gs) now h p = step f.number h.0 h.1 p.1 (λ b a. last-polls w spans p.0 b ids fs gs now a p.2)
  where
    step : (o : Option ℕ) → IsAt w.table (IsRead w spans past) from id.0 f o → AreAt w.table (IsRead w spans past) (after_number from o) ids fs → IsPolled w past o f g p.0
        → ((b : ℕ) → AreAt w.table (IsRead w spans p.0) b ids fs → AreAnswers w.table spans ids (map (λ (f : Fetch). f.reply) gs) × AreFaultsOf spans (map (λ (f : Fetch). f.reply) gs))
        → AreAnswers w.table spans (id ∷ ids) (g.reply ∷ map (λ (f : Fetch). f.reply) gs) × AreFaultsOf spans (g.reply ∷ map (λ (f : Fetch). f.reply) gs)
    step None a rest q more =
        let closed = subst (λ (x : Fetch). IsAnswer w.table [] id.0 x.reply) (sym q.0) a in
        let later = more from (subst (λ x. AreAt w.table (IsRead w spans x) from ids fs) (sym q.1) rest) in
        ((answer-more w.table spans id.0 g.reply closed, later.0), (closed-fault w.table spans id.0 g.reply closed, later.1))
    step (Some n) a rest q more =
        let later = more (n + 1) (subst (λ x. AreAt w.table (IsRead w spans x) (n + 1) ids fs) (sym q.2)
        (are-map w.table (IsRead w spans past) (IsRead w spans (moment (polls n) g.reply ∷ past)) (n + 1) (n + 1) ids fs (omega arith)
        (λ s m l x. read-kept w spans past n s m g.reply q.1 (λ is. absurd (omega (arith, l, is))) x) rest)) in
        ((last-poll w spans past id.0 n g.reply q.1 a.1, later.0), (last-fault w spans past id.0 n g.reply q.1 a.1, later.1))

-- ---- registers

-- no span lists a number that was not made
abbrev pub IsUnread : List Moment → Type 0
IsUnread past = (n : ℕ) → made past ≤ n → outcome_of past n ≡ None

-- a register leaves the numbers before as they were
pub record Joined (past now : List Moment) : Type 0 where
  pub more : made past ≤ made now
  pub live : (n : ℕ) → n < made past → is_live now n ≡ is_live past n
  pub segment : (n : ℕ) → n < made past → segment_of now n ≡ segment_of past n
  pub read : (n : ℕ) → n < made past → read_of now n ≡ read_of past n
  pub outcome : (r : ℕ) → outcome_of now r ≡ outcome_of past r

joined-none : (past : List Moment) → Joined past past
joined-none past = record { more = omega arith; live = λ n l. refl; segment = λ n l. refl; read = λ n l. refl; outcome = λ r. refl }

joined-then : (a b c : List Moment) → Joined a b → Joined b c → Joined a c
joined-then a b c h k = record {
  more = let x = h.more in let y = k.more in omega (arith, x, y);
  live = λ n l. k.live n (let x = h.more in omega (arith, l, x)) ∙ h.live n l;
  segment = λ n l. k.segment n (let x = h.more in omega (arith, l, x)) ∙ h.segment n l;
  read = λ n l. k.read n (let x = h.more in omega (arith, l, x)) ∙ h.read n l;
  outcome = λ r. k.outcome r ∙ h.outcome r;
}

other-number : (n number bound : ℕ) → n < bound → number ≡ bound → (n == number) ≡ false
other-number n number bound l e = ne_eqb n number (λ is. absurd (omega (arith, l, e, is)))

register-joins : (w : World) (past : List Moment) (s : ℕ) (got : Got) (reply : Reply) → IsRow w past (registers s got) reply → Joined past (moment (registers s got) reply ∷ past)
register-joins w past s got (Registered number true) row = record {
  more = omega arith;
  live = λ n l. ap (λ b. cond b true (is_live past n)) (other-number n number (made past) l row.1);
  segment = λ n l. ap (λ b. cond b (Some s) (segment_of past n)) (other-number n number (made past) l row.1);
  read = λ n l. ap (λ b. cond b None (read_of past n)) (other-number n number (made past) l row.1);
  outcome = λ r. refl;
}
register-joins w past s got (Registered number false) row = record {
  more = omega arith;
  live = λ n l. ap (λ b. cond b true (is_live past n)) (other-number n number (made past) l row.1);
  segment = λ n l. ap (λ b. cond b (Some s) (segment_of past n)) (other-number n number (made past) l row.1);
  read = λ n l. ap (λ b. cond b (Some (unwrap_or (joinable past s) number)) (read_of past n)) (other-number n number (made past) l row.1);
  outcome = λ r. refl;
}
register-joins w past s got MissingSegment row = record { more = omega arith; live = λ n l. refl; segment = λ n l. refl; read = λ n l. refl; outcome = λ r. refl }
register-joins w past s got (Ready buffer) row = absurd row
register-joins w past s got Pending row = absurd row
register-joins w past s got (Failed cause) row = record { more = omega arith; live = λ n l. refl; segment = λ n l. refl; read = λ n l. refl; outcome = λ r. refl }
register-joins w past s got Dropped row = absurd row
register-joins w past s got NotLive row = absurd row
register-joins w past s got (Driven spans) row = absurd row

registered-joins : (w : World) (past : List Moment) (before : CacheState) (id : SegmentId) (f : Fetch) (next : List Moment) (mid : CacheState) → IsRegistered w past before id f next mid → Joined past next
registered-joins w past before id f next mid h = subst (Joined past) (sym h.history) (register-joins w past id.0 h.got f.reply h.row)

registering-joins : (w : World) (past : List Moment) (before : CacheState) (ids : List SegmentId) (fs : List Fetch) (now : List Moment) (after : CacheState) → Registering w past before ids fs now after → Joined past now
registering-joins w past before [] [] now after h = subst (Joined past) (sym h.0) (joined-none past)
registering-joins w past before [] (f ∷ fs) now after h = absurd h
registering-joins w past before (id ∷ ids) [] now after h = absurd h
registering-joins w past before (id ∷ ids) (f ∷ fs) now after h =
    joined-then past h.0 now (registered-joins w past before id f h.0 h.1 h.2) (registering-joins w h.0 h.1 ids fs now after h.3)

-- an open number stays open while others are registered
open-joined : (w : World) (past now : List Moment) (s n : ℕ) → n < made past → Joined past now → IsOpen w past s n → IsOpen w now s n
open-joined w past now s n l j h = record {
  live = j.live n l ∙ h.live;
  inside = h.inside;
  segment = j.segment n l ∙ h.segment;
  fresh = ap is_bad (ap (option_and_then (outcome_of now)) (j.read n l) ∙ at (read_of past n)) ∙ h.fresh;
}
  where
    at : (o : Option ℕ) → option_and_then (outcome_of now) o ≡ option_and_then (outcome_of past) o
    at None = refl
    at (Some r) = j.outcome r

not-bad : (b c : Bool) (q r : ℕ) → cond (b && not c) (Some q) None ≡ Some r → (q ≡ r) × (c ≡ false)
not-bad true false q r e = let same : q ≡ r = cc in (same, refl)
not-bad true true q r e = cc
not-bad false c q r e = cc

-- the read that a register joins or begins did not fail
fresh-read : (past : List Moment) (s n : ℕ) → outcome_of past n ≡ None → (o : Option ℕ) → joinable past s ≡ o → is_bad (outcome_of past (unwrap_or o n)) ≡ false
fresh-read past s n none None e = ap is_bad none
fresh-read past s n none (Some r) e = at ((joins past).latest s) e
  where
    at : (l : Option ℕ) → option_and_then (if_open (joins past) past) l ≡ Some r → is_bad (outcome_of past r) ≡ false
    at None h = cc
    at (Some q) h =
        let parts = not-bad (nat_le 1 (users_by (joins past) past q)) (is_bad (outcome_of past q)) q r h in
        ap (λ x. is_bad (outcome_of past x)) (sym parts.0) ∙ parts.1

-- what a register makes is open
made-open : (w : World) (past : List Moment) (s number : ℕ) (got : Got) (held : Bool) → IsUnread past → IsRow w past (registers s got) (Registered number held)
    → IsOpen w (moment (registers s got) (Registered number held) ∷ past) s number
made-open w past s number got true unread row = record {
  live = ap (λ b. cond b true (is_live past number)) (eq-self number);
  inside = row.0;
  segment = ap (λ b. cond b (Some s) (segment_of past number)) (eq-self number);
  fresh = ap (λ b. is_bad (option_and_then (outcome_of past) (cond b None (read_of past number)))) (eq-self number);
}
made-open w past s number got false unread row = record {
  live = ap (λ b. cond b true (is_live past number)) (eq-self number);
  inside = row.0;
  segment = ap (λ b. cond b (Some s) (segment_of past number)) (eq-self number);
  fresh = ap (λ b. is_bad (option_and_then (outcome_of past) (cond b (Some (unwrap_or (joinable past s) number)) (read_of past number)))) (eq-self number)
      ∙ fresh-read past s number (unread number (let e = row.1 in omega (arith, e))) (joinable past s) refl;
}

unread-joined : (past now : List Moment) → Joined past now → IsUnread past → IsUnread now
unread-joined past now j h = λ n l. j.outcome n ∙ h n (let m = j.more in omega (arith, m, l))

-- after the registers each number that was made is open
pub registers-open : (w : World) (past : List Moment) (before : CacheState) (ids : List SegmentId) (fs : List Fetch) (now : List Moment) (after : CacheState) → IsUnread past
    → Registering w past before ids fs now after → AreAt w.table (IsOpen w now) (made past) ids fs
registers-open w past before [] [] now after unread h = tt
registers-open w past before [] (f ∷ fs) now after unread h = absurd h
registers-open w past before (id ∷ ids) [] now after unread h = absurd h
registers-open w past before (id ∷ ids) (f ∷ fs) now after unread h =
    at (registers-open w h.0 h.1 ids fs now after (unread-joined past h.0 (registered-joins w past before id f h.0 h.1 h.2) unread) h.3) f.reply refl h.2.row
  where
    next : List Moment
    next = h.0

    number-is : f.number ≡ number_in f.reply
    number-is = ap (λ (x : Fetch). x.number) h.2.fetch

    -- nothing was made
    none : AreAt w.table (IsOpen w now) (made next) ids fs → (reply : Reply) → f.reply ≡ reply → number_in reply ≡ None → IsAnswer w.table [] id.0 reply → made next ≡ made past
        → IsAt w.table (IsOpen w now) (made past) id.0 f f.number × AreAt w.table (IsOpen w now) (after_number (made past) f.number) ids fs
    none more reply e n a m = join-none w.table (IsOpen w now) (made past) id.0 ids f fs (number-is ∙ ap number_in e ∙ n) (subst (IsAnswer w.table [] id.0) (sym e) a) (subst (λ x. AreAt w.table (IsOpen w now) x ids fs) m more)

    made-next : (reply : Reply) → f.reply ≡ reply → next ≡ moment (registers id.0 h.2.got) reply ∷ past
    made-next reply e = h.2.history ∙ ap (λ r. moment (registers id.0 h.2.got) r ∷ past) e

    at : AreAt w.table (IsOpen w now) (made next) ids fs → (reply : Reply) → f.reply ≡ reply → IsRow w past (registers id.0 h.2.got) reply
        → IsAt w.table (IsOpen w now) (made past) id.0 f f.number × AreAt w.table (IsOpen w now) (after_number (made past) f.number) ids fs
    at more (Registered number held) e row =
        let is = made-next (Registered number held) e in
        let count : made next ≡ number + 1 = ap made is ∙ ap (λ n. n + 1) (sym row.1) in
        let same = row.1 in
        join-some w.table (IsOpen w now) (made past) id.0 number ids f fs (number-is ∙ ap number_in e) (omega (arith, same))
        (open-joined w next now id.0 number (omega (arith, count)) (registering-joins w next h.1 ids fs now after h.3)
        (subst (λ x. IsOpen w x id.0 number) (sym is) (made-open w past id.0 number h.2.got held unread row)))
        (subst (λ x. AreAt w.table (IsOpen w now) x ids fs) count more)
    at more MissingSegment e row = none more MissingSegment e refl row (ap made (made-next MissingSegment e))
    at more (Ready buffer) e row = absurd row
    at more Pending e row = absurd row
    at more (Failed (cause.Fault fault)) e row = absurd row
    at more (Failed cause.Cache) e row = none more (Failed cause.Cache) e refl row.0 (ap made (made-next (Failed cause.Cache) e))
    at more Dropped e row = absurd row
    at more NotLive e row = absurd row
    at more (Driven spans) e row = absurd row

-- no span lists a number that a session did not make
pub stands-unread : (w : World) (past : List Moment) (k : Kept) → Stands w past k → IsUnread past
stands-unread w past k st n l =
    let count = st.places in
    sym (st.outcome n) ∙ ap outcome_in (get-past k.reads n (omega (arith, count, l)))

-- ---- faults of the cache

got-later : (asked : Bool) (s : ℕ) (before now : CacheState) (got : Got) → HasGot asked s before now got → before.faults ≤ now.faults
got-later asked s before now got h = at (is_failing got) refl
  where
    at : (b : Bool) → is_failing got ≡ b → before.faults ≤ now.faults
    at true e = (h.failed e).later
    at false e = let same = h.still e in omega (arith, same)

rises-zero : (before now : ℕ) → before ≤ now → Rises 0 before now
rises-zero before now l = record { later = l; risen = omega (arith, l) }

registered-failures : (w : World) (past : List Moment) (s : ℕ) (got : Got) (before now : CacheState) (reply : Reply) → IsRow w past (registers s got) reply → HasGot (asks w s) s before now got
    → Rises (cache_failure reply) before.faults now.faults
registered-failures w past s got before now (Registered number held) row h = rises-zero before.faults now.faults (got-later (asks w s) s before now got h)
registered-failures w past s got before now MissingSegment row h = rises-zero before.faults now.faults (got-later (asks w s) s before now got h)
registered-failures w past s got before now (Ready buffer) row h = absurd row
registered-failures w past s got before now Pending row h = absurd row
registered-failures w past s got before now (Failed (cause.Fault fault)) row h = absurd row
registered-failures w past s got before now (Failed cause.Cache) row h = h.failed row.2
registered-failures w past s got before now Dropped row h = absurd row
registered-failures w past s got before now NotLive row h = absurd row
registered-failures w past s got before now (Driven spans) row h = absurd row

pub registering-failures : (w : World) (past : List Moment) (before : CacheState) (ids : List SegmentId) (fs : List Fetch) (now : List Moment) (after : CacheState) → Registering w past before ids fs now after
    → Rises (cache_failures (map (λ (f : Fetch). f.reply) fs)) before.faults after.faults
registering-failures w past before [] [] now after h = rises-zero before.faults after.faults (let same = ap (λ (c : CacheState). c.faults) h.1 in omega (arith, same))
registering-failures w past before [] (f ∷ fs) now after h = absurd h
registering-failures w past before (id ∷ ids) [] now after h = absurd h
registering-failures w past before (id ∷ ids) (f ∷ fs) now after h =
    rises-then (cache_failure f.reply) (cache_failures (map (λ (g : Fetch). g.reply) fs)) before.faults h.1.faults after.faults
    (registered-failures w past id.0 h.2.got before h.1 f.reply h.2.row h.2.cache) (registering-failures w h.0 h.1 ids fs now after h.3)

poll-failure : (w : World) (past : List Moment) (n : ℕ) (reply : Reply) → IsRow w past (polls n) reply → cache_failure reply ≡ 0
poll-failure w past n (Registered m held) row = absurd row
poll-failure w past n MissingSegment row = absurd row
poll-failure w past n (Ready buffer) row = refl
poll-failure w past n Pending row = refl
poll-failure w past n (Failed (cause.Fault fault)) row = refl
poll-failure w past n (Failed cause.Cache) row = absurd row
poll-failure w past n Dropped row = absurd row
poll-failure w past n NotLive row = refl
poll-failure w past n (Driven spans) row = absurd row

polled-failure : (w : World) (past : List Moment) (o : Option ℕ) (f g : Fetch) (next : List Moment) → IsPolled w past o f g next → cache_failure g.reply ≤ cache_failure f.reply
polled-failure w past None f g next h = let same = ap (λ (x : Fetch). cache_failure x.reply) h.0 in omega (arith, same)
polled-failure w past (Some n) f g next h = let none = poll-failure w past n g.reply h.1 in omega (arith, none)

-- a poll never tells that the cache failed
pub polling-failures : (w : World) (past : List Moment) (fs gs : List Fetch) (now : List Moment) → Polling w past fs gs now
    → cache_failures (map (λ (f : Fetch). f.reply) gs) ≤ cache_failures (map (λ (f : Fetch). f.reply) fs)
polling-failures w past [] [] now h = omega arith
polling-failures w past [] (g ∷ gs) now h = absurd h
polling-failures w past (f ∷ fs) [] now h = absurd h
polling-failures w past (f ∷ fs) (g ∷ gs) now h =
    let one = polled-failure w past f.number f g h.0 h.1 in
    let more = polling-failures w h.0 fs gs now h.2 in
    omega (arith, one, more)

pub rises-fewer : (many few before now later : ℕ) → Rises many before now → few ≤ many → now ≤ later → Rises few before later
rises-fewer many few before now later h l m =
    let a = h.later in
    let b = h.risen in
    record { later = omega (arith, a, m); risen = omega (arith, b, l, m) }

-- ---- bytes

registered-slice : (file : List ℕ) (table : List SegmentSpec) (t : ℕ) (w : World) (past : List Moment) (s : ℕ) (got : Got) (reply : Reply) → IsRow w past (registers s got) reply → HasSlice file table t reply
registered-slice file table t w past s got (Registered number held) row = tt
registered-slice file table t w past s got MissingSegment row = tt
registered-slice file table t w past s got (Ready buffer) row = absurd row
registered-slice file table t w past s got Pending row = tt
registered-slice file table t w past s got (Failed cause) row = tt
registered-slice file table t w past s got Dropped row = tt
registered-slice file table t w past s got NotLive row = tt
registered-slice file table t w past s got (Driven spans) row = tt

-- a register gives no bytes
pub registers-slices : (file : List ℕ) (w : World) (past : List Moment) (before : CacheState) (ids : List SegmentId) (fs : List Fetch) (now : List Moment) (after : CacheState) → Registering w past before ids fs now after
    → HaveSlices file w.table ids (map (λ (f : Fetch). f.reply) fs)
registers-slices file w past before [] fs now after h = tt
registers-slices file w past before (id ∷ ids) [] now after h = tt
registers-slices file w past before (id ∷ ids) (f ∷ fs) now after h =
    (registered-slice file w.table id.0 w past id.0 h.2.got f.reply h.2.row, registers-slices file w h.0 h.1 ids fs now after h.3)

true-slice : (file : List ℕ) (w : World) (past : List Moment) (s n : ℕ) (reply : Reply) → segment_of past n ≡ Some s → IsTruePoll file w past (Some n) reply → HasSlice file w.table s reply
true-slice file w past s n (Registered m held) e h = tt
true-slice file w past s n MissingSegment e h = tt
true-slice file w past s n (Ready buffer) e h = (h s e).0
true-slice file w past s n Pending e h = tt
true-slice file w past s n (Failed cause) e h = tt
true-slice file w past s n Dropped e h = tt
true-slice file w past s n NotLive e h = tt
true-slice file w past s n (Driven spans) e h = tt

pub polls-slices : (file : List ℕ) (w : World) (P : ℕ → ℕ → Type 0) (past : List Moment) → ((s n : ℕ) → P s n → segment_of past n ≡ Some s) → (from : ℕ) (ids : List SegmentId) (fs gs : List Fetch) (before now : List Moment)
    → AreAt w.table P from ids fs → Polling w before fs gs now → AreTruePolls file w past fs gs → HaveSlices file w.table ids (map (λ (f : Fetch). f.reply) fs)
    → HaveSlices file w.table ids (map (λ (f : Fetch). f.reply) gs)
polls-slices file w P past segment from [] fs gs before now at p t h = tt
polls-slices file w P past segment from (id ∷ ids) [] [] before now at p t h = tt
polls-slices file w P past segment from (id ∷ ids) [] (g ∷ gs) before now at p t h = absurd p
polls-slices file w P past segment from (id ∷ ids) (f ∷ fs) [] before now at p t h = tt
polls-slices file w P past segment from (id ∷ ids) (f ∷ fs) (g ∷ gs) before now at p t h =
    (step f.number at.0 p.1 t.0, polls-slices file w P past segment (after_number from f.number) ids fs gs p.0 now at.1 p.2 t.1 h.1)
  where
    step : (o : Option ℕ) → IsAt w.table P from id.0 f o → IsPolled w before o f g p.0 → IsTruePoll file w past o g.reply → HasSlice file w.table id.0 g.reply
    step None a q u = subst (λ (x : Fetch). HasSlice file w.table id.0 x.reply) (sym q.0) h.0
    step (Some n) a q u = true-slice file w past id.0 n g.reply (segment id.0 n a.1) u

-- ---- the whole

module _ (w : World) (past : List Moment) (before after : CacheState) (ids : List SegmentId) (first second : List Fetch) (k k0 : Kept) (st : Stands w past k0) (h : Waits w past before after ids first second k) where
  opened : AreAt w.table (IsOpen w h.registered) (made past) ids first
  opened = registers-open w past before ids first h.registered after (stands-unread w past k0 st) h.registers

  module _ (spans : List Span) (k' : Kept) (d : IsNext w h.waiting drives (Driven spans) k') where
    read : AreAt w.table (IsRead w spans (driven spans h.waiting)) (made past) ids second
    read = are-map w.table (IsWaiting w h.waiting) (IsRead w spans (driven spans h.waiting)) 0 (made past) ids second (omega arith)
        (λ s n l x. driven-read w h.waiting spans k' s n d.stands d.row.1 x) (first-polls w h.registered (made past) ids first second h.waiting opened h.polls)

    module _ (last : List Fetch) (now : List Moment) (polls : Polling w (driven spans h.waiting) second last now) where
      pub answers-now : AreAnswers w.table spans ids (map (λ (f : Fetch). f.reply) last)
      answers-now = (last-polls w spans (driven spans h.waiting) (made past) ids second last now read polls).0

      pub faults-now : AreFaultsOf spans (map (λ (f : Fetch). f.reply) last)
      faults-now = (last-polls w spans (driven spans h.waiting) (made past) ids second last now read polls).1

      pub slices-now : (file : List ℕ) → AreTruePolls file w h.registered first second → AreTruePolls file w (driven spans h.waiting) second last
          → HaveSlices file w.table ids (map (λ (f : Fetch). f.reply) last)
      slices-now file one two =
          polls-slices file w (IsRead w spans (driven spans h.waiting)) (driven spans h.waiting) (λ s n x. x.segment) (made past) ids second last (driven spans h.waiting) now read polls two
          (polls-slices file w (IsOpen w h.registered) h.registered (λ s n x. x.segment) (made past) ids first second h.registered h.waiting opened h.polls one
          (registers-slices file w past before ids first h.registered after h.registers))

      pub failures-now : (later : CacheState) → after.faults ≤ later.faults → Rises (cache_failures (map (λ (f : Fetch). f.reply) last)) before.faults later.faults
      failures-now later l =
          let a = polling-failures w h.registered first second h.waiting h.polls in
          let b = polling-failures w (driven spans h.waiting) second last now polls in
          rises-fewer (cache_failures (map (λ (f : Fetch). f.reply) first)) (cache_failures (map (λ (f : Fetch). f.reply) last)) before.faults after.faults later.faults
          (registering-failures w past before ids first h.registered after h.registers) (omega (arith, a, b)) l

-- ---- where nothing failed

ready-one : (table : List SegmentSpec) (spans : List Span) (s : ℕ) (reply : Reply) (more : List Reply) → IsAnswer table spans s reply → s < length table → bad_spans spans ≡ 0 → cache_failure reply ≡ 0
    → AreReady more → AreReady (reply ∷ more)
ready-one table spans s (Registered n held) more a l bad failed h = absurd a
ready-one table spans s MissingSegment more a l bad failed h = absurd (omega (arith, a, l))
ready-one table spans s (Ready buffer) more a l bad failed h = h
ready-one table spans s Pending more a l bad failed h = absurd a
ready-one table spans s (Failed (cause.Fault fault)) more a l bad failed h = let one = a.1 in absurd (omega (arith, one, bad))
ready-one table spans s (Failed cause.Cache) more a l bad failed h = absurd (omega (arith, failed))
ready-one table spans s Dropped more a l bad failed h = absurd a
ready-one table spans s NotLive more a l bad failed h = absurd a
ready-one table spans s (Driven all) more a l bad failed h = absurd a

pub ready-all : (table : List SegmentSpec) (spans : List Span) (ids : List SegmentId) (replies : List Reply) → AreAnswers table spans ids replies → AreInTable table ids → bad_spans spans ≡ 0
    → cache_failures replies ≡ 0 → AreReady replies
ready-all table spans [] [] a l bad failed = tt
ready-all table spans [] (reply ∷ more) a l bad failed = absurd a
ready-all table spans (id ∷ rest) [] a l bad failed = absurd a
ready-all table spans (id ∷ rest) (reply ∷ more) a l bad failed =
    ready-one table spans id.0 reply more a.0 l.0 bad (omega (arith, failed)) (ready-all table spans rest more a.1 l.1 bad (omega (arith, failed)))
