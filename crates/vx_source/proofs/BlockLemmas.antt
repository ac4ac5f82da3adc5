-- What a block of spans does.
use Rattle.std.proofs.Common.{◌≡◌, ℕ, ◌≤◌, Bool, true, false, cond, List, [], ◌∷◌, ◌++◌, length, map, Option, Some, None, refl, sym, ap, ◌∙◌, subst, arith, ◌==◌, ◌||◌}
use Rattle.std.specs.Prelude.{is_some}
use Rattle.vx_base.specs.Buffer.{Buffer}
use Rattle.vx_sched.specs.Io.{request_of as range_of}
use Rattle.vx_sched.specs.Law.{IsSound}
use Rattle.vx_sched.specs.Merging.{is_listed}
use Rattle.vx_sched.specs.Metrics.{with_call}
use Rattle.vx_sched.specs.Outcomes.{IsOutcomeOf, AreOutcomesOf}
use Rattle.vx_sched.specs.Scheduling.{Scheduler, MergesFrom, MergesInTurn, MayTake, IsLegal, span_at, taken, all_taken, resolved, all_resolved, settled, replay}
use Rattle.vx_sched.specs.Span as sched
use Rattle.vx_sched.specs.declared.event.Event.TheVariants as event
use Rattle.vx_sched.specs.declared.fault.Fault.{Fault}
use Rattle.vx_sched.specs.declared.fault.Outcome.{Outcome}
use Rattle.vx_sched.specs.declared.fault.Outcome.TheVariants as out
use Rattle.vx_sched.specs.declared.request.ReadRequest.{ReadRequest}
use Rattle.vx_sched.proofs.ChainLemmas.{all-fly, turn-apart, left-all, ranges-all, ranges-all-back, next-all}
use Rattle.vx_sched.proofs.ChainLemmas.{resolves as resolves-legal}
use Rattle.vx_sched.proofs.LawRuns.{sound-run}
use Rattle.vx_sched.proofs.SoundLemmas.{sound-all_taken}
use Rattle.vx_source.specs.Blocks.{reported, span_outcome, reports_of, filed_good, filed_bad, filed_by, filed_of, with_filed, file_reads, with_cores, after_block}
use Rattle.vx_source.specs.Events.{told_block}
use Rattle.vx_source.specs.Fits.{World, NamesRange}
use Rattle.vx_source.specs.History.{first_of, outcome_after, is_good, is_bad}
use Rattle.vx_source.specs.Kept.{Kept, update, users_in, users_at, polled_in, polled_at, outcome_at, bytes_of}
use Rattle.vx_source.specs.Stands.{Words, HasWords, users_of, is_due, waiting}
use Rattle.vx_source.specs.Requests.{Filed, SharedRead}
use Rattle.vx_source.specs.declared.span.Span.{Span}
use Rattle.vx_source.specs.declared.span.SpanOutcome.{SpanOutcome}
use Rattle.vx_source.specs.declared.span.SpanOutcome.TheVariants.{Good, Bad}
use Rattle.vx_source.proofs.SlotLemmas.{length-update}
use Rattle.vx_source.proofs.SpanLemmas.{Follows, with_outcome, follows-taken, asked_of, core-is, merges-now, listed-used, names-range, among-listed, outcome-filed, bytes-filed, one-same, users-one, polled-one}
use Rattle.vx_source.proofs.WordLemmas.{eq-self, replay-append, legal-append}

-- the words after several spans
abbrev pub after_spans : Words → List Span → Words
after_spans v spans = record v { outcome = λ r. outcome_after spans r (v.outcome r) }

-- a span merges, by the words
pub record IsTurnBy (w : World) (v : Words) (span : Span) : Type 0 where
  pub core : sched.Span
  pub is : span_at w.idle (asked_of w v span.reads) ≡ core
  pub merges : MergesFrom w.idle (waiting w v) (is_due v) core
  pub start : span.start ≡ core.start
  pub end : span.end ≡ core.end
  pub alignment : span.alignment ≡ core.alignment
  pub place : NamesRange span span.outcome

abbrev pub TurnsBy : World → Words → List Span → Type 0
TurnsBy w v [] = Unit {0}
TurnsBy w v (span ∷ rest) = IsTurnBy w v span × TurnsBy w (with_outcome v span) rest

-- ---- the scheduler

module _ (w : World) where
  pub follows-all : (cores : List sched.Span) (outcomes : List Outcome) (v : Words) (s : Scheduler) → Follows w v s → MergesInTurn s cores
      → AreOutcomesOf (map range_of cores) outcomes → Follows w (after_spans v (reports_of cores outcomes)) (all_taken s cores)
  follows-all [] outcomes v s f m h = record { waiting = f.waiting; due = f.due; settings = f.settings; sound = f.sound }
  follows-all (core ∷ rest) [] v s f m h = absurd h
  follows-all (core ∷ rest) (o ∷ more) v s f m h =
      follows-all rest more (with_outcome v (reported (span_outcome o) core)) (taken s core) (follows-taken w v s core (span_outcome o) f m.0) m.1 h.1

  pub turns-all : (cores : List sched.Span) (outcomes : List Outcome) (v : Words) (s : Scheduler) → Follows w v s → MergesInTurn s cores
      → AreOutcomesOf (map range_of cores) outcomes → TurnsBy w v (reports_of cores outcomes)
  turns-all [] outcomes v s f m h = tt
  turns-all (core ∷ rest) [] v s f m h = absurd h
  turns-all (core ∷ rest) (o ∷ more) v s f m h = (
    record {
      core = core;
      is = core-is w v s core (span_outcome o) f m.0;
      merges = merges-now w v s core (span_outcome o) f m.0;
      start = refl;
      end = refl;
      alignment = refl;
      place = names-range core o h.0;
    },
    turns-all rest more (with_outcome v (reported (span_outcome o) core)) (taken s core) (follows-taken w v s core (span_outcome o) f m.0) m.1 h.1,
  )

-- ---- filing

-- reads to which outcomes were added
record FiledTo (reads now : List SharedRead) (added : ℕ → Option SpanOutcome → Option SpanOutcome) : Type 0 where
  users : (q : ℕ) → users_at now q ≡ users_at reads q
  polled : (q : ℕ) → polled_at now q ≡ polled_at reads q
  outcome : (q : ℕ) → outcome_at now q ≡ added q (outcome_at reads q)
  bytes : (q : ℕ) → (is_good (outcome_at reads q) ≡ true → is_some (bytes_of reads q) ≡ true) → is_good (outcome_at now q) ≡ true → is_some (bytes_of now q) ≡ true
  places : length now ≡ length reads

filed-nothing : (reads : List SharedRead) → FiledTo reads reads (λ q x. x)
filed-nothing reads = record { users = λ q. refl; polled = λ q. refl; outcome = λ q. refl; bytes = λ q h. h; places = refl }

filed-then : (a b c : List SharedRead) (f g : ℕ → Option SpanOutcome → Option SpanOutcome) → FiledTo a b f → FiledTo b c g → FiledTo a c (λ q x. g q (f q x))
filed-then a b c f g h k = record {
  users = λ q. k.users q ∙ h.users q;
  polled = λ q. k.polled q ∙ h.polled q;
  outcome = λ q. k.outcome q ∙ ap (g q) (h.outcome q);
  bytes = λ q old. k.bytes q (h.bytes q old);
  places = k.places ∙ h.places;
}

filed-along : (a b : List SharedRead) (f g : ℕ → Option SpanOutcome → Option SpanOutcome) → ((q : ℕ) (x : Option SpanOutcome) → f q x ≡ g q x) → FiledTo a b f → FiledTo a b g
filed-along a b f g same h = record { users = h.users; polled = h.polled; outcome = λ q. h.outcome q ∙ same q (outcome_at a q); bytes = h.bytes; places = h.places }

filed-one : (f : Filed) (reads : List SharedRead) → 1 ≤ users_at reads f.read → (is_good (Some f.outcome) ≡ true → is_some f.bytes ≡ true)
    → FiledTo reads (update (with_filed f) reads f.read) (λ q x. first_of x (cond (f.read == q) (Some f.outcome) None))
filed-one f reads used own = record {
  users = one-same f reads users_in (users-one f reads);
  polled = one-same f reads polled_in (polled-one f reads);
  outcome = λ q. outcome-filed f reads q used;
  bytes = λ q old good. bytes-filed f reads q own old good;
  places = length-update (with_filed f) reads f.read;
}

file-append : (reads : List SharedRead) (xs ys : List Filed) → file_reads reads (xs ++ ys) ≡ file_reads (file_reads reads xs) ys
file-append reads [] ys = refl
file-append reads (f ∷ xs) ys = file-append (update (with_filed f) reads f.read) xs ys

-- what a span gives a read
record Gives (o : SpanOutcome) (r : ReadRequest) (f : Filed) : Type 0 where
  read : f.read ≡ r.id
  outcome : f.outcome ≡ o
  own : is_good (Some f.outcome) ≡ true → is_some f.bytes ≡ true

add-one : (o : SpanOutcome) (a b : Bool) (x : Option SpanOutcome) → first_of (first_of x (cond a (Some o) None)) (cond b (Some o) None) ≡ first_of x (cond (a || b) (Some o) None)
add-one o true true None = refl
add-one o true false None = refl
add-one o false true None = refl
add-one o false false None = refl
add-one o true b (Some y) = refl
add-one o false b (Some y) = refl

file-span : (o : SpanOutcome) (file : ReadRequest → Filed) → ((r : ReadRequest) → Gives o r (file r)) → (rs : List ReadRequest) (reads : List SharedRead)
    → ((q : ℕ) → is_listed rs q ≡ true → 1 ≤ users_at reads q) → FiledTo reads (file_reads reads (map file rs)) (λ q x. first_of x (cond (is_listed rs q) (Some o) None))
file-span o file gives [] reads used = filed-along reads reads (λ q x. x) (λ q x. first_of x None) same (filed-nothing reads)
  where
    same : (q : ℕ) (x : Option SpanOutcome) → x ≡ first_of x None
    same q None = refl
    same q (Some y) = refl
file-span o file gives (r ∷ rs) reads used =
    let g = gives r in
    let now = update (with_filed (file r)) reads (file r).read in
    let mine : is_listed (r ∷ rs) (file r).read ≡ true = ap (λ n. (r.id == n) || is_listed rs n) g.read ∙ ap (λ b. b || is_listed rs r.id) (eq-self r.id) in
    let one = filed-one (file r) reads (used (file r).read mine) g.own in
    let rest = file-span o file gives rs now (λ q l. subst (λ n. 1 ≤ n) (sym (one.users q)) (used q (listed-more q (r.id == q) (is_listed rs q) l))) in
    filed-along reads (file_reads now (map file rs)) (λ q x. first_of (first_of x (cond ((file r).read == q) (Some (file r).outcome) None)) (cond (is_listed rs q) (Some o) None)) (λ q x. first_of x (cond (is_listed (r ∷ rs) q) (Some o) None))
    (λ q x. ap (λ n. first_of (first_of x (cond (n == q) (Some (file r).outcome) None)) (cond (is_listed rs q) (Some o) None)) g.read
    ∙ ap (λ y. first_of (first_of x (cond (r.id == q) (Some y) None)) (cond (is_listed rs q) (Some o) None)) g.outcome
    ∙ add-one o (r.id == q) (is_listed rs q) x)
    (filed-then reads now (file_reads now (map file rs)) (λ q x. first_of x (cond ((file r).read == q) (Some (file r).outcome) None)) (λ q x. first_of x (cond (is_listed rs q) (Some o) None)) one rest)
  where
    listed-more : (q : ℕ) (a b : Bool) → b ≡ true → (a || b) ≡ true
    listed-more q true b h = refl
    listed-more q false b h = h

gives-good : (core : sched.Span) (buffer : Buffer) (r : ReadRequest) → Gives Good r (filed_good core buffer r)
gives-good core buffer r = record { read = refl; outcome = refl; own = λ _. refl }

gives-bad : (fault : Fault) (r : ReadRequest) → Gives (Bad fault) r (filed_bad (Bad fault) r)
gives-bad fault r = record { read = refl; outcome = refl; own = λ h. cc }

file-by : (core : sched.Span) (o : Outcome) (reads : List SharedRead) → IsOutcomeOf (range_of core) o → ((q : ℕ) → is_listed core.reads q ≡ true → 1 ≤ users_at reads q)
    → FiledTo reads (file_reads reads (filed_by core o)) (λ q x. first_of x (cond (is_listed core.reads q) (Some (span_outcome o)) None))
file-by core (out.Bytes buffer) reads h used = file-span Good (filed_good core buffer) (gives-good core buffer) core.reads reads used
file-by core (out.Fault fault) reads h used = file-span (Bad fault) (filed_bad (Bad fault)) (gives-bad fault) core.reads reads used
file-by core out.NoMemory reads h used = absurd h

module _ (w : World) where
  -- a block is filed
  file-all : (cores : List sched.Span) (outcomes : List Outcome) (v : Words) (s : Scheduler) (reads : List SharedRead) → Follows w v s → MergesInTurn s cores
      → AreOutcomesOf (map range_of cores) outcomes → ((q : ℕ) → users_at reads q ≡ users_of v q)
      → FiledTo reads (file_reads reads (filed_of cores outcomes)) (λ q x. outcome_after (reports_of cores outcomes) q x)
  file-all [] outcomes v s reads f m h users = filed-nothing reads
  file-all (core ∷ rest) [] v s reads f m h users = absurd h
  file-all (core ∷ rest) (o ∷ more) v s reads f m h users =
      let now = file_reads reads (filed_by core o) in
      let one = file-by core o reads h.0 (λ q l. subst (λ n. 1 ≤ n) (sym (users q)) (listed-used w v s core (span_outcome o) f m.0 q l)) in
      let others = file-all rest more (with_outcome v (reported (span_outcome o) core)) (taken s core) now (follows-taken w v s core (span_outcome o) f m.0) m.1 h.1 (λ q. one.users q ∙ users q) in
      subst (λ rs. FiledTo reads rs (λ q x. outcome_after (reports_of (core ∷ rest) (o ∷ more)) q x)) (sym (file-append reads (filed_by core o) (filed_of rest more)))
      (filed-along reads (file_reads now (filed_of rest more)) (λ q x. outcome_after (reports_of rest more) q (first_of x (cond (is_listed core.reads q) (Some (span_outcome o)) None)))
      (λ q x. outcome_after (reports_of (core ∷ rest) (o ∷ more)) q x)
      (λ q x. ap (λ b. outcome_after (reports_of rest more) q (first_of x (cond b (Some (span_outcome o)) None))) (sym (among-listed q core.reads)))
      (filed-then reads now (file_reads now (filed_of rest more)) (λ q x. first_of x (cond (is_listed core.reads q) (Some (span_outcome o)) None)) (λ q x. outcome_after (reports_of rest more) q x) one others))

-- ---- the whole block

replay-resolves : (s : Scheduler) (spans : List sched.Span) → replay s (map event.Resolve spans) ≡ all_resolved s spans
replay-resolves s [] = refl
replay-resolves s (span ∷ rest) = replay-resolves (resolved s span) rest

-- the words after a block
abbrev pub block_words : Words → List sched.Span → List Outcome → Words
block_words v cores outcomes = record v {
  outcome = λ r. outcome_after (reports_of cores outcomes) r (v.outcome r);
  events = v.events ++ told_block cores;
  metrics = with_cores cores (with_call (length cores) v.metrics);
}

module _ (w : World) (v : Words) (k : Kept) (cores : List sched.Span) (outcomes : List Outcome) (st : HasWords w v k)
    (may : MayTake k.core cores) (places : AreOutcomesOf (map range_of cores) outcomes) where
  pub follows : Follows w v k.core
  follows = record { waiting = st.ties.waiting; due = st.ties.due; settings = st.ties.settings; sound = st.ties.sound }

  all : Follows w (after_spans v (reports_of cores outcomes)) (all_taken k.core cores)
  all = follows-all w cores outcomes v k.core follows may.merge places

  files : FiledTo k.reads (file_reads k.reads (filed_of cores outcomes)) (λ q x. outcome_after (reports_of cores outcomes) q x)
  files = file-all w cores outcomes v k.core k.reads follows may.merge places st.users

  sound-taken : IsSound (all_taken k.core cores)
  sound-taken = sound-all_taken k.core cores st.ties.sound may.merge

  legal : IsLegal k.core (told_block cores)
  legal = (may, resolves-legal (all_taken k.core cores) cores sound-taken (all-fly k.core cores st.ties.sound may.merge) (turn-apart k.core cores st.ties.sound may.merge))

  settles : replay k.core (told_block cores) ≡ settled k.core cores
  settles = replay-resolves (all_taken k.core cores) cores

  pub block-stands : HasWords w (block_words v cores outcomes) (after_block k cores outcomes)
  block-stands =
      let left = left-all (all_taken k.core cores) cores sound-taken (all-fly k.core cores st.ties.sound may.merge) (turn-apart k.core cores st.ties.sound may.merge) in
      record {
        table = st.table;
        start = st.start;
        idle = st.idle;
        rested = st.rested;
        core = sym settles ∙ ap (λ s. replay s (told_block cores)) st.core ∙ sym (replay-append w.idle v.events (told_block cores));
        legal = legal-append w.idle v.events (told_block cores) st.legal (subst (λ s. IsLegal s (told_block cores)) st.core legal);
        ties = record {
          waiting = λ q. left.waiting q ∙ all.waiting q;
          due = λ q. left.polled q ∙ all.due q;
          settings = let s = left.settings in let t = all.settings in record {
            distance = s.distance ∙ t.distance;
            limit = s.limit ∙ t.limit;
            alignment = s.alignment ∙ t.alignment;
            concurrency = s.concurrency ∙ t.concurrency;
          };
          next = let same = left.next ∙ next-all k.core cores in let next = st.ties.next in omega (arith, same, next);
          rests =
              let up = ranges-all k.core cores st.ties.sound may.merge in
              let down = ranges-all-back (all_taken k.core cores) cores sound-taken (all-fly k.core cores st.ties.sound may.merge) (turn-apart k.core cores st.ties.sound may.merge) in
              let rests = st.ties.rests in
              omega (arith, up, down, rests);
          sound = subst IsSound settles (sound-run (told_block cores) k.core st.ties.sound legal);
        };
        known = record { known = st.known.known; held = st.known.held; shared = st.known.shared; newest = st.known.newest; joined = λ n r s l read segment fine. st.known.joined n r s l read segment (before-fine (reports_of cores outcomes) r (v.outcome r) fine) };
        count = st.count;
        places = files.places ∙ st.places;
        segments = st.segments;
        standing = st.standing;
        segment = st.segment;
        users = λ q. files.users q ∙ st.users q;
        polled = λ q none. files.polled q ∙ st.polled q (before-none (reports_of cores outcomes) q (v.outcome q) none);
        outcome = λ q. files.outcome q ∙ ap (λ x. outcome_after (reports_of cores outcomes) q x) (st.outcome q);
        bytes = λ q u good. files.bytes q (λ g. st.bytes q u (ap is_good (sym (st.outcome q)) ∙ g))
            (ap is_good (files.outcome q ∙ ap (λ x. outcome_after (reports_of cores outcomes) q x) (st.outcome q)) ∙ good);
        latest = st.latest;
        metrics = ap (λ m. with_cores cores (with_call (length cores) m)) st.metrics;
        ends = st.ends;
      }
    where
      after-some : (spans : List Span) (q : ℕ) (o : SpanOutcome) → outcome_after spans q (Some o) ≡ Some o
      after-some [] q o = refl
      after-some (s ∷ spans) q o = after-some spans q o

      before-fine : (spans : List Span) (q : ℕ) (x : Option SpanOutcome) → is_bad (outcome_after spans q x) ≡ false → is_bad x ≡ false
      before-fine spans q None e = refl
      before-fine spans q (Some o) e = sym (ap is_bad (after-some spans q o)) ∙ e

      before-none : (spans : List Span) (q : ℕ) (x : Option SpanOutcome) → outcome_after spans q x ≡ None → x ≡ None
      before-none spans q None e = refl
      before-none spans q (Some o) e = let clash : Some o ≡ None = sym (after-some spans q o) ∙ e in cc
