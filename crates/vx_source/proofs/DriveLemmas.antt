-- From a history to the next: drives.
use Rattle.std.proofs.Common.{◌≡◌, ℕ, suc, ◌+◌, ◌*◌, ◌<◌, ◌≤◌, ◌⊎◌, inl, inr, false, List, [], ◌∷◌, ◌++◌, length, map, Option, Some, None, Result, Ok, Err, refl, sym, ap, ◌∙◌, subst, arith, append_assoc, length-append, ◌==◌}
use Rattle.std.specs.Prelude.{OnErr, option_and_then, slice_get}
use Rattle.std.specs.List.{flat_map}
use Rattle.std.specs.Option.{option_map}
use Rattle.std.proofs.lemmas.Bool.{cases_lt, eqb-true, eqb-false}
use Rattle.std.proofs.lemmas.List.{append-nil}
use Rattle.vx_base.specs.Asking.{Log, ranges_of}
use Rattle.vx_base.specs.Caches.{CacheState}
use Rattle.vx_base.specs.Counts.{Rises}
use Rattle.vx_base.specs.Readers.{ReaderState}
use Rattle.vx_sched.specs.Io.{request_of as range_of}
use Rattle.vx_sched.specs.Metrics.{with_call, with_span}
use Rattle.vx_sched.specs.Outcomes.{AreOutcomesOf}
use Rattle.vx_sched.specs.Reads.{polled_at}
use Rattle.vx_sched.specs.Scheduling.{Scheduler, MergesFrom, MergesInTurn, MayTake, NonePolled, span_at, taken, all_taken, settled}
use Rattle.vx_sched.specs.Span as sched
use Rattle.vx_sched.specs.declared.event.Event.{Event}
use Rattle.vx_sched.specs.declared.fault.Outcome.{Outcome}
use Rattle.vx_sched.specs.declared.metrics.RequestMetrics.{RequestMetrics}
use Rattle.vx_sched.specs.declared.request.ReadRequest.{ReadRequest}
use Rattle.vx_source.specs.Asks.{Grew, span_asked, asked_by, bad_spans}
use Rattle.vx_source.specs.Blocks.{number_of, reported, span_outcome, reports_of, filed_of, file_reads, with_cores, after_block, AskedBlock}
use Rattle.vx_source.specs.Drives.{IsTurned, IsIdle, TakesBlock, IsLost, StopsDrive}
use Rattle.vx_source.specs.Events.{blocks, told_block, told_spans, with_spans, with_blocks, events, metrics}
use Rattle.vx_source.specs.Fits.{World, IsTurn, Turns, NoneDue, IsWhole, driven, waiting, core_span, requests_of, request_at, read_request, with_request}
use Rattle.vx_source.specs.History.{Moment, drives, is_due, first_of, outcome_by, outcome_after, outcome_of}
use Rattle.vx_source.specs.Kept.{Kept}
use Rattle.vx_source.specs.Stands.{Words, HasWords, Stands, IsNext, words}
use Rattle.vx_source.specs.declared.reply.Reply.TheVariants.{Driven}
use Rattle.vx_source.specs.declared.span.Span.{Span}
use Rattle.vx_source.specs.declared.span.SpanOutcome.{SpanOutcome}
use Rattle.vx_source.proofs.BlockLemmas.{IsTurnBy, TurnsBy, turns-all, follows, block-stands}
use Rattle.vx_source.specs.Bytes.{HasBytes, TellsSlices}
use Rattle.vx_source.proofs.BytesLemmas.{block-bytes, block-slices}
use Rattle.vx_source.specs.Puts.{Gains, PutsBy, puts_of}
use Rattle.vx_source.proofs.PutLemmas.{puts-then, put-block}
use Rattle.vx_source.proofs.CutLemmas.{IsCut, cut-block, cut-last, flat-append, blocks-append}
use Rattle.vx_source.proofs.SpanLemmas.{Follows, follows-taken, asked_of, core-is}
use Rattle.vx_source.proofs.StepLemmas.{quiet}
use Rattle.vx_source.proofs.FilingLemmas.{log-reports, ranges-log}
use Rattle.vx_source.specs.declared.filing.Block.{Block}

fun_ext : {A B : Type 0} (f g : A → B) → ((x : A) → f x ≡ g x) → f ≡ g
fun_ext f g h = λ i x. h x i

outcome-append : (a b : List Span) (r : ℕ) (x : Option SpanOutcome) → outcome_after (a ++ b) r x ≡ outcome_after b r (outcome_after a r x)
outcome-append [] b r x = refl
outcome-append (s ∷ a) b r x = outcome-append a b r (first_of x (outcome_by s r))

pub reports-length : (cores : List sched.Span) (outcomes : List Outcome) → AreOutcomesOf (map range_of cores) outcomes → length (reports_of cores outcomes) ≡ length cores
reports-length [] outcomes h = refl
reports-length (core ∷ rest) [] h = absurd h
reports-length (core ∷ rest) (o ∷ more) h = ap (λ n. suc n) (reports-length rest more h.1)

-- ---- turns

module _ (w : World) (past : List Moment) where
  requests-same : (done : List Span) (v : Words) → ((r : ℕ) → v.segment r ≡ (words w past).segment r) → (ns : List ℕ) → asked_of w v ns ≡ requests_of w (driven done past) ns
  requests-same done v same [] = refl
  requests-same done v same (r ∷ ns) =
      ap (λ s. with_request (option_map (read_request r) (option_and_then (slice_get w.table) s)) (asked_of w v ns)) (same r)
      ∙ ap (with_request (request_at w (driven done past) r)) (requests-same done v same ns)

  turn-of : (d0 done : List Span) (span : Span) → IsTurnBy w (record (words w (driven d0 past)) { outcome = λ r. outcome_after done r (outcome_of past r) }) span → IsTurn w (driven done past) span
  turn-of d0 done span t =
      let is : core_span w (driven done past) span ≡ t.core =
      ap (span_at w.idle) (sym (requests-same done (record (words w (driven d0 past)) { outcome = λ r. outcome_after done r (outcome_of past r) }) (λ r. refl) span.reads)) ∙ t.is in
      record {
        merges = subst (MergesFrom w.idle (waiting w (driven done past)) (is_due (driven done past))) (sym is) t.merges;
        start = t.start ∙ ap (λ (c : sched.Span). c.start) (sym is);
        end = t.end ∙ ap (λ (c : sched.Span). c.end) (sym is);
        alignment = t.alignment ∙ ap (λ (c : sched.Span). c.alignment) (sym is);
        place = t.place;
      }

  turns-of : (d0 : List Span) (spans done : List Span) (g : ℕ → Option SpanOutcome) → g ≡ (λ r. outcome_after done r (outcome_of past r))
      → TurnsBy w (record (words w (driven d0 past)) { outcome = g }) spans → Turns w past done spans
  turns-of d0 [] done g e t = tt
  turns-of d0 (span ∷ rest) done g e t = (
    turn-of d0 done span (subst (λ (h : ℕ → Option SpanOutcome). IsTurnBy w (record (words w (driven d0 past)) { outcome = h }) span) e t.0),
    turns-of d0 rest (done ++ span ∷ []) (λ r. first_of (g r) (outcome_by span r))
        (fun_ext (λ r. first_of (g r) (outcome_by span r)) (λ r. outcome_after (done ++ span ∷ []) r (outcome_of past r))
        (λ r. ap (λ (h : ℕ → Option SpanOutcome). first_of (h r) (outcome_by span r)) e ∙ sym (outcome-append done (span ∷ []) r (outcome_of past r))))
        t.1,
  )

  turns-append : (a b done : List Span) → Turns w past done a → Turns w past (done ++ a) b → Turns w past done (a ++ b)
  turns-append [] b done s t = subst (λ d. Turns w past d b) (append-nil done) t
  turns-append (span ∷ a) b done s t = (s.0, turns-append a b (done ++ span ∷ []) s.1 (subst (λ d. Turns w past d b) (sym (append_assoc done (span ∷ []) a)) t))

  -- the spans of a block by their numbers
  cores-all : (d0 : List Span) (cores : List sched.Span) (outcomes : List Outcome) (g : ℕ → Option SpanOutcome) (s : Scheduler)
      → Follows w (record (words w (driven d0 past)) { outcome = g }) s → MergesInTurn s cores → AreOutcomesOf (map range_of cores) outcomes
      → map (core_span w past) (reports_of cores outcomes) ≡ cores
  cores-all d0 [] outcomes g s f m h = refl
  cores-all d0 (core ∷ rest) [] g s f m h = absurd h
  cores-all d0 (core ∷ rest) (o ∷ more) g s f m h =
      let v : Words = record (words w (driven d0 past)) { outcome = g } in
      let one : core_span w past (reported (span_outcome o) core) ≡ core =
      ap (span_at w.idle) (sym (requests-same [] v (λ r. refl) (map number_of core.reads))) ∙ core-is w v s core (span_outcome o) f m.0 in
      let others = cores-all d0 rest more (λ r. first_of (g r) (outcome_by (reported (span_outcome o) core) r)) (taken s core) (follows-taken w v s core (span_outcome o) f m.0) m.1 h.1 in
      ap (λ c. c ∷ map (core_span w past) (reports_of rest more)) one ∙ ap (λ cs. core ∷ cs) others

numbers-length : (rs : List ReadRequest) → length (map number_of rs) ≡ length rs
numbers-length [] = refl
numbers-length (r ∷ rs) = ap (λ n. suc n) (numbers-length rs)

spans-cores : (cores : List sched.Span) (outcomes : List Outcome) (m : RequestMetrics) → AreOutcomesOf (map range_of cores) outcomes → with_spans (reports_of cores outcomes) m ≡ with_cores cores m
spans-cores [] outcomes m h = refl
spans-cores (core ∷ rest) [] m h = absurd h
spans-cores (core ∷ rest) (o ∷ more) m h =
    ap (λ n. with_spans (reports_of rest more) (with_span n m)) (numbers-length core.reads) ∙ spans-cores rest more (with_span (length core.reads) m) h.1

-- the spans of a drive so far, in whole blocks
pub record Driving (w : World) (past : List Moment) (done : List Span) (k : Kept) : Type 0 where
  pub turns : Turns w past [] done
  pub stands : Stands w (driven done past) k
  pub whole : IsWhole w.idle.concurrency done
  pub cuts : IsCut w.idle.concurrency done

-- the spans of a drive
pub record Driven_ (w : World) (past : List Moment) (done : List Span) (k : Kept) : Type 0 where
  pub turns : Turns w past [] done
  pub stands : Stands w (driven done past) k

module _ (w : World) (past : List Moment) where
  pub driving-start : (k : Kept) → Stands w past k → Driving w past [] k
  driving-start k st = record {
    turns = tt;
    stands = quiet w (words w past) k st;
    whole = record { count = 0; whole = omega arith };
    cuts = λ rest. refl;
  }

  module _ (k : Kept) (done : List Span) (cores : List sched.Span) (outcomes : List Outcome) (d : Driving w past done k)
      (may : MayTake k.core cores) (few : length cores ≤ w.idle.concurrency) (places : AreOutcomesOf (map range_of cores) outcomes) where
    block-events : events w (driven done past) ++ told_block cores ≡ events w (driven (done ++ reports_of cores outcomes) past)
    block-events =
        let size = reports-length cores outcomes places in
        let some = may.some in
        let cut = cut-last w.idle.concurrency done (reports_of cores outcomes) d.cuts (omega (arith, size, some)) (omega (arith, size, few)) in
        let are = cores-all w past done cores outcomes (words w (driven done past)).outcome k.core (follows w (words w (driven done past)) k cores outcomes d.stands may places) may.merge places in
        append_assoc (events w past) (told_spans w past done) (told_block cores)
        ∙ ap (λ es. events w past ++ es) (
        ap (λ cs. told_spans w past done ++ told_block cs) (sym are)
        ∙ sym (flat-append (λ block. told_block (map (core_span w past) block)) (blocks w.idle.concurrency done) (reports_of cores outcomes))
        ∙ ap (flat_map (λ block. told_block (map (core_span w past) block))) (sym cut))

    block-metrics : with_cores cores (with_call (length cores) (metrics w (driven done past))) ≡ metrics w (driven (done ++ reports_of cores outcomes) past)
    block-metrics =
        let size = reports-length cores outcomes places in
        let some = may.some in
        let cut = cut-last w.idle.concurrency done (reports_of cores outcomes) d.cuts (omega (arith, size, some)) (omega (arith, size, few)) in
        sym (spans-cores cores outcomes (with_call (length cores) (metrics w (driven done past))) places)
        ∙ ap (λ n. with_spans (reports_of cores outcomes) (with_call n (metrics w (driven done past)))) (sym size)
        ∙ sym (blocks-append (blocks w.idle.concurrency done) (reports_of cores outcomes) (metrics w past))
        ∙ ap (λ bs. with_blocks bs (metrics w past)) (sym cut)

    block-outcome : ◌≡◌ {A = ℕ → Option SpanOutcome} (λ r. outcome_after (reports_of cores outcomes) r (outcome_after done r (outcome_of past r))) (λ r. outcome_after (done ++ reports_of cores outcomes) r (outcome_of past r))
    block-outcome = fun_ext (λ r. outcome_after (reports_of cores outcomes) r (outcome_after done r (outcome_of past r))) (λ r. outcome_after (done ++ reports_of cores outcomes) r (outcome_of past r))
        (λ r. sym (outcome-append done (reports_of cores outcomes) r (outcome_of past r)))

    pub block-driven : Driven_ w past (done ++ reports_of cores outcomes) (after_block k cores outcomes)
    block-driven = record {
      turns = turns-append w past done (reports_of cores outcomes) [] d.turns
          (turns-of w past done (reports_of cores outcomes) done (words w (driven done past)).outcome refl
          (turns-all w cores outcomes (words w (driven done past)) k.core (follows w (words w (driven done past)) k cores outcomes d.stands may places) may.merge places));
      stands =
          subst (λ (o : ℕ → Option SpanOutcome). HasWords w (record (words w past) { outcome = o; events = events w (driven (done ++ reports_of cores outcomes) past); metrics = metrics w (driven (done ++ reports_of cores outcomes) past) }) (after_block k cores outcomes)) block-outcome
          (subst (λ (es : List Event). HasWords w (record (words w past) { outcome = λ r. outcome_after (reports_of cores outcomes) r (outcome_after done r (outcome_of past r)); events = es; metrics = metrics w (driven (done ++ reports_of cores outcomes) past) }) (after_block k cores outcomes)) block-events
          (subst (λ (m : RequestMetrics). HasWords w (record (words w past) { outcome = λ r. outcome_after (reports_of cores outcomes) r (outcome_after done r (outcome_of past r)); events = events w (driven done past) ++ told_block cores; metrics = m }) (after_block k cores outcomes)) block-metrics
          (block-stands w (words w (driven done past)) k cores outcomes d.stands may places)));
    }

    pub block-driving : length cores ≡ w.idle.concurrency → Driving w past (done ++ reports_of cores outcomes) (after_block k cores outcomes)
    block-driving full =
        let size = reports-length cores outcomes places in
        let some = may.some in
        let whole = d.whole in
        record {
          turns = block-driven.turns;
          stands = block-driven.stands;
          whole = record {
            count = whole.count + 1;
            whole = let l = length-append done (reports_of cores outcomes) in let c = whole.whole in let n = whole.count in
                let e : (n + 1) * w.idle.concurrency ≡ n * w.idle.concurrency + w.idle.concurrency = omega arith in
                omega (arith, l, c, size, full, e);
          };
          cuts = cut-block w.idle.concurrency done (reports_of cores outcomes) d.cuts (omega (arith, some, full)) (size ∙ full);
        }

  -- no polled read waits where the scheduler has none
  pub none-due : (done : List Span) (k : Kept) → Stands w (driven done past) k → NonePolled k.core.reads → NoneDue (driven done past)
  none-due done k st none r = sym (st.ties.due r) ∙ none r

-- ---- turns of a drive

pub on-err : {A E : Type 0} (r : Result A E) (P : Type 0) → P → OnErr r P
on-err (Ok x) P p = tt
on-err (Err e) P p = p

-- the ranges of reports are those of the spans
pub ranges-asked : (cores : List sched.Span) (outcomes : List Outcome) → AreOutcomesOf (map range_of cores) outcomes → ranges_of (asked_by (reports_of cores outcomes)) ≡ map range_of cores
ranges-asked cores outcomes h = ap ranges_of (sym (log-reports cores outcomes h)) ∙ ranges-log (map range_of cores) outcomes h

-- a block was asked, and then memory was wanting
pub lost-block : {E : Type 0} (k : Kept) (cores : List sched.Span) (b : Block) (before now : ReaderState) → MergesInTurn k.core cores → length cores ≤ k.core.concurrency
    → AskedBlock {E = E} cores before now (Ok b) → IsLost k before.log now.log
lost-block k cores b before now merge few h =
    let outcomes = h.outcomes.0 in
    let has = h.outcomes.1.0 in
    record {
      cores = cores;
      merge = merge;
      few = few;
      log = record {
        more = asked_by (reports_of cores outcomes);
        asked = inr (ranges-asked cores outcomes has.places);
        grew = h.log ∙ ap (λ rs. option_map (λ l. l ++ asked_by rs) before.log) has.reports;
      };
    }

-- a block was asked, taken and filed
pub turned-block : {E : Type 0} (k now : Kept) (done done_now : List Span) (before after : ReaderState) (ca cb : CacheState) (cores : List sched.Span) (most : ℕ) (b : Block)
    → most ≡ k.core.concurrency → MayTake k.core cores → length cores ≤ most → (length cores < most → NonePolled (all_taken k.core cores).reads)
    → AskedBlock {E = E} cores before after (Ok b) → done_now ≡ done ++ b.reports.items
    → now ≡ record k { core = settled k.core cores; reads = file_reads k.reads b.filed.items; metrics = with_cores cores (with_call (length cores) k.metrics) }
    → ((q : ℕ) → polled_at now.core.reads q ≡ polled_at (all_taken k.core cores).reads q) → Gains (puts_of k.requests b.filed.items) ca cb
    → IsTurned k now done done_now before after ca cb (length cores == most)
turned-block k now done done_now before after ca cb cores most b limit may few all h reports kept polled gains =
    let outcomes = h.outcomes.0 in
    let has = h.outcomes.1.0 in
    let takes : TakesBlock k now done done_now before after ca cb = record {
      gains = subst (λ fs. Gains (puts_of k.requests fs) ca cb) has.filed gains;
      cores = cores;
      outcomes = outcomes;
      may = may;
      few = omega (arith, few, limit);
      places = has.places;
      bytes = h.outcomes.1.1;
      reports = reports ∙ ap (λ rs. done ++ rs) has.reports;
      kept = kept ∙ ap (λ fs. record k { core = settled k.core cores; reads = file_reads k.reads fs; metrics = with_cores cores (with_call (length cores) k.metrics) }) has.filed;
      log = h.log ∙ ap (λ rs. option_map (λ l. l ++ asked_by rs) before.log) has.reports;
      rises = subst (λ rs. Rises (bad_spans rs) before.faults after.faults) has.reports h.rises;
    } in
    record {
      whole = λ e.
          let size = reports-length cores outcomes has.places in
          let is = eqb-true (length cores) most e in
          let l = ap length takes.reports ∙ length-append done (reports_of cores outcomes) in
          (takes, omega (arith, l, size, is, limit));
      last = λ e. (inr takes, λ q. polled q ∙ all (less few (eqb-false (length cores) most e)) q);
    }
  where
    less : length cores ≤ most → (length cores ≡ most → ⊥) → length cores < most
    less l ne = elim (cases_lt (length cores) most) [ inl h ↦ h | inr g ↦ absurd (ne (omega arith)) ]

pub turned-count : {E : Type 0} (k now : Kept) (done done_now : List Span) (before after : ReaderState) (ca cb : CacheState) (cores : List sched.Span) (most count : ℕ) (b : Block) (reports : List Span)
    → count ≡ length cores → most ≡ k.core.concurrency → MayTake k.core cores → length cores ≤ k.core.concurrency → (length cores < k.core.concurrency → NonePolled (all_taken k.core cores).reads)
    → AskedBlock {E = E} cores before after (Ok b) → reports ≡ b.reports.items → done_now ≡ done ++ reports
    → now ≡ record k { core = settled k.core cores; reads = file_reads k.reads b.filed.items; metrics = with_cores cores (with_call (length cores) k.metrics) }
    → ((q : ℕ) → polled_at now.core.reads q ≡ polled_at (all_taken k.core cores).reads q) → Gains (puts_of k.requests b.filed.items) ca cb
    → IsTurned k now done done_now before after ca cb (count == most)
turned-count {E = E} k now done done_now before after ca cb cores most count b reports same limit may few all h is grew kept polled gains =
    subst (λ n. IsTurned k now done done_now before after ca cb (n == most)) (sym same)
    (turned-block {E = E} k now done done_now before after ca cb cores most b limit may (omega (arith, few, limit)) (λ l. all (omega (arith, l, limit))) h (grew ∙ ap (λ rs. done ++ rs) is) kept polled gains)

-- nothing was left to ask
pub turned-idle : (k : Kept) (done : List Span) (before : ReaderState) (ca : CacheState) (most : ℕ) → 1 ≤ most → (0 < most → NonePolled k.core.reads) → IsTurned k k done done before before ca ca false
turned-idle k done before ca most some all = record {
  whole = λ e. cc;
  last = λ e. (inl (record { kept = refl; reports = refl; reader = refl; cache = refl }), all (omega (arith, some)));
}

-- ---- logs and counts

pub grew-none : (x : Option Log) → x ≡ option_map (λ l. l ++ []) x
grew-none None = refl
grew-none (Some l) = ap (λ m. Some m) (sym (append-nil l))

pub grew-then : (a b : Log) (x y z : Option Log) → Grew a x y → Grew b y z → Grew (a ++ b) x z
grew-then a b x y z h k = k ∙ ap (option_map (λ l. l ++ b)) h ∙ both x
  where
    both : (x : Option Log) → option_map (λ l. l ++ b) (option_map (λ l. l ++ a) x) ≡ option_map (λ l. l ++ (a ++ b)) x
    both None = refl
    both (Some l) = ap (λ m. Some m) (append_assoc l a b)

pub asked-append : (a b : List Span) → asked_by (a ++ b) ≡ asked_by a ++ asked_by b
asked-append [] b = refl
asked-append (s ∷ a) b = ap (λ l. span_asked s ∷ l) (asked-append a b)

pub bad-append : (a b : List Span) → bad_spans (a ++ b) ≡ bad_spans a + bad_spans b
bad-append [] b = omega arith
bad-append (s ∷ a) b = let e = bad-append a b in omega (arith, e)

pub rises-then : (a b x y z : ℕ) → Rises a x y → Rises b y z → Rises (a + b) x z
rises-then a b x y z h k =
    let l = h.later in
    let r = h.risen in
    let m = k.later in
    let s = k.risen in
    record { later = omega (arith, l, m); risen = omega (arith, r, s, l, m) }

-- what the turns of a drive asked so far
-- spans of which none failed
pub none-bad : (done reports all : List Span) → all ≡ done ++ reports → bad_spans reports ≡ 0 → bad_spans all ≡ bad_spans done
none-bad done reports all e none = let same = ap bad_spans e ∙ bad-append done reports in omega (arith, same, none)

pub record Asking (done : List Span) (before now : ReaderState) : Type 0 where
  pub log : Grew (asked_by done) before.log now.log
  pub rises : Rises (bad_spans done) before.faults now.faults

pub asking-start : (s : ReaderState) → Asking [] s s
asking-start s = record { log = grew-none s.log; rises = record { later = omega arith; risen = omega arith } }

pub asking-then : (k now : Kept) (done done_now : List Span) (first before after : ReaderState) (ca cb : CacheState) → Asking done first before → TakesBlock k now done done_now before after ca cb → Asking done_now first after
asking-then k now done done_now first before after ca cb a t = record {
  log = subst (λ l. Grew l first.log after.log) (sym (asked-append done (reports_of t.cores t.outcomes)) ∙ ap asked_by (sym t.reports)) (grew-then (asked_by done) (asked_by (reports_of t.cores t.outcomes)) first.log before.log after.log a.log t.log);
  rises = subst (λ n. Rises n first.faults after.faults) (sym (bad-append done (reports_of t.cores t.outcomes)) ∙ ap bad_spans (sym t.reports)) (rises-then (bad_spans done) (bad_spans (reports_of t.cores t.outcomes)) first.faults before.faults after.faults a.rises t.rises);
}

pub asking-last : (k now : Kept) (done done_now : List Span) (first before after : ReaderState) (ca cb : CacheState) → Asking done first before
    → IsIdle k now done done_now before after ca cb ⊎ TakesBlock k now done done_now before after ca cb → Asking done_now first after
asking-last k now done done_now first before after ca cb a (inl i) = subst (λ d. Asking d first after) (sym i.reports) (subst (λ r. Asking done first r) (sym i.reader) a)
asking-last k now done done_now first before after ca cb a (inr t) = asking-then k now done done_now first before after ca cb a t

module _ (w : World) (past : List Moment) (k now : Kept) (done done_now : List Span) (before after : ReaderState) (ca cb : CacheState) (d : Driving w past done k) where
  size-is : k.core.concurrency ≡ w.idle.concurrency
  size-is = d.stands.ties.settings.concurrency

  -- a whole block more
  pub drives-on : TakesBlock k now done done_now before after ca cb × (length done_now ≡ length done + k.core.concurrency) → Driving w past done_now now
  drives-on h =
      let t = h.0 in
      let few = t.few in
      let same = size-is in
      let size = reports-length t.cores t.outcomes t.places in
      let l = ap length t.reports ∙ length-append done (reports_of t.cores t.outcomes) in
      let whole = h.1 in
      subst (λ ds. Driving w past ds now) (sym t.reports) (subst (λ x. Driving w past (done ++ reports_of t.cores t.outcomes) x) (sym t.kept)
      (block-driving w past k done t.cores t.outcomes d t.may (omega (arith, few, same)) t.places (omega (arith, size, l, whole, same))))

  ends-with : IsIdle k now done done_now before after ca cb ⊎ TakesBlock k now done done_now before after ca cb → Driven_ w past done_now now
  ends-with (inl i) = subst (λ ds. Driven_ w past ds now) (sym i.reports) (subst (λ x. Driven_ w past done x) (sym i.kept) (record { turns = d.turns; stands = d.stands }))
  ends-with (inr t) =
      let few = t.few in
      let same = size-is in
      subst (λ ds. Driven_ w past ds now) (sym t.reports) (subst (λ x. Driven_ w past (done ++ reports_of t.cores t.outcomes) x) (sym t.kept)
      (block-driven w past k done t.cores t.outcomes d t.may (omega (arith, few, same)) t.places))

  -- the last turn
  pub drive-ends : (IsIdle k now done done_now before after ca cb ⊎ TakesBlock k now done done_now before after ca cb) × NonePolled now.core.reads → IsNext w past drives (Driven done_now) now
  drive-ends h =
      let e = ends-with h.0 in
      record { row = (e.turns, none-due w past done_now now e.stands h.1); stands = e.stands }

-- a drive that found no memory
pub drive-stops : (w : World) (past : List Moment) (k : Kept) (done : List Span) (first before after : ReaderState) (ca cb : CacheState) → Driving w past done k → Asking done first before
    → PutsBy past done ca cb → IsLost k before.log after.log → StopsDrive w past first.log after.log ca cb k
drive-stops w past k done first before after ca cb d a p l = record {
  puts = p;
  spans = done;
  next = record { row = (d.turns, d.whole); stands = d.stands };
  cores = l.cores;
  merge = l.merge;
  few = let few = l.few in let same = d.stands.ties.settings.concurrency in omega (arith, few, same);
  further = l.log.more;
  asked = l.log.asked;
  log = grew-then (asked_by done) l.log.more first.log before.log after.log a.log l.log.grew;
}

-- what a turn keeps has the bytes of the file
pub turns-bytes : (w : World) (past : List Moment) (file : List ℕ) (k now : Kept) (done done_now : List Span) (before after : ReaderState) (ca cb : CacheState) → Driving w past done k → before.bytes ≡ Some file
    → IsIdle k now done done_now before after ca cb ⊎ TakesBlock k now done done_now before after ca cb → HasBytes file k → HasBytes file now
turns-bytes w past file k now done done_now before after ca cb d told (inl i) h = subst (HasBytes file) (sym i.kept) h
turns-bytes w past file k now done done_now before after ca cb d told (inr t) h =
    subst (HasBytes file) (sym t.kept) (block-bytes file w (words w (driven done past)) k t.cores t.outcomes d.stands t.may t.places (t.bytes file told) h)

-- the puts of one turn more
pub turns-put : (w : World) (past : List Moment) (k now : Kept) (done done_now : List Span) (before after : ReaderState) (first ca cb : CacheState) → Driving w past done k → PutsBy past done first ca
    → IsIdle k now done done_now before after ca cb ⊎ TakesBlock k now done done_now before after ca cb → PutsBy past done_now first cb
turns-put w past k now done done_now before after first ca cb d p (inl i) = subst (λ ds. PutsBy past ds first cb) (sym i.reports) (subst (λ c. PutsBy past done first c) (sym i.cache) p)
turns-put w past k now done done_now before after first ca cb d p (inr t) =
    subst (λ ds. PutsBy past ds first cb) (sym t.reports)
    (puts-then past done (reports_of t.cores t.outcomes) (puts_of k.requests (filed_of t.cores t.outcomes)) first ca cb p
    (put-block k.requests past (λ n. d.stands.segment n) t.cores t.outcomes t.places) t.gains)

-- a cache still tells slices after a turn
pub turns-slices : (w : World) (past : List Moment) (file : List ℕ) (k now : Kept) (done done_now : List Span) (before after : ReaderState) (ca cb : CacheState) → Driving w past done k → before.bytes ≡ Some file
    → IsIdle k now done done_now before after ca cb ⊎ TakesBlock k now done done_now before after ca cb → TellsSlices file w.table ca → TellsSlices file w.table cb
turns-slices w past file k now done done_now before after ca cb d told (inl i) t = subst (TellsSlices file w.table) (sym i.cache) t
turns-slices w past file k now done done_now before after ca cb d told (inr b) t =
    block-slices file w (words w (driven done past)) k b.cores b.outcomes ca cb d.stands b.may b.places (b.bytes file told) b.gains t
