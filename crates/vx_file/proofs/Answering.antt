-- The replies to a script, step by step.
use Rattle.std.proofs.Common.{◌≡◌, ℕ, ◌+◌, ◌≤◌, List, [], ◌∷◌, ◌++◌, length, length-append, Option, Some, Result, Ok, Err, refl, sym, ap, subst, ◌∙◌, arith, append_assoc, inl}
use Rattle.std.proofs.lemmas.List.{append-nil}
use Rattle.std.specs.Prelude.{OnErr}
use Rattle.vx_base.specs.Asking.{Log}
use Rattle.vx_base.specs.Caches.{CacheState, SameCache}
use Rattle.vx_base.specs.Counts.{Rises}
use Rattle.vx_base.specs.Readers.{ReaderState}
use Rattle.vx_sched.specs.Scheduling.{MergesInTurn}
use Rattle.vx_source.specs.Asks.{Grew, asked_by, bad_spans}
use Rattle.vx_source.specs.Bytes.{HasBytes, TellsSlices, IsTrueReply}
use Rattle.vx_source.specs.Drives.{StopsDrive}
use Rattle.vx_source.specs.Fits.{World, IsRow}
use Rattle.vx_source.specs.History.{Got, neither, registers, polls, drops, drives, stops, Moment, moment, spans_in}
use Rattle.vx_source.specs.Kept.{Kept}
use Rattle.vx_source.specs.Puts.{PutsBy}
use Rattle.vx_source.specs.Stands.{Stands, IsNext, Registers}
use Rattle.vx_source.specs.declared.reply.Reply.{Reply}
use Rattle.vx_source.specs.declared.reply.Reply.TheVariants.{Registered, MissingSegment, Ready, Pending, Failed, Dropped, NotLive, Driven}
use Rattle.vx_source.specs.declared.span.Span.{Span}
use Rattle.vx_source.proofs.DriveLemmas.{grew-none, grew-then, rises-then}
use Rattle.vx_file.specs.declared.step.Step.{Step}
use Rattle.vx_file.specs.declared.step.Step.TheVariants.{Register, Poll, Drop, Drive}
use Rattle.vx_file.specs.Scripts.{deed_of, step_in, steps_of, replies_of, asked_for, bad_replies, IsTrue, Stops}
use Rattle.vx_file.specs.Steps.{Asks, IsAnswered, StaysTrue, StopsStep, Answering}

-- ---- what is asked

pub asks-none : (s : ReaderState) → Asks [] s s
asks-none s = record { log = grew-none s.log; rises = record { later = omega arith; risen = omega arith } }

-- a reply without spans asks nothing
asks-quiet : (reply : Reply) (s : ReaderState) → spans_in reply ≡ [] → Asks (reply ∷ []) s s
asks-quiet reply s e = record {
  log = subst (λ (spans : List Span). Grew (asked_by spans ++ []) s.log s.log) (sym e) (grew-none s.log);
  rises = subst (λ (spans : List Span). Rises (bad_spans spans + 0) s.faults s.faults) (sym e) (record { later = omega arith; risen = omega arith });
}

-- the spans of a drive
asks-driven : (spans : List Span) (before now : ReaderState) → Grew (asked_by spans) before.log now.log → Rises (bad_spans spans) before.faults now.faults → Asks (Driven spans ∷ []) before now
asks-driven spans before now grew rises = record {
  log = subst (λ l. Grew l before.log now.log) (sym (append-nil (asked_by spans))) grew;
  rises = subst (λ n. Rises n before.faults now.faults) (let same : bad_spans spans ≡ bad_spans spans + 0 = omega arith in same) rises;
}

asked-append : (replies more : List Reply) → asked_for (replies ++ more) ≡ asked_for replies ++ asked_for more
asked-append [] more = refl
asked-append (r ∷ replies) more = ap (λ l. asked_by (spans_in r) ++ l) (asked-append replies more) ∙ sym (append_assoc (asked_by (spans_in r)) (asked_for replies) (asked_for more))

bad-append : (replies more : List Reply) → bad_replies (replies ++ more) ≡ bad_replies replies + bad_replies more
bad-append [] more = omega arith
bad-append (r ∷ replies) more = let e = bad-append replies more in omega (arith, e)

asks-then : (a b : List Reply) (x y z : ReaderState) → Asks a x y → Asks b y z → Asks (a ++ b) x z
asks-then a b x y z h k = record {
  log = subst (λ l. Grew l x.log z.log) (sym (asked-append a b)) (grew-then (asked_for a) (asked_for b) x.log y.log z.log h.log k.log);
  rises = subst (λ n. Rises n x.faults z.faults) (sym (bad-append a b)) (rises-then (bad_replies a) (bad_replies b) x.faults y.faults z.faults h.rises k.rises);
}

-- ---- one step

pub register-quiet : (w : World) (past : List Moment) (s : ℕ) (got : Got) (reply : Reply) → IsRow w past (registers s got) reply → spans_in reply ≡ []
register-quiet w past s got (Registered number held) h = refl
register-quiet w past s got MissingSegment h = refl
register-quiet w past s got (Ready buffer) h = absurd h
register-quiet w past s got Pending h = absurd h
register-quiet w past s got (Failed cause) h = refl
register-quiet w past s got Dropped h = absurd h
register-quiet w past s got NotLive h = absurd h
register-quiet w past s got (Driven spans) h = absurd h

pub poll-quiet : (w : World) (past : List Moment) (n : ℕ) (reply : Reply) → IsRow w past (polls n) reply → spans_in reply ≡ []
poll-quiet w past n (Registered number held) h = absurd h
poll-quiet w past n MissingSegment h = absurd h
poll-quiet w past n (Ready buffer) h = refl
poll-quiet w past n Pending h = refl
poll-quiet w past n (Failed cause) h = refl
poll-quiet w past n Dropped h = absurd h
poll-quiet w past n NotLive h = refl
poll-quiet w past n (Driven spans) h = absurd h

pub drop-quiet : (w : World) (past : List Moment) (n : ℕ) (reply : Reply) → IsRow w past (drops n) reply → spans_in reply ≡ []
drop-quiet w past n (Registered number held) h = absurd h
drop-quiet w past n MissingSegment h = absurd h
drop-quiet w past n (Ready buffer) h = absurd h
drop-quiet w past n Pending h = absurd h
drop-quiet w past n (Failed cause) h = absurd h
drop-quiet w past n Dropped h = refl
drop-quiet w past n NotLive h = refl
drop-quiet w past n (Driven spans) h = absurd h

module _ (w : World) (past : List Moment) (step : Step) (reply : Reply) (k : Kept) where
  pub register-answered : (s : ℕ) (known : ReaderState) (cache cache_now : CacheState) → step ≡ Register s → Registers w past s cache cache_now reply k → IsAnswered w past step known known cache cache_now reply k
  register-answered s known cache cache_now e h = subst (λ p. IsAnswered w past p known known cache cache_now reply k) (sym e)
      (record { got = h.got; row = h.next.row; touches = h.cache; stands = h.next.stands; asks = asks-quiet reply known (register-quiet w past s h.got reply h.next.row) })

  pub poll-answered : (n : ℕ) (known : ReaderState) (cache : CacheState) → step ≡ Poll n → IsNext w past (polls n) reply k → IsAnswered w past step known known cache cache reply k
  poll-answered n known cache e h = subst (λ p. IsAnswered w past p known known cache cache reply k) (sym e)
      (record { got = neither; row = h.row; touches = refl; stands = h.stands; asks = asks-quiet reply known (poll-quiet w past n reply h.row) })

  pub drop-answered : (n : ℕ) (known : ReaderState) (cache : CacheState) → step ≡ Drop n → IsNext w past (drops n) reply k → IsAnswered w past step known known cache cache reply k
  drop-answered n known cache e h = subst (λ p. IsAnswered w past p known known cache cache reply k) (sym e)
      (record { got = neither; row = h.row; touches = refl; stands = h.stands; asks = asks-quiet reply known (drop-quiet w past n reply h.row) })

  pub quiet-stays : (file : List ℕ) (cache : CacheState) → ((got : Got) → IsTrue file w past (deed_of step got) reply) → HasBytes file k → TellsSlices file w.table cache → StaysTrue file w past step cache reply k
  quiet-stays file cache is bytes slices = record { reply_is = is; bytes = bytes; slices = slices }

pub drive-answered : (w : World) (past : List Moment) (step : Step) (spans : List Span) (k : Kept) (before now : ReaderState) (cache cache_now : CacheState) → step ≡ Drive → IsNext w past drives (Driven spans) k
    → PutsBy past spans cache cache_now → Grew (asked_by spans) before.log now.log → Rises (bad_spans spans) before.faults now.faults → IsAnswered w past step before now cache cache_now (Driven spans) k
drive-answered w past step spans k before now cache cache_now e h puts grew rises = subst (λ p. IsAnswered w past p before now cache cache_now (Driven spans) k) (sym e)
    (record { got = neither; row = h.row; touches = puts; stands = h.stands; asks = asks-driven spans before now grew rises })

pub register-true : (file : List ℕ) (w : World) (past : List Moment) (step : Step) (s : ℕ) (reply : Reply) → step ≡ Register s → (got : Got) → IsTrue file w past (deed_of step got) reply
register-true file w past step s reply e got = subst (λ p. IsTrue file w past (deed_of p got) reply) (sym e) tt

pub poll-true : (file : List ℕ) (w : World) (past : List Moment) (step : Step) (n : ℕ) (reply : Reply) → step ≡ Poll n → IsTrueReply file w past n reply → (got : Got) → IsTrue file w past (deed_of step got) reply
poll-true file w past step n reply e h got = subst (λ p. IsTrue file w past (deed_of p got) reply) (sym e) h

pub drop-true : (file : List ℕ) (w : World) (past : List Moment) (step : Step) (n : ℕ) (reply : Reply) → step ≡ Drop n → (got : Got) → IsTrue file w past (deed_of step got) reply
drop-true file w past step n reply e got = subst (λ p. IsTrue file w past (deed_of p got) reply) (sym e) tt

pub drive-true : (file : List ℕ) (w : World) (past : List Moment) (step : Step) (reply : Reply) → step ≡ Drive → (got : Got) → IsTrue file w past (deed_of step got) reply
drive-true file w past step reply e got = subst (λ p. IsTrue file w past (deed_of p got) reply) (sym e) tt

-- ---- what stands after want of memory

pub on-err : {X E : Type 0} (r : Result X E) (P : Type 0) → P → OnErr r P
on-err (Ok x) P h = tt
on-err (Err e) P h = h

-- a step that asked nothing
pub nothing-stops : (w : World) (past : List Moment) (log : Option Log) → StopsStep w past log log
nothing-stops w past log = record {
  stopped = past;
  adds = refl;
  fits = λ h. h;
  spans = [];
  replies = sym (append-nil (asked_for (replies_of past)));
  block = [];
  merge = tt;
  few = omega arith;
  further = [];
  asked = inl refl;
  log = grew-none log;
}

pub drive-stops : (w : World) (past : List Moment) (before now : Option Log) (cache cache_now : CacheState) (k : Kept) → StopsDrive w past before now cache cache_now k → StopsStep w past before now
drive-stops w past before now cache cache_now k h = record {
  stopped = moment stops (Driven h.spans) ∷ past;
  adds = append-nil (steps_of past);
  fits = λ f. (h.next.row, f);
  spans = h.spans;
  replies = asked-append (replies_of past) (Driven h.spans ∷ []) ∙ ap (λ l. asked_for (replies_of past) ++ l) (append-nil (asked_by h.spans));
  block = h.cores;
  merge = subst (λ s. MergesInTurn s h.cores) h.next.stands.core h.merge;
  few = h.few;
  further = h.further;
  asked = h.asked;
  log = h.log;
}

-- ---- the steps of a script

step-deed : (step : Step) (got : Got) → step_in (deed_of step got) ≡ step ∷ []
step-deed (Register segment) got = refl
step-deed (Poll number) got = refl
step-deed (Drop number) got = refl
step-deed Drive got = refl

module _ (w : World) (script : List Step) (first : Kept) where
  pub answering-starts : (s : ReaderState) (cache : CacheState) → Stands w [] first → Answering w script script s s first cache cache [] first
  answering-starts s cache st = record {
    history = [];
    split = refl;
    replies_are = refl;
    one_each = omega arith;
    fits = tt;
    leads = refl;
    stands = st;
    asks = asks-none s;
    true_of = λ file told h t. (tt, h, t);
  }

  module _ (rest : List Step) (before now next : ReaderState) (cache cache_now cache_next : CacheState) (replies : List Reply) (k k' : Kept) where
    pub answering-goes_on : (step : Step) (reply : Reply) (h : Answering w script (step ∷ rest) before now first cache cache_now replies k) → SameCache cache_now cache_next → IsAnswered w h.history step now next cache_now cache_next reply k'
        → ((file : List ℕ) → before.bytes ≡ Some file → HasBytes file k → TellsSlices file w.table cache_now → StaysTrue file w h.history step cache_next reply k')
        → Answering w script rest before next first cache cache_next (replies ++ reply ∷ []) k'
    answering-goes_on step reply h same a stays = record {
      history = moment (deed_of step a.got) reply ∷ h.history;
      split = append_assoc (steps_of h.history) (step_in (deed_of step a.got)) rest ∙ ap (λ l. steps_of h.history ++ (l ++ rest)) (step-deed step a.got) ∙ h.split;
      replies_are = ap (λ l. l ++ reply ∷ []) h.replies_are;
      one_each = let before = h.one_each in let long = length-append replies (reply ∷ []) in omega (arith, before, long);
      fits = (a.row, h.fits);
      leads = (cache_now, h.leads, a.touches, same);
      stands = a.stands;
      asks = asks-then replies (reply ∷ []) before now next h.asks a.asks;
      true_of = λ file told b t.
          let all = h.true_of file told b t in
          let s = stays file told all.1 all.2 in
          ((s.reply_is a.got, all.0), s.bytes, s.slices);
    }

  -- the first of the steps that are left was answered
  module _ (left rest : List Step) (step : Step) (before now next : ReaderState) (cache cache_now cache_next : CacheState) (replies : List Reply) (k k' : Kept) (reply : Reply) where
    pub answering-turn : left ≡ step ∷ rest → (h : Answering w script left before now first cache cache_now replies k) → SameCache cache_now cache_next
        → ((past : List Moment) → Stands w past k → IsAnswered w past step now next cache_now cache_next reply k')
        → ((past : List Moment) (file : List ℕ) → before.bytes ≡ Some file → Stands w past k → HasBytes file k → TellsSlices file w.table cache_now → StaysTrue file w past step cache_next reply k')
        → Answering w script rest before next first cache cache_next (replies ++ reply ∷ []) k'
    answering-turn is h same answered stays =
        let there = subst (λ l. Answering w script l before now first cache cache_now replies k) is h in
        answering-goes_on rest before now next cache cache_now cache_next replies k k' step reply there same (answered there.history there.stands)
        (λ file told b t. stays there.history file told there.stands b t)

  -- the next step found no memory
  pub answering-stops : (rest : List Step) (before now next : ReaderState) (cache cache_now : CacheState) (replies : List Reply) (k : Kept) (h : Answering w script rest before now first cache cache_now replies k)
      → StopsStep w h.history now.log next.log → Stops w script before.log next.log
  answering-stops rest before now next cache cache_now replies k h s = record {
    history = s.stopped;
    rest = rest;
    split = ap (λ l. l ++ rest) s.adds ∙ h.split;
    fits = s.fits h.fits;
    block = s.block;
    merge = s.merge;
    few = s.few;
    further = s.further;
    asked = s.asked;
    log = subst (λ l. Grew l before.log next.log)
        (sym (append_assoc (asked_for replies) (asked_by s.spans) s.further) ∙ ap (λ rs. (asked_for rs ++ asked_by s.spans) ++ s.further) (sym h.replies_are) ∙ ap (λ l. l ++ s.further) (sym s.replies))
        (grew-then (asked_for replies) (asked_by s.spans ++ s.further) before.log now.log next.log h.asks.log s.log);
  }
