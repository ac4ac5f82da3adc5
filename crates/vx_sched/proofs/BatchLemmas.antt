-- The spans of a batch.
use Rattle.std.proofs.Common.{◌≡◌, ℕ, ◌+◌, ◌<◌, ◌≤◌, ◌||◌, max, Bool, true, false, cond, List, [], ◌∷◌, ◌++◌, Option, Some, None, refl, ap, sym, ◌∙◌, subst, arith, append_assoc}
use Rattle.std.proofs.lemmas.Bool.{cases_lt}
use Rattle.std.proofs.lemmas.List.{append-nil}
use Rattle.std.proofs.Math.Logic.{⊎_elim}
use Rattle.std.specs.List.{AllByRecursion}
use Rattle.vx_sched.specs.Span.{Span, end_of, AllWithin}
use Rattle.vx_sched.specs.Reads.{Known, read_at, waiting_at, polled_at, if_waiting, if_polled, is_waiting, is_polled}
use Rattle.vx_sched.specs.Merging.{Merges, GathersIn, is_listed, is_in_order, is_in_order_after, is_before, first_offset, greatest_end}
use Rattle.vx_sched.specs.Picks.{free_at, is_among}
use Rattle.vx_sched.specs.Law.{IsSound}
use Rattle.vx_sched.specs.Scheduling.{Scheduler, NonePolled, taken, all_taken, MergesNow, MergesInTurn}
use Rattle.vx_sched.specs.declared.request.ReadRequest.{ReadRequest}
use Rattle.vx_sched.specs.declared.read.ReadState.{ReadState}
use Rattle.vx_sched.specs.declared.read.ReadState.TheVariants.{Registered, Polled, InFlight, Resolved}
use Rattle.vx_sched.proofs.InsertLemmas.{before-offset, and-true, or-false}
use Rattle.vx_sched.proofs.PickLemmas.{or-true}
use Rattle.vx_sched.proofs.SoundLemmas.{sound-taken, read-taken}
use Rattle.vx_sched.proofs.LawRuns.{listed-gone}

-- reads within a range lie within a greater one
within-more : (low m n : ℕ) (reads : List ReadRequest) → m ≤ n → AllWithin low m reads → AllWithin low n reads
within-more low m n [] h w = tt
within-more low m n (r ∷ rest) h w =
    let f = w.0.from in
    let u = w.0.upto in
    (record { from = f; upto = omega arith }, within-more low m n rest h w.1)

-- reads in order begin at or after the first
within-after : (low : ℕ) (r : ReadRequest) (rest : List ReadRequest) → low ≤ r.offset → is_in_order_after r rest ≡ true → AllWithin low (greatest_end rest) rest
within-after low r [] l o = tt
within-after low r (s ∷ rest) l o =
    let parts = and-true (is_before r s) (is_in_order_after s rest) o in
    let past = before-offset r s parts.0 in
    let from : low ≤ s.offset = omega arith in
    (record { from = from; upto = omega arith }, within-more low (greatest_end rest) (max (end_of s) (greatest_end rest)) rest (omega arith) (within-after low s rest from parts.1))

-- reads in order lie in their range
pub within-range : (low : ℕ) (reads : List ReadRequest) → is_in_order reads ≡ true → low ≤ first_offset reads → AllWithin low (greatest_end reads) reads
within-range low [] o l = tt
within-range low (r ∷ rest) o l =
    (record { from = l; upto = omega arith }, within-more low (greatest_end rest) (max (end_of r) (greatest_end rest)) rest (omega arith) (within-after low r rest l o))

-- a waiting test over two look-ups that agree
pub merges-along : (distance limit : Option ℕ) (alignment : ℕ) (f g : ℕ → Option ReadRequest) (next : ℕ) (span : Span)
    → ((q : ℕ) → f q ≡ g q) → Merges distance limit alignment f next span → Merges distance limit alignment g next span
merges-along distance limit alignment f g next span same m = record {
  waits = all span.reads m.waits;
  order = m.order;
  serves = m.serves;
  gathers = gathers distance m.gathers;
  range = m.range;
}
  where
    all : (reads : List ReadRequest) → AllByRecursion (λ r. f r.id ≡ Some r) reads → AllByRecursion (λ r. g r.id ≡ Some r) reads
    all [] h = tt
    all (r ∷ rest) h = (sym (same r.id) ∙ h.0, all rest h.1)

    gathers : (w : Option ℕ) → GathersIn w limit alignment f span.reads → GathersIn w limit alignment g span.reads
    gathers None h = h
    gathers (Some c) h = record { gaps = h.gaps; size = h.size; closure = λ r w u n. h.closure r (same r.id ∙ w) u n }

-- a read that does not wait was not polled
polled-none : (x : Option Known) → if_waiting x ≡ None → if_polled x ≡ false
polled-none None h = refl
polled-none (Some x) h = at x.request x.state h
  where
    at : (r : ReadRequest) (s : ReadState) → cond (is_waiting s) (Some r) None ≡ None → is_polled s ≡ false
    at r Registered h = refl
    at r Polled h = cc
    at r InFlight h = refl
    at r Resolved h = refl

-- one more span that is taken
all_taken-push : (s : Scheduler) (spans : List Span) (span : Span) → all_taken s (spans ++ span ∷ []) ≡ taken (all_taken s spans) span
all_taken-push s [] span = refl
all_taken-push s (t ∷ rest) span = all_taken-push (taken s t) rest span

-- the spans of a batch so far, and the numbers of their reads
pub record SoFar (s : Scheduler) (spans : List Span) (before : List ℕ) (from : ℕ) : Type 0 where
  pub sound : IsSound s
  pub sound_now : IsSound (all_taken s spans)
  pub turn : (rest : List Span) → MergesInTurn (all_taken s spans) rest → MergesInTurn s (spans ++ rest)
  pub others : (q : ℕ) → is_among before q ≡ false → read_at (all_taken s spans).reads q ≡ read_at s.reads q
  pub gone : (q : ℕ) → is_among before q ≡ true → waiting_at (all_taken s spans).reads q ≡ None
  pub past : (q : ℕ) → q < from → polled_at s.reads q ≡ true → is_among before q ≡ true
  pub distance : (all_taken s spans).distance ≡ s.distance
  pub limit : (all_taken s spans).limit ≡ s.limit
  pub alignment : (all_taken s spans).alignment ≡ s.alignment

-- at first
pub so_far-start : (s : Scheduler) (before : List ℕ) → IsSound s → before ≡ [] → SoFar s [] before 0
so_far-start s before sound e = record {
  sound = sound;
  sound_now = sound;
  turn = λ rest h. h;
  others = λ q h. refl;
  gone = λ q h. cc (sym h ∙ ap (λ (ns : List ℕ). is_among ns q) e);
  past = λ q h p. absurd (omega arith);
  distance = refl;
  limit = refl;
  alignment = refl;
}

module _ (s : Scheduler) (spans : List Span) (before : List ℕ) (from : ℕ) (f : SoFar s spans before from) where
  -- no polled read is left
  pub so_far-none : ((q : ℕ) → from ≤ q → polled_at s.reads q ≡ true → is_among before q ≡ true) → NonePolled (all_taken s spans).reads
  so_far-none none q = at (is_among before q) refl (polled_at s.reads q) refl
    where
      at : (b : Bool) → is_among before q ≡ b → (p : Bool) → polled_at s.reads q ≡ p → polled_at (all_taken s spans).reads q ≡ false
      at true h p e = polled-none (read_at (all_taken s spans).reads q) (f.gone q h)
      at false h false e = ap if_polled (f.others q h) ∙ e
      at false h true e = absurd (⊎_elim (λ (l : q < from). cc (sym h ∙ f.past q l e)) (λ (g : from ≤ q). cc (sym h ∙ none q g e)) (cases_lt q from))

  -- what is free is what waits
  free-waits : (q : ℕ) → free_at s.reads before q ≡ waiting_at (all_taken s spans).reads q
  free-waits q = at (is_among before q) refl
    where
      at : (b : Bool) → is_among before q ≡ b → cond (is_among before q) None (waiting_at s.reads q) ≡ waiting_at (all_taken s spans).reads q
      at true h = ap (λ b. cond b None (waiting_at s.reads q)) h ∙ sym (f.gone q h)
      at false h = ap (λ b. cond b None (waiting_at s.reads q)) h ∙ sym (ap if_waiting (f.others q h))

  module _ (first : ReadRequest) (span : Span) (before' : List ℕ)
      (found : polled_at s.reads first.id ≡ true)
      (fresh : is_among before first.id ≡ false)
      (least : (q : ℕ) → from ≤ q → q < first.id → polled_at s.reads q ≡ true → is_among before q ≡ true)
      (merges : Merges s.distance s.limit s.alignment (free_at s.reads before) first.id span)
      (numbers : (q : ℕ) → is_among before' q ≡ (is_among before q || is_listed span.reads q)) where
    -- polled reads before the next are taken
    sooner : (q : ℕ) → q < first.id → polled_at s.reads q ≡ true → is_among before q ≡ true
    sooner q l p = ⊎_elim (λ (b : q < from). f.past q b p) (λ (g : from ≤ q). least q g l p) (cases_lt q from)

    least-now : (q : ℕ) → q < first.id → polled_at (all_taken s spans).reads q ≡ false
    least-now q l = at (is_among before q) refl (polled_at s.reads q) refl
      where
        at : (b : Bool) → is_among before q ≡ b → (p : Bool) → polled_at s.reads q ≡ p → polled_at (all_taken s spans).reads q ≡ false
        at true h p e = polled-none (read_at (all_taken s spans).reads q) (f.gone q h)
        at false h false e = ap if_polled (f.others q h) ∙ e
        at false h true e = cc (sym h ∙ sooner q l e)

    -- the span merges from what the earlier ones leave
    merges-now : MergesNow (all_taken s spans) span
    merges-now = record {
      next = first.id;
      is_due = ap if_polled (f.others first.id fresh) ∙ found;
      least = least-now;
      merges = rw (f.distance, f.limit, f.alignment) (merges-along s.distance s.limit s.alignment (free_at s.reads before) (waiting_at (all_taken s spans).reads) first.id span free-waits merges);
    }

    -- with one more span
    pub so_far-step : (from' : ℕ) → from' ≤ first.id + 1 → SoFar s (spans ++ span ∷ []) before' from'
    so_far-step from' near = record {
      sound = f.sound;
      sound_now = subst IsSound (sym (all_taken-push s spans span)) (sound-taken (all_taken s spans) span f.sound_now merges-now);
      turn = λ rest h. rw append_assoc (f.turn (span ∷ rest) (merges-now, subst (λ t. MergesInTurn t rest) (all_taken-push s spans span) h));
      others = λ q h. others q (or-false (is_among before q) (is_listed span.reads q) (sym (numbers q) ∙ h));
      gone = λ q h. gone q (is_listed span.reads q) refl (is_among before q) refl (sym (numbers q) ∙ h);
      past = λ q l p. numbers q ∙ ⊎_elim (λ (b : q < first.id). or-true (is_among before q) (is_listed span.reads q) (sooner q b p))
          (λ (g : first.id ≤ q). served q (omega (arith, l, near, g))) (cases_lt q first.id);
      distance = ap (λ (t : Scheduler). t.distance) (all_taken-push s spans span) ∙ f.distance;
      limit = ap (λ (t : Scheduler). t.limit) (all_taken-push s spans span) ∙ f.limit;
      alignment = ap (λ (t : Scheduler). t.alignment) (all_taken-push s spans span) ∙ f.alignment;
    }
      where
        served : (q : ℕ) → first.id ≡ q → (is_among before q || is_listed span.reads q) ≡ true
        served q same = or-second (is_among before q) (is_listed span.reads q) (subst (λ n. is_listed span.reads n ≡ true) same merges.serves)
          where
            or-second : (a b : Bool) → b ≡ true → (a || b) ≡ true
            or-second true b h = refl
            or-second false b h = h

        others : (q : ℕ) → (is_among before q ≡ false) × (is_listed span.reads q ≡ false) → read_at (all_taken s (spans ++ span ∷ [])).reads q ≡ read_at s.reads q
        others q h = ap (λ (t : Scheduler). read_at t.reads q) (all_taken-push s spans span)
            ∙ read-taken (all_taken s spans) f.sound_now span q h.1 ∙ f.others q h.0

        gone : (q : ℕ) (l : Bool) → is_listed span.reads q ≡ l → (b : Bool) → is_among before q ≡ b → (is_among before q || is_listed span.reads q) ≡ true → waiting_at (all_taken s (spans ++ span ∷ [])).reads q ≡ None
        gone q true e b c h = ap (λ (t : Scheduler). waiting_at t.reads q) (all_taken-push s spans span)
            ∙ listed-gone (all_taken s spans) span q f.sound_now e
        gone q false e true c h = ap (λ (t : Scheduler). waiting_at t.reads q) (all_taken-push s spans span)
            ∙ ap if_waiting (read-taken (all_taken s spans) f.sound_now span q e) ∙ f.gone q c
        gone q false e false c h = absurd (clash (is_among before q) (is_listed span.reads q) c e h)
          where
            clash : (a b : Bool) → a ≡ false → b ≡ false → (a || b) ≡ true → ⊥
            clash true b x y z = cc
            clash false true x y z = cc
            clash false false x y z = cc

-- the spans so far merge in turn
pub so_far-merge : (s : Scheduler) (spans : List Span) (before : List ℕ) (from : ℕ) → SoFar s spans before from → MergesInTurn s spans
so_far-merge s spans before from f = rw append-nil at (f.turn [] tt)
