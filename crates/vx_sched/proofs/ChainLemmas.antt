-- How the calls of a scheduler chain.
use Rattle.std.proofs.Common.{◌≡◌, ℕ, ◌+◌, ◌<◌, ◌≤◌, ◌==◌, Bool, true, false, List, [], ◌∷◌, length, map, None, refl, ap, sym, ◌∙◌, subst, arith}
use Rattle.std.specs.Prelude.{is_some}
use Rattle.std.proofs.lemmas.Bool.Decides.{nat_tests}
use Rattle.std.specs.List.{AllByRecursion}
use Rattle.vx_sched.specs.Span.{Span}
use Rattle.vx_sched.specs.Merging.{is_listed, first_number}
use Rattle.vx_sched.specs.Reads.{waiting_at, leads_at, flying_at, has_first, ranges_in_flight}
use Rattle.vx_sched.specs.Counting.{count_in}
use Rattle.vx_sched.specs.Scheduling.{Scheduler, SameSettings, MergesNow, MergesInTurn, MayTake, IsInFlight, AllInFlight, AreApart, IsLegal, taken, all_taken, resolved, all_resolved}
use Rattle.vx_sched.specs.Law.{IsSound}
use Rattle.vx_sched.specs.Chain.{IsLeft}
use Rattle.vx_sched.proofs.FlyLemmas.{first-listed}
use Rattle.vx_sched.proofs.FlightLemmas.{lone-leads, some-listed, listed-rests, listed-flies, leads-first, leads-other, leads-left}
use Rattle.vx_sched.proofs.CountLemmas.{ranges-taken, ranges-resolved, polls-less, polls-resolved, polls-fewer}
use Rattle.vx_sched.proofs.SoundLemmas.{kept-of, merges-some, merges-waits, sound-taken, sound-resolved, waiting-resolved, polled-resolved}
use Rattle.vx_sched.proofs.LawRuns.{listed-gone, stays-gone}
use Rattle.vx_sched.specs.declared.request.ReadRequest.{ReadRequest}
use Rattle.vx_sched.specs.declared.event.Event.TheVariants as event
use Rattle.vx_sched.specs.declared.read.ReadState.TheVariants as state

some-first : (rs : List ReadRequest) → 1 ≤ length rs → has_first rs ≡ true
some-first [] h = absurd (omega arith)
some-first (r ∷ rs) h = refl

-- a span that is taken is one more range
pub ranges-one : (s : Scheduler) (span : Span) → IsSound s → MergesNow s span → ranges_in_flight (taken s span).reads ≡ ranges_in_flight s.reads + 1
ranges-one s span h m =
    let some = merges-some s span m in
    ranges-taken span.reads s.reads h.ordered.rise (some-first span.reads some) (first-listed span.reads some)
    (λ q l. lone-leads (leads_at s.reads) (flying_at s.reads) q h.spans.holds (listed-rests s.reads (kept-of s h) span.reads some (merges-waits s span m) q l))
    (merges-waits s span m (first_number span.reads) (first-listed span.reads some))

-- spans that are taken are as many more ranges
pub ranges-all : (s : Scheduler) (spans : List Span) → IsSound s → MergesInTurn s spans → ranges_in_flight (all_taken s spans).reads ≡ ranges_in_flight s.reads + length spans
ranges-all s [] h m = omega arith
ranges-all s (span ∷ rest) h m =
    let one = ranges-one s span h m.0 in
    let more = ranges-all (taken s span) rest (sound-taken s span h m.0) m.1 in
    omega (arith, one, more)

-- spans that fit may be taken
pub may-take : (s : Scheduler) (spans : List Span) (most : ℕ) → IsSound s → MergesInTurn s spans → length spans ≤ most → ranges_in_flight s.reads + most ≤ s.concurrency → 1 ≤ length spans → MayTake s spans
may-take s spans most h m l f some =
    let ranges = ranges-all s spans h m in
    record { some = some; merge = m; fit = omega (arith, ranges, l, f) }

-- fewer reads are polled
pub fewer-one : (s : Scheduler) (span : Span) → MergesNow s span → count_in state.Polled (taken s span).reads < count_in state.Polled s.reads
fewer-one s span m = polls-fewer span.reads s.reads m.next m.merges.serves m.is_due

not-more : (s : Scheduler) (spans : List Span) → count_in state.Polled (all_taken s spans).reads ≤ count_in state.Polled s.reads
not-more s [] = omega arith
not-more s (span ∷ rest) =
    let one = polls-less span.reads s.reads in
    let more = not-more (taken s span) rest in
    omega (arith, one, more)

pub fewer-all : (s : Scheduler) (spans : List Span) → 1 ≤ length spans → MergesInTurn s spans → count_in state.Polled (all_taken s spans).reads < count_in state.Polled s.reads
fewer-all s [] l m = absurd (omega arith)
fewer-all s (span ∷ rest) l m =
    let one = fewer-one s span m.0 in
    let more = not-more (taken s span) rest in
    omega (arith, one, more)

-- settings stay
pub same-all : (s : Scheduler) (spans : List Span) → SameSettings s (all_taken s spans)
same-all s [] = record { distance = refl; limit = refl; alignment = refl; concurrency = refl }
same-all s (span ∷ rest) = let p = same-all (taken s span) rest in record { distance = p.distance; limit = p.limit; alignment = p.alignment; concurrency = p.concurrency }

-- ---- spans in flight

pub flies-taken : (s : Scheduler) (span : Span) → IsSound s → MergesNow s span → IsInFlight (taken s span) span
flies-taken s span h m = record {
  some = merges-some s span m;
  leads = leads-first s.reads (kept-of s h) span.reads (merges-some s span m) (merges-waits s span m);
  range = m.merges.range;
}

flying-first : (s : Scheduler) (span : Span) → IsSound s → IsInFlight s span → flying_at s.reads (first_number span.reads) ≡ true
flying-first s span h f = h.spans.holds.flies (first_number span.reads) (first_number span.reads) (ap (λ z. is_listed z (first_number span.reads)) f.leads ∙ first-listed span.reads f.some)

-- a span stays in flight where another is taken
pub flies-on : (s : Scheduler) (span other : Span) → IsSound s → MergesNow s span → IsInFlight s other → IsInFlight (taken s span) other
flies-on s span other h m f = record {
  some = f.some;
  leads = leads-other s.reads (kept-of s h) span.reads (merges-some s span m) (merges-waits s span m) (first_number other.reads) (at (first_number span.reads == first_number other.reads) refl) ∙ f.leads;
  range = f.range;
}
  where
    at : (b : Bool) → (first_number span.reads == first_number other.reads) ≡ b → (first_number span.reads == first_number other.reads) ≡ false
    at false e = e
    at true e =
        let same : first_number span.reads ≡ first_number other.reads = grind (arith, nat_tests) in
        let some = merges-some s span m in
        let rests = listed-rests s.reads (kept-of s h) span.reads some (merges-waits s span m) (first_number span.reads) (first-listed span.reads some) in
        cc (sym (flying-first s other h f) ∙ ap (flying_at s.reads) (sym same) ∙ rests)

flies-past : (s : Scheduler) (spans : List Span) (other : Span) → IsSound s → MergesInTurn s spans → IsInFlight s other → IsInFlight (all_taken s spans) other
flies-past s [] other h m f = f
flies-past s (span ∷ rest) other h m f = flies-past (taken s span) rest other (sound-taken s span h m.0) m.1 (flies-on s span other h m.0 f)

-- each span that was taken is in flight
pub all-fly : (s : Scheduler) (spans : List Span) → IsSound s → MergesInTurn s spans → AllInFlight (all_taken s spans) spans
all-fly s [] h m = tt
all-fly s (span ∷ rest) h m =
    let sound = sound-taken s span h m.0 in
    (flies-past (taken s span) rest span sound m.1 (flies-taken s span h m.0), all-fly (taken s span) rest sound m.1)

apart-from : (s : Scheduler) (n : ℕ) (spans : List Span) → IsSound s → MergesInTurn s spans → waiting_at s.reads n ≡ None → AllByRecursion (λ t. (n == first_number t.reads) ≡ false) spans
apart-from s n [] h m w = tt
apart-from s n (span ∷ rest) h m w =
    (at (n == first_number span.reads) refl, apart-from (taken s span) n rest (sound-taken s span h m.0) m.1 (stays-gone s span n h w))
  where
    at : (b : Bool) → (n == first_number span.reads) ≡ b → (n == first_number span.reads) ≡ false
    at false e = e
    at true e =
        let same : first_number span.reads ≡ n = grind (arith, nat_tests) in
        let waits = merges-waits s span m.0 (first_number span.reads) (first-listed span.reads (merges-some s span m.0)) in
        cc (sym waits ∙ ap (λ q. is_some (waiting_at s.reads q)) same ∙ ap is_some w)

-- spans in turn begin with different reads
pub turn-apart : (s : Scheduler) (spans : List Span) → IsSound s → MergesInTurn s spans → AreApart spans
turn-apart s [] h m = tt
turn-apart s (span ∷ rest) h m =
    let sound = sound-taken s span h m.0 in (
      apart-from (taken s span) (first_number span.reads) rest sound m.1 (listed-gone s span (first_number span.reads) h (first-listed span.reads (merges-some s span m.0))),
      turn-apart (taken s span) rest sound m.1,
    )

-- a span stays in flight where another is resolved
pub flies-still : (s : Scheduler) (span other : Span) → IsSound s → IsInFlight s span → IsInFlight s other → (first_number span.reads == first_number other.reads) ≡ false → IsInFlight (resolved s span) other
flies-still s span other h f g e = record {
  some = g.some;
  leads = leads-left s.reads (kept-of s h) span.reads f.some f.leads (first_number other.reads) e ∙ g.leads;
  range = g.range;
}

pub all-still : (s : Scheduler) (span : Span) (rest : List Span) → IsSound s → IsInFlight s span → AllInFlight s rest → AllByRecursion (λ t. (first_number span.reads == first_number t.reads) ≡ false) rest → AllInFlight (resolved s span) rest
all-still s span [] h f g a = tt
all-still s span (t ∷ rest) h f g a = (flies-still s span t h f g.0 a.0, all-still s span rest h f g.1 a.1)

-- spans in flight that begin apart may be resolved one by one
pub resolves : (s : Scheduler) (spans : List Span) → IsSound s → AllInFlight s spans → AreApart spans → IsLegal s (map event.Resolve spans)
resolves s [] h f a = tt
resolves s (span ∷ rest) h f a = (f.0, resolves (resolved s span) rest (sound-resolved s span h f.0) (all-still s span rest h f.0 f.1 a.0) a.1)

pub left-all : (s : Scheduler) (spans : List Span) → IsSound s → AllInFlight s spans → AreApart spans → IsLeft s (all_resolved s spans)
left-all s [] h f a = record { waiting = λ q. refl; polled = λ q. refl; settings = record { distance = refl; limit = refl; alignment = refl; concurrency = refl }; next = refl }
left-all s (span ∷ rest) h f a =
    let p = left-all (resolved s span) rest (sound-resolved s span h f.0) (all-still s span rest h f.0 f.1 a.0) a.1 in
    record {
      waiting = λ q. p.waiting q ∙ waiting-resolved s h span q;
      polled = λ q. p.polled q ∙ polled-resolved s h span q;
      settings = record { distance = p.settings.distance; limit = p.settings.limit; alignment = p.settings.alignment; concurrency = p.settings.concurrency };
      next = p.next;
    }

-- a span that is resolved is one range less
pub ranges-back : (s : Scheduler) (span : Span) → IsSound s → IsInFlight s span → ranges_in_flight s.reads ≡ ranges_in_flight (resolved s span).reads + 1
ranges-back s span h f =
    ranges-resolved span.reads s.reads h.ordered.rise (first-listed span.reads f.some) f.leads (some-first span.reads f.some)
    (λ q l. listed-flies s.reads (kept-of s h) span.reads f.some f.leads q l)
    (λ q l e. none q l e (has_first (leads_at s.reads q)) refl)
  where
    none-first : (rs : List ReadRequest) → has_first rs ≡ false → rs ≡ []
    none-first [] h = refl
    none-first (r ∷ rs) h = cc

    none : (q : ℕ) → is_listed span.reads q ≡ true → (first_number span.reads == q) ≡ false → (b : Bool) → has_first (leads_at s.reads q) ≡ b → leads_at s.reads q ≡ []
    none q l e false k = none-first (leads_at s.reads q) k
    none q l e true k =
        let mine = subst (λ m. is_listed (leads_at s.reads q) m ≡ true) (h.spans.holds.named q k) (some-listed (leads_at s.reads q) k) in
        let same : first_number span.reads ≡ q = h.spans.holds.alone (first_number span.reads) q q (ap (λ z. is_listed z q) f.leads ∙ l) mine in
        let clash : (first_number span.reads == q) ≡ true = grind (arith, nat_tests) in
        cc (sym e ∙ clash)

pub ranges-all-back : (s : Scheduler) (spans : List Span) → IsSound s → AllInFlight s spans → AreApart spans → ranges_in_flight s.reads ≡ ranges_in_flight (all_resolved s spans).reads + length spans
ranges-all-back s [] h f a = omega arith
ranges-all-back s (span ∷ rest) h f a =
    let one = ranges-back s span h f.0 in
    let more = ranges-all-back (resolved s span) rest (sound-resolved s span h f.0) (all-still s span rest h f.0 f.1 a.0) a.1 in
    omega (arith, one, more)

pub next-all : (s : Scheduler) (spans : List Span) → (all_taken s spans).next ≡ s.next
next-all s [] = refl
next-all s (span ∷ rest) = next-all (taken s span) rest

pub polls-all-resolved : (s : Scheduler) (spans : List Span) → count_in state.Polled (all_resolved s spans).reads ≤ count_in state.Polled s.reads
polls-all-resolved s [] = omega arith
polls-all-resolved s (span ∷ rest) =
    let one = polls-resolved span.reads s.reads in
    let more = polls-all-resolved (resolved s span) rest in
    omega (arith, one, more)
