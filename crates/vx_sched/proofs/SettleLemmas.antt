-- Spans that are taken and resolved at once, over the entries and in turn.
use Rattle.std.proofs.Common.{◌≡◌, ℕ, ◌<◌, Bool, true, false, cond, List, [], ◌∷◌, length, Option, Some, None, option_map, refl, ap, sym, ◌∙◌, subst, arith}
use Rattle.std.specs.Prelude.{is_some}
use Rattle.vx_sched.specs.Span.{Span}
use Rattle.vx_sched.specs.Merging.{is_listed}
use Rattle.vx_sched.specs.Reads.{Known, Reads, read_at, waiting_at, polled_at, has_first, ranges_in_flight, change, take_read, resolve_read}
use Rattle.vx_sched.specs.Entries.{Entries, entry_at, if_waits, group, known, seen, all_changed}
use Rattle.vx_sched.specs.Places.{AreGrouped, size_in}
use Rattle.vx_sched.specs.Scheduling.{Scheduler, SameSettings, MayTake, MergesNow, MergesInTurn, IsInFlight, taken, all_taken, resolved, all_resolved, settled}
use Rattle.vx_sched.specs.Law.{IsSound}
use Rattle.vx_sched.proofs.EntriesLemmas.{waiting_in, all-at, change_entry}
use Rattle.vx_sched.proofs.GroupLemmas.{AreThose, flight, group-same, listed-some}
use Rattle.vx_sched.proofs.ChangeLemmas.{same-reads, step, change-at, change-rise}
use Rattle.vx_sched.proofs.SeenLemmas.{Stands, known-along, seen-at, seen-rise, take-numbers, resolve-numbers}
use Rattle.vx_sched.proofs.SoundLemmas.{kept-of, merges-some, merges-waits, sound-taken, sound-resolved, waiting-resolved, polled-resolved}
use Rattle.vx_sched.proofs.FlightLemmas.{listed-rests, listed-flies}
use Rattle.vx_sched.proofs.BatchLemmas.{merges-along}
use Rattle.vx_sched.proofs.ChainLemmas.{flies-taken, flies-on, all-fly, turn-apart, left-all, same-all, ranges-all, ranges-all-back, polls-all-resolved, fewer-all, next-all}
use Rattle.vx_sched.specs.declared.request.ReadRequest.{ReadRequest}
use Rattle.vx_sched.specs.Stored.{Read}
use Rattle.vx_sched.specs.declared.read.Stage.{Stage}
use Rattle.vx_sched.specs.declared.read.Stage.TheVariants.{Registered, Polled, InFlight, Resolved}
use Rattle.vx_sched.specs.declared.read.Change.TheVariants.{Settle}
use Rattle.vx_sched.specs.declared.read.ReadState.TheVariants as state
use Rattle.vx_sched.specs.Counting.{count_in}

module _ (es es' : Entries) (rs : List ReadRequest) (k : Stands es) (k' : Stands es') (changed : es' ≡ all_changed Settle es rs) where
  now-at : (q : ℕ) → entry_at es' q ≡ cond (is_listed rs q) (change_entry Settle (entry_at es q)) (entry_at es q)
  now-at q = ap (λ (z : Entries). entry_at z q) changed ∙ all-at Settle rs es q k.sorted

  settled-flight : (n : ℕ) (r : ReadRequest) (t : Stage)
      → flight n (change_entry Settle (Some (record { request = r; stage = t }))) ≡ flight n (Some (record { request = r; stage = t }))
  settled-flight n r Registered = refl
  settled-flight n r Polled = refl
  settled-flight n r (InFlight _ _ _) = refl
  settled-flight n r Resolved = refl

  settled-size : (n : ℕ) (r : ReadRequest) (t : Stage)
      → size_in n (change_entry Settle (Some (record { request = r; stage = t }))) ≡ size_in n (Some (record { request = r; stage = t }))
  settled-size n r Registered = refl
  settled-size n r Polled = refl
  settled-size n r (InFlight _ _ _) = refl
  settled-size n r Resolved = refl

  same-flight : (n q : ℕ) → flight n (entry_at es' q) ≡ flight n (entry_at es q)
  same-flight n q = ap (flight n) (now-at q) ∙ at (is_listed rs q) (entry_at es q)
    where
      at : (b : Bool) (x : Option Read) → flight n (cond b (change_entry Settle x) x) ≡ flight n x
      at true None = refl
      at true (Some x) = settled-flight n x.request x.stage
      at false x = refl

  same-size : (n q : ℕ) → size_in n (entry_at es' q) ≡ size_in n (entry_at es q)
  same-size n q = ap (size_in n) (now-at q) ∙ at (is_listed rs q) (entry_at es q)
    where
      at : (b : Bool) (x : Option Read) → size_in n (cond b (change_entry Settle x) x) ≡ size_in n x
      at true None = refl
      at true (Some x) = settled-size n x.request x.stage
      at false x = refl

  same-group : (n : ℕ) → group n es' ≡ group n es
  same-group n = group-same n es es' k.sorted k.keyed k'.sorted k'.keyed (same-flight n)

  -- the spans in flight are as before
  pub settle-grouped : AreGrouped es → AreGrouped es'
  settle-grouped g = record {
    named = λ n h. rw (same-group n) (g.named n (subst (λ (z : List ReadRequest). has_first z ≡ true) (same-group n) h));
    sizes = λ q n size h. ap length (same-group n) ∙ g.sizes q n size (sym (same-size n q) ∙ h);
  }

  -- the reads are as if they had been taken and then resolved
  pub settle-view : AreThose (waiting_in es) rs → seen es' ≡ change (is_listed rs) resolve_read (change (is_listed rs) (take_read rs) (seen es))
  settle-view waits =
      let rise = seen-rise es k.sorted k.keyed in
      let took = change-rise (is_listed rs) (take_read rs) 0 (seen es) (take-numbers rs) rise in
      same-reads 0 0 (seen es') (change (is_listed rs) resolve_read (change (is_listed rs) (take_read rs) (seen es))) (seen-rise es' k'.sorted k'.keyed)
      (change-rise (is_listed rs) resolve_read 0 (change (is_listed rs) (take_read rs) (seen es)) resolve-numbers took)
      (λ q. seen-at es' q k'.keyed ∙ along (entry_at es' q) ∙ ap (option_map (known es)) (now-at q) ∙ at q (is_listed rs q) refl (entry_at es q) refl
      ∙ sym (change-at (is_listed rs) resolve_read 0 (change (is_listed rs) (take_read rs) (seen es)) q resolve-numbers took
      ∙ ap (λ x. cond (is_listed rs q) (step resolve_read x) x) (change-at (is_listed rs) (take_read rs) 0 (seen es) q (take-numbers rs) rise
      ∙ ap (λ x. cond (is_listed rs q) (step (take_read rs) x) x) (seen-at es q k.keyed))))
    where
      along : (x : Option Read) → option_map (known es') x ≡ option_map (known es) x
      along None = refl
      along (Some x) = ap Some (known-along es es' x (same-group x.request.id))

      stage : (r : ReadRequest) (t : Stage) → is_some (if_waits (Some (record { request = r; stage = t }))) ≡ true
          → option_map (known es) (change_entry Settle (Some (record { request = r; stage = t })))
          ≡ step resolve_read (step (take_read rs) (Some (known es (record { request = r; stage = t }))))
      stage r Registered w = refl
      stage r Polled w = refl
      stage r (InFlight _ _ _) w = cc
      stage r Resolved w = cc

      one : (x : Option Read) → is_some (if_waits x) ≡ true → option_map (known es) (change_entry Settle x) ≡ step resolve_read (step (take_read rs) (option_map (known es) x))
      one None w = cc
      one (Some x) w = stage x.request x.stage w

      at : (q : ℕ) (b : Bool) → is_listed rs q ≡ b → (x : Option Read) → entry_at es q ≡ x → option_map (known es) (cond b (change_entry Settle x) x)
          ≡ cond b (step resolve_read (cond b (step (take_read rs) (option_map (known es) x)) (option_map (known es) x)))
          (cond b (step (take_read rs) (option_map (known es) x)) (option_map (known es) x))
      at q true l x e = one x (sym (ap (λ z. is_some (if_waits z)) e) ∙ listed-some (waiting_in es) rs q waits l)
      at q false l x e = refl

-- ---- spans in turn

-- a read of a span in flight is in no span that merges
apart : (s : Scheduler) (span other : Span) → IsSound s → IsInFlight s span → MergesNow s other → (q : ℕ) → is_listed span.reads q ≡ true → is_listed other.reads q ≡ true → ⊥
apart s span other h f m q l o =
    cc (sym (listed-flies s.reads (kept-of s h) span.reads f.some f.leads q l)
    ∙ listed-rests s.reads (kept-of s h) other.reads (merges-some s other m) (merges-waits s other m) q o)

-- a span may be taken before another is resolved, or after
swap : (s : Scheduler) (span other : Span) → IsSound s → IsInFlight s span → MergesNow s other → taken (resolved s span) other ≡ resolved (taken s other) span
swap s span other h f m =
    let rise = h.ordered.rise in
    let first = change-rise (is_listed span.reads) resolve_read 0 s.reads resolve-numbers rise in
    let second = change-rise (is_listed other.reads) (take_read other.reads) 0 s.reads (take-numbers other.reads) rise in
    ap (λ (reads : Reads). record s { reads = reads })
    (same-reads 0 0 (taken (resolved s span) other).reads (resolved (taken s other) span).reads
    (change-rise (is_listed other.reads) (take_read other.reads) 0 (resolved s span).reads (take-numbers other.reads) first)
    (change-rise (is_listed span.reads) resolve_read 0 (taken s other).reads resolve-numbers second)
    (λ q. change-at (is_listed other.reads) (take_read other.reads) 0 (resolved s span).reads q (take-numbers other.reads) first
    ∙ ap (λ x. cond (is_listed other.reads q) (step (take_read other.reads) x) x) (change-at (is_listed span.reads) resolve_read 0 s.reads q resolve-numbers rise)
    ∙ at q (is_listed span.reads q) refl (is_listed other.reads q) refl (read_at s.reads q)
    ∙ sym (change-at (is_listed span.reads) resolve_read 0 (taken s other).reads q resolve-numbers second
    ∙ ap (λ x. cond (is_listed span.reads q) (step resolve_read x) x) (change-at (is_listed other.reads) (take_read other.reads) 0 s.reads q (take-numbers other.reads) rise))))
  where
    at : (q : ℕ) (a : Bool) → is_listed span.reads q ≡ a → (b : Bool) → is_listed other.reads q ≡ b → (x : Option Known)
        → cond b (step (take_read other.reads) (cond a (step resolve_read x) x)) (cond a (step resolve_read x) x)
        ≡ cond a (step resolve_read (cond b (step (take_read other.reads) x) x)) (cond b (step (take_read other.reads) x) x)
    at q true l true o x = absurd (apart s span other h f m q l o)
    at q true l false o x = refl
    at q false l b o x = refl

swap-all : (s : Scheduler) (span : Span) (rest : List Span) → IsSound s → IsInFlight s span → MergesInTurn s rest
    → all_taken (resolved s span) rest ≡ resolved (all_taken s rest) span
swap-all s span [] h f m = refl
swap-all s span (other ∷ rest) h f m =
    ap (λ t. all_taken t rest) (swap s span other h f m.0) ∙ swap-all (taken s other) span rest (sound-taken s other h m.0) (flies-on s other span h m.0 f) m.1

-- spans merge in turn also where one in flight is resolved
still-merges : (s : Scheduler) (span other : Span) → IsSound s → MergesNow s other → MergesNow (resolved s span) other
still-merges s span other h m = record {
  next = m.next;
  is_due = polled-resolved s h span m.next ∙ m.is_due;
  least = λ q l. polled-resolved s h span q ∙ m.least q l;
  merges = merges-along s.distance s.limit s.alignment (waiting_at s.reads) (waiting_at (resolved s span).reads) m.next other (λ q. sym (waiting-resolved s h span q)) m.merges;
}

still-turn : (s : Scheduler) (span : Span) (rest : List Span) → IsSound s → IsInFlight s span → MergesInTurn s rest → MergesInTurn (resolved s span) rest
still-turn s span [] h f m = tt
still-turn s span (other ∷ rest) h f m = (
  still-merges s span other h m.0,
  subst (λ t. MergesInTurn t rest) (sym (swap s span other h f m.0)) (still-turn (taken s other) span rest (sound-taken s other h m.0) (flies-on s other span h m.0 f) m.1),
)

-- the first span may be settled before the others are
pub settled-step : (s : Scheduler) (span : Span) (rest : List Span) → IsSound s → MergesInTurn s (span ∷ rest)
    → settled (resolved (taken s span) span) rest ≡ settled s (span ∷ rest)
settled-step s span rest h m = ap (λ t. all_resolved t rest) (swap-all (taken s span) span rest (sound-taken s span h m.0) (flies-taken s span h m.0) m.1)

pub settled-turn : (s : Scheduler) (span : Span) (rest : List Span) → IsSound s → MergesInTurn s (span ∷ rest) → MergesInTurn (resolved (taken s span) span) rest
settled-turn s span rest h m = still-turn (taken s span) span rest (sound-taken s span h m.0) (flies-taken s span h m.0) m.1

pub settled-sound : (s : Scheduler) (span : Span) → IsSound s → MergesNow s span → IsSound (resolved (taken s span) span)
settled-sound s span h m = sound-resolved (taken s span) span (sound-taken s span h m) (flies-taken s span h m)

-- what holds of a scheduler after a batch was settled
pub record Settles (s : Scheduler) (batch : List Span) : Type 0 where
  pub waiting : (q : ℕ) → waiting_at (settled s batch).reads q ≡ waiting_at (all_taken s batch).reads q
  pub polled : (q : ℕ) → polled_at (settled s batch).reads q ≡ polled_at (all_taken s batch).reads q
  pub ranges : ranges_in_flight (settled s batch).reads ≡ ranges_in_flight s.reads
  pub fewer : count_in state.Polled (settled s batch).reads < count_in state.Polled s.reads
  pub settings : SameSettings s (settled s batch)
  pub next : (settled s batch).next ≡ s.next

sound-all : (s : Scheduler) (batch : List Span) → IsSound s → MergesInTurn s batch → IsSound (all_taken s batch)
sound-all s [] h m = h
sound-all s (span ∷ rest) h m = sound-all (taken s span) rest (sound-taken s span h m.0) m.1

pub settles : (s : Scheduler) (batch : List Span) → IsSound s → MayTake s batch → Settles s batch
settles s batch h may =
    let sound = sound-all s batch h may.merge in
    let flies = all-fly s batch h may.merge in
    let apart = turn-apart s batch h may.merge in
    let left = left-all (all_taken s batch) batch sound flies apart in
    let same = same-all s batch in
    let back = ranges-all-back (all_taken s batch) batch sound flies apart in
    let taking = ranges-all s batch h may.merge in
    let less = polls-all-resolved (all_taken s batch) batch in
    let fewer = fewer-all s batch may.some may.merge in
    record {
      waiting = left.waiting;
      polled = left.polled;
      ranges = omega (arith, back, taking);
      fewer = omega (arith, less, fewer);
      settings = record {
        distance = left.settings.distance ∙ same.distance;
        limit = left.settings.limit ∙ same.limit;
        alignment = left.settings.alignment ∙ same.alignment;
        concurrency = left.settings.concurrency ∙ same.concurrency;
      };
      next = left.next ∙ next-all s batch;
    }
