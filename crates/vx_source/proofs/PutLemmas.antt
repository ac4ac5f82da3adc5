-- What a session puts into its cache.
use Rattle.std.proofs.Common.{◌≡◌, ℕ, ◌+◌, ◌≤◌, ◌⊎◌, inl, inr, Bool, true, false, List, [], ◌∷◌, ◌++◌, length, map, Option, Some, None, Result, refl, sym, ap, ◌∙◌, subst, arith, append_assoc}
use Rattle.std.specs.Prelude.{is_some}
use Rattle.std.specs.Option.{option_map}
use Rattle.std.proofs.lemmas.List.{append-nil}
use Rattle.vx_base.specs.Buffer.{Buffer}
use Rattle.vx_base.specs.Caches.{Segments, CacheState, PutCause, Logged, Lost, buffer_of}
use Rattle.vx_base.specs.Counts.{Rises}
use Rattle.vx_base.specs.declared.segment.SegmentId.{SegmentId}
use Rattle.vx_base.specs.declared.segment_cache.CacheError.{CacheError}
use Rattle.vx_sched.specs.Io.{request_of as range_of}
use Rattle.vx_sched.specs.Outcomes.{IsOutcomeOf, AreOutcomesOf}
use Rattle.vx_sched.specs.Span as sched
use Rattle.vx_sched.specs.declared.fault.Outcome.{Outcome}
use Rattle.vx_sched.specs.declared.fault.Outcome.TheVariants as out
use Rattle.vx_sched.specs.declared.request.ReadRequest.{ReadRequest}
use Rattle.vx_source.specs.Blocks.{number_of, span_outcome, reports_of, cut_of, filed_good, filed_bad, filed_by, filed_of}
use Rattle.vx_source.specs.History.{Moment, segment_of}
use Rattle.vx_source.specs.Kept.{segment_at}
use Rattle.vx_source.specs.Puts.{Gains, PutsBy, AreHanded, IsPut, put_at, puts_of, kept_of, missed, with_segment, segments_of, put_segments, put_by}
use Rattle.vx_source.specs.Requests.{Filed, Request}
use Rattle.vx_source.specs.declared.span.Span.{Span}
use Rattle.vx_source.specs.declared.span.SpanOutcome.{SpanOutcome}
use Rattle.vx_source.specs.declared.span.SpanOutcome.TheVariants.{Bad}

grew-nothing : (x : Option Segments) → x ≡ option_map (λ l. l ++ []) x
grew-nothing None = refl
grew-nothing (Some l) = ap (λ m. Some m) (sym (append-nil l))

grew-both : (a b : Segments) (x y z : Option Segments) → y ≡ option_map (λ l. l ++ a) x → z ≡ option_map (λ l. l ++ b) y → z ≡ option_map (λ l. l ++ (a ++ b)) x
grew-both a b x y z h k = k ∙ ap (option_map (λ l. l ++ b)) h ∙ both x
  where
    both : (x : Option Segments) → option_map (λ l. l ++ b) (option_map (λ l. l ++ a) x) ≡ option_map (λ l. l ++ (a ++ b)) x
    both None = refl
    both (Some l) = ap (λ m. Some m) (append_assoc l a b)

rises-both : (a b x y z : ℕ) → Rises a x y → Rises b y z → Rises (a + b) x z
rises-both a b x y z h k =
    let l = h.later in
    let r = h.risen in
    let m = k.later in
    let s = k.risen in
    record { later = omega (arith, l, m); risen = omega (arith, r, s, l, m) }

-- nothing was put
pub gains-none : (s : CacheState) → Gains [] s s
gains-none s = record {
  kept = [];
  size = refl;
  log = grew-nothing s.puts;
  lost = record { later = omega arith; risen = omega arith };
  from = λ es fs q b e f is. inl (let same : Some es ≡ Some fs = sym e ∙ f in let equal : fs ≡ es = cc in subst (λ gs. buffer_of gs q ≡ Some b) equal is);
  tells = refl;
}

none-kept : (kept : List Bool) → length kept ≡ 0 → missed kept ≡ 0
none-kept [] h = refl
none-kept (k ∷ rest) h = absurd (omega (arith, h))

-- all puts are kept
abbrev pub all_kept : Segments → List Bool
all_kept [] = []
all_kept (p ∷ rest) = true ∷ all_kept rest

all-length : (puts : Segments) → length (all_kept puts) ≡ length puts
all-length [] = refl
all-length (p ∷ rest) = let e = all-length rest in omega (arith, e)

all-missed : (puts : Segments) → missed (all_kept puts) ≡ 0
all-missed [] = refl
all-missed (p ∷ rest) = all-missed rest

-- a cache that tells no puts gains those that it was not handed
pub gains-handed : (puts handed : Segments) (before now : CacheState) → AreHanded puts before handed → Gains handed before now → Gains puts before now
gains-handed puts handed before now (inl is) g = subst (λ l. Gains l before now) is g
gains-handed puts handed before now (inr left) g = subst (λ l. Gains l before now → Gains puts before now) (sym left.0) unhanded g
  where
    silent : (x : Option Segments) (l m : Segments) (y : Option Segments) → x ≡ None → y ≡ option_map (λ k. k ++ l) x → y ≡ option_map (λ k. k ++ m) x
    silent None l m y e h = h
    silent (Some x) l m y e h = cc

    unhanded : Gains [] before now → Gains puts before now
    unhanded h = record {
      kept = all_kept puts;
      size = all-length puts;
      log = silent before.puts (kept_of h.kept []) (kept_of (all_kept puts) puts) now.puts left.1 h.log;
      lost = subst (λ n. Rises n before.lost now.lost) (none-kept h.kept h.size ∙ sym (all-missed puts)) h.lost;
      from = λ es fs q buffer e f is. elim (h.from es fs q buffer e f is) [ inl old ↦ inl old | inr put ↦ absurd put ];
      tells = h.tells;
    }

kept-append : (ka kb : List Bool) (a b : Segments) → length ka ≡ length a → kept_of (ka ++ kb) (a ++ b) ≡ kept_of ka a ++ kept_of kb b
kept-append [] kb [] b h = refl
kept-append [] kb (p ∷ a) b h = absurd (omega (arith, h))
kept-append (k ∷ ka) kb [] b h = absurd (omega (arith, h))
kept-append (true ∷ ka) kb (p ∷ a) b h = ap (λ l. p ∷ l) (kept-append ka kb a b (omega (arith, h)))
kept-append (false ∷ ka) kb (p ∷ a) b h = kept-append ka kb a b (omega (arith, h))

missed-append : (ka kb : List Bool) → missed (ka ++ kb) ≡ missed ka + missed kb
missed-append [] kb = omega arith
missed-append (true ∷ ka) kb = missed-append ka kb
missed-append (false ∷ ka) kb = let e = missed-append ka kb in omega (arith, e)

length-both : {X : Type 0} (a b : List X) → length (a ++ b) ≡ length a + length b
length-both [] b = omega arith
length-both (x ∷ a) b = let e = length-both a b in omega (arith, e)

put-left : (a b : Segments) (q : ℕ) (buffer : Buffer) → IsPut a q buffer → IsPut (a ++ b) q buffer
put-left [] b q buffer h = absurd h
put-left (p ∷ a) b q buffer (inl h) = inl h
put-left (p ∷ a) b q buffer (inr h) = inr (put-left a b q buffer h)

put-right : (a b : Segments) (q : ℕ) (buffer : Buffer) → IsPut b q buffer → IsPut (a ++ b) q buffer
put-right [] b q buffer h = h
put-right (p ∷ a) b q buffer h = inr (put-right a b q buffer h)

-- a put among two lists of puts is in one of them
pub put-split : (a b : Segments) (q : ℕ) (buffer : Buffer) → IsPut (a ++ b) q buffer → IsPut a q buffer ⊎ IsPut b q buffer
put-split [] b q buffer h = inr h
put-split (p ∷ a) b q buffer (inl h) = inl (inl h)
put-split (p ∷ a) b q buffer (inr h) = elim (put-split a b q buffer h) [ inl l ↦ inl (inr l) | inr r ↦ inr r ]

pub told-some : (x y : Option Segments) (e : Segments) → is_some x ≡ is_some y → x ≡ Some e → (f : Segments) × (y ≡ Some f)
told-some None y e h is = cc
told-some (Some x) None e h is = let clash : true ≡ false = h in cc
told-some (Some x) (Some y) e h is = (y, refl)

-- puts and then others
pub gains-then : (a b : Segments) (x y z : CacheState) → Gains a x y → Gains b y z → Gains (a ++ b) x z
gains-then a b x y z g h = record {
  kept = g.kept ++ h.kept;
  size = let p = length-both g.kept h.kept in let q = length-both a b in let r = g.size in let s = h.size in omega (arith, p, q, r, s);
  log = subst (λ l. z.puts ≡ option_map (λ m. m ++ l) x.puts) (sym (kept-append g.kept h.kept a b g.size)) (grew-both (kept_of g.kept a) (kept_of h.kept b) x.puts y.puts z.puts g.log h.log);
  lost = subst (λ n. Rises n x.lost z.lost) (sym (missed-append g.kept h.kept)) (rises-both (missed g.kept) (missed h.kept) x.lost y.lost z.lost g.lost h.lost);
  from = λ es fs q buffer e f is.
      let mid = told-some x.entries y.entries es (sym g.tells) e in
      elim (h.from mid.0 fs q buffer mid.1 f is) [
        | inl old ↦ elim (g.from es mid.0 q buffer e mid.1 old) [ inl first ↦ inl first | inr put ↦ inr (put-left a b q buffer put) ]
        | inr put ↦ inr (put-right a b q buffer put)
      ];
  tells = h.tells ∙ g.tells;
}

-- one put
pub gains-one : (id : SegmentId) (buffer : Buffer) (before now : CacheState) (result : Result (Unit {0}) CacheError) → before.lost ≤ now.lost → PutCause id buffer before now result → Gains ((id, buffer) ∷ []) before now
gains-one id buffer before now result never h = at h.logged
  where
    from : (es fs : Segments) (q : ℕ) (b : Buffer) → before.entries ≡ Some es → now.entries ≡ Some fs → buffer_of fs q ≡ Some b → (buffer_of es q ≡ Some b) ⊎ IsPut ((id, buffer) ∷ []) q b
    from es fs q b e f is = elim (h.from es fs q b e f is) [ inl old ↦ inl old | inr put ↦ inr (inl put) ]

    at : (Logged id buffer before.puts now.puts ⊎ Lost before now result) → Gains ((id, buffer) ∷ []) before now
    at (inl logged) = record { kept = true ∷ []; size = refl; log = logged; lost = record { later = never; risen = omega (arith, never) }; from = from; tells = h.tells }
    at (inr lost) = record { kept = false ∷ []; size = refl; log = lost.puts ∙ grew-nothing before.puts; lost = lost.rises; from = from; tells = h.tells }

-- ---- the segments that a block puts

pub ids-append : (a b : Segments) → map (λ (e : SegmentId × Buffer). e.0.0) (a ++ b) ≡ map (λ (e : SegmentId × Buffer). e.0.0) a ++ map (λ (e : SegmentId × Buffer). e.0.0) b
ids-append [] b = refl
ids-append (p ∷ a) b = ap (λ l. p.0.0 ∷ l) (ids-append a b)

puts-append : (requests : List Request) (xs ys : List Filed) → puts_of requests (xs ++ ys) ≡ puts_of requests xs ++ puts_of requests ys
puts-append requests [] ys = refl
puts-append requests (f ∷ xs) ys = ap (λ l. put_at (segment_at requests f.read) f.bytes ++ l) (puts-append requests xs ys) ∙ sym (append_assoc (put_at (segment_at requests f.read) f.bytes) (puts_of requests xs) (puts_of requests ys))

module _ (requests : List Request) (past : List Moment) (same : (n : ℕ) → segment_at requests n ≡ segment_of past n) where
  put-one : (o : Option ℕ) (b : Buffer) (rest : Segments) (more : List ℕ) → map (λ (e : SegmentId × Buffer). e.0.0) rest ≡ more
      → map (λ (e : SegmentId × Buffer). e.0.0) (put_at o (Some b) ++ rest) ≡ with_segment o more
  put-one None b rest more h = h
  put-one (Some s) b rest more h = ap (λ l. s ∷ l) h

  put-none : (o : Option ℕ) → ◌≡◌ {A = Segments} (put_at o None) []
  put-none None = refl
  put-none (Some s) = refl

  put-good : (core : sched.Span) (buffer : Buffer) (rs : List ReadRequest)
      → map (λ (e : SegmentId × Buffer). e.0.0) (puts_of requests (map (filed_good core buffer) rs)) ≡ segments_of past (map number_of rs)
  put-good core buffer [] = refl
  put-good core buffer (r ∷ rs) =
      put-one (segment_at requests r.id) (cut_of core buffer r) (puts_of requests (map (filed_good core buffer) rs)) (segments_of past (map number_of rs)) (put-good core buffer rs)
      ∙ ap (λ o. with_segment o (segments_of past (map number_of rs))) (same r.id)

  put-bad : (o : SpanOutcome) (rs : List ReadRequest) → puts_of requests (map (filed_bad o) rs) ≡ []
  put-bad o [] = refl
  put-bad o (r ∷ rs) = ap (λ l. l ++ puts_of requests (map (filed_bad o) rs)) (put-none (segment_at requests r.id)) ∙ put-bad o rs

  put-span : (core : sched.Span) (o : Outcome) → IsOutcomeOf (range_of core) o
      → map (λ (e : SegmentId × Buffer). e.0.0) (puts_of requests (filed_by core o)) ≡ put_segments past (map number_of core.reads) (span_outcome o)
  put-span core (out.Bytes buffer) h = put-good core buffer core.reads
  put-span core (out.Fault fault) h = ap (map (λ (e : SegmentId × Buffer). e.0.0)) (put-bad (Bad fault) core.reads)
  put-span core out.NoMemory h = absurd h

  pub put-block : (cores : List sched.Span) (outcomes : List Outcome) → AreOutcomesOf (map range_of cores) outcomes
      → map (λ (e : SegmentId × Buffer). e.0.0) (puts_of requests (filed_of cores outcomes)) ≡ put_by past (reports_of cores outcomes)
  put-block [] outcomes h = refl
  put-block (core ∷ rest) [] h = absurd h
  put-block (core ∷ rest) (o ∷ more) h =
      ap (map (λ (e : SegmentId × Buffer). e.0.0)) (puts-append requests (filed_by core o) (filed_of rest more))
      ∙ ids-append (puts_of requests (filed_by core o)) (puts_of requests (filed_of rest more))
      ∙ ap (λ l. l ++ map (λ (e : SegmentId × Buffer). e.0.0) (puts_of requests (filed_of rest more))) (put-span core o h.0)
      ∙ ap (λ l. put_segments past (map number_of core.reads) (span_outcome o) ++ l) (put-block rest more h.1)

put-by-append : (past : List Moment) (a b : List Span) → put_by past (a ++ b) ≡ put_by past a ++ put_by past b
put-by-append past [] b = refl
put-by-append past (s ∷ a) b =
    ap (λ l. put_segments past s.reads s.outcome ++ l) (put-by-append past a b) ∙ sym (append_assoc (put_segments past s.reads s.outcome) (put_by past a) (put_by past b))

pub puts-start : (past : List Moment) (s : CacheState) → PutsBy past [] s s
puts-start past s = record { puts = []; segments = refl; gains = gains-none s }

pub puts-then : (past : List Moment) (a b : List Span) (puts : Segments) (x y z : CacheState) → PutsBy past a x y → map (λ (e : SegmentId × Buffer). e.0.0) puts ≡ put_by past b → Gains puts y z
    → PutsBy past (a ++ b) x z
puts-then past a b puts x y z h is g = record {
  puts = h.puts ++ puts;
  segments = ids-append h.puts puts ∙ ap (λ l. l ++ map (λ (e : SegmentId × Buffer). e.0.0) puts) h.segments ∙ ap (λ l. put_by past a ++ l) is ∙ sym (put-by-append past a b);
  gains = gains-then h.puts puts x y z h.gains g;
}

pub nothing-left : {X : Type 0} (xs : List X) → length xs ≡ 0 → xs ≡ []
nothing-left [] h = refl
nothing-left (x ∷ xs) h = absurd (omega (arith, h))
