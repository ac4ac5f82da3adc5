-- Segments that are fetched in one call.
use Rattle.std.proofs.Common.{◌≡◌, ℕ, ◌+◌, ◌<◌, ◌≤◌, inl, inr, ⊎_elim, List, [], ◌∷◌, ◌++◌, length, map, drop, get_or, Option, Some, None, refl, sym, ap, ◌∙◌, subst, append_assoc, drop-cons, add-one, ◌&&◌, not}
use Rattle.std.specs.Prelude.{is_some}
use Rattle.std.specs.Option.{option_map}
use Rattle.std.proofs.lemmas.List.{append-nil, drop_all}
use Rattle.vx_base.specs.Asking.{Log}
use Rattle.vx_base.specs.Caches.{CacheState, OldEntries, buffer_of}
use Rattle.vx_base.specs.Counts.{Rises}
use Rattle.vx_base.specs.declared.segment.SegmentId.{SegmentId}
use Rattle.vx_source.specs.Asks.{Grew, asked_by}
use Rattle.vx_source.specs.Bytes.{IsTrueReply}
use Rattle.vx_source.specs.Drives.{StopsDrive}
use Rattle.vx_source.specs.Fetching.{at_register, at_poll, IsRegistered, Registering, IsPolled, Polling, Fetches, RegistersSome, StopsRegisters, PollsSome, StopsPolls, StopsFetch, IsTruePoll, AreTruePolls}
use Rattle.vx_source.specs.Fits.{World, IsRow, covers, driven}
use Rattle.vx_source.specs.History.{polls, drives, Moment, moment, made, segment_of, is_held, read_of, outcome_of}
use Rattle.vx_source.specs.Kept.{Kept}
use Rattle.vx_source.specs.Puts.{PutsBy, kept_of, missed}
use Rattle.vx_source.specs.Stands.{Stands, IsNext, Registers}
use Rattle.vx_source.specs.declared.fetching.Fetch.{Fetch}
use Rattle.vx_source.specs.declared.fetching.Fetched.{Fetched}
use Rattle.vx_source.specs.declared.reply.Reply.{Reply}
use Rattle.vx_source.specs.declared.reply.Reply.TheVariants.{Registered, MissingSegment, Ready, Pending, Failed, Dropped, NotLive, Driven}
use Rattle.vx_source.specs.declared.span.Span.{Span}
use Rattle.vx_source.proofs.PutLemmas.{told-some}

-- the rest of a list begins with the element at its place
pub rest-at : {X : Type 0} (xs : List X) (i : ℕ) (d : X) → i < length xs → drop i xs ≡ get_or xs i d ∷ drop (i + 1) xs
rest-at xs i d h = drop-cons xs i d h ∙ ap (λ n. get_or xs i d ∷ drop n xs) (sym (add-one i))

-- ---- registers

registering-more : (w : World) (past : List Moment) (before : CacheState) (ids : List SegmentId) (first : List Fetch) (now : List Moment) (after : CacheState) (id : SegmentId) (f : Fetch) (next : List Moment) (last : CacheState)
    → Registering w past before ids first now after → IsRegistered w now after id f next last → Registering w past before (ids ++ id ∷ []) (first ++ f ∷ []) next last
registering-more w past before [] [] now after id f next last h r =
    (next, last, subst (λ c. IsRegistered w past c id f next last) h.1 (subst (λ p. IsRegistered w p after id f next last) h.0 r), (refl, refl))
registering-more w past before [] (g ∷ more) now after id f next last h r = absurd h
registering-more w past before (s ∷ rest) [] now after id f next last h r = absurd h
registering-more w past before (s ∷ rest) (g ∷ more) now after id f next last h r = (h.0, h.1, h.2, registering-more w h.0 h.1 rest more now after id f next last h.3 r)

pub registers-none : (w : World) (past : List Moment) (before : CacheState) (ids : List SegmentId) (k : Kept) → Stands w past k → RegistersSome w past before before ids ids [] k
registers-none w past before ids k st = record { done = []; split = refl; now = past; registers = (refl, refl); stands = st }

pub registers-one : (w : World) (past : List Moment) (before mid after : CacheState) (ids : List SegmentId) (i : ℕ) (d : SegmentId) (first : List Fetch) (k k' : Kept) (reply : Reply) → i < length ids
    → RegistersSome w past before mid ids (drop i ids) first k → ((h : List Moment) → Stands w h k → Registers w h (get_or ids i d).0 mid after reply k')
    → RegistersSome w past before after ids (drop (i + 1) ids) (first ++ at_register reply ∷ []) k'
registers-one w past before mid after ids i d first k k' reply lt h step =
    let id = get_or ids i d in
    let r = step h.now h.stands in
    record {
      done = h.done ++ id ∷ [];
      split = append_assoc h.done (id ∷ []) (drop (i + 1) ids) ∙ ap (λ l. h.done ++ l) (sym (rest-at ids i d lt)) ∙ h.split;
      now = _;
      registers = registering-more w past before h.done first h.now mid id (at_register reply) _ after h.registers
          (record { got = r.got; fetch = refl; row = r.next.row; cache = r.cache; history = refl });
      stands = r.next.stands;
    }

pub registers-all : (w : World) (past : List Moment) (before after : CacheState) (ids : List SegmentId) (i : ℕ) (first : List Fetch) (k : Kept) → length ids ≤ i
    → RegistersSome w past before after ids (drop i ids) first k → RegistersSome w past before after ids [] first k
registers-all w past before after ids i first k past_end h = subst (λ rest. RegistersSome w past before after ids rest first k) (drop_all i ids past_end) h

-- all were registered
pub registers-whole : (w : World) (past : List Moment) (before after : CacheState) (ids : List SegmentId) (first : List Fetch) (k : Kept)
    (h : RegistersSome w past before after ids [] first k) → Registering w past before ids first h.now after
registers-whole w past before after ids first k h = subst (λ l. Registering w past before l first h.now after) (sym (append-nil h.done) ∙ h.split) h.registers

-- registers put nothing, and bring no entry
pub record KeepsPuts (before after : CacheState) : Type 0 where
  pub puts : after.puts ≡ before.puts
  pub lost : after.lost ≡ before.lost
  pub from : OldEntries before.entries after.entries
  pub tells : is_some after.entries ≡ is_some before.entries

old-then : (a b c : CacheState) → KeepsPuts a b → is_some b.entries ≡ is_some a.entries → OldEntries b.entries c.entries → OldEntries a.entries c.entries
old-then a b c h tells k = λ es fs q x e f is.
    let mid = told-some a.entries b.entries es (sym tells) e in
    h.from es mid.0 q x e mid.1 (k mid.0 fs q x mid.1 f is)

registering-puts : (w : World) (past : List Moment) (before : CacheState) (ids : List SegmentId) (first : List Fetch) (now : List Moment) (after : CacheState) → Registering w past before ids first now after → KeepsPuts before after
registering-puts w past before [] [] now after h = subst (KeepsPuts before) (sym h.1) (record {
  puts = refl;
  lost = refl;
  from = λ es fs q x e f is. let same : Some es ≡ Some fs = sym e ∙ f in let equal : fs ≡ es = cc in subst (λ l. buffer_of l q ≡ Some x) equal is;
  tells = refl;
})
registering-puts w past before [] (f ∷ more) now after h = absurd h
registering-puts w past before (id ∷ rest) [] now after h = absurd h
registering-puts w past before (id ∷ rest) (f ∷ more) now after h =
    let got = h.2.cache in
    let later = registering-puts w h.0 h.1 rest more now after h.3 in
    record {
      puts = later.puts ∙ got.puts;
      lost = later.lost ∙ got.lost;
      from = old-then before h.1 after (record { puts = got.puts; lost = got.lost; from = got.from; tells = got.tells }) got.tells later.from;
      tells = later.tells ∙ got.tells;
    }

-- what a drive puts after registers
puts-after : (w : World) (past : List Moment) (before mid after : CacheState) (ids : List SegmentId) (first : List Fetch) (now waiting : List Moment) (spans : List Span) → Registering w past before ids first now mid
    → PutsBy waiting spans mid after → PutsBy waiting spans before after
puts-after w past before mid after ids first now waiting spans h p =
    let k = registering-puts w past before ids first now mid h in
    let g = p.gains in
    record {
      puts = p.puts;
      segments = p.segments;
      gains = record {
        kept = g.kept;
        size = g.size;
        log = g.log ∙ ap (option_map (λ l. l ++ kept_of g.kept p.puts)) k.puts;
        lost = subst (λ n. Rises (missed g.kept) n after.lost) k.lost g.lost;
        from = λ es fs q x e f is.
            let middle = told-some before.entries mid.entries es (sym k.tells) e in
            ⊎_elim (λ old. inl (k.from es middle.0 q x e middle.1 old)) inr (g.from middle.0 fs q x middle.1 f is);
        tells = g.tells ∙ k.tells;
      };
    }

-- ---- polls

-- a history says the same of numbers and of how reads went
pub record SameNumbers (past now : List Moment) : Type 0 where
  pub made : made now ≡ made past
  pub segment : (n : ℕ) → segment_of now n ≡ segment_of past n
  pub held : (n : ℕ) → is_held now n ≡ is_held past n
  pub read : (n : ℕ) → read_of now n ≡ read_of past n
  pub outcome : (r : ℕ) → outcome_of now r ≡ outcome_of past r

pub same-numbers : (past : List Moment) → SameNumbers past past
same-numbers past = record { made = refl; segment = λ n. refl; held = λ n. refl; read = λ n. refl; outcome = λ r. refl }

pub same-then : (a b c : List Moment) → SameNumbers a b → SameNumbers b c → SameNumbers a c
same-then a b c h k = record {
  made = k.made ∙ h.made;
  segment = λ n. k.segment n ∙ h.segment n;
  held = λ n. k.held n ∙ h.held n;
  read = λ n. k.read n ∙ h.read n;
  outcome = λ r. k.outcome r ∙ h.outcome r;
}

pub poll-same : (w : World) (past : List Moment) (number : ℕ) (reply : Reply) → IsRow w past (polls number) reply → SameNumbers past (moment (polls number) reply ∷ past)
poll-same w past number (Registered n held) h = absurd h
poll-same w past number MissingSegment h = absurd h
poll-same w past number (Ready buffer) h = record { made = refl; segment = λ n. refl; held = λ n. refl; read = λ n. refl; outcome = λ r. refl }
poll-same w past number Pending h = record { made = refl; segment = λ n. refl; held = λ n. refl; read = λ n. refl; outcome = λ r. refl }
poll-same w past number (Failed cause) h = record { made = refl; segment = λ n. refl; held = λ n. refl; read = λ n. refl; outcome = λ r. refl }
poll-same w past number Dropped h = absurd h
poll-same w past number NotLive h = record { made = refl; segment = λ n. refl; held = λ n. refl; read = λ n. refl; outcome = λ r. refl }
poll-same w past number (Driven spans) h = absurd h

polled-same : (w : World) (past : List Moment) (o : Option ℕ) (f g : Fetch) (now : List Moment) → IsPolled w past o f g now → SameNumbers past now
polled-same w past None f g now h = subst (SameNumbers past) (sym h.1) (same-numbers past)
polled-same w past (Some number) f g now h = subst (SameNumbers past) (sym h.2) (poll-same w past number g.reply h.1)

pub polling-same : (w : World) (past : List Moment) (first second : List Fetch) (now : List Moment) → Polling w past first second now → SameNumbers past now
polling-same w past [] [] now h = subst (SameNumbers past) (sym h) (same-numbers past)
polling-same w past [] (g ∷ more) now h = absurd h
polling-same w past (f ∷ rest) [] now h = absurd h
polling-same w past (f ∷ rest) (g ∷ more) now h = same-then past h.0 now (polled-same w past f.number f g h.0 h.1) (polling-same w h.0 rest more now h.2)

polling-more : (w : World) (past : List Moment) (first second : List Fetch) (now : List Moment) (f g : Fetch) (next : List Moment)
    → Polling w past first second now → IsPolled w now f.number f g next → Polling w past (first ++ f ∷ []) (second ++ g ∷ []) next
polling-more w past [] [] now f g next h p = (next, subst (λ a. IsPolled w a f.number f g next) h p, refl)
polling-more w past [] (x ∷ more) now f g next h p = absurd h
polling-more w past (x ∷ rest) [] now f g next h p = absurd h
polling-more w past (x ∷ rest) (y ∷ more) now f g next h p = (h.0, h.1, polling-more w h.0 rest more now f g next h.2 p)

pub polls-none : (w : World) (past : List Moment) (first : List Fetch) (k : Kept) → Stands w past k → PollsSome w past first first [] k
polls-none w past first k st = record { done = []; split = refl; now = past; polls = refl; stands = st }

pub polls-one : (w : World) (past : List Moment) (first rest second : List Fetch) (f g : Fetch) (k k' : Kept)
    → PollsSome w past first (f ∷ rest) second k → ((h : List Moment) → Stands w h k → (now : List Moment) × IsPolled w h f.number f g now × Stands w now k')
    → PollsSome w past first rest (second ++ g ∷ []) k'
polls-one w past first rest second f g k k' h step =
    let p = step h.now h.stands in
    record {
      done = h.done ++ f ∷ [];
      split = append_assoc h.done (f ∷ []) rest ∙ h.split;
      now = p.0;
      polls = polling-more w past h.done second h.now f g p.0 h.polls p.1;
      stands = p.2;
    }

-- all were polled
pub polls-whole : (w : World) (past : List Moment) (first second : List Fetch) (k : Kept) (h : PollsSome w past first [] second k) → Polling w past first second h.now
polls-whole w past first second k h = subst (λ l. Polling w past l second h.now) (sym (append-nil h.done) ∙ h.split) h.polls

-- a reply is as true of an earlier history that says the same of numbers
true-before : (file : List ℕ) (w : World) (past now : List Moment) (n : ℕ) (reply : Reply) → SameNumbers past now → IsTrueReply file w now n reply → IsTrueReply file w past n reply
true-before file w past now n (Registered m held) same h = tt
true-before file w past now n MissingSegment same h = tt
true-before file w past now n (Ready buffer) same h = λ s e.
    let there = h s (same.segment n ∙ e) in
    (there.0, λ c. there.1 (ap (λ b. b && not (covers w s)) (same.held n) ∙ c))
true-before file w past now n Pending same h = tt
true-before file w past now n (Failed cause) same h = tt
true-before file w past now n Dropped same h = tt
true-before file w past now n NotLive same h = tt
true-before file w past now n (Driven spans) same h = tt

pub true-poll : (file : List ℕ) (w : World) (past now : List Moment) (o : Option ℕ) (reply : Reply) → SameNumbers past now → IsTruePoll file w now o reply → IsTruePoll file w past o reply
true-poll file w past now None reply same h = tt
true-poll file w past now (Some n) reply same h = true-before file w past now n reply same h

-- what was polled so far is true, and so is all where the rest is
pub true-then : (file : List ℕ) (w : World) (past : List Moment) (first rest second more : List Fetch) (f g : Fetch)
    → ((l : List Fetch) → AreTruePolls file w past (f ∷ rest) l → AreTruePolls file w past first (second ++ l)) → IsTruePoll file w past f.number g.reply
    → AreTruePolls file w past rest more → AreTruePolls file w past first ((second ++ g ∷ []) ++ more)
true-then file w past first rest second more f g all one h = subst (λ l. AreTruePolls file w past first l) (sym (append_assoc second (g ∷ []) more)) (all (g ∷ more) (one, h))

-- ---- one poll

module _ (w : World) (past : List Moment) (f g : Fetch) (number : ℕ) (reply : Reply) (open_is : f.number ≡ Some number) (is : g ≡ at_poll number reply) where
  pub poll-next : (k : Kept) → IsNext w past (polls number) reply k → (now : List Moment) × IsPolled w past f.number f g now × Stands w now k
  poll-next k h = subst (λ o. (now : List Moment) × IsPolled w past o f g now × Stands w now k) (sym open_is)
      (subst (λ y. (now : List Moment) × IsPolled w past (Some number) f y now × Stands w now k) (sym is) (moment (polls number) reply ∷ past, (refl, h.row, refl), h.stands))

  pub poll-true : (file : List ℕ) → IsTrueReply file w past number reply → IsTruePoll file w past f.number g.reply
  poll-true file h = subst (λ o. IsTruePoll file w past o g.reply) (sym open_is) (subst (λ (y : Fetch). IsTrueReply file w past number y.reply) (sym is) h)

-- ---- the whole

-- segments were registered and polled
pub record Waits (w : World) (past : List Moment) (before after : CacheState) (ids : List SegmentId) (first second : List Fetch) (k : Kept) : Type 0 where
  pub registered : List Moment
  pub registers : Registering w past before ids first registered after
  pub waiting : List Moment
  pub polls : Polling w registered first second waiting
  pub stands : Stands w waiting k

abbrev pub waits-now : (w : World) (past : List Moment) (before after : CacheState) (ids : List SegmentId) (first second : List Fetch) (k k' : Kept) → RegistersSome w past before after ids [] first k
    → ((h : List Moment) → Stands w h k → PollsSome w h first [] second k') → Waits w past before after ids first second k'
waits-now w past before after ids first second k k' h polled =
    let p = polled h.now h.stands in
    record {
      registered = h.now;
      registers = registers-whole w past before after ids first k h;
      waiting = p.now;
      polls = polls-whole w h.now first second k' p;
      stands = p.stands;
    }

module _ (w : World) (past : List Moment) (before mid after : CacheState) (ids : List SegmentId) (first second : List Fetch) (k : Kept) (h : Waits w past before mid ids first second k) where
  pub fetches-now : (last : List Fetch) (fetched : Fetched) (k' k'' : Kept) → IsNext w h.waiting drives (Driven fetched.spans) k' → PutsBy h.waiting fetched.spans mid after
      → PollsSome w (driven fetched.spans h.waiting) second [] last k'' → fetched.replies ≡ map (λ (f : Fetch). f.reply) last → Fetches w past before after ids fetched k''
  fetches-now last fetched k' k'' d puts p replies = record {
    registered = h.registered;
    cache = mid;
    first = first;
    registers = h.registers;
    waiting = h.waiting;
    second = second;
    polls = h.polls;
    drive = d.row;
    puts = puts-after w past before mid after ids first h.registered h.waiting fetched.spans h.registers puts;
    now = p.now;
    last = last;
    again = polls-whole w (driven fetched.spans h.waiting) second last k'' p;
    replies = replies;
    stands = p.stands;
  }

  module _ (log_before log_now : Option Log) where
    pub stops-drive : (k' : Kept) → StopsDrive w h.waiting log_before log_now mid after k' → StopsFetch w past log_before log_now before after ids k'
    stops-drive k' s = inr (inr (inl (record {
      registered = h.registered;
      cache = mid;
      first = first;
      registers = h.registers;
      waiting = h.waiting;
      second = second;
      polls = h.polls;
      stops = s;
    })))

    pub stops-again : (spans : List Span) (k' k'' : Kept) → IsNext w h.waiting drives (Driven spans) k' → PutsBy h.waiting spans mid after → Grew (asked_by spans) log_before log_now
        → StopsPolls w (driven spans h.waiting) second k'' → StopsFetch w past log_before log_now before after ids k''
    stops-again spans k' k'' d puts log s = inr (inr (inr (record {
      registered = h.registered;
      cache = mid;
      first = first;
      registers = h.registers;
      waiting = h.waiting;
      second = second;
      polls = h.polls;
      spans = spans;
      drive = d.row;
      puts = puts;
      log = log;
      stops = s;
    })))

-- a fetch stopped among the registers
pub stops-registers : (w : World) (past : List Moment) (log : Option Log) (before after : CacheState) (ids : List SegmentId) (k : Kept) → StopsRegisters w past before ids k → StopsFetch w past log log before after ids k
stops-registers w past log before after ids k s = inl (s, refl)

-- or among the first polls
pub stops-first : (w : World) (past : List Moment) (log : Option Log) (before after : CacheState) (ids : List SegmentId) (first : List Fetch) (k k' : Kept) → RegistersSome w past before after ids [] first k
    → ((h : List Moment) → Stands w h k → StopsPolls w h first k') → StopsFetch w past log log before after ids k'
stops-first w past log before after ids first k k' h stopped = inr (inl (
  record {
    registered = h.now;
    first = first;
    registers = registers-whole w past before after ids first k h;
    stops = stopped h.now h.stands;
  },
  refl,
))
