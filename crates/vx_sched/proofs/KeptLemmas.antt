-- Places after reads were taken out, and after all were put in order.
use Rattle.std.proofs.Common.{◌≡◌, ℕ, ◌<◌, ◌≤◌, ◌==◌, ◌&&◌, ◌||◌, not, Bool, true, false, cond, List, [], ◌∷◌, ◌++◌, ◌+◌, length, drop, get_or, drop-cons, add-one, Option, Some, None, option_to_list, unwrap_or, refl, ap, sym, ◌∙◌, subst, arith}
use Rattle.std.proofs.lemmas.Bool.Decides.{nat_tests}
use Rattle.std.proofs.lemmas.List.Elements.{All-filter, All-append, All-from_recursion}
use Rattle.std.proofs.lemmas.List.Folds.{list_any-append}
use Rattle.std.proofs.lemmas.List.Sorted.{All-permutation, list_any-IsPermutation}
use Rattle.std.proofs.lemmas.List.Kept.{IsNonDecreasingBy-filter}
use Rattle.std.specs.BTreeMap.{is_at}
use Rattle.std.specs.List.{filter, All, AllByRecursion}
use Rattle.std.specs.List.Sorted.{IsNonDecreasingBy, IsPermutation}
use Rattle.vx_sched.specs.Entries.{Entries, entry_at, if_waits, waits_in}
use Rattle.vx_sched.specs.Kept.{Has, IsKept}
use Rattle.vx_sched.specs.Places.{place_cmp, read_offset, has_place, holds_read, if_waiting, waits_at, waiting_of, AreAsked, AreUpTo, AreApart, IsWaitingRead}
use Rattle.vx_sched.specs.Stored.{Read}
use Rattle.vx_sched.specs.declared.places.Places.{Places}
use Rattle.vx_sched.specs.declared.request.ReadRequest.{ReadRequest}
use Rattle.vx_sched.proofs.EntriesLemmas.{waiting_in}
use Rattle.vx_sched.proofs.PlaceLemmas.{waits-somewhere}
use Rattle.vx_sched.proofs.TableLemmas.{place-eq, waiting-id}

pub or-first : (a b : Bool) → a ≡ true → (a || b) ≡ true
or-first true b h = refl
or-first false b h = cc

pub or-second : (a b : Bool) → b ≡ true → (a || b) ≡ true
or-second true b h = refl
or-second false b h = h

pub or-map : (a c b : Bool) → (a ≡ true → c ≡ true) → (a || b) ≡ true → (c || b) ≡ true
or-map true c b f h = or-first c b (f refl)
or-map false c b f h = or-second c b h

-- a read that a test keeps stays
pub kept-read : (p : ReadRequest → Bool) (reads : List ReadRequest) (offset id : ℕ) → ((r : ReadRequest) → r.id ≡ id → p r ≡ true)
    → holds_read reads (offset, id) ≡ true → holds_read (filter p reads) (offset, id) ≡ true
kept-read p [] offset id k h = cc
kept-read p (x ∷ rest) offset id k h = at (kept-read p rest offset id k) ((x.offset == offset) && (x.id == id)) refl h
  where
    here : (b : Bool) → b ≡ true → ((x.offset == offset) && (x.id == id)) ≡ true → holds_read (cond b (x ∷ filter p rest) (filter p rest)) (offset, id) ≡ true
    here true e one = or-first _ _ one
    here false e one = cc

    skip : (b : Bool) → holds_read (filter p rest) (offset, id) ≡ true → holds_read (cond b (x ∷ filter p rest) (filter p rest)) (offset, id) ≡ true
    skip true more = or-second ((x.offset == offset) && (x.id == id)) _ more
    skip false more = more

    at : (holds_read rest (offset, id) ≡ true → holds_read (filter p rest) (offset, id) ≡ true) → (b : Bool) → ((x.offset == offset) && (x.id == id)) ≡ b
        → (b || holds_read rest (offset, id)) ≡ true → holds_read (filter p (x ∷ rest)) (offset, id) ≡ true
    at more true e h =
        let number : x.id ≡ id = grind (arith, nat_tests) in
        here (p x) (k x number) e
    at more false e h = skip (p x) (more h)

-- places stay those of a table where a test keeps all that wait
module _ (entries : Entries) (old new : Places) (longest : ℕ) (p : ReadRequest → Bool) (t : IsKept entries old longest)
    (passes : (r : ReadRequest) → if_waiting (entry_at entries r.id) ≡ true → p r ≡ true)
    (same : new.is_kept ≡ old.is_kept) (ordered : new.sorted.items ≡ filter p old.sorted.items)
    (later : new.later.keys ≡ old.later.keys) (fresh : new.fresh.items ≡ old.fresh.items) (newest : new.newest ≡ old.newest) where
  filtered-placed : (offset id : ℕ) → waits_at offset (entry_at entries id) ≡ true → Has new (offset, id)
  filtered-placed offset id h k =
      let waits = waits-somewhere offset (entry_at entries id) h in
      rw (ordered, later, fresh) (or-map (holds_read old.sorted.items (offset, id) || has_place old.later.keys (offset, id))
      (holds_read (filter p old.sorted.items) (offset, id) || has_place old.later.keys (offset, id)) (has_place old.fresh.items (offset, id))
      (or-map (holds_read old.sorted.items (offset, id)) (holds_read (filter p old.sorted.items) (offset, id)) (has_place old.later.keys (offset, id))
      (kept-read p old.sorted.items offset id (λ r e. passes r (subst (λ n. if_waiting (entry_at entries n) ≡ true) (sym e) waits))))
      (t.placed offset id h (sym same ∙ k)))

  pub filtered-table : IsKept entries new longest
  filtered-table = record {
    placed = filtered-placed;
    rise = subst (IsNonDecreasingBy read_offset) (sym ordered) (IsNonDecreasingBy-filter read_offset p old.sorted.items t.rise);
    asked = subst (AreAsked entries) (sym ordered) (All-filter p (λ r. (s : ReadRequest) → if_waits (entry_at entries r.id) ≡ Some s → s ≡ r) old.sorted.items t.asked);
    newest = subst (λ n. AreUpTo n new.sorted.items) (sym newest) (subst (AreUpTo old.newest) (sym ordered) (All-filter p (λ r. r.id ≤ old.newest) old.sorted.items t.newest));
    sorted = t.sorted;
    keyed = t.keyed;
    small = t.small;
    long = t.long;
    fits = t.fits;
  }

-- a number that no entry has is not that of a read that waits
pub other-number : (entries : Entries) (id : ℕ) (r : ReadRequest) → entry_at entries id ≡ None → if_waiting (entry_at entries r.id) ≡ true → not (r.id == id) ≡ true
other-number entries id r none waits = at (r.id == id) refl
  where
    at : (b : Bool) → (r.id == id) ≡ b → not b ≡ true
    at true e =
        let same : r.id ≡ id = grind (arith, nat_tests) in
        let no : if_waiting (entry_at entries r.id) ≡ false = ap if_waiting (ap (entry_at entries) same ∙ none) in
        cc
    at false e = refl

-- a number above all is apart from them, and one whose reads were taken out
pub apart-above : (newest id : ℕ) (reads : List ReadRequest) → newest < id → AreUpTo newest reads → AreApart id reads
apart-above newest id reads above up k d l =
    let low = up k d l in
    grind (arith, nat_tests)

pub apart-filter : (id : ℕ) (reads : List ReadRequest) → AreApart id (filter (λ r. not (r.id == id)) reads)
apart-filter id reads = All-from_recursion (λ (r : ReadRequest). (r.id == id) ≡ false) (filter (λ r. not (r.id == id)) reads) (at reads)
  where
    at : (rs : List ReadRequest) → AllByRecursion (λ r. (r.id == id) ≡ false) (filter (λ r. not (r.id == id)) rs)
    at [] = tt
    at (r ∷ rs) = one (r.id == id) refl (at rs)
      where
        one : (b : Bool) → (r.id == id) ≡ b → AllByRecursion (λ r. (r.id == id) ≡ false) (filter (λ r. not (r.id == id)) rs)
            → AllByRecursion (λ r. (r.id == id) ≡ false) (cond (not b) (r ∷ filter (λ r. not (r.id == id)) rs) (filter (λ r. not (r.id == id)) rs))
        one true e more = more
        one false e more = (e, more)

-- a read that is found to wait does
pub waits-known : (x : Option Read) (r : ReadRequest) → if_waits x ≡ Some r → if_waiting x ≡ true
waits-known None r h = cc
waits-known (Some x) r h = at (waits_in x.stage) h
  where
    at : (b : Bool) → cond b (Some x.request) None ≡ Some r → b ≡ true
    at true h = refl
    at false h = cc

-- ---- all places put in order

-- the read that waits at an offset
pub record WaitsSo (offset : ℕ) (x : Option Read) : Type 0 where
  pub request : ReadRequest
  pub waits : if_waits x ≡ Some request
  pub offset_is : request.offset ≡ offset

pub waits-so : (offset : ℕ) (x : Option Read) → waits_at offset x ≡ true → WaitsSo offset x
waits-so offset None h = cc
waits-so offset (Some x) h = record { request = x.request; waits = stage (waits_in x.stage) h; offset_is = where-it-is (waits_in x.stage) h }
  where
    stage : (b : Bool) → (b && (x.request.offset == offset)) ≡ true → cond b (Some x.request) None ≡ Some x.request
    stage true h = refl
    stage false h = cc

    where-it-is : (b : Bool) → (b && (x.request.offset == offset)) ≡ true → x.request.offset ≡ offset
    where-it-is true h = grind (arith, nat_tests)
    where-it-is false h = cc

-- a waiting read is among those at places, if its own is
pub of-holds : (entries : Entries) (places : List (ℕ × ℕ)) (id : ℕ) (r : ReadRequest) → waiting_in entries id ≡ Some r → r.id ≡ id
    → has_place places (r.offset, id) ≡ true → holds_read (waiting_of entries places) (r.offset, id) ≡ true
of-holds entries [] id r w k h = cc
of-holds entries (p ∷ places) id r w k h = at (of-holds entries places id r w k) (is_at (place_cmp (r.offset, id)) p) refl (waiting_in entries p.1) refl h
  where
    self : ((r.offset == r.offset) && (r.id == id)) ≡ true
    self = grind (arith, nat_tests)

    at : (has_place places (r.offset, id) ≡ true → holds_read (waiting_of entries places) (r.offset, id) ≡ true) → (b : Bool) → is_at (place_cmp (r.offset, id)) p ≡ b
        → (o : Option ReadRequest) → waiting_in entries p.1 ≡ o → (b || has_place places (r.offset, id)) ≡ true
        → holds_read (option_to_list o ++ waiting_of entries places) (r.offset, id) ≡ true
    at more true e o f h =
        let both : ((r.offset == p.0) && (id == p.1)) ≡ true = sym (place-eq r.offset id p.0 p.1) ∙ e in
        let same : p.1 ≡ id = grind (arith, nat_tests) in
        let here : o ≡ Some r = sym f ∙ ap (waiting_in entries) same ∙ w in
        rw here (or-first _ _ self)
    at more false e None f h = more h
    at more false e (Some x) f h = or-second ((x.offset == r.offset) && (x.id == id)) _ (more h)

-- the reads at places from one on that wait
of-step : (entries : Entries) (places : List (ℕ × ℕ)) (i : ℕ) → i < length places
    → waiting_of entries (drop i places) ≡ option_to_list (waiting_in entries (get_or places i (0, 0)).1) ++ waiting_of entries (drop (i + 1) places)
of-step entries places i l =
    ap (waiting_of entries) (drop-cons places i (0, 0) l)
    ∙ ap (λ n. option_to_list (waiting_in entries (get_or places i (0, 0)).1) ++ waiting_of entries (drop n places)) (sym (add-one i))

pub of-none : (entries : Entries) (places : List (ℕ × ℕ)) (i : ℕ) → i < length places → waiting_in entries (get_or places i (0, 0)).1 ≡ None
    → waiting_of entries (drop i places) ≡ waiting_of entries (drop (i + 1) places)
of-none entries places i l h = of-step entries places i l ∙ ap (λ o. option_to_list o ++ waiting_of entries (drop (i + 1) places)) h

pub of-some : (entries : Entries) (places : List (ℕ × ℕ)) (i : ℕ) (r : ReadRequest) → i < length places → waiting_in entries (get_or places i (0, 0)).1 ≡ Some r
    → waiting_of entries (drop i places) ≡ r ∷ waiting_of entries (drop (i + 1) places)
of-some entries places i r l h = of-step entries places i l ∙ ap (λ o. option_to_list o ++ waiting_of entries (drop (i + 1) places)) h

-- each of them waits
pub of-wait : (entries : Entries) (places : Places) (longest : ℕ) → IsKept entries places longest → (ps : List (ℕ × ℕ))
    → AllByRecursion (IsWaitingRead entries) (waiting_of entries ps)
of-wait entries places longest t [] = tt
of-wait entries places longest t (p ∷ ps) = at (of-wait entries places longest t ps) (waiting_in entries p.1) refl
  where
    at : AllByRecursion (IsWaitingRead entries) (waiting_of entries ps) → (o : Option ReadRequest) → waiting_in entries p.1 ≡ o
        → AllByRecursion (IsWaitingRead entries) (option_to_list o ++ waiting_of entries ps)
    at rest None f = rest
    at rest (Some x) f =
        let id = waiting-id entries places longest t p.1 x f in
        (subst (λ m. waiting_in entries m ≡ Some x) (sym id) f, rest)

-- a waiting read is the only one of its number
pub only-waiting : (entries : Entries) (r s : ReadRequest) → IsWaitingRead entries r → waiting_in entries r.id ≡ Some s → s ≡ r
only-waiting entries r s h k = ap (λ (o : Option ReadRequest). unwrap_or o r) (sym k ∙ h)

-- reads that were put in order, and then among others
module _ (old found first joined new : List ReadRequest) (one : IsPermutation found first) (join : joined ≡ old ++ first) (two : IsPermutation joined new) where
  pub merged-all : (P : ReadRequest → Type 0) → All P old → All P found → All P new
  merged-all P a b = All-permutation P joined new two (subst (All P) (sym join) (All-append P old first a (All-permutation P found first one b)))

  pub merged-held : (k : ℕ × ℕ) → (holds_read old k || holds_read found k) ≡ true → holds_read new k ≡ true
  merged-held k h =
      sym (list_any-IsPermutation (λ r. (r.offset == k.0) && (r.id == k.1)) joined new two) ∙ ap (λ xs. holds_read xs k) join
      ∙ list_any-append (λ r. (r.offset == k.0) && (r.id == k.1)) old first
      ∙ ap (λ b. holds_read old k || b) (sym (list_any-IsPermutation (λ r. (r.offset == k.0) && (r.id == k.1)) found first one)) ∙ h

module _ (entries : Entries) (old new : Places) (longest : ℕ) (fresh : List (ℕ × ℕ)) (found : List ReadRequest) (t : IsKept entries old longest)
    (same : new.is_kept ≡ old.is_kept)
    (kept : (k : ℕ × ℕ) → has_place old.fresh.items k ≡ true → has_place fresh k ≡ true)
    (all : (k : ℕ × ℕ) → has_place old.later.keys k ≡ true → has_place fresh k ≡ true)
    (those : found ≡ waiting_of entries fresh)
    (held : (k : ℕ × ℕ) → (holds_read old.sorted.items k || holds_read found k) ≡ true → holds_read new.sorted.items k ≡ true) where
  found-placed : (offset id : ℕ) → waits_at offset (entry_at entries id) ≡ true → has_place fresh (offset, id) ≡ true → holds_read found (offset, id) ≡ true
  found-placed offset id h there =
      let w = waits-so offset (entry_at entries id) h in
      rw those (subst (λ o. holds_read (waiting_of entries fresh) (o, id) ≡ true) w.offset_is
      (of-holds entries fresh id w.request w.waits (waiting-id entries old longest t id w.request w.waits)
      (subst (λ o. has_place fresh (o, id) ≡ true) (sym w.offset_is) there)))

  ordered-placed : (offset id : ℕ) → waits_at offset (entry_at entries id) ≡ true → Has new (offset, id)
  ordered-placed offset id h k =
      or-first (holds_read new.sorted.items (offset, id) || has_place new.later.keys (offset, id)) (has_place new.fresh.items (offset, id))
      (or-first (holds_read new.sorted.items (offset, id)) (has_place new.later.keys (offset, id))
      (held (offset, id) (at (holds_read old.sorted.items (offset, id)) (has_place old.later.keys (offset, id)) (has_place old.fresh.items (offset, id))
      (all (offset, id)) (kept (offset, id)) (t.placed offset id h (sym same ∙ k)))))
    where
      at : (a b c : Bool) → (b ≡ true → has_place fresh (offset, id) ≡ true) → (c ≡ true → has_place fresh (offset, id) ≡ true) → (a || b || c) ≡ true
          → (a || holds_read found (offset, id)) ≡ true
      at true b c f g x = refl
      at false true c f g x = found-placed offset id h (f refl)
      at false false c f g x = found-placed offset id h (g x)

  found-asked : AreAsked entries found
  found-asked =
      let wait = of-wait entries old longest t fresh in
      let each = All-from_recursion (IsWaitingRead entries) (waiting_of entries fresh) wait in
      subst (AreAsked entries) (sym those) (λ k d l s h. only-waiting entries _ s (each k d l) h)

  pub ordered-table : ((es : Entries) → AreAsked es old.sorted.items → AreAsked es found → AreAsked es new.sorted.items)
      → ((n : ℕ) → AreUpTo n old.sorted.items → AreUpTo n found → AreUpTo n new.sorted.items)
      → IsNonDecreasingBy read_offset new.sorted.items → old.newest ≤ new.newest → AreUpTo new.newest found → IsKept entries new longest
  ordered-table asked upto rise least up = record {
    placed = ordered-placed;
    rise = rise;
    asked = asked entries t.asked found-asked;
    newest = upto new.newest (λ k d l. let low = t.newest k d l in omega (arith, low, least)) up;
    sorted = t.sorted;
    keyed = t.keyed;
    small = t.small;
    long = t.long;
    fits = t.fits;
  }
