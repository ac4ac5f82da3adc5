-- The bytes that a session keeps.
use Rattle.std.proofs.Common.{◌≡◌, ℕ, zero, suc, ◌+◌, ◌-◌, ◌≤◌, Bool, true, false, cond, List, [], ◌∷◌, ◌++◌, length, map, take, drop, Option, Some, None, refl, sym, ap, ◌∙◌, subst, arith, ◌==◌, ◌⊎◌, inl, inr}
use Rattle.std.specs.Prelude.{slice_get, nat_le, option_and_then, ◌&&◌, not, is_none, is_some}
use Rattle.std.specs.List.{AllByRecursion}
use Rattle.std.specs.Option.{option_map, option_map_or}
use Rattle.std.proofs.lemmas.Bool.{eqb-true, eqb-false, leb-true}
use Rattle.vx_base.specs.Buffer.{Buffer, bytes_at}
use Rattle.vx_base.specs.Caches.{Segments, CacheState, OldEntries}
use Rattle.vx_source.specs.Puts.{Gains, IsPut, put_at, puts_of}
use Rattle.vx_source.proofs.PutLemmas.{told-some, put-split}
use Rattle.vx_base.specs.declared.segment.SegmentSpec.{SegmentSpec}
use Rattle.vx_base.specs.Aligned.{align_down}
use Rattle.vx_sched.specs.Io.{request_of as range_of}
use Rattle.vx_sched.specs.Merging.{Merges, GathersIn, is_in_order, first_offset, span_of}
use Rattle.vx_sched.specs.Outcomes.{AreOutcomesOf, HasBytesOf, HaveBytesOf}
use Rattle.vx_sched.specs.Reads.{waiting_at}
use Rattle.vx_sched.specs.Scheduling.{Scheduler, MergesNow, MergesInTurn, MayTake, taken}
use Rattle.vx_sched.specs.Span.{AllWithin}
use Rattle.vx_sched.specs.Span as sched
use Rattle.vx_sched.specs.declared.fault.Outcome.{Outcome}
use Rattle.vx_sched.specs.declared.fault.Outcome.TheVariants as out
use Rattle.vx_sched.specs.declared.request.ReadRequest.{ReadRequest}
use Rattle.vx_sched.proofs.BatchLemmas.{within-range}
use Rattle.vx_source.specs.Blocks.{reported, span_outcome, cut_of, filed_good, filed_bad, filed_by, filed_of, with_filed, file_into, file_reads, after_block}
use Rattle.vx_source.specs.Bytes.{IsSlice, IsSegment, IsHeld, HasBytes, TellsSlices, IsEntry, IsTrueReply, held_of, held_in, held_at}
use Rattle.vx_source.specs.Fits.{World, covered_from, covers, read_request}
use Rattle.vx_source.specs.History.{Moment, is_held}
use Rattle.vx_source.specs.Kept.{Kept, update, ended, one_less, one_more, marked, unused, begun, with_held, with_joined, with_begun, with_registered, with_found, IsCut, IsLook, tail_start, after_look, joinable_at, without_user, without_held, with_poll, standing_of, standing_in, standing_at, segment_at, bytes_in, bytes_of, reply_good, reply_outcome, reply_read, reply_of_standing, reply_standing, poll_reply, after_good, after_outcome, after_read, after_standing, after_found, after_poll, drop_standing, after_drop}
use Rattle.vx_source.specs.Stands.{Words, Stands, HasWords, words, waiting, request_of}
use Rattle.vx_source.specs.Stands.{waits as waits_of}
use Rattle.vx_source.specs.Requests.{Filed, Request, SharedRead, Standing, Held, Reads, Ended}
use Rattle.vx_source.specs.declared.look.Look.{Look}
use Rattle.vx_source.specs.declared.look.Look.TheVariants.{Missing, InTail, InCache, CacheFailed, Nowhere}
use Rattle.vx_source.specs.declared.reply.Reply.TheVariants.{Ready}
use Rattle.vx_source.specs.declared.span.SpanOutcome.{SpanOutcome}
use Rattle.vx_source.specs.declared.span.SpanOutcome.TheVariants.{Good, Bad}
use Rattle.vx_source.specs.declared.tail.Tail.{Tail}
use Rattle.vx_source.proofs.SlotLemmas.{get-push_last, get-push_other, get-update_same, get-update_other, length-update}
use Rattle.vx_source.proofs.WordLemmas.{live-of}
use Rattle.vx_source.proofs.BlockLemmas.{follows}
use Rattle.vx_source.proofs.SpanLemmas.{Follows, with_outcome, follows-taken, asks-self}

-- what was changed has bytes only where it had them
pub fewer-bytes : {X : Type 0} (f : X → X) (view : Option X → Option Buffer) → ((o : Option X) (b : Buffer) → view (option_map f o) ≡ Some b → view o ≡ Some b)
    → (xs : List X) (i n : ℕ) (b : Buffer) → view (slice_get (update f xs i) n) ≡ Some b → view (slice_get xs n) ≡ Some b
fewer-bytes f view less xs i n b e = at (n == i) refl
  where
    at : (c : Bool) → (n == i) ≡ c → view (slice_get xs n) ≡ Some b
    at true is =
        let same = eqb-true n i is in
        ap (λ m. view (slice_get xs m)) same ∙ less (slice_get xs i) b (sym (ap view (get-update_same f xs i)) ∙ ap (λ m. view (slice_get (update f xs i) m)) (sym same) ∙ e)
    at false is = sym (ap view (get-update_other f xs i n (eqb-false n i is))) ∙ e

ended-held : (o : Option Request) (b : Buffer) → held_in (option_map ended o) ≡ Some b → held_in o ≡ Some b
ended-held None b e = e
ended-held (Some q) b e = cc

less-bytes : (o : Option SharedRead) (b : Buffer) → bytes_in (option_map one_less o) ≡ Some b → bytes_in o ≡ Some b
less-bytes None b e = e
less-bytes (Some x) b e = at (nat_le x.users 1) e
  where
    at : (c : Bool) → cond c None x.bytes ≡ Some b → x.bytes ≡ Some b
    at true e = cc
    at false e = e

marked-bytes : (o : Option SharedRead) (b : Buffer) → bytes_in (option_map marked o) ≡ Some b → bytes_in o ≡ Some b
marked-bytes None b e = e
marked-bytes (Some x) b e = e

more-bytes : (o : Option SharedRead) (b : Buffer) → bytes_in (option_map one_more o) ≡ Some b → bytes_in o ≡ Some b
more-bytes None b e = e
more-bytes (Some x) b e = e

ended-segment : (o : Option Request) → option_map (λ (q : Request). q.segment) (option_map ended o) ≡ option_map (λ (q : Request). q.segment) o
ended-segment None = refl
ended-segment (Some q) = refl

segment-ended : (requests : List Request) (i n : ℕ) → segment_at (update ended requests i) n ≡ segment_at requests n
segment-ended requests i n = at (n == i) refl
  where
    at : (c : Bool) → (n == i) ≡ c → segment_at (update ended requests i) n ≡ segment_at requests n
    at true is =
        let same = eqb-true n i is in
        ap (segment_at (update ended requests i)) same ∙ ap (option_map (λ (q : Request). q.segment)) (get-update_same ended requests i)
        ∙ ended-segment (slice_get requests i) ∙ ap (segment_at requests) (sym same)
    at false is = ap (option_map (λ (q : Request). q.segment)) (get-update_other ended requests i n (eqb-false n i is))

-- a segment has its bytes
pub segment-slice : (file : List ℕ) (table : List SegmentSpec) (s : ℕ) (b : Buffer) → IsSegment file table s b → IsSlice file table s b
segment-slice file table s b i spec found = ap (λ (x : Buffer). x.bytes) (i spec found)

held-standing : (x : Standing) (b : Buffer) → held_of x ≡ Some b → standing_of x ≡ Some None
held-standing (Held c) b e = refl
held-standing (Reads r) b e = cc
held-standing Ended b e = cc

held-stands : (o : Option Request) (b : Buffer) → held_in o ≡ Some b → standing_in o ≡ Some None
held-stands None b e = cc
held-stands (Some q) b e = held-standing q.standing b e

-- what is held though not given by a cache is covered
covered-held : (h c : Bool) → h ≡ true → (h && not c) ≡ false → c ≡ true
covered-held true true e f = refl
covered-held true false e f = let clash : true ≡ false = f in cc
covered-held false c e f = let clash : false ≡ true = e in cc

module _ (file : List ℕ) (k : Kept) (h : HasBytes file k) where
  -- ---- polls and drops
  bytes-held : (n : ℕ) → HasBytes file (without_held k n)
  bytes-held n = record {
    tail = h.tail;
    held = λ m s b e is. h.held m s b (fewer-bytes ended held_in ended-held k.requests n m b e) (sym (segment-ended k.requests n m) ∙ is);
    reads = λ r s b e is. h.reads r s b e (sym (segment-ended k.requests n r) ∙ is);
  }

  bytes-user : (n r : ℕ) → HasBytes file (without_user k n r)
  bytes-user n r = record {
    tail = h.tail;
    held = λ m s b e is. h.held m s b (fewer-bytes ended held_in ended-held k.requests n m b e) (sym (segment-ended k.requests n m) ∙ is);
    reads = λ q s b e is. h.reads q s b (fewer-bytes one_less bytes_in less-bytes k.reads r q b e) (sym (segment-ended k.requests n q) ∙ is);
  }

  bytes-poll : (r : ℕ) (c : Bool) → HasBytes file (with_poll k r c)
  bytes-poll r true = h
  bytes-poll r false = record { tail = h.tail; held = h.held; reads = λ q s b e. h.reads q s b (fewer-bytes marked bytes_in marked-bytes k.reads r q b e) }

  bytes-good : (n r : ℕ) (o : Option Buffer) → HasBytes file (after_good k n r o)
  bytes-good n r None = h
  bytes-good n r (Some b) = bytes-user n r

  bytes-outcome : (n r : ℕ) (x : SharedRead) (o : Option SpanOutcome) → HasBytes file (after_outcome k n r x o)
  bytes-outcome n r x None = bytes-poll r x.polled
  bytes-outcome n r x (Some Good) = bytes-good n r x.bytes
  bytes-outcome n r x (Some (Bad f)) = bytes-user n r

  bytes-read : (n r : ℕ) (o : Option SharedRead) → HasBytes file (after_read k n r o)
  bytes-read n r None = h
  bytes-read n r (Some x) = bytes-outcome n r x x.outcome

  bytes-standing : (n : ℕ) (s : Standing) → HasBytes file (after_standing k n s)
  bytes-standing n (Held b) = bytes-held n
  bytes-standing n (Reads r) = bytes-read n r (slice_get k.reads r)
  bytes-standing n Ended = h

  bytes-found : (n : ℕ) (o : Option Request) → HasBytes file (after_found k n o)
  bytes-found n None = h
  bytes-found n (Some q) = bytes-standing n q.standing

  pub polls-bytes : (n : ℕ) → HasBytes file (after_poll k n)
  polls-bytes n = bytes-found n (slice_get k.requests n)

  bytes-dropped : (n : ℕ) (o : Option (Option ℕ)) → HasBytes file (drop_standing k n o)
  bytes-dropped n None = h
  bytes-dropped n (Some None) = bytes-held n
  bytes-dropped n (Some (Some r)) = bytes-user n r

  pub drops-bytes : (n : ℕ) → HasBytes file (after_drop k n)
  drops-bytes n = bytes-dropped n (standing_at k.requests n)

  -- ---- what is ready
  module _ (w : World) (past : List Moment) (st : Stands w past k) (n : ℕ) where
    slice-along : (s : ℕ) (b : Buffer) → IsSlice file k.table s b → IsSlice file w.table s b
    slice-along s b i = subst (λ t. IsSlice file t s b) st.table i

    segment-along : (s : ℕ) (b : Buffer) → IsSegment file k.table s b → IsSegment file w.table s b
    segment-along s b i = subst (λ t. IsSegment file t s b) st.table i

    covers-is : (s : ℕ) → option_map_or (covered_from (tail_start k.tail)) (slice_get k.table s) false ≡ covers w s
    covers-is s = ap (λ t. option_map_or (covered_from t) (slice_get k.table s) false) st.start ∙ ap (λ ts. option_map_or (covered_from w.start) (slice_get ts s) false) st.table

    ready-held : (o : Option Request) → slice_get k.requests n ≡ o → (b : Buffer) → held_in o ≡ Some b → IsTrueReply file w past n (Ready b)
    ready-held o e b is = λ s of.
        let there = h.held n s b (ap held_in e ∙ is) (st.segment n ∙ of) in
        let stands = ap standing_in e ∙ held-stands o b is in
        let held : is_held past n ≡ true = st.known.held n s of ∙ ap is_none (live-of w (words w past) k st n None stands).1 in
        (slice-along s b there.slice, λ free. segment-along s b (there.own (covers-is s ∙ covered-held (is_held past n) (covers w s) held free)))

    ready-good : (r : ℕ) → standing_at k.requests n ≡ Some (Some r) → (x : SharedRead) → slice_get k.reads r ≡ Some x → (o : Option Buffer) → x.bytes ≡ o → IsTrueReply file w past n (reply_good o)
    ready-good r stands x e None is = tt
    ready-good r stands x e (Some b) is = λ s of.
        let read = (live-of w (words w past) k st n (Some r) stands).1 in
        let there = h.reads r s b (ap bytes_in e ∙ is) (st.segment r ∙ st.known.shared n r s read of) in
        (slice-along s b (segment-slice file k.table s b there), λ free. segment-along s b there)

    ready-outcome : (r : ℕ) → standing_at k.requests n ≡ Some (Some r) → (x : SharedRead) → slice_get k.reads r ≡ Some x → (o : Option SpanOutcome) → IsTrueReply file w past n (reply_outcome o x.bytes)
    ready-outcome r stands x e None = tt
    ready-outcome r stands x e (Some Good) = ready-good r stands x e x.bytes refl
    ready-outcome r stands x e (Some (Bad f)) = tt

    ready-read : (r : ℕ) → standing_at k.requests n ≡ Some (Some r) → (o : Option SharedRead) → slice_get k.reads r ≡ o → IsTrueReply file w past n (reply_read o)
    ready-read r stands None e = tt
    ready-read r stands (Some x) e = ready-outcome r stands x e x.outcome

    ready-standing : (q : Request) → slice_get k.requests n ≡ Some q → (s : Standing) → q.standing ≡ s → IsTrueReply file w past n (reply_of_standing k.reads s)
    ready-standing q e (Held b) is = ready-held (Some q) e b (ap held_of is)
    ready-standing q e (Reads r) is = ready-read r (ap standing_in e ∙ ap standing_of is) (slice_get k.reads r) refl
    ready-standing q e Ended is = tt

    ready-found : (o : Option Request) → slice_get k.requests n ≡ o → IsTrueReply file w past n (reply_standing k.reads o)
    ready-found None e = tt
    ready-found (Some q) e = ready-standing q e q.standing refl

    pub ready-true : IsTrueReply file w past n (poll_reply k n)
    ready-true = ready-found (slice_get k.requests n) refl

  -- ---- registers
  module _ (places : length k.reads ≡ length k.requests) (s : ℕ) where
    push-held : (x : Standing) (n t : ℕ) (b : Buffer) → ((b : Buffer) → held_of x ≡ Some b → IsHeld file k.table k.tail s b)
        → held_at (k.requests ++ record { segment = s; standing = x } ∷ []) n ≡ Some b → segment_at (k.requests ++ record { segment = s; standing = x } ∷ []) n ≡ Some t → IsHeld file k.table k.tail t b
    push-held x n t b own e is = at (n == length k.requests) refl
      where
        at : (c : Bool) → (n == length k.requests) ≡ c → IsHeld file k.table k.tail t b
        at true same =
            let here = eqb-true n (length k.requests) same in
            let last = get-push_last k.requests (record { segment = s; standing = x }) in
            let mine : held_of x ≡ Some b = sym (ap held_in last) ∙ ap (held_at (k.requests ++ record { segment = s; standing = x } ∷ [])) (sym here) ∙ e in
            let segment : Some s ≡ Some t = sym (ap (option_map (λ (q : Request). q.segment)) last) ∙ ap (segment_at (k.requests ++ record { segment = s; standing = x } ∷ [])) (sym here) ∙ is in
            let same_segment : s ≡ t = cc in
            subst (λ m. IsHeld file k.table k.tail m b) same_segment (own b mine)
        at false other =
            let there = get-push_other k.requests (record { segment = s; standing = x }) n (eqb-false n (length k.requests) other) in
            h.held n t b (sym (ap held_in there) ∙ e) (sym (ap (option_map (λ (q : Request). q.segment)) there) ∙ is)

    push-reads : (reads : List SharedRead) (y : SharedRead) (x : Standing) (r t : ℕ) (b : Buffer) → length reads ≡ length k.requests → y.bytes ≡ None
        → ((q : ℕ) (b : Buffer) → bytes_of reads q ≡ Some b → bytes_of k.reads q ≡ Some b)
        → bytes_of (reads ++ y ∷ []) r ≡ Some b → segment_at (k.requests ++ record { segment = s; standing = x } ∷ []) r ≡ Some t → IsSegment file k.table t b
    push-reads reads y x r t b same none less e is = at (r == length k.requests) refl
      where
        at : (c : Bool) → (r == length k.requests) ≡ c → IsSegment file k.table t b
        at true here =
            let last = eqb-true r (length k.requests) here ∙ sym same in
            let clash : None ≡ Some b = sym none ∙ sym (ap bytes_in (get-push_last reads y)) ∙ ap (bytes_of (reads ++ y ∷ [])) (sym last) ∙ e in
            cc
        at false other =
            let ne = eqb-false r (length k.requests) other in
            let there = get-push_other k.requests (record { segment = s; standing = x }) r ne in
            let old = get-push_other reads y r (λ q. ne (q ∙ same)) in
            h.reads r t b (less r b (sym (ap bytes_in old) ∙ e)) (sym (ap (option_map (λ (q : Request). q.segment)) there) ∙ is)

    hold-bytes : (buffer : Buffer) → IsHeld file k.table k.tail s buffer → HasBytes file (with_held k s buffer)
    hold-bytes buffer own = record {
      tail = h.tail;
      held = λ n t b e is. push-held (Held buffer) n t b (λ c same. let mine : buffer ≡ c = cc in subst (IsHeld file k.table k.tail s) mine own) e is;
      reads = λ r t b e is. push-reads k.reads unused (Held buffer) r t b places refl (λ q c f. f) e is;
    }

    join-bytes : (r : ℕ) → HasBytes file (with_joined k s r)
    join-bytes r = record {
      tail = h.tail;
      held = λ n t b e is. push-held (Reads r) n t b (λ c same. cc) e is;
      reads = λ q t b e is. push-reads (update one_more k.reads r) unused (Reads r) q t b (length-update one_more k.reads r ∙ places) refl
          (λ m c f. fewer-bytes one_more bytes_in more-bytes k.reads r m c f) e is;
    }

    begin-bytes : (spec : SegmentSpec) → HasBytes file (with_begun k s spec)
    begin-bytes spec = record {
      tail = h.tail;
      held = λ n t b e is. push-held (Reads (length k.requests)) n t b (λ c same. cc) e is;
      reads = λ q t b e is. push-reads k.reads begun (Reads (length k.requests)) q t b places refl (λ m c f. f) e is;
    }

    registered-bytes : (spec : SegmentSpec) (o : Option ℕ) → HasBytes file (with_registered k s spec o)
    registered-bytes spec None = begin-bytes spec
    registered-bytes spec (Some r) = join-bytes r

    found-bytes : (o : Option SegmentSpec) → HasBytes file (with_found k s o)
    found-bytes None = h
    found-bytes (Some spec) = registered-bytes spec (joinable_at k s)

    -- a register, where what was found is the segment's bytes
    pub registers-bytes : (look : Look) → ((b : Buffer) → look ≡ InTail b → IsHeld file k.table k.tail s b) → ((b : Buffer) → look ≡ InCache b → IsHeld file k.table k.tail s b) → HasBytes file (after_look k s look)
    registers-bytes Missing tail cache = h
    registers-bytes (InTail b) tail cache = hold-bytes b (tail b refl)
    registers-bytes (InCache b) tail cache = hold-bytes b (cache b refl)
    registers-bytes CacheFailed tail cache = h
    registers-bytes Nowhere tail cache = found-bytes (slice_get k.table s)

-- ---- cuts

take-take : {X : Type 0} (n m : ℕ) (xs : List X) → n ≤ m → take n (take m xs) ≡ take n xs
take-take zero m xs h = refl
take-take (suc n) zero xs h = absurd (omega arith)
take-take (suc n) (suc m) [] h = refl
take-take (suc n) (suc m) (x ∷ xs) h = ap (λ ys. x ∷ ys) (take-take n m xs (omega arith))

drop-take : {X : Type 0} (a m : ℕ) (xs : List X) → drop a (take m xs) ≡ take (m - a) (drop a xs)
drop-take zero m xs = let e : m - 0 ≡ m = omega arith in ap (λ n. take n xs) (sym e)
drop-take {X = X} (suc a) zero [] = let e : 0 - suc a ≡ 0 = omega arith in ap {B = List X} (λ n. take n []) (sym e)
drop-take (suc a) zero (x ∷ xs) = let e : 0 - suc a ≡ 0 = omega arith in ap (λ n. take n (drop a xs)) (sym e)
drop-take (suc a) (suc m) [] = take-nil (suc m - suc a)
  where
    take-nil : {X : Type 0} (n : ℕ) → ◌≡◌ {A = List X} [] (take n [])
    take-nil zero = refl
    take-nil (suc n) = refl
drop-take (suc a) (suc m) (x ∷ xs) = let e : suc m - suc a ≡ m - a = omega arith in drop-take a m xs ∙ ap (λ n. take n (drop a xs)) (sym e)

drop-drop : {X : Type 0} (a b : ℕ) (xs : List X) → drop a (drop b xs) ≡ drop (a + b) xs
drop-drop a zero xs = let e : a + 0 ≡ a = omega arith in ap (λ n. drop n xs) (sym e)
drop-drop a (suc b) [] = drop-nil a ∙ sym (drop-nil (a + suc b))
  where
    drop-nil : {X : Type 0} (n : ℕ) → ◌≡◌ {A = List X} (drop n []) []
    drop-nil zero = refl
    drop-nil (suc n) = refl
drop-drop a (suc b) (x ∷ xs) = let e : a + suc b ≡ suc (a + b) = omega arith in drop-drop a b xs ∙ ap (λ n. drop n (x ∷ xs)) (sym e)

-- a part of a part
pub part-part : (file : List ℕ) (start size offset length : ℕ) → start ≤ offset → offset + length ≤ start + size → bytes_at (bytes_at file start size) (offset - start) length ≡ bytes_at file offset length
part-part file start size offset length from upto =
    let sum : offset - start + start ≡ offset = omega (arith, from) in
    ap (take length) (drop-take (offset - start) size (drop start file)) ∙ take-take length (size - (offset - start)) (drop (offset - start) (drop start file)) (omega (arith, from, upto))
    ∙ ap (take length) (drop-drop (offset - start) start file ∙ ap (λ n. drop n file) sum)

-- a part of the end
pub part-end : (file : List ℕ) (start offset length : ℕ) → start ≤ offset → bytes_at (drop start file) (offset - start) length ≡ bytes_at file offset length
part-end file start offset length from =
    let sum : offset - start + start ≡ offset = omega (arith, from) in
    ap (take length) (drop-drop (offset - start) start file ∙ ap (λ n. drop n file) sum)

-- ---- blocks

-- what a span gives a read is its segment
abbrev pub IsTrueFiled : List ℕ → Kept → Filed → Type 0
IsTrueFiled file k f = (s : ℕ) (b : Buffer) → f.bytes ≡ Some b → segment_at k.requests f.read ≡ Some s → IsSegment file k.table s b

abbrev pub AllTrue : List ℕ → Kept → List Filed → Type 0
AllTrue file k [] = Unit {0}
AllTrue file k (f ∷ rest) = IsTrueFiled file k f × AllTrue file k rest

module _ (file : List ℕ) (k : Kept) where
  true-append : (xs ys : List Filed) → AllTrue file k xs → AllTrue file k ys → AllTrue file k (xs ++ ys)
  true-append [] ys a b = b
  true-append (f ∷ xs) ys a b = (a.0, true-append xs ys a.1 b)

  into-bytes : (f : Filed) (x : SharedRead) (o : Option SpanOutcome) (b : Buffer) → (file_into f x o).bytes ≡ Some b → (x.bytes ≡ Some b) ⊎ (f.bytes ≡ Some b)
  into-bytes f x None b e = inr e
  into-bytes f x (Some y) b e = inl e

  filed-in : (f : Filed) (o : Option SharedRead) (b : Buffer) → bytes_in (option_map (with_filed f) o) ≡ Some b → (bytes_in o ≡ Some b) ⊎ (f.bytes ≡ Some b)
  filed-in f None b e = inl e
  filed-in f (Some x) b e = into-bytes f x x.outcome b e

  one-true : (f : Filed) (reads : List SharedRead) → IsTrueFiled file k f → ((r s : ℕ) (b : Buffer) → bytes_of reads r ≡ Some b → segment_at k.requests r ≡ Some s → IsSegment file k.table s b)
      → (r s : ℕ) (b : Buffer) → bytes_of (update (with_filed f) reads f.read) r ≡ Some b → segment_at k.requests r ≡ Some s → IsSegment file k.table s b
  one-true f reads own old r s b e is = at (r == f.read) refl
    where
      at : (c : Bool) → (r == f.read) ≡ c → IsSegment file k.table s b
      at true same =
          let here = eqb-true r f.read same in
          let now : bytes_in (option_map (with_filed f) (slice_get reads f.read)) ≡ Some b =
          sym (ap bytes_in (get-update_same (with_filed f) reads f.read)) ∙ ap (bytes_of (update (with_filed f) reads f.read)) (sym here) ∙ e in
          let segment : segment_at k.requests f.read ≡ Some s = ap (segment_at k.requests) (sym here) ∙ is in
          elim (filed-in f (slice_get reads f.read) b now) [ inl before ↦ old f.read s b before segment | inr filed ↦ own s b filed segment ]
      at false other = old r s b (sym (ap bytes_in (get-update_other (with_filed f) reads f.read r (eqb-false r f.read other))) ∙ e) is

  files-true : (fs : List Filed) (reads : List SharedRead) → AllTrue file k fs → ((r s : ℕ) (b : Buffer) → bytes_of reads r ≡ Some b → segment_at k.requests r ≡ Some s → IsSegment file k.table s b)
      → (r s : ℕ) (b : Buffer) → bytes_of (file_reads reads fs) r ≡ Some b → segment_at k.requests r ≡ Some s → IsSegment file k.table s b
  files-true [] reads all old = old
  files-true (f ∷ fs) reads all old = files-true fs (update (with_filed f) reads f.read) all.1 (one-true f reads all.0 old)

-- the reads of a span lie in it
pub merges-within : (distance limit : Option ℕ) (alignment next : ℕ) (waiting : ℕ → Option ReadRequest) (core : sched.Span)
    → Merges distance limit alignment waiting next core → AllWithin core.start core.end core.reads
merges-within distance limit alignment next waiting core m =
    subst (λ (c : sched.Span). AllWithin c.start c.end core.reads) (sym m.range) (at distance core.reads m.order m.gathers)
  where
    at : (d : Option ℕ) (rs : List ReadRequest) → is_in_order rs ≡ true → GathersIn d limit alignment waiting rs → AllWithin (span_of d alignment rs).start (span_of d alignment rs).end rs
    at None [] o g = tt
    at None (r ∷ []) o g = (record { from = omega arith; upto = omega arith }, tt)
    at None (r ∷ s ∷ rs) o g = let h : suc (suc (length rs)) ≡ 1 = g in absurd (omega (arith, h))
    at (Some d) rs o g = within-range (align_down alignment (first_offset rs)) rs o (down (first_offset rs))
      where
        down : (x : ℕ) → align_down alignment x ≤ x
        down x = omega arith

module _ (file : List ℕ) (w : World) (k : Kept) where
  asks-spec : (r : ReadRequest) (o : Option SegmentSpec) (spec : SegmentSpec) → option_map (read_request r.id) o ≡ Some r → o ≡ Some spec → r ≡ read_request r.id spec
  asks-spec r None spec e is = cc
  asks-spec r (Some x) spec e is =
      let same : x ≡ spec = cc in
      let made : read_request r.id x ≡ r = cc in
      sym made ∙ ap (read_request r.id) same

  module _ (v : Words) (same : (n s : ℕ) → segment_at k.requests n ≡ Some s → v.segment n ≡ Some s) (tables : k.table ≡ w.table) where
    span-true : (s : Scheduler) (core : sched.Span) (buffer : Buffer) → ((q : ℕ) → waiting_at s.reads q ≡ waiting w v q)
        → buffer.bytes ≡ bytes_at file core.start (core.end - core.start) → (rs : List ReadRequest) → AllByRecursion (λ r. waiting_at s.reads r.id ≡ Some r) rs → AllWithin core.start core.end rs
        → AllTrue file k (map (filed_good core buffer) rs)
    span-true s core buffer waits whole [] h within = tt
    span-true s core buffer waits whole (r ∷ rs) h within = (
      (λ t b is segment spec found.
          let asked : request_of w v r.id ≡ Some r = asks-self (waits_of v r.id) (request_of w v r.id) r (sym (waits r.id) ∙ h.0) in
          let there : option_map (read_request r.id) (slice_get w.table t) ≡ Some r = sym (ap (λ o. option_map (read_request r.id) (option_and_then (slice_get w.table) o)) (same r.id t segment)) ∙ asked in
          let place = asks-spec r (slice_get w.table t) spec there (ap (λ ts. slice_get ts t) (sym tables) ∙ found) in
          let mine : cut_of core buffer r ≡ b = cc in
          let from = within.0.from in
          let upto = within.0.upto in
          let bytes : bytes_at buffer.bytes (r.offset - core.start) r.length ≡ bytes_at file r.offset r.length =
          ap (λ bs. bytes_at bs (r.offset - core.start) r.length) whole ∙ part-part file core.start (core.end - core.start) r.offset r.length from (omega (arith, from, upto)) in
          sym mine ∙ ap (λ bs. let x : Buffer = record { bytes = bs; alignment = r.alignment } in x) bytes
          ∙ ap (λ (q : ReadRequest). let x : Buffer = record { bytes = bytes_at file q.offset q.length; alignment = q.alignment } in x) place),
      span-true s core buffer waits whole rs h.1 within.1,
    )

    bad-true : (o : SpanOutcome) (rs : List ReadRequest) → AllTrue file k (map (filed_bad o) rs)
    bad-true o [] = tt
    bad-true o (r ∷ rs) = ((λ t b is segment. cc), bad-true o rs)

    by-true : (s : Scheduler) (core : sched.Span) (o : Outcome) → ((q : ℕ) → waiting_at s.reads q ≡ waiting w v q) → MergesNow s core → HasBytesOf file (range_of core) o → AllTrue file k (filed_by core o)
    by-true s core (out.Bytes buffer) waits m h = span-true s core buffer waits h core.reads m.merges.waits (merges-within s.distance s.limit s.alignment m.next (waiting_at s.reads) core m.merges)
    by-true s core (out.Fault fault) waits m h = bad-true (Bad fault) core.reads
    by-true s core out.NoMemory waits m h = tt

  all-true : (cores : List sched.Span) (outcomes : List Outcome) (v : Words) (s : Scheduler) → ((n t : ℕ) → segment_at k.requests n ≡ Some t → v.segment n ≡ Some t) → k.table ≡ w.table
      → Follows w v s → MergesInTurn s cores → AreOutcomesOf (map range_of cores) outcomes → HaveBytesOf file (map range_of cores) outcomes → AllTrue file k (filed_of cores outcomes)
  all-true [] outcomes v s same tables f m places h = tt
  all-true (core ∷ rest) [] v s same tables f m places h = absurd places
  all-true (core ∷ rest) (o ∷ more) v s same tables f m places h =
      true-append file k (filed_by core o) (filed_of rest more) (by-true v same tables s core o f.waiting m.0 h.0)
      (all-true rest more (with_outcome v (reported (span_outcome o) core)) (taken s core) same tables (follows-taken w v s core (span_outcome o) f m.0) m.1 places.1 h.1)

-- a block from a reader of the file
pub block-bytes : (file : List ℕ) (w : World) (v : Words) (k : Kept) (cores : List sched.Span) (outcomes : List Outcome) → HasWords w v k → MayTake k.core cores
    → AreOutcomesOf (map range_of cores) outcomes → HaveBytesOf file (map range_of cores) outcomes → HasBytes file k → HasBytes file (after_block k cores outcomes)
block-bytes file w v k cores outcomes st may places bytes h = record {
  tail = h.tail;
  held = h.held;
  reads = files-true file k (filed_of cores outcomes) k.reads
      (all-true file w k cores outcomes v k.core (λ n t e. sym (st.segment n) ∙ e) st.table (follows w v k cores outcomes st may places) may.merge places bytes) h.reads;
}

-- ---- what a register finds

cut-segment : (file : List ℕ) (k : Kept) (s : ℕ) (b : Buffer) → HasBytes file k → IsLook k s (InTail b) → IsSegment file k.table s b
cut-segment file k s b h l spec found = at k.tail refl (subst (λ o. option_map_or (covered_from (tail_start k.tail)) o false ≡ true) found l.1) (l.2 spec found)
  where
    at : (t : Option Tail) → k.tail ≡ t → covered_from (tail_start t) spec ≡ true → IsCut t spec b → b ≡ record { bytes = bytes_at file spec.offset spec.length; alignment = spec.alignment }
    at None e c cut = absurd cut
    at (Some t) e c cut =
        cut ∙ ap (λ bs. let x : Buffer = record { bytes = bs; alignment = spec.alignment } in x)
        (ap (λ bs. bytes_at bs (spec.offset - t.start) spec.length) (h.tail t e) ∙ part-end file t.start spec.offset spec.length (leb-true t.start spec.offset c))

cut-held : (file : List ℕ) (k : Kept) (s : ℕ) (b : Buffer) → HasBytes file k → IsLook k s (InTail b) → IsHeld file k.table k.tail s b
cut-held file k s b h l =
    let own = cut-segment file k s b h l in
    record { slice = segment-slice file k.table s b own; own = λ _. own }

cached-held : (file : List ℕ) (k : Kept) (s : ℕ) (b : Buffer) → IsLook k s (InCache b) → IsSlice file k.table s b → IsHeld file k.table k.tail s b
cached-held file k s b l slice = record { slice = slice; own = λ c. absurd (let clash : true ≡ false = sym c ∙ l.1 in cc) }

-- a register keeps the bytes of the file
pub looks-bytes : (file : List ℕ) (k : Kept) (s : ℕ) (cache : CacheState) (look : Look) → HasBytes file k → length k.reads ≡ length k.requests → IsLook k s look → IsEntry s cache look
    → TellsSlices file k.table cache → HasBytes file (after_look k s look)
looks-bytes file k s cache look h places is entry slices =
    registers-bytes file k h places s look
    (λ b e. cut-held file k s b h (subst (IsLook k s) e is))
    (λ b e. cached-held file k s b (subst (IsLook k s) e is) (slices.slices s b (subst (IsEntry s cache) e entry slices.entries slices.told)))

-- ---- what a cache tells

-- a cache that lost entries at most still tells slices
pub old-slices : (file : List ℕ) (table : List SegmentSpec) (before now : CacheState) → OldEntries before.entries now.entries → is_some now.entries ≡ is_some before.entries
    → TellsSlices file table before → TellsSlices file table now
old-slices file table before now from tells t =
    let now_told = told-some before.entries now.entries t.entries (sym tells) t.told in
    record { entries = now_told.0; told = now_told.1; slices = λ s b e. t.slices s b (from t.entries now_told.0 s b t.told now_told.1 e) }

put-slice : (file : List ℕ) (table : List SegmentSpec) (t : Option ℕ) (o : Option Buffer) → ((s : ℕ) (b : Buffer) → o ≡ Some b → t ≡ Some s → IsSegment file table s b)
    → (q : ℕ) (b : Buffer) → IsPut (put_at t o) q b → IsSlice file table q b
put-slice file table None o own q b h = absurd h
put-slice file table (Some s) None own q b h = absurd h
put-slice file table (Some s) (Some c) own q b (inl h) = rw (h.0, h.1) (segment-slice file table s c (own s c refl refl))
put-slice file table (Some s) (Some c) own q b (inr h) = absurd h

puts-slices : (file : List ℕ) (k : Kept) (fs : List Filed) → AllTrue file k fs → (q : ℕ) (b : Buffer) → IsPut (puts_of k.requests fs) q b → IsSlice file k.table q b
puts-slices file k [] all q b h = absurd h
puts-slices file k (f ∷ fs) all q b h =
    elim (put-split (put_at (segment_at k.requests f.read) f.bytes) (puts_of k.requests fs) q b h) [
      | inl one ↦ put-slice file k.table (segment_at k.requests f.read) f.bytes (λ s c e is. all.0 s c e is) q b one
      | inr more ↦ puts-slices file k fs all.1 q b more
    ]

-- a cache that gained slices still tells slices
pub gained-slices : (file : List ℕ) (table : List SegmentSpec) (puts : Segments) (before now : CacheState) → Gains puts before now → ((q : ℕ) (b : Buffer) → IsPut puts q b → IsSlice file table q b)
    → TellsSlices file table before → TellsSlices file table now
gained-slices file table puts before now gains own t =
    let now_told = told-some before.entries now.entries t.entries (sym gains.tells) t.told in
    record {
      entries = now_told.0;
      told = now_told.1;
      slices = λ s b e. elim (gains.from t.entries now_told.0 s b t.told now_told.1 e) [ inl old ↦ t.slices s b old | inr put ↦ own s b put ];
    }

-- a cache that gained the puts of a block still tells slices
pub block-slices : (file : List ℕ) (w : World) (v : Words) (k : Kept) (cores : List sched.Span) (outcomes : List Outcome) (before now : CacheState) → HasWords w v k → MayTake k.core cores
    → AreOutcomesOf (map range_of cores) outcomes → HaveBytesOf file (map range_of cores) outcomes → Gains (puts_of k.requests (filed_of cores outcomes)) before now
    → TellsSlices file w.table before → TellsSlices file w.table now
block-slices file w v k cores outcomes before now st may places bytes gains t =
    let all = all-true file w k cores outcomes v k.core (λ n s e. sym (st.segment n) ∙ e) st.table (follows w v k cores outcomes st may places) may.merge places bytes in
    gained-slices file w.table (puts_of k.requests (filed_of cores outcomes)) before now gains
    (λ q b put. subst (λ ts. IsSlice file ts q b) st.table (puts-slices file k (filed_of cores outcomes) all q b put)) t
