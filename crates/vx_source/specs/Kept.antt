-- What a session keeps, and what its steps do with it.
use Rattle.std.specs.Prelude.{◌≡◌, ℕ, ◌+◌, ◌-◌, ◌^◌, ◌<◌, ◌≤◌, nat_le, nat_lt, min, ◌&&◌, Bool, true, false, not, List, [], ◌∷◌, ◌++◌, length, Option, Some, None, slice_get, slice_set, option_and_then, if◌then◌else◌}
use Rattle.std.specs.Option.{option_map, option_map_or}
use Rattle.vx_base.specs.Buffer.{Buffer, bytes_at}
use Rattle.vx_base.specs.Counts.{last_count}
use Rattle.vx_base.specs.declared.segment.SegmentSpec.{SegmentSpec}
use Rattle.vx_sched.specs.Reads.{ranges_in_flight}
use Rattle.vx_sched.specs.Scheduling.{Scheduler, SameSettings, requested, polled, dropped}
use Rattle.vx_sched.specs.declared.metrics.RequestMetrics.{RequestMetrics}
use Rattle.vx_source.specs.History.{Got, gave, failing, neither, is_bad}
use Rattle.vx_source.specs.Fits.{covered_from, read_request}
use Rattle.vx_source.specs.declared.look.Look.{Look}
use Rattle.vx_source.specs.declared.look.Look.TheVariants.{Missing, InTail, InCache, CacheFailed, Nowhere}
use Rattle.vx_source.specs.declared.reply.FailCause.TheVariants.{Fault, Cache}
use Rattle.vx_source.specs.declared.reply.Reply.{Reply}
use Rattle.vx_source.specs.declared.reply.Reply.TheVariants.{Registered, MissingSegment, Ready, Pending, Failed, Dropped, NotLive}
use Rattle.vx_source.specs.Requests.{Request, Standing, Held, Reads, Ended, SharedRead}
use Rattle.vx_source.specs.declared.span.SpanOutcome.{SpanOutcome}
use Rattle.vx_source.specs.declared.span.SpanOutcome.TheVariants.{Good, Bad}
use Rattle.vx_source.specs.declared.tail.Tail.{Tail}

-- the segment table, the tail, a scheduler without reads, which has the settings, the scheduler, the requests by
-- number, the reads by number, the newest read of each segment, and the counts. A number that began no read has a place among the reads that is not used
pub record Kept : Type 0 where
  pub table : List SegmentSpec
  pub tail : Option Tail
  pub idle : Scheduler
  pub core : Scheduler
  pub requests : List Request
  pub reads : List SharedRead
  pub latest : List (Option ℕ)
  pub metrics : RequestMetrics

-- the element at a place, if there is one, is changed
abbrev pub change_found : {X : Type 0} → (X → X) → List X → ℕ → Option X → List X
change_found f xs i None = xs
change_found f xs i (Some x) = slice_set xs i (f x)

abbrev pub update : {X : Type 0} → (X → X) → List X → ℕ → List X
update f xs i = change_found f xs i (slice_get xs i)

-- each covered segment lies in the tail
abbrev pub LiesIn : Option Tail → SegmentSpec → Type 0
LiesIn None s = Unit {0}
LiesIn (Some t) s = t.start ≤ s.offset → s.offset + s.length ≤ t.start + length t.bytes.bytes

-- the bytes of a segment, cut from the tail, with the segment's alignment
abbrev pub IsCut : Option Tail → SegmentSpec → Buffer → Type 0
IsCut None s buffer = ⊥
IsCut (Some t) s buffer = buffer ≡ record { bytes = bytes_at t.bytes.bytes (s.offset - t.start) s.length; alignment = s.alignment }

-- what always holds of what a session keeps: nothing is in flight, numbers are given in order, each segment ends in
-- range and lies in the tail where it begins there, and each number and each segment has its places
pub record IsKept (table : List SegmentSpec) (tail : Option Tail) (idle core : Scheduler) (requests reads segments : ℕ) : Type 0 where
  pub rests : ranges_in_flight core.reads ≡ 0
  pub next : core.next ≤ requests
  pub places : reads ≡ requests
  pub segments_place : segments ≡ length table
  pub ends : (n : ℕ) (s : SegmentSpec) → slice_get table n ≡ Some s → s.offset + s.length < 2 ^ 64
  pub lies : (n : ℕ) (s : SegmentSpec) → slice_get table n ≡ Some s → LiesIn tail s
  pub settings : SameSettings idle core

-- ---- look-ups

-- how a live request stands: its bytes are at hand, or it has this read
abbrev pub standing_of : Standing → Option (Option ℕ)
standing_of (Held buffer) = Some None
standing_of (Reads r) = Some (Some r)
standing_of Ended = None

abbrev pub standing_in : Option Request → Option (Option ℕ)
standing_in None = None
standing_in (Some q) = standing_of q.standing

abbrev pub standing_at : List Request → ℕ → Option (Option ℕ)
standing_at requests n = standing_in (slice_get requests n)

abbrev pub segment_at : List Request → ℕ → Option ℕ
segment_at requests n = option_map (λ (q : Request). q.segment) (slice_get requests n)

abbrev pub users_in : Option SharedRead → ℕ
users_in None = 0
users_in (Some x) = x.users

abbrev pub users_at : List SharedRead → ℕ → ℕ
users_at reads r = users_in (slice_get reads r)

abbrev pub polled_in : Option SharedRead → Bool
polled_in None = false
polled_in (Some x) = x.polled

abbrev pub polled_at : List SharedRead → ℕ → Bool
polled_at reads r = polled_in (slice_get reads r)

abbrev pub outcome_in : Option SharedRead → Option SpanOutcome
outcome_in None = None
outcome_in (Some x) = x.outcome

abbrev pub outcome_at : List SharedRead → ℕ → Option SpanOutcome
outcome_at reads r = outcome_in (slice_get reads r)

abbrev pub bytes_in : Option SharedRead → Option Buffer
bytes_in None = None
bytes_in (Some x) = x.bytes

abbrev pub bytes_of : List SharedRead → ℕ → Option Buffer
bytes_of reads r = bytes_in (slice_get reads r)

abbrev pub flatten : Option (Option ℕ) → Option ℕ
flatten None = None
flatten (Some o) = o

abbrev pub latest_at : List (Option ℕ) → ℕ → Option ℕ
latest_at latest s = flatten (slice_get latest s)

-- no segment has a newest read
abbrev pub IsBlank : List (Option ℕ) → Type 0
IsBlank latest = (s : ℕ) → latest_at latest s ≡ None

-- a read that a register may join
abbrev pub if_open : List SharedRead → ℕ → Option ℕ
if_open reads r = if nat_le 1 (users_at reads r) && not (is_bad (outcome_at reads r)) then Some r else None

abbrev pub joinable_at : Kept → ℕ → Option ℕ
joinable_at k s = option_and_then (if_open k.reads) (latest_at k.latest s)

abbrev pub tail_start : Option Tail → Option ℕ
tail_start tail = option_map (λ (t : Tail). t.start) tail

-- whether the tail covers a segment
abbrev pub is_covered : Kept → ℕ → Bool
is_covered k s = option_map_or (covered_from (tail_start k.tail)) (slice_get k.table s) false

-- whether a register of a segment asks the cache: the table has it, and the tail does not cover it
abbrev pub is_asked : Kept → ℕ → Bool
is_asked k s = nat_lt s (length k.table) && not (is_covered k s)

-- where a register may find a segment
abbrev pub IsLook : Kept → ℕ → Look → Type 0
IsLook k s Missing = length k.table ≤ s
IsLook k s (InTail buffer) =
    (s < length k.table) × (is_covered k s ≡ true) × ((spec : SegmentSpec) → slice_get k.table s ≡ Some spec → IsCut k.tail spec buffer)
IsLook k s (InCache buffer) = (s < length k.table) × (is_covered k s ≡ false)
IsLook k s CacheFailed = (s < length k.table) × (is_covered k s ≡ false)
IsLook k s Nowhere = (s < length k.table) × (is_covered k s ≡ false)

-- what the cache did then
abbrev pub got_of : Look → Got
got_of (InCache buffer) = gave
got_of CacheFailed = failing
got_of _ = neither

-- ---- registers

abbrev pub unused : SharedRead
unused = record { users = 0; polled = false; outcome = None; bytes = None }

abbrev pub begun : SharedRead
begun = record { users = 1; polled = false; outcome = None; bytes = None }

abbrev pub one_more : SharedRead → SharedRead
one_more x = record x { users = min (x.users + 1) last_count }

-- a request whose bytes are at hand
abbrev pub with_held : Kept → ℕ → Buffer → Kept
with_held k s buffer = record k {
  requests = k.requests ++ record { segment = s; standing = Held buffer } ∷ [];
  reads = k.reads ++ unused ∷ [];
}

-- a request that joins a read
abbrev pub with_joined : Kept → ℕ → ℕ → Kept
with_joined k s r = record k {
  requests = k.requests ++ record { segment = s; standing = Reads r } ∷ [];
  reads = update one_more k.reads r ++ unused ∷ [];
}

-- a request that begins a read
abbrev pub with_begun : Kept → ℕ → SegmentSpec → Kept
with_begun k s spec = record k {
  core = requested k.core (read_request (length k.requests) spec);
  requests = k.requests ++ record { segment = s; standing = Reads (length k.requests) } ∷ [];
  reads = k.reads ++ begun ∷ [];
  latest = update (λ _. Some (length k.requests)) k.latest s;
}

-- a request for a segment that is not at hand
abbrev pub with_registered : Kept → ℕ → SegmentSpec → Option ℕ → Kept
with_registered k s spec None = with_begun k s spec
with_registered k s spec (Some r) = with_joined k s r

abbrev pub with_found : Kept → ℕ → Option SegmentSpec → Kept
with_found k s None = k
with_found k s (Some spec) = with_registered k s spec (joinable_at k s)

-- the reply to a register that found this
abbrev pub look_reply : Kept → Look → Reply
look_reply k Missing = MissingSegment
look_reply k (InTail buffer) = Registered (length k.requests) true
look_reply k (InCache buffer) = Registered (length k.requests) true
look_reply k CacheFailed = Failed Cache
look_reply k Nowhere = Registered (length k.requests) false

-- what it leaves
abbrev pub after_look : Kept → ℕ → Look → Kept
after_look k s Missing = k
after_look k s (InTail buffer) = with_held k s buffer
after_look k s (InCache buffer) = with_held k s buffer
after_look k s CacheFailed = k
after_look k s Nowhere = with_found k s (slice_get k.table s)

-- ---- the end of a request

abbrev pub ended : Request → Request
ended q = record q { standing = Ended }

abbrev pub one_less : SharedRead → SharedRead
one_less x = record x { users = x.users - 1; bytes = if nat_le x.users 1 then None else x.bytes }

abbrev pub left_core : Scheduler → ℕ → Option SharedRead → Scheduler
left_core core r None = core
left_core core r (Some x) = if nat_le x.users 1 then dropped core r else core

-- a request of a read ends; the read is dropped with its last one
abbrev pub without_user : Kept → ℕ → ℕ → Kept
without_user k n r = record k {
  core = left_core k.core r (slice_get k.reads r);
  requests = update ended k.requests n;
  reads = update one_less k.reads r;
}

-- a request that is held ends
abbrev pub without_held : Kept → ℕ → Kept
without_held k n = record k { requests = update ended k.requests n }

-- ---- polls

abbrev pub reply_good : Option Buffer → Reply
reply_good None = NotLive
reply_good (Some buffer) = Ready buffer

abbrev pub reply_outcome : Option SpanOutcome → Option Buffer → Reply
reply_outcome None bytes = Pending
reply_outcome (Some Good) bytes = reply_good bytes
reply_outcome (Some (Bad fault)) bytes = Failed (Fault fault)

abbrev pub reply_read : Option SharedRead → Reply
reply_read None = NotLive
reply_read (Some x) = reply_outcome x.outcome x.bytes

abbrev pub reply_of_standing : List SharedRead → Standing → Reply
reply_of_standing reads (Held buffer) = Ready buffer
reply_of_standing reads (Reads r) = reply_read (slice_get reads r)
reply_of_standing reads Ended = NotLive

abbrev pub reply_standing : List SharedRead → Option Request → Reply
reply_standing reads None = NotLive
reply_standing reads (Some q) = reply_of_standing reads q.standing

-- the reply to a poll
abbrev pub poll_reply : Kept → ℕ → Reply
poll_reply k n = reply_standing k.reads (slice_get k.requests n)

abbrev pub marked : SharedRead → SharedRead
marked x = record x { polled = true }

-- the read of a request is polled, which only the first time changes something
abbrev pub with_poll : Kept → ℕ → Bool → Kept
with_poll k r true = k
with_poll k r false = record k { core = polled k.core r; reads = update marked k.reads r }

abbrev pub after_good : Kept → ℕ → ℕ → Option Buffer → Kept
after_good k n r None = k
after_good k n r (Some buffer) = without_user k n r

abbrev pub after_outcome : Kept → ℕ → ℕ → SharedRead → Option SpanOutcome → Kept
after_outcome k n r x None = with_poll k r x.polled
after_outcome k n r x (Some Good) = after_good k n r x.bytes
after_outcome k n r x (Some (Bad fault)) = without_user k n r

abbrev pub after_read : Kept → ℕ → ℕ → Option SharedRead → Kept
after_read k n r None = k
after_read k n r (Some x) = after_outcome k n r x x.outcome

abbrev pub after_standing : Kept → ℕ → Standing → Kept
after_standing k n (Held buffer) = without_held k n
after_standing k n (Reads r) = after_read k n r (slice_get k.reads r)
after_standing k n Ended = k

abbrev pub after_found : Kept → ℕ → Option Request → Kept
after_found k n None = k
after_found k n (Some q) = after_standing k n q.standing

-- what a poll leaves
abbrev pub after_poll : Kept → ℕ → Kept
after_poll k n = after_found k n (slice_get k.requests n)

-- ---- drops

abbrev pub reply_dropped : Option (Option ℕ) → Reply
reply_dropped None = NotLive
reply_dropped (Some read) = Dropped

-- the reply to a drop
abbrev pub drop_reply : Kept → ℕ → Reply
drop_reply k n = reply_dropped (standing_at k.requests n)

abbrev pub drop_standing : Kept → ℕ → Option (Option ℕ) → Kept
drop_standing k n None = k
drop_standing k n (Some None) = without_held k n
drop_standing k n (Some (Some r)) = without_user k n r

-- what a drop leaves
abbrev pub after_drop : Kept → ℕ → Kept
after_drop k n = drop_standing k n (standing_at k.requests n)
