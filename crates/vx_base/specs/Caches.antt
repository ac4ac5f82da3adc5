-- What caches of segments tell, and what their calls answer and leave.
use Rattle.std.specs.Prelude.{◌≡◌, ℕ, ◌≤◌, ◌++◌, ◌⊎◌, ◌==◌, Bool, true, false, List, [], ◌∷◌, Option, Some, None, is_some, Result, Err, IfOk, OnOk, if◌then◌else◌}
use Rattle.std.specs.Option.{option_map}
use Rattle.std.proofs.Common.{◌∙◌, refl, arith}
use Rattle.vx_base.specs.Buffer.{Buffer}
use Rattle.vx_base.specs.Counts.{Rises, next_count}
use Rattle.vx_base.specs.Memory.{faults_after, is_failing, is_empty}
use Rattle.vx_base.specs.declared.segment.SegmentId.{SegmentId}
use Rattle.vx_base.specs.declared.segment_cache.CacheError.{CacheError}
use Rattle.vx_base.specs.declared.segment_cache.CacheError.TheVariants as cache_error

-- segments' buffers by the segments' numbers; the first one of a number counts
abbrev pub Segments : Type 0
Segments = List (SegmentId × Buffer)

-- the buffer of a number
abbrev pub buffer_of : Segments → ℕ → Option Buffer
buffer_of [] segment = None
buffer_of (e ∷ rest) segment = if e.0.0 == segment then Some e.1 else buffer_of rest segment

-- A cache: its entries and the log of its puts, where they are told; whether it never gives an entry; whether no
-- call of it fails; its count of faults, and that of puts that found no memory, which alone may be missing from
-- the log.
pub record CacheState : Type 0 where
  pub entries : Option Segments
  pub puts : Option Segments
  pub never_gives : Bool
  pub never_fails : Bool
  pub faults : ℕ
  pub lost : ℕ

-- no call changes what a cache is, and its counts never fall
pub record SameCache (before now : CacheState) : Type 0 where
  pub never_gives : now.never_gives ≡ before.never_gives
  pub never_fails : now.never_fails ≡ before.never_fails
  pub never_falls : before.faults ≤ now.faults
  pub lost_never_falls : before.lost ≤ now.lost
  pub sound : before.never_fails ≡ true → now.faults ≡ before.faults

pub same_cache : (a : CacheState) → SameCache a a
same_cache a = record { never_gives = refl; never_fails = refl; never_falls = omega arith; lost_never_falls = omega arith; sound = λ _. refl }

pub same_cache-then : (a b c : CacheState) → SameCache a b → SameCache b c → SameCache a c
same_cache-then a b c h k = record {
  never_gives = k.never_gives ∙ h.never_gives;
  never_fails = k.never_fails ∙ h.never_fails;
  never_falls = omega (arith, h.never_falls, k.never_falls);
  lost_never_falls = omega (arith, h.lost_never_falls, k.lost_never_falls);
  sound = λ n. k.sound (h.never_fails ∙ n) ∙ h.sound n;
}

-- each entry was there before
abbrev pub OldEntries : Option Segments → Option Segments → Type 0
OldEntries before now = (es fs : Segments) (q : ℕ) (b : Buffer) → before ≡ Some es → now ≡ Some fs → buffer_of fs q ≡ Some b → buffer_of es q ≡ Some b

-- What asking a cache for a segment answers: the segment's entry, if there is one. It may change the order of the
-- entries, and let some go.
pub record GetCause (segment : ℕ) (before now : CacheState) (found : Result (Option Buffer) CacheError) : Type 0 where
  pub told : IfOk found (λ o. (es : Segments) → before.entries ≡ Some es → o ≡ buffer_of es segment)
  pub nothing : IfOk found (λ o. before.never_gives ≡ true → o ≡ None)
  pub still : OnOk found (now.faults ≡ before.faults)
  pub failed : found ≡ Err cache_error.Failed → Rises 1 before.faults now.faults
  pub sound : before.never_fails ≡ true → found ≡ Err cache_error.Failed → ⊥
  pub from : OldEntries before.entries now.entries
  pub tells : is_some now.entries ≡ is_some before.entries
  pub puts : now.puts ≡ before.puts
  pub lost : now.lost ≡ before.lost

-- the log of puts grew by one
abbrev pub Logged : SegmentId → Buffer → Option Segments → Option Segments → Type 0
Logged id buffer before now = now ≡ option_map (λ l. l ++ (id, buffer) ∷ []) before

-- a put found no memory, and is missing from the log
pub record Lost (before now : CacheState) (result : Result (Unit {0}) CacheError) : Type 0 where
  pub refused : result ≡ Err cache_error.OutOfMemory
  pub puts : now.puts ≡ before.puts
  pub rises : Rises 1 before.lost now.lost

-- each entry was there before, or is this one
abbrev pub OldEntriesOr : ℕ → Buffer → Option Segments → Option Segments → Type 0
OldEntriesOr segment buffer before now = (es fs : Segments) (q : ℕ) (b : Buffer) → before ≡ Some es → now ≡ Some fs → buffer_of fs q ≡ Some b →
    (buffer_of es q ≡ Some b) ⊎ ((q ≡ segment) × (b ≡ buffer))

-- What putting a segment's buffer into a cache leaves. The put is logged, whatever it answered, but where it found
-- no memory it may be missing.
pub record PutCause (id : SegmentId) (buffer : Buffer) (before now : CacheState) (result : Result (Unit {0}) CacheError) : Type 0 where
  pub logged : Logged id buffer before.puts now.puts ⊎ Lost before now result
  pub failed : result ≡ Err cache_error.Failed → Rises 1 before.faults now.faults
  pub sound : before.never_fails ≡ true → result ≡ Err cache_error.Failed → ⊥
  pub from : OldEntriesOr id.0 buffer before.entries now.entries
  pub tells : is_some now.entries ≡ is_some before.entries

-- a cache that holds nothing and tells no puts
abbrev pub nothing_held : CacheState
nothing_held = record { entries = Some []; puts = None; never_gives = true; never_fails = true; faults = 0; lost = 0 }

-- a cache in memory: its entries, the log of its puts, the places of calls that fail, and the counts of calls, of
-- faults and of puts that found no memory
pub record MemCacheState : Type 0 where
  pub entries : Segments
  pub puts : Segments
  pub fail : List ℕ
  pub calls : ℕ
  pub faults : ℕ
  pub lost : ℕ

-- it tells its entries and its puts, and never fails where no call is to
abbrev pub cache_state : MemCacheState → CacheState
cache_state c = record {
  entries = Some c.entries;
  puts = Some c.puts;
  never_gives = false;
  never_fails = is_empty c.fail;
  faults = c.faults;
  lost = c.lost;
}

-- a call was counted, and failed where it was to
abbrev pub called : MemCacheState → MemCacheState
called c = record c { calls = next_count c.calls; faults = faults_after (is_failing c.fail c.calls) c.faults }
