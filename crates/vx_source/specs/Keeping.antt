-- Caches that stand in this crate, and what they tell.
use Rattle.std.specs.Prelude.{ℕ, ◌==◌, ◌&&◌, ◌++◌, true, false, List, [], length, map, Some}
use Rattle.std.specs.Option.{option_map}
use Rattle.vx_base.specs.Buffer.{Buffer}
use Rattle.vx_base.specs.Caches.{Segments, CacheState}
use Rattle.lru.specs.LruCache.{LruCache, lru_cache}

-- a cache of the segments that were used last: its entries, the last used one first, and how many there may be; the
-- log of its puts, and the count of those that found no memory
pub record LruState : Type 0 where
  pub kept : LruCache ℕ Buffer
  pub puts : Segments
  pub lost : ℕ

-- entries under the numbers of segments
abbrev pub as_segments : List (ℕ × Buffer) → Segments
as_segments es = map (λ (e : ℕ × Buffer). (record { 0 = e.0 }, e.1)) es

-- it tells its entries and its puts, and never fails
abbrev pub lru_state : LruState → CacheState
lru_state c = record {
  entries = Some (as_segments c.kept.entries);
  puts = Some c.puts;
  never_gives = false;
  never_fails = true;
  faults = 0;
  lost = c.lost;
}

-- such a cache of so many segments, which has none yet
abbrev pub new_lru : ℕ → LruState
new_lru capacity = record { kept = lru_cache [] capacity; puts = []; lost = 0 }

-- a cache behind segments that are at hand: these come first, and it never gives an entry only where there are none
abbrev pub in_front : Segments → CacheState → CacheState
in_front initial c = record c { entries = option_map (λ es. initial ++ es) c.entries; never_gives = (length initial == 0) && c.never_gives }
