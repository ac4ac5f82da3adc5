-- What a table keeps.
use Rattle.std.specs.Prelude.{◌≡◌, ℕ, ◌<◌, ◌≤◌, ◌^◌, ◌==◌, ◌||◌, true, List, Some}
use Rattle.std.specs.List.{list_any}
use Rattle.std.specs.List.Sorted.{IsStrictlySortedBy, IsNonDecreasingBy}
use Rattle.std.specs.Map.{keys_of}
use Rattle.std.specs.Ordering.{nat_cmp}
use Rattle.vx_sched.specs.Entries.{Entries, entry_at}
use Rattle.vx_sched.specs.Places.{read_offset, has_place, holds_read, waits_at, AreAsked, AreUpTo, AreGrouped}
use Rattle.vx_sched.specs.Span.{end_of}
use Rattle.vx_sched.specs.Stored.{Read}
use Rattle.vx_sched.specs.declared.places.Places.{Places}

-- a place is among those that are kept, if they are
abbrev pub Has : Places → ℕ × ℕ → Type 0
Has places place = places.is_kept ≡ true → (holds_read places.sorted.items place || has_place places.later.keys place || has_place places.fresh.items place) ≡ true

-- places after a change that takes none out, and leaves those in order as they are
pub record HaveAll (old new : Places) : Type 0 where
  pub same : new.is_kept ≡ old.is_kept
  pub sorted : new.sorted.items ≡ old.sorted.items
  pub newest : new.newest ≡ old.newest
  pub has : (place : ℕ × ℕ) → Has old place → Has new place

-- numbers among which are those of the places whose offsets lie in bounds
abbrev pub Names : Places → ℕ → ℕ → List ℕ → Type 0
Names places left right ids = (offset id : ℕ) → left ≤ offset → offset ≤ right → Has places (offset, id) → list_any (λ n. n == id) ids ≡ true

-- entries, places among which are those of the reads that wait, and a length that none passes. Each number stands once. The reads
-- at the places in order are those of their numbers, as far as these wait, and none has a number above the newest
pub record IsKept (entries : Entries) (places : Places) (longest : ℕ) : Type 0 where
  pub placed : (offset id : ℕ) → waits_at offset (entry_at entries id) ≡ true → Has places (offset, id)
  pub rise : IsNonDecreasingBy read_offset places.sorted.items
  pub asked : AreAsked entries places.sorted.items
  pub newest : AreUpTo places.newest places.sorted.items
  pub sorted : IsStrictlySortedBy nat_cmp (keys_of entries)
  pub keyed : (id : ℕ) (x : Read) → entry_at entries id ≡ Some x → x.request.id ≡ id
  pub small : (id : ℕ) (x : Read) → entry_at entries id ≡ Some x → id < 2 ^ 64
  pub long : (id : ℕ) (x : Read) → entry_at entries id ≡ Some x → x.request.length ≤ longest
  pub fits : (id : ℕ) (x : Read) → entry_at entries id ≡ Some x → end_of x.request < 2 ^ 64

-- entries with their places and spans
pub record IsTable (entries : Entries) (places : Places) (longest : ℕ) : Type 0 where
  pub kept : IsKept entries places longest
  pub grouped : AreGrouped entries
