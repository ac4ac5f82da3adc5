-- A span while it is gathered.
use Rattle.std.specs.Prelude.{◌≡◌, ℕ, ◌<◌, ◌≤◌, ◌==◌, Bool, true, false, List, [], ◌∷◌, ◌++◌, map, length, Option, Some, None, if◌then◌else◌}
use Rattle.std.specs.List.{AllByRecursion, list_any}
use Rattle.std.specs.Map.{values_of}
use Rattle.vx_sched.specs.Span.{end_of}
use Rattle.vx_sched.specs.Reads.{Reads, waiting_at}
use Rattle.vx_sched.specs.Merging.{HasNoWideGap, IsNear, IsTooLong, IsWithinLimit, aligned_size, first_offset, greatest_end, is_in_order, is_before, is_listed}
use Rattle.vx_sched.specs.declared.request.ReadRequest.{ReadRequest}
use Rattle.vx_sched.specs.declared.gather.Picks.{Picks}
use Rattle.vx_sched.specs.declared.gather.Rules.{Rules}

-- whether a number is among some
abbrev pub is_among : List ℕ → ℕ → Bool
is_among numbers q = list_any (λ n. n == q) numbers

-- the waiting read of a number that no earlier span has
abbrev pub free_at : Reads → List ℕ → ℕ → Option ReadRequest
free_at reads before id = if is_among before id then None else waiting_at reads id

-- each read stands under its offset and number
abbrev pub ArePlaced : List ((ℕ × ℕ) × ReadRequest) → Type 0
ArePlaced entries = AllByRecursion (λ e. e.0 ≡ (e.1.offset, e.1.id)) entries

-- a read under its place
abbrev pub at_place : ReadRequest → (ℕ × ℕ) × ReadRequest
at_place r = ((r.offset, r.id), r)

-- the reads that were picked, by their places
abbrev pub entries_of : Picks → List ((ℕ × ℕ) × ReadRequest)
entries_of picks = picks.reads.entries ++ map at_place picks.later.items

abbrev pub reads_of : Picks → List ReadRequest
reads_of picks = values_of (entries_of picks)

-- a read comes before the first of others
abbrev pub IsAhead : List ReadRequest → ReadRequest → Type 0
IsAhead [] r = Unit {0}
IsAhead (s ∷ _) r = is_before r s ≡ true

-- no read comes after the last
abbrev pub AreUpTo : ReadRequest → List ReadRequest → Type 0
AreUpTo last reads = AllByRecursion (λ s. is_before last s ≡ false) reads

-- the same reads were picked
pub record SamePicks (old new : Picks) : Type 0 where
  pub entries : entries_of new ≡ entries_of old
  pub last : new.last ≡ old.last
  pub low : new.low ≡ old.low
  pub high : new.high ≡ old.high

-- what holds of the reads that were picked so far
pub record IsPicked (rules : Rules) (reads : Reads) (before : List ℕ) (picks : Picks) : Type 0 where
  pub placed : ArePlaced (entries_of picks)
  pub free : AllByRecursion (λ r. free_at reads before r.id ≡ Some r) (reads_of picks)
  pub order : is_in_order (reads_of picks) ≡ true
  pub last : AreUpTo picks.last (reads_of picks)
  pub low : picks.low ≡ first_offset (reads_of picks)
  pub high : picks.high ≡ greatest_end (reads_of picks)
  pub forward : picks.low ≤ picks.high
  pub some : 1 ≤ length (reads_of picks)
  pub gaps : HasNoWideGap rules.distance (reads_of picks)
  pub limit : 1 < length (reads_of picks) → IsWithinLimit rules.limit (aligned_size rules.alignment picks.low picks.high)

-- more reads were picked, or none
pub record PickedMore (old new : Picks) : Type 0 where
  pub kept : (id : ℕ) → is_listed (reads_of old) id ≡ true → is_listed (reads_of new) id ≡ true
  pub low : new.low ≤ old.low
  pub high : old.high ≤ new.high

-- a read of this number that ends at `left` or after, and begins at `from` or after and at `right` or
-- before, was picked, or would make the span too long
abbrev pub IsLookedAt : Rules → Reads → List ℕ → ℕ → ℕ → ℕ → Picks → ℕ → Type 0
IsLookedAt rules reads before left from right picks id = (r : ReadRequest) → free_at reads before id ≡ Some r
    → left ≤ end_of r → from ≤ r.offset → r.offset ≤ right → is_listed (reads_of picks) id ≡ false
    → IsTooLong rules.limit rules.alignment picks.low picks.high r

-- each such read was
abbrev pub AreLookedAt : Rules → Reads → List ℕ → ℕ → ℕ → ℕ → Picks → Type 0
AreLookedAt rules reads before left from right picks = (id : ℕ) → IsLookedAt rules reads before left from right picks id

-- each free read that is near the picks was picked, or would make the span too long
abbrev pub IsClosed : Rules → Reads → List ℕ → Picks → Type 0
IsClosed rules reads before picks = (r : ReadRequest) → free_at reads before r.id ≡ Some r
    → is_listed (reads_of picks) r.id ≡ false
    → IsNear rules.distance picks.low picks.high r → IsTooLong rules.limit rules.alignment picks.low picks.high r
