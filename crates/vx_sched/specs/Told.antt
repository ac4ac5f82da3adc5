-- What slots and bits tell of the reads of a table.
use Rattle.std.specs.Prelude.{◌≡◌, ℕ, Bool, true, false, map, Option, Some, None, is_some, if◌then◌else◌}
use Rattle.std.specs.List.Sorted.{IsStrictlySortedBy}
use Rattle.std.specs.Map.{keys_of}
use Rattle.std.specs.Ordering.{nat_cmp}
use Rattle.vx_sched.specs.BitSet.{Words, has_room, is_raised}
use Rattle.vx_sched.specs.Entries.{Entries, entry_at, polled_in}
use Rattle.vx_sched.specs.Places.{if_waiting}
use Rattle.vx_sched.specs.Stored.{Read}
use Rattle.vx_sched.specs.declared.read.Stage.{Stage}
use Rattle.vx_sched.specs.declared.read.Stage.TheVariants.{Registered, Polled, InFlight, Resolved}

-- a read that no longer waits was settled, unless its slot says otherwise
abbrev pub settled : Stage → Stage
settled Registered = Resolved
settled Polled = Resolved
settled (InFlight span size dropped) = InFlight span size dropped
settled Resolved = Resolved

-- the stage of a read, by the bits that say whether it waits and whether it was polled, and by what its slot says
abbrev pub stage_by : Bool → Bool → Stage → Stage
stage_by waits polled stage = if polled then Polled else if waits then Registered else settled stage

abbrev pub told_read : Bool → Bool → Read → Read
told_read waits polled x = record { request = x.request; stage = stage_by waits polled x.stage }

-- the entries that slots and bits tell
abbrev pub told : Words → Words → Entries → Entries
told waits polls slots = map (λ (e : ℕ × Read). (e.0, told_read (is_raised waits e.0) (is_raised polls e.0) e.1)) slots

-- whether a read, if there is one, waits and was polled
abbrev pub polls_in : Option Read → Bool
polls_in None = false
polls_in (Some x) = polled_in x.stage

abbrev pub stays_polled : Option Stage → Bool
stays_polled None = false
stays_polled (Some stage) = polled_in stage

-- whether a read, if there is one, waited before and waits no longer
abbrev pub leaves : Option Read → Option Read → Bool
leaves before now = if if_waiting now then false else if_waiting before

-- each slot has its bits, a read that waits does so by its slot too, and one that was polled waits
pub record AreTold (slots : Entries) (waits polls : Words) : Type 0 where
  pub sorted : IsStrictlySortedBy nat_cmp (keys_of slots)
  pub waiting : (n : ℕ) → is_raised waits n ≡ true → if_waiting (entry_at slots n) ≡ true
  pub polled : (n : ℕ) → is_raised polls n ≡ true → is_raised waits n ≡ true
  pub room : (n : ℕ) → is_some (entry_at slots n) ≡ true → has_room waits n ≡ true
  pub room_of_polls : (n : ℕ) → is_some (entry_at slots n) ≡ true → has_room polls n ≡ true
