-- The places of waiting reads: their offsets and numbers.
use Rattle.std.specs.Prelude.{◌≡◌, ℕ, ◌<◌, ◌≤◌, ◌^◌, ◌==◌, ◌&&◌, Bool, true, false, List, [], ◌∷◌, ◌++◌, length, Option, Some, None, option_to_list, if◌then◌else◌}
use Rattle.std.specs.List.{list_any, All}
use Rattle.std.specs.BTreeMap.{is_at}
use Rattle.std.specs.Ordering.{nat_cmp, ordering_then}
use Rattle.std.specs.declared.cmp.Ordering.{Ordering}
use Rattle.vx_sched.specs.Span.{end_of}
use Rattle.vx_sched.specs.Reads.{Reads, waiting_at, has_first}
use Rattle.vx_sched.specs.Merging.{first_number}
use Rattle.vx_sched.specs.Entries.{Entries, entry_at, if_waits, waits_in, group}
use Rattle.vx_sched.specs.declared.read.Stage.TheVariants.{Registered, Polled, InFlight, Resolved}
use Rattle.vx_sched.specs.declared.request.ReadRequest.{ReadRequest}
use Rattle.vx_sched.specs.Stored.{Read}
use Rattle.vx_sched.specs.declared.read.Stage.{Stage}

-- the order of places
abbrev pub place_cmp : ℕ × ℕ → ℕ × ℕ → Ordering
place_cmp a b = ordering_then (nat_cmp a.0 b.0) (nat_cmp a.1 b.1)

abbrev pub offset_of : ℕ × ℕ → ℕ
offset_of place = place.0

-- whether a place is among some
abbrev pub has_place : List (ℕ × ℕ) → ℕ × ℕ → Bool
has_place places place = list_any (is_at (place_cmp place)) places

abbrev pub read_offset : ReadRequest → ℕ
read_offset r = r.offset

-- whether a read of this offset and number is among some
abbrev pub holds_read : List ReadRequest → ℕ × ℕ → Bool
holds_read reads place = list_any (λ r. (r.offset == place.0) && (r.id == place.1)) reads

-- each read is that of the waiting read of its number, if there is one
abbrev pub AreAsked : Entries → List ReadRequest → Type 0
AreAsked entries reads = All (λ r. (s : ReadRequest) → if_waits (entry_at entries r.id) ≡ Some s → s ≡ r) reads

-- a read is that of its number, and waits
abbrev pub IsWaitingRead : Entries → ReadRequest → Type 0
IsWaitingRead entries r = if_waits (entry_at entries r.id) ≡ Some r

-- no number of these reads is above one
abbrev pub AreUpTo : ℕ → List ReadRequest → Type 0
AreUpTo newest reads = All (λ r. r.id ≤ newest) reads

-- none of these reads is that of a number
abbrev pub AreApart : ℕ → List ReadRequest → Type 0
AreApart id reads = All (λ r. (r.id == id) ≡ false) reads

-- those of the reads at places that wait
abbrev pub waiting_of : Entries → List (ℕ × ℕ) → List ReadRequest
waiting_of entries [] = []
waiting_of entries (place ∷ rest) = option_to_list (if_waits (entry_at entries place.1)) ++ waiting_of entries rest

-- whether there is a read, and it waits
abbrev pub if_waiting : Option Read → Bool
if_waiting None = false
if_waiting (Some x) = waits_in x.stage

-- whether a read waits at an offset
abbrev pub waits_at : ℕ → Option Read → Bool
waits_at offset None = false
waits_at offset (Some x) = waits_in x.stage && (x.request.offset == offset)

-- whether a read waits in a stage, if it has one
abbrev pub stays_waiting : Option Stage → Bool
stays_waiting None = false
stays_waiting (Some stage) = waits_in stage

abbrev pub size_of : ℕ → Stage → Option ℕ
size_of n Registered = None
size_of n Polled = None
size_of n (InFlight span size dropped) = if span == n then Some size else None
size_of n Resolved = None

-- how many reads the span of a number has, as one of them in flight knows
abbrev pub size_in : ℕ → Option Read → Option ℕ
size_in n None = None
size_in n (Some x) = size_of n x.stage

-- the reads in flight in a span are named by the first of them, and know how many they are
pub record AreGrouped (entries : Entries) : Type 0 where
  pub named : (n : ℕ) → has_first (group n entries) ≡ true → first_number (group n entries) ≡ n
  pub sizes : (id n size : ℕ) → size_in n (entry_at entries id) ≡ Some size → length (group n entries) ≡ size

-- each waiting read ends in range
abbrev pub AllFit : Reads → Type 0
AllFit reads = (id : ℕ) (r : ReadRequest) → waiting_at reads id ≡ Some r → end_of r < 2 ^ 64
