-- The reads that a scheduler keeps, in order of their numbers.
use Rattle.std.specs.Prelude.{ℕ, ◌+◌, ◌≤◌, ◌==◌, Bool, true, false, List, [], ◌∷◌, length, Option, Some, None, if◌then◌else◌}
use Rattle.vx_sched.specs.Merging.{first_number}
use Rattle.vx_sched.specs.declared.request.ReadRequest.{ReadRequest}
use Rattle.vx_sched.specs.declared.read.ReadState.{ReadState}
use Rattle.vx_sched.specs.declared.read.ReadState.TheVariants.{Registered, Polled, InFlight, Resolved}

-- a read: what it asks for, where it stands, whether it was dropped in flight, and, where a span in
-- flight begins with it, the reads of that span
pub record Known : Type 0 where
  pub request : ReadRequest
  pub state : ReadState
  pub dropped : Bool
  pub leads : List ReadRequest

-- reads in order of their numbers
abbrev pub Reads : Type 0
Reads = List Known

-- the read of a number
abbrev pub read_at : Reads → ℕ → Option Known
read_at [] id = None
read_at (x ∷ rest) id = if x.request.id == id then Some x else read_at rest id

-- whether a read waits to be gathered
abbrev pub is_waiting : ReadState → Bool
is_waiting Registered = true
is_waiting Polled = true
is_waiting InFlight = false
is_waiting Resolved = false

-- whether a read was polled and waits
abbrev pub is_polled : ReadState → Bool
is_polled Registered = false
is_polled Polled = true
is_polled InFlight = false
is_polled Resolved = false

-- whether a read is in flight
abbrev pub is_flying : ReadState → Bool
is_flying Registered = false
is_flying Polled = false
is_flying InFlight = true
is_flying Resolved = false

abbrev pub if_waiting : Option Known → Option ReadRequest
if_waiting None = None
if_waiting (Some x) = if is_waiting x.state then Some x.request else None

-- the waiting read of a number
abbrev pub waiting_at : Reads → ℕ → Option ReadRequest
waiting_at reads id = if_waiting (read_at reads id)

abbrev pub if_polled : Option Known → Bool
if_polled None = false
if_polled (Some x) = is_polled x.state

-- whether the read of a number was polled and waits
abbrev pub polled_at : Reads → ℕ → Bool
polled_at reads id = if_polled (read_at reads id)

abbrev pub if_state : Option Known → Option ReadState
if_state None = None
if_state (Some x) = Some x.state

-- where the read of a number stands
abbrev pub state_at : Reads → ℕ → Option ReadState
state_at reads id = if_state (read_at reads id)

abbrev pub if_flying : Option Known → Bool
if_flying None = false
if_flying (Some x) = is_flying x.state

-- whether the read of a number is in flight
abbrev pub flying_at : Reads → ℕ → Bool
flying_at reads id = if_flying (read_at reads id)

abbrev pub if_leads : Option Known → List ReadRequest
if_leads None = []
if_leads (Some x) = x.leads

-- the reads of the span in flight that begins with the read of a number
abbrev pub leads_at : Reads → ℕ → List ReadRequest
leads_at reads id = if_leads (read_at reads id)

-- whether a list has an element
abbrev pub has_first : {X : Type 0} → List X → Bool
has_first [] = false
has_first (_ ∷ _) = true

-- the reads of each span in flight, by the number of the first
abbrev pub flights : Reads → List (List ReadRequest)
flights [] = []
flights (x ∷ rest) = if has_first x.leads then x.leads ∷ flights rest else flights rest

-- how many ranges are in flight
abbrev pub ranges_in_flight : Reads → ℕ
ranges_in_flight reads = length (flights reads)

-- the numbers rise, from one at or above this
abbrev pub Rise : ℕ → Reads → Type 0
Rise from [] = Unit {0}
Rise from (x ∷ rest) = (from ≤ x.request.id) × Rise (x.request.id + 1) rest

abbrev pub keep : Option Known → Reads → Reads
keep None rest = rest
keep (Some x) rest = x ∷ rest

-- the reads where each one of some numbers is changed, or gone
abbrev pub change : (ℕ → Bool) → (Known → Option Known) → Reads → Reads
change among made [] = []
change among made (x ∷ rest) = keep (if among x.request.id then made x else Some x) (change among made rest)

-- a new read
abbrev pub register_read : ReadRequest → Known
register_read r = record { request = r; state = Registered; dropped = false; leads = [] }

abbrev pub after_poll : ReadState → ReadState
after_poll Registered = Polled
after_poll Polled = Polled
after_poll InFlight = InFlight
after_poll Resolved = Resolved

-- a registered read becomes polled, any other stays
abbrev pub poll_read : Known → Option Known
poll_read x = Some (record x { state = after_poll x.state })

-- a read in flight is marked, any other is gone
abbrev pub drop_read : Known → Option Known
drop_read x = if is_flying x.state then Some (record x { dropped = true }) else None

-- a waiting read of a span is in flight; the first one leads the span
abbrev pub take_read : List ReadRequest → Known → Option Known
take_read reads x = if is_waiting x.state
    then Some (record x { state = InFlight; leads = if x.request.id == first_number reads then reads else [] })
    else Some x

-- a read in flight is resolved, or gone where it was marked
abbrev pub resolve_read : Known → Option Known
resolve_read x = if is_flying x.state
    then (if x.dropped then None else Some (record x { state = Resolved; leads = [] }))
    else Some x
