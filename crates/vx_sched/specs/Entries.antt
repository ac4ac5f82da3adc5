-- The entries of the map of reads, by number, what happens to each, and the reads that they stand for.
use Rattle.std.specs.Prelude.{ℕ, ◌==◌, Bool, true, false, List, [], ◌∷◌, ◌++◌, map, Option, Some, None, option_to_list, if◌then◌else◌}
use Rattle.std.specs.Map.{lookup, remove_entry}
use Rattle.std.specs.BTreeMap.{insert_entry, is_at}
use Rattle.std.specs.Ordering.{nat_cmp}
use Rattle.vx_sched.specs.Reads.{Known, Reads}
use Rattle.vx_sched.specs.Insert.{insert_read}
use Rattle.vx_sched.specs.declared.request.ReadRequest.{ReadRequest}
use Rattle.vx_sched.specs.Stored.{Read}
use Rattle.vx_sched.specs.declared.read.ReadState.{ReadState}
use Rattle.vx_sched.specs.declared.read.ReadState.TheVariants as state
use Rattle.vx_sched.specs.declared.read.Stage.{Stage}
use Rattle.vx_sched.specs.declared.read.Stage.TheVariants.{Registered, Polled, InFlight, Resolved}
use Rattle.vx_sched.specs.declared.read.Change.{Change}
use Rattle.vx_sched.specs.declared.read.Change.TheVariants.{Poll, Cancel, Take, Resolve, Settle}

-- entries by number, in order
abbrev pub Entries : Type 0
Entries = List (ℕ × Read)

-- the entry of a number
abbrev pub entry_at : Entries → ℕ → Option Read
entry_at entries id = lookup (is_at (nat_cmp id)) entries

-- the state of a stage
abbrev pub state_of : Stage → ReadState
state_of Registered = state.Registered
state_of Polled = state.Polled
state_of (InFlight _ _ _) = state.InFlight
state_of Resolved = state.Resolved

-- whether a stage is that of a read that was dropped in flight
abbrev pub is_marked : Stage → Bool
is_marked Registered = false
is_marked Polled = false
is_marked (InFlight _ _ dropped) = dropped
is_marked Resolved = false

-- whether a read of this stage waits to be gathered
abbrev pub waits_in : Stage → Bool
waits_in Registered = true
waits_in Polled = true
waits_in (InFlight _ _ _) = false
waits_in Resolved = false

-- whether a read of this stage was polled and waits
abbrev pub polled_in : Stage → Bool
polled_in Registered = false
polled_in Polled = true
polled_in (InFlight _ _ _) = false
polled_in Resolved = false

-- whether a read of this stage is in flight in the span of a number
abbrev pub flies_under : ℕ → Stage → Bool
flies_under n Registered = false
flies_under n Polled = false
flies_under n (InFlight span _ _) = span == n
flies_under n Resolved = false

abbrev pub if_waits : Option Read → Option ReadRequest
if_waits None = None
if_waits (Some x) = if waits_in x.stage then Some x.request else None

-- those of the reads of numbers that wait
abbrev pub waiting_among : Entries → List ℕ → List ReadRequest
waiting_among entries [] = []
waiting_among entries (id ∷ rest) = option_to_list (if_waits (entry_at entries id)) ++ waiting_among entries rest

-- the reads in flight in the span of a number, in order
abbrev pub group : ℕ → Entries → List ReadRequest
group n [] = []
group n (e ∷ rest) = if flies_under n e.1.stage then insert_read e.1.request (group n rest) else group n rest

-- the read that an entry stands for
abbrev pub known : Entries → Read → Known
known entries x = record {
  request = x.request;
  state = state_of x.stage;
  dropped = is_marked x.stage;
  leads = if flies_under x.request.id x.stage then group x.request.id entries else [];
}

-- the reads that entries stand for
abbrev pub seen : Entries → Reads
seen entries = map (λ (e : ℕ × Read). known entries e.1) entries

-- the stage of a read after a change, or that it is gone
abbrev pub after : Change → Stage → Option Stage
after Poll Registered = Some Polled
after Poll Polled = Some Polled
after Poll (InFlight span size dropped) = Some (InFlight span size dropped)
after Poll Resolved = Some Resolved
after Cancel Registered = None
after Cancel Polled = None
after Cancel (InFlight span size dropped) = Some (InFlight span size true)
after Cancel Resolved = None
after (Take span size) Registered = Some (InFlight span size false)
after (Take span size) Polled = Some (InFlight span size false)
after (Take span size) (InFlight other count dropped) = Some (InFlight other count dropped)
after (Take span size) Resolved = Some Resolved
after Resolve Registered = Some Registered
after Resolve Polled = Some Polled
after Resolve (InFlight span size true) = None
after Resolve (InFlight span size false) = Some Resolved
after Resolve Resolved = Some Resolved
after Settle Registered = Some Resolved
after Settle Polled = Some Resolved
after Settle (InFlight span size dropped) = Some (InFlight span size dropped)
after Settle Resolved = Some Resolved

-- the entries with the read of a number in this stage, or without it
abbrev pub with_stage : Entries → ℕ → ReadRequest → Option Stage → Entries
with_stage entries id r (Some stage) = insert_entry nat_cmp entries id (record { request = r; stage = stage })
with_stage entries id r None = remove_entry (is_at (nat_cmp id)) entries

-- the entries after a change of one that was looked up
abbrev pub change_found : Change → Entries → ℕ → Option Read → Entries
change_found change entries id None = entries
change_found change entries id (Some x) = with_stage entries id x.request (after change x.stage)

-- the entries after a change of the read of a number
abbrev pub changed : Change → Entries → ℕ → Entries
changed change entries id = change_found change entries id (entry_at entries id)

-- the entries after a change of several
abbrev pub all_changed : Change → Entries → List ReadRequest → Entries
all_changed change entries [] = entries
all_changed change entries (r ∷ rest) = all_changed change (changed change entries r.id) rest
