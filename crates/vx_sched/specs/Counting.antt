-- How many reads a scheduler has in each state.
use Rattle.std.specs.Prelude.{ℕ, ◌+◌, Bool, true, false, [], ◌∷◌, Option, Some, None, if◌then◌else◌}
use Rattle.vx_sched.specs.Reads.{Reads, ranges_in_flight}
use Rattle.vx_sched.specs.Entries.{Entries, polled_in, flies_under}
use Rattle.vx_sched.specs.declared.counts.Counts.{Counts}
use Rattle.vx_sched.specs.declared.counts.Kind.{Kind}
use Rattle.vx_sched.specs.declared.counts.Kind.TheVariants.{IsRegistered, IsPolled, IsFlying, IsResolved, Leads}
use Rattle.vx_sched.specs.Stored.{Read}
use Rattle.vx_sched.specs.declared.read.ReadState.{ReadState}
use Rattle.vx_sched.specs.declared.read.ReadState.TheVariants as state
use Rattle.vx_sched.specs.declared.read.Stage.{Stage}
use Rattle.vx_sched.specs.declared.read.Stage.TheVariants.{Registered, Polled, InFlight, Resolved}

-- whether two states are one
abbrev pub same_state : ReadState → ReadState → Bool
same_state state.Registered state.Registered = true
same_state state.Polled state.Polled = true
same_state state.InFlight state.InFlight = true
same_state state.Resolved state.Resolved = true
same_state _ _ = false

-- how many reads are in a state
abbrev pub count_in : ReadState → Reads → ℕ
count_in which [] = 0
count_in which (x ∷ rest) = (if same_state which x.state then 1 else 0) + count_in which rest

-- how many reads there are in each state, and how many ranges are in flight
abbrev pub counts_of : Reads → Counts
counts_of reads = record {
  registered = count_in state.Registered reads;
  polled = count_in state.Polled reads;
  in_flight = count_in state.InFlight reads;
  resolved = count_in state.Resolved reads;
  ranges = ranges_in_flight reads;
}

-- whether a read in a stage is registered
abbrev pub is_registered : Stage → Bool
is_registered Registered = true
is_registered Polled = false
is_registered (InFlight _ _ _) = false
is_registered Resolved = false

-- whether a read in a stage is in flight
abbrev pub flies : Stage → Bool
flies Registered = false
flies Polled = false
flies (InFlight _ _ _) = true
flies Resolved = false

-- whether a read in a stage is resolved
abbrev pub is_resolved : Stage → Bool
is_resolved Registered = false
is_resolved Polled = false
is_resolved (InFlight _ _ _) = false
is_resolved Resolved = true

-- whether an entry is of a kind
abbrev pub is_of : Kind → ℕ → Stage → Bool
is_of IsRegistered id stage = is_registered stage
is_of IsPolled id stage = polled_in stage
is_of IsFlying id stage = flies stage
is_of IsResolved id stage = is_resolved stage
is_of Leads id stage = flies_under id stage

-- how many entries are of a kind
abbrev pub count_of : Kind → Entries → ℕ
count_of kind [] = 0
count_of kind (e ∷ rest) = (if is_of kind e.1.request.id e.1.stage then 1 else 0) + count_of kind rest

-- whether there is a read of a kind
abbrev pub slot_is : Kind → Option Read → Bool
slot_is kind None = false
slot_is kind (Some x) = is_of kind x.request.id x.stage
