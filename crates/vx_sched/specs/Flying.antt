-- Whether reads are in flight in a span.
use Rattle.std.specs.Prelude.{ℕ, ◌==◌, ◌&&◌, Bool, false, Option, Some, None}
use Rattle.vx_sched.specs.declared.request.ReadRequest.{ReadRequest}
use Rattle.vx_sched.specs.Stored.{Read}
use Rattle.vx_sched.specs.declared.read.Stage.{Stage}
use Rattle.vx_sched.specs.declared.read.Stage.TheVariants.{Registered, Polled, InFlight, Resolved}

-- whether two reads are one
abbrev pub same_read : ReadRequest → ReadRequest → Bool
same_read a b = (a.id == b.id) && (a.offset == b.offset) && (a.length == b.length) && (a.alignment == b.alignment)

-- whether a stage is that of a read of this span in flight
abbrev pub flies_in : ℕ → ℕ → Stage → Bool
flies_in span size Registered = false
flies_in span size Polled = false
flies_in span size (InFlight other count dropped) = (other == span) && (count == size)
flies_in span size Resolved = false

-- whether a read is in flight in this span
abbrev pub flies_so : ℕ → ℕ → ReadRequest → Option Read → Bool
flies_so span size r None = false
flies_so span size r (Some x) = flies_in span size x.stage && same_read x.request r
