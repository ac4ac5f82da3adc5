use Rattle.std.proofs.Common.{◌≡◌, ◌++◌, drop}
use Rattle.vx_sched.specs.Places.{waiting_of}
use Rattle.vx_sched.proofs.places.waiting_of.Given as goal

abbrev pub invariant-loop-place : goal.invariant-loop-place
invariant-loop-place l = l.found.items ++ waiting_of l.reads (drop l.place-index l.places) ≡ waiting_of l.reads l.places
