use Rattle.std.proofs.Common.{◌≡◌, drop}
use Rattle.vx_sched.specs.Merging.{is_in_order_after}
use Rattle.vx_sched.proofs.flying.is_ordered.Given as goal

abbrev pub invariant-loop-read : goal.invariant-loop-read
invariant-loop-read l = is_in_order_after l.last (drop l.read-index l.rest) ≡ is_in_order_after l.initial.last l.rest
