use Rattle.std.proofs.Common.{◌≡◌, ◌<◌, ℕ, None, length}
use Rattle.vx_source.specs.Kept.{latest_at}
use Rattle.vx_source.proofs.session.forget_reads.Given as goal

abbrev pub invariant-loop-s : goal.invariant-loop-s
invariant-loop-s l = record { len : length l.newest.items ≡ length l.fn.newest.items; blank : (q : ℕ) → q < l.s → latest_at l.newest.items q ≡ None }
