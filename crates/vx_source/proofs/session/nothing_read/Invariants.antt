use Rattle.std.proofs.Common.{◌≡◌, length}
use Rattle.vx_source.specs.Kept.{IsBlank}
use Rattle.vx_source.proofs.session.nothing_read.Given as goal

abbrev pub invariant-loop-s : goal.invariant-loop-s
invariant-loop-s l = record { len : length l.newest.items ≡ l._s; blank : IsBlank l.newest.items }
