use Rattle.std.proofs.Common.{◌≡◌, drop, max}
use Rattle.vx_sched.specs.Span.{AllWithin}
use Rattle.vx_sched.specs.Merging.{greatest_end}
use Rattle.vx_sched.proofs.flying.greatest_end_of.Given as goal

abbrev pub invariant-loop-read : goal.invariant-loop-read
invariant-loop-read l = (max l.end (greatest_end (drop l.read-index l.reads)) ≡ greatest_end l.reads) × AllWithin l.range.start l.range.end (drop l.read-index l.reads)
