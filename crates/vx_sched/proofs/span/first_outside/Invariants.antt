use Rattle.std.proofs.Common.{◌≡◌, drop}
use Rattle.vx_sched.specs.Span.{outside}
use Rattle.vx_sched.proofs.span.first_outside.Given as goal

abbrev pub invariant-loop-read : goal.invariant-loop-read
invariant-loop-read l = outside l.range.start l.range.end (drop l.read-index l.reads) ≡ outside l.range.start l.range.end l.reads
