use Rattle.std.proofs.Common.{◌≡◌, ◌++◌, map, drop}
use Rattle.vx_sched.specs.Io.{request_of}
use Rattle.vx_source.proofs.filing.ranges.Given as goal

abbrev pub invariant-loop-span : goal.invariant-loop-span
invariant-loop-span l = l.ranges.items ++ map request_of (drop l.span-index l.spans) ≡ map request_of l.fn.spans
