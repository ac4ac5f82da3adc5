use Rattle.std.proofs.Common.{◌≡◌, ◌++◌, drop}
use Rattle.vx_source.specs.Puts.{puts_of}
use Rattle.vx_source.proofs.putting.puts_of.Given as goal

abbrev pub invariant-loop-one : goal.invariant-loop-one
invariant-loop-one l = l.puts.items ++ puts_of l.requests (drop l.one-index l.filed) ≡ puts_of l.fn.requests l.fn.filed
