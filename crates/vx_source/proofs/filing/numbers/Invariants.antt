use Rattle.std.proofs.Common.{◌≡◌, ◌++◌, map, drop}
use Rattle.vx_source.specs.Blocks.{number_of}
use Rattle.vx_source.proofs.filing.numbers.Given as goal

abbrev pub invariant-loop-request : goal.invariant-loop-request
invariant-loop-request l = l.numbers ++ map number_of (drop l.request-index l.requests) ≡ map number_of l.fn.requests
