use Rattle.std.proofs.Common.{◌≡◌, ◌++◌, map, drop}
use Rattle.vx_source.specs.Blocks.{filed_bad}
use Rattle.vx_source.specs.declared.span.SpanOutcome.TheVariants.{Bad}
use Rattle.vx_source.proofs.filing.file_bad.Given as goal

abbrev pub invariant-loop-request : goal.invariant-loop-request
invariant-loop-request l = l.filed.items ++ map (filed_bad (Bad l.fault)) (drop l.request-index l.requests) ≡ l.fn.filed.items ++ map (filed_bad (Bad l.fault)) l.requests
