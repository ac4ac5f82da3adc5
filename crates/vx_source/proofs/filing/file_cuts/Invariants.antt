use Rattle.std.proofs.Common.{◌≡◌, ◌++◌, map, drop}
use Rattle.vx_source.specs.Blocks.{filed_good}
use Rattle.vx_source.proofs.filing.file_cuts.Given as goal

abbrev pub invariant-loop-index : goal.invariant-loop-index
invariant-loop-index l = l.filed.items ++ map (filed_good l.span l.buffer) (drop l.index l.span.reads) ≡ l.fn.filed.items ++ map (filed_good l.span l.buffer) l.span.reads
