use Rattle.std.proofs.Common.{◌≡◌, ◌++◌, take, map}
use Rattle.vx_file.specs.Loading.{range_of}
use Rattle.vx_file.proofs.prepared.add_spans.Given as goal

-- the ranges of the spans in front were added
abbrev pub invariant-loop-span : goal.invariant-loop-span
invariant-loop-span l = l.ranges ≡ l.fn.ranges ++ map range_of (take l.span-index l.spans)
