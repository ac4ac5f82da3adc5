use Rattle.std.proofs.Common.{◌≡◌, ◌++◌, drop}
use Rattle.vx_data.specs.Layout.{numbers_of}
use Rattle.vx_data.proofs.layout_table.numbers.Given as goal

-- the numbers so far and those still to come
abbrev pub invariant-loop-segment : goal.invariant-loop-segment
invariant-loop-segment l = l.numbers.items ++ numbers_of (drop l.segment-index l.segments) ≡ numbers_of l.segments
