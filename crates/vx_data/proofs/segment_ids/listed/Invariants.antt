use Rattle.std.proofs.Common.{◌≡◌, ◌++◌, drop}
use Rattle.vx_data.specs.Layout.{numbers_of}
use Rattle.vx_data.proofs.segment_ids.listed.Given as goal

-- the numbers so far and those still to come
abbrev pub invariant-loop-number : goal.invariant-loop-number
invariant-loop-number l = numbers_of l.ids.items ++ drop l.number-index l.numbers ≡ l.numbers
