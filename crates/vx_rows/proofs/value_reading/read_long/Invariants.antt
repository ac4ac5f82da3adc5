use Rattle.std.proofs.Common.{◌≡◌, ◌<◌, ◌^◌, length}
use Rattle.vx_rows.specs.ReadValues.{digits_in}
use Rattle.vx_rows.proofs.value_reading.read_long.Given as goal

-- the digits so far spell the number
abbrev pub invariant-loop-digit : goal.invariant-loop-digit
invariant-loop-digit l = (digits_in l.number l.rest ≡ digits_in l.fn.first l.fn.text) × (l.number < 2 ^ 64)

abbrev pub decreases-loop-digit : goal.decreases-loop-digit
decreases-loop-digit l = length l.rest
