use Rattle.std.proofs.Common.{◌≡◌, ◌+◌, ◌<◌, ◌^◌, drop}
use Rattle.vx_rows.specs.ReadValues.{digits_in}
use Rattle.vx_rows.proofs.value_reading.read_digits.Given as goal

-- the digits so far spell the number
abbrev pub invariant-loop-at : goal.invariant-loop-at
invariant-loop-at l = (digits_in l.number (drop l.at l.text) ≡ digits_in l.fn.first l.fn.text) × (l.number < 10 ^ (l.at + 1))
