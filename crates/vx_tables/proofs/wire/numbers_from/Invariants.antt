use Rattle.std.proofs.Common.{◌≡◌, ◌≤◌, ◌*◌, ◌-◌, ◌++◌, length}
use Rattle.vx_tables.specs.Field.{numbers_in}
use Rattle.vx_tables.proofs.wire.numbers_from.Given as goal

-- the numbers so far and those still to come, for which there are bytes
abbrev pub invariant-loop-at : goal.invariant-loop-at
invariant-loop-at l =
    (l.numbers.items ++ numbers_in (l.count - l.at) l.rest ≡ numbers_in l.count l.cells) × ((l.count - l.at) * 4 ≤ length l.rest)
