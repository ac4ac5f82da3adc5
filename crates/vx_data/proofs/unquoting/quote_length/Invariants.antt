use Rattle.std.proofs.Common.{◌≡◌, ◌+◌, drop}
use Rattle.vx_data.specs.TextsRead.{quote_length}
use Rattle.vx_data.proofs.unquoting.quote_length.Given as goal

-- the bytes so far and those still to come
abbrev pub invariant-loop-at : goal.invariant-loop-at
invariant-loop-at l = l.at + quote_length (drop l.at l.text) ≡ quote_length l.text
