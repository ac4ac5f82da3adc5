use Rattle.std.proofs.Common.{◌≡◌, drop}
use Rattle.vx_data.specs.TextsRead.{after}
use Rattle.vx_data.proofs.unquoting.after.Given as goal

-- the front so far is there
abbrev pub invariant-loop-at : goal.invariant-loop-at
invariant-loop-at l = after (drop l.at l.front) (drop l.at l.text) ≡ after l.front l.text
