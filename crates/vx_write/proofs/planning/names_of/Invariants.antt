use Rattle.std.proofs.Common.{◌≡◌, ◌++◌, drop}
use Rattle.vx_write.specs.Rules.{rules_seen}
use Rattle.vx_write.proofs.planning.names_of.Given as goal

-- the rules so far and those still to come
abbrev pub invariant-loop-at : goal.invariant-loop-at
invariant-loop-at l = rules_seen l.named.items ++ drop l.at l.rules ≡ l.rules
