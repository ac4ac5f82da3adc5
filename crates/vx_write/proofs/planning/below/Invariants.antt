use Rattle.std.proofs.Common.{◌≡◌, ◌++◌, drop}
use Rattle.vx_write.specs.Strategies.{below}
use Rattle.vx_write.specs.Rules.{rules_seen}
use Rattle.vx_write.proofs.planning.below.Given as goal

-- the rules so far and those still to come
abbrev pub invariant-loop-at : goal.invariant-loop-at
invariant-loop-at l = rules_seen l.kept.items ++ below l.name (rules_seen (drop l.at l.rules)) ≡ below l.name (rules_seen l.rules)
