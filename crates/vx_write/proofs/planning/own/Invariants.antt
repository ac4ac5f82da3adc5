use Rattle.std.proofs.Common.{◌≡◌, drop}
use Rattle.vx_write.specs.Strategies.{later, own}
use Rattle.vx_write.specs.Rules.{rules_seen}
use Rattle.vx_write.proofs.planning.own.Given as goal

-- the rules so far and those still to come
abbrev pub invariant-loop-at : goal.invariant-loop-at
invariant-loop-at l = later (own (rules_seen (drop l.at l.rules))) l.found ≡ own (rules_seen l.rules)
