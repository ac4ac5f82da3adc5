-- Rules as code has them: the names that lead to a column, and its strategy.
use Rattle.std.specs.Prelude.{List, map, String, string_bytes, ℕ}
use Rattle.std.specs.Global.{Global}
use Rattle.std.specs.Borrow.{Bor}
use Rattle.vx_write.specs.declared.strategy.LeafStrategy.{LeafStrategy}
use Rattle.vx_write.specs.Strategies.{Rule}

abbrev pub rule_seen : Bor (List (String Global)) × LeafStrategy → Rule
rule_seen r = (map string_bytes r.0.now, r.1)

abbrev pub rules_seen : List (Bor (List (String Global)) × LeafStrategy) → List Rule
rules_seen rules = map rule_seen rules
