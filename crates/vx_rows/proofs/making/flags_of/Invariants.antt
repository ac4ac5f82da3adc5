use Rattle.std.proofs.Common.{◌≡◌, ◌++◌, map, drop, is_some}
use Rattle.vx_rows.proofs.making.flags_of.Given as goal

abbrev pub invariant-loop-value : goal.invariant-loop-value
invariant-loop-value g l = l.flags.items ++ map is_some (drop l.value-index l.values) ≡ map is_some l.values
