use Rattle.std.proofs.Common.{◌≡◌, ◌++◌, map, drop, unwrap_or, false}
use Rattle.vx_rows.proofs.making.bits_of.Given as goal

abbrev pub invariant-loop-value : goal.invariant-loop-value
invariant-loop-value l = l.bits.items ++ map (λ v. unwrap_or v false) (drop l.value-index l.values) ≡ map (λ v. unwrap_or v false) l.values
