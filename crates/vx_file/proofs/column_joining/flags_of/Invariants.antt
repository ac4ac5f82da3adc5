use Rattle.std.proofs.Common.{◌≡◌, ◌++◌, false, drop, map}
use Rattle.std.specs.Prelude.{unwrap_or}
use Rattle.vx_file.proofs.column_joining.flags_of.Given as goal

-- the truth values in front
abbrev pub invariant-loop-row : goal.invariant-loop-row
invariant-loop-row l = l.flags.items ++ map (λ row. unwrap_or row false) (drop l.row l.column.rows) ≡ map (λ row. unwrap_or row false) l.column.rows
