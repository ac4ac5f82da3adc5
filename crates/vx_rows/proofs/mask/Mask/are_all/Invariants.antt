use Rattle.std.proofs.Common.{◌≡◌, ◌&&◌, drop}
use Rattle.std.specs.List.{list_all}
use Rattle.vx_rows.proofs.mask.Mask.are_all.Given as goal

abbrev pub invariant-loop-row : goal.invariant-loop-row
invariant-loop-row l = (l.all && list_all (λ b. b) (drop l.row l.self)) ≡ list_all (λ b. b) l.self
