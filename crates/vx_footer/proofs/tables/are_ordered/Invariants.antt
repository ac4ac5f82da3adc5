use Rattle.std.proofs.Common.{◌≡◌, drop}
use Rattle.vx_footer.specs.Opening.{rise_from}
use Rattle.vx_footer.proofs.tables.are_ordered.Given as goal

-- those still to come
abbrev pub invariant-loop-at : goal.invariant-loop-at
invariant-loop-at l = rise_from l.least (drop l.at l.specs) ≡ rise_from 0 l.specs
