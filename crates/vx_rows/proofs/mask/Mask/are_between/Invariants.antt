use Rattle.std.proofs.Common.{◌≡◌, true}
use Rattle.vx_rows.proofs.MaskLemmas.{AreValues}
use Rattle.vx_rows.proofs.mask.Mask.are_between.Given as goal

abbrev pub invariant-loop-row : goal.invariant-loop-row
invariant-loop-row l = l.all ≡ true → AreValues l.self l.value l.from l.row
