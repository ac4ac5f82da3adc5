use Rattle.std.proofs.Common.{◌∙◌, arith}
use Rattle.std.proofs.lemmas.List.{length-drop}
use Rattle.vx_tables.proofs.Numbers.{numbers_step}
use Rattle.vx_tables.proofs.wire.numbers_from.Goals as goal

pub loop-at-preserved : goal.loop-at-preserved
loop-at-preserved c = rw c.in_ok-push.ensures.items (
  numbers_step _ _ _ _ _ _ c.loop-at-test.true c.split_number-number.ensures.number c.split_number-number.ensures.rest ∙ c.loop-at.invariant.0,
  rw c.split_number-number.ensures.rest (omega (arith, length-drop 4 c.loop-at.rest.now, c.loop-at.invariant.1)),
)
