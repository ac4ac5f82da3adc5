use Rattle.vx_rows.specs.ReadValues.{digits_in}
use Rattle.vx_rows.proofs.DigitLemmas.{digits_done}
use Rattle.vx_rows.proofs.value_reading.read_long.Goals as goal

pub returns : goal.returns
returns c =
    digits_done c.loop-digit.number c.loop-digit.rest.now (digits_in c.args.first c.args.text.now) c.loop-digit.invariant.1 c.in_default.ensures.cases c.loop-digit.invariant.0
